-- A file means one knowledge base, or is refused in one way, and never both.
use Rattle.std.proofs.Common.{◌≡◌, ℕ, zero, suc, ◌==◌, ◌||◌, ◌&&◌, nat_lt, List, length, map, refl, sym}
use Rattle.std.proofs.Common.{ap, ◌∙◌, subst, arith, IsTrue, Some, Ok, Err, Result}
use Rattle.std.specs.List.{filter_map, slice_get}
use Rattle.std.proofs.lemmas.Bool.Decides.{nat_tests}
use Rattle.kb_text.specs.Refusals.{number_of}
use Rattle.kb_text.specs.declared.fault.K.{K}
use Rattle.kb_text.specs.declared.fault.K.TheVariants as k
use Rattle.kb_text.specs.declared.fault.KbFault.{KbFault}
use Rattle.kb_logic.specs.Bases.{Base}
use Rattle.kb_logic.specs.KnownAtoms.{KnownAtoms}
use Rattle.grammar.specs.BlockTrees.{Block}
use Rattle.grammar.specs.BlockView.{as_structure}
use Rattle.grammar.specs.FileReads.{KbReads}
use Rattle.stage_definitions.specs.Earliest.{refusal, IsEarliest}
use Rattle.stage_definitions.specs.FileBases.{base_of_file}
use Rattle.stage_definitions.specs.Files.{File}
use Rattle.stage_definitions.specs.FileTrees.{file_of}
use Rattle.stage_definitions.specs.BlocksStage.{block_uses, chosen, header_names, BlocksRefuse}
use Rattle.stage_definitions.specs.NamesStage.{NamesRefuse, declarations_of}
use Rattle.stage_definitions.specs.Numbering.{NamedFile, named_file, vocabulary_name}
use Rattle.stage_definitions.specs.TypesStage.{TypesRefuse}
use Rattle.stage_definitions.specs.TypedFiles.{typed_file}
use Rattle.stage_definitions.specs.DataStage.{StructureRefuses}
use Rattle.stage_definitions.specs.DataEntries.{said_in}
use Rattle.stage_definitions.specs.DataAnswer.{IsDataOf, given_by}
use Rattle.stage_definitions.specs.SizesStage.{SizesRefuse, size_uses}
use Rattle.base_reader.specs.FileMeanings.{Choice, Picked, Meaning, HasBlocks, HasNames, HasTypes, FileMeans, IsRefused}
use Rattle.narrowed_bases.specs.Narrowings.{IsHeavy}
use Rattle.narrowed_bases.proofs.One.{light_or_heavy}
use Rattle.base_reader.specs.FileMeanings.{first_word, structure_name, HasSizes}
use Rattle.base_reader.specs.FileMeanings as refused

-- ---- a stage has one earliest refusal

numbered : ℕ → K
numbered zero = k.Syntax
numbered (suc zero) = k.Syntax
numbered (suc (suc zero)) = k.UnknownName
numbered (suc (suc (suc zero))) = k.Redeclared
numbered (suc (suc (suc (suc zero)))) = k.WrongArity
numbered (suc (suc (suc (suc (suc zero))))) = k.TypeClash
numbered (suc (suc (suc (suc (suc (suc zero)))))) = k.Untyped
numbered (suc (suc (suc (suc (suc (suc (suc zero))))))) = k.TypeNotGiven
numbered (suc (suc (suc (suc (suc (suc (suc (suc zero)))))))) = k.NotAnElement
numbered (suc (suc (suc (suc (suc (suc (suc (suc (suc zero))))))))) = k.DataClash
numbered (suc (suc (suc (suc (suc (suc (suc (suc (suc (suc zero)))))))))) = k.Unsupported
numbered (suc (suc (suc (suc (suc (suc (suc (suc (suc (suc (suc zero))))))))))) = k.Unsupported
numbered (suc (suc (suc (suc (suc (suc (suc (suc (suc (suc (suc (suc zero)))))))))))) = k.BadHead
numbered (suc (suc (suc (suc (suc (suc (suc (suc (suc (suc (suc (suc (suc zero))))))))))))) = k.OutOfRange
numbered (suc (suc (suc (suc (suc (suc (suc (suc (suc (suc (suc (suc (suc (suc zero)))))))))))))) = k.TooLarge
numbered (suc (suc (suc (suc (suc (suc (suc (suc (suc (suc (suc (suc (suc (suc (suc zero))))))))))))))) = k.TooLong
numbered (suc (suc (suc (suc (suc (suc (suc (suc (suc (suc (suc (suc (suc (suc (suc (suc zero)))))))))))))))) =
    k.TooDeep
numbered (suc (suc (suc (suc (suc (suc (suc (suc (suc (suc (suc (suc (suc (suc (suc (suc (suc n))))))))))))))))) =
    k.BlockChoice

back : (cause : K) → numbered (number_of cause) ≡ cause
unfolding numbered
back k.Syntax = refl
back k.UnknownName = refl
back k.Redeclared = refl
back k.WrongArity = refl
back k.TypeClash = refl
back k.Untyped = refl
back k.TypeNotGiven = refl
back k.NotAnElement = refl
back k.DataClash = refl
back k.Unsupported = refl
back k.BadHead = refl
back k.OutOfRange = refl
back k.TooLarge = refl
back k.TooLong = refl
back k.TooDeep = refl
back k.BlockChoice = refl

same_by : (p i q j : ℕ) → (IsTrue (nat_lt p q || ((p == q) && nat_lt i j)) → ⊥)
    → (IsTrue (nat_lt q p || ((q == p) && nat_lt j i)) → ⊥)
    → (p ≡ q) × (i ≡ j)
same_by p i q j first second = (grind (arith, nat_tests), grind (arith, nat_tests))

pub one_earliest : (P : KbFault → Type 0) (q r : KbFault) → IsEarliest P q → IsEarliest P r → q ≡ r
one_earliest P q r h h' =
    let same = same_by q.place (number_of q.cause) r.place (number_of r.cause) (h'.earliest q h.refused)
    (h.earliest r h'.refused) in
    let cause : q.cause ≡ r.cause = sym (back q.cause) ∙ (ap numbered same.1 ∙ back r.cause) in
    λ i. record { cause = cause i; place = same.0 i }

-- ---- each stage has one answer

module _ (one : (src : List ℕ) (r s : Result (List Block) KbFault) → KbReads src r → KbReads src s → r ≡ s) (c : Choice)
    (bytes : List ℕ) where
  abbrev file : List Block → File
  file bs = file_of bs (length bytes)

  blocks_one : (bs bs' : List Block) → KbReads bytes (Ok bs) → KbReads bytes (Ok bs') → bs ≡ bs'
  blocks_one bs bs' h h' = let e = one bytes (Ok bs) (Ok bs') h h' in cc

  theory_one : (bs bs' : List Block) (t s t' s' : ℕ) → HasBlocks c bytes bs t s → HasBlocks c bytes bs' t' s' → t ≡ t'
  theory_one bs bs' t s t' s' h h' =
      let same = blocks_one bs bs' h.read h'.read in
      let e : Some t ≡ Some t' = sym h.picked.theory_chosen
      ∙ (ap (λ (b : List Block). chosen (map (λ t. t.header.name) (file b).theories) c.theory) same
      ∙ h'.picked.theory_chosen) in
      cc

  number_one : (bs bs' : List Block) (t s t' s' : ℕ) → HasBlocks c bytes bs t s → HasBlocks c bytes bs' t' s' → s ≡ s'
  number_one bs bs' t s t' s' h h' =
      let same = blocks_one bs bs' h.read h'.read in
      let e : Some s ≡ Some s' = sym h.picked.structure_chosen
      ∙ (ap (λ (b : List Block). chosen (header_names (file b).structures) c.structure) same
      ∙ h'.picked.structure_chosen) in
      cc

  abbrev named_of : List Block → NamedFile
  named_of bs = named_file (vocabulary_name (file bs).vocabularies) (declarations_of (file bs).vocabularies)
      (file bs).theories (file bs).terms

  named_one : (bs bs' : List Block) (t s t' s' : ℕ) (n n' : NamedFile) → HasNames c bytes bs t s n
      → HasNames c bytes bs' t' s' n' → n ≡ n'
  named_one bs bs' t s t' s' n n' h h' =
      h.is.tree ∙ (ap named_of (blocks_one bs bs' h.has.read h'.has.read) ∙ sym h'.is.tree)

  picked_one : (p p' : Picked) → HasTypes c bytes p → HasTypes c bytes p' → p ≡ p'
  picked_one p p' h h' =
      let b = h.names.has in
      let b' = h'.names.has in
      let typed : p.file ≡ p'.file =
      h.typed.tree
      ∙ (ap typed_file (named_one h.blocks h'.blocks p.theory h.number p'.theory h'.number h.named h'.named h.names
      h'.names) ∙ sym h'.typed.tree) in
      let theory = theory_one h.blocks h'.blocks p.theory h.number p'.theory h'.number b b' in
      let there : slice_get (filter_map as_structure h.blocks) h.number
      ≡ slice_get (filter_map as_structure h'.blocks) h'.number =
      ap (λ (bs : List Block). slice_get (filter_map as_structure bs) h.number)
      (blocks_one h.blocks h'.blocks b.read b'.read)
      ∙ ap (slice_get (filter_map as_structure h'.blocks))
      (number_one h.blocks h'.blocks p.theory h.number p'.theory h'.number b b') in
      let some : Some p.structure ≡ Some p'.structure = sym h.structure ∙ (there ∙ h'.structure) in
      let structure : p.structure ≡ p'.structure = cc in
      λ i. record { file = typed i; theory = theory i; structure = structure i }

  -- a structure makes one thing known
  known_one : (p p' : Picked) (m m' : KnownAtoms) → p ≡ p' → IsDataOf p.file p.theory p.structure m
      → IsDataOf p'.file p'.theory p'.structure m' → m ≡ m'
  known_one p p' m m' same h h' =
      h.given ∙ (ap (λ (x : Picked). given_by x.file.vocabulary (said_in x.file.vocabulary x.structure)) same
      ∙ sym h'.given)

  abbrev picked_in : (m : Meaning) → FileMeans c bytes m → Picked
  picked_in m h = record { file = m.file; theory = m.theory; structure = h.structure }

  pub meaning_one : (m n : Meaning) → FileMeans c bytes m → FileMeans c bytes n → m ≡ n
  meaning_one m n h h' =
      let same = picked_one (picked_in m h) (picked_in n h') h.typed h'.typed in
      let known = known_one (picked_in m h) (picked_in n h') m.known n.known same h.given h'.given in
      let name : m.structure ≡ n.structure = h.name
      ∙ (ap (λ (x : Picked). structure_name x.structure) same ∙ sym h'.name) in
      λ i. record { file = (same i).file; theory = (same i).theory; structure = name i; known = known i }

  -- ---- a stage that refuses does not accept

  text_clash : {A : Type 0} (q : KbFault) (bs : List Block) → KbReads bytes (Err q) → KbReads bytes (Ok bs) → A
  text_clash q bs h h' = let e = one bytes (Err q) (Ok bs) h h' in absurd (cc)

  abbrev BlocksFail : List Block → KbFault → Type 0
  BlocksFail bs = IsEarliest (BlocksRefuse (block_uses (file bs) c.theory c.structure))

  blocks_clash : {A : Type 0} (bs bs' : List Block) (t s : ℕ) (q : KbFault) → KbReads bytes (Ok bs) → BlocksFail bs q
      → HasBlocks c bytes bs' t s → A
  blocks_clash bs bs' t s q read fails h =
      absurd (h.picked.accepted q (subst (λ (b : List Block). BlocksRefuse (block_uses (file b) c.theory c.structure) q)
      (blocks_one bs bs' read h.read) fails.refused))

  names_clash : {A : Type 0} (bs bs' : List Block) (t s t' s' : ℕ) (n : NamedFile) (q : KbFault)
      → HasBlocks c bytes bs t s
      → IsEarliest (NamesRefuse (file bs)) q → HasNames c bytes bs' t' s' n → A
  names_clash bs bs' t s t' s' n q h fails h' =
      absurd (h'.is.accepted q
      (subst (λ (b : List Block). NamesRefuse (file b) q) (blocks_one bs bs' h.read h'.has.read) fails.refused))

  types_clash : {A : Type 0} (bs : List Block) (t s : ℕ) (n : NamedFile) (p : Picked) (q : KbFault)
      → HasNames c bytes bs t s n
      → IsEarliest (TypesRefuse n) q → HasTypes c bytes p → A
  types_clash bs t s n p q h fails h' =
      absurd (h'.typed.accepted q
      (subst (λ (x : NamedFile). TypesRefuse x q)
      (named_one bs h'.blocks t s p.theory h'.number n h'.named h h'.names) fails.refused))

  entries_clash : {A : Type 0} (p p' : Picked) (m : KnownAtoms) (q : KbFault) → HasTypes c bytes p
      → IsEarliest (StructureRefuses p.file p.theory p.structure) q → HasTypes c bytes p'
      → IsDataOf p'.file p'.theory p'.structure m → A
  entries_clash p p' m q h fails h' is =
      absurd (is.accepted q (subst (λ (x : Picked). StructureRefuses x.file x.theory x.structure q)
      (picked_one p p' h h') fails.refused))

  abbrev SizesFail : Picked → KnownAtoms → KbFault → Type 0
  SizesFail p m = SizesRefuse (size_uses p.file p.theory m.domains)

  sizes_same : (p p' : Picked) (m m' : KnownAtoms) (q : KbFault) → p ≡ p' → m ≡ m' → SizesFail p m q → SizesFail p' m' q
  sizes_same p p' m m' q same known h =
      subst (λ (x : KnownAtoms). SizesFail p' x q) known (subst (λ (x : Picked). SizesFail x m q) same h)

  sizes_clash : {A : Type 0} (p p' : Picked) (m m' : KnownAtoms) (q : KbFault) → HasTypes c bytes p
      → HasTypes c bytes p' → IsDataOf p.file p.theory p.structure m → IsDataOf p'.file p'.theory p'.structure m'
      → IsEarliest (SizesFail p m) q → HasSizes p'.file p'.theory m' → A
  sizes_clash p p' m m' q h h' is is' fails sized =
      let same = picked_one p p' h h' in
      absurd (sized q (sizes_same p p' m m' q same (known_one p p' m m' same is is') fails.refused))

  base_same : (p p' : Picked) (m m' : KnownAtoms) → p ≡ p' → m ≡ m'
      → base_of_file p.file p.theory m ≡ base_of_file p'.file p'.theory m'
  base_same p p' m m' same known =
      ap (λ (x : Picked). base_of_file x.file x.theory m) same
      ∙ ap (λ (x : KnownAtoms). base_of_file p'.file p'.theory x) known

  -- ---- a refused file means nothing

  pub never_both : (m : Meaning) (q : KbFault) → FileMeans c bytes m → IsRefused c bytes q → ⊥
  never_both m q h (refused.text r read) = text_clash r h.typed.blocks read h.typed.names.has.read
  never_both m q h (refused.blocks bs r read fails) =
      blocks_clash bs h.typed.blocks m.theory h.typed.number r read fails h.typed.names.has
  never_both m q h (refused.names bs t s r has fails) =
      names_clash bs h.typed.blocks t s m.theory h.typed.number h.typed.named r has fails h.typed.names
  never_both m q h (refused.types bs t s n r has fails) = types_clash bs t s n (picked_in m h) r has fails h.typed
  never_both m q h (refused.entries p r has fails) = entries_clash p (picked_in m h) m.known r has fails h.typed h.given
  never_both m q h (refused.sizes p known r has is fails) =
      let same = picked_one p (picked_in m h) has h.typed in
      h.sized r (sizes_same p (picked_in m h) known m.known r same
      (known_one p (picked_in m h) known m.known same is h.given) fails.refused)
  never_both m q h (refused.left_open p known r has is sized heavy) =
      let same = picked_one p (picked_in m h) has h.typed in
      light_or_heavy (base_of_file m.file m.theory m.known) h.light
      (subst (λ (b : Base). IsHeavy b) (base_same p (picked_in m h) known m.known same
      (known_one p (picked_in m h) known m.known same is h.given)) heavy.0)

  -- ---- and has one refusal

  under : (P Q : KbFault → Type 0) → ((q : KbFault) → P q → Q q) → ((q : KbFault) → Q q → P q) → (q r : KbFault)
      → IsEarliest P q → IsEarliest Q r → q ≡ r
  under P Q on back' q r h h' =
      one_earliest Q q r (record { refused = on q h.refused; earliest = λ s t. h.earliest s (back' s t) }) h'

  pub refusal_one : (q r : KbFault) → IsRefused c bytes q → IsRefused c bytes r → q ≡ r
  refusal_one q r (refused.text q' a) (refused.text r' b) = let e = one bytes (Err q) (Err r) a b in cc
  refusal_one q r (refused.text q' a) (refused.blocks bs r' b fails) = text_clash q bs a b
  refusal_one q r (refused.text q' a) (refused.names bs t s r' b fails) = text_clash q bs a b.read
  refusal_one q r (refused.text q' a) (refused.types bs t s n r' b fails) = text_clash q bs a b.has.read
  refusal_one q r (refused.text q' a) (refused.entries p r' b fails) = text_clash q b.blocks a b.names.has.read
  refusal_one q r (refused.text q' a) (refused.sizes p m r' b is fails) = text_clash q b.blocks a b.names.has.read
  refusal_one q r (refused.text q' a) (refused.left_open p m r' b is sized heavy) =
      text_clash q b.blocks a b.names.has.read
  refusal_one q r (refused.blocks bs q' a fails) (refused.text r' b) = text_clash r bs b a
  refusal_one q r (refused.blocks bs q' a fails) (refused.blocks bs' r' b fails') =
      one_earliest _ q r (subst (λ (x : List Block). BlocksFail x q) (blocks_one bs bs' a b) fails) fails'
  refusal_one q r (refused.blocks bs q' a fails) (refused.names bs' t s r' b fails') =
      blocks_clash bs bs' t s q a fails b
  refusal_one q r (refused.blocks bs q' a fails) (refused.types bs' t s n r' b fails') =
      blocks_clash bs bs' t s q a fails b.has
  refusal_one q r (refused.blocks bs q' a fails) (refused.entries p r' b fails') =
      blocks_clash bs b.blocks p.theory b.number q a fails b.names.has
  refusal_one q r (refused.blocks bs q' a fails) (refused.sizes p m r' b is fails') =
      blocks_clash bs b.blocks p.theory b.number q a fails b.names.has
  refusal_one q r (refused.blocks bs q' a fails) (refused.left_open p m r' b is sized heavy) =
      blocks_clash bs b.blocks p.theory b.number q a fails b.names.has
  refusal_one q r (refused.names bs t s q' a fails) (refused.text r' b) = text_clash r bs b a.read
  refusal_one q r (refused.names bs t s q' a fails) (refused.blocks bs' r' b fails') =
      blocks_clash bs' bs t s r b fails' a
  refusal_one q r (refused.names bs t s q' a fails) (refused.names bs' t' s' r' b fails') =
      one_earliest _ q r (subst (λ (x : List Block). IsEarliest (NamesRefuse (file x)) q)
      (blocks_one bs bs' a.read b.read) fails) fails'
  refusal_one q r (refused.names bs t s q' a fails) (refused.types bs' t' s' n r' b fails') =
      names_clash bs bs' t s t' s' n q a fails b
  refusal_one q r (refused.names bs t s q' a fails) (refused.entries p r' b fails') =
      names_clash bs b.blocks t s p.theory b.number b.named q a fails b.names
  refusal_one q r (refused.names bs t s q' a fails) (refused.sizes p m r' b is fails') =
      names_clash bs b.blocks t s p.theory b.number b.named q a fails b.names
  refusal_one q r (refused.names bs t s q' a fails) (refused.left_open p m r' b is sized heavy) =
      names_clash bs b.blocks t s p.theory b.number b.named q a fails b.names
  refusal_one q r (refused.types bs t s n q' a fails) (refused.text r' b) = text_clash r bs b a.has.read
  refusal_one q r (refused.types bs t s n q' a fails) (refused.blocks bs' r' b fails') =
      blocks_clash bs' bs t s r b fails' a.has
  refusal_one q r (refused.types bs t s n q' a fails) (refused.names bs' t' s' r' b fails') =
      names_clash bs' bs t' s' t s n r b fails' a
  refusal_one q r (refused.types bs t s n q' a fails) (refused.types bs' t' s' n' r' b fails') =
      one_earliest _ q r (subst (λ (x : NamedFile). IsEarliest (TypesRefuse x) q) (named_one bs bs' t s t' s' n n' a b)
      fails) fails'
  refusal_one q r (refused.types bs t s n q' a fails) (refused.entries p r' b fails') =
      types_clash bs t s n p q a fails b
  refusal_one q r (refused.types bs t s n q' a fails) (refused.sizes p m r' b is fails') =
      types_clash bs t s n p q a fails b
  refusal_one q r (refused.types bs t s n q' a fails) (refused.left_open p m r' b is sized heavy) =
      types_clash bs t s n p q a fails b
  refusal_one q r (refused.entries p q' a fails) (refused.text r' b) = text_clash r a.blocks b a.names.has.read
  refusal_one q r (refused.entries p q' a fails) (refused.blocks bs r' b fails') =
      blocks_clash bs a.blocks p.theory a.number r b fails' a.names.has
  refusal_one q r (refused.entries p q' a fails) (refused.names bs t s r' b fails') =
      names_clash bs a.blocks t s p.theory a.number a.named r b fails' a.names
  refusal_one q r (refused.entries p q' a fails) (refused.types bs t s n r' b fails') =
      types_clash bs t s n p r b fails' a
  refusal_one q r (refused.entries p q' a fails) (refused.entries p' r' b fails') =
      one_earliest _ q r (subst (λ (x : Picked). IsEarliest (StructureRefuses x.file x.theory x.structure) q)
      (picked_one p p' a b) fails) fails'
  refusal_one q r (refused.entries p q' a fails) (refused.sizes p' m r' b is fails') =
      entries_clash p p' m q a fails b is
  refusal_one q r (refused.entries p q' a fails) (refused.left_open p' m r' b is sized heavy) =
      entries_clash p p' m q a fails b is
  refusal_one q r (refused.sizes p m q' a is fails) (refused.text r' b) = text_clash r a.blocks b a.names.has.read
  refusal_one q r (refused.sizes p m q' a is fails) (refused.blocks bs r' b fails') =
      blocks_clash bs a.blocks p.theory a.number r b fails' a.names.has
  refusal_one q r (refused.sizes p m q' a is fails) (refused.names bs t s r' b fails') =
      names_clash bs a.blocks t s p.theory a.number a.named r b fails' a.names
  refusal_one q r (refused.sizes p m q' a is fails) (refused.types bs t s n r' b fails') =
      types_clash bs t s n p r b fails' a
  refusal_one q r (refused.sizes p m q' a is fails) (refused.entries p' r' b fails') =
      entries_clash p' p m r b fails' a is
  refusal_one q r (refused.sizes p m q' a is fails) (refused.sizes p' m' r' b is' fails') =
      let same = picked_one p p' a b in
      let known = known_one p p' m m' same is is' in
      under (SizesFail p m) (SizesFail p' m') (λ x. sizes_same p p' m m' x same known)
      (λ x. sizes_same p' p m' m x (sym same) (sym known)) q r fails fails'
  refusal_one q r (refused.sizes p m q' a is fails) (refused.left_open p' m' r' b is' sized heavy) =
      sizes_clash p p' m m' q a b is is' fails sized
  refusal_one q r (refused.left_open p m q' a is sized heavy) (refused.text r' b) =
      text_clash r a.blocks b a.names.has.read
  refusal_one q r (refused.left_open p m q' a is sized heavy) (refused.blocks bs r' b fails') =
      blocks_clash bs a.blocks p.theory a.number r b fails' a.names.has
  refusal_one q r (refused.left_open p m q' a is sized heavy) (refused.names bs t s r' b fails') =
      names_clash bs a.blocks t s p.theory a.number a.named r b fails' a.names
  refusal_one q r (refused.left_open p m q' a is sized heavy) (refused.types bs t s n r' b fails') =
      types_clash bs t s n p r b fails' a
  refusal_one q r (refused.left_open p m q' a is sized heavy) (refused.entries p' r' b fails') =
      entries_clash p' p m r b fails' a is
  refusal_one q r (refused.left_open p m q' a is sized heavy) (refused.sizes p' m' r' b is' fails') =
      sizes_clash p' p m' m r b a is' is fails' sized
  refusal_one q r (refused.left_open p m q' a is sized heavy) (refused.left_open p' m' r' b is' sized' heavy') =
      heavy.1 ∙ ap (λ (x : Picked). refusal k.TooLarge (first_word x.file x.theory)) (picked_one p p' a b)
      ∙ sym heavy'.1
