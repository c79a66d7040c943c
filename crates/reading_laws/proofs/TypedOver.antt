-- What the stage of data accepts is well typed over the data's domains.
use Rattle.std.proofs.Common.{◌≡◌, inl, inr, ℕ, zero, suc, ℤ, true, false, List, [], ◌∷◌, ◌++◌, length, map}
use Rattle.std.proofs.Common.{Option, None, Some, option_map, slice_get, refl, sym, ap, subst, ◌∙◌, arith, Contains}
use Rattle.std.specs.Prelude.{zip, option_to_list, IfSome}
use Rattle.std.specs.List.{AllByRecursion, flat_map, list_any}
use Rattle.std.proofs.lemmas.Bool.{true≢false, false_from_ne_true, not-false, or_cases}
use Rattle.std.proofs.lemmas.Bool.Decides.{Decides-int_eq}
use Rattle.std.proofs.lemmas.List.Concat.{flat_map-append}
use Rattle.std.proofs.lemmas.List.Elements.{Contains-append_right}
use Rattle.std.proofs.lemmas.Option.{slice_get-map}
use Rattle.kb_text.specs.declared.fault.K.TheVariants as k
use Rattle.kb_logic.specs.declared.elements.Elem.{Elem}
use Rattle.kb_logic.specs.declared.elements.Elem.TheVariants.{Named, Num}
use Rattle.kb_logic.specs.declared.vocabularies.Vocabulary.{Vocabulary}
use Rattle.kb_logic.specs.Structures.{domain_at}
use Rattle.kb_logic.specs.KnownAtoms.{KnownAtoms}
use Rattle.kb_logic.specs.Typing.{IsNumberType, IsIntegerIn, IsWellTyped, IsTypedOver}
use Rattle.kb_logic.proofs.Members.{first, later, in_all, in_map}
use Rattle.grammar.specs.BlockTrees as raw
use Rattle.kb_logic.specs.Trees.{FormulaTree, RuleTree, DefinitionTree, TheoryTree}
use Rattle.kb_logic.specs.Bases.{NamedTerm}
use Rattle.stage_definitions.specs.FileBases.{theory_at, named_term, base_of_file}
use Rattle.stage_definitions.specs.Earliest.{row}
use Rattle.stage_definitions.specs.Numbering.{NamedTheoryTree, NamedTermTree, NamedFile}
use Rattle.stage_definitions.specs.TermPlaces.{term_begins}
use Rattle.stage_definitions.specs.TheoryItems.{TheoryItem, sentence, rule, items_of}
use Rattle.stage_definitions.specs.TypedTrees.{typed_block_term}
use Rattle.stage_definitions.specs.TypedFiles.{TypedTheoryTree, TypedTermTree, TypedFile, typed_theory, typed_block}
use Rattle.stage_definitions.specs.TypedFiles.{typed_file, theory_begins}
use Rattle.stage_definitions.specs.IntegerArguments.{Placed, Argument, formula_integers, term_integers, item_integers}
use Rattle.stage_definitions.specs.IntegerArguments.{arguments_at}
use Rattle.stage_definitions.specs.Elements.{same_element}
use Rattle.stage_definitions.specs.DataEntries.{said_in}
use Rattle.stage_definitions.specs.DataDomains.{domains_of}
use Rattle.stage_definitions.specs.DataStage.{argument, structure_uses, argument_uses, arguments_of_theory}
use Rattle.stage_definitions.specs.DataStage.{arguments_of_block, chosen_theory, is_foreign, data_causes}
use Rattle.stage_definitions.specs.DataAnswer.{IsDataOf}
use Rattle.reading_laws.specs.DataLaws.{TheoriesHavePlaces, BlocksHavePlaces}
use Rattle.reading_laws.specs.WellTyped.{IsWellTypedNumber, RuleIsTyped, IsWellTypedDefinition, IsDefinitionOver}
use Rattle.reading_laws.specs.WellTyped.{IsWellTypedFile, IsNumberOver, IsTypedBase, AcceptedIsTypedOver}
use Rattle.reading_laws.proofs.Alls.{all_left, all_right}
use Rattle.reading_laws.proofs.Integers.{IsPlacedWell, ArePlacedWell, formula_over, term_over, rule_over}
use Rattle.reading_laws.proofs.Derived.{TheoryIsTyped, derived_is_well_typed}

-- ---- integers that are elements

among : (z : ℤ) (xs : List Elem) → list_any (same_element (Num z)) xs ≡ true → Contains xs (Num z)
among z [] h = absurd (true≢false (sym h))
among z (Named n ∷ xs) h = later (Named n) (Num z) xs (among z xs h)
among z (Num y ∷ xs) h = elim (or_cases (same_element (Num z) (Num y)) (list_any (same_element (Num z)) xs) h) [
  | inl e ↦ subst (λ (u : ℤ). Contains (Num u ∷ xs) (Num z)) ((Decides-int_eq z y).0 e) (first (Num z) xs)
  | inr e ↦ later (Num y) (Num z) xs (among z xs e)
]

-- the argument is an element of its position's type
abbrev IsElement : List (List Elem) → Argument → Type 0
IsElement domains a = IsIntegerIn domains a.ty a.number

is_element : (domains : List (List Elem)) (a : Argument) → is_foreign domains a ≡ false → IsElement domains a
is_element domains a h = among a.number (domain_at domains a.ty)
    (not-false (list_any (same_element (Num a.number)) (domain_at domains a.ty)) h)

-- ---- a file

module _ (v : Vocabulary) (domains : List (List Elem)) where
  -- an integer argument stands where numbers are asked for
  abbrev Asked : ℕ → ℤ → Type 0
  Asked ty z = IsNumberType v ty

  abbrev ArePlaced : List (Option Placed) → Type 0
  ArePlaced os = ArePlacedWell v Asked (IsIntegerIn domains) os

  are_placed : (ps : List ℕ) (os : List (Option Placed)) → length os ≡ length ps
      → AllByRecursion (IsElement domains) (arguments_at ps os) → ArePlaced os
  are_placed ps [] e h = tt
  are_placed [] (o ∷ os) e h = absurd (omega (arith, e))
  are_placed (p ∷ ps) (None ∷ os) e h = (tt, are_placed ps os (omega (arith, e)) h)
  are_placed (p ∷ ps) (Some x ∷ os) e h = (h.0, are_placed ps os (omega (arith, e)) h.1)

  abbrev integers_in : List TheoryItem → List (Option Placed)
  integers_in is = flat_map (item_integers v.symbols) is

  placed_both : (is js : List TheoryItem) → ArePlaced (integers_in (is ++ js)) → ArePlaced (integers_in is)
      × ArePlaced (integers_in js)
  placed_both is js p =
      let well = IsPlacedWell v Asked (IsIntegerIn domains) in
      let parted : ArePlaced (integers_in is ++ integers_in js) = subst ArePlaced
      (flat_map-append (item_integers v.symbols) is js) p in
      (all_left well (integers_in is) (integers_in js) parted, all_right well (integers_in is) (integers_in js) parted)

  sentences_over : (fs : List FormulaTree) → AllByRecursion (λ g. IsWellTyped v g []) fs
      → ArePlaced (integers_in (map (λ f. sentence f) fs)) → AllByRecursion (λ g. IsTypedOver v domains g []) fs
  sentences_over [] h p = tt
  sentences_over (f ∷ fs) h p =
      let well = IsPlacedWell v Asked (IsIntegerIn domains) in
      let own = formula_integers v.symbols f in
      let others = integers_in (map (λ f. sentence f) fs) in (
        formula_over v Asked (IsIntegerIn domains) f [] h.0 (all_left well own others p),
        sentences_over fs h.1 (all_right well own others p),
      )

  rules_over : (rs : List RuleTree) → AllByRecursion (RuleIsTyped v Asked) rs
      → ArePlaced (integers_in (map (λ r. rule r) rs)) → AllByRecursion (RuleIsTyped v (IsIntegerIn domains)) rs
  rules_over [] h p = tt
  rules_over (r ∷ rs) h p =
      let well = IsPlacedWell v Asked (IsIntegerIn domains) in
      let own = item_integers v.symbols (rule r) in
      let others = integers_in (map (λ r. rule r) rs) in (
        rule_over v Asked (IsIntegerIn domains) r h.0 (all_left well own others p),
        rules_over rs h.1 (all_right well own others p),
      )

  abbrev rules_of : DefinitionTree → List TheoryItem
  rules_of d = map (λ r. rule r) d.rules

  definitions_over : (ds : List DefinitionTree) → AllByRecursion (IsWellTypedDefinition v) ds
      → ArePlaced (integers_in (flat_map rules_of ds)) → AllByRecursion (IsDefinitionOver v domains) ds
  definitions_over [] h p = tt
  definitions_over (d ∷ ds) h p =
      let parts = placed_both (rules_of d) (flat_map rules_of ds) p in
      (rules_over d.rules h.0 parts.0, definitions_over ds h.1 parts.1)

  -- a theory is well typed over the domains
  abbrev TheoryIsOver : TheoryTree → Type 0
  TheoryIsOver t =
      AllByRecursion (λ g. IsTypedOver v domains g []) t.sentences
      × AllByRecursion (IsDefinitionOver v domains) t.definitions

  abbrev theory_pair : NamedTheoryTree → TypedTheoryTree × List ℕ
  theory_pair t = (typed_theory v t, theory_begins t)

  theory_over : TheoriesHavePlaces → (t : NamedTheoryTree) → TheoryIsTyped v (typed_theory v t).theory
      → AllByRecursion (IsElement domains) (arguments_of_theory v.symbols (theory_pair t))
      → TheoryIsOver (typed_theory v t).theory
  theory_over places t h p =
      let said = (typed_theory v t).theory in
      let parts = placed_both (map (λ f. sentence f) said.sentences) (flat_map rules_of said.definitions)
      (are_placed (theory_begins t) (integers_in (items_of said)) (places v t) p) in
      (sentences_over said.sentences h.0 parts.0, definitions_over said.definitions h.1 parts.1)

  blocks_over : BlocksHavePlaces → (bs : List NamedTermTree) → AllByRecursion (λ b. IsWellTypedNumber v b.term)
      (map (typed_block v) bs)
      → AllByRecursion (IsElement domains) (flat_map (arguments_of_block v.symbols)
      (zip (map (typed_block v) bs) (map (λ b. term_begins b.term) bs)))
      → AllByRecursion (λ b. IsNumberOver v domains b.term) (map (typed_block v) bs)
  blocks_over places [] h p = tt
  blocks_over places (b ∷ bs) h p =
      let own = arguments_of_block v.symbols (typed_block v b, term_begins b.term) in
      let others = flat_map (arguments_of_block v.symbols) (zip (map (typed_block v) bs)
      (map (λ (c : NamedTermTree). term_begins c.term) bs)) in
      let placed = are_placed (term_begins b.term) (term_integers v.symbols None (typed_block_term v b.term))
      (places v b.term) (all_left (IsElement domains) own others p) in (
        (
          term_over v Asked (IsIntegerIn domains) None
              (typed_block_term v b.term) [] h.0.0 placed,
          h.0.1,
        ),
        blocks_over places bs h.1 (all_right (IsElement domains) own others p),
      )

pairs : {X A B : Type 0} (f : X → A) (g : X → B) (xs : List X) → zip (map f xs) (map g xs) ≡ map (λ x. (f x, g x)) xs
pairs f g [] = refl
pairs f g (x ∷ xs) = ap (λ ps. (f x, g x) ∷ ps) (pairs f g xs)

-- what a theory says, where there is one
abbrev said_by : Option TypedTheoryTree → TheoryTree
said_by o = elim o [
  | None ↦ record { sentences = []; definitions = [] }
  | Some t ↦ t.theory
]

abbrev theory_if : Vocabulary → Option NamedTheoryTree → TheoryTree
theory_if v None = record { sentences = []; definitions = [] }
theory_if v (Some t) = (typed_theory v t).theory

module _ (n : NamedFile) (theory : ℕ) where
  chosen_is : chosen_theory (typed_file n) theory ≡ option_to_list
      (option_map (theory_pair n.vocabulary []) (slice_get n.theories theory))
  chosen_is =
      ap (λ ps. option_to_list (slice_get ps theory)) (pairs (typed_theory n.vocabulary)
      theory_begins n.theories)
      ∙ ap (λ (o : Option (TypedTheoryTree × List ℕ)). option_to_list o)
      (slice_get-map (theory_pair n.vocabulary []) n.theories theory)

  -- the theory with this number, where there is one
  theory_is : theory_at (typed_file n) theory ≡ theory_if n.vocabulary (slice_get n.theories theory)
  theory_is = by (slice_get n.theories theory) refl
    where
      by : (o : Option NamedTheoryTree) → slice_get n.theories theory ≡ o → theory_at (typed_file n) theory
          ≡ theory_if n.vocabulary o
      by None e = ap said_by (slice_get-map (typed_theory n.vocabulary) n.theories theory
          ∙ ap (option_map (typed_theory n.vocabulary)) e)
      by (Some t) e = ap said_by (slice_get-map (typed_theory n.vocabulary) n.theories theory
          ∙ ap (option_map (typed_theory n.vocabulary)) e)

theory_if_over : (v : Vocabulary) (domains : List (List Elem)) → TheoriesHavePlaces → (o : Option NamedTheoryTree)
    → IfSome o (λ t. TheoryIsTyped v (typed_theory v t).theory)
    → AllByRecursion (IsElement domains) (flat_map (arguments_of_theory v.symbols)
    (option_to_list (option_map (theory_pair v domains) o)))
    → TheoryIsOver v domains (theory_if v o)
theory_if_over v domains places None h p = (tt, tt)
theory_if_over v domains places (Some t) h p =
    theory_over v domains places t h (all_left (IsElement domains)
    (arguments_of_theory v.symbols (theory_pair v domains t)) [] p)

well_typed_at : (v : Vocabulary) (ts : List NamedTheoryTree) (theory : ℕ)
    → AllByRecursion (λ t. AllByRecursion (λ g. IsWellTyped v g []) t.theory.sentences) (map (typed_theory v) ts)
    → AllByRecursion (λ t. AllByRecursion (IsWellTypedDefinition v) t.theory.definitions) (map (typed_theory v) ts)
    → IfSome (slice_get ts theory) (λ t. TheoryIsTyped v (typed_theory v t).theory)
well_typed_at v [] theory h g = tt
well_typed_at v (t ∷ ts) zero h g = (h.0, g.0)
well_typed_at v (t ∷ ts) (suc i) h g = well_typed_at v ts i h.1 g.1

named_terms : (v : Vocabulary) (domains : List (List Elem)) (bs : List TypedTermTree)
    → AllByRecursion (λ b. IsNumberOver v domains b.term) bs
    → AllByRecursion (λ (t : NamedTerm). IsNumberOver v domains t.term) (map named_term bs)
named_terms v domains [] h = tt
named_terms v domains (b ∷ bs) h = (h.0, named_terms v domains bs h.1)

not_an_element : Contains data_causes k.NotAnElement
not_an_element = let long : length data_causes ≡ 9 = refl in (4, omega (arith, long), refl)

file_over : TheoriesHavePlaces → BlocksHavePlaces → (n : NamedFile) (theory : ℕ) (s : raw.Structure)
    (answer : KnownAtoms)
    → IsWellTypedFile (typed_file n) → IsDataOf (typed_file n) theory s answer
    → IsTypedBase (base_of_file (typed_file n) theory answer)
file_over places blocks n theory s answer well data_of =
    let v = n.vocabulary in
    let f = typed_file n in
    let es = said_in v s in
    let domains = domains_of v.types es in
    let first_args = flat_map (arguments_of_theory v.symbols) (chosen_theory f theory) in
    let other_args = flat_map (arguments_of_block v.symbols) (zip f.terms f.places.block_terms) in
    let fits : AllByRecursion (IsElement domains) (first_args ++ other_args) =
    in_all (IsElement domains) (first_args ++ other_args) (λ a c. is_element domains a
    (false_from_ne_true (is_foreign domains a) (λ h. data_of.accepted _
    (row (argument a) k.NotAnElement
    (Contains-append_right (structure_uses v.types f.places.types es) (argument_uses f theory) (argument a)
    (in_map (λ (x : Argument). argument x) (first_args ++ other_args) a c))
    not_an_element h)))) in
    let chosen : AllByRecursion (IsElement domains) (flat_map (arguments_of_theory v.symbols)
    (option_to_list (option_map (theory_pair v domains) (slice_get n.theories theory)))) =
    subst (λ ps. AllByRecursion (IsElement domains) (flat_map (arguments_of_theory v.symbols) ps)) (chosen_is n theory)
    (all_left (IsElement domains) first_args other_args fits) in
    let over = theory_if_over v domains places (slice_get n.theories theory)
    (well_typed_at v n.theories theory well.theories well.definitions) chosen in
    subst (λ (known : KnownAtoms). IsTypedBase (base_of_file f theory known)) (sym data_of.given)
    (record {
      sentences = subst (λ (t : TheoryTree). AllByRecursion (λ g. IsTypedOver v domains g []) t.sentences)
          (sym (theory_is n theory)) over.0;
      definitions = subst (λ (t : TheoryTree). AllByRecursion (IsDefinitionOver v domains) t.definitions)
          (sym (theory_is n theory)) over.1;
      terms = named_terms v domains f.terms (blocks_over v domains blocks n.terms well.terms
          (all_right (IsElement domains) first_args other_args fits));
    })

pub accepted_is_typed_over : TheoriesHavePlaces → BlocksHavePlaces → AcceptedIsTypedOver
accepted_is_typed_over places blocks file n typed named_of typed_of theory s answer data_of =
    let well = derived_is_well_typed file n typed named_of typed_of in
    subst (λ (g : TypedFile). IsTypedBase (base_of_file g theory answer)) (sym typed_of.tree)
    (file_over places blocks n theory s answer (subst IsWellTypedFile typed_of.tree well)
    (subst (λ (g : TypedFile). IsDataOf g theory s answer) typed_of.tree data_of))
