-- The rows of the stage of blocks, by constructors and by causes; and what follows where none refuses.
use Rattle.std.proofs.Common.{◌≡◌, ℕ, false, IsTrue, is_none, unwrap_or, List, [], ◌∷◌, ◌++◌, Option, None, Some}
use Rattle.std.proofs.Common.{length, map, fold, refl, ap, Contains}
use Rattle.std.specs.List.{flat_map}
use Rattle.std.proofs.lemmas.List.Elements.{Contains-append_left, Contains-append_right}
use Rattle.kb_text.specs.declared.fault.K.TheVariants as k
use Rattle.kb_text.specs.declared.fault.KbFault.{KbFault}
use Rattle.stage_definitions.specs.BlocksStage.{BlockUse, one_of, wanted, BlocksRefuse, unknown_name, redeclared}
use Rattle.stage_definitions.specs.BlocksStage.{block_choice, is_refused, is_choiceless, place_of_block, block_causes}
use Rattle.stage_definitions.specs.BlocksStage.{block_noted, block_uses, chosen, header_names, headers_of, one_of_each}
use Rattle.stage_definitions.specs.BlocksStage.{one_unless_named, uses_of_header, IsPicked}
use Rattle.stage_definitions.specs.Earliest.{refusal, IsEarliest, IsRowOf, row}
use Rattle.stage_definitions.specs.Files.{File, TheoryBlock, VocabularyBlock, Header}
use Rattle.stage_definitions.specs.Scopes.{Text}
use Rattle.stage_definitions.proofs.EarliestLaws.{contains_head, contains_tail, nothing_noted, earliest_noted}
use Rattle.stage_definitions.proofs.EarliestLaws.{earliest_of_same}

abbrev Row : List BlockUse → KbFault → Type 0
Row us = IsRowOf is_refused place_of_block block_causes us

no_row : {Q : Type 0} → IsTrue false → Q
no_row h = absurd (let n : ⊥ = cc in n)

to_rows : (us : List BlockUse) (q : KbFault) → Row us q → BlocksRefuse us q
to_rows us _ (row u k.Syntax there among holds) = no_row holds
to_rows us _ (row u k.UnknownName there among holds) = unknown_name u there holds
to_rows us _ (row u k.Redeclared there among holds) = redeclared u there holds
to_rows us _ (row u k.WrongArity there among holds) = no_row holds
to_rows us _ (row u k.TypeClash there among holds) = no_row holds
to_rows us _ (row u k.Untyped there among holds) = no_row holds
to_rows us _ (row u k.TypeNotGiven there among holds) = no_row holds
to_rows us _ (row u k.NotAnElement there among holds) = no_row holds
to_rows us _ (row u k.DataClash there among holds) = no_row holds
to_rows us _ (row u k.Unsupported there among holds) = no_row holds
to_rows us _ (row u k.BadHead there among holds) = no_row holds
to_rows us _ (row u k.OutOfRange there among holds) = no_row holds
to_rows us _ (row u k.TooLarge there among holds) = no_row holds
to_rows us _ (row u k.TooLong there among holds) = no_row holds
to_rows us _ (row u k.TooDeep there among holds) = no_row holds
to_rows us _ (row u k.BlockChoice there among holds) = block_choice u there holds

first : Contains block_causes k.UnknownName
first = contains_head k.UnknownName (k.Redeclared ∷ k.BlockChoice ∷ []) k.UnknownName refl

second : Contains block_causes k.Redeclared
second = contains_tail k.UnknownName (k.Redeclared ∷ k.BlockChoice ∷ []) k.Redeclared
    (contains_head k.Redeclared (k.BlockChoice ∷ []) k.Redeclared refl)

third : Contains block_causes k.BlockChoice
third =
    contains_tail k.UnknownName (k.Redeclared ∷ k.BlockChoice ∷ []) k.BlockChoice
    (contains_tail k.Redeclared (k.BlockChoice ∷ []) k.BlockChoice (contains_head k.BlockChoice [] k.BlockChoice refl))

from_rows : (us : List BlockUse) (q : KbFault) → BlocksRefuse us q → Row us q
from_rows us _ (unknown_name u there holds) = row u k.UnknownName there first holds
from_rows us _ (redeclared u there holds) = row u k.Redeclared there second holds
from_rows us _ (block_choice u there holds) = row u k.BlockChoice there third holds

-- where nothing was noted nothing is refused
nothing_refused : (us : List BlockUse) → fold block_noted None us ≡ None → (q : KbFault) → BlocksRefuse us q → ⊥
nothing_refused us e q h = nothing_noted is_refused place_of_block block_causes us e q (from_rows us q h)

-- what was noted is the earliest refusal
pub earliest_refused : (us : List BlockUse) (r : KbFault) → fold block_noted None us ≡ Some r
    → IsEarliest (BlocksRefuse us) r
earliest_refused us r e =
    earliest_of_same (Row us) (BlocksRefuse us) r (to_rows us) (from_rows us)
    (earliest_noted is_refused place_of_block block_causes us r e)

-- ---- where nothing is refused each block is there

chosen_by : (o : Option ℕ) (n : ℕ) → (IsTrue (is_none o) → ⊥) → n ≡ unwrap_or o 0 → o ≡ Some n
chosen_by None n never e = absurd (never refl)
chosen_by (Some m) n never e = let same : n ≡ m = e in ap Some (cc)

one_by : (vs : List VocabularyBlock) → ((u : BlockUse) → Contains
    (one_of_each 0 (map (λ (v : VocabularyBlock). v.place) vs)) u → IsTrue (is_choiceless u) → ⊥)
    → (IsTrue (is_none (chosen (map (λ (v : VocabularyBlock). v.name) vs) None)) → ⊥) → length vs ≡ 1
one_by [] many none = absurd (none refl)
one_by (v ∷ []) many none = refl
one_by (v ∷ (w ∷ vs)) many none =
    let rest : List BlockUse = one_of_each 2 (map (λ (v : VocabularyBlock). v.place) vs) in
    absurd (many (one_of 1 w.place) (contains_tail (one_of 0 v.place) (one_of 1 w.place ∷ rest) (one_of 1 w.place)
    (contains_head (one_of 1 w.place) rest (one_of 1 w.place) refl)) refl)

module _ (f : File) (theory structure : Option Text) (accepted : (q : KbFault)
    → BlocksRefuse (block_uses f theory structure) q → ⊥) where
  abbrev at_end : List BlockUse
  at_end =
      wanted (map (λ (v : VocabularyBlock). v.name) f.vocabularies) None f.end
      ∷ wanted (map (λ (t : TheoryBlock). t.header.name) f.theories) theory f.end
      ∷ wanted (header_names f.structures) structure f.end ∷ []

  abbrev of_structures : List BlockUse
  of_structures = one_unless_named structure (map (λ (h : Header). h.place) f.structures)

  abbrev of_theories : List BlockUse
  of_theories = one_unless_named theory (map (λ (t : TheoryBlock). t.header.place) f.theories)

  abbrev of_vocabularies : List BlockUse
  of_vocabularies = one_of_each 0 (map (λ (v : VocabularyBlock). v.place) f.vocabularies)

  abbrev of_headers : List BlockUse
  of_headers = flat_map (uses_of_header f) (headers_of f)

  in_vocabularies : (u : BlockUse) → Contains of_vocabularies u → Contains (block_uses f theory structure) u
  in_vocabularies u there =
      Contains-append_right of_headers (of_vocabularies ++ (of_theories ++ (of_structures ++ at_end))) u
      (Contains-append_left of_vocabularies (of_theories ++ (of_structures ++ at_end)) u there)

  in_end : (u : BlockUse) → Contains at_end u → Contains (block_uses f theory structure) u
  in_end u there =
      Contains-append_right of_headers (of_vocabularies ++ (of_theories ++ (of_structures ++ at_end))) u
      (Contains-append_right of_vocabularies (of_theories ++ (of_structures ++ at_end)) u
      (Contains-append_right of_theories (of_structures ++ at_end) u
      (Contains-append_right of_structures at_end u there)))

  never : (u : BlockUse) → Contains (block_uses f theory structure) u → IsTrue (is_choiceless u) → ⊥
  never u there holds = accepted (refusal k.BlockChoice (place_of_block u)) (block_choice u there holds)

  abbrev no_vocabulary : BlockUse
  no_vocabulary = wanted (map (λ (v : VocabularyBlock). v.name) f.vocabularies) None f.end

  abbrev no_theory : BlockUse
  no_theory = wanted (map (λ (t : TheoryBlock). t.header.name) f.theories) theory f.end

  abbrev no_structure : BlockUse
  no_structure = wanted (header_names f.structures) structure f.end

  picked : (n m : ℕ) → n ≡ unwrap_or (chosen (map (λ (t : TheoryBlock). t.header.name) f.theories) theory) 0
      → m ≡ unwrap_or (chosen (header_names f.structures) structure) 0 → IsPicked f theory structure n m
  picked n m e g = record {
    accepted = accepted;
    one_vocabulary = one_by f.vocabularies (λ u there holds. never u (in_vocabularies u there) holds)
        (λ holds. never no_vocabulary (in_end no_vocabulary (contains_head no_vocabulary (no_theory ∷ no_structure ∷ [])
        no_vocabulary refl)) holds);
    theory_chosen = chosen_by (chosen (map (λ (t : TheoryBlock). t.header.name) f.theories) theory) n
        (λ holds. never no_theory (in_end no_theory (contains_tail no_vocabulary (no_theory ∷ no_structure ∷ [])
        no_theory (contains_head no_theory (no_structure ∷ []) no_theory refl))) holds) e;
    structure_chosen = chosen_by (chosen (header_names f.structures) structure) m
        (λ holds. never no_structure (in_end no_structure (contains_tail no_vocabulary
        (no_theory ∷ no_structure ∷ []) no_structure
        (contains_tail no_theory (no_structure ∷ []) no_structure (contains_head no_structure [] no_structure refl))))
        holds) g;
  }

pub picked_blocks : (f : File) (theory structure : Option Text) (n m : ℕ)
    → fold block_noted None (block_uses f theory structure) ≡ None
    → n ≡ unwrap_or (chosen (map (λ (t : TheoryBlock). t.header.name) f.theories) theory) 0
    → m ≡ unwrap_or (chosen (header_names f.structures) structure) 0 → IsPicked f theory structure n m
picked_blocks f theory structure n m e g h = picked f theory structure
    (nothing_refused (block_uses f theory structure) e) n m g h
