-- Laws of the stage of sizes.
use Rattle.std.specs.Prelude.{ℕ, ◌≡◌, ◌↔◌, true, List, [], length, Some, slice_get}
use Rattle.std.specs.List.{list_all, flat_map, AllByRecursion}
use Rattle.kb_logic.specs.declared.elements.Elem.{Elem}
use Rattle.kb_logic.specs.declared.vocabularies.Vocabulary.{Vocabulary}
use Rattle.kb_logic.specs.Trees.{TermTree, FormulaTree}
use Rattle.kb_logic.specs.Structures.{tuples_of}
use Rattle.kb_logic.specs.Bounds.{IsBounded, TermIsBounded, TheoryIsBounded}
use Rattle.stage_definitions.specs.NamedTrees.{NamedTerm}
use Rattle.stage_definitions.specs.Numbering.{NamedTheoryTree, NamedFile}
use Rattle.stage_definitions.specs.TermPlaces.{term_begins}
use Rattle.stage_definitions.specs.TheoryItems.{items_of}
use Rattle.stage_definitions.specs.TypedTrees.{typed_block_term}
use Rattle.stage_definitions.specs.TypedFiles.{TypedTheoryTree, TypedFile, typed_theory, theory_begins}
use Rattle.stage_definitions.specs.TypesStage.{IsTyped}
use Rattle.stage_definitions.specs.Sizes.{size_product, is_small, formula_bounds, term_bounds, item_bounds}
use Rattle.stage_definitions.specs.SizesStage.{Sizes, AreSizesOf}

-- the product of the sizes of domains counts their tuples
abbrev pub ProductCountsTuples : Type 0
ProductCountsTuples = (domains : List (List Elem)) (types : List ℕ) → length (tuples_of domains types)
    ≡ size_product domains types

-- there are bounds for each place of a term in a theory
abbrev pub TheoriesHaveBounds : Type 0
TheoriesHaveBounds =
    (v : Vocabulary) (domains : List (List Elem)) (t : NamedTheoryTree)
    → length (flat_map (item_bounds v domains) (items_of (typed_theory v t).theory)) ≡ length (theory_begins t)

-- and for each in a term block
abbrev pub BlocksHaveBounds : Type 0
BlocksHaveBounds =
    (v : Vocabulary) (domains : List (List Elem)) (t : NamedTerm)
    → length (term_bounds v domains (typed_block_term v t) []) ≡ length (term_begins t)

-- these bounds are small exactly where the formula's terms are bounded: what is clamped is refused in any case
abbrev pub SmallIsBounded : Type 0
SmallIsBounded =
    (v : Vocabulary) (domains : List (List Elem)) (f : FormulaTree) (scope : List ℕ)
    → list_all (list_all is_small) (formula_bounds v domains f scope) ≡ true ↔ IsBounded v domains f scope

-- and so is a term
abbrev pub SmallTermIsBounded : Type 0
SmallTermIsBounded =
    (v : Vocabulary) (domains : List (List Elem)) (t : TermTree) (scope : List ℕ)
    → list_all (list_all is_small) (term_bounds v domains t scope) ≡ true ↔ TermIsBounded v domains t scope

-- what the stage of sizes accepts is bounded: the chosen theory, and the term of each term block
abbrev pub AcceptedAreBounded : Type 0
AcceptedAreBounded =
    (named : NamedFile) (f : TypedFile) → IsTyped named f → (theory : ℕ) (domains : List (List Elem)) (answer : Sizes)
    → AreSizesOf f theory domains answer
    → ((t : TypedTheoryTree) → slice_get f.theories theory ≡ Some t → TheoryIsBounded f.vocabulary domains t.theory)
    × AllByRecursion (λ b. TermIsBounded f.vocabulary domains b.term []) f.terms
