-- What the stage of sizes accepts is a bounded knowledge base.
use Rattle.std.proofs.Common.{◌≡◌, List, [], ◌∷◌, map, Option, None, Some, slice_get, refl}
use Rattle.std.specs.List.{AllByRecursion}
use Rattle.kb_logic.specs.declared.elements.Elem.{Elem}
use Rattle.kb_logic.specs.declared.vocabularies.Vocabulary.{Vocabulary}
use Rattle.kb_logic.specs.Bases.{NamedTerm}
use Rattle.kb_logic.specs.Bounds.{TheoryIsBounded, TermIsBounded}
use Rattle.kb_logic.specs.Trees.{TheoryTree}
use Rattle.stage_definitions.specs.FileBases.{named_term}
use Rattle.stage_definitions.specs.TypedFiles.{TypedTheoryTree, TypedTermTree}
use Rattle.reading_laws.specs.SizeLaws.{AcceptedAreBounded}
use Rattle.base_reader.specs.Groundable.{AcceptedIsBounded}

named_terms : (v : Vocabulary) (domains : List (List Elem)) (bs : List TypedTermTree)
    → AllByRecursion (λ b. TermIsBounded v domains b.term []) bs
    → AllByRecursion (λ (t : NamedTerm). TermIsBounded v domains t.term []) (map named_term bs)
named_terms v domains [] h = tt
named_terms v domains (b ∷ bs) h = (h.0, named_terms v domains bs h.1)

-- what a theory says, where there is one
abbrev said_by : Option TypedTheoryTree → TheoryTree
said_by o = elim o [
  | None ↦ record { sentences = []; definitions = [] }
  | Some t ↦ t.theory
]

theory_if : (v : Vocabulary) (domains : List (List Elem)) (o : Option TypedTheoryTree)
    → ((t : TypedTheoryTree) → o ≡ Some t → TheoryIsBounded v domains t.theory)
    → TheoryIsBounded v domains (said_by o)
theory_if v domains None h = record { sentences = tt; definitions = tt }
theory_if v domains (Some t) h = h t refl

pub accepted_is_bounded : AcceptedAreBounded → AcceptedIsBounded
accepted_is_bounded law named f typed theory known sizes a =
    let both = law named f typed theory known.domains sizes a in
    record {
      theory = theory_if f.vocabulary known.domains (slice_get f.theories theory) both.0;
      terms = named_terms f.vocabulary known.domains f.terms both.1;
    }
