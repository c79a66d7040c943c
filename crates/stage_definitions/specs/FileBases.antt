-- The knowledge base that a file and its data are.
use Rattle.std.specs.Prelude.{ℕ, [], map, Some, None, slice_get}
use Rattle.kb_logic.specs.Trees.{TheoryTree}
use Rattle.kb_logic.specs.KnownAtoms.{KnownAtoms}
use Rattle.kb_logic.specs.Bases.{Base, NamedTerm}
use Rattle.stage_definitions.specs.TypedFiles.{TypedTermTree, TypedFile}

-- what the theory with this number says; where there is none, nothing is said
abbrev pub theory_at : TypedFile → ℕ → TheoryTree
theory_at f theory = elim (slice_get f.theories theory) [
  | None ↦ record { sentences = []; definitions = [] }
  | Some t ↦ t.theory
]

-- a term block as a term that may be asked for
abbrev pub named_term : TypedTermTree → NamedTerm
named_term t = record { name = t.name; term = t.term }

-- the knowledge base of a file's vocabulary and term blocks, of its theory with this number, and of what the data make
-- known
abbrev pub base_of_file : TypedFile → ℕ → KnownAtoms → Base
base_of_file f theory known = record {
  vocabulary = f.vocabulary;
  known = known;
  theory = theory_at f theory;
  terms = map named_term f.terms;
}
