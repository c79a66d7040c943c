-- Which symbols have rules, and where their atoms are.
use Rattle.std.specs.Prelude.{◌≡◌, ◌<◌, ◌≤◌, ◌+◌, ℕ, List, Bool, true, length, Some, slice_get}
use Rattle.term_values.specs.GroundBases.{GroundBase, first_var}
use Rattle.kb_logic.specs.Trees.{DefinitionTree}
use Rattle.def_ground.specs.Definitions.{is_defined}
use Rattle.definition_walk.specs.declared.symbols.Span.{Span}

-- each symbol has its mark: whether it is defined
abbrev pub HaveMarks : DefinitionTree → List Bool → Type 0
HaveMarks d marks = (s : ℕ) → s < length marks → slice_get marks s ≡ Some (is_defined d s)

-- the variables of the atoms of each marked symbol, of the first n, are in the span
abbrev pub Spans : GroundBase → List Bool → ℕ → Span → Type 0
Spans b marks n span =
    (s : ℕ) → s < n → slice_get marks s ≡ Some true
    → (span.first ≤ first_var b s) × (first_var b (s + 1) ≤ span.past)
