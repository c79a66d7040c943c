use Rattle.std.proofs.Common.{◌++◌, List, ℕ, map, drop}
use Rattle.kb_logic.specs.Trees.{terms_of}
use Rattle.kb_logic.specs.Views.{term_view}
use Rattle.row_ranges.specs.Keys.{HaveSteps}
use Rattle.row_ranges.proofs.steps.variable_steps.Given as goal

-- with steps of the variables that are left come those of all
abbrev pub invariant-loop-n : goal.invariant-loop-n
invariant-loop-n l =
    (more : List ℕ)
    → HaveSteps l.types l.own (terms_of (map term_view l.args)) l.n (drop l.n l.bounds) more
    → HaveSteps l.types l.own (terms_of (map term_view l.args)) 0 l.bounds (l.steps.items ++ more)
