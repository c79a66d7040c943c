use Rattle.std.proofs.Common.{◌≡◌, ◌≤◌, map, take}
use Rattle.kb_logic.specs.Views.{definition_view}
use Rattle.def_ground.specs.Definitions.{define_all}
use Rattle.definition_walk.proofs.definitions.push_definitions.Given as goal

-- the definitions so far
abbrev pub invariant-loop-definition : goal.invariant-loop-definition
invariant-loop-definition l = record {
  made :
      l.problem ≡ define_all l.base (map definition_view (take l.definition-index l.definitions)) l.fn.problem;
  grows : l.fn.problem.vars ≤ l.problem.vars;
}
