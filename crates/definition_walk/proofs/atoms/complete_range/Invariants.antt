use Rattle.std.proofs.Common.{◌≡◌, ℕ, List, fold}
use Rattle.def_ground.specs.declared.answers.Answer.{Answer}
use Rattle.def_ground.specs.Definitions.{complete_atom}
use Rattle.definition_walk.specs.Lists.{lists_of, HaveBodies, numbers_from}
use Rattle.definition_walk.proofs.atoms.complete_range.Given as goal

-- the atoms so far
abbrev pub invariant-loop-place : goal.invariant-loop-place
invariant-loop-place l = record {
  made :
      (told : List (ℕ × Answer)) → HaveBodies told l.bodies.first (lists_of l.bodies.lists)
      → l.problem ≡ fold (complete_atom l.base told) l.fn.problem (numbers_from l.first l.place);
  vars : l.problem.vars ≡ l.fn.problem.vars;
}
