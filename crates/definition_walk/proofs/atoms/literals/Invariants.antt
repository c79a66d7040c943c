use Rattle.std.proofs.Common.{◌≡◌, take}
use Rattle.def_ground.specs.Definitions.{settled_by, literals_in}
use Rattle.definition_walk.proofs.atoms.literals.Given as goal

-- the literals so far, and whether one of the bodies so far is true in any case
abbrev pub invariant-loop-body : goal.invariant-loop-body
invariant-loop-body l = record {
  settled : l.settled ≡ settled_by (take l.body-index l.bodies);
  lits : l.lits.items ≡ literals_in (take l.body-index l.bodies);
}
