use Rattle.std.proofs.Common.{◌≡◌, ◌++◌, map, take}
use Rattle.lit_core.specs.Literals.{negated}
use Rattle.def_ground.proofs.shown_cases.guarded_clause.Given as goal

-- the literals, and the guards so far
abbrev pub invariant-loop-guard : goal.invariant-loop-guard
invariant-loop-guard l = l.clause ≡ l.fn.lits ++ map negated (take l.guard-index l.guards)

-- the side so far
abbrev pub invariant-loop-part : goal.invariant-loop-part
invariant-loop-part l = l.clause ≡ l.fn.lits ++ map negated l.guards ++ take l.part-index l.side
