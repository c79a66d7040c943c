use Rattle.std.proofs.Common.{◌≡◌, ◌++◌, take}
use Rattle.kb_logic.specs.Bounds.{types_of}
use Rattle.size_stage.proofs.scopes.enter.Given as goal

abbrev pub invariant-loop-bound : goal.invariant-loop-bound
invariant-loop-bound l = l.scope.items ≡ l.fn.scope.items ++ types_of (take l.bound-index l.bounds)
