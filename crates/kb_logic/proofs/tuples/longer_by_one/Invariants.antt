use Rattle.std.proofs.Common.{◌≡◌, map, [], ◌∷◌, ◌++◌}
use Rattle.std.specs.List.{flat_map}
use Rattle.kb_logic.proofs.tuples.longer_by_one.Given as goal

abbrev pub invariant-loop-tuple : goal.invariant-loop-tuple
invariant-loop-tuple l = l.longer.items ≡ flat_map (λ tuple. map (λ x. tuple ++ x ∷ []) l.domain) l.yielded
