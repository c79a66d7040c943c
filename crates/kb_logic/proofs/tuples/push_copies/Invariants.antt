use Rattle.std.proofs.Common.{◌≡◌, map, take, [], ◌∷◌, ◌++◌}
use Rattle.kb_logic.proofs.tuples.push_copies.Given as goal

abbrev pub invariant-loop-elem : goal.invariant-loop-elem
invariant-loop-elem l = l.longer.items ≡ l.initial.longer.items ++ map (λ x. l.tuple ++ x ∷ [])
    (take l.elem-index l.elems)
