use Rattle.std.proofs.Common.{◌≡◌, ◌*◌, drop, length}
use Rattle.kb_logic.specs.Structures.{tuples_of}
use Rattle.known_guards.proofs.guarded.tuple_count.Given as goal

-- times those over the types that are left they are all
abbrev pub invariant-loop-ty : goal.invariant-loop-ty
invariant-loop-ty l = l.count * length (tuples_of l.domains (drop l.ty-index l.types))
    ≡ length (tuples_of l.domains l.types)
