use Rattle.std.proofs.Common.{◌≡◌, ◌+◌, ◌^◌, drop, nat_abs}
use Rattle.ground_core.specs.Ranges.{parts_size}
use Rattle.ground_core.proofs.ranges.is_small.Given as goal

-- what the parts so far have taken is gone from the room
abbrev pub invariant-loop-part : goal.invariant-loop-part
invariant-loop-part l = nat_abs l.term.base + parts_size l.term.kind l.term.parts + l.room
    ≡ 10 ^ 15 + parts_size l.term.kind (drop l.part-index l.term.parts)
