use Rattle.std.proofs.Common.{take}
use Rattle.search_engine.specs.Searching.{AreTrue}
use Rattle.search_engine.proofs.searching.first_untrue.Given as goal

-- the assumptions so far are true
abbrev pub invariant-loop-place : goal.invariant-loop-place
invariant-loop-place l = AreTrue l.store.trail.values (take l.from l.assume)
    → AreTrue l.store.trail.values (take l.place l.assume)
