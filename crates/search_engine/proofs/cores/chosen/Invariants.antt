use Rattle.std.proofs.Common.{take}
use Rattle.search_engine.specs.Cores.{IsCoreOf}
use Rattle.search_engine.proofs.cores.chosen.Given as goal

-- those of the assumptions so far
abbrev pub invariant-loop-assumed : goal.invariant-loop-assumed
invariant-loop-assumed l = IsCoreOf (take l.assumed-index l.assume) l.blamed l.core.items
