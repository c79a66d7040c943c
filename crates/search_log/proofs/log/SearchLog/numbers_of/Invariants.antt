use Rattle.std.proofs.Common.{◌≡◌, ◌++◌, drop}
use Rattle.search_log.specs.Logs.{numbers_of}
use Rattle.search_log.proofs.log.SearchLog.numbers_of.Given as goal

-- those so far, and those of the rest
abbrev pub invariant-loop-id : goal.invariant-loop-id
invariant-loop-id l = l.list ++ numbers_of l.fn.self (drop l.id-index l.ids) ≡ numbers_of l.fn.self l.ids
