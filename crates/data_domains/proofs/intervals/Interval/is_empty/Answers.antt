use Rattle.std.proofs.Common.{◌≡◌, ◌==◌, ℕ, not, nat_lt, arith, rules}
use Rattle.std.proofs.lemmas.Bool.Decides.{nat_tests}
use Rattle.stage_definitions.specs.Elements.{size_of}
use Rattle.data_domains.specs.Sets.{interval_view}
use Rattle.data_domains.proofs.intervals.Interval.is_empty.Goals as goal

none : (n : ℕ) → not (nat_lt 0 n) ≡ (n == 0)
none n = grind (arith, nat_tests)

pub returns : goal.returns
returns c = let n = size_of (interval_view c.args.self) in search (rules, none n, c.size.ensures.size)
