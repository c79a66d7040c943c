use Rattle.std.proofs.Common.{◌≡◌, ◌-◌, ◌++◌}
use Rattle.std.specs.List.{range_with_len}
use Rattle.generated_files.specs.Texts.{numbers_before}
use Rattle.generated_files.proofs.rows.early_days.Given as goal

-- those found, and the days to come, are all
abbrev pub invariant-loop-day : goal.invariant-loop-day
invariant-loop-day l = l.found.items ++ range_with_len l.day (l.days - l.day) ≡ numbers_before l.days
