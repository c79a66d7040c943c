-- Counts of true atoms.
use Rattle.std.specs.Prelude.{ℕ}
use Rattle.row_tries.specs.declared.truths.Truth.{Truth}
use Rattle.row_tries.specs.declared.truths.Truth.TheVariants.{Yes, No, Unknown}

-- how many more true atoms there are once an atom has been made true
abbrev pub added_by : Truth → ℕ
added_by Yes = 0
added_by No = 1
added_by Unknown = 1
