-- What an integer in memory is.
use Rattle.std.specs.Prelude.{ℤ, pos, neg_ℤ, if◌then◌else◌}
use Rattle.structure_entries.specs.declared.wholes.Whole.{Whole}

-- the integer with its sign
abbrev pub whole_view : Whole → ℤ
whole_view w = if w.negative then neg_ℤ (pos w.digits) else pos w.digits
