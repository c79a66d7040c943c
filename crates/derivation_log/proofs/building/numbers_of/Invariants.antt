use Rattle.std.proofs.Common.{◌≡◌, ◌++◌, drop}
use Rattle.derivation_log.specs.Scans.{numbers_of}
use Rattle.derivation_log.proofs.building.numbers_of.Given as goal

abbrev pub invariant-loop-field : goal.invariant-loop-field
invariant-loop-field l = l.found ++ numbers_of (drop l.field-index l.fields) ≡ numbers_of l.fields
