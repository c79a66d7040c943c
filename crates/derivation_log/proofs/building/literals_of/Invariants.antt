use Rattle.std.proofs.Common.{◌≡◌, ◌++◌, drop}
use Rattle.derivation_log.specs.Scans.{literals_of}
use Rattle.derivation_log.proofs.building.literals_of.Given as goal

abbrev pub invariant-loop-field : goal.invariant-loop-field
invariant-loop-field l = l.found ++ literals_of (drop l.field-index l.fields) ≡ literals_of l.fields
