use Rattle.std.proofs.Common.{◌≡◌, drop}
use Rattle.std.specs.List.{list_all}
use Rattle.kb_text.specs.Bytes.{between}
use Rattle.idp_cli.proofs.jobs.has_digits_alone.Given as goal

abbrev pub invariant-loop-byte : goal.invariant-loop-byte
invariant-loop-byte l = list_all (between 48 57) (drop l.byte-index l.text) ≡ list_all (between 48 57) l.text
