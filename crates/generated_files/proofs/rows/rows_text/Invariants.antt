use Rattle.std.proofs.Common.{◌≡◌, map, take}
use Rattle.std.specs.String.{string_bytes}
use Rattle.generated_files.specs.Texts.{row_text}
use Rattle.generated_files.proofs.rows.rows_text.Given as goal

abbrev pub invariant-loop-first : goal.invariant-loop-first
invariant-loop-first l = map string_bytes l.rows.items ≡ map row_text (take l.first-index l.firsts)
