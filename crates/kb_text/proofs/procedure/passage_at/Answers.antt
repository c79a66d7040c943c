use Rattle.std.proofs.Common.{arith}
use Rattle.std.proofs.lemmas.List.Sums.{prefix_len-le-length}
use Rattle.kb_text.specs.Bytes.{is_line_byte}
use Rattle.kb_text.proofs.procedure.passage_at.Goals as goal

pub overflow_add-result : goal.overflow_add-result
overflow_add-result c = let short = prefix_len-le-length is_line_byte c.split_at-then-starts_with-3.result.1.now in
    let back = c.split_at-then-starts_with-3.ensures.back_len in omega (arith, c.line_len.ensures, c.requires.short)
