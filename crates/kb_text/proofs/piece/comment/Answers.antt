use Rattle.std.proofs.Common.{inl, ap, sym, ◌∙◌, arith}
use Rattle.std.proofs.lemmas.List.Sums.{prefix_len-le-length}
use Rattle.kb_text.specs.Bytes.{is_line_byte}
use Rattle.kb_text.specs.Ends.{close_of}
use Rattle.kb_text.specs.Pieces.{LineComment, BlockComment}
use Rattle.kb_text.proofs.Pieces.{line_longest, block_longest, unclosed, lone_slash}
use Rattle.kb_text.proofs.piece.comment.Goals as goal

pub overflow_add-result : goal.overflow_add-result
overflow_add-result c = let short = prefix_len-le-length is_line_byte c.split_at.result.1.now in let back =
    c.split_at.ensures.back_len in omega arith

pub overflow_add-result-in-Some : goal.overflow_add-result-in-Some
overflow_add-result-in-Some c = let back = c.split_at.ensures.back_len in omega (arith, c.in-Some.ensures.within)

pub returns-then-bytes-lt2 : goal.returns-then-bytes-lt2
returns-then-bytes-lt2 c = inl (lone_slash c.args.bytes.now c.requires (λ lt e. omega arith) (λ lt e. omega arith))

pub returns-then-second-eq47 : goal.returns-then-second-eq47
returns-then-second-eq47 c = (
  LineComment,
  tt,
  rw (c.line_len.ensures, c.split_at.ensures.back)
      (line_longest c.args.bytes.now c.requires (omega arith) c.if-second-eq47.true),
)

pub returns-in-Some : goal.returns-in-Some
returns-in-Some c = (
  BlockComment,
  tt,
  block_longest c.args.bytes.now c.in-Some.n c.requires
      (omega arith) c.if-second-eq42.true (ap (close_of 42 47) (sym c.split_at.ensures.back)
      ∙ sym c.close_len.ensures.value ∙ c.in-Some.is),
)

pub returns-in-None : goal.returns-in-None
returns-in-None c = inl (unclosed c.args.bytes.now c.requires (omega arith) c.if-second-eq42.true
    (ap (close_of 42 47) (sym c.split_at.ensures.back) ∙ sym c.close_len.ensures.value ∙ c.in-None.is))

pub returns-else-second-eq42 : goal.returns-else-second-eq42
returns-else-second-eq42 c = inl (lone_slash c.args.bytes.now c.requires (λ lt e. c.if-second-eq47.false e)
    (λ lt e. c.if-second-eq42.false e))
