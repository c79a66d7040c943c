use Rattle.std.proofs.Common.{sym, ◌∙◌, arith}
use Rattle.kb_text.proofs.Pieces.{one_sign, two_sign, three_sign}
use Rattle.kb_text.proofs.piece.sign_len.Goals as goal
use Rattle.kb_text.proofs.piece.sign_len.Goals.{else-bytes-gt2-via-then-bytes-gt2+else-is_triple}
use Rattle.kb_text.proofs.piece.sign_len.Goals.{else-bytes-gt2-via-else-bytes-gt2}
use Rattle.kb_text.proofs.piece.sign_len.Goals.{else-bytes-gt1-via-then-bytes-gt1+else-is_pair}
use Rattle.kb_text.proofs.piece.sign_len.Goals.{else-bytes-gt1-via-else-bytes-gt1}

pub returns-then-is_triple : goal.returns-then-is_triple
returns-then-is_triple c = three_sign c.args.bytes.now c.requires c.if-bytes-gt2.true (sym c.is_triple.ensures
    ∙ c.if-is_triple.true)

pub returns-then-is_pair : goal.returns-then-is_pair
returns-then-is_pair c = two_sign c.args.bytes.now c.requires c.if-bytes-gt1.true (sym c.is_pair.ensures
    ∙ c.if-is_pair.true) (
    elim c.else-bytes-gt2.branch [
      | else-bytes-gt2-via-then-bytes-gt2+else-is_triple w ↦ λ lt. sym w.is_triple.ensures ∙ w.if-is_triple.false
      | else-bytes-gt2-via-else-bytes-gt2 w ↦ λ lt. absurd (omega arith)
    ])

pub returns-else-bytes-gt1 : goal.returns-else-bytes-gt1
returns-else-bytes-gt1 c = one_sign c.args.bytes.now c.requires (
    elim c.else-bytes-gt1.branch [
      | else-bytes-gt1-via-then-bytes-gt1+else-is_pair w ↦ λ lt. sym w.is_pair.ensures ∙ w.if-is_pair.false
      | else-bytes-gt1-via-else-bytes-gt1 w ↦ λ lt. absurd (omega arith)
    ]) (
    elim c.else-bytes-gt2.branch [
      | else-bytes-gt2-via-then-bytes-gt2+else-is_triple w ↦ λ lt. sym w.is_triple.ensures ∙ w.if-is_triple.false
      | else-bytes-gt2-via-else-bytes-gt2 w ↦ λ lt. absurd (omega arith)
    ])
