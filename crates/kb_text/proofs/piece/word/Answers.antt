use Rattle.std.proofs.Common.{arith, sym, ◌∙◌}
use Rattle.std.proofs.lemmas.List.Sums.{prefix_len-le-length}
use Rattle.kb_text.specs.Bytes.{is_word_byte}
use Rattle.kb_text.proofs.Pieces.{word_opened}
use Rattle.kb_text.proofs.piece.word.Goals as goal

pub split_at-requires : goal.split_at-requires
split_at-requires c = let short = prefix_len-le-length is_word_byte c.args.bytes.now in
    omega (arith, c.word_len-n.ensures)

pub returns-else-is_procedure_word : goal.returns-else-is_procedure_word
returns-else-is_procedure_word c =
    let word = sym (rw c.split_at.ensures.front at c.is_procedure_word.ensures) ∙ c.if-is_procedure_word.false in
    (rw c.word_len-n.ensures (word_opened c.args.bytes.now c.requires), rw (← c.word_len-n.ensures) word)
