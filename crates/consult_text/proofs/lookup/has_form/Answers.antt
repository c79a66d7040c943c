use Rattle.std.proofs.Common.{arith}
use Rattle.consult_text.proofs.Forms.{form_if, no_length}
use Rattle.consult_text.proofs.lookup.has_form.Goals as goal

pub returns : goal.returns
returns c = form_if c.args.symbol.now c.args.text.now c.is_alike.result
    (omega (arith, c.if-len.false, c.len.ensures, c.len-2.ensures)) c.is_alike.ensures

pub returns-then-len : goal.returns-then-len
returns-then-len c = no_length c.args.symbol.now c.args.text.now
    (λ e. c.if-len.true (omega (arith, e, c.len.ensures, c.len-2.ensures)))
