use Rattle.std.proofs.Common.{◌≤◌, length, arith}
use Rattle.std.proofs.lemmas.Result.{IfOk-weaker}
use Rattle.tightened_entries.proofs.OneByOne.{many-bounds}
use Rattle.tightened_entries.proofs.tightening.complete.Goals as goal

pub returns : goal.returns
returns c =
    let many : 2 ≤ length c.args.selectors.now.list.items = omega (arith, c.if-len-lt2.false, c.len.ensures) in
    IfOk-weaker c.push_others.result _ _
    (λ u pushed es first are bounds. many-bounds c.args.before c.args.entries.now es pushed.0
    c.args.selectors.now.list.items c.args.text.now.items c.push_others.new.text.items first pushed.1 are many bounds
    pushed.2) c.push_others.ensures
