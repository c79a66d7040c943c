use Rattle.std.proofs.Common.{◌∙◌}
use Rattle.std.proofs.lemmas.Result.{IfOk-weaker}
use Rattle.solving_judge.specs.Telling.{Told}
use Rattle.solving_judge.proofs.AskFacts.{told-same}
use Rattle.solving_judge.proofs.asking.limits.Goals as goal

pub returns-clause-told : goal.returns-clause-told
returns-clause-told c =
    let spoken = c.args.spoken.now in
    let sides = c.args.sides.now in
    let assume = c.args.assume.now in
    let after = c.wrong_within.new.sides in
    IfOk-weaker c.compared.result (Told spoken after assume) (Told spoken sides assume)
    (λ o. told-same spoken after sides assume o c.in_ok-why.ensures.events
    (c.in_ok-why.ensures.force ∙ c.in_ok-right.ensures.problem))
    c.compared.ensures.told
