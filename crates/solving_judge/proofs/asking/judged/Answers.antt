use Rattle.solving_judge.specs.Sayings.{problem_changed}
use Rattle.solving_judge.proofs.AskFacts.{told-same}
use Rattle.solving_judge.proofs.asking.judged.Goals as goal

pub returns-clause-told : goal.returns-clause-told
returns-clause-told c = λ given len.
    let spoken = c.args.spoken.now in
    let sides = c.args.sides.now in
    let assume = c.args.assume.now in
    c.joined.ensures (problem_changed given spoken.said.items sides.events.items) sides.force assume
    (c.in_ok-outcome.ensures.told given len)
    (told-same spoken c.compared.new.sides sides assume c.in_ok-other.other c.in_ok-outcome.ensures.events
    c.in_ok-outcome.ensures.force c.in_ok-other.ensures.told given len)
