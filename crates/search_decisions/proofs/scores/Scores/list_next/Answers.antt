use Rattle.std.proofs.Common.{◌≡◌, ◌++◌, ◌∷◌, [], None, get_or}
use Rattle.search_decisions.proofs.ScoreFacts.{listed-takes}
use Rattle.search_decisions.proofs.scores.Scores.list_next.Goals as goal

pub returns-in_ok-push-2-clause-lists : goal.returns-in_ok-push-2-clause-lists
returns-in_ok-push-2-clause-lists c = λ from le h.
    let none : get_or c.args.assignment.now c.args.number None ≡ None = (c.is_open.ensures.0 c.if-is_open.true).1 in
    let open-is : c.push-then-is_open.new.self.items ≡ c.args.self.now.open.items ++ c.args.number ∷ [] =
    c.in_ok-push-2.ensures.items in
    let listed-is : c.push.new.self.items ≡ c.args.self.now.listed.items ++ c.score-score.result ∷ [] =
    c.in_ok-push.ensures.items in
    rw (open-is, listed-is, c.score-score.ensures) (listed-takes c.args.self.now.scores.items c.args.assignment.now from
    c.args.number c.args.self.now.open.items c.args.self.now.listed.items le none h)
