use Rattle.consultant_session.proofs.HashedFacts.{one-less}
use Rattle.consultant_session.proofs.chosen.lose_lit.Goals as goal

pub returns : goal.returns
returns c = λ other.
    one-less c.args.lits.now.keys c.swap_remove-was_there.new.self.keys c.args.lit other
    (c.swap_remove-was_there.ensures.updates.0 other)
