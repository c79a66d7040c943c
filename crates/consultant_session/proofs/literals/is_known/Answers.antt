use Rattle.consultant_session.proofs.KnownLemmas.{known_over}
use Rattle.consultant_session.proofs.literals.is_known.Goals as goal

pub value-requires : goal.value-requires
value-requires c = known_over c.args.kb.now c.data.result.now c.args.literal.now c.data.ensures.known
    c.data.ensures.is c.requires
