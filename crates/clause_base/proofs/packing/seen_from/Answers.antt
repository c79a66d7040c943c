use Rattle.std.proofs.Common.{refl}
use Rattle.std.proofs.lemmas.Option.{slice_get_read}
use Rattle.clause_base.proofs.ShortFacts.{rest-from_places}
use Rattle.clause_base.proofs.packing.seen_from.Goals as goal

pub returns-clause-rest : goal.returns-clause-rest
returns-clause-rest c l here =
    let within = c.others-first.ensures.within in
    rest-from_places c.args.lits.now c.args.place _ _ _ l _ here
    (slice_get_read _ _ _ _ refl within.0 c.index-lits-first.is)
    (slice_get_read _ _ _ _ refl within.1 c.index-lits-second.is)
    (slice_get_read _ _ _ _ refl within.2 c.index-lits-third.is)
    c.others-first.ensures.all
