use Rattle.std.proofs.Common.{inl, inr}
use Rattle.clause_base.proofs.occurrences.Occurrence.look.Goals as goal

pub value-at_first-requires : goal.value-at_first-requires
value-at_first-requires c = c.requires c.lit-first.result (inl c.lit-first.ensures.value)

pub value-at_second-requires : goal.value-at_second-requires
value-at_second-requires c = c.requires c.lit-second.result (inr (inl c.lit-second.ensures.value))

pub value-at_third-requires : goal.value-at_third-requires
value-at_third-requires c = c.requires c.lit-third.result (inr (inr c.lit-third.ensures.value))
