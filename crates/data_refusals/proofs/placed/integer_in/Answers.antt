use Rattle.data_refusals.proofs.Steps.{no_sum, term_view-Sum}
use Rattle.data_refusals.proofs.placed.integer_in.Goals as goal

pub returns-in-len2-up : goal.returns-in-len2-up
returns-in-len2-up c = rw (c.in-Sum.is, term_view-Sum) (no_sum c.in-Sum.parts.items
    (rw c.as_slice.ensures.value at c.in-len2-up.len_at_least))
