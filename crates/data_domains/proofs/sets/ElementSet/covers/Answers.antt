use Rattle.data_domains.proofs.sets.ElementSet.covers.Goals as goal

pub returns-in-Span : goal.returns-in-Span
returns-in-Span c = λ cells s. rw c.in-Span.is (c.covers_interval.ensures cells s)
