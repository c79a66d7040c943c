use Rattle.data_domains.proofs.sets.ElementSet.meets.Goals as goal

pub returns-in-One : goal.returns-in-One
returns-in-One c = λ cells s. rw c.in-One.is (c.contains.ensures cells s)

pub returns-in-Span : goal.returns-in-Span
returns-in-Span c = λ cells s. rw c.in-Span.is (c.meets_interval.ensures cells s)
