use Rattle.plain_evaluation.specs.Environments.{env_view}
use Rattle.term_values.proofs.PlainLemmas.{ArePlain}
use Rattle.term_values.proofs.plain_terms.push_plain.Given as goal

-- the terms so far are plain, with these values
abbrev pub invariant-loop-term : goal.invariant-loop-term
invariant-loop-term l = ArePlain l.base (env_view l.env) l.terms l.term-index l.values.items
