use Rattle.plain_evaluation.specs.Environments.{env_view}
use Rattle.term_values.proofs.PlainLemmas.{IsPlainSum}
use Rattle.term_values.proofs.plain_terms.plain_sum.Given as goal

-- the operands so far come to the total
abbrev pub invariant-loop-part : goal.invariant-loop-part
invariant-loop-part l = IsPlainSum l.base (env_view l.env) l.parts l.part-index l.total
