use Rattle.std.proofs.Common.{◌∙◌}
use Rattle.clause_base.proofs.short_clauses.ShortClauses.pack.Goals as goal

pub loop-self-preserved : goal.loop-self-preserved
loop-self-preserved c = (
  λ vars h below. c.pack_next.ensures.kept vars (c.loop-self.invariant.0 vars h below) below,
  c.pack_next.ensures.lists ∙ c.loop-self.invariant.1,
)

pub returns-in_err-pack_next-clause-kept : goal.returns-in_err-pack_next-clause-kept
returns-in_err-pack_next-clause-kept c vars h below =
    c.pack_next.ensures.kept vars (c.loop-self.invariant.0 vars h below) below
