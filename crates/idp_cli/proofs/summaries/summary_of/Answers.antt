use Rattle.std.proofs.Common.{sym}
use Rattle.idp_cli.proofs.summaries.summary_of.Goals as goal

pub returns : goal.returns
returns c = rw (sym c.in_ok-session.ensures.kb) c.summary_by-found.ensures
