use Rattle.std.proofs.Common.{sym, subst}
use Rattle.ground_task.specs.Choices.{AreOver}
use Rattle.claimed_replies.proofs.claims.claims_of.Goals as goal

pub of_forced-requires : goal.of_forced-requires
of_forced-requires g c =
    let over = rw c.in-Forced.is at c.requires.forced in
    subst (AreOver c.args.task.now.numbers) (sym c.as_slice-in-Forced.ensures) over
