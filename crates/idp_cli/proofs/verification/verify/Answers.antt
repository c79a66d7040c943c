use Rattle.std.proofs.Common.{sym, inr}
use Rattle.base_reader.specs.Readings.{meaning_of}
use Rattle.idp_cli.specs.JobViews.{choice_view}
use Rattle.idp_cli.proofs.VerificationLemmas.{kept_by_both, verification_fails}
use Rattle.idp_cli.proofs.verification.verify.Goals as goal

pub returns-in-Ok-clause-ends : goal.returns-in-Ok-clause-ends
returns-in-Ok-clause-ends g c =
    let load = c.in-Ok.ensures.loaded in
    rw (sym load.0, sym c.in-Ok.ensures.silent)
    (c.verify_by.ensures.ends c.args.name.now (choice_view c.args.options) (g.H.Shelf.file c.args.shelf.now) load.1
    (c.in-Ok.ensures.others c.args.log.now))

pub returns-in-Ok-clause-asked : goal.returns-in-Ok-clause-asked
returns-in-Ok-clause-asked g c = inr (
  (meaning_of c.in-Ok.kb, c.in-Ok.ensures.loaded.1),
  (g.H.Shelf.asked c.open_file.new.shelf, c.in-Ok.ensures.asked, c.verify_by.ensures.asked),
)

pub returns-in-Err-clause-ends : goal.returns-in-Err-clause-ends
returns-in-Err-clause-ends g c = λ script script_faults log log_faults.
    verification_fails c.in-Err.status _ _ _ _ _ (c.in-Err.ensures.fails script script_faults log log_faults)

pub returns-in-Ok-clause-closed : goal.returns-in-Ok-clause-closed
returns-in-Ok-clause-closed g c =
    kept_by_both (g.H.Shelf.open_sources c.args.shelf.now) (g.H.Shelf.open_sources c.open_file.new.shelf)
    (g.H.Shelf.open_sources c.verify_by.new.shelf) c.in-Ok.ensures.closed c.verify_by.ensures.closed
