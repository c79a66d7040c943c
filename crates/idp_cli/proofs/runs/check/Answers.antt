use Rattle.std.proofs.Common.{sym}
use Rattle.base_reader.specs.Readings.{meaning_of}
use Rattle.idp_cli.specs.JobViews.{choice_view}
use Rattle.idp_cli.proofs.Consulting.{check_ends, check_fails}
use Rattle.idp_cli.proofs.runs.check.Goals as goal

pub returns-in-Ok-clause-ends : goal.returns-in-Ok-clause-ends
returns-in-Ok-clause-ends g c =
    let load = c.in-Ok.ensures.loaded in
    rw (sym c.in-Ok.ensures.silent)
    (check_ends c.print_structure.result c.args.name.now (choice_view c.args.options) (meaning_of c.in-Ok.kb) _ _ _ _ _
    _ _ _ load.0 load.1 c.print_structure.ensures)

pub returns-in-Err-clause-ends : goal.returns-in-Err-clause-ends
returns-in-Err-clause-ends g c = λ script script_faults log log_faults.
    check_fails c.in-Err.status _ _ _ _ (c.in-Err.ensures.fails script script_faults log log_faults)
