use Rattle.std.proofs.Common.{rules, ◌≡◌, Some, refl}
use Rattle.idp_cli.proofs.Generating.{both_found}
use Rattle.idp_cli.proofs.summaries.summary_by.Goals as goal

pub returns-in-Some-2 : goal.returns-in-Some-2
returns-in-Some-2 c =
    let forced : c.in_ok-forced.field-0 ≡ Some c.in-Some.forced = search rules in
    let least : c.in_ok-least.field-0 ≡ Some c.in-Some-2.least = search rules in
    both_found c.args.session.now.kb _ _ _ _ _ _ _ _ _ refl c.in_ok-forced.ensures.kb
    c.requires forced least c.in_ok-forced.ensures.right c.in_ok-least.ensures
