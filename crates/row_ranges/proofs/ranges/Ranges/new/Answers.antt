use Rattle.std.proofs.Common.{ℕ, [], map, subst}
use Rattle.std.specs.List.{Contains}
use Rattle.std.specs.Option.{IfSome}
use Rattle.kb_logic.specs.Trees.{terms_of}
use Rattle.kb_logic.specs.Views.{term_view}
use Rattle.row_ranges.specs.Keys.{HaveSteps, key_of}
use Rattle.row_ranges.proofs.Leading.{leads-from}
use Rattle.row_ranges.proofs.ranges.Ranges.new.Goals as goal

pub returns-clause-leads : goal.returns-clause-leads
returns-clause-leads c =
    let domains = c.args.domains.now in
    let types = c.args.atom.types.now in
    let ts = terms_of (map term_view c.args.atom.args.now) in
    let rows = c.args.rows.now in
    let own = c.as_slice-own.result.now in
    let steps : HaveSteps types own ts 0 c.args.atom.bounds.now c.in-Some-2.steps.items =
    subst (λ o. IfSome o (λ ss. HaveSteps types own ts 0 c.args.atom.bounds.now ss.items)) c.in-Some-2.is
    c.in_ok-steps.ensures in
    let keyed : (i : ℕ) → Contains rows i → Contains c.in-Some-3.keys.items (key_of domains types own i) =
    subst (λ o. IfSome o (λ ks. (i : ℕ) → Contains rows i → Contains ks.items (key_of domains types own i)))
    c.in-Some-3.is c.in_ok-keys.ensures.keys in
    leads-from domains types own rows c.in-Some-3.keys.items ts c.requires.distinct keyed c.args.atom.bounds.now
    c.in-Some-2.steps.items [] c.in-Some.start c.in-Some.ensures steps
