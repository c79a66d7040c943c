use Rattle.std.proofs.Common.{◌≡◌, Option, None, [], map, rules}
use Rattle.std.specs.Option.{IfSome}
use Rattle.std.specs.Result.{IfOk}
use Rattle.std.proofs.lemmas.Result.{IfOk-weaker}
use Rattle.kb_logic.specs.Trees.{terms_of}
use Rattle.kb_logic.specs.Views.{term_view}
use Rattle.row_ranges.specs.declared.ranges.Ranges.{Ranges}
use Rattle.row_ranges.specs.Arguments.{IsNoRow}
use Rattle.row_ranges.specs.Leads.{Leads}
use Rattle.known_guards.proofs.GuardRows.{led-by-rows}
use Rattle.known_guards.proofs.guarded.ranges_of.Goals as goal

pub returns-clause-leads : goal.returns-clause-leads
returns-clause-leads c =
    let k = c.args.known.now in
    let d = c.in-Some.declared.now in
    let rows = c.in-Some-2.rows.items in
    let ts = terms_of (map term_view c.args.guard.args.now) in
    let led : IfOk c.new.result (λ (o : Option Ranges). IfSome o
    (λ (r : Ranges). Leads (IsNoRow k.domains d.args rows ts) k.domains r.keys.items r.start r.steps.items
    c.args.bounds.now [])) =
    rw (
      ← c.domains.ensures.domains,
      ← c.as_slice-domains.ensures,
      ← c.as_slice-2.ensures,
      ← c.as_slice-3.ensures.value,
    ) c.new.ensures.leads in
    let predicate : d.value ≡ None = search rules in
    IfOk-weaker c.new.result _ _
    (λ o h. led-by-rows k c.args.guard.symbol rows d ts c.args.bounds.now o (search rules) predicate (search rules)
    c.requires.plain h) led
