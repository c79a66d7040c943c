use Rattle.std.proofs.Common.{arith}
use Rattle.std.proofs.lemmas.Grind.{common_steps}
use Rattle.std.proofs.Common.{◌≡◌, ◌+ℤ◌, ◌∙◌, pos, true, false, map, sym, ap, rules}
use Rattle.std.proofs.lemmas.List.{drop_more}
use Rattle.structure_entries.specs.WholeViews.{whole_view}
use Rattle.reading_laws.proofs.Bounded.{not_lower}
use Rattle.data_domains.specs.Sets.{interval_view}
use Rattle.data_domains.proofs.Sorting.{ended, ended_same, gap_from, longer_follows, longer_full, longer_rising}
use Rattle.data_domains.proofs.Sorting.{longer_same, risen, views}
use Rattle.data_domains.proofs.runs.joined_runs.Goals as goal

pub loop-one-preserved-then-reaches : goal.loop-one-preserved-then-reaches
loop-one-preserved-then-reaches c =
    let rest = c.in-Some.rest.now in
    let i = c.loop-one.one-index in
    let last = c.loop-one.last in
    let next = ap views (drop_more rest i _ c.loop-one-test.true) in
    let inv = c.loop-one.invariant in
    let reaches : c.reaches.result ≡ true = search rules in
    let touches = not_lower (whole_view last.high +ℤ pos 1) _ (sym c.reaches.ensures ∙ reaches) in
    record {
      apart = longer_follows rest i _ last next inv.rising inv.full c.joined-last.result c.joined-last.ensures
          c.loop-one.runs.items inv.apart;
      full = longer_full rest i _ last next inv.rising inv.full c.joined-last.result c.joined-last.ensures;
      rising = longer_rising rest i _ last next inv.rising inv.full c.joined-last.result c.joined-last.ensures;
      same = longer_same rest i _ last next inv.rising inv.full c.joined-last.result c.joined-last.ensures
          c.loop-one.runs.items (map interval_view c.args.rising.now) touches inv.same;
    }

pub loop-one-preserved : goal.loop-one-preserved
loop-one-preserved c =
    let rest = c.in-Some.rest.now in
    let i = c.loop-one.one-index in
    let last = c.loop-one.last in
    let next = ap views (drop_more rest i _ c.loop-one-test.true) in
    let inv = c.loop-one.invariant in
    let apart : c.reaches.result ≡ false = search rules in
    let up = risen rest i _ last next inv.rising inv.full in
    record {
      apart = ended rest i _ last next inv.rising inv.full c.loop-one.runs.items c.push.new.self.items
          c.in_ok-push.ensures.items (gap_from (whole_view last.high +ℤ pos 1) _ (sym c.reaches.ensures
          ∙ apart)) inv.apart;
      full = up.1;
      rising = up.2;
      same = ended_same rest i _ last next inv.rising inv.full c.loop-one.runs.items c.push.new.self.items
          (map interval_view c.args.rising.now) c.in_ok-push.ensures.items inv.same;
    }

pub returns-in_default-clause-same : goal.returns-in_default-clause-same
returns-in_default-clause-same c = grind (arith, common_steps)

pub loop-one-init : goal.loop-one-init
loop-one-init c = grind (arith, common_steps)

pub returns-clause-apart : goal.returns-clause-apart
returns-clause-apart c = grind (arith, common_steps)

pub returns-clause-same : goal.returns-clause-same
returns-clause-same c = grind (arith, common_steps)
