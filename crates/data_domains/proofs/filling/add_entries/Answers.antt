use Rattle.std.proofs.Common.{◌++◌, ◌+◌, map, drop, sym, ap, ◌∙◌}
use Rattle.std.specs.List.{flat_map}
use Rattle.std.proofs.lemmas.List.{drop_all}
use Rattle.structure_entries.specs.SaidViews.{said_view}
use Rattle.structure_entries.proofs.Dropped.{front}
use Rattle.data_domains.specs.Shares.{share}
use Rattle.data_domains.proofs.Filled.{given_all, given_next}
use Rattle.data_domains.proofs.filling.add_entries.Goals as goal

pub loop-entry-preserved : goal.loop-entry-preserved
loop-entry-preserved c =
    let types = c.args.types.now in
    let entries = c.args.entries.now in
    let i = c.loop-entry.entry-index in
    let e = c.entry-item.result in
    record {
      count = c.in_ok-add_entry.ensures.count ∙ c.loop-entry.invariant.count;
      given = λ t x cs h.
          let before = c.loop-entry.invariant.given t x cs h in
          given_next c.loop-entry.all.items c.add_entry.new.all.items t x before.0 (share types t x (said_view e))
          (flat_map (share types t x) (map said_view (drop (i + 1) entries))) _ before.1
          (c.in_ok-add_entry.ensures.given t x before.0)
          (ap (λ ds. before.0 ++ ds) (sym (ap (λ es. flat_map (share types t x) (map said_view es))
          (front entries i e c.loop-entry-test.true c.entry-item.is))) ∙ before.2);
    }

pub returns-clause-given : goal.returns-clause-given
returns-clause-given c = λ t x cs h.
    let types = c.args.types.now in
    let entries = c.args.entries.now in
    let i = c.loop-entry.entry-index in
    let before = c.loop-entry.invariant.given t x cs h in
    given_all c.loop-entry.all.items t x before.0
    (flat_map (share types t x) (map said_view (drop i entries))) _ before.1
    (ap (λ es. flat_map (share types t x) (map said_view es)) (drop_all i entries c.loop-entry-test.false)) before.2
