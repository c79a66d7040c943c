use Rattle.std.proofs.lemmas.List.{drop_all}
use Rattle.std.proofs.Common.{◌≡◌, ◌≤◌, ◌<◌, ◌∷◌, [], ◌+◌, List, get_or, length, map, drop, ◌++◌, sym, subst, ap, ◌∙◌}
use Rattle.structure_entries.specs.declared.rows.Row.{Row}
use Rattle.structure_entries.specs.EntryViews.{row_view, spot_view, spots_in, subject_view}
use Rattle.structure_entries.proofs.Dropped.{front}
use Rattle.structure_entries.proofs.Spotted.{spots_next}
use Rattle.data_domains.specs.Shares.{occurring_share, IsGiven}
use Rattle.data_domains.proofs.Filled.{given_all, given_next, share_next}
use Rattle.data_domains.proofs.filling.add_occurring.Goals as goal

pub loop-row-preserved : goal.loop-row-preserved
loop-row-preserved c =
    let types = c.args.types.now in
    let x = subject_view c.args.entry.now.subject in
    let rows = c.args.entry.now.rows.items in
    let i = c.loop-row.row-index in
    let r = c.row-item.result in
    let same = c.deref-row-items.ensures.value in
    let within = subst (λ (xs : List Row). i < length xs) same c.loop-row-test.true in
    let at : r ≡ get_or rows i r = c.row-item.is ∙ ap (λ (xs : List Row). get_or xs i r) same in
    let own = spots_in x (row_view r ∷ []) in
    let rest = spots_in x (map row_view (drop (i + 1) rows)) in
    let written = ap (map spot_view) c.deref.ensures.value ∙ c.in_ok-set_spots.ensures in
    record {
      count = c.in_ok-add_spots.ensures.count ∙ c.loop-row.invariant.count;
      given = λ t k cs h.
          let before = c.loop-row.invariant.given t k cs h in
          given_next c.loop-row.all.items c.add_spots.new.all.items t k before.0
          (occurring_share types t k own) (occurring_share types t k rest) _ before.1
          (λ g. subst (λ ss. IsGiven c.add_spots.new.all.items t k (before.0 ++ occurring_share types t k ss)) written
          (c.in_ok-add_spots.ensures.given t k before.0 g))
          (ap (λ ds. before.0 ++ ds) (sym (ap (λ rs. occurring_share types t k (spots_in x (map row_view rs)))
          (front rows i r within at)
          ∙ ap (occurring_share types t k) (spots_next x (row_view r) (map row_view (drop (i + 1) rows)))
          ∙ share_next types t k own rest)) ∙ before.2);
    }

pub returns-clause-given : goal.returns-clause-given
returns-clause-given c = λ t k cs h.
    let types = c.args.types.now in
    let x = subject_view c.args.entry.now.subject in
    let rows = c.args.entry.now.rows.items in
    let i = c.loop-row.row-index in
    let past = subst (λ (xs : List Row). length xs ≤ i) c.deref-row-items.ensures.value c.loop-row-test.false in
    let before = c.loop-row.invariant.given t k cs h in
    given_all c.loop-row.all.items t k before.0
    (occurring_share types t k (spots_in x (map row_view (drop i rows)))) _ before.1
    (ap (λ rs. occurring_share types t k (spots_in x (map row_view rs))) (drop_all i rows past)) before.2
