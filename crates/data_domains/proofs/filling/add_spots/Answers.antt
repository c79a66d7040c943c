use Rattle.std.proofs.Common.{◌∷◌, [], ◌+◌, map, drop, ◌++◌, sym, ap, ◌∙◌}
use Rattle.std.proofs.lemmas.List.{drop_all}
use Rattle.structure_entries.specs.EntryViews.{spot_view}
use Rattle.structure_entries.proofs.Dropped.{front}
use Rattle.data_domains.specs.Shares.{occurring_share}
use Rattle.data_domains.proofs.Filled.{given_all, given_next, share_next}
use Rattle.data_domains.proofs.filling.add_spots.Goals as goal

pub loop-i-preserved : goal.loop-i-preserved
loop-i-preserved c =
    let types = c.args.types.now in
    let spots = c.args.spots.now in
    let i = c.loop-i.i in
    let s = c.index-spots-i.result in
    record {
      count = c.in_ok-place.ensures.count ∙ c.loop-i.invariant.count;
      given = λ t x cs h.
          let before = c.loop-i.invariant.given t x cs h in
          given_next c.loop-i.all.items c.add_spot.new.all.items t x before.0
          (occurring_share types t x (spot_view s ∷ []))
          (occurring_share types t x (map spot_view (drop (i + 1) spots))) _ before.1
          (c.in_ok-place.ensures.given t x before.0)
          (ap (λ ds. before.0 ++ ds) (sym (ap (λ ss. occurring_share types t x (map spot_view ss))
          (front spots i s c.loop-i-test.true c.index-spots-i.is)
          ∙ share_next types t x (spot_view s ∷ []) (map spot_view (drop (i + 1) spots)))) ∙ before.2);
    }

pub returns-clause-given : goal.returns-clause-given
returns-clause-given c = λ t x cs h.
    let types = c.args.types.now in
    let spots = c.args.spots.now in
    let i = c.loop-i.i in
    let before = c.loop-i.invariant.given t x cs h in
    given_all c.loop-i.all.items t x before.0 (occurring_share types t x (map spot_view (drop i spots))) _ before.1
    (ap (λ ss. occurring_share types t x (map spot_view ss)) (drop_all i spots c.loop-i-test.false)) before.2
