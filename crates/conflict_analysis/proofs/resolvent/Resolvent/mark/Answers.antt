use Rattle.std.proofs.Common.{◌≡◌, ◌<◌, ◌≤◌, refl, ap, ◌∙◌, arith, slice_get, Some}
use Rattle.std.proofs.lemmas.Option.{slice_get_within}
use Rattle.clause_store.specs.declared.trails.Step.{Step}
use Rattle.clause_store.specs.StoreState.{StoreState}
use Rattle.conflict_analysis.specs.declared.resolvent.Resolvent.{Resolvent}
use Rattle.conflict_analysis.proofs.Gathered.{gathers-lower, gathers-upper}
use Rattle.conflict_analysis.proofs.Places.{same-step, step-of, in_range-of, assigned-of}
use Rattle.conflict_analysis.proofs.resolvent.Resolvent.mark.Goals as goal

pub place_of-place-requires-clause-in_range : goal.place_of-place-requires-clause-in_range
place_of-place-requires-clause-in_range c =
    let s : StoreState = c.args.store.now in
    let w = step-of s.trail.steps c.args.self.now.top c.args.lit c.requires.made in
    in_range-of s.trail.values s.trail.steps c.requires.laws.trail.coherent c.args.lit w.0 w.1 w.2 w.3

pub place_of-place-requires-clause-assigned : goal.place_of-place-requires-clause-assigned
place_of-place-requires-clause-assigned c =
    let s : StoreState = c.args.store.now in
    let w = step-of s.trail.steps c.args.self.now.top c.args.lit c.requires.made in
    assigned-of s.trail.values s.trail.steps c.requires.laws.trail.coherent c.args.lit w.0 w.1 w.2 w.3

pub step-requires : goal.step-requires
step-requires c =
    let w = c.place_of-place.ensures.step in
    slice_get_within c.args.store.now.trail.steps c.place_of-place.result w.0 w.1

pub returns-then-step-self-clause-ok : goal.returns-then-step-self-clause-ok
returns-then-step-self-clause-ok c =
    let s : StoreState = c.args.store.now in
    let w = c.place_of-place.ensures.step in
    let at : slice_get s.trail.steps c.place_of-place.result ≡ Some c.step.result = c.step.ensures.step in
    let same : c.step.result.lit.var ≡ c.args.lit.var = ap (λ (x : Step). x.lit.var)
    (same-step s.trail.steps c.place_of-place.result c.step.result w.0 at w.1) ∙ w.2 in
    let lt : c.step.result.level < c.args.self.now.floor = omega arith in
    let new : Resolvent = record {
      floor = c.args.self.now.floor;
      top = c.args.self.now.top;
      upper =
          c.args.self.now.upper;
      lower = c.insert.new.self;
      hints = c.args.self.now.hints;
    } in
    gathers-lower s.trail c.requires.laws.trail c.args.self.now new c.args.lit c.requires.made c.place_of-place.result
    c.step.result at same refl refl refl c.in_ok-insert.ensures lt (omega arith)

pub returns-clause-ok : goal.returns-clause-ok
returns-clause-ok c =
    let s : StoreState = c.args.store.now in
    let w = c.place_of-place.ensures.step in
    let at : slice_get s.trail.steps c.place_of-place.result ≡ Some c.step.result = c.step.ensures.step in
    let same : c.step.result.lit.var ≡ c.args.lit.var = ap (λ (x : Step). x.lit.var)
    (same-step s.trail.steps c.place_of-place.result c.step.result w.0 at w.1) ∙ w.2 in
    let le : c.args.self.now.floor ≤ c.step.result.level = omega arith in
    let lt : c.place_of-place.result < c.args.self.now.top = omega arith in
    let new : Resolvent = record {
      floor = c.args.self.now.floor;
      top = c.args.self.now.top;
      upper =
          c.insert-2.new.self;
      lower = c.args.self.now.lower;
      hints = c.args.self.now.hints;
    } in
    gathers-upper s.trail c.requires.laws.trail c.args.self.now new c.args.lit c.requires.made c.place_of-place.result
    c.step.result at same refl refl refl c.in_ok-insert-2.ensures le lt c.requires.unfixed
