use Rattle.std.proofs.Common.{◌≡◌, ◌+◌, ◌≤◌, length, arith, ap, sym, ◌∙◌, refl, ⊎_elim, subst}
use Rattle.std.proofs.lemmas.List.{length_push}
use Rattle.clause_base.specs.declared.trail.Trail.TheInside.{Inside}
use Rattle.clause_base.specs.TrailState.{TrailState}
use Rattle.clause_base.specs.TrailFields.{IsBeingCut}
use Rattle.clause_base.proofs.TrailCut.{cut-start, cut-step, cut-end, cut-kept, cut-cuts}
use Rattle.std.proofs.lemmas.Bool.{both_ways}
use Rattle.clause_base.proofs.trail.Trail.back_to.Goals as goal

pub loop-init : goal.loop-init
loop-init c =
    let le : c.args.level ≤ c.self.inside.level = subst (λ (x : TrailState). c.args.level ≤ x.level)
    (sym c.self.view_is) c.requires in
    subst (λ (x : TrailState). IsBeingCut x c.args.level c.self.inside) c.self.view_is
    (cut-start c.self.inside c.args.level c.self.invariant le)

pub loop-smaller : goal.loop-smaller
loop-smaller c =
    let p = c.pop_above.ensures.popped c.loop-test.true in
    let len : length c.loop.self-inside.steps.items ≡ length c.pop_above.new.steps.items + 1 = ap length p.1
    ∙ length_push c.pop_above.new.steps.items p.0 in
    omega arith

pub loop-preserved : goal.loop-preserved
loop-preserved c =
    let p = c.pop_above.ensures.popped c.loop-test.true in
    let b : Inside = record {
      assignment = c.pop_above.new.assignment;
      steps = c.pop_above.new.steps;
      lits =
          c.pop_above.new.lits;
      places = c.loop.self-inside.places;
      level = c.loop.self-inside.level;
    } in
    cut-step c.args.self.now c.args.level c.loop.self-inside b p.0 c.loop.invariant p.1 p.2 p.3 c.pop_above.ensures.lits
    refl c.pop_above.ensures.room.0 c.pop_above.ensures.room.1

pub invariant_of-self : goal.invariant_of-self
invariant_of-self c =
    let b : Inside = record {
      assignment = c.pop_above.new.assignment;
      steps = c.pop_above.new.steps;
      lits =
          c.pop_above.new.lits;
      places = c.loop.self-inside.places;
      level = c.args.level;
    } in
    let done = ⊎_elim (λ yes. absurd (both_ways c.pop_above.result c.loop-test.false yes))
    (λ no. no) c.pop_above.ensures.done in
    cut-kept c.args.self.now c.args.level c.loop.self-inside b c.loop.invariant
    (cut-end c.args.self.now c.args.level c.loop.self-inside c.loop.invariant done.2) done.0 done.1
    c.pop_above.ensures.lits refl refl c.pop_above.ensures.room.0 c.pop_above.ensures.room.1

pub returns-clause-cut : goal.returns-clause-cut
returns-clause-cut c =
    let b : Inside = record {
      assignment = c.pop_above.new.assignment;
      steps = c.pop_above.new.steps;
      lits =
          c.pop_above.new.lits;
      places = c.loop.self-inside.places;
      level = c.args.level;
    } in
    let done = ⊎_elim (λ yes. absurd (both_ways c.pop_above.result c.loop-test.false yes))
    (λ no. no) c.pop_above.ensures.done in
    cut-cuts c.args.self.now c.args.level c.loop.self-inside b c.loop.invariant
    (cut-end c.args.self.now c.args.level c.loop.self-inside c.loop.invariant done.2) done.0 done.1
    c.pop_above.ensures.lits refl refl

pub returns-clause-laws : goal.returns-clause-laws
returns-clause-laws c =
    let b : Inside = record {
      assignment = c.pop_above.new.assignment;
      steps = c.pop_above.new.steps;
      lits =
          c.pop_above.new.lits;
      places = c.loop.self-inside.places;
      level = c.args.level;
    } in
    let done = ⊎_elim (λ yes. absurd (both_ways c.pop_above.result c.loop-test.false yes))
    (λ no. no) c.pop_above.ensures.done in
    (cut-kept c.args.self.now c.args.level c.loop.self-inside b c.loop.invariant
    (cut-end c.args.self.now c.args.level c.loop.self-inside c.loop.invariant done.2) done.0 done.1
    c.pop_above.ensures.lits refl refl c.pop_above.ensures.room.0 c.pop_above.ensures.room.1).laws
