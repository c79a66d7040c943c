use Rattle.std.proofs.Common.{◌≡◌, ℕ, ◌<◌, ◌≤◌, length, arith, ap, sym, ◌∙◌, Option, None, subst, vec_capacity}
use Rattle.lit_core.specs.Literals.{value_in}
use Rattle.clause_base.specs.declared.trail.Step.{Step}
use Rattle.clause_base.specs.TrailState.{TrailState}
use Rattle.clause_base.specs.TrailLaws.{IsTrail, with_step, level_after}
use Rattle.clause_base.specs.TrailFields.{state_of, IsKept}
use Rattle.clause_base.specs.declared.trail.Trail.TheInside.{Inside}
use Rattle.clause_base.proofs.TrailFacts.{step_room, trail-step, level-le-steps}
use Rattle.clause_base.proofs.trail.Trail.assign.Goals as goal

pub next_level-level-requires : goal.next_level-level-requires
next_level-level-requires c =
    let a = c.self.inside in
    let t : Step = record { lit = c.args.lit; level = 0; reason = c.args.reason } in
    let within : t.lit.var.0 < length a.assignment = subst (λ (x : TrailState). c.args.lit.var.0 < length x.values)
    (sym c.self.view_is) c.requires.in_range in
    let free : value_in a.assignment t.lit ≡ None = subst (λ (x : TrailState). value_in x.values c.args.lit ≡ None)
    (sym c.self.view_is) c.requires.unassigned in
    let room = step_room a.assignment a.steps.items t c.self.invariant.laws.coherent within free in
    let level = level-le-steps (state_of a) c.self.invariant.laws in
    let most : length a.assignment ≤ vec_capacity a.steps = c.self.invariant.room_steps in
    let small = a.steps.small in
    omega arith

laws : (a : Inside) (s : TrailState) → state_of a ≡ s → IsKept a → IsTrail s
laws a s is h = subst IsTrail is h.laws

same_level : (a : Inside) (s : TrailState) → state_of a ≡ s → (r : Option ℕ) (n : ℕ) → n ≡ level_after a.level r
    → n ≡ level_after s.level r
same_level a s is r n e = e ∙ ap (λ (x : TrailState). level_after x.level r) is

pub add-requires-clause-laws : goal.add-requires-clause-laws
add-requires-clause-laws c =
    let s = c.args.self.now in
    let h = trail-step s c.args.lit c.args.reason (laws c.self.inside s c.self.view_is c.self.invariant)
    c.requires.in_range c.requires.unassigned in
    let e = same_level c.self.inside s c.self.view_is c.args.reason c.next_level-level.result
    c.next_level-level.ensures in
    subst (λ n. IsTrail (with_step s (record { lit = c.args.lit; level = n; reason = c.args.reason }))) (sym e) h

pub returns-clause-laws : goal.returns-clause-laws
returns-clause-laws c =
    let s = c.args.self.now in
    let h = trail-step s c.args.lit c.args.reason (laws c.self.inside s c.self.view_is c.self.invariant)
    c.requires.in_range c.requires.unassigned in
    let e = same_level c.self.inside s c.self.view_is c.args.reason c.next_level-level.result
    c.next_level-level.ensures in
    subst IsTrail (sym c.add.ensures) (subst (λ n. IsTrail (with_step s
    (record { lit = c.args.lit; level = n; reason = c.args.reason }))) (sym e) h)
