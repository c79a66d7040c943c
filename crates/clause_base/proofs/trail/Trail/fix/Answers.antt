use Rattle.std.proofs.Common.{◌≡◌, ap, sym, ◌∙◌, None, subst}
use Rattle.clause_base.specs.TrailState.{TrailState}
use Rattle.clause_base.specs.TrailLaws.{IsTrail, with_step}
use Rattle.clause_base.specs.TrailFields.{state_of, IsKept}
use Rattle.clause_base.specs.declared.trail.Trail.TheInside.{Inside}
use Rattle.clause_base.proofs.TrailFacts.{trail-fix}
use Rattle.clause_base.proofs.trail.Trail.fix.Goals as goal

laws : (a : Inside) (s : TrailState) → state_of a ≡ s → IsKept a → IsTrail s
laws a s is h = subst IsTrail is h.laws

zero_level : (a : Inside) (s : TrailState) → state_of a ≡ s → s.level ≡ 0 → a.level ≡ 0
zero_level a s is zero = ap (λ (x : TrailState). x.level) is ∙ zero

pub add-requires-clause-laws : goal.add-requires-clause-laws
add-requires-clause-laws c =
    let s = c.args.self.now in
    let h = trail-fix s c.args.lit (laws c.self.inside s c.self.view_is c.self.invariant) c.requires.level
    c.requires.in_range c.requires.unassigned in
    let e = zero_level c.self.inside s c.self.view_is c.requires.level in
    subst (λ n. IsTrail (with_step s (record { lit = c.args.lit; level = n; reason = None }))) (sym e) h

pub returns-clause-laws : goal.returns-clause-laws
returns-clause-laws c =
    let s = c.args.self.now in
    let h = trail-fix s c.args.lit (laws c.self.inside s c.self.view_is c.self.invariant) c.requires.level
    c.requires.in_range c.requires.unassigned in
    let e = zero_level c.self.inside s c.self.view_is c.requires.level in
    subst IsTrail (sym c.add.ensures) (subst (λ n. IsTrail (with_step s
    (record { lit = c.args.lit; level = n; reason = None }))) (sym e) h)

pub returns-clause-step : goal.returns-clause-step
returns-clause-step c =
    let s = c.args.self.now in
    let e = zero_level c.self.inside s c.self.view_is c.requires.level in
    c.add.ensures ∙ (ap (λ n. with_step s (record { lit = c.args.lit; level = n; reason = None })) e)
