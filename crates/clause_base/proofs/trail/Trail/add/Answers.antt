use Rattle.std.proofs.Common.{◌≡◌, ◌<◌, ◌≤◌, length, arith, ap, sym, ◌∙◌, vec_len, vec_capacity, ◌++◌, ◌∷◌, [], None}
use Rattle.std.proofs.Common.{subst, List, set}
use Rattle.std.proofs.lemmas.List.{length-map, map_push, length-set}
use Rattle.lit_core.specs.declared.literals.Lit.{Lit}
use Rattle.lit_core.specs.Literals.{value_in}
use Rattle.clause_base.specs.declared.trail.Step.{Step}
use Rattle.clause_base.specs.TrailState.{TrailState}
use Rattle.clause_base.specs.TrailLaws.{IsTrail, lits_of, with_step}
use Rattle.clause_base.specs.TrailFields.{state_of, IsKept}
use Rattle.clause_base.specs.declared.trail.Trail.TheInside.{Inside}
use Rattle.clause_base.proofs.TrailFacts.{step_room, places-step}
use Rattle.clause_base.proofs.trail.Trail.add.Goals as goal

-- there is room for one more step
room : (a : Inside) (s : TrailState) (t : Step) → IsKept a → state_of a ≡ s → t.lit.var.0 < length s.values
    → value_in s.values t.lit ≡ None → length a.steps.items < length a.assignment
room a s t kept is within free =
    let in' : t.lit.var.0 < length a.assignment = subst (λ (x : TrailState). t.lit.var.0 < length x.values)
    (sym is) within in
    let free' : value_in a.assignment t.lit ≡ None = subst (λ (x : TrailState). value_in x.values t.lit ≡ None)
    (sym is) free in
    step_room a.assignment a.steps.items t kept.laws.coherent in' free'

pub push_reserved-requires : goal.push_reserved-requires
push_reserved-requires c =
    let h = room c.self.inside c.args.self.now c.args.step c.self.invariant c.self.view_is c.requires.in_range
    c.requires.unassigned in
    let same : length c.self.inside.lits.items ≡ length c.self.inside.steps.items = ap length c.self.invariant.lits
    ∙ length-map c.self.inside.steps.items (λ (t : Step). t.lit) in
    let len : vec_len c.self.inside.lits ≡ length c.self.inside.lits.items = c.self.inside.lits.ok.0 in
    let room : length c.self.inside.assignment ≤ vec_capacity c.self.inside.lits = c.self.invariant.room_lits in
    omega arith

pub push_reserved-requires-2 : goal.push_reserved-requires-2
push_reserved-requires-2 c =
    let h = room c.self.inside c.args.self.now c.args.step c.self.invariant c.self.view_is c.requires.in_range
    c.requires.unassigned in
    let len : vec_len c.self.inside.steps ≡ length c.self.inside.steps.items = c.self.inside.steps.ok.0 in
    let room : length c.self.inside.assignment ≤ vec_capacity c.self.inside.steps = c.self.invariant.room_steps in
    omega arith

pub invariant_of-self : goal.invariant_of-self
invariant_of-self c =
    let a = c.self.inside in
    let t : Step = c.args.step in
    let within : t.lit.var.0 < length a.assignment = subst (λ (x : TrailState). t.lit.var.0 < length x.values)
    (sym c.self.view_is) c.requires.in_range in
    let free : value_in a.assignment t.lit ≡ None = subst (λ (x : TrailState). value_in x.values t.lit ≡ None)
    (sym c.self.view_is) c.requires.unassigned in
    let laws : IsTrail (with_step (state_of a) t) = subst (λ (x : TrailState). IsTrail (with_step x t))
    (sym c.self.view_is) c.requires.laws in
    let steps : c.push_reserved-2.new.self.items ≡ a.steps.items ++ t ∷ [] = c.push_reserved-2.ensures.items in
    let lits : c.push_reserved.new.self.items ≡ lits_of a.steps.items ++ t.lit ∷ [] = c.push_reserved.ensures.items
    ∙ ap (λ (xs : List Lit). xs ++ t.lit ∷ []) c.self.invariant.lits in
    let place : c.len-place.result ≡ length a.steps.items = c.len-place.ensures ∙ a.steps.ok.0 in
    record {
      laws = rw (c.set.ensures, steps) laws;
      lits = lits ∙ sym (map_push (λ (u : Step). u.lit) a.steps.items t) ∙ sym (ap lits_of steps);
      sized =
          let kept : length a.assignment ≤ length a.places.items = c.self.invariant.sized in
          let places : length (set a.places.items t.lit.var.0 c.len-place.result) ≡ length a.places.items =
          length-set a.places.items t.lit.var.0 c.len-place.result in
          rw (c.set.ensures, length-set) (omega arith);
      places = rw (steps, place) (places-step a.assignment a.steps.items a.places.items t c.self.invariant.laws.coherent
          within free c.self.invariant.sized c.self.invariant.places);
      room_steps = rw (c.set.ensures, length-set) (let e = c.push_reserved-2.ensures.capacity in let r =
          c.self.invariant.room_steps in omega arith);
      room_lits = rw (c.set.ensures, length-set) (let e = c.push_reserved.ensures.capacity in let r =
          c.self.invariant.room_lits in omega arith);
    }
