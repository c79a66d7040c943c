use Rattle.std.proofs.Common.{false, refl, sym, subst, arith, Contains, List}
use Rattle.std.proofs.lemmas.Bool.{both_ways}
use Rattle.lit_core.specs.declared.literals.Lit.{Lit}
use Rattle.ground_core.specs.Problems.{ProblemState, IsProblem}
use Rattle.ground_core.specs.Growth.{retiring}
use Rattle.ground_core.specs.Growing.{IsSelector}
use Rattle.kept_problem.specs.KeptFields.{state_of}
use Rattle.ground_core.specs.Selectors.{AreSelectors}
use Rattle.ground_core.proofs.SelectorFacts.{room, selectors-push}
use Rattle.kept_problem.proofs.JoinLaws.{retired-laws}
use Rattle.kept_problem.proofs.kept.KeptProblem.retire.Goals as goal

pub push_reserved-requires : goal.push_reserved-requires
push_reserved-requires c =
    let is : IsSelector (state_of c.self.inside) c.args.selector =
    subst (λ (p : ProblemState). IsSelector p c.args.selector) (sym c.self.view_is) c.requires in
    let not : Contains c.self.inside.retired.items c.args.selector → ⊥ =
    λ has. both_ways false refl (c.if-is_among.ensures.1 (subst (λ (ls : List Lit). Contains ls c.args.selector)
    (sym c.as_slice.ensures.value) has)) in
    let inv = c.self.invariant in
    let less = room c.self.inside.retired.items c.self.inside.vars c.args.selector inv.retired.once inv.retired.positive
    is.positive not inv.laws.retired is.within in
    omega (arith, less, inv.room, c.self.inside.retired.ok.0)

pub invariant_of-self : goal.invariant_of-self
invariant_of-self c =
    let is : IsSelector (state_of c.self.inside) c.args.selector =
    subst (λ (p : ProblemState). IsSelector p c.args.selector) (sym c.self.view_is) c.requires in
    let not : Contains c.self.inside.retired.items c.args.selector → ⊥ =
    λ has. both_ways false refl (c.if-is_among.ensures.1 (subst (λ (ls : List Lit). Contains ls c.args.selector)
    (sym c.as_slice.ensures.value) has)) in
    let inv = c.self.invariant in
    let e = sym c.push_reserved.ensures.items in
    record {
      laws = subst (λ (ls : List Lit). IsProblem (retiring (state_of c.self.inside) ls)) e
          (retired-laws (state_of c.self.inside) c.args.selector inv.laws is.within);
      retired = subst AreSelectors e (selectors-push c.self.inside.retired.items c.self.inside.vars c.args.selector
          inv.retired is.positive not);
      room = omega (arith, inv.room, c.push_reserved.ensures.capacity);
    }
