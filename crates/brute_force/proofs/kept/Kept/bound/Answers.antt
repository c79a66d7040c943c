use Rattle.std.proofs.Common.{◌≡◌, ◌<◌, ◌++◌, ◌∷◌, [], true, List, All, eqb, length, refl, sym, ap, ◌∙◌, subst, arith}
use Rattle.std.specs.List.{IsDistinct}
use Rattle.lit_core.specs.declared.literals.Lit.{Lit}
use Rattle.ground_core.specs.declared.parts.TermBound.{TermBound}
use Rattle.ground_core.specs.Problems.{ProblemState, IsProblem}
use Rattle.ground_core.specs.Meaning.{HasTermsInRange}
use Rattle.ground_core.specs.Growth.{next_lit, with_bound, with_var}
use Rattle.ground_core.proofs.GrowthFacts.{bound-problem, bound-restricts}
use Rattle.brute_force.specs.KeptFields.{state_of, numbers_of, with_both}
use Rattle.brute_force.proofs.TrialFacts.{range-more}
use Rattle.brute_force.proofs.kept.Kept.bound.Goals as goal

pub invariant_of-self-2 : goal.invariant_of-self-2
invariant_of-self-2 c =
    let inv = c.self.invariant in
    let p : ProblemState = c.self.inside.problem in
    let s : ProblemState = state_of c.self.inside in
    let term = c.args.term in
    let below = c.args.below in
    let lt : term < length s.terms = subst (λ (q : ProblemState). term < length q.terms) (sym c.self.view_is)
    c.requires in
    let made : c.add_var.new.self ≡ with_var p = c.in_ok-out.ensures.made.1 in
    let old : List TermBound = c.self.inside.bounds.items in
    let more : c.push_reserved.new.self.items ≡ old ++ record { out = next_lit p; term = term; below = below } ∷ [] =
    c.push_reserved.ensures.items
    ∙ ap (λ (bs : List TermBound). bs ++ record { out = c.in_ok-out.out; term = term; below = below } ∷ [])
    c.in_ok-reserve-2.ensures.items
    ∙ ap (λ (l : Lit). old ++ record { out = l; term = term; below = below } ∷ []) c.in_ok-out.ensures.made.0 in
    let e = sym c.in_ok-reserve.ensures.items in
    let same : with_both c.add_var.new.self c.push_reserved.new.self.items c.reserve.new.self.items
    ≡ with_bound s term below =
    ap (λ (q : ProblemState). with_both q c.push_reserved.new.self.items c.reserve.new.self.items) made
    ∙ ap (λ (bs : List TermBound). with_both (with_var p) bs c.reserve.new.self.items) more
    ∙ ap (λ (ls : List Lit). with_both (with_var p)
    (old ++ record { out = next_lit p; term = term; below = below } ∷ []) ls) c.in_ok-reserve.ensures.items in record {
      bounds = ap (λ (q : ProblemState). q.bounds) made ∙ inv.bounds;
      active = ap (λ (q : ProblemState). q.retired) made ∙ inv.active;
      laws = subst IsProblem (sym same) (bound-problem s term below lt inv.laws);
      range = subst HasTermsInRange (sym same) (range-more s (with_bound s term below) refl
          (bound-restricts s term below) inv.range);
      once = subst (λ (ls : List Lit). IsDistinct eqb (numbers_of ls)) e inv.once;
      positive = subst (λ (ls : List Lit). All (λ (l : Lit). l.positive ≡ true) ls) e inv.positive;
      room = omega (
        arith,
        ap (λ (q : ProblemState). q.vars) made,
        c.in-Some.ensures,
        c.vars.ensures.value,
        c.in_ok-reserve.ensures.ok,
      );
    }
