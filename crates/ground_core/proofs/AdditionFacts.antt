-- Problems that grow by additions whose selectors are retired.
use Rattle.std.proofs.Common.{◌<◌, ◌≤◌, List, refl, subst, arith, inl, inr, ⊎_elim}
use Rattle.std.proofs.lemmas.List.Elements.{All-contains, Contains-push_cases}
use Rattle.lit_core.specs.declared.literals.Lit.{Lit}
use Rattle.ground_core.specs.Problems.{ProblemState, IsLitOf, AreLitsOf}
use Rattle.ground_core.specs.Growth.{next_lit}
use Rattle.ground_core.specs.Solving.{AreUnretired}
use Rattle.ground_core.specs.Calls.{GrowsByAdditions}
use Rattle.ground_core.specs.Laws.{RetiredBoundsAreAdditions}
use Rattle.ground_core.proofs.GrowthFacts.{retired-conserves}

pub nothing-added : (p : ProblemState) → GrowsByAdditions p p
nothing-added p = record {
  conserves = record {
    grows = omega arith;
    atoms = refl;
    terms = refl;
    restricts = λ v s. s;
    extends = λ v s. (v, (λ k low high. refl), (λ k low high. absurd (omega (arith, low, high))), s);
  };
  retired = λ l h. inl h;
}

pub retired-bound-added : RetiredBoundsAreAdditions
retired-bound-added p q term n fine h = record {
  conserves = retired-conserves q term n fine p h.conserves;
  retired = λ l has. ⊎_elim
      (λ old. h.retired l old)
      (λ is. inr (subst (λ (k : Lit). p.vars < k.var.0) is (let x : p.vars ≤ q.vars = h.conserves.grows in
      omega (arith, x))))
      (Contains-push_cases q.retired (next_lit q) l has);
}

module _ (p q : ProblemState) (h : GrowsByAdditions p q) (assumed : List Lit) (lits : AreLitsOf p.vars assumed) where
  pub still-lits : AreLitsOf q.vars assumed
  still-lits = λ k d lt. (
    (lits k d lt).0,
    let x : p.vars ≤ q.vars = h.conserves.grows in
        omega (arith, x, (lits k d lt).1),
  )

  pub still-unretired : AreUnretired p assumed → AreUnretired q assumed
  still-unretired not = λ l gone has. ⊎_elim
      (λ old. not l old has)
      (λ new. let x : l.var.0 ≤ p.vars = (All-contains (IsLitOf p.vars) assumed l lits has).1 in omega (arith, x, new))
      (h.retired l gone)
