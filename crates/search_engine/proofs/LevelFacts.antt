-- The level of a conflict.
use Rattle.std.proofs.Common.{◌≡◌, ℕ, ◌+◌, ◌<◌, ◌≤◌, max, false, Some, List, length, take, get_or, refl, ap, subst, ◌⊎◌}
use Rattle.std.proofs.Common.{inr, ⊎_elim, arith, All, Contains}
use Rattle.std.proofs.lemmas.Bool.{cases_lt}
use Rattle.std.proofs.lemmas.List.Elements.{All-more, All-weaker, All-contains, Contains-get_or}
use Rattle.lit_core.specs.declared.literals.Lit.{Lit}
use Rattle.lit_core.specs.declared.literals.Var.{Var}
use Rattle.lit_core.specs.Literals.{value_in}
use Rattle.lit_core.specs.Truth.{IsFalsified}
use Rattle.clause_store.specs.declared.trails.Step.{Step}
use Rattle.clause_store.specs.TrailLaws.{IsStepOf}
use Rattle.clause_store.specs.StoreState.{StoreState, IsStore, IsHeld, IsConflict}
use Rattle.clause_store.proofs.WatchFacts.{same-held}
use Rattle.conflict_analysis.specs.Analyses.{IsFalseSince, IsFalseUpTo}
use Rattle.conflict_analysis.proofs.Places.{made-at}

module _ (s : StoreState) (laws : IsStore s) (id : ℕ) (lits : List Lit) (held : IsHeld s id lits)
    (conflict : IsConflict s id) where
  all-false : IsFalsified s.trail.values lits
  all-false = subst (IsFalsified s.trail.values) (same-held s id conflict.0 lits conflict.1 held) conflict.2

  found : (m : Lit) → Contains lits m → (t : Step) → IsStepOf s.trail m.var t → IsFalseSince s.trail t.level m
  found m has t w =
      let no-value : value_in s.trail.values m ≡ Some false = All-contains (λ l. value_in s.trail.values l ≡ Some false)
      lits m all-false has in (
        w.0,
        t,
        w.1,
        made-at s.trail.values s.trail.steps laws.trail.coherent m w.0 t no-value w.1
            (ap (λ (v : Var). v.0) w.2),
        refl,
      )

  module _ (i level next : ℕ) (d : Lit) (lt : i < length lits) (t : Step)
      (is : IsStepOf s.trail (get_or lits i d).var t) (up : next ≡ max level t.level) where
    here-false : IsFalseSince s.trail t.level (get_or lits i d)
    here-false = found (get_or lits i d) (Contains-get_or lits i d lt) t is

    raised : (m : Lit) → IsFalseUpTo s.trail level m → IsFalseUpTo s.trail next m
    raised m f = let le : f.1.level ≤ level = f.4 in (f.0, f.1, f.2, f.3, omega (arith, le, up))

    pub upto-more : All (IsFalseUpTo s.trail level) (take i lits) → All (IsFalseUpTo s.trail next) (take (i + 1) lits)
    upto-more h =
        let f = here-false in
        let at : f.1.level ≡ t.level = f.4 in
        All-more (IsFalseUpTo s.trail next) lits i d lt
        (All-weaker (IsFalseUpTo s.trail level) (IsFalseUpTo s.trail next) raised (take i lits) h)
        (f.0, f.1, f.2, f.3, omega (arith, at, up))

    pub here-more : (level ≡ 0) ⊎ ((m : Lit) × Contains lits m × IsFalseSince s.trail level m)
        → (next ≡ 0) ⊎ ((m : Lit) × Contains lits m × IsFalseSince s.trail next m)
    here-more h = ⊎_elim
        (λ lower.
        let same : t.level ≡ next = omega (arith, lower, up) in
        inr (
          get_or lits i d,
          Contains-get_or lits i d lt,
          subst (λ n. IsFalseSince s.trail n (get_or lits i d))
              same here-false,
        ))
        (λ higher.
        let same : level ≡ next = omega (arith, higher, up) in
        subst (λ n. (n ≡ 0) ⊎ ((m : Lit) × Contains lits m × IsFalseSince s.trail n m)) same h)
        (cases_lt level t.level)
