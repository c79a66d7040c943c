-- The learnt clause after the backtrack.
use Rattle.std.proofs.Common.{◌≡◌, ℕ, ◌<◌, ◌≤◌, Bool, true, false, Option, Some, None, List, length, refl, sym, ap, ◌∙◌}
use Rattle.std.proofs.Common.{inl, inr, ⊎_elim, arith, slice_get, get_or}
use Rattle.std.proofs.lemmas.Bool.{cases_lt}
use Rattle.std.proofs.lemmas.Option.{slice_get_within, get_or_from_slice_get}
use Rattle.lit_core.specs.declared.literals.Lit.{Lit}
use Rattle.lit_core.specs.Literals.{negated, value_in}
use Rattle.lit_core.specs.Truth.{IsUnitAt}
use Rattle.clause_store.specs.declared.trails.Step.{Step}
use Rattle.clause_store.specs.TrailState.{TrailState}
use Rattle.clause_store.specs.TrailLaws.{IsTrail, IsMade, CutsAt}
use Rattle.clause_store.proofs.ListFacts.{slice_get-take, slice_get-take-below}
use Rattle.clause_store.proofs.StoreFacts.{negated-true}
use Rattle.clause_store.proofs.WatchFacts.{made-false}
use Rattle.conflict_analysis.specs.Analyses.{IsUnitBackAt, IsFalseUpTo}
use Rattle.conflict_analysis.specs.Laws.{UnitAfterStepBack}
use Rattle.conflict_analysis.proofs.Places.{variable-of}

module _ (s t : TrailState) (trail : IsTrail s) (new : IsTrail t) (level : ℕ) (c : List Lit)
    (h : IsUnitBackAt s level c) (cut : CutsAt level s t) where
  -- a step that is left is one of before, of no higher level
  left-over : (k : ℕ) (u : Step) → slice_get t.steps k ≡ Some u → (slice_get s.steps k ≡ Some u) × (u.level ≤ level)
  left-over k u at = (
    (slice_get-take (length t.steps) s.steps k u (ap (λ (xs : List Step). slice_get xs k)
        (sym cut.kept) ∙ at)).0,
    cut.below k u at,
  )

  -- no step that is left has the variable of the first literal
  not-made : (l : Lit) → l.var.0 ≡ h.asserting.var.0 → IsMade t.steps l → ⊥
  not-made l same made =
      let old = left-over made.0 made.1 made.2 in
      let f = h.current in
      let one : made.0 ≡ f.0 = trail.coherent.apart made.0 f.0 made.1 f.1 old.0 f.2 (variable-of made.1.lit l made.3
      ∙ (same ∙ sym (variable-of f.1.lit (negated h.asserting) f.3))) in
      let rises : f.1.level ≤ made.1.level = trail.coherent.rising f.0 made.0 f.1 made.1
      (omega (arith, one)) f.2 old.0 in
      let low : made.1.level ≤ level = old.1 in
      let high : f.1.level ≡ s.level = f.4 in
      let less : level < s.level = h.lower in
      omega (arith, rises, low, high, less)

  open-value : (o : Option Bool) → value_in t.values h.asserting ≡ o → value_in t.values h.asserting ≡ None
  open-value None e = e
  open-value (Some true) e = absurd (not-made h.asserting refl (new.coherent.was_made h.asserting e))
  open-value (Some false) e = absurd (not-made (negated h.asserting) refl (new.coherent.was_made (negated h.asserting)
      (negated-true t.values h.asserting e)))

  still-false : (m : Lit) → IsFalseUpTo s level m → value_in t.values m ≡ Some false
  still-false m f = ⊎_elim
      (λ lt. made-false t.values t.steps m new.coherent f.0 f.1 (ap (λ (xs : List Step). slice_get xs f.0) cut.kept
      ∙ (slice_get-take-below (length t.steps) s.steps f.0 lt ∙ f.2)) f.3)
      (λ le. let up : level < f.1.level = cut.above f.0 f.1 le f.2 in let low : f.1.level ≤ level = f.4 in
      absurd (omega (arith, up, low)))
      (cases_lt f.0 (length t.steps))

  pub unit-back : (l : Lit) × (slice_get c 0 ≡ Some l) × IsUnitAt t.values c l
  unit-back = (
    h.asserting,
    h.first,
    record {
      member = (0, slice_get_within c 0 h.asserting h.first, get_or_from_slice_get c 0 h.asserting h.asserting h.first);
      unassigned = open-value (value_in t.values h.asserting) refl;
      others = λ k d lt. ⊎_elim (λ e. inl e) (λ f. inr (still-false (get_or c k d) f)) (h.others k d lt);
    },
  )

pub unit-after-step-back : UnitAfterStepBack
unit-after-step-back s t level c trail new h cut = unit-back s t trail new level c h cut
