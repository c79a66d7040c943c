-- What is counted and noted for the sign.
use Rattle.std.proofs.Common.{◌≡◌, ◌≢◌, ℕ, ◌+◌, ◌≤◌, ◌<◌, ◌⊎◌, inl, inr, ⊎_elim, Bool, true, false, Some, None, List}
use Rattle.std.proofs.Common.{[], ◌∷◌, ◌++◌, All, Any, length, length-set, get_or, set, ap, sym, ◌∙◌, subst, arith}
use Rattle.std.proofs.lemmas.Bool.{cases_eq, cases_lt}
use Rattle.std.proofs.lemmas.Option.{same_Some}
use Rattle.std.proofs.lemmas.List.{get_or_append_left, get_or_push, get_or-set_other, get_or-set_same, length_push}
use Rattle.std.proofs.lemmas.List.Quantifiers.{Any-push}
use Rattle.lit_core.specs.declared.literals.Lit.{Lit}
use Rattle.ground_core.specs.Problems.{ProblemState}
use Rattle.ground_core.specs.Solving.{counted}
use Rattle.search_decisions.specs.declared.phases.Phases.{Phases}
use Rattle.search_decisions.specs.Phases.{IsChoiceAt, Notes, choice_of}

-- the values below n were counted
pub record CountedBelow (old : List ℕ) (values : List Bool) (n : ℕ) (new : List ℕ) : Type 0 where
  pub room : length new ≡ length old
  pub trues : (v : ℕ) → v < n → v < length old → get_or values v false ≡ true
      → get_or new v 0 ≡ counted (get_or old v 0 + 1)
  pub others : (v : ℕ) → v < n → get_or values v false ≡ false → get_or new v 0 ≡ get_or old v 0
  pub ahead : (v : ℕ) → n ≤ v → get_or new v 0 ≡ get_or old v 0

module _ {X : Type 0} (P : X → Type 0) (xs : List X) (y : X) where
  any-left : Any P xs → Any P (xs ++ y ∷ [])
  any-left h = (
    h.0,
    h.1,
    (let lt = h.2 in omega (arith, length_push xs y)),
    get_or_append_left xs (y ∷ []) h.1 h.0 h.2 ∙ h.3,
    h.4,
  )

  any-cases : Any P (xs ++ y ∷ []) → Any P xs ⊎ P y
  any-cases h = ⊎_elim
      (λ (below : h.0 < length xs). inl (
        h.0,
        h.1,
        below,
        sym (get_or_append_left xs (y ∷ []) h.1 h.0 below) ∙ h.3,
        h.4,
      ))
      (λ (above : length xs ≤ h.0).
      let lt : h.0 < length (xs ++ y ∷ []) = h.2 in
      let end : length xs ≡ h.0 = omega (arith, length_push xs y, lt, above) in
      inr (subst P (sym h.3 ∙ get_or_push xs y h.1 h.0 end) h.4))
      (cases_lt h.0 (length xs))

-- the place is noted for one variable
module _ (s : Phases) (v place : ℕ) where
  pub notes-set : (new : Phases) → choice_of s v ≡ None → v < length s.choices.items
      → new.choices.items ≡ set s.choices.items v (Some place) → Notes (λ w j. (w ≡ v) × (j ≡ place)) s new
  notes-set new none lt items = record {
    room = ap length items ∙ length-set s.choices.items v (Some place);
    kept = λ w j at. other w (λ same. none_some j (sym none ∙ sym (ap (choice_of s) same) ∙ at)) ∙ at;
    fits = λ w j at. ⊎_elim (λ same. inr (same, same_Some j place (sym at ∙ ap (choice_of new) same ∙ here)))
        (λ apart. inl (sym (other w apart) ∙ at)) (cases_eq w v);
    least = λ w j _ fit. (
      place,
      ap (choice_of new) fit.0 ∙ here,
      inr (let same : j ≡ place = fit.1 in omega (arith, same)),
    );
  }
    where
      here : choice_of new v ≡ Some place
      here = ap (λ cs. get_or cs v None) items ∙ get_or-set_same s.choices.items v (Some place) None lt

      other : (w : ℕ) → w ≢ v → choice_of new w ≡ choice_of s w
      other w apart = ap (λ cs. get_or cs w None) items ∙ get_or-set_other s.choices.items v w (Some place) None apart

      none_some : (j : ℕ) → None ≡ Some j → ⊥
      none_some j h = cc

module _ {F G H : ℕ → ℕ → Type 0} {a b c : Phases} where
  -- first some places are noted, then others that are no earlier
  pub notes-next : Notes F a b → Notes G b c → ((v k : ℕ) → F v k → H v k) → ((v k : ℕ) → G v k → H v k)
      → ((v k : ℕ) → H v k → F v k ⊎ G v k) → ((v k j : ℕ) → F v j → G v k → j ≤ k) → Notes H a c
  notes-next f g ofF ofG split order = record {
    room = g.room ∙ f.room;
    kept = λ v k is. g.kept v k (f.kept v k is);
    fits = λ v k is. ⊎_elim
        (λ before. ⊎_elim (λ (was : choice_of a v ≡ Some k). inl was) (λ (fit : F v k). inr (ofF v k fit))
        (f.fits v k before))
        (λ (fit : G v k). inr (ofG v k fit))
        (g.fits v k is);
    least = λ v k lt fit. ⊎_elim
        (λ (first : F v k). let found = f.least v k lt first in (found.0, g.kept v found.0 found.1, found.2))
        (λ (second : G v k).
        let found = g.least v k (subst (λ n. v < n) (sym f.room) lt) second in (
          found.0,
          found.1,
          ⊎_elim
              (λ (before : choice_of b v ≡ Some found.0). ⊎_elim (λ (was : choice_of a v ≡ Some found.0). inl was)
              (λ (first : F v found.0). inr (order v k found.0 first second)) (f.fits v found.0 before))
              (λ (le : found.0 ≤ k). inr le)
              found.2,
        ))
        (split v k fit);
  }

module _ {a b c : Phases} (place : ℕ) (front : List Lit) (l : Lit) where
  -- the place is noted for one literal more
  pub notes-literal : Notes (λ v k. Any (λ m. m.var.0 ≡ v) front × (k ≡ place)) a b
      → Notes (λ v k. (v ≡ l.var.0) × (k ≡ place)) b c → Notes (λ v k. Any (λ m. m.var.0 ≡ v) (front ++ l ∷ [])
      × (k ≡ place)) a c
  notes-literal f g = notes-next f g
      (λ v k h. (any-left (λ m. m.var.0 ≡ v) front l h.0, h.1))
      (λ v k h. (Any-push (λ m. m.var.0 ≡ v) front l (sym h.0), h.1))
      (λ v k h. ⊎_elim (λ (old : Any (λ m. m.var.0 ≡ v) front). inl (old, h.1))
      (λ (new : l.var.0 ≡ v). inr (sym new, h.1)) (any-cases (λ m. m.var.0 ≡ v) front l h.0))
      (λ v k j f g. let same : j ≡ place = f.1 in let too : k ≡ place = g.1 in omega (arith, same, too))

module _ {a b c : Phases} (p : ProblemState) (known place : ℕ) where
  -- the places are noted up to one more, where a choice stands
  pub notes-choice : known ≤ place → place < length p.clauses
      → All (λ l. (l.positive ≡ true) × (l.var.0 ≤ length p.atoms)) (get_or p.clauses place [])
      → Notes (λ v k. IsChoiceAt p known v k × (k < place)) a b
      → Notes (λ v k. Any (λ l. l.var.0 ≡ v) (get_or p.clauses place []) × (k ≡ place)) b c
      → Notes (λ v k. IsChoiceAt p known v k × (k < place + 1)) a c
  notes-choice later stands atoms f g = notes-next f g
      (λ v k h. (h.0, (let lt : k < place = h.1 in omega (arith, lt))))
      (λ v k h. (
        subst (λ i. IsChoiceAt p known v i) (sym h.1) (record {
          later = later;
          stands = stands;
          atoms = atoms;
          has = h.0;
        }),
        (let same : k ≡ place = h.1 in omega (arith, same)),
      ))
      (λ v k h. ⊎_elim
      (λ (below : k < place). inl (h.0, below))
      (λ (above : place ≤ k).
      let lt : k < place + 1 = h.1 in
      let same : k ≡ place = omega (arith, above, lt) in
      inr (subst (λ i. Any (λ l. l.var.0 ≡ v) (get_or p.clauses i [])) same h.0.has, same))
      (cases_lt k place))
      (λ v k j f g. let below : j < place = f.1 in let same : k ≡ place = g.1 in omega (arith, below, same))

module _ {a b : Phases} (p : ProblemState) (known place : ℕ) where
  -- the same where none stands
  pub notes-no_choice : (All (λ l. (l.positive ≡ true) × (l.var.0 ≤ length p.atoms)) (get_or p.clauses place []) → ⊥)
      → Notes (λ v k. IsChoiceAt p known v k × (k < place)) a b
      → Notes (λ v k. IsChoiceAt p known v k × (k < place + 1)) a b
  notes-no_choice none f = record {
    room = f.room;
    kept = f.kept;
    fits = λ v k is. ⊎_elim (λ (was : choice_of a v ≡ Some k). inl was) (λ (fit : IsChoiceAt p known v k × (k < place)).
        inr (fit.0, (let lt : k < place = fit.1 in omega (arith, lt)))) (f.fits v k is);
    least = λ v k room h. ⊎_elim
        (λ (below : k < place). f.least v k room (h.0, below))
        (λ (above : place ≤ k).
        let lt : k < place + 1 = h.1 in
        let same : k ≡ place = omega (arith, above, lt) in
        absurd (none (subst (λ i. All (λ l. (l.positive ≡ true) × (l.var.0 ≤ length p.atoms)) (get_or p.clauses i []))
        same h.0.atoms)))
        (cases_lt k place);
  }
