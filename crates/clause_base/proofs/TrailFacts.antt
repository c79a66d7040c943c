-- Steps of a trail.
use Rattle.std.proofs.Common.{◌≡◌, ℕ, suc, zero, ◌<◌, ◌≤◌, ◌+◌, ◌-◌, Bool, true, false, cond, is_some, nat_le, Option}
use Rattle.std.proofs.Common.{Some, None, List, [], ◌∷◌, ◌++◌, length, get_or, set, replicate, length-append, refl, sym}
use Rattle.std.proofs.Common.{ap, ◌∙◌, ◌⊎◌, inl, inr, ⊎_elim, arith, slice_get, count_by}
use Rattle.std.proofs.lemmas.Option.{slice_get_within, slice_get-get_or, same_Some}
use Rattle.std.proofs.lemmas.List.{get_or-set_other, get_or-set_same, length_push, length-set}
use Rattle.std.proofs.lemmas.List.Sums.{count_by-le-length, sum_by-cons}
use Rattle.std.proofs.lemmas.Bool.{cases_lt, cases_eq, le-leb, leb-true, lt-leb}
use Rattle.lit_core.specs.declared.literals.Lit.{Lit}
use Rattle.lit_core.specs.declared.literals.Var.{Var}
use Rattle.lit_core.specs.Literals.{value_in, by_sign, by_sign_if_any}
use Rattle.clause_base.specs.declared.trail.Step.{Step}
use Rattle.clause_base.specs.TrailState.{TrailState}
use Rattle.clause_base.specs.TrailLaws.{IsTrail, IsCoherent, IsMade, IsDense, HasDecisions, with_step, level_after}
use Rattle.clause_base.specs.TrailLaws.{grown, cleared}
use Rattle.clause_base.specs.TrailFields.{HasPlaces}
use Rattle.clause_base.proofs.ListFacts.{slice_get-set_same, slice_get-set_other, slice_get-push_old}
use Rattle.clause_base.proofs.ListFacts.{slice_get-push_new, slice_get-push_cases, count_by-lt-length, count_by-set_yes}
use Rattle.clause_base.proofs.ListFacts.{count_by-set_no, count_by-push, count_by-le}

-- by_sign at the sign itself
pub by_sign-self : (p : Bool) → by_sign p p ≡ true
by_sign-self true = refl
by_sign-self false = refl

pub by_sign-true : (p b : Bool) → by_sign p b ≡ true → b ≡ p
by_sign-true true b h = h
by_sign-true false true h = cc
by_sign-true false false h = refl

pub some_from_sign : (p : Bool) (o : Option Bool) → by_sign_if_any p o ≡ Some true → o ≡ Some p
some_from_sign p None h = cc
some_from_sign p (Some b) h = ap Some (by_sign-true p b (same_Some _ _ h))

pub none_from_sign : (p : Bool) (o : Option Bool) → by_sign_if_any p o ≡ None → o ≡ None
none_from_sign p None h = refl
none_from_sign p (Some b) h = cc

-- a literal that is true after its variable was made so is the one that was made true
pub same_lit : (l m : Lit) → l.var.0 ≡ m.var.0 → l.positive ≡ m.positive → l ≡ m
same_lit l m e f =
    let mk : ℕ → Bool → Lit = λ v b. record { var = record { 0 = v }; positive = b } in
    ap (λ (v : ℕ). mk v l.positive) e ∙ ap (λ (b : Bool). mk m.var.0 b) f

module _ (values : List (Option Bool)) (l : Lit) (within : l.var.0 < length values) where
  abbrev made : List (Option Bool)
  made = set values l.var.0 (Some l.positive)

  made-self : value_in made l ≡ Some true
  made-self =
      let e : get_or (set values l.var.0 (Some l.positive)) l.var.0 None ≡ Some l.positive =
      get_or-set_same values l.var.0 (Some l.positive) None within in
      rw (e, by_sign-self l.positive) refl

  made-other : (m : Lit) → (m.var.0 ≡ l.var.0 → ⊥) → value_in made m ≡ value_in values m
  made-other m ne =
      let e : get_or (set values l.var.0 (Some l.positive)) m.var.0 None ≡ get_or values m.var.0 None =
      get_or-set_other values l.var.0 m.var.0 (Some l.positive) None ne in
      ap (by_sign_if_any m.positive) e

  made-same : (m : Lit) → m.var.0 ≡ l.var.0 → value_in made m ≡ Some true → m ≡ l
  made-same m e h =
      let g : get_or (set values l.var.0 (Some l.positive)) m.var.0 None ≡ Some l.positive =
      rw e (get_or-set_same values l.var.0 (Some l.positive) None within) in
      let h2 : Some (by_sign m.positive l.positive) ≡ Some true = rw g at h in
      same_lit m l e (sym (by_sign-true m.positive l.positive (same_Some _ _ h2)))

-- one more step, of an unassigned literal
module _ (values : List (Option Bool)) (steps : List Step) (t : Step) (old : IsCoherent values steps)
    (within : t.lit.var.0 < length values) (free : value_in values t.lit ≡ None) where
  no_value : get_or values t.lit.var.0 None ≡ None
  no_value = none_from_sign t.lit.positive (get_or values t.lit.var.0 None) free

  -- a literal that was true is of another variable
  other_var : (m : Lit) → value_in values m ≡ Some true → m.var.0 ≡ t.lit.var.0 → ⊥
  other_var m h e =
      let g : get_or values m.var.0 None ≡ None = rw e no_value in
      let h2 : None ≡ Some true = rw g at h in
      cc

  pub step_room : length steps < length values
  step_room =
      let at : slice_get values t.lit.var.0 ≡ Some None = slice_get-get_or values t.lit.var.0 None within
      ∙ ap Some no_value in
      let lt : count_by is_some values < length values = count_by-lt-length is_some values t.lit.var.0 None at refl in
      rw (← old.once) lt

  coherent-step : ((k : ℕ) (u : Step) → slice_get steps k ≡ Some u → u.level ≤ t.level)
      → (t.reason ≡ None → (k : ℕ) (u : Step) → slice_get steps k ≡ Some u → (t.level ≡ 0) ⊎ (u.level < t.level))
      → IsCoherent (set values t.lit.var.0 (Some t.lit.positive)) (steps ++ t ∷ [])
  coherent-step above opening = record {
    are_true = λ k u h. ⊎_elim
        (λ e. made-other values t.lit within u.lit (other_var u.lit (old.are_true k u e)) ∙ old.are_true k u e)
        (λ e. rw e.1 (made-self values t.lit within)) (slice_get-push_cases steps t k u h);
    in_range = λ k u h. rw length-set (⊎_elim (λ e. old.in_range k u e) (λ e. rw e.1 within)
        (slice_get-push_cases steps t k u h));
    was_made = λ l h. ⊎_elim
        (λ e. (length steps, t, slice_get-push_new steps t, sym (made-same values t.lit within l e h)))
        (λ ne. let w : IsMade steps l = old.was_made l (sym (made-other values t.lit within l ne) ∙ h) in
        (w.0, w.1, slice_get-push_old steps t w.0 w.1 w.2, w.3))
        (cases_eq l.var.0 t.lit.var.0);
    apart = λ i k u w hi hk e. ⊎_elim
        (λ oi. ⊎_elim
        (λ ok. old.apart i k u w oi ok e)
        (λ nk. absurd (other_var u.lit (old.are_true i u oi) (e ∙ ap (λ (x : Step). x.lit.var.0) nk.1)))
        (slice_get-push_cases steps t k w hk))
        (λ ni. ⊎_elim
        (λ ok. absurd (other_var w.lit (old.are_true k w ok) (sym e ∙ ap (λ (x : Step). x.lit.var.0) ni.1)))
        (λ nk. ni.0 ∙ sym nk.0)
        (slice_get-push_cases steps t k w hk))
        (slice_get-push_cases steps t i u hi);
    once =
        let at : slice_get values t.lit.var.0 ≡ Some None = slice_get-get_or values t.lit.var.0 None within
        ∙ ap Some no_value in
        let more = count_by-set_yes is_some values t.lit.var.0 None (Some t.lit.positive) at refl refl in
        let same : count_by is_some values + 1 ≡ length steps + 1 = ap (λ n. n + 1) old.once in
        more ∙ same ∙ sym (length_push steps t);
    rising = λ i k u w le hi hk. ⊎_elim
        (λ ok. ⊎_elim
        (λ oi. old.rising i k u w le oi ok)
        (λ ni. let lt : k < length steps = slice_get_within steps k w ok in let ie : i ≡ length steps = ni.0 in
        absurd (omega arith))
        (slice_get-push_cases steps t i u hi))
        (λ nk. rw nk.1 (⊎_elim
        (λ oi. above i u oi)
        (λ ni. rw ni.1 (omega arith))
        (slice_get-push_cases steps t i u hi)))
        (slice_get-push_cases steps t k w hk);
    opens = λ i k u w lt hi hk none. ⊎_elim
        (λ ok. ⊎_elim
        (λ oi. old.opens i k u w lt oi ok none)
        (λ ni. let kl : k < length steps = slice_get_within steps k w ok in let ie : i ≡ length steps = ni.0 in
        absurd (omega arith))
        (slice_get-push_cases steps t i u hi))
        (λ nk. ⊎_elim
        (λ oi. rw nk.1 (opening (sym (ap (λ (x : Step). x.reason) nk.1) ∙ none) i u oi))
        (λ ni. let ie : i ≡ length steps = ni.0 in let ke : k ≡ length steps = nk.0 in absurd (omega arith))
        (slice_get-push_cases steps t i u hi))
        (slice_get-push_cases steps t k w hk);
  }

-- a level is at most the number of steps
pub level-le-steps : (s : TrailState) → IsTrail s → s.level ≤ length s.steps
level-le-steps s h =
    let a : s.level ≤ count_by (λ (t : Step). nat_le t.level s.level) s.steps = h.dense s.level (omega arith) in
    let b : count_by (λ (t : Step). nat_le t.level s.level) s.steps ≤ length s.steps =
    count_by-le-length (λ (t : Step). nat_le t.level s.level) s.steps in
    omega arith

-- a step's level is the old one or the next
pub level_after-bounds : (n : ℕ) (r : Option ℕ) → (n ≤ level_after n r) × (level_after n r ≤ n + 1)
level_after-bounds n None = (omega arith, omega arith)
level_after-bounds n (Some id) = (omega arith, omega arith)

-- one more step keeps each level's step
dense-step : (steps : List Step) (level : ℕ) (t : Step) → IsDense steps level → t.level ≤ level + 1
    → IsDense (steps ++ t ∷ []) t.level
dense-step steps level t h up n le =
    let push : count_by (λ (u : Step). nat_le u.level n) (steps ++ t ∷ []) ≡ count_by (λ (u : Step). nat_le u.level n)
    steps + cond (nat_le t.level n) 1 0 = count_by-push (λ (u : Step). nat_le u.level n) steps t in
    rw push (⊎_elim
    (λ lt. let past : level ≤ count_by (λ (u : Step). nat_le u.level level) steps = h level (omega arith) in
    let more : count_by (λ (u : Step). nat_le u.level level) steps ≤ count_by (λ (u : Step). nat_le u.level n) steps =
    count_by-le (λ (u : Step). nat_le u.level level) (λ (u : Step). nat_le u.level n) steps
    (λ u e. le-leb u.level n (let a : u.level ≤ level = leb-true u.level level e in omega arith)) in
    let here : nat_le t.level n ≡ true = le-leb t.level n (omega arith) in
    rw here (omega arith))
    (λ ge. let past : n ≤ count_by (λ (u : Step). nat_le u.level n) steps = h n ge in omega arith)
    (cases_lt level n))

opening-level : (n : ℕ) (r : Option ℕ) → r ≡ None → level_after n r ≡ n + 1
opening-level n None e = refl
opening-level n (Some id) e = cc

decisions-step : (steps : List Step) (level : ℕ) (l : Lit) (r : Option ℕ) → HasDecisions steps level
    → HasDecisions (steps ++ record { lit = l; level = level_after level r; reason = r } ∷ []) (level_after level r)
decisions-step steps level l None h n pos le = ⊎_elim
    (λ lt. (
      length steps,
      record { lit = l; level = level + 1; reason = None },
      slice_get-push_new steps (record { lit = l; level = level + 1; reason = None }),
      omega arith,
      refl,
    ))
    (λ ge. let w = h n pos ge in (
      w.0,
      w.1,
      slice_get-push_old steps
          (record { lit = l; level = level + 1; reason = None }) w.0 w.1 w.2,
      w.3,
      w.4,
    ))
    (cases_lt level n)
decisions-step steps level l (Some id) h n pos le = let w = h n pos le in
    (w.0, w.1, slice_get-push_old steps (record { lit = l; level = level; reason = Some id }) w.0 w.1 w.2, w.3, w.4)

-- the laws after one more step
pub trail-step : (s : TrailState) (l : Lit) (r : Option ℕ) → IsTrail s → l.var.0 < length s.values → value_in s.values l
    ≡ None → IsTrail (with_step s (record { lit = l; level = level_after s.level r; reason = r }))
trail-step s l r h within free =
    let next : ℕ = level_after s.level r in
    let t : Step = record { lit = l; level = next; reason = r } in
    let up : (s.level ≤ next) × (next ≤ s.level + 1) = level_after-bounds s.level r in
    record {
      coherent = coherent-step s.values s.steps t h.coherent within free (λ k u e. let a : u.level ≤ s.level =
          h.top k u e in let b : s.level ≤ next = up.0 in omega arith)
          (λ none k u e. inr (let a : u.level ≤ s.level = h.top k u e in rw (opening-level s.level r none)
          (omega arith)));
      top = λ k u e. ⊎_elim (λ o. let a : u.level ≤ s.level = h.top k u o in let b : s.level ≤ next = up.0 in
          omega arith) (λ n. rw n.1 (omega arith)) (slice_get-push_cases s.steps t k u e);
      dense = dense-step s.steps s.level t h.dense up.1;
      decisions = decisions-step s.steps s.level l r h.decisions;
    }

-- the places after one more step
pub places-step : (values : List (Option Bool)) (steps : List Step) (places : List ℕ) (t : Step)
    → IsCoherent values steps → t.lit.var.0 < length values → value_in values t.lit ≡ None
    → length values ≤ length places → HasPlaces places steps → HasPlaces (set places t.lit.var.0 (length steps))
    (steps ++ t ∷ [])
places-step values steps places t old within free sized h k u e = ⊎_elim
    (λ o. let ne : u.lit.var.0 ≡ t.lit.var.0 → ⊥ = other_var values steps t old within free u.lit (old.are_true k u o)
    in slice_get-set_other places t.lit.var.0 u.lit.var.0 (length steps) ne ∙ h k u o)
    (λ n. let lt : t.lit.var.0 < length places = omega arith in
    rw (n.1, n.0) (slice_get-set_same places t.lit.var.0 (length steps) lt))
    (slice_get-push_cases steps t k u e)

-- a variable with a value got it by a step
pub made-by : (values : List (Option Bool)) (steps : List Step) → IsCoherent values steps → (v : Var)
    → (get_or values v.0 None ≡ None → ⊥) → (k : ℕ) × (t : Step) × (slice_get steps k ≡ Some t) × (t.lit.var ≡ v)
made-by values steps h v some = by_value (get_or values v.0 None) refl
  where
    by_value : (o : Option Bool) → get_or values v.0 None ≡ o → (k : ℕ) × (t : Step) × (slice_get steps k ≡ Some t)
        × (t.lit.var ≡ v)
    by_value None e = absurd (some e)
    by_value (Some b) e =
        let l : Lit = record { var = v; positive = b } in
        let is : value_in values l ≡ Some true = rw (e, by_sign-self b) refl in
        let m : IsMade steps l = h.was_made l is in
        (m.0, m.1, m.2, ap (λ (x : Lit). x.var) m.3)

-- the last step is taken off
module _ (values : List (Option Bool)) (steps : List Step) (t : Step) (old : IsCoherent values (steps ++ t ∷ [])) where
  last-at : slice_get (steps ++ t ∷ []) (length steps) ≡ Some t
  last-at = slice_get-push_new steps t

  pub last-in_range : t.lit.var.0 < length values
  last-in_range = old.in_range (length steps) t last-at

  -- a step before it is of another variable
  earlier-other : (k : ℕ) (u : Step) → slice_get steps k ≡ Some u → u.lit.var.0 ≡ t.lit.var.0 → ⊥
  earlier-other k u h e =
      let lt : k < length steps = slice_get_within steps k u h in
      let same : k ≡ length steps = old.apart k (length steps) u t (slice_get-push_old steps t k u h) last-at e in
      omega arith

  unmade-other : (l : Lit) → (l.var.0 ≡ t.lit.var.0 → ⊥) → value_in (set values t.lit.var.0 None) l ≡ value_in values l
  unmade-other l ne =
      let e : get_or (set values t.lit.var.0 None) l.var.0 None ≡ get_or values l.var.0 None =
      get_or-set_other values t.lit.var.0 l.var.0 None None ne in
      ap (by_sign_if_any l.positive) e

  unmade-same : (l : Lit) → l.var.0 ≡ t.lit.var.0 → value_in (set values t.lit.var.0 None) l ≡ None
  unmade-same l e =
      let g : get_or (set values t.lit.var.0 None) l.var.0 None ≡ None =
      rw e (get_or-set_same values t.lit.var.0 None None last-in_range) in
      ap (by_sign_if_any l.positive) g

  last-value : get_or values t.lit.var.0 None ≡ Some t.lit.positive
  last-value = some_from_sign t.lit.positive (get_or values t.lit.var.0 None) (old.are_true (length steps) t last-at)

  pub coherent-pop : IsCoherent (set values t.lit.var.0 None) steps
  coherent-pop = record {
    are_true = λ k u h. unmade-other u.lit (earlier-other k u h) ∙ old.are_true k u (slice_get-push_old steps t k u h);
    in_range = λ k u h. rw length-set (old.in_range k u (slice_get-push_old steps t k u h));
    was_made = λ l h. ⊎_elim
        (λ e. absurd (let n = unmade-same l e in let n2 : None ≡ Some true = sym n ∙ h in cc))
        (λ ne. let w : IsMade (steps ++ t ∷ []) l = old.was_made l (sym (unmade-other l ne) ∙ h) in
        ⊎_elim (λ o. (w.0, w.1, o, w.3)) (λ n. absurd (ne (ap (λ (x : Lit). x.var.0) (sym w.3)
        ∙ ap (λ (x : Step). x.lit.var.0) n.1))) (slice_get-push_cases steps t w.0 w.1 w.2))
        (cases_eq l.var.0 t.lit.var.0);
    apart = λ i k u w hi hk e. old.apart i k u w (slice_get-push_old steps t i u hi)
        (slice_get-push_old steps t k w hk) e;
    once =
        let at : slice_get values t.lit.var.0 ≡ Some (Some t.lit.positive) =
        slice_get-get_or values t.lit.var.0 None last-in_range ∙ ap Some last-value in
        let less = count_by-set_no is_some values t.lit.var.0 (Some t.lit.positive) None at refl refl in
        let all : count_by is_some values ≡ length steps + 1 = old.once ∙ length_push steps t in
        omega arith;
    rising = λ i k u w le hi hk. old.rising i k u w le (slice_get-push_old steps t i u hi)
        (slice_get-push_old steps t k w hk);
    opens = λ i k u w lt hi hk none. old.opens i k u w lt (slice_get-push_old steps t i u hi)
        (slice_get-push_old steps t k w hk) none;
  }

  -- the other steps keep their places
  pub places-pop : (places : List ℕ) → HasPlaces places (steps ++ t ∷ []) → HasPlaces places steps
  places-pop places h k u e = h k u (slice_get-push_old steps t k u e)

-- levels below that of the step that is taken off keep their steps
pub dense-pop : (steps : List Step) (t : Step) (level : ℕ) → level < t.level → IsDense (steps ++ t ∷ []) level
    → IsDense steps level
dense-pop steps t level lt h n le =
    let push : count_by (λ (u : Step). nat_le u.level n) (steps ++ t ∷ []) ≡ count_by (λ (u : Step). nat_le u.level n)
    steps + cond (nat_le t.level n) 1 0 = count_by-push (λ (u : Step). nat_le u.level n) steps t in
    let off : nat_le t.level n ≡ false = lt-leb t.level n (omega arith) in
    let push2 : count_by (λ (u : Step). nat_le u.level n) (steps ++ t ∷ []) ≡ count_by (λ (u : Step). nat_le u.level n)
    steps + 0 = rw off at push in
    let old : n ≤ count_by (λ (u : Step). nat_le u.level n) (steps ++ t ∷ []) = h n le in
    omega arith

pub decisions-pop : (steps : List Step) (t : Step) (level : ℕ) → level < t.level → HasDecisions (steps ++ t ∷ []) level
    → HasDecisions steps level
decisions-pop steps t level lt h n pos le =
    let w = h n pos le in
    ⊎_elim
    (λ o. (w.0, w.1, o, w.3, w.4))
    (λ x. let same : w.1.level ≡ t.level = ap (λ (y : Step). y.level) x.1 in let is : w.1.level ≡ n = w.3 in
    absurd (omega arith))
    (slice_get-push_cases steps t w.0 w.1 w.2)

pub decisions-lower : (steps : List Step) (level low : ℕ) → low ≤ level → HasDecisions steps level
    → HasDecisions steps low
decisions-lower steps level low le h n pos k = h n pos (omega arith)

-- with a lower level at the top
pub dense-lower : (steps : List Step) (level low : ℕ) → low ≤ level → IsDense steps level → IsDense steps low
dense-lower steps level low le h n k = h n (omega arith)

-- a literal that is made true at level 0 without a decision
pub trail-fix : (s : TrailState) (l : Lit) → IsTrail s → s.level ≡ 0 → l.var.0 < length s.values → value_in s.values l
    ≡ None → IsTrail (with_step s (record { lit = l; level = 0; reason = None }))
trail-fix s l h zero_level within free =
    let t : Step = record { lit = l; level = 0; reason = None } in
    record {
      coherent = coherent-step s.values s.steps t h.coherent within free (λ k u e. let a : u.level ≤ s.level =
          h.top k u e in omega arith) (λ none k u e. inl refl);
      top = λ k u e. ⊎_elim (λ o. let a : u.level ≤ s.level = h.top k u o in omega arith) (λ n. rw n.1 (omega arith))
          (slice_get-push_cases s.steps t k u e);
      dense = λ n le. omega arith;
      decisions = λ n pos le. absurd (omega arith);
    }

-- unassigned variables at the end change no value
get_or-grown : (values : List (Option Bool)) (n v : ℕ) → get_or (values ++ replicate n None) v None
    ≡ get_or values v None
get_or-grown [] zero v = refl
get_or-grown [] (suc n) zero = refl
get_or-grown [] (suc n) (suc v) = get_or-grown [] n v
get_or-grown (x ∷ values) n zero = refl
get_or-grown (x ∷ values) n (suc v) = get_or-grown values n v

count_by-grown : (values : List (Option Bool)) (n : ℕ) → count_by is_some (values ++ replicate n None)
    ≡ count_by is_some values
count_by-grown [] zero = refl
count_by-grown [] (suc n) =
    let none : Option Bool = None in
    let step : count_by is_some (none ∷ replicate n none) ≡ 0 + count_by is_some (replicate n none) =
    sum_by-cons (λ (x : Option Bool). cond (is_some x) 1 0) none (replicate n none) in
    let rest : count_by is_some (replicate n none) ≡ 0 = count_by-grown [] n in
    omega arith
count_by-grown (x ∷ values) n =
    let after : count_by is_some (x ∷ (values ++ replicate n None)) ≡ cond (is_some x) 1 0 + count_by is_some
    (values ++ replicate n None) = sum_by-cons (λ x. cond (is_some x) 1 0) x (values ++ replicate n None) in
    let before : count_by is_some (x ∷ values) ≡ cond (is_some x) 1 0 + count_by is_some values =
    sum_by-cons (λ x. cond (is_some x) 1 0) x values in
    after ∙ ap (λ m. cond (is_some x) 1 0 + m) (count_by-grown values n) ∙ sym before

value_in-grown : (values : List (Option Bool)) (n : ℕ) (l : Lit) → value_in (values ++ replicate n None) l
    ≡ value_in values l
value_in-grown values n l = ap (by_sign_if_any l.positive) (get_or-grown values n l.var.0)

-- unassigned variables at the end keep the laws
pub coherent-grown : (values : List (Option Bool)) (steps : List Step) (n : ℕ) → IsCoherent values steps
    → IsCoherent (values ++ replicate n None) steps
coherent-grown values steps n h = record {
  are_true = λ k t e. value_in-grown values n t.lit ∙ h.are_true k t e;
  in_range = λ k t e. let a : t.lit.var.0 < length values = h.in_range k t e in rw length-append (omega arith);
  was_made = λ l e. h.was_made l (sym (value_in-grown values n l) ∙ e);
  apart = h.apart;
  once = count_by-grown values n ∙ h.once;
  rising = h.rising;
  opens = h.opens;
}

pub trail-more : (s : TrailState) (n : ℕ) → IsTrail s → IsTrail (record {
  values = s.values ++ replicate n None;
  steps =
      s.steps;
  level = s.level;
})
trail-more s n h = record {
  coherent = coherent-grown s.values s.steps n h.coherent;
  top = h.top;
  dense = h.dense;
  decisions = h.decisions;
}

pub trail-grown : (s : TrailState) (n : ℕ) → IsTrail s → IsTrail (grown n s)
trail-grown s n h = trail-more s (n - length s.values) h

-- with no step no variable has a value
pub all-unassigned : (values : List (Option Bool)) → count_by is_some values ≡ 0
    → values ≡ replicate (length values) None
all-unassigned [] h = refl
all-unassigned (None ∷ values) h =
    let none : Option Bool = None in
    let step : count_by is_some (none ∷ values) ≡ 0 + count_by is_some values =
    sum_by-cons (λ (x : Option Bool). cond (is_some x) 1 0) none values in
    ap (λ (xs : List (Option Bool)). none ∷ xs) (all-unassigned values (omega arith))
all-unassigned (Some b ∷ values) h =
    let step : count_by is_some (Some b ∷ values) ≡ 1 + count_by is_some values =
    sum_by-cons (λ x. cond (is_some x) 1 0) (Some b) values in
    absurd (omega arith)

no-steps : (n : ℕ) → IsCoherent (replicate n None) []
no-steps n = record {
  are_true = λ k t e. cc;
  in_range = λ k t e. cc;
  was_made = λ l e. (let same : value_in (replicate n None) l ≡ None = value_in-grown [] n l in
      let x : None ≡ Some true = sym same ∙ e in cc);
  apart = λ i k t u e f same. cc;
  once = count_by-grown [] n;
  rising = λ i k t u le e f. cc;
  opens = λ i k t u lt e f none. cc;
}

pub trail-cleared : (s : TrailState) → IsTrail (cleared s)
trail-cleared s = record {
  coherent = no-steps (length s.values);
  top = λ k t e. cc;
  dense = λ n le. omega arith;
  decisions = λ n pos le. absurd (omega arith);
}
