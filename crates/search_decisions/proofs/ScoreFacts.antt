-- Lists of unassigned variables, and scores.
use Rattle.std.proofs.Common.{◌≡◌, ℕ, ◌+◌, ◌<◌, ◌≤◌, Bool, Option, Some, None, List, [], ◌∷◌, ◌++◌}
use Rattle.std.proofs.Common.{length, get_or, refl, sym, ap, ◌∙◌, subst, inl, inr, ◌⊎◌, ⊎_elim}
use Rattle.std.proofs.Common.{arith, Any, Contains}
use Rattle.std.specs.Prelude.{IsSome}
use Rattle.std.proofs.lemmas.Bool.{cases_eq, cases_lt}
use Rattle.std.proofs.lemmas.List.{length_push, length-map, map_push}
use Rattle.std.proofs.lemmas.List.Elements.{All-nil, All-push, All-weaker, Contains-append_left, Contains-append_right}
use Rattle.std.proofs.lemmas.List.Elements.{Contains-push, Contains-push_cases}
use Rattle.std.proofs.lemmas.Option.{slice_get-get_or, get_or_from_slice_get}
use Rattle.std.proofs.lemmas.Int.{clamps}
use Rattle.lit_core.specs.declared.literals.Lit.{Lit}
use Rattle.ground_core.specs.Solving.{counted}
use Rattle.clause_store.proofs.ListFacts.{slice_get-push_new, slice_get-push_old}
use Rattle.search_decisions.specs.Scores.{AreListed, AreListedFirst, IsOpenBetween, Raises, score_of}
use Rattle.search_decisions.specs.declared.scores.Scores.{Scores}
use Rattle.search_decisions.specs.Scores.{HaveValues}

none-nothing : (v : ℕ) → Contains [] v → ⊥
none-nothing v w = let lt : w.0 < 0 = w.1 in omega arith

-- nothing is listed yet
pub listed-none : (scores : List ℕ) (values : List (Option Bool)) (from : ℕ) → AreListed scores values from from [] []
listed-none scores values from = record {
  scored = refl;
  each = All-nil (IsOpenBetween values from from);
  all = λ v w. let a : from ≤ v = w.0 in let b : v < from = w.1 in absurd (omega (arith, a, b));
  rising = λ i j less lt. absurd (omega (arith, lt));
}

wider : (values : List (Option Bool)) (from n v : ℕ) → IsOpenBetween values from n v
    → IsOpenBetween values from (n + 1) v
wider values from n v w = let b : v < n = w.1 in (w.0, omega (arith, b), w.2)

-- the next variable has a value
pub listed-skips : (scores : List ℕ) (values : List (Option Bool)) (from n : ℕ) (vars listed : List ℕ)
    → (get_or values n None ≡ None → ⊥) → AreListed scores values from n vars listed
    → AreListed scores values from (n + 1) vars listed
listed-skips scores values from n vars listed some h = record {
  scored = h.scored;
  each = All-weaker (IsOpenBetween values from n) (IsOpenBetween values from (n + 1)) (wider values from n) vars h.each;
  all = λ v w. ⊎_elim
      (λ (e : v ≡ n). absurd (some (subst (λ (k : ℕ). get_or values k None ≡ None) e w.2)))
      (λ ne. let b : v < n + 1 = w.1 in h.all v (w.0, omega (arith, b, ne), w.2))
      (cases_eq v n);
  rising = h.rising;
}

push-old : (xs : List ℕ) (y k : ℕ) → k < length xs → get_or (xs ++ y ∷ []) k 0 ≡ get_or xs k 0
push-old xs y k lt = get_or_from_slice_get (xs ++ y ∷ []) k (get_or xs k 0) 0 (slice_get-push_old xs y k (get_or xs k 0)
    (slice_get-get_or xs k 0 lt))

push-new : (xs : List ℕ) (y : ℕ) → get_or (xs ++ y ∷ []) (length xs) 0 ≡ y
push-new xs y = get_or_from_slice_get (xs ++ y ∷ []) (length xs) y 0 (slice_get-push_new xs y)

-- the next variable is unassigned
pub listed-takes : (scores : List ℕ) (values : List (Option Bool)) (from n : ℕ) (vars listed : List ℕ) → from ≤ n
    → get_or values n None ≡ None → AreListed scores values from n vars listed → AreListed scores values from (n + 1)
    (vars ++ n ∷ []) (listed ++ score_of scores n ∷ [])
listed-takes scores values from n vars listed le none h =
    let len : length (vars ++ n ∷ []) ≡ length vars + 1 = length_push vars n in
    record {
      scored = ap (λ (xs : List ℕ). xs ++ score_of scores n ∷ []) h.scored ∙ sym (map_push (score_of scores) vars n);
      each = All-push (IsOpenBetween values from (n + 1)) vars n (All-weaker (IsOpenBetween values from n)
          (IsOpenBetween values from (n + 1)) (wider values from n) vars h.each) (le, omega arith, none);
      all = λ v w. ⊎_elim
          (λ (e : v ≡ n). subst (Contains (vars ++ n ∷ [])) (sym e) (Contains-push vars n))
          (λ ne. let b : v < n + 1 = w.1 in Contains-append_left vars (n ∷ []) v
          (h.all v (w.0, omega (arith, b, ne), w.2)))
          (cases_eq v n);
      rising = λ i j less lt. ⊎_elim
          (λ (old : j < length vars).
          let a : get_or (vars ++ n ∷ []) i 0 ≡ get_or vars i 0 = push-old vars n i (omega (arith, less, old)) in
          let b : get_or (vars ++ n ∷ []) j 0 ≡ get_or vars j 0 = push-old vars n j old in
          let r : get_or vars i 0 < get_or vars j 0 = h.rising i j less old in
          omega (arith, a, b, r))
          (λ (new : length vars ≤ j).
          let is : j ≡ length vars = omega (arith, new, lt, len) in
          let a : get_or (vars ++ n ∷ []) i 0 ≡ get_or vars i 0 = push-old vars n i (omega (arith, less, is)) in
          let b : get_or (vars ++ n ∷ []) j 0 ≡ n = ap (λ k. get_or (vars ++ n ∷ []) k 0) is ∙ push-new vars n in
          let r : get_or vars i 0 < n = (h.each i 0 (omega (arith, less, is))).1 in
          omega (arith, a, b, r))
          (cases_lt j (length vars));
    }

-- as many scores as variables
pub listed-length : (scores : List ℕ) (values : List (Option Bool)) (from end : ℕ) (vars listed : List ℕ)
    → AreListed scores values from end vars listed → length listed ≡ length vars
listed-length scores values from end vars listed h = ap length h.scored ∙ length-map vars (score_of scores)

-- where nothing is listed all variables have values
pub listed-values : (scores : List ℕ) (values : List (Option Bool)) (from end : ℕ) (vars listed : List ℕ)
    → AreListed scores values from end vars listed → length vars ≡ 0 → HaveValues values from end
listed-values scores values from end vars listed h empty k low high = by_value (get_or values k None) refl
  where
    by_value : (o : Option Bool) → get_or values k None ≡ o → IsSome (get_or values k None)
    by_value (Some b) e = subst (λ (o : Option Bool). IsSome o) (sym e) refl
    by_value None e = absurd (let w : Contains vars k = h.all k (low, high, e) in let lt : w.0 < length vars = w.1 in
        omega (arith, lt, empty))

any-none : (P : Lit → Type 0) → Any P [] → ⊥
any-none P w = let lt : w.0 < 0 = w.2 in omega arith

any-push-cases : (P : Lit → Type 0) (xs : List Lit) (y : Lit) → Any P (xs ++ y ∷ []) → Any P xs ⊎ Any P (y ∷ [])
any-push-cases P xs y w = ⊎_elim
    (λ o. inl (o.0, w.1, o.1, o.2, w.4))
    (λ (e : y ≡ w.1). inr (0, w.1, omega arith, e, w.4))
    (Contains-push_cases xs y w.1 (w.0, w.2, w.3))

any-push-old : (P : Lit → Type 0) (xs : List Lit) (y : Lit) → Any P xs → Any P (xs ++ y ∷ [])
any-push-old P xs y w = let has = Contains-append_left xs (y ∷ []) w.1 (w.0, w.2, w.3) in
    (has.0, w.1, has.1, has.2, w.4)

any-push-new : (P : Lit → Type 0) (xs : List Lit) (y : Lit) → Any P (y ∷ []) → Any P (xs ++ y ∷ [])
any-push-new P xs y w = let has = Contains-append_right xs (y ∷ []) w.1 (w.0, w.2, w.3) in
    (has.0, w.1, has.1, has.2, w.4)

-- the variable of one more literal was raised
pub raises-more : (xs : List Lit) (y : Lit) (a b c : List ℕ) → Raises xs a b → Raises (y ∷ []) b c
    → Raises (xs ++ y ∷ []) a c
raises-more xs y a b c f g = record {
  room = g.room ∙ f.room;
  rises = λ v. omega (arith, clamps, f.rises v, g.rises v);
  more = λ v lt any. ⊎_elim
      (λ o. let m : counted (score_of a v + 1) ≤ score_of b v = f.more v lt o in omega (arith, clamps, m, g.rises v))
      (λ n. let m : counted (score_of b v + 1) ≤ score_of c v = g.more v (subst (λ n. v < n) (sym f.room) lt) n in
      omega (arith, clamps, m, f.rises v))
      (any-push-cases (λ l. l.var.0 ≡ v) xs y any);
  others = λ v none. g.others v (λ n. none (any-push-new (λ l. l.var.0 ≡ v) xs y n))
      ∙ f.others v (λ o. none (any-push-old (λ l. l.var.0 ≡ v) xs y o));
}

-- the first variables have values, and the others
pub values-twice : (values : List (Option Bool)) (from mid end : ℕ) → HaveValues values from mid
    → HaveValues values mid end → HaveValues values from end
values-twice values from mid end a b k low high = ⊎_elim
    (λ (lt : k < mid). a k low lt)
    (λ (le : mid ≤ k). b k le high)
    (cases_lt k mid)

-- where nothing is listed all variables have values
pub first-values : (scores : List ℕ) (values : List (Option Bool)) (first end : ℕ) (s : Scores)
    → AreListedFirst scores values first end s → length s.listed.items ≡ 0 → HaveValues values 1 end
first-values scores values first end s h empty = ⊎_elim
    (λ (w : AreListed scores values 1 first s.open.items s.listed.items × (0 < length s.listed.items)). let lt : 0
    < length s.listed.items = w.1 in absurd (omega (arith, lt, empty)))
    (λ (w : AreListed scores values 1 first [] [] × AreListed scores values first end s.open.items s.listed.items).
    let none : length s.open.items ≡ 0 = sym (listed-length scores values first end s.open.items s.listed.items w.1)
    ∙ empty in
    values-twice values 1 first end (listed-values scores values 1 first [] [] w.0 refl)
    (listed-values scores values first end s.open.items s.listed.items w.1 none))
    h.part

-- nothing was listed
pub listed-empty : (scores : List ℕ) (values : List (Option Bool)) (from end : ℕ) (vars listed : List ℕ)
    → AreListed scores values from end vars listed → length listed ≡ 0 → AreListed scores values from end [] []
listed-empty scores values from end [] [] h empty = h
listed-empty scores values from end (v ∷ vars) [] h empty = absurd (let e : 0 ≡ length (v ∷ vars) =
    listed-length scores values from end (v ∷ vars) [] h in omega (arith, e))
listed-empty scores values from end vars (x ∷ listed) h empty = absurd (omega (arith, empty))
