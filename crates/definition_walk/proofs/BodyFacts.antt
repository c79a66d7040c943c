-- Bodies in lists.
use Rattle.std.proofs.Common.{◌≡◌, ◌<◌, ◌≤◌, ℕ, zero, suc, ◌+◌, List, [], ◌∷◌, ◌++◌, map, filter, fold, length, set}
use Rattle.std.proofs.Common.{slice_get, take}
use Rattle.std.proofs.Common.{Bool, true, false, ◌||◌, Some, cond, nat_eq, if◌then◌else◌, refl, sym, ap, subst, ◌∙◌}
use Rattle.std.proofs.Common.{arith, get_or, inl, inr, eq-eqb}
use Rattle.std.specs.List.{AllByRecursion}
use Rattle.std.specs.Global.{Vec}
use Rattle.std.specs.Vec.{with_item}
use Rattle.std.proofs.lemmas.Bool.{cases_Bool, eqb-true}
use Rattle.std.proofs.lemmas.List.{length-set, length-map, map-set, map_push}
use Rattle.std.proofs.lemmas.Option.{slice_get-get_or}
use Rattle.clause_base.proofs.ListFacts.{slice_get-mapped, slice_get-set_same, slice_get-set_other}
use Rattle.lit_core.specs.declared.literals.Lit.{Lit}
use Rattle.ground_core.specs.Problems.{ProblemState}
use Rattle.ground_core.specs.GateClauses.{with_sign}
use Rattle.def_ground.specs.declared.answers.Answer.{Answer}
use Rattle.def_ground.specs.declared.answers.Answer.TheVariants.{Constant, Literal}
use Rattle.def_ground.specs.Forms.{settles}
use Rattle.term_values.proofs.Offsets.{some-same}
use Rattle.kb_logic.proofs.Has.{has_get, contains_from}
use Rattle.kb_logic.proofs.Members.{all_in}
use Rattle.lit_core.specs.Literals.{negated}
use Rattle.ground_core.specs.Growth.{with_clause}
use Rattle.ground_core.specs.GateClauses.{clauses_of_join}
use Rattle.term_values.specs.GroundBases.{GroundBase, known_of}
use Rattle.def_ground.specs.Cases.{with_clauses}
use Rattle.def_ground.specs.Forms.{answer_of_atom}
use Rattle.def_ground.proofs.WithClauses.{with_one}
use Rattle.def_ground.proofs.Growing.{lit-more}
use Rattle.def_ground.specs.Answers.{AnswerWithin}
use Rattle.def_ground.specs.Definitions.{bodies_of, settled_by, complete, complete_atom}
use Rattle.definition_walk.specs.Lists.{lists_of, HaveBodies, AllWithin, AreWithin, numbers_from}

-- the bodies with one more
bodies-step : (t : Bool) (x y : ℕ × Answer) (n : ℕ) (as' cs : List Answer) → as' ≡ cs ++ bodies_of n (x ∷ [])
    → (if t then y.1 ∷ as' else as') ≡ (if t then y.1 ∷ cs else cs) ++ bodies_of n (x ∷ [])
bodies-step true x y n as' cs e = ap (λ zs. y.1 ∷ zs) e
bodies-step false x y n as' cs e = e

pulled : (t : Bool) (y : ℕ × Answer) (ys : List (ℕ × Answer))
    → map (λ (z : ℕ × Answer). z.1) (if t then y ∷ ys else ys) ≡
    (if t then y.1 ∷ map (λ (z : ℕ × Answer). z.1) ys else map (λ (z : ℕ × Answer). z.1) ys)
pulled true y ys = refl
pulled false y ys = refl

bodies-push : (n : ℕ) (bs : List (ℕ × Answer)) (x : ℕ × Answer)
    → bodies_of n (bs ++ x ∷ []) ≡ bodies_of n bs ++ bodies_of n (x ∷ [])
bodies-push n [] x = refl
bodies-push n (y ∷ bs) x =
    pulled (nat_eq y.0 n) y (filter (λ (z : ℕ × Answer). nat_eq z.0 n) (bs ++ x ∷ []))
    ∙ bodies-step (nat_eq y.0 n) x y n (bodies_of n (bs ++ x ∷ [])) (bodies_of n bs) (bodies-push n bs x)
    ∙ ap (λ zs. zs ++ bodies_of n (x ∷ []))
    (sym (pulled (nat_eq y.0 n) y (filter (λ (z : ℕ × Answer). nat_eq z.0 n) bs)))

own-body : (n : ℕ) (x : ℕ × Answer) → nat_eq x.0 n ≡ true → bodies_of n (x ∷ []) ≡ x.1 ∷ []
own-body n x e = ap (λ t. map (λ (z : ℕ × Answer). z.1) (cond t (x ∷ []) [])) e

other-body : (n : ℕ) (x : ℕ × Answer) → nat_eq x.0 n ≡ false → bodies_of n (x ∷ []) ≡ []
other-body n x e = ap (λ t. map (λ (z : ℕ × Answer). z.1) (cond t (x ∷ []) [])) e

nothing-more : {X : Type 0} (xs : List X) → xs ++ [] ≡ xs
nothing-more [] = refl
nothing-more (x ∷ xs) = ap (λ ys. x ∷ ys) (nothing-more xs)

bodies-put : (bodies : List (ℕ × Answer)) (first : ℕ) (lists : List (List Answer)) (j : ℕ) (was : List Answer)
    (a : Answer) → j < length lists → slice_get lists j ≡ Some was → HaveBodies bodies first lists
    → HaveBodies (bodies ++ (first + j, a) ∷ []) first (set lists j (was ++ a ∷ []))
bodies-put bodies first lists j was a inside here have n within =
    let size = length-set lists j (was ++ a ∷ []) in
    let before = have n (omega (arith, within, size)) in
    elim (cases_Bool (nat_eq (first + j) (first + n))) [
      | inl e ↦
          let sums = eqb-true (first + j) (first + n) e in
          let same : j ≡ n = omega (arith, sums) in
          let old : was ≡ bodies_of (first + n) bodies = some-same was (bodies_of (first + n) bodies)
          (sym here ∙ ap (slice_get lists) same ∙ before) in
          ap (slice_get (set lists j (was ++ a ∷ []))) (sym same) ∙ slice_get-set_same lists j (was ++ a ∷ []) inside
          ∙ ap Some (ap (λ xs. xs ++ a ∷ []) old
          ∙ ap (λ xs. bodies_of (first + n) bodies ++ xs) (sym (own-body (first + n) (first + j, a) e))
          ∙ sym (bodies-push (first + n) bodies (first + j, a)))
      | inr e ↦
          slice_get-set_other lists j n (was ++ a ∷ [])
          (λ s. absurd (let c : nat_eq (first + j) (first + n) ≡ true =
          eq-eqb (first + j) (first + n) (ap (λ m. first + m) (sym s)) in
          let f : true ≡ false = sym c ∙ e in cc))
          ∙ before
          ∙ ap Some (sym (bodies-push (first + n) bodies (first + j, a)
          ∙ ap (λ xs. bodies_of (first + n) bodies ++ xs) (other-body (first + n) (first + j, a) e)
          ∙ nothing-more (bodies_of (first + n) bodies)))
    ]

pub put-body : (v : Vec (Vec Answer)) (j : ℕ) (x was : Vec Answer) (a : Answer) → j < length v.items
    → was ≡ get_or v.items j was → x.items ≡ was.items ++ a ∷ [] → (bodies : List (ℕ × Answer)) (first : ℕ)
    → HaveBodies bodies first (lists_of v)
    → HaveBodies (bodies ++ (first + j, a) ∷ []) first (lists_of (with_item v j x))
put-body v j x was a inside here e bodies first have =
    let items = λ (xs : Vec Answer). xs.items in
    let size = length-map v.items items in
    let at : slice_get (lists_of v) j ≡ Some was.items =
    slice_get-mapped items v.items j was (slice_get-get_or v.items j was inside ∙ ap Some (sym here)) in
    let new : lists_of (with_item v j x) ≡ set (lists_of v) j (was.items ++ a ∷ []) =
    map-set items v.items j x ∙ ap (set (lists_of v) j) e in
    subst (HaveBodies (bodies ++ (first + j, a) ∷ []) first) (sym new)
    (bodies-put bodies first (lists_of v) j was.items a (omega (arith, inside, size)) at have)

-- one empty list more
empty-push : (first : ℕ) (lists : List (List Answer)) → HaveBodies [] first lists
    → HaveBodies [] first (lists ++ [] ∷ [])
empty-push first lists h n within = by lists h n within
  where
    by : (xs : List (List Answer)) → ((n : ℕ) → n < length xs → slice_get xs n ≡ Some [])
        → (n : ℕ) → n < length (xs ++ [] ∷ []) → slice_get (xs ++ [] ∷ []) n ≡ Some []
    by [] h zero w = refl
    by [] h (suc n) w = absurd (omega (arith, w))
    by (x ∷ xs) h zero w = h zero (omega arith)
    by (x ∷ xs) h (suc n) w = by xs (λ k b. h (suc k) (omega (arith, b))) n (omega (arith, w))

pub empty-next : (v : Vec (Vec Answer)) (w : Vec (Vec Answer)) (x : Vec Answer) → w.items ≡ v.items ++ x ∷ []
    → x.items ≡ [] → ((first : ℕ) → HaveBodies [] first (lists_of v)) → (first : ℕ)
    → HaveBodies [] first (lists_of w)
empty-next v w x e none h first =
    let items = λ (xs : Vec Answer). xs.items in
    subst (HaveBodies [] first)
    (sym (ap (map items) e ∙ map_push items v.items x ∙ ap (λ xs. lists_of v ++ xs ∷ []) none))
    (empty-push first (lists_of v) (h first))

-- one more body
pub settled-next : (xs : List Answer) (k : ℕ) (d : Answer) → k < length xs
    → settled_by (take (k + 1) xs) ≡ (settled_by (take k xs) || settles false (get_or xs k d))
settled-next [] k d h = absurd (omega (arith, h))
settled-next (x ∷ xs) zero d h = or-no (settles false x)
  where
    or-no : (t : Bool) → (t || false) ≡ t
    or-no true = refl
    or-no false = refl
settled-next (x ∷ xs) (suc k) d h =
    let next : suc k + 1 ≡ suc (k + 1) = omega arith in
    ap (λ m. settled_by (take m (x ∷ xs))) next
    ∙ ap (λ t. settles false x || t) (settled-next xs k d (omega (arith, h)))
    ∙ or-three (settles false x) (settled_by (take k xs)) (settles false (get_or xs k d))
  where
    or-three : (a c e : Bool) → (a || (c || e)) ≡ ((a || c) || e)
    or-three true c e = refl
    or-three false c e = refl

-- the clause with all of the literals
pub signs-same : (ls : List Lit) → map (with_sign true) ls ≡ ls
signs-same [] = refl
signs-same (l ∷ ls) = ap (λ ms. l ∷ ms) (signs-same ls)

-- the clauses that say that a literal is one of others
pub join-made : (p q : ProblemState) (l : Lit) (ls c : List Lit)
    → q ≡ with_clauses p (map (λ (m : Lit). l ∷ negated m ∷ []) ls) → c ≡ negated l ∷ ls
    → with_clause q c ≡ with_clauses p (clauses_of_join false l ls)
join-made p q l ls c e is =
    ap (λ r. with_clause r c) e ∙ with_one p (map (λ (m : Lit). l ∷ negated m ∷ []) ls) c
    ∙ ap (λ d. with_clauses p (map (λ (m : Lit). l ∷ negated m ∷ []) ls ++ d ∷ []))
    (is ∙ ap (λ ms. negated l ∷ ms) (sym (signs-same ls)))

-- the list at an index
module _ (v : Vec (Vec Answer)) (j : ℕ) (was : Vec Answer) (inside : j < length v.items)
    (here : was ≡ get_or v.items j was) where
  pub list-at : slice_get (lists_of v) j ≡ Some was.items
  list-at =
      slice_get-mapped (λ (xs : Vec Answer). xs.items) v.items j was
      (slice_get-get_or v.items j was inside ∙ ap Some (sym here))

  pub list-within : (n : ℕ) → AllByRecursion (AreWithin n) (lists_of v) → AreWithin n was.items
  list-within n h =
      all_in (AreWithin n) (lists_of v) h was.items
      (contains_from (lists_of v) was.items (has_get (lists_of v) j was.items list-at))

  pub list-bodies : (bodies : List (ℕ × Answer)) (first : ℕ) → HaveBodies bodies first (lists_of v)
      → was.items ≡ bodies_of (first + j) bodies
  list-bodies bodies first have =
      let size = length-map v.items (λ (xs : Vec Answer). xs.items) in
      some-same was.items (bodies_of (first + j) bodies) (sym list-at ∙ have j (omega (arith, inside, size)))

fold-push : {X S : Type 0} (f : S → X → S) (s : S) (xs : List X) (x : X) → fold f s (xs ++ x ∷ []) ≡ f (fold f s xs) x
fold-push f s [] x = refl
fold-push f s (y ∷ xs) x = fold-push f (f s y) xs x

-- one atom more
pub range-next : (b : GroundBase) (bodies : List (ℕ × Answer)) (p q new : ProblemState) (first place : ℕ) (a : Answer)
    (as' : List Answer) → q ≡ fold (complete_atom b bodies) p (numbers_from first place) → new ≡ complete a as' q
    → a ≡ answer_of_atom (known_of b (first + place)) (first + place) → as' ≡ bodies_of (first + place) bodies
    → new ≡ fold (complete_atom b bodies) p (numbers_from first (place + 1))
range-next b bodies p q new first place a as' before made atom own =
    let next : suc place ≡ place + 1 = omega arith in
    made ∙ ap (λ x. complete x as' q) atom
    ∙ ap (λ xs. complete (answer_of_atom (known_of b (first + place)) (first + place)) xs q) own
    ∙ ap (λ r. complete_atom b bodies r (first + place)) before
    ∙ sym (fold-push (complete_atom b bodies) p (numbers_from first place) (first + place))
    ∙ ap (λ k. fold (complete_atom b bodies) p (numbers_from first k)) next

-- a list with one answer more
within-push : (n : ℕ) (xs : List Answer) (a : Answer) → AreWithin n xs → AnswerWithin n a → AreWithin n (xs ++ a ∷ [])
within-push n [] a h w = (w, tt)
within-push n (x ∷ xs) a h w = (h.0, within-push n xs a h.1 w)

within-set : (n : ℕ) (lists : List (List Answer)) (j : ℕ) (xs : List Answer) → AllByRecursion (AreWithin n) lists
    → AreWithin n xs → AllByRecursion (AreWithin n) (set lists j xs)
within-set n [] j xs h w = tt
within-set n (ys ∷ lists) zero xs h w = (w, h.1)
within-set n (ys ∷ lists) (suc j) xs h w = (h.0, within-set n lists j xs h.1 w)

pub put-within : (v : Vec (Vec Answer)) (j : ℕ) (x was : Vec Answer) (a : Answer) → j < length v.items
    → was ≡ get_or v.items j was → x.items ≡ was.items ++ a ∷ [] → (n : ℕ) → AnswerWithin n a
    → AllByRecursion (AreWithin n) (lists_of v) → AllByRecursion (AreWithin n) (lists_of (with_item v j x))
put-within v j x was a inside here e n w h =
    let items = λ (xs : Vec Answer). xs.items in
    let new : lists_of (with_item v j x) ≡ set (lists_of v) j (was.items ++ a ∷ []) =
    map-set items v.items j x ∙ ap (set (lists_of v) j) e in
    subst (AllByRecursion (AreWithin n)) (sym new)
    (within-set n (lists_of v) j (was.items ++ a ∷ []) h
    (within-push n was.items a (list-within v j was inside here n h) w))

-- answers stay over more variables
answers-later : (n m : ℕ) → n ≤ m → (xs : List Answer) → AreWithin n xs → AreWithin m xs
answers-later n m le [] h = tt
answers-later n m le (Constant c ∷ xs) h = (tt, answers-later n m le xs h.1)
answers-later n m le (Literal l ∷ xs) h = (lit-more n m le l h.0, answers-later n m le xs h.1)

pub lists-later : (n m : ℕ) → n ≤ m → (lists : List (List Answer)) → AllByRecursion (AreWithin n) lists
    → AllByRecursion (AreWithin m) lists
lists-later n m le [] h = tt
lists-later n m le (xs ∷ lists) h = (answers-later n m le xs h.0, lists-later n m le lists h.1)

-- empty lists have nothing beyond any number
pub empty-within : (n : ℕ) (lists : List (List Answer)) → ((first : ℕ) → HaveBodies [] first lists) → AllWithin n lists
empty-within n lists h = each lists (h 0)
  where
    each : (xs : List (List Answer)) → ((j : ℕ) → j < length xs → slice_get xs j ≡ Some []) → AllWithin n xs
    each [] h = tt
    each (x ∷ xs) h =
        let none : x ≡ [] = some-same x [] (h zero (omega arith)) in
        (subst (AreWithin n) (sym none) tt, each xs (λ j b. h (suc j) (omega (arith, b))))
