-- How linked lists of nodes change.
use Rattle.std.proofs.Common.{◌≡◌, ℕ, zero, suc, ◌<◌, ◌≤◌, false, eqb, Some, None, List, [], ◌∷◌, ◌++◌, length, get_or}
use Rattle.std.proofs.Common.{set, refl, sym, ap, subst, ◌∙◌, ⊎_elim, arith, Contains}
use Rattle.std.specs.List.{IsDistinct, AllByRecursion}
use Rattle.std.proofs.lemmas.Bool.{ne_eqb, eqb-true}
use Rattle.std.proofs.lemmas.Option.{same_Some}
use Rattle.std.proofs.lemmas.List.{get_or-set_other, get_or-set_same, length-set}
use Rattle.std.proofs.lemmas.List.Elements.{Contains-append_left, Contains-append_right, Contains-append_cases}
use Rattle.std.proofs.lemmas.Map.Steps.{length-le_from_distinct_below}
use Rattle.std.proofs.lemmas.Map.Views.{Contains-from_any}
use Rattle.lit_core.proofs.LiteralFacts.{Contains-cons_cases, Contains-head, Contains-tail, nothing_in_none}
use Rattle.clause_base.specs.Links.{node_of, first_of, last_of, IsLinked, IsOnce, follow}

-- a linked node has a link of its own
pub linked-within : (links : List ℕ) (link : ℕ) (xs : List ℕ) → IsLinked links link xs → (n : ℕ) → Contains xs n
    → n < length links
linked-within links link [] h n has = absurd (nothing_in_none n has)
linked-within links link (x ∷ xs) h n has = ⊎_elim
    (λ e. subst (λ (m : ℕ). m < length links) e h.1)
    (λ rest. linked-within links (get_or links x 0) xs h.2 n rest)
    (Contains-cons_cases x xs n has)

apart-all : (x : ℕ) (xs : List ℕ) → (Contains xs x → ⊥) → AllByRecursion (λ y. eqb x y ≡ false) xs
apart-all x [] absent = tt
apart-all x (y ∷ ys) absent = (
  ne_eqb x y (λ e. absent (0, omega arith, sym e)),
  apart-all x ys (λ h. absent (Contains-tail y ys x h)),
)

distinct : (xs : List ℕ) → IsOnce xs → IsDistinct eqb xs
unfolding IsDistinct
distinct [] h = tt
distinct (x ∷ xs) h = (apart-all x xs h.0, distinct xs h.1)

-- as many nodes as there are links, at most
pub once-length : (xs : List ℕ) (n : ℕ) → IsOnce xs → ((x : ℕ) → Contains xs x → x < n) → length xs ≤ n
once-length xs n once below = length-le_from_distinct_below xs n (distinct xs once)
    (λ q any. below q (Contains-from_any (λ x y e. eqb-true x y e) q xs any))

follow-linked : (links : List ℕ) (most link : ℕ) (xs : List ℕ) → length xs ≤ most → IsLinked links link xs
    → follow links most link ≡ xs
follow-linked links zero link [] le h = refl
follow-linked links zero link (x ∷ xs) le h = absurd (omega arith)
follow-linked links (suc most) link [] le h = rw h refl
follow-linked links (suc most) link (x ∷ xs) le h =
    let e : link ≡ suc x = omega (arith, h.0) in
    rw e (ap (λ (ys : List ℕ). x ∷ ys) (follow-linked links most (get_or links x 0) xs (omega arith) h.2))

-- the links lead through what is linked
pub follow-is : (links : List ℕ) (link : ℕ) (xs : List ℕ) → IsLinked links link xs → IsOnce xs
    → follow links (length links) link ≡ xs
follow-is links link xs h once = follow-linked links (length links) link xs
    (once-length xs (length links) once (linked-within links link xs h)) h

-- a link of another node may change
pub linked-set : (links : List ℕ) (link : ℕ) (xs : List ℕ) (n v : ℕ) → (Contains xs n → ⊥) → IsLinked links link xs
    → IsLinked (set links n v) link xs
linked-set links link [] n v absent h = h
linked-set links link (x ∷ xs) n v absent h =
    let ne : x ≡ n → ⊥ = λ e. absent (0, omega arith, e) in
    let same : get_or (set links n v) x 0 ≡ get_or links x 0 = get_or-set_other links n x v 0 ne in (
      h.0,
      rw length-set h.1,
      subst (λ (m : ℕ). IsLinked (set links n v) m xs) (sym same)
          (linked-set links (get_or links x 0) xs n v (λ has. absent (Contains-tail x xs n has)) h.2),
    )

-- more links change no list
pub linked-longer : (links more : List ℕ) (link : ℕ) (xs : List ℕ) → length links ≤ length more
    → ((k : ℕ) → get_or more k 0 ≡ get_or links k 0) → IsLinked links link xs → IsLinked more link xs
linked-longer links more link [] le same h = h
linked-longer links more link (x ∷ xs) le same h = (
  h.0,
  omega (arith, h.1),
  subst (λ (m : ℕ). IsLinked more m xs)
      (sym (same x)) (linked-longer links more (get_or links x 0) xs le same h.2),
)

-- the part of a list from a node on
pub linked-rest : (links : List ℕ) (link : ℕ) (front : List ℕ) (n : ℕ) (back : List ℕ)
    → IsLinked links link (front ++ n ∷ back) → IsLinked links (get_or links n 0) back
linked-rest links link [] n back h = h.2
linked-rest links link (x ∷ front) n back h = linked-rest links (get_or links x 0) front n back h.2

pub linked-first : (links : List ℕ) (link : ℕ) (xs : List ℕ) → IsLinked links link xs → node_of link ≡ first_of xs
linked-first links link [] h = rw h refl
linked-first links link (x ∷ xs) h = let e : link ≡ suc x = omega (arith, h.0) in rw e refl

-- a node in the middle of a list without repeats
pub once-middle : (front : List ℕ) (n : ℕ) (back : List ℕ) → IsOnce (front ++ n ∷ back) → Contains (front ++ back) n → ⊥
once-middle [] n back once has = once.0 has
once-middle (x ∷ front) n back once has = ⊎_elim
    (λ e. once.0 (subst (λ (m : ℕ). Contains (front ++ n ∷ back) m) (sym e) (Contains-append_right front (n ∷ back) n
    (Contains-head n back))))
    (λ rest. once-middle front n back once.1 rest)
    (Contains-cons_cases x (front ++ back) n has)

-- what is left without it was there before
pub cut-contains : (front : List ℕ) (n : ℕ) (back : List ℕ) (m : ℕ) → Contains (front ++ back) m
    → Contains (front ++ n ∷ back) m
cut-contains front n back m has = ⊎_elim
    (λ h. Contains-append_left front (n ∷ back) m h)
    (λ h. Contains-append_right front (n ∷ back) m (Contains-tail n back m h))
    (Contains-append_cases front back m has)

-- and what was there is left, but for the node
pub contains-cut : (front : List ℕ) (n : ℕ) (back : List ℕ) (m : ℕ) → Contains (front ++ n ∷ back) m → (m ≡ n → ⊥)
    → Contains (front ++ back) m
contains-cut front n back m has ne = ⊎_elim
    (λ h. Contains-append_left front back m h)
    (λ h. Contains-append_right front back m (⊎_elim (λ e. absurd (ne (sym e))) (λ k. k)
    (Contains-cons_cases n back m h)))
    (Contains-append_cases front (n ∷ back) m has)

pub once-cut : (front : List ℕ) (n : ℕ) (back : List ℕ) → IsOnce (front ++ n ∷ back) → IsOnce (front ++ back)
once-cut [] n back once = once.1
once-cut (x ∷ front) n back once = (λ has. once.0 (cut-contains front n back x has), once-cut front n back once.1)

last-contains : (x : ℕ) (xs : List ℕ) (p : ℕ) → last_of (x ∷ xs) ≡ Some p → Contains (x ∷ xs) p
last-contains x [] p e = (0, omega arith, same_Some x p e)
last-contains x (y ∷ ys) p e = Contains-tail x (y ∷ ys) p (last-contains y ys p e)

-- the node before it leads past it
pub linked-cut : (links : List ℕ) (link : ℕ) (front : List ℕ) (n : ℕ) (back : List ℕ) (p : ℕ) → last_of front ≡ Some p
    → IsOnce (front ++ n ∷ back) → IsLinked links link (front ++ n ∷ back)
    → IsLinked (set links p (get_or links n 0)) link (front ++ back)
linked-cut links link [] n back p last once h = cc
linked-cut links link (q ∷ []) n back p last once h =
    let e : q ≡ p = same_Some q p last in
    let lt : p < length links = subst (λ (m : ℕ). m < length links) e h.1 in
    let absent : Contains back p → ⊥ = λ has. once.0 (subst (λ (m : ℕ). Contains (n ∷ back) m) (sym e)
    (Contains-tail n back p has)) in
    let written : get_or (set links p (get_or links n 0)) q 0 ≡ get_or links n 0 =
    ap (λ (m : ℕ). get_or (set links p (get_or links n 0)) m 0) e
    ∙ get_or-set_same links p (get_or links n 0) 0 lt in (
      h.0,
      rw length-set h.1,
      subst (λ (m : ℕ). IsLinked (set links p (get_or links n 0)) m back) (sym written)
          (linked-set links (get_or links n 0) back p (get_or links n 0) absent h.2.2),
    )
linked-cut links link (q ∷ r ∷ front) n back p last once h =
    let in_rest : Contains (r ∷ front ++ n ∷ back) p = Contains-append_left (r ∷ front) (n ∷ back) p
    (last-contains r front p last) in
    let ne : q ≡ p → ⊥ = λ e. once.0 (subst (λ (m : ℕ). Contains (r ∷ front ++ n ∷ back) m) (sym e) in_rest) in
    let same : get_or (set links p (get_or links n 0)) q 0 ≡ get_or links q 0 =
    get_or-set_other links p q (get_or links n 0) 0 ne in (
      h.0,
      rw length-set h.1,
      subst (λ (m : ℕ). IsLinked (set links p (get_or links n 0)) m (r ∷ front ++ back))
          (sym same) (linked-cut links (get_or links q 0) (r ∷ front) n back p last once.1 h.2),
    )

pub none-before : (front : List ℕ) → last_of front ≡ None → front ≡ []
none-before [] e = refl
none-before (x ∷ xs) e = absurd (some x xs e)
  where
    some : (x : ℕ) (xs : List ℕ) → last_of (x ∷ xs) ≡ None → ⊥
    some x [] e = cc
    some x (y ∷ ys) e = some y ys e

pub last-in : (front : List ℕ) (p : ℕ) → last_of front ≡ Some p → Contains front p
last-in [] p e = cc
last-in (x ∷ xs) p e = last-contains x xs p e
