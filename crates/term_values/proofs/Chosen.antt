-- The values whose variables are true, and the index of a row.
use Rattle.std.proofs.Common.{◌≡◌, ℕ, zero, suc, ◌+◌, ◌<◌, List, [], ◌∷◌, map, length, Bool, true, false, cond}
use Rattle.std.proofs.Common.{if◌then◌else◌, inl, inr}
use Rattle.std.proofs.Common.{Option, Some, option_map, slice_get, refl, sym, ap, subst, ◌∙◌, arith}
use Rattle.std.proofs.lemmas.Bool.{cases_Bool}
use Rattle.kb_logic.specs.declared.elements.Elem.{Elem}
use Rattle.kb_logic.specs.declared.elements.Elem.TheVariants.{Named, Num}
use Rattle.kb_logic.specs.Structures.{IsDistinct}
use Rattle.kb_logic.specs.Denotations.{denotation_of}
use Rattle.kb_logic.specs.Meaning.{behind, is_end}
use Rattle.kb_logic.proofs.Has.{Has, has_get, contains_from}
use Rattle.term_values.specs.GroundBases.{row_index, true_values}
use Rattle.term_values.proofs.RowFacts.{row-is, is-row}
use Rattle.term_values.proofs.Offsets.{some-same}

pub has-index : {X : Type 0} (xs : List X) (x : X) → Has xs x → (k : ℕ) × (slice_get xs k ≡ Some x)
has-index [] x m = absurd m
has-index (y ∷ xs) x (inl e) = (0, ap Some e)
has-index (y ∷ xs) x (inr m) = let r = has-index xs x m in (suc r.0, r.1)

element-same : (x y : Elem) → denotation_of x ≡ denotation_of y → x ≡ y
element-same (Named a) (Named c) h = cc
element-same (Named a) (Num z) h = cc
element-same (Num y) (Named c) h = cc
element-same (Num y) (Num z) h = cc

pub row-same : (r t : List Elem) → map denotation_of r ≡ map denotation_of t → r ≡ t
row-same [] [] h = refl
row-same [] (y ∷ t) h = cc
row-same (x ∷ r) [] h = cc
row-same (x ∷ r) (y ∷ t) h =
    let one : denotation_of x ≡ denotation_of y = cc in
    let rest : map denotation_of r ≡ map denotation_of t = cc in
    ap (λ z. z ∷ r) (element-same x y one) ∙ ap (λ c. y ∷ c) (row-same r t rest)

found-first : (m : Bool) (o : Option ℕ) → m ≡ true → cond m (Some 0) o ≡ Some 0
found-first true o e = refl
found-first false o e = cc

found-later : (m : Bool) (o : Option ℕ) (i : ℕ) → m ≡ false → o ≡ Some i
    → cond m (Some 0) (option_map (λ k. 1 + k) o) ≡ Some (suc i)
found-later true o i e f = cc
found-later false o i e f = let next : 1 + i ≡ suc i = omega arith in ap (option_map (λ k. 1 + k)) f ∙ ap Some next

-- where no row stands twice, a row's index is that of its values
pub index-is : (rs : List (List Elem)) (i : ℕ) (t : List Elem) → IsDistinct rs → slice_get rs i ≡ Some t
    → row_index rs (map denotation_of t) ≡ Some i
index-is [] i t d at = cc
index-is (r ∷ rs) zero t d at =
    let same : r ≡ t = some-same r t at in
    found-first (is_end (behind r (map denotation_of t)))
    (option_map (λ k. 1 + k) (row_index rs (map denotation_of t)))
    (ap (λ q. is_end (behind q (map denotation_of t))) same ∙ is-row t)
index-is (r ∷ rs) (suc i) t d at =
    found-later (is_end (behind r (map denotation_of t))) (row_index rs (map denotation_of t)) i other
    (index-is rs i t d.1 at)
  where
    other : is_end (behind r (map denotation_of t)) ≡ false
    other = elim (cases_Bool (is_end (behind r (map denotation_of t)))) [
      | inl e ↦ absurd (d.0 (contains_from rs r
          (subst (Has rs) (sym (row-same r t (row-is r (map denotation_of t) e))) (has_get rs i t at))))
      | inr e ↦ e
    ]

-- the values whose variables are true
kept-first : (c : Bool) (y x : Elem) (ys : List Elem) → c ≡ true → y ≡ x → Has (if c then y ∷ ys else ys) x
kept-first true y x ys h e = inl e
kept-first false y x ys h e = cc

kept-later : (c : Bool) (y x : Elem) (ys : List Elem) → Has ys x → Has (if c then y ∷ ys else ys) x
kept-later true y x ys m = inr m
kept-later false y x ys m = m

pub value-true : (v : ℕ → Bool) (n : ℕ) (xs : List Elem) (j : ℕ) (x : Elem) → slice_get xs j ≡ Some x
    → v (n + j) ≡ true → Has (true_values v n xs) x
value-true v n [] j x at h = cc
value-true v n (y ∷ xs) zero x at h =
    let number : n ≡ n + 0 = omega arith in
    kept-first (v n) y x (true_values v (n + 1) xs) (ap v number ∙ h) (some-same y x at)
value-true v n (y ∷ xs) (suc j) x at h =
    let number : (n + 1) + j ≡ n + suc j = omega arith in
    kept-later (v n) y x (true_values v (n + 1) xs) (value-true v (n + 1) xs j x at (ap v number ∙ h))

kept-of : (c : Bool) (y x : Elem) (ys xs : List Elem) → (Has ys x → Has xs x) → Has (if c then y ∷ ys else ys) x
    → Has (y ∷ xs) x
kept-of true y x ys xs f (inl e) = inl e
kept-of true y x ys xs f (inr m) = inr (f m)
kept-of false y x ys xs f m = inr (f m)

pub true-among : (v : ℕ → Bool) (n : ℕ) (xs : List Elem) (x : Elem) → Has (true_values v n xs) x → Has xs x
true-among v n [] x m = m
true-among v n (y ∷ xs) x m = kept-of (v n) y x (true_values v (n + 1) xs) xs (true-among v (n + 1) xs x) m

first-kept : (c : Bool) (y x : Elem) (ys : List Elem) → (Has ys x → ⊥) → Has (if c then y ∷ ys else ys) x → c ≡ true
first-kept true y x ys none m = refl
first-kept false y x ys none m = absurd (none m)

later-kept : (c : Bool) (y x : Elem) (ys : List Elem) → (y ≡ x → ⊥) → Has (if c then y ∷ ys else ys) x → Has ys x
later-kept true y x ys other (inl e) = absurd (other e)
later-kept true y x ys other (inr m) = m
later-kept false y x ys other m = m

pub true-value : (v : ℕ → Bool) (n : ℕ) (xs : List Elem) (j : ℕ) (x : Elem) → IsDistinct xs → slice_get xs j ≡ Some x
    → Has (true_values v n xs) x → v (n + j) ≡ true
true-value v n [] j x d at m = cc
true-value v n (y ∷ xs) zero x d at m =
    let number : n + 0 ≡ n = omega arith in
    let same : y ≡ x = some-same y x at in
    ap v number
    ∙ first-kept (v n) y x (true_values v (n + 1) xs)
    (λ k. d.0 (contains_from xs y (subst (Has xs) (sym same) (true-among v (n + 1) xs x k)))) m
true-value v n (y ∷ xs) (suc j) x d at m =
    let number : n + suc j ≡ (n + 1) + j = omega arith in
    ap v number
    ∙ true-value v (n + 1) xs j x d.1 at
    (later-kept (v n) y x (true_values v (n + 1) xs)
    (λ e. d.0 (contains_from xs y (subst (Has xs) (sym e) (has_get xs j x at)))) m)

pub same-true : (v w : ℕ → Bool) (n : ℕ) (xs : List Elem) → ((j : ℕ) → j < length xs → v (n + j) ≡ w (n + j))
    → true_values v n xs ≡ true_values w n xs
same-true v w n [] same = refl
same-true v w n (x ∷ xs) same =
    let here : v n ≡ w n = (let number : n ≡ n + 0 = omega arith in ap v number ∙ same 0 (omega arith)
    ∙ ap w (sym number)) in
    ap (λ c. if c then x ∷ true_values v (n + 1) xs else true_values v (n + 1) xs) here
    ∙ ap (λ ys. if w n then x ∷ ys else ys)
    (same-true v w (n + 1) xs (λ j below. let number : (n + 1) + j ≡ n + suc j = omega arith in ap v number
    ∙ same (suc j) (omega (arith, below)) ∙ ap w (sym number)))

all-false : (n : ℕ) (xs : List Elem) → true_values (λ k. false) n xs ≡ []
all-false n [] = refl
all-false n (x ∷ xs) = all-false (n + 1) xs

pub none-true : (v : ℕ → Bool) (n : ℕ) (xs : List Elem) → ((j : ℕ) → j < length xs → v (n + j) ≡ false)
    → true_values v n xs ≡ []
none-true v n xs none = same-true v (λ k. false) n xs none ∙ all-false n xs

first-only : (c : Bool) (y : Elem) (ys : List Elem) → c ≡ true → ys ≡ [] → (if c then y ∷ ys else ys) ≡ y ∷ []
first-only true y ys h e = ap (λ zs. y ∷ zs) e
first-only false y ys h e = cc

later-only : (c : Bool) (y x : Elem) (ys : List Elem) → c ≡ false → ys ≡ x ∷ [] → (if c then y ∷ ys else ys) ≡ x ∷ []
later-only true y x ys h e = cc
later-only false y x ys h e = e

-- one value alone has a true variable
pub only-true : (v : ℕ → Bool) (n : ℕ) (xs : List Elem) (i : ℕ) (x : Elem) → slice_get xs i ≡ Some x → v (n + i) ≡ true
    → ((j : ℕ) → j < length xs → (j ≡ i → ⊥) → v (n + j) ≡ false) → true_values v n xs ≡ x ∷ []
only-true v n [] i x at here others = cc
only-true v n (y ∷ xs) zero x at here others =
    let number : n ≡ n + 0 = omega arith in
    first-only (v n) y (true_values v (n + 1) xs) (ap v number ∙ here)
    (none-true v (n + 1) xs (λ j below. let shift : (n + 1) + j ≡ n + suc j = omega arith in ap v shift
    ∙ others (suc j) (omega (arith, below)) (λ e. absurd (omega (arith, e)))))
    ∙ ap (λ z. z ∷ []) (some-same y x at)
only-true v n (y ∷ xs) (suc i) x at here others =
    let number : n ≡ n + 0 = omega arith in
    let shift : (n + 1) + i ≡ n + suc i = omega arith in
    later-only (v n) y x (true_values v (n + 1) xs)
    (ap v number ∙ others 0 (omega arith) (λ e. absurd (omega (arith, e))))
    (only-true v (n + 1) xs i x at (ap v shift ∙ here)
    (λ j below other. let next : (n + 1) + j ≡ n + suc j = omega arith in ap v next
    ∙ others (suc j) (omega (arith, below)) (λ e. other (omega (arith, e)))))

-- where no item stands twice, an item has one index
pub index-of : {X : Type 0} (xs : List X) (j k : ℕ) (x : X) → IsDistinct xs → slice_get xs j ≡ Some x
    → slice_get xs k ≡ Some x → j ≡ k
index-of [] j k x d at to = cc
index-of (y ∷ xs) zero zero x d at to = refl
index-of (y ∷ xs) zero (suc k) x d at to =
    absurd (d.0 (contains_from xs y (subst (Has xs) (sym (some-same y x at)) (has_get xs k x to))))
index-of (y ∷ xs) (suc j) zero x d at to =
    absurd (d.0 (contains_from xs y (subst (Has xs) (sym (some-same y x to)) (has_get xs j x at))))
index-of (y ∷ xs) (suc j) (suc k) x d at to = ap suc (index-of xs j k x d.1 at to)
