-- The assignments that lead to no key are left out.
use Rattle.std.proofs.Common.{◌≡◌, ℕ, suc, ◌+◌, ◌*◌, ◌-◌, ◌<◌, ◌≤◌, List, [], ◌∷◌, ◌++◌, map, length, get_or}
use Rattle.std.proofs.Common.{sym, ap, subst, ◌∙◌, arith, append_assoc}
use Rattle.std.specs.List.{AllByRecursion}
use Rattle.std.proofs.lemmas.List.{append-nil}
use Rattle.std.proofs.lemmas.Nat.{mul-le}
use Rattle.kb_logic.specs.declared.elements.Elem.{Elem}
use Rattle.kb_logic.specs.declared.vocabularies.Bound.{Bound}
use Rattle.kb_logic.specs.Structures.{domain_at, choices}
use Rattle.kb_logic.proofs.Pairs.{pairs, length-pairs}
use Rattle.kb_logic.proofs.Assignments.{joined, before, choices-append}
use Rattle.row_ranges.specs.Leads.{Leads, AreWide, HasNoKey, reach}

-- what holds of all that begins with each item holds of all pairs
append-all : {C : Type 0} (P : C → Type 0) (xs ys : List C) → AllByRecursion P xs → AllByRecursion P ys
    → AllByRecursion P (xs ++ ys)
append-all P [] ys h k = k
append-all P (x ∷ xs) ys h k = (h.0, append-all P xs ys h.1 k)

map-all : {B C : Type 0} (P : C → Type 0) (h : B → C) (ys : List B) → AllByRecursion (λ y. P (h y)) ys
    → AllByRecursion P (map h ys)
map-all P h [] k = tt
map-all P h (y ∷ ys) k = (k.0, map-all P h ys k.1)

all-from : {A B C : Type 0} (P : C → Type 0) (f : A → B → C) (more : List B) (xs : List A) (d : A)
    → ((i : ℕ) → i < length xs → AllByRecursion (λ y. P (f (get_or xs i d) y)) more)
    → AllByRecursion P (pairs f more xs)
all-from P f more [] d h = tt
all-from P f more (x ∷ xs) d h =
    append-all P (map (f x) more) (pairs f more xs) (map-all P (f x) more (h 0 (omega arith)))
    (all-from P f more xs d (λ i k. h (suc i) (omega (arith, k))))

all-same : {X : Type 0} (P Q : X → Type 0) (xs : List X) → ((x : X) → P x → Q x) → AllByRecursion P xs
    → AllByRecursion Q xs
all-same P Q [] f h = tt
all-same P Q (x ∷ xs) f h = (f x h.0, all-same P Q xs f h.1)

pub one-count : (domains : List (List Elem)) (b : Bound)
    → length (choices domains (b ∷ [])) ≡ length (domain_at domains b.ty)
one-count domains b = length-pairs before ([] ∷ []) (domain_at domains b.ty) ∙ omega arith

-- a key within what an element and the rest reach
pub within-reach : (size i s rest : ℕ) → i < size → i * s + rest ≤ (size - 1) * s + rest
within-reach size i s rest h =
    let most : i * s ≤ (size - 1) * s = mul-le i s (size - 1) s (omega (arith, h)) (omega arith) in omega (arith, most)

module _ (Out : List Elem → Type 0) (domains : List (List Elem)) (keys : List ℕ) where
  -- where no key is within reach, all are left out
  pub left-out : (key : ℕ) (steps : List ℕ) (bs : List Bound) (e : List Elem)
      → Leads Out domains keys key steps bs e → HasNoKey keys key (reach domains steps bs)
      → AllByRecursion (λ a. Out (e ++ a)) (choices domains bs)
  left-out key steps [] e led none =
      (subst Out (sym (append-nil e)) (led (λ c. none key c (omega arith) (omega arith))), tt)
  left-out key [] (b ∷ bs) e led none = absurd led
  left-out key (s ∷ steps) (b ∷ bs) e led none =
      let ones = choices domains (b ∷ []) in
      subst (AllByRecursion (λ a. Out (e ++ a))) (sym (choices-append domains (b ∷ []) bs))
      (all-from (λ a. Out (e ++ a)) joined (choices domains bs) ones []
      (λ i h.
      let size : i < length (domain_at domains b.ty) = omega (arith, h, one-count domains b) in
      all-same (λ a. Out ((e ++ get_or ones i []) ++ a)) (λ a. Out (e ++ (get_or ones i [] ++ a)))
      (choices domains bs)
      (λ a o. subst Out (append_assoc e (get_or ones i []) a) o)
      (left-out (key + i * s) steps bs (e ++ get_or ones i []) (led i size)
      (λ j c low high. none j c (omega (arith, low))
      (omega (
        arith,
        high,
        within-reach (length (domain_at domains b.ty)) i s (reach domains steps bs) size,
      ))))))

  -- so for one element of the first variable, where its step is wide
  pub passed-out : (key s : ℕ) (steps : List ℕ) (b : Bound) (bs : List Bound) (e : List Elem) (i : ℕ)
      → Leads Out domains keys key (s ∷ steps) (b ∷ bs) e → AreWide domains (s ∷ steps) (b ∷ bs)
      → i < length (domain_at domains b.ty) → 0 < s → HasNoKey keys (key + i * s) s
      → AllByRecursion (λ a. Out ((e ++ get_or (choices domains (b ∷ [])) i []) ++ a)) (choices domains bs)
  passed-out key s steps b bs e i led wide size some none =
      left-out (key + i * s) steps bs (e ++ get_or (choices domains (b ∷ [])) i []) (led i size)
      (λ j c low high. none j c low (omega (arith, high, wide.0 some)))

-- what is left out of less is left out of more
pub leads-more : (Out Also : List Elem → Type 0) (domains : List (List Elem)) (keys : List ℕ) (key : ℕ)
    (steps : List ℕ) (bs : List Bound) (e : List Elem) → ((a : List Elem) → Out a → Also a)
    → Leads Out domains keys key steps bs e → Leads Also domains keys key steps bs e
leads-more Out Also domains keys key steps [] e f led = λ c. f e (led c)
leads-more Out Also domains keys key [] (b ∷ bs) e f led = absurd led
leads-more Out Also domains keys key (s ∷ steps) (b ∷ bs) e f led =
    λ i h. leads-more Out Also domains keys (key + i * s) steps bs
    (e ++ get_or (choices domains (b ∷ [])) i []) f (led i h)

-- how many assignments one variable has
pub one-bound : (domains : List (List Elem)) (bs : List Bound) (b : Bound) → length bs ≡ 1 → b ≡ get_or bs 0 b
    → length (domain_at domains b.ty) ≡ length (choices domains bs)
one-bound domains [] b h is = absurd (omega (arith, h))
one-bound domains (x ∷ y ∷ bs) b h is = absurd (omega (arith, h))
one-bound domains (x ∷ []) b h is =
    ap (λ (y : Bound). length (domain_at domains y.ty)) is ∙ sym (one-count domains x)
