-- The number of an assignment is a digit for the first variable, which says the place of its element in its type, and
-- the number of the assignment of the rest.
use Rattle.std.proofs.Common.{◌≡◌, ℕ, zero, suc, ◌+◌, ◌*◌, ◌/◌, ◌%◌, ◌<◌, ◌≤◌, List, [], ◌∷◌, length, get_or, drop}
use Rattle.std.proofs.Common.{Some, refl, sym, ap, ◌∙◌, arith, inl, inr, pos}
use Rattle.std.specs.List.{slice_get}
use Rattle.std.proofs.lemmas.List.{at_drop_more}
use Rattle.std.proofs.lemmas.Bool.{cases_lt}
use Rattle.std.proofs.lemmas.Nat.{mul-le, div-mul-add, div_below, div-add-mod'}
use Rattle.std.proofs.Math.Nat.{mod-lt, mul_comm}
use Rattle.std.proofs.Math.Seq.{drop-nil}
use Rattle.kb_logic.specs.declared.elements.Elem.{Elem}
use Rattle.kb_logic.specs.declared.elements.Elem.TheVariants.{Num}
use Rattle.kb_logic.specs.declared.vocabularies.Bound.{Bound}
use Rattle.kb_logic.specs.Structures.{domain_at, choices}
use Rattle.kb_logic.proofs.Pairs.{pairs, length-pairs, get_or-pairs}
use Rattle.kb_logic.proofs.Assignments.{before}

pub positive_left : (s m n : ℕ) → n < s * m → 0 < s
positive_left s m n h = elim (cases_lt 0 s) [
  | inl p ↦ p
  | inr p ↦ let none : s * m ≤ 0 * m = mul-le s m 0 m p (omega arith) in absurd (omega arith)
]

pub positive_right : (s m n : ℕ) → n < s * m → 0 < m
positive_right s m n h = elim (cases_lt 0 m) [
  | inl p ↦ p
  | inr p ↦ let none : s * m ≤ s * 0 = mul-le s m s 0 (omega arith) p in absurd (omega arith)
]

quotient : (c s m : ℕ) → c ≡ s * m → 0 < s → c / s ≡ m
quotient c s m e p = let turned : c ≡ m * s + 0 = e ∙ mul_comm s m ∙ omega arith in ap (λ n. n / s) turned
    ∙ div-mul-add m s 0 p

drop_tail : {X : Type 0} (xs ys : List X) (n : ℕ) (x : X) → drop n xs ≡ x ∷ ys → drop (suc n) xs ≡ ys
drop_tail [] ys n x h = let none : [] ≡ x ∷ ys = sym (drop-nil n) ∙ h in cc
drop_tail (z ∷ xs) ys zero x h = cc
drop_tail (z ∷ xs) ys (suc n) x h = drop_tail xs ys n x h

head_at : {X : Type 0} (xs ys : List X) (n : ℕ) (x : X) → drop n xs ≡ x ∷ ys → slice_get xs n ≡ Some x
head_at [] ys n x h = let none : [] ≡ x ∷ ys = sym (drop-nil n) ∙ h in cc
head_at (z ∷ xs) ys zero x h = cc
head_at (z ∷ xs) ys (suc n) x h = head_at xs ys n x h

same_at : {X : Type 0} (xs : List X) (n : ℕ) (x y : X) → n < length xs → get_or xs n x ≡ get_or xs n y
same_at [] n x y h = absurd (omega arith)
same_at (z ∷ xs) zero x y h = refl
same_at (z ∷ xs) (suc n) x y h = same_at xs n x y (omega arith)

pub whole : (domains : List (List Elem)) (bs : List Bound) (i : ℕ) (b : Bound) (dom : List Elem) → i < length bs
    → b ≡ get_or bs i b → dom ≡ domain_at domains b.ty
    → choices domains (drop i bs) ≡ pairs before (choices domains (drop (i + 1) bs)) dom
whole domains bs i b dom h at is =
    at_drop_more (choices domains) bs i b h ∙ ap (λ y. choices domains (y ∷ drop (i + 1) bs)) (sym at)
    ∙ ap (pairs before (choices domains (drop (i + 1) bs))) (sym is)

-- what is true of the number and the count of the assignments of the variables from i on
pub record At (domains : List (List Elem)) (bs : List Bound) (view : List Elem) (i count number : ℕ) : Type 0 where
  pub counted : count ≡ length (choices domains (drop i bs))
  pub below : number < count
  pub seen : drop i view ≡ get_or (choices domains (drop i bs)) number []

pub record Step (domains : List (List Elem)) (bs : List Bound) (view : List Elem) (i : ℕ) (dom : List Elem)
    (count number : ℕ) : Type 0 where
  pub size : 0 < length dom
  pub positive : 0 < count / length dom
  pub digit : number / (count / length dom) < length dom
  pub next : At domains bs view (i + 1) (count / length dom) (number % (count / length dom))
  pub element : (x : Elem) → x ≡ get_or dom (number / (count / length dom)) x → slice_get view i ≡ Some x

pub step : (domains : List (List Elem)) (bs : List Bound) (view : List Elem) (i : ℕ) (b : Bound) (dom : List Elem)
    (count number : ℕ)
    → i < length bs → b ≡ get_or bs i b → dom ≡ domain_at domains b.ty → At domains bs view i count number
    → Step domains bs view i dom count number
step domains bs view i b dom count number h at is now =
    let more = choices domains (drop (i + 1) bs) in
    let split = whole domains bs i b dom h at is in
    let product : count ≡ length dom * length more = now.counted ∙ ap length split ∙ length-pairs before more dom in
    let under : number < length dom * length more = omega (arith, now.below, product) in
    let size : 0 < length dom = positive_left (length dom) (length more) number under in
    let some : 0 < length more = positive_right (length dom) (length more) number under in
    let rest : count / length dom ≡ length more = quotient count (length dom) (length more) product size in
    let succ : i + 1 ≡ suc i = omega arith in
    let digit : number / length more < length dom = div_below number (length more) (length dom) some under in
    let left : number % length more < length more = mod-lt number some in
    let parts : number ≡ number / length more * length more + number % length more =
    sym (div-add-mod' number (length more)) in
    let pair : get_or (choices domains (drop i bs)) number [] ≡ get_or dom (number / length more) (Num (pos 0))
    ∷ get_or more (number % length more) [] =
    ap (λ xs. get_or xs number []) split ∙ ap (λ n. get_or (pairs before more dom) n []) parts
    ∙ get_or-pairs before more dom (number / length more) (number % length more) (Num (pos 0)) [] [] digit left in
    record {
      size = size;
      positive = rw rest some;
      digit = rw rest digit;
      next = record {
        counted = rest;
        below = rw rest left;
        seen = rw rest (ap (λ n. drop n view) succ ∙ drop_tail view (get_or more (number % length more) []) i
            (get_or dom (number / length more) (Num (pos 0))) (now.seen ∙ pair));
      };
      element = λ x e. head_at view (get_or more (number % length more) []) i x
          (now.seen ∙ pair ∙ ap (λ y. y ∷ get_or more (number % length more) [])
          (same_at dom (number / length more) (Num (pos 0)) x digit ∙ sym (rw rest at e)));
    }
