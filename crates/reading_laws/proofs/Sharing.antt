-- Cells that share, and lists in which each element stands once.
use Rattle.std.proofs.Common.{◌≡◌, ℤ, pos, negsuc, ◌-ℤ◌, ◌≤ℤ◌, Bool, true, false, not, ◌||◌, nat_lt, int_lt, List, []}
use Rattle.std.proofs.Common.{◌∷◌, ◌++◌, fold, if◌then◌else◌, refl, sym, ap, ◌∙◌, arith, inl, inr}
use Rattle.std.specs.Int.{int_min, int_max}
use Rattle.std.specs.List.{list_any, Contains, flat_map}
use Rattle.std.proofs.lemmas.Bool.{true≢false, and_from, or_cases}
use Rattle.std.proofs.lemmas.Int.{ints, clamps}
use Rattle.std.proofs.lemmas.List.Elements.{Contains-push_cases}
use Rattle.kb_logic.specs.declared.elements.Elem.{Elem}
use Rattle.kb_logic.specs.declared.elements.Elem.TheVariants.{Num}
use Rattle.kb_logic.specs.Structures.{IsDistinct}
use Rattle.stage_definitions.specs.Elements.{Cell, one, span, same_element, is_in, one_more, do_share, members}
use Rattle.stage_definitions.specs.Elements.{with_element}
use Rattle.reading_laws.specs.CellLaws.{SharedIsSome, ListedAreDistinct}
use Rattle.reading_laws.proofs.Same.{is_same, itself}
use Rattle.reading_laws.proofs.Listing.{in_members, same_tests, lower_not}
use Rattle.reading_laws.proofs.Consistent.{share}

or_true : (b : Bool) → (b || true) ≡ true
or_true true = refl
or_true false = refl

-- some element passes a test exactly where one that is listed does
any_is : (test : Elem → Bool) (xs : List Elem) → list_any test xs ≡ true
    → (x : Elem) × (list_any (same_element x) xs ≡ true) × (test x ≡ true)
any_is test [] h = absurd (cc)
any_is test (x ∷ xs) h = elim (or_cases (test x) (list_any test xs) h) [
  | inl e ↦ (x, ap (λ b. b || list_any (same_element x) xs) (itself x), e)
  | inr e ↦ let rest = any_is test xs e in (
    rest.0,
    ap (λ b. same_element rest.0 x || b) rest.1
        ∙ or_true (same_element rest.0 x),
    rest.2,
  )
]

any_by : (test : Elem → Bool) (x : Elem) (xs : List Elem) → list_any (same_element x) xs ≡ true → test x ≡ true
    → list_any test xs ≡ true
any_by test x [] h k = absurd (cc)
any_by test x (y ∷ ys) h k = elim (or_cases (same_element x y) (list_any (same_element x) ys) h) [
  | inl e ↦ ap (λ b. b || list_any test ys) (ap test (sym (is_same x y e)) ∙ k)
  | inr e ↦ ap (λ b. test y || b) (any_by test x ys e k) ∙ or_true (test y)
]

pub not_below : (y : ℤ) → nat_lt 0 (one_more y) ≡ true → pos 0 ≤ℤ y
not_below (pos n) h = omega (arith, ints)
not_below (negsuc n) h = absurd (cc)

shared : (c d : Cell) → do_share c d ≡ true → (x : Elem) × (is_in x c ≡ true) × (is_in x d ≡ true)
shared (one x) d h = (x, itself x, h)
shared (span a b) (one y) h = (y, h, itself y)
shared (span a b) (span c d) h =
    let order = not_below (int_min b d -ℤ int_max a c) h in
    let above_a : a ≤ℤ int_max a c = omega (arith, ints, clamps) in
    let above_c : c ≤ℤ int_max a c = omega (arith, ints, clamps) in
    let below_b : int_max a c ≤ℤ b = omega (arith, ints, clamps, order) in
    let below_d : int_max a c ≤ℤ d = omega (arith, ints, clamps, order) in (
      Num (int_max a c),
      and_from (not (int_lt (int_max a c) a)) (not (int_lt b (int_max a c))) (lower_not (int_max a c) a above_a)
          (lower_not b (int_max a c) below_b),
      and_from (not (int_lt (int_max a c) c)) (not (int_lt d (int_max a c))) (lower_not (int_max a c) c above_c)
          (lower_not d (int_max a c) below_d),
    )

share_some : (c d : Cell) → do_share c d ≡ true → list_any (λ x. is_in x d) (members c) ≡ true
share_some c d h =
    let found = shared c d h in
    any_by (λ x. is_in x d) found.0 (members c) (sym (in_members found.0 c) ∙ found.1) found.2

some_share : (c d : Cell) → list_any (λ x. is_in x d) (members c) ≡ true → do_share c d ≡ true
some_share c d h =
    let found = any_is (λ x. is_in x d) (members c) h in
    share found.0 c d (in_members found.0 c ∙ found.1) found.2

pub shared_is_some : SharedIsSome
shared_is_some c d = same_tests (do_share c d) (list_any (λ x. is_in x d) (members c)) (share_some c d) (some_share c d)

-- ---- each element once

not_first : (x y : Elem) (xs : List Elem) → list_any (same_element y) (x ∷ xs) ≡ false → y ≡ x → ⊥
not_first x y xs h e = true≢false (sym (ap (λ z. same_element y z || list_any (same_element y) xs) (sym e)
    ∙ ap (λ b. b || list_any (same_element y) xs) (itself y)) ∙ h)

not_later : (a b : Bool) → (a || b) ≡ false → b ≡ false
not_later true b h = absurd (true≢false h)
not_later false b h = h

pushed : (xs : List Elem) (y : Elem) → IsDistinct xs → list_any (same_element y) xs ≡ false → IsDistinct (xs ++ y ∷ [])
pushed [] y d h = (nowhere y, tt)
  where
    nowhere : (y : Elem) → Contains [] y → ⊥
    nowhere y c = absurd (omega (arith, c.1))
pushed (x ∷ xs) y d h = (
  λ c. elim (Contains-push_cases xs y x c) [ inl e ↦ d.0 e | inr e ↦ not_first x y xs h e ],
  pushed xs y d.1 (not_later (same_element y x) (list_any (same_element y) xs) h),
)

one_more_distinct : (before : List Elem) (y : Elem) (t : Bool) → list_any (same_element y) before ≡ t
    → IsDistinct before → IsDistinct (if t then before else before ++ y ∷ [])
one_more_distinct before y true e d = d
one_more_distinct before y false e d = pushed before y d e

all_distinct : (before xs : List Elem) → IsDistinct before → IsDistinct (fold with_element before xs)
all_distinct before [] d = d
all_distinct before (y ∷ ys) d = all_distinct (with_element before y) ys
    (one_more_distinct before y (list_any (same_element y) before) refl d)

pub listed_are_distinct : ListedAreDistinct
listed_are_distinct cells = all_distinct [] (flat_map members cells) tt
