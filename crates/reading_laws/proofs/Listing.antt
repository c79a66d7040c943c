-- The elements of cells, listed one by one.
use Rattle.std.proofs.Common.{◌≡◌, ℕ, zero, suc, ℤ, pos, negsuc, ◌+ℤ◌, ◌-ℤ◌, ◌≤ℤ◌, ◌<ℤ◌, Bool, true, false, not, ◌||◌}
use Rattle.std.proofs.Common.{int_lt, List, [], ◌∷◌, ◌++◌, fold, if◌then◌else◌, refl, sym, ap, ◌∙◌, arith, inl, inr}
use Rattle.std.specs.List.{list_any, flat_map}
use Rattle.std.proofs.lemmas.Bool.{cases_Bool, true≢false, and_from, and_parts, or_cases}
use Rattle.std.proofs.lemmas.Bool.Decides.{Decides-int_eq}
use Rattle.std.proofs.lemmas.Int.{ints, by_lt_z}
use Rattle.std.proofs.lemmas.List.Folds.{list_any-append}
use Rattle.kb_logic.specs.declared.elements.Elem.{Elem}
use Rattle.kb_logic.specs.declared.elements.Elem.TheVariants.{Named, Num}
use Rattle.stage_definitions.specs.Elements.{Cell, one, span, same_element, is_between, is_in, is_among, one_more}
use Rattle.stage_definitions.specs.Elements.{integers_from, members, with_element}
use Rattle.reading_laws.specs.CellLaws.{ListedAreAmong}
use Rattle.reading_laws.proofs.Same.{is_same}
use Rattle.reading_laws.proofs.Bounded.{not_lower}

-- ---- one cell

pub no_word : (n : List ℕ) (a : ℤ) (k : ℕ) → list_any (same_element (Named n)) (integers_from a k) ≡ false
no_word n a zero = refl
no_word n a (suc k) = no_word n (a +ℤ pos 1) k

-- an integer that is listed lies between, and one that lies between is listed
pub lies_between : (z a : ℤ) (k : ℕ) → list_any (same_element (Num z)) (integers_from a k) ≡ true
    → (a ≤ℤ z) × (z <ℤ (a +ℤ pos k))
lies_between z a zero h = absurd (cc)
lies_between z a (suc k) h = elim (or_cases (same_element (Num z) (Num a))
    (list_any (same_element (Num z)) (integers_from (a +ℤ pos 1) k)) h) [
      | inl e ↦ let same : z ≡ a = (Decides-int_eq z a).0 e in (omega (arith, ints, same), omega (arith, ints, same))
      | inr e ↦ let rest = lies_between z (a +ℤ pos 1) k e in (omega (arith, ints, rest.0), omega (arith, ints, rest.1))
    ]

is_listed : (z a : ℤ) (k : ℕ) → a ≤ℤ z → z <ℤ (a +ℤ pos k) → list_any (same_element (Num z)) (integers_from a k) ≡ true
is_listed z a zero h l = absurd (omega (arith, ints, h, l))
is_listed z a (suc k) h l = elim (cases_Bool (same_element (Num z) (Num a))) [
  | inl e ↦ ap (λ b. b || list_any (same_element (Num z)) (integers_from (a +ℤ pos 1) k)) e
  | inr e ↦
      let other : z ≡ a → ⊥ = λ s. true≢false (sym ((Decides-int_eq z a).1 s) ∙ e) in
      ap (λ b. b || list_any (same_element (Num z)) (integers_from (a +ℤ pos 1) k)) e
      ∙ is_listed z (a +ℤ pos 1) k (further z a other h) (omega (arith, ints, l))
]
  where
    further : (y c : ℤ) → (y ≡ c → ⊥) → c ≤ℤ y → (c +ℤ pos 1) ≤ℤ y
    further y c ne below = by_lt_z y (c +ℤ pos 1) (λ l. absurd (ne (omega (arith, ints, below, l)))) (λ g. g)

pub one_more_is : (y : ℤ) → pos 0 ≤ℤ y → pos (one_more y) ≡ (y +ℤ pos 1)
one_more_is (pos n) h = omega (arith, ints)
one_more_is (negsuc n) h = absurd (omega (arith, ints, h))

none_more : (y : ℤ) → y <ℤ pos 0 → one_more y ≡ 0
none_more (pos n) h = absurd (omega (arith, ints, h))
none_more (negsuc n) h = refl

lower_not_by : (a b : ℤ) (t : Bool) → int_lt a b ≡ t → b ≤ℤ a → not t ≡ true
lower_not_by a b true e h = absurd (omega (arith, ints, h))
lower_not_by a b false e h = refl

pub lower_not : (a b : ℤ) → b ≤ℤ a → not (int_lt a b) ≡ true
lower_not a b h = lower_not_by a b (int_lt a b) refl h

pub same_tests : (p q : Bool) → (p ≡ true → q ≡ true) → (q ≡ true → p ≡ true) → p ≡ q
same_tests true q f g = sym (f refl)
same_tests false true f g = g refl
same_tests false false f g = refl

or_none : (b : Bool) → (b || false) ≡ b
or_none true = refl
or_none false = refl

between_is_listed : (z a b : ℤ) → is_between a b z ≡ true → list_any (same_element (Num z))
    (integers_from a (one_more (b -ℤ a))) ≡ true
between_is_listed z a b h =
    let parts = and_parts (not (int_lt z a)) (not (int_lt b z)) h in
    let low : a ≤ℤ z = not_lower z a parts.0 in
    let high : z ≤ℤ b = not_lower b z parts.1 in
    let size = one_more_is (b -ℤ a) (omega (arith, ints, low, high)) in
    is_listed z a (one_more (b -ℤ a)) low (omega (arith, ints, high, size))

listed_is_between : (z a b : ℤ) → list_any (same_element (Num z)) (integers_from a (one_more (b -ℤ a))) ≡ true
    → is_between a b z ≡ true
listed_is_between z a b h =
    let ends = lies_between z a (one_more (b -ℤ a)) h in
    let high : z ≤ℤ b = by_lt_z b a
    (λ l. let none = none_more (b -ℤ a) (omega (arith, ints, l)) in absurd (omega (arith, ints, ends.0, ends.1, none)))
    (λ g. let size = one_more_is (b -ℤ a) (omega (arith, ints, g)) in omega (arith, ints, ends.1, size)) in
    and_from (not (int_lt z a)) (not (int_lt b z)) (lower_not z a ends.0) (lower_not b z high)

pub in_members : (x : Elem) (c : Cell) → is_in x c ≡ list_any (same_element x) (members c)
in_members x (one y) = sym (or_none (same_element x y))
in_members (Named n) (span a b) = sym (no_word n a (one_more (b -ℤ a)))
in_members (Num z) (span a b) = same_tests (is_between a b z)
    (list_any (same_element (Num z)) (integers_from a (one_more (b -ℤ a)))) (between_is_listed z a b)
    (listed_is_between z a b)

-- ---- some cells

among_members : (x : Elem) (cells : List Cell) → is_among cells x ≡ list_any (same_element x) (flat_map members cells)
among_members x [] = refl
among_members x (c ∷ cs) =
    ap (λ b. b || is_among cs x) (in_members x c)
    ∙ ap (λ b. list_any (same_element x) (members c) || b) (among_members x cs)
    ∙ sym (list_any-append (same_element x) (members c) (flat_map members cs))

or_through : (a b c : Bool) → ((a || (b || false)) || c) ≡ (a || (b || c))
or_through true b c = refl
or_through false true c = refl
or_through false false c = refl

or_held : (a b c : Bool) → (b ≡ true → a ≡ true) → (a || c) ≡ (a || (b || c))
or_held true b c f = refl
or_held false true c f = absurd (true≢false (sym (f refl)))
or_held false false c f = refl

with_one_more : (x y : Elem) (before rest : List Elem) (t : Bool) → list_any (same_element y) before ≡ t
    → (list_any (same_element x) (with_element before y) || list_any (same_element x) rest)
    ≡ (list_any (same_element x) before || (same_element x y || list_any (same_element x) rest))
with_one_more x y before rest true e =
    ap (λ b. list_any (same_element x) (if b then before else before ++ y ∷ []) || list_any (same_element x) rest) e
    ∙ or_held (list_any (same_element x) before) (same_element x y) (list_any (same_element x) rest)
    (λ s. ap (λ w. list_any (same_element w) before) (is_same x y s) ∙ e)
with_one_more x y before rest false e =
    ap (λ b. list_any (same_element x) (if b then before else before ++ y ∷ []) || list_any (same_element x) rest) e
    ∙ ap (λ b. b || list_any (same_element x) rest) (list_any-append (same_element x) before (y ∷ []))
    ∙ or_through (list_any (same_element x) before) (same_element x y) (list_any (same_element x) rest)

kept : (x : Elem) (before xs : List Elem) → list_any (same_element x) (fold with_element before xs)
    ≡ (list_any (same_element x) before || list_any (same_element x) xs)
kept x before [] = sym (or_none (list_any (same_element x) before))
kept x before (y ∷ ys) = kept x (with_element before y) ys ∙ with_one_more x y before ys
    (list_any (same_element y) before) refl

pub listed_are_among : ListedAreAmong
listed_are_among cells x = among_members x cells ∙ sym (kept x [] (flat_map members cells))
