-- As many elements are counted as are listed.
use Rattle.std.proofs.Common.{◌≡◌, ℕ, zero, suc, ◌+◌, ℤ, pos, ◌+ℤ◌, Bool, true, false, ◌||◌, List, [], ◌∷◌, ◌++◌}
use Rattle.std.proofs.Common.{length, map, fold, if◌then◌else◌, refl, sym, ap, ◌∙◌, arith, inl, inr, length-append}
use Rattle.std.specs.Prelude.{⊤}
use Rattle.std.specs.List.{list_any, flat_map, sum_by, AllByRecursion, IsDistinct}
use Rattle.std.specs.Str.{bytes_eq}
use Rattle.std.specs.Cmp.{IsEquivalence}
use Rattle.std.proofs.lemmas.Bool.{true≢false, or_cases, false_from_ne_true}
use Rattle.std.proofs.lemmas.Int.{ints}
use Rattle.std.proofs.lemmas.List.{length-map}
use Rattle.std.proofs.lemmas.List.Concat.{length-flat_map}
use Rattle.std.proofs.lemmas.List.Folds.{list_any-append}
use Rattle.std.proofs.lemmas.List.Sums.{sum_by-cons}
use Rattle.std.proofs.lemmas.Map.Keys.{IsDistinct-cons}
use Rattle.std.proofs.lemmas.Map.Made.{length-from_same_keys}
use Rattle.std.proofs.lemmas.Slice.Eq.{bytes_eq-Decides}
use Rattle.kb_logic.specs.declared.elements.Elem.{Elem}
use Rattle.kb_logic.specs.declared.elements.Elem.TheVariants.{Named, Num}
use Rattle.kb_logic.specs.Bounds.{Interval}
use Rattle.stage_definitions.specs.Elements.{Cell, one, span, same_element, is_among, size_of, intervals_in}
use Rattle.stage_definitions.specs.Elements.{intervals_of}
use Rattle.stage_definitions.specs.Elements.{words_in, with_word, words_of, integers_from, members, with_element}
use Rattle.stage_definitions.specs.Elements.{listed}
use Rattle.stage_definitions.specs.Elements.{count_of, do_meet}
use Rattle.reading_laws.specs.CellLaws.{ListedAreCounted}
use Rattle.reading_laws.proofs.Same.{is_same, itself}
use Rattle.reading_laws.proofs.Listing.{in_members, same_tests, lies_between, no_word, listed_are_among}
use Rattle.reading_laws.proofs.Covering.{lies_in, KeptApart, both_meet}
use Rattle.reading_laws.proofs.Covered.{all_kept, among_apart}

same_back : (x y : Elem) → same_element x y ≡ same_element y x
same_back x y = same_tests (same_element x y) (same_element y x)
    (λ e. ap (λ z. same_element z x) (sym (is_same x y e)) ∙ itself x)
    (λ e. ap (λ z. same_element z y) (sym (is_same y x e)) ∙ itself y)

same_equivalence : IsEquivalence same_element
same_equivalence = record {
  refl = itself;
  symm = same_back;
  congr = λ x y z e. ap (λ w. same_element w z)
      (is_same x y e);
}

-- ---- each element once

abbrev pub Once : List Elem → Type 0
Once [] = ⊤
Once (x ∷ xs) = (list_any (same_element x) xs ≡ false) × Once xs

none_same : (x : Elem) (xs : List Elem) → list_any (same_element x) xs ≡ false
    → AllByRecursion (λ y. same_element x y ≡ false) xs
none_same x [] h = tt
none_same x (y ∷ ys) h =
    let first : same_element x y ≡ false = false_from_ne_true (same_element x y)
    (λ e. true≢false (sym (ap (λ b. b || list_any (same_element x) ys) e) ∙ h)) in
    (first, none_same x ys (ap (λ b. b || list_any (same_element x) ys) (sym first) ∙ h))

nothing_twice : IsDistinct same_element []
unfolding IsDistinct
nothing_twice = tt

distinct : (xs : List Elem) → Once xs → IsDistinct same_element xs
distinct [] d = nothing_twice
distinct (x ∷ xs) d = IsDistinct-cons same_element x xs (none_same x xs d.0) (distinct xs d.1)

neither : (a b : Bool) → a ≡ false → b ≡ false → (a || b) ≡ false
neither true b h k = absurd (true≢false h)
neither false b h k = k

appended : (xs ys : List Elem) → Once xs → Once ys → ((q : Elem) → list_any (same_element q) xs ≡ true
    → list_any (same_element q) ys ≡ false) → Once (xs ++ ys)
appended [] ys d e apart = e
appended (x ∷ xs) ys d e apart = (
  list_any-append (same_element x) xs ys
      ∙ neither (list_any (same_element x) xs) (list_any (same_element x) ys) d.0
      (apart x (ap (λ b. b || list_any (same_element x) xs) (itself x))),
  appended xs ys d.1 e (λ q h. apart q (ap (λ b. same_element q x || b) h ∙ or_true (same_element q x))),
)
  where
    or_true : (b : Bool) → (b || true) ≡ true
    or_true true = refl
    or_true false = refl

-- ---- what is listed

pushed_once : (xs : List Elem) (y : Elem) → Once xs → list_any (same_element y) xs ≡ false → Once (xs ++ y ∷ [])
pushed_once xs y d h = appended xs (y ∷ []) d (refl, tt) (λ q e. false_from_ne_true (list_any (same_element q) (y ∷ []))
    (λ f. elim (or_cases (same_element q y) false f) [
      | inl g ↦ true≢false (sym (ap (λ w. list_any (same_element w) xs) (sym (is_same q y g)) ∙ e) ∙ h)
      | inr g ↦ true≢false (sym g)
    ]))

one_more_once : (before : List Elem) (y : Elem) (t : Bool) → list_any (same_element y) before ≡ t → Once before
    → Once (if t then before else before ++ y ∷ [])
one_more_once before y true e d = d
one_more_once before y false e d = pushed_once before y d e

all_once : (before xs : List Elem) → Once before → Once (fold with_element before xs)
all_once before [] d = d
all_once before (y ∷ ys) d = all_once (with_element before y) ys
    (one_more_once before y (list_any (same_element y) before) refl d)

pub listed_once : (cells : List Cell) → Once (listed cells)
listed_once cells = all_once [] (flat_map members cells) tt

-- ---- words

named_any : (n : List ℕ) (ws : List (List ℕ)) → list_any (same_element (Named n)) (map Named ws)
    ≡ list_any (bytes_eq n) ws
named_any n [] = refl
named_any n (w ∷ ws) = ap (λ b. bytes_eq n w || b) (named_any n ws)

no_number : (z : ℤ) (ws : List (List ℕ)) → list_any (same_element (Num z)) (map Named ws) ≡ false
no_number z [] = refl
no_number z (w ∷ ws) = no_number z ws

one_more_word : (before : List (List ℕ)) (w : List ℕ) (t : Bool) → list_any (bytes_eq w) before ≡ t
    → Once (map Named before) → Once (map Named (if t then before else w ∷ before))
one_more_word before w true e d = d
one_more_word before w false e d = (named_any w before ∙ e, d)

words_once : (before ws : List (List ℕ)) → Once (map Named before) → Once (map Named (fold with_word before ws))
words_once before [] d = d
words_once before (w ∷ ws) d = words_once (with_word before w) ws
    (one_more_word before w (list_any (bytes_eq w) before) refl d)

or_held : (a b c : Bool) → (b ≡ true → a ≡ true) → (a || c) ≡ (a || (b || c))
or_held true b c f = refl
or_held false true c f = absurd (true≢false (sym (f refl)))
or_held false false c f = refl

or_turned : (a b c : Bool) → ((b || a) || c) ≡ (a || (b || c))
or_turned true true c = refl
or_turned true false c = refl
or_turned false true c = refl
or_turned false false c = refl

or_none : (b : Bool) → b ≡ (b || false)
or_none true = refl
or_none false = refl

word_kept_by : (n w : List ℕ) (before ws : List (List ℕ)) (t : Bool) → list_any (bytes_eq w) before ≡ t
    → (list_any (bytes_eq n) (if t then before else w ∷ before) || list_any (bytes_eq n) ws)
    ≡ (list_any (bytes_eq n) before || (bytes_eq n w || list_any (bytes_eq n) ws))
word_kept_by n w before ws true e = or_held (list_any (bytes_eq n) before) (bytes_eq n w) (list_any (bytes_eq n) ws)
    (λ h. ap (λ v. list_any (bytes_eq v) before) ((bytes_eq-Decides n w).0 h) ∙ e)
word_kept_by n w before ws false e = or_turned (list_any (bytes_eq n) before) (bytes_eq n w) (list_any (bytes_eq n) ws)

word_kept : (n : List ℕ) (before ws : List (List ℕ)) → list_any (bytes_eq n) (fold with_word before ws)
    ≡ (list_any (bytes_eq n) before || list_any (bytes_eq n) ws)
word_kept n before [] = or_none (list_any (bytes_eq n) before)
word_kept n before (w ∷ ws) = word_kept n (with_word before w) ws
    ∙ word_kept_by n w before ws (list_any (bytes_eq w) before) refl

among_words : (n : List ℕ) (cells : List Cell) → list_any (bytes_eq n) (flat_map words_in cells)
    ≡ is_among cells (Named n)
among_words n [] = refl
among_words n (one (Named m) ∷ cs) = ap (λ b. bytes_eq n m || b) (among_words n cs)
among_words n (one (Num z) ∷ cs) = among_words n cs
among_words n (span a b ∷ cs) = among_words n cs

-- ---- integers

abbrev integers_in : Interval → List Elem
integers_in i = integers_from i.low (size_of i)

none_before : (a : ℤ) (n : ℕ) → list_any (same_element (Num a)) (integers_from (a +ℤ pos 1) n) ≡ false
none_before a n = false_from_ne_true (list_any (same_element (Num a)) (integers_from (a +ℤ pos 1) n)) (λ h. let ends =
    lies_between a (a +ℤ pos 1) n h in absurd (omega (arith, ints, ends.0)))

integers_once : (a : ℤ) (n : ℕ) → Once (integers_from a n)
integers_once a zero = tt
integers_once a (suc n) = (none_before a n, integers_once (a +ℤ pos 1) n)

in_one : (z : ℤ) (i : Interval) → list_any (same_element (Num z)) (integers_in i) ≡ lies_in z i
in_one z i = sym (in_members (Num z) (span i.low i.high))

in_some : (z : ℤ) (ks : List Interval) → list_any (same_element (Num z)) (flat_map integers_in ks)
    ≡ list_any (lies_in z) ks
in_some z [] = refl
in_some z (k ∷ ks) =
    list_any-append (same_element (Num z)) (integers_in k) (flat_map integers_in ks)
    ∙ ap (λ b. b || list_any (same_element (Num z)) (flat_map integers_in ks)) (in_one z k)
    ∙ ap (λ b. lies_in z k || b) (in_some z ks)

no_words : (n : List ℕ) (ks : List Interval) → list_any (same_element (Named n)) (flat_map integers_in ks) ≡ false
no_words n [] = refl
no_words n (k ∷ ks) =
    list_any-append (same_element (Named n)) (integers_in k) (flat_map integers_in ks)
    ∙ neither (list_any (same_element (Named n)) (integers_in k))
    (list_any (same_element (Named n)) (flat_map integers_in ks)) (no_word n k.low (size_of k)) (no_words n ks)

apart_here : (k : Interval) (ks : List Interval) → list_any (do_meet k) ks ≡ false → (q : Elem)
    → list_any (same_element q) (integers_in k) ≡ true → list_any (same_element q) (flat_map integers_in ks) ≡ false
apart_here k ks d (Named n) h = no_words n ks
apart_here k ks d (Num z) h = false_from_ne_true (list_any (same_element (Num z)) (flat_map integers_in ks))
    (λ e. true≢false (sym (both_meet z k ks (sym (in_one z k) ∙ h) (sym (in_some z ks) ∙ e)) ∙ d))

all_integers_once : (ks : List Interval) → KeptApart ks → Once (flat_map integers_in ks)
all_integers_once [] d = tt
all_integers_once (k ∷ ks) d = appended (integers_in k) (flat_map integers_in ks) (integers_once k.low (size_of k))
    (all_integers_once ks d.1) (apart_here k ks d.0)

-- ---- words and integers

abbrev in_kinds : List Cell → List Elem
in_kinds cells = map Named (words_of cells) ++ flat_map integers_in (intervals_of cells)

kinds_apart : (cells : List Cell) (q : Elem) → list_any (same_element q) (map Named (words_of cells)) ≡ true
    → list_any (same_element q) (flat_map integers_in (intervals_of cells)) ≡ false
kinds_apart cells (Named n) h = no_words n (intervals_of cells)
kinds_apart cells (Num z) h = absurd (true≢false (sym h ∙ no_number z (words_of cells)))

kinds_once : (cells : List Cell) → Once (in_kinds cells)
kinds_once cells =
    appended (map Named (words_of cells)) (flat_map integers_in (intervals_of cells))
    (words_once [] (flat_map words_in cells) tt)
    (all_integers_once (intervals_of cells) (all_kept [] (flat_map intervals_in cells) tt))
    (kinds_apart cells)

in_kinds_too : (cells : List Cell) (q : Elem) → is_among cells q ≡ list_any (same_element q) (in_kinds cells)
in_kinds_too cells (Named n) =
    sym (list_any-append (same_element (Named n)) (map Named (words_of cells))
    (flat_map integers_in (intervals_of cells))
    ∙ ap (λ b. list_any (same_element (Named n)) (map Named (words_of cells)) || b) (no_words n (intervals_of cells))
    ∙ sym (or_none (list_any (same_element (Named n)) (map Named (words_of cells))))
    ∙ named_any n (words_of cells)
    ∙ word_kept n [] (flat_map words_in cells)
    ∙ among_words n cells)
in_kinds_too cells (Num z) =
    sym (list_any-append (same_element (Num z)) (map Named (words_of cells)) (flat_map integers_in (intervals_of cells))
    ∙ ap (λ b. b || list_any (same_element (Num z)) (flat_map integers_in (intervals_of cells)))
    (no_number z (words_of cells))
    ∙ in_some z (intervals_of cells)
    ∙ sym (among_apart z cells))

-- ---- lengths

length-integers_from : (a : ℤ) (n : ℕ) → length (integers_from a n) ≡ n
length-integers_from a zero = refl
length-integers_from a (suc n) = ap suc (length-integers_from (a +ℤ pos 1) n)

sizes_sum : (ks : List Interval) → sum_by (λ k. length (integers_in k)) ks ≡ sum_by size_of ks
sizes_sum [] = refl
sizes_sum (k ∷ ks) =
    sum_by-cons (λ j. length (integers_in j)) k ks
    ∙ ap (λ m. m + sum_by (λ j. length (integers_in j)) ks) (length-integers_from k.low (size_of k))
    ∙ ap (λ m. size_of k + m) (sizes_sum ks)
    ∙ sym (sum_by-cons size_of k ks)

length-in_kinds : (cells : List Cell) → length (in_kinds cells) ≡ count_of cells
length-in_kinds cells =
    length-append (map Named (words_of cells)) (flat_map integers_in (intervals_of cells))
    ∙ ap (λ m. m + length (flat_map integers_in (intervals_of cells))) (length-map (words_of cells) Named)
    ∙ ap (λ m. length (words_of cells) + m) (length-flat_map integers_in (intervals_of cells)
    ∙ sizes_sum (intervals_of cells))

pub listed_are_counted : ListedAreCounted
listed_are_counted cells =
    sym (length-from_same_keys same_equivalence (listed cells) (in_kinds cells)
    (distinct (listed cells) (all_once [] (flat_map members cells) tt))
    (distinct (in_kinds cells) (kinds_once cells))
    (λ q. sym (listed_are_among cells q) ∙ in_kinds_too cells q)
    ∙ length-in_kinds cells)

-- ---- the same integers in other intervals

all_length : (ks : List Interval) → length (flat_map integers_in ks) ≡ sum_by size_of ks
all_length ks = length-flat_map integers_in ks ∙ sizes_sum ks

alike : (js ks : List Interval) → ((z : ℤ) → list_any (lies_in z) js ≡ list_any (lies_in z) ks) → (q : Elem)
    → list_any (same_element q) (flat_map integers_in js) ≡ list_any (same_element q) (flat_map integers_in ks)
alike js ks same (Named n) = no_words n js ∙ sym (no_words n ks)
alike js ks same (Num z) = in_some z js ∙ same z ∙ sym (in_some z ks)

-- intervals of which no two meet have as many integers as others with the same ones
pub same_sizes : (js ks : List Interval) → KeptApart js → KeptApart ks
    → ((z : ℤ) → list_any (lies_in z) js ≡ list_any (lies_in z) ks) → sum_by size_of js ≡ sum_by size_of ks
same_sizes js ks d e same =
    sym (all_length js)
    ∙ length-from_same_keys same_equivalence (flat_map integers_in js) (flat_map integers_in ks)
    (distinct (flat_map integers_in js) (all_integers_once js d))
    (distinct (flat_map integers_in ks) (all_integers_once ks e))
    (alike js ks same)
    ∙ all_length ks
