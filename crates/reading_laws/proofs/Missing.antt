-- A function without a mark misses a tuple where some tuple over the domains has no row.
use Rattle.std.proofs.Common.{◌≡◌, ℕ, zero, suc, ◌+◌, ◌*◌, ◌≤◌, nat_lt, Bool, true, false, not, ◌&&◌, ◌||◌, List, []}
use Rattle.std.proofs.Common.{◌∷◌, ◌++◌, length, map, filter, fold, if◌then◌else◌, Option, None, Some, slice_get}
use Rattle.std.proofs.Common.{unwrap_or, refl, sym, ap, subst, ◌∙◌, arith, inl, inr}
use Rattle.std.specs.Prelude.{⊤}
use Rattle.std.specs.Cmp.{IsEquivalence}
use Rattle.std.specs.List.{list_any, flat_map, filter_map, AllByRecursion, IsDistinct, enumerate_from}
use Rattle.std.proofs.lemmas.Bool.{true≢false, or_cases, cases_Bool, false_from_ne_true, and_parts, and_from}
use Rattle.std.proofs.lemmas.Bool.Decides.{nat_tests}
use Rattle.std.proofs.lemmas.List.Folds.{list_any-append}
use Rattle.std.proofs.lemmas.Map.Keys.{IsDistinct-cons}
use Rattle.std.proofs.lemmas.Map.Made.{length-le_from_is_member}
use Rattle.kb_logic.specs.declared.elements.Elem.{Elem}
use Rattle.kb_logic.specs.declared.vocabularies.TypeDecl.{TypeDecl}
use Rattle.kb_logic.specs.Structures.{domain_at, tuples_of}
use Rattle.stage_definitions.specs.Elements.{same_element, is_among, listed, count_of}
use Rattle.stage_definitions.specs.DataEntries.{Said, fitting}
use Rattle.stage_definitions.specs.DataDomains.{cells_by, cells_if, cells_of, domains_of}
use Rattle.stage_definitions.specs.DataFacts.{single_elements, same_tuple, with_tuple, is_over, tuples_given}
use Rattle.stage_definitions.specs.DataFacts.{tuple_count}
use Rattle.reading_laws.specs.CellLaws.{has_no_row, MissedIsSome}
use Rattle.reading_laws.proofs.Same.{is_same, itself}
use Rattle.reading_laws.proofs.Listing.{same_tests, listed_are_among}
use Rattle.reading_laws.proofs.Counting.{Once, listed_once, listed_are_counted}
use Rattle.reading_laws.proofs.Products.{product_counts_tuples}

-- ---- equal tuples

tuple_is : (xs ys : List Elem) → same_tuple xs ys ≡ true → xs ≡ ys
tuple_is [] [] h = refl
tuple_is [] (y ∷ ys) h = absurd (true≢false (sym h))
tuple_is (x ∷ xs) [] h = absurd (true≢false (sym h))
tuple_is (x ∷ xs) (y ∷ ys) h =
    let parts = and_parts (same_element x y) (same_tuple xs ys) h in
    ap (λ z. z ∷ xs) (is_same x y parts.0) ∙ ap (λ zs. y ∷ zs) (tuple_is xs ys parts.1)

tuple_itself : (xs : List Elem) → same_tuple xs xs ≡ true
tuple_itself [] = refl
tuple_itself (x ∷ xs) = and_from (same_element x x) (same_tuple xs xs) (itself x) (tuple_itself xs)

tuple_back : (xs ys : List Elem) → same_tuple xs ys ≡ same_tuple ys xs
tuple_back xs ys = same_tests (same_tuple xs ys) (same_tuple ys xs)
    (λ e. ap (λ zs. same_tuple zs xs) (sym (tuple_is xs ys e)) ∙ tuple_itself xs)
    (λ e. ap (λ zs. same_tuple zs ys) (sym (tuple_is ys xs e)) ∙ tuple_itself ys)

tuple_equivalence : IsEquivalence same_tuple
tuple_equivalence = record {
  refl = tuple_itself;
  symm = tuple_back;
  congr = λ x y z e. ap (λ w. same_tuple w z)
      (tuple_is x y e);
}

-- ---- each tuple once

abbrev Single : List (List Elem) → Type 0
Single [] = ⊤
Single (t ∷ ts) = (list_any (same_tuple t) ts ≡ false) × Single ts

none_same : (t : List Elem) (ts : List (List Elem)) → list_any (same_tuple t) ts ≡ false
    → AllByRecursion (λ u. same_tuple t u ≡ false) ts
none_same t [] h = tt
none_same t (u ∷ us) h =
    let first : same_tuple t u ≡ false = false_from_ne_true (same_tuple t u)
    (λ e. true≢false (sym (ap (λ b. b || list_any (same_tuple t) us) e) ∙ h)) in
    (first, none_same t us (ap (λ b. b || list_any (same_tuple t) us) (sym first) ∙ h))

nothing_twice : IsDistinct same_tuple []
unfolding IsDistinct
nothing_twice = tt

distinct : (ts : List (List Elem)) → Single ts → IsDistinct same_tuple ts
distinct [] d = nothing_twice
distinct (t ∷ ts) d = IsDistinct-cons same_tuple t ts (none_same t ts d.0) (distinct ts d.1)

neither : (a b : Bool) → a ≡ false → b ≡ false → (a || b) ≡ false
neither true b h k = absurd (true≢false h)
neither false b h k = k

or_true : (b : Bool) → (b || true) ≡ true
or_true true = refl
or_true false = refl

or_none : (b : Bool) → b ≡ (b || false)
or_none true = refl
or_none false = refl

appended : (xs ys : List (List Elem)) → Single xs → Single ys → ((q : List Elem) → list_any (same_tuple q) xs ≡ true
    → list_any (same_tuple q) ys ≡ false) → Single (xs ++ ys)
appended [] ys d e apart = e
appended (x ∷ xs) ys d e apart = (
  list_any-append (same_tuple x) xs ys
      ∙ neither (list_any (same_tuple x) xs) (list_any (same_tuple x) ys) d.0
      (apart x (ap (λ b. b || list_any (same_tuple x) xs) (tuple_itself x))),
  appended xs ys d.1 e (λ q h. apart q (ap (λ b. same_tuple q x || b) h ∙ or_true (same_tuple q x))),
)

-- ---- the tuples over some domains

and_none : (b : Bool) → (b && false) ≡ false
and_none true = refl
and_none false = refl

and_through : (a b c : Bool) → ((a && b) || (a && c)) ≡ (a && (b || c))
and_through true b c = refl
and_through false b c = refl

and_across : (a b c : Bool) → ((a && c) || (b && c)) ≡ ((a || b) && c)
and_across true true true = refl
and_across true true false = refl
and_across true false c = sym (or_none c)
and_across false b c = refl

first_then : (y x : Elem) (ys : List Elem) (rest : List (List Elem)) → list_any (same_tuple (y ∷ ys))
    (map (λ t. x ∷ t) rest) ≡ (same_element y x && list_any (same_tuple ys) rest)
first_then y x ys [] = sym (and_none (same_element y x))
first_then y x ys (t ∷ ts) = ap (λ b. (same_element y x && same_tuple ys t) || b) (first_then y x ys ts)
    ∙ and_through (same_element y x) (same_tuple ys t) (list_any (same_tuple ys) ts)

any_then : (y : Elem) (ys : List Elem) (xs : List Elem) (rest : List (List Elem)) → list_any (same_tuple (y ∷ ys))
    (flat_map (λ x. map (λ t. x ∷ t) rest) xs) ≡ (list_any (same_element y) xs && list_any (same_tuple ys) rest)
any_then y ys [] rest = refl
any_then y ys (x ∷ xs) rest =
    list_any-append (same_tuple (y ∷ ys)) (map (λ t. x ∷ t) rest) (flat_map (λ z. map (λ t. z ∷ t) rest) xs)
    ∙ ap (λ b. b || list_any (same_tuple (y ∷ ys)) (flat_map (λ z. map (λ t. z ∷ t) rest) xs)) (first_then y x ys rest)
    ∙ ap (λ b. (same_element y x && list_any (same_tuple ys) rest) || b) (any_then y ys xs rest)
    ∙ and_across (same_element y x) (list_any (same_element y) xs) (list_any (same_tuple ys) rest)

no_empty : (x : Elem) (rest : List (List Elem)) → list_any (same_tuple []) (map (λ t. x ∷ t) rest) ≡ false
no_empty x [] = refl
no_empty x (t ∷ ts) = no_empty x ts

none_empty : (xs : List Elem) (rest : List (List Elem)) → list_any (same_tuple [])
    (flat_map (λ x. map (λ t. x ∷ t) rest) xs) ≡ false
none_empty [] rest = refl
none_empty (x ∷ xs) rest =
    list_any-append (same_tuple []) (map (λ t. x ∷ t) rest) (flat_map (λ z. map (λ t. z ∷ t) rest) xs)
    ∙ neither (list_any (same_tuple []) (map (λ t. x ∷ t) rest))
    (list_any (same_tuple []) (flat_map (λ z. map (λ t. z ∷ t) rest) xs)) (no_empty x rest) (none_empty xs rest)

single_behind : (x : Elem) (rest : List (List Elem)) → Single rest → Single (map (λ t. x ∷ t) rest)
single_behind x [] d = tt
single_behind x (t ∷ ts) d = (
  first_then x x t ts ∙ ap (λ b. same_element x x && b) d.0 ∙ and_none (same_element x x),
  single_behind x ts d.1,
)

apart_behind : (x : Elem) (xs : List Elem) (rest : List (List Elem)) → list_any (same_element x) xs ≡ false
    → (q : List Elem) → list_any (same_tuple q) (map (λ t. x ∷ t) rest) ≡ true
    → list_any (same_tuple q) (flat_map (λ z. map (λ t. z ∷ t) rest) xs) ≡ false
apart_behind x xs rest d [] h = none_empty xs rest
apart_behind x xs rest d (y ∷ ys) h =
    let here = and_parts (same_element y x) (list_any (same_tuple ys) rest) (sym (first_then y x ys rest) ∙ h) in
    any_then y ys xs rest ∙ ap (λ b. b && list_any (same_tuple ys) rest)
    (ap (λ z. list_any (same_element z) xs) (is_same y x here.0) ∙ d)

single_over : (xs : List Elem) (rest : List (List Elem)) → Once xs → Single rest
    → Single (flat_map (λ x. map (λ t. x ∷ t) rest) xs)
single_over [] rest d e = tt
single_over (x ∷ xs) rest d e = appended (map (λ t. x ∷ t) rest) (flat_map (λ z. map (λ t. z ∷ t) rest) xs)
    (single_behind x rest e) (single_over xs rest d.1 e) (apart_behind x xs rest d.0)

-- ---- the domains

abbrev domain_if : (ℕ × TypeDecl → List Elem) → ℕ → Option TypeDecl → List Elem
domain_if F i None = []
domain_if F i (Some d) = F (i, d)

domain_from : (F : ℕ × TypeDecl → List Elem) (types : List TypeDecl) (i t : ℕ)
    → unwrap_or (slice_get (map F (enumerate_from i types)) t) [] ≡ domain_if F (i + t) (slice_get types t)
domain_from F [] i t = refl
domain_from F (d ∷ ds) i zero = let same : i ≡ i + 0 = omega arith in ap (λ n. F (n, d)) same
domain_from F (d ∷ ds) i (suc t) = let same : (i + 1) + t ≡ i + suc t = omega arith in domain_from F ds (i + 1) t
    ∙ ap (λ n. domain_if F n (slice_get ds t)) same

listed_if : (types : List TypeDecl) (es : List Said) (t : ℕ) (o : Option TypeDecl)
    → domain_if (λ u. listed (cells_by types es u.0 u.1)) t o ≡ listed (cells_if types es t o)
listed_if types es t None = refl
listed_if types es t (Some d) = refl

pub domain_is : (types : List TypeDecl) (es : List Said) (t : ℕ) → domain_at (domains_of types es) t
    ≡ listed (cells_of types es t)
domain_is types es t =
    let same : 0 + t ≡ t = omega arith in
    domain_from (λ u. listed (cells_by types es u.0 u.1)) types 0 t
    ∙ ap (λ n. domain_if (λ u. listed (cells_by types es u.0 u.1)) n (slice_get types t)) same
    ∙ listed_if types es t (slice_get types t)

over_is : (types : List TypeDecl) (es : List Said) (args : List ℕ) (t : List Elem)
    → list_any (same_tuple t) (tuples_of (domains_of types es) args) ≡ is_over types es args t
over_is types es [] [] = refl
over_is types es [] (x ∷ xs) = refl
over_is types es (a ∷ as') [] = none_empty (domain_at (domains_of types es) a) (tuples_of (domains_of types es) as')
over_is types es (a ∷ as') (y ∷ ys) =
    any_then y ys (domain_at (domains_of types es) a) (tuples_of (domains_of types es) as')
    ∙ ap (λ d. list_any (same_element y) d && list_any (same_tuple ys) (tuples_of (domains_of types es) as'))
    (domain_is types es a)
    ∙ ap (λ b. b && list_any (same_tuple ys) (tuples_of (domains_of types es) as'))
    (sym (listed_are_among (cells_of types es a) y))
    ∙ ap (λ b. is_among (cells_of types es a) y && b) (over_is types es as' ys)

tuples_single : (types : List TypeDecl) (es : List Said) (args : List ℕ) → Single (tuples_of (domains_of types es) args)
tuples_single types es [] = (refl, tt)
tuples_single types es (a ∷ as') = single_over (domain_at (domains_of types es) a) (tuples_of (domains_of types es) as')
    (by_listed (sym (domain_is types es a)) (listed_once (cells_of types es a))) (tuples_single types es as')
  where
    by_listed : {xs ys : List Elem} → xs ≡ ys → Once xs → Once ys
    by_listed e d = subst Once e d

count_from : (types : List TypeDecl) (es : List Said) (n : ℕ) (args : List ℕ)
    → fold (λ m t. m * count_of (cells_of types es t)) n args ≡ fold
    (λ m t. m * length (domain_at (domains_of types es) t)) n args
count_from types es n [] = refl
count_from types es n (a ∷ as') =
    let same : count_of (cells_of types es a) ≡ length (domain_at (domains_of types es) a) =
    listed_are_counted (cells_of types es a) ∙ ap length (sym (domain_is types es a)) in
    ap (λ m. fold (λ k t. k * count_of (cells_of types es t)) (n * m) as') same
    ∙ count_from types es (n * length (domain_at (domains_of types es) a)) as'

count_is : (types : List TypeDecl) (es : List Said) (args : List ℕ) → tuple_count types es args
    ≡ length (tuples_of (domains_of types es) args)
count_is types es args = count_from types es 1 args ∙ sym (product_counts_tuples (domains_of types es) args)

-- ---- the tuples that are given

one_more_single : (before : List (List Elem)) (t : List Elem) (b : Bool) → list_any (same_tuple t) before ≡ b
    → Single before → Single (if b then before else t ∷ before)
one_more_single before t true e d = d
one_more_single before t false e d = (e, d)

given_single : (before ts : List (List Elem)) → Single before → Single (fold with_tuple before ts)
given_single before [] d = d
given_single before (t ∷ ts) d = given_single (with_tuple before t) ts
    (one_more_single before t (list_any (same_tuple t) before) refl d)

-- what is added passes the test
one_more_over : (test : List Elem → Bool) (before : List (List Elem)) (t : List Elem) (b : Bool) → test t ≡ true
    → ((q : List Elem) → list_any (same_tuple q) before ≡ true → test q ≡ true) → (q : List Elem)
    → list_any (same_tuple q) (if b then before else t ∷ before) ≡ true → test q ≡ true
one_more_over test before t true h all q e = all q e
one_more_over test before t false h all q e = elim (or_cases (same_tuple q t) (list_any (same_tuple q) before) e) [
  | inl f ↦ ap test (tuple_is q t f) ∙ h
  | inr f ↦ all q f
]

-- where the tests let through what comes after, they do so with one more before it
over_by : (test : List Elem → Bool) (before : List (List Elem)) (t : List Elem) (rest : List (List Elem))
    → ((q : List Elem) → list_any (same_tuple q) before ≡ true → test q ≡ true)
    → ((more : List (List Elem)) → ((q : List Elem) → list_any (same_tuple q) more ≡ true → test q ≡ true)
    → (q : List Elem) → list_any (same_tuple q) (fold with_tuple more rest) ≡ true → test q ≡ true)
    → (q : List Elem) → (b : Bool) → test t ≡ b → list_any (same_tuple q)
    (fold with_tuple before (if b then t ∷ rest else rest)) ≡ true → test q ≡ true
over_by test before t rest all behind q true e h = behind (with_tuple before t)
    (one_more_over test before t (list_any (same_tuple t) before) e all) q h
over_by test before t rest all behind q false e h = behind before all q h

all_over : (test : List Elem → Bool) (before ts : List (List Elem))
    → ((q : List Elem) → list_any (same_tuple q) before ≡ true → test q ≡ true) → (q : List Elem)
    → list_any (same_tuple q) (fold with_tuple before (filter test ts)) ≡ true → test q ≡ true
all_over test before [] all q h = all q h
all_over test before (t ∷ ts) all q h = over_by test before t (filter test ts) all
    (λ more fine p k. all_over test more ts fine p k) q (test t) refl h

-- ---- a tuple that is not given

any_by : (test : List Elem → Bool) (t : List Elem) (ts : List (List Elem)) → list_any (same_tuple t) ts ≡ true
    → test t ≡ true → list_any test ts ≡ true
any_by test t [] h k = absurd (true≢false (sym h))
any_by test t (u ∷ us) h k = elim (or_cases (same_tuple t u) (list_any (same_tuple t) us) h) [
  | inl e ↦ ap (λ b. b || list_any test us) (ap test (sym (tuple_is t u e)) ∙ k)
  | inr e ↦ ap (λ b. test u || b) (any_by test t us e k) ∙ or_true (test u)
]

any_is : (test : List Elem → Bool) (ts : List (List Elem)) → list_any test ts ≡ true
    → (t : List Elem) × (list_any (same_tuple t) ts ≡ true) × (test t ≡ true)
any_is test [] h = absurd (true≢false (sym h))
any_is test (t ∷ ts) h = elim (or_cases (test t) (list_any test ts) h) [
  | inl e ↦ (t, ap (λ b. b || list_any (same_tuple t) ts) (tuple_itself t), e)
  | inr e ↦ let rest = any_is test ts e in (
    rest.0,
    ap (λ b. same_tuple rest.0 t || b) rest.1
        ∙ or_true (same_tuple rest.0 t),
    rest.2,
  )
]

not_not : (b : Bool) → not b ≡ true → b ≡ false
not_not true h = absurd (true≢false (sym h))
not_not false h = refl

abbrev open_test : List (List Elem) → List Elem → Bool
open_test given t = not (list_any (same_tuple t) given)

given_each : (given tuples : List (List Elem)) → list_any (open_test given) tuples ≡ false → (q : List Elem)
    → list_any (same_tuple q) tuples ≡ true → list_any (same_tuple q) given ≡ true
given_each given tuples none q h = elim (cases_Bool (list_any (same_tuple q) given)) [
  | inl e ↦ e
  | inr e ↦ absurd (true≢false (sym (any_by (open_test given) q tuples h (ap not e)) ∙ none))
]

fewer_means : (given tuples : List (List Elem)) → Single tuples → nat_lt (length given) (length tuples) ≡ true
    → list_any (open_test given) tuples ≡ true
fewer_means given tuples d h = elim (cases_Bool (list_any (open_test given) tuples)) [
  | inl e ↦ e
  | inr e ↦ let most = length-le_from_is_member tuple_equivalence tuples given (distinct tuples d)
      (given_each given tuples e) in absurd (grind (arith, nat_tests, most, h))
]

means_fewer : (given tuples : List (List Elem)) → Single given → ((q : List Elem) → list_any (same_tuple q) given ≡ true
    → list_any (same_tuple q) tuples ≡ true) → list_any (open_test given) tuples ≡ true
    → nat_lt (length given) (length tuples) ≡ true
means_fewer given tuples d within h =
    let found = any_is (open_test given) tuples h in
    let apart = not_not (list_any (same_tuple found.0) given) found.2 in
    let most = length-le_from_is_member tuple_equivalence (found.0 ∷ given) tuples
    (distinct (found.0 ∷ given) (apart, d)) (both found.0 found.1) in
    less (length given) (length tuples) most
  where
    both : (t : List Elem) → list_any (same_tuple t) tuples ≡ true → (q : List Elem)
        → list_any (same_tuple q) (t ∷ given) ≡ true → list_any (same_tuple q) tuples ≡ true
    both t at q e = elim (or_cases (same_tuple q t) (list_any (same_tuple q) given) e) [
      | inl f ↦ ap (λ u. list_any (same_tuple u) tuples) (tuple_is q t f) ∙ at
      | inr f ↦ within q f
    ]

    less : (m n : ℕ) → suc m ≤ n → nat_lt m n ≡ true
    less m n l = grind (arith, nat_tests, l)

pub missed_is_some : MissedIsSome
missed_is_some types es args e =
    let tuples = tuples_of (domains_of types es) args in
    let written = filter_map (λ r. single_elements r.items) (fitting e) in
    ap (λ n. nat_lt (length (tuples_given types es args e)) n) (count_is types es args)
    ∙ same_tests (nat_lt (length (tuples_given types es args e)) (length tuples))
    (list_any (has_no_row types es args e) tuples)
    (fewer_means (tuples_given types es args e) tuples (tuples_single types es args))
    (means_fewer (tuples_given types es args e) tuples (given_single [] (filter (is_over types es args) written) tt)
    (λ q h. over_is types es args q ∙ all_over (is_over types es args) [] written
    (λ p k. absurd (true≢false (sym k))) q h))
