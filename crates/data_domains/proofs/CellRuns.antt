-- Cells and the intervals of their integers.
use Rattle.std.proofs.Common.{◌≡◌, ℕ, zero, suc, ℤ, pos, ◌+ℤ◌, ◌-ℤ◌, ◌≤ℤ◌, ◌<ℤ◌, Bool, true, false, not, ◌&&◌, ◌||◌}
use Rattle.std.proofs.Common.{int_lt, List, [], ◌∷◌, Option, None, Some, ◌==◌, map, negsuc, option_map, refl, sym, ap}
use Rattle.std.proofs.Common.{◌∙◌, subst, arith, inl, inr}
use Rattle.std.specs.Int.{int_max}
use Rattle.std.specs.List.{list_all, list_any, sum_by, flat_map}
use Rattle.std.proofs.lemmas.Bool.{true≢false, and_from, and_parts, or_cases, eqb-true}
use Rattle.std.proofs.lemmas.Int.{ints, clamps, by_lt_z}
use Rattle.kb_logic.specs.declared.elements.Elem.{Elem}
use Rattle.kb_logic.specs.declared.elements.Elem.TheVariants.{Num}
use Rattle.kb_logic.specs.Bounds.{Interval}
use Rattle.stage_definitions.specs.Elements.{Cell, span, as_interval, do_share, integers_from, intervals_in}
use Rattle.stage_definitions.specs.Elements.{intervals_of}
use Rattle.stage_definitions.specs.Elements.{is_among, is_covered, is_in, one_more, size_of}
use Rattle.reading_laws.proofs.Bounded.{not_lower}
use Rattle.reading_laws.proofs.Counting.{same_sizes}
use Rattle.reading_laws.proofs.Covered.{all_kept, among_apart, covered_is_each}
use Rattle.reading_laws.proofs.Listing.{lower_not, one_more_is, same_tests}
use Rattle.reading_laws.proofs.Sharing.{shared_is_some}
use Rattle.data_domains.specs.Runs.{first_reaching, is_inside, AreApart, AreApartFrom}
use Rattle.data_domains.specs.Sets.{interval_view}
use Rattle.data_domains.specs.declared.intervals.Interval.{Interval as RunInterval}
use Rattle.data_domains.proofs.RunFacts.{found_from, gap_after, inside_reached, kept_apart, kept_inside, reached}
use Rattle.data_domains.proofs.RunFacts.{reached_later, within}

-- ---- integers from one on

each_in : (p : Elem → Bool) (a : ℤ) (n : ℕ) → list_all p (integers_from a n) ≡ true → (z : ℤ) → a ≤ℤ z
    → z <ℤ (a +ℤ pos n) → p (Num z) ≡ true
each_in p a zero h z low high = absurd (omega (arith, ints, low, high))
each_in p a (suc n) h z low high =
    let parts = and_parts (p (Num a)) (list_all p (integers_from (a +ℤ pos 1) n)) h in
    by_lt_z z (a +ℤ pos 1)
    (λ l. let same : z ≡ a = omega (arith, ints, low, l) in ap (λ y. p (Num y)) same ∙ parts.0)
    (λ g. each_in p (a +ℤ pos 1) n parts.1 z g (omega (arith, ints, high)))

all_in : (p : Elem → Bool) (a : ℤ) (n : ℕ) → ((z : ℤ) → a ≤ℤ z → z <ℤ (a +ℤ pos n) → p (Num z) ≡ true)
    → list_all p (integers_from a n) ≡ true
all_in p a zero h = refl
all_in p a (suc n) h = and_from (p (Num a)) (list_all p (integers_from (a +ℤ pos 1) n))
    (h a (omega (arith, ints)) (omega (arith, ints)))
    (all_in p (a +ℤ pos 1) n (λ z l k. h z (omega (arith, ints, l)) (omega (arith, ints, k))))

some_in : (p : Elem → Bool) (a : ℤ) (n : ℕ) (z : ℤ) → a ≤ℤ z → z <ℤ (a +ℤ pos n) → p (Num z) ≡ true
    → list_any p (integers_from a n) ≡ true
some_in p a zero z low high h = absurd (omega (arith, ints, low, high))
some_in p a (suc n) z low high h = by_lt_z z (a +ℤ pos 1)
    (λ l. let same : z ≡ a = omega (arith, ints, low, l) in ap (λ b. b || list_any p (integers_from (a +ℤ pos 1) n))
    (sym (ap (λ y. p (Num y)) same) ∙ h))
    (λ g. ap (λ b. p (Num a) || b) (some_in p (a +ℤ pos 1) n z g (omega (arith, ints, high)) h) ∙ or_true (p (Num a)))
  where
    or_true : (b : Bool) → (b || true) ≡ true
    or_true true = refl
    or_true false = refl

found_in : (p : Elem → Bool) (a : ℤ) (n : ℕ) → list_any p (integers_from a n) ≡ true → (z : ℤ) × (a ≤ℤ z)
    × (z <ℤ (a +ℤ pos n)) × (p (Num z) ≡ true)
found_in p a zero h = absurd (cc)
found_in p a (suc n) h = elim (or_cases (p (Num a)) (list_any p (integers_from (a +ℤ pos 1) n)) h) [
  | inl e ↦ (a, omega (arith, ints), omega (arith, ints), e)
  | inr e ↦ let rest = found_in p (a +ℤ pos 1) n e in (
    rest.0,
    omega (arith, ints, rest.1),
    omega (arith, ints, rest.2),
    rest.3,
  )
]

-- ---- the intervals of some cells

module _ (cells : List Cell) (is : List Interval) (y : ℤ) (same : (z : ℤ) → is_inside is z ≡ is_among cells (Num z))
    (apart : AreApartFrom y is) where
  pub among_reached : (z : ℤ) → reached z (first_reaching z is) ≡ is_among cells (Num z)
  among_reached z = sym (inside_reached y z is apart) ∙ same z

  pub sizes_alike : sum_by size_of is ≡ sum_by size_of (intervals_of cells)
  sizes_alike = same_sizes is (intervals_of cells) (kept_apart y is apart)
      (all_kept [] (flat_map intervals_in cells) tt) (λ z. same z ∙ among_apart z cells)

  -- all integers from a to b lie in one interval
  abbrev pub holds : ℤ → ℤ → Option Interval → Bool
  holds a b None = false
  holds a b (Some i) = not (int_lt a i.low) && not (int_lt i.high b)

  pub covered_by : (a b : ℤ) → a ≤ℤ b → holds a b (first_reaching a is) ≡ is_covered cells (span a b)
  covered_by a b order =
      let size = one_more_is (b -ℤ a) (omega (arith, ints, order)) in
      same_tests (holds a b (first_reaching a is)) (list_all (is_among cells) (integers_from a (one_more (b -ℤ a))))
      (λ h. there size (first_reaching a is) refl h)
      (λ h. back size (each_in (is_among cells) a (one_more (b -ℤ a)) h) (first_reaching a is) refl)
      ∙ sym (covered_is_each cells (span a b))
    where
      there : pos (one_more (b -ℤ a)) ≡ ((b -ℤ a) +ℤ pos 1) → (o : Option Interval) → first_reaching a is ≡ o
          → holds a b o ≡ true → list_all (is_among cells) (integers_from a (one_more (b -ℤ a))) ≡ true
      there size None e h = absurd (cc)
      there size (Some i) e h =
          let parts = and_parts (not (int_lt a i.low)) (not (int_lt i.high b)) h in
          let low = not_lower a i.low parts.0 in
          let high = not_lower i.high b parts.1 in
          all_in (is_among cells) a (one_more (b -ℤ a)) (λ z l k.
          sym (same z) ∙ kept_inside a z is i e (within i z (omega (arith, ints, low, l))
          (omega (arith, ints, high, k, size))))

      back : pos (one_more (b -ℤ a)) ≡ ((b -ℤ a) +ℤ pos 1) → ((z : ℤ) → a ≤ℤ z → z <ℤ (a +ℤ pos (one_more (b -ℤ a)))
          → is_among cells (Num z) ≡ true)
          → (o : Option Interval) → first_reaching a is ≡ o → holds a b o ≡ true
      back size each None e =
          let first = sym (ap (reached a) e) ∙ among_reached a ∙ each a (omega (arith, ints))
          (omega (arith, ints, size, order)) in
          absurd (true≢false (sym first))
      back size each (Some i) e =
          let first = sym (ap (reached a) e) ∙ among_reached a ∙ each a (omega (arith, ints))
          (omega (arith, ints, size, order)) in
          let at = found_from y a is i apart e in
          and_from (not (int_lt a i.low)) (not (int_lt i.high b)) first
          (by_lt_z i.high b
          (λ l. absurd (true≢false (sym (each (i.high +ℤ pos 1) (omega (arith, ints, at.2))
          (omega (arith, ints, l, size))) ∙ sym (same (i.high +ℤ pos 1)) ∙ gap_after y a is i apart e)))
          (λ g. lower_not i.high b g))

  -- some integer from a to b lies in the interval, which does not end before a
  abbrev pub touches : ℤ → Option Interval → Bool
  touches b None = false
  touches b (Some i) = not (int_lt b i.low)

  pub shared_by : (a b : ℤ) → a ≤ℤ b → touches b (first_reaching a is) ≡ list_any (do_share (span a b)) cells
  shared_by a b order =
      let size = one_more_is (b -ℤ a) (omega (arith, ints, order)) in
      same_tests (touches b (first_reaching a is)) (list_any (do_share (span a b)) cells)
      (λ h. there size (first_reaching a is) refl h)
      (λ h.
      let z = somewhere a b cells h in
      later z.0 (omega (arith, ints, z.2, size)) (first_reaching a is)
      (reached_later y a z.0 is apart z.1 (same z.0 ∙ z.3)))
    where
      later : (z : ℤ) → z ≤ℤ b → (o : Option Interval) → reached z o ≡ true → touches b o ≡ true
      later z l None h = absurd (cc)
      later z l (Some i) h = let low = not_lower z i.low h in lower_not b i.low (omega (arith, ints, l, low))

      shares : (z : ℤ) → a ≤ℤ z → z <ℤ (a +ℤ pos (one_more (b -ℤ a))) → (cs : List Cell) → is_among cs (Num z) ≡ true
          → list_any (do_share (span a b)) cs ≡ true
      shares z l k [] h = absurd (cc)
      shares z l k (c ∷ cs) h = elim (or_cases (is_in (Num z) c) (is_among cs (Num z)) h) [
        | inl e ↦ ap (λ t. t || list_any (do_share (span a b)) cs) (shared_is_some (span a b) c
            ∙ some_in (λ x. is_in x c) a (one_more (b -ℤ a)) z l k e)
        | inr e ↦ ap (λ t. do_share (span a b) c || t) (shares z l k cs e) ∙ or_true (do_share (span a b) c)
      ]
        where
          or_true : (t : Bool) → (t || true) ≡ true
          or_true true = refl
          or_true false = refl

      there : pos (one_more (b -ℤ a)) ≡ ((b -ℤ a) +ℤ pos 1) → (o : Option Interval) → first_reaching a is ≡ o
          → touches b o ≡ true → list_any (do_share (span a b)) cells ≡ true
      there size None e h = absurd (cc)
      there size (Some i) e h =
          let at = found_from y a is i apart e in
          let low = not_lower b i.low h in
          let z = int_max a i.low in
          shares (int_max a i.low) (omega (arith, ints, clamps)) (omega (arith, ints, clamps, size, low, order)) cells
          (sym (same (int_max a i.low)) ∙ kept_inside a (int_max a i.low) is i e
          (within i (int_max a i.low) (omega (arith, ints, clamps)) (omega (arith, ints, clamps, at.1, at.2))))

      somewhere : (a b : ℤ) (cs : List Cell) → list_any (do_share (span a b)) cs ≡ true → (z : ℤ) × (a ≤ℤ z)
          × (z <ℤ (a +ℤ pos (one_more (b -ℤ a)))) × (is_among cs (Num z) ≡ true)
      somewhere a b [] h = absurd (cc)
      somewhere a b (c ∷ cs) h = elim (or_cases (do_share (span a b) c) (list_any (do_share (span a b)) cs) h) [
        | inl e ↦
            let z = found_in (λ x. is_in x c) a (one_more (b -ℤ a)) (sym (shared_is_some (span a b) c) ∙ e) in
            (z.0, z.1, z.2, ap (λ t. t || is_among cs (Num z.0)) z.3)
        | inr e ↦
            let z = somewhere a b cs e in
            (z.0, z.1, z.2, ap (λ t. is_in (Num z.0) c || t) z.3 ∙ or_true (is_in (Num z.0) c))
      ]
        where
          or_true : (t : Bool) → (t || true) ≡ true
          or_true true = refl
          or_true false = refl

-- ---- empty ranges

order_by : (y : ℤ) → (one_more y == 0) ≡ false → pos 0 ≤ℤ y
order_by (pos n) h = omega (arith, ints)
order_by (negsuc n) h = absurd (true≢false h)

pub in_order : (a b : ℤ) → (size_of (as_interval a b) == 0) ≡ false → a ≤ℤ b
in_order a b h = let y = order_by (b -ℤ a) h in omega (arith, ints, y)

pub none_covered : (cells : List Cell) (a b : ℤ) → (size_of (as_interval a b) == 0) ≡ true
    → true ≡ is_covered cells (span a b)
none_covered cells a b h = sym (covered_is_each cells (span a b)
    ∙ ap (λ n. list_all (is_among cells) (integers_from a n)) (eqb-true (size_of (as_interval a b)) 0 h))

pub none_shared : (cells : List Cell) (a b : ℤ) → (size_of (as_interval a b) == 0) ≡ true
    → false ≡ list_any (do_share (span a b)) cells
none_shared [] a b h = refl
none_shared (c ∷ cs) a b h =
    none_shared cs a b h
    ∙ sym (ap (λ t. t || list_any (do_share (span a b)) cs) (shared_is_some (span a b) c
    ∙ ap (λ n. list_any (λ x. is_in x c) (integers_from a n)) (eqb-true (size_of (as_interval a b)) 0 h)))

-- ---- intervals in memory

pub found_by : (xs ys : List RunInterval) → xs ≡ ys → (z : ℤ) (r o : Option RunInterval)
    → (AreApart (map interval_view xs) → option_map interval_view r ≡ first_reaching z (map interval_view xs))
    → AreApart (map interval_view ys) → r ≡ o → first_reaching z (map interval_view ys) ≡ option_map interval_view o
found_by xs ys e z r o found apart is =
    sym (subst (λ zs. AreApart (map interval_view zs) → option_map interval_view r ≡ first_reaching z
    (map interval_view zs)) e found apart) ∙ ap (option_map interval_view) is
