-- How far the integers of a domain reach, by what is listed.
use Rattle.std.proofs.Common.{◌≡◌, ◌≤ℤ◌, ◌+ℤ◌, ℤ, pos, Bool, true, false, ◌||◌}
use Rattle.std.proofs.Common.{List, [], ◌∷◌, Option, None, Some, unwrap_or}
use Rattle.std.proofs.Common.{refl, sym, ap, ◌∙◌, subst, arith, inl, inr}
use Rattle.std.specs.Int.{int_min, int_max}
use Rattle.std.specs.List.{list_any}
use Rattle.std.proofs.lemmas.Bool.{true≢false, or_cases}
use Rattle.std.proofs.lemmas.Bool.Decides.{Decides-int_eq}
use Rattle.std.proofs.lemmas.Int.{ints, clamps, by_lt_z}
use Rattle.kb_logic.specs.declared.elements.Elem.{Elem}
use Rattle.kb_logic.specs.declared.elements.Elem.TheVariants.{Named, Num}
use Rattle.kb_logic.specs.Bounds.{Interval, exactly, hull, integers, range_of}
use Rattle.stage_definitions.specs.Elements.{Cell, listed, same_element}
use Rattle.reading_laws.proofs.Listing.{listed_are_among}
use Rattle.data_domains.specs.Runs.{is_inside, AreApart, AreApartFrom}
use Rattle.data_domains.specs.Sets.{runs_in, IsSetOf}
use Rattle.data_domains.specs.declared.sets.ElementSet.{ElementSet}
use Rattle.data_domains.proofs.RunFacts.{ends, within}
use Rattle.size_stage.specs.Counted.{last_of}
use Rattle.size_stage.specs.Ranges.{interval}

-- the integer is one of the elements
abbrev has : List Elem → ℤ → Bool
has xs z = list_any (same_element (Num z)) xs

-- both ends are there, and all integers that are there lie between them
record Reaches (test : ℤ → Bool) (i : Interval) : Type 0 where
  low : test i.low ≡ true
  high : test i.high ≡ true
  all : (z : ℤ) → test z ≡ true → (i.low ≤ℤ z) × (z ≤ℤ i.high)

-- no integer is there, or they reach so far
abbrev ReachesIf : (ℤ → Bool) → Option Interval → Type 0
ReachesIf test None = (z : ℤ) → test z ≡ false
ReachesIf test (Some i) = Reaches test i

itself : (z : ℤ) → same_element (Num z) (Num z) ≡ true
itself z = (Decides-int_eq z z).1 refl

or_first : (a b : Bool) → a ≡ true → (a || b) ≡ true
or_first true b h = refl
or_first false b h = absurd (true≢false (sym h))

or_second : (a b : Bool) → b ≡ true → (a || b) ≡ true
or_second true b h = refl
or_second false b h = h

-- the first one, where no other is there
alone : (z : ℤ) (xs : List Elem) → ((y : ℤ) → has xs y ≡ false) → Reaches (has (Num z ∷ xs)) (exactly z)
alone z xs none = record {
  low = or_first (same_element (Num z) (Num z)) (has xs z) (itself z);
  high = or_first (same_element (Num z) (Num z)) (has xs z) (itself z);
  all = λ y h. elim (or_cases (same_element (Num y) (Num z)) (has xs y) h) [
    | inl e ↦ let same : y ≡ z = (Decides-int_eq y z).0 e in (omega (arith, ints, same), omega (arith, ints, same))
    | inr e ↦ absurd (true≢false (sym e ∙ none y))
  ];
}

either_min : (test : ℤ → Bool) (a b : ℤ) → test a ≡ true → test b ≡ true → test (int_min a b) ≡ true
either_min test a b h k = by_lt_z a b
    (λ l. let e : int_min a b ≡ a = omega (arith, ints, clamps, l) in ap test e ∙ h)
    (λ g. let e : int_min a b ≡ b = omega (arith, ints, clamps, g) in ap test e ∙ k)

either_max : (test : ℤ → Bool) (a b : ℤ) → test a ≡ true → test b ≡ true → test (int_max a b) ≡ true
either_max test a b h k = by_lt_z a b
    (λ l. let e : int_max a b ≡ b = omega (arith, ints, clamps, l) in ap test e ∙ k)
    (λ g. let e : int_max a b ≡ a = omega (arith, ints, clamps, g) in ap test e ∙ h)

-- one more before others
further : (z : ℤ) (xs : List Elem) (i : Interval) → Reaches (has xs) i → Reaches (has (Num z ∷ xs)) (hull z (Some i))
further z xs i r = record {
  low = either_min (has (Num z ∷ xs)) z i.low first (more i.low r.low);
  high = either_max (has (Num z ∷ xs)) z i.high first (more i.high r.high);
  all = λ y h. elim (or_cases (same_element (Num y) (Num z)) (has xs y) h) [
    | inl e ↦
        let same : y ≡ z = (Decides-int_eq y z).0 e in (
          omega (arith, ints, clamps, same),
          omega (arith, ints, clamps, same),
        )
    | inr e ↦
        let a = r.all y e in (
          omega (arith, ints, clamps, a.0),
          omega (arith, ints, clamps, a.1),
        )
  ];
}
  where
    first : has (Num z ∷ xs) z ≡ true
    first = or_first (same_element (Num z) (Num z)) (has xs z) (itself z)

    more : (y : ℤ) → has xs y ≡ true → has (Num z ∷ xs) y ≡ true
    more y h = or_second (same_element (Num y) (Num z)) (has xs y) h

integers_reach : (xs : List Elem) → ReachesIf (has xs) (integers xs)
integers_reach [] = λ z. refl
integers_reach (Named n ∷ xs) = integers_reach xs
integers_reach (Num z ∷ xs) = by (integers xs) (integers_reach xs)
  where
    by : (o : Option Interval) → ReachesIf (has xs) o → ReachesIf (has (Num z ∷ xs)) (Some (hull z o))
    by None h = alone z xs h
    by (Some i) h = further z xs i h

-- they reach no further than they do
same_reach : (xs : List Elem) (i : Interval) → Reaches (has xs) i → (o : Option Interval) → ReachesIf (has xs) o
    → unwrap_or o (exactly (pos 0)) ≡ i
same_reach xs i r None h = absurd (true≢false (sym r.low ∙ h i.low))
same_reach xs i r (Some j) h =
    let a = r.all j.low h.low in
    let b = h.all i.low r.low in
    let c = r.all j.high h.high in
    let d = h.all i.high r.high in
    let low : j.low ≡ i.low = omega (arith, ints, a.0, b.0) in
    let high : j.high ≡ i.high = omega (arith, ints, c.1, d.1) in
    ap (λ z. interval z j.high) low ∙ ap (λ z. interval i.low z) high

no_reach : (xs : List Elem) → ((z : ℤ) → has xs z ≡ false) → (o : Option Interval) → ReachesIf (has xs) o
    → unwrap_or o (exactly (pos 0)) ≡ exactly (pos 0)
no_reach xs none None h = refl
no_reach xs none (Some j) h = absurd (true≢false (sym h.low ∙ none j.low))

-- ---- the integers of a set

-- from the first interval's first integer to the last one's last
runs_reach : (y : ℤ) (i : Interval) (is : List Interval) → AreApartFrom y (i ∷ is)
    → Reaches (is_inside (i ∷ is)) (interval i.low (last_of i is).high)
runs_reach y i [] a = record {
  low = or_first _ false (within i i.low (omega (arith, ints)) a.1);
  high = or_first _ false (within i i.high a.1 (omega (arith, ints)));
  all = λ z h. elim (or_cases _ false h) [
    | inl e ↦ ends i z e
    | inr e ↦ absurd (true≢false (sym e))
  ];
}
runs_reach y i (j ∷ js) a =
    let rest = runs_reach (i.high +ℤ pos 2) j js a.2 in
    let on : j.low ≤ℤ (last_of j js).high = (rest.all j.low rest.low).1 in
    let gap : (i.high +ℤ pos 2) ≤ℤ j.low = a.2.0 in
    record {
      low = or_first _ (is_inside (j ∷ js) i.low) (within i i.low (omega (arith, ints)) a.1);
      high = or_second _ (is_inside (j ∷ js) (last_of j js).high) rest.high;
      all = λ z h. elim (or_cases _ (is_inside (j ∷ js) z) h) [
        | inl e ↦
            let in_first = ends i z e in
            (in_first.0, omega (arith, ints, in_first.1, on, gap))
        | inr e ↦
            let in_rest = rest.all z e in
            (omega (arith, ints, in_rest.0, gap, a.1), in_rest.1)
      ];
    }

in_list : (cells : List Cell) (s : ElementSet) → IsSetOf cells s
    → (z : ℤ) → is_inside (runs_in s) z ≡ has (listed cells) z
in_list cells s h z = h.integers z ∙ listed_are_among cells (Num z)

pub no_integers : (cells : List Cell) (s : ElementSet) → IsSetOf cells s → runs_in s ≡ []
    → exactly (pos 0) ≡ range_of (listed cells)
no_integers cells s h none =
    sym (no_reach (listed cells) (λ z. sym (in_list cells s h z) ∙ ap (λ is. is_inside is z) none)
    (integers (listed cells)) (integers_reach (listed cells)))

pub some_integers : (cells : List Cell) (s : ElementSet) (i : Interval) (is : List Interval) → IsSetOf cells s
    → runs_in s ≡ i ∷ is → interval i.low (last_of i is).high ≡ range_of (listed cells)
some_integers cells s i is h runs =
    let apart = subst AreApart runs h.apart in
    let r = runs_reach apart.start i is apart.from in
    let same : (z : ℤ) → is_inside (i ∷ is) z ≡ has (listed cells) z =
    λ z. sym (ap (λ js. is_inside js z) runs) ∙ in_list cells s h z in
    sym (same_reach (listed cells) (interval i.low (last_of i is).high) (record {
      low = sym (same i.low) ∙ r.low;
      high = sym (same (last_of i is).high) ∙ r.high;
      all = λ z e. r.all z (same z ∙ e);
    }) (integers (listed cells)) (integers_reach (listed cells)))
