-- Steps of the walk over terms: ranges, and what is noted of them.
use Rattle.std.proofs.Common.{◌≡◌, ℕ, ◌*◌, ◌<◌, ℤ, pos, neg_ℤ, ◌*ℤ◌, Bool, true, false, not, ◌||◌, List, [], ◌∷◌, ◌++◌}
use Rattle.std.proofs.Common.{map, length, fold, slice_get, slice_set, Option, None, Some, option_map, unwrap_or, refl}
use Rattle.std.proofs.Common.{sym, ap, ◌∙◌, arith, inl, inr}
use Rattle.std.specs.Int.{int_min, int_max}
use Rattle.std.proofs.lemmas.Bool.{cases_lt}
use Rattle.std.proofs.lemmas.Int.{ints, clamps}
use Rattle.std.proofs.lemmas.Option.{slice_get-map}
use Rattle.std.proofs.lemmas.List.{append_assoc, map-append}
use Rattle.kb_logic.specs.declared.elements.Elem.{Elem}
use Rattle.kb_logic.specs.declared.syntax.AggKind.{AggKind}
use Rattle.kb_logic.specs.declared.syntax.AggKind.TheVariants as kind
use Rattle.kb_logic.specs.declared.vocabularies.Vocabulary.{Vocabulary}
use Rattle.kb_logic.specs.Trees.{TermTree, variable, integer, constructed, application, summation, product, aggregate}
use Rattle.kb_logic.specs.Structures.{domain_at}
use Rattle.kb_logic.specs.Bounds.{Interval, exactly, range_of, interval_product, aggregate_bounds, below_zero}
use Rattle.kb_logic.specs.Bounds.{above_zero, front_bounds}
use Rattle.stage_definitions.specs.ClampedBounds.{clamp, clamp_interval}
use Rattle.stage_definitions.specs.Sizes.{is_small, bounds_at, term_bounds}
use Rattle.stage_definitions.specs.SizesStage.{capped}
use Rattle.size_stage.specs.Ranges.{interval, is_wide, wide_at, part_bounds}
use Rattle.size_stage.proofs.Capping.{first_factor}

-- ---- products of ranges

least_of : (a b c d p q low : ℤ) → p ≡ int_min a b → q ≡ int_min c d → low ≡ int_min p q
    → low ≡ int_min (int_min a b) (int_min c d)
least_of a b c d p q low hp hq h = h ∙ ap (λ z. int_min z q) hp ∙ ap (λ z. int_min (int_min a b) z) hq

most_of : (a b c d p q high : ℤ) → p ≡ int_max a b → q ≡ int_max c d → high ≡ int_max p q
    → high ≡ int_max (int_max a b) (int_max c d)
most_of a b c d p q high hp hq h = h ∙ ap (λ z. int_max z q) hp ∙ ap (λ z. int_max (int_max a b) z) hq

abbrev corner_range : ℤ → ℤ → ℤ → ℤ → Interval
corner_range a b c d = interval (int_min (int_min a b) (int_min c d)) (int_max (int_max a b) (int_max c d))

same_corners : (a b c d p q r s : ℤ) → a ≡ p → b ≡ q → c ≡ r → d ≡ s → corner_range a b c d ≡ corner_range p q r s
same_corners a b c d p q r s ha hb hc hd =
    ap (λ z. corner_range z b c d) ha ∙ ap (λ z. corner_range p z c d) hb ∙ ap (λ z. corner_range p q z d) hc
    ∙ ap (λ z. corner_range p q r z) hd

pub product_of : (i j : Interval) (a b c d p q low u w high : ℤ) → a ≡ i.low *ℤ j.low → b ≡ i.low *ℤ j.high
    → c ≡ i.high *ℤ j.low → d ≡ i.high *ℤ j.high
    → p ≡ int_min a b → q ≡ int_min c d → low ≡ int_min p q → u ≡ int_max a b → w ≡ int_max c d → high ≡ int_max u w
    → interval low high ≡ interval_product i j
product_of i j a b c d p q low u w high ha hb hc hd hp hq hl hu hw hh =
    ap (λ z. interval z high) (least_of a b c d p q low hp hq hl)
    ∙ ap (λ z. interval (int_min (int_min a b) (int_min c d)) z) (most_of a b c d u w high hu hw hh)
    ∙ same_corners a b c d (i.low *ℤ j.low) (i.low *ℤ j.high) (i.high *ℤ j.low) (i.high *ℤ j.high) ha hb hc hd

-- ---- ranges of types

domain_there : (domains : List (List Elem)) (n : ℕ) (i : Interval) (o : Option (List Elem)) → slice_get domains n ≡ o
    → option_map range_of o ≡ Some i → i ≡ range_of (domain_at domains n)
domain_there domains n i None e h = let no : None ≡ Some i = h in absurd (cc)
domain_there domains n i (Some xs) e h =
    let same : range_of xs ≡ i = some_is (range_of xs) i h in
    sym same ∙ ap (λ (o : Option (List Elem)). range_of (unwrap_or o [])) (sym e)
  where
    some_is : (x y : Interval) → Some x ≡ Some y → x ≡ y
    some_is x y q = cc

domain_missing : (domains : List (List Elem)) (n : ℕ) (o : Option (List Elem)) → slice_get domains n ≡ o
    → option_map range_of o ≡ None → exactly (pos 0) ≡ range_of (domain_at domains n)
domain_missing domains n None e h = ap (λ (o : Option (List Elem)). range_of (unwrap_or o [])) (sym e)
domain_missing domains n (Some xs) e h = let no : Some (range_of xs) ≡ None = h in absurd (cc)

module _ {R : Type 0} (view : R → Interval) (domains : List (List Elem)) (ranges : List R)
    (known : map view ranges ≡ map range_of domains) where
  both_at : (n : ℕ) → option_map range_of (slice_get domains n) ≡ option_map view (slice_get ranges n)
  both_at n = sym (slice_get-map range_of domains n) ∙ ap (λ (is : List Interval). slice_get is n) (sym known)
      ∙ slice_get-map view ranges n

  pub range_found : (n : ℕ) (r : R) → slice_get ranges n ≡ Some r → view r ≡ range_of (domain_at domains n)
  range_found n r h = domain_there domains n (view r) (slice_get domains n) refl (both_at n ∙ ap (option_map view) h)

  pub range_missing : (n : ℕ) → slice_get ranges n ≡ None → exactly (pos 0) ≡ range_of (domain_at domains n)
  range_missing n h = domain_missing domains n (slice_get domains n) refl (both_at n ∙ ap (option_map view) h)

-- ---- aggregates

clamp_up : (m : ℕ) → clamp (pos (capped m)) ≡ clamp (pos m)
clamp_up m = elim (cases_lt 18446744073709551615 m) [
  | inl h ↦ let stop : capped m ≡ 18446744073709551615 = omega arith in ap (λ (x : ℕ). clamp (pos x)) stop
      ∙ sym (past m h)
  | inr h ↦ let same : capped m ≡ m = omega arith in ap (λ (x : ℕ). clamp (pos x)) same
]
  where
    past : (x : ℕ) → 18446744073709551615 < x → clamp (pos x) ≡ pos 9223372036854775807
    past x h = omega (arith, ints, clamps)

clamp_down : (m : ℕ) → clamp (neg_ℤ (pos (capped m))) ≡ clamp (neg_ℤ (pos m))
clamp_down m = elim (cases_lt 18446744073709551615 m) [
  | inl h ↦ let stop : capped m ≡ 18446744073709551615 = omega arith in ap (λ (x : ℕ). clamp (neg_ℤ (pos x))) stop
      ∙ sym (past m h)
  | inr h ↦ let same : capped m ≡ m = omega arith in ap (λ (x : ℕ). clamp (neg_ℤ (pos x))) same
]
  where
    past : (x : ℕ) → 18446744073709551615 < x → clamp (neg_ℤ (pos x)) ≡ neg_ℤ (pos 9223372036854775808)
    past x h = omega (arith, ints, clamps)

count_up : (m b : ℕ) → clamp (pos (capped m * b)) ≡ clamp (pos (m * b))
count_up m b = sym (clamp_up (capped m * b)) ∙ ap (λ (x : ℕ). clamp (pos x)) (first_factor m b) ∙ clamp_up (m * b)

count_down : (m b : ℕ) → clamp (neg_ℤ (pos (capped m * b))) ≡ clamp (neg_ℤ (pos (m * b)))
count_down m b = sym (clamp_down (capped m * b)) ∙ ap (λ (x : ℕ). clamp (neg_ℤ (pos x))) (first_factor m b)
    ∙ clamp_down (m * b)

capped_count : (k : AggKind) (m : ℕ) (i : Interval) → clamp_interval (aggregate_bounds k (capped m) i) ≡ clamp_interval
    (aggregate_bounds k m i)
capped_count kind.Count m i = ap (λ z. interval (clamp (pos 0)) z) (clamp_up m)
capped_count kind.Sum m i =
    ap (λ z. interval z (clamp (pos (capped m * above_zero i.high)))) (count_down m (below_zero i.low))
    ∙ ap (λ z. interval (clamp (neg_ℤ (pos (m * below_zero i.low)))) z) (count_up m (above_zero i.high))
capped_count kind.Min m i = refl
capped_count kind.Max m i = refl

pub aggregate_of : (k : AggKind) (n m : ℕ) (r i a : Interval) → n ≡ capped m → r ≡ i
    → a ≡ clamp_interval (aggregate_bounds k n r) → a ≡ clamp_interval (aggregate_bounds k m i)
aggregate_of k n m r i a hn hr h =
    h ∙ ap (λ (x : ℕ). clamp_interval (aggregate_bounds k x r)) hn
    ∙ ap (λ (x : Interval). clamp_interval (aggregate_bounds k (capped m) x)) hr ∙ capped_count k m i

-- ---- what is noted

pub parts_after : (a b c : List Bool) (fs ws : List (List Interval)) → b ≡ a ++ wide_at fs → c ≡ b ++ wide_at ws
    → c ≡ a ++ wide_at (fs ++ ws)
parts_after a b c fs ws hb hc =
    hc ∙ ap (λ (x : List Bool). x ++ wide_at ws) hb ∙ append_assoc a (wide_at fs) (wide_at ws)
    ∙ ap (λ (x : List Bool). a ++ x) (sym (map-append is_wide fs ws))

pub wide_next : (w0 w1 all : List Bool) (x xs : List (List Interval)) → w1 ≡ w0 ++ wide_at x → w0 ++ wide_at (x ++ xs)
    ≡ all → w1 ++ wide_at xs ≡ all
wide_next w0 w1 all x xs h k =
    ap (λ (w : List Bool). w ++ wide_at xs) h ∙ append_assoc w0 (wide_at x) (wide_at xs)
    ∙ ap (λ (w : List Bool). w0 ++ w) (sym (map-append is_wide x xs)) ∙ k

or_next : (a s r : Bool) → ((a || s) || r) ≡ (a || (s || r))
or_next true s r = refl
or_next false s r = refl

-- one more operand of a chain
pub chain_wide : (step : Interval → Interval → Interval) (r0 r1 j : Interval) (js : List Interval) (any any1 all : Bool)
    → r1 ≡ step r0 j → any1 ≡ (any || not (is_small r1))
    → (any || is_wide (front_bounds step r0 (j ∷ js))) ≡ all → (any1 || is_wide (front_bounds step r1 js)) ≡ all
chain_wide step r0 r1 j js any any1 all hr ha h =
    ap (λ (b : Bool). b || is_wide (front_bounds step r1 js)) ha
    ∙ or_next any (not (is_small r1)) (is_wide (front_bounds step r1 js))
    ∙ ap (λ (r : Interval). any || (not (is_small r) || is_wide (front_bounds step r js))) hr
    ∙ h

pub chain_range : (step : Interval → Interval → Interval) (r0 r1 j : Interval) (js : List Interval) (all : Interval)
    → r1 ≡ step r0 j → fold step r0 (j ∷ js) ≡ all → fold step r1 js ≡ all
chain_range step r0 r1 j js all hr h = ap (λ (r : Interval). fold step r js) hr ∙ h

-- ---- a term before its parts

term_first : (v : Vocabulary) (domains : List (List Elem)) (t : TermTree) (scope : List ℕ)
    → term_bounds v domains t scope ≡ bounds_at v domains t scope ∷ part_bounds v domains t scope
term_first v domains (variable n) scope = refl
term_first v domains (integer z) scope = refl
term_first v domains (constructed ty n) scope = refl
term_first v domains (application s ts) scope = refl
term_first v domains (summation ss) scope = refl
term_first v domains (product ts) scope = refl
term_first v domains (aggregate k bs f t) scope = refl

set_at : (xs : List Bool) (x w : Bool) (ys : List Bool) → slice_set ((xs ++ x ∷ []) ++ ys) (length xs) w ≡ xs ++ w ∷ ys
set_at [] x w ys = refl
set_at (a ∷ as') x w ys = ap (λ (zs : List Bool). a ∷ zs) (set_at as' x w ys)

pub term_set : (v : Vocabulary) (domains : List (List Elem)) (t : TermTree) (scope : List ℕ)
    (old pushed after : List Bool) (at : ℕ) (own : Bool) → at ≡ length old → pushed ≡ old ++ false ∷ []
    → after ≡ pushed ++ wide_at (part_bounds v domains t scope) → own ≡ is_wide (bounds_at v domains t scope)
    → slice_set after at own ≡ old ++ wide_at (term_bounds v domains t scope)
term_set v domains t scope old pushed after at own ha hp hn ho =
    let parts = wide_at (part_bounds v domains t scope) in
    ap (λ (xs : List Bool). slice_set xs at own) (hn ∙ ap (λ (xs : List Bool). xs ++ parts) hp)
    ∙ ap (λ (n : ℕ). slice_set ((old ++ false ∷ []) ++ parts) n own) ha
    ∙ set_at old false own parts
    ∙ ap (λ (b : Bool). old ++ b ∷ parts) ho
    ∙ ap (λ (bs : List (List Interval)). old ++ wide_at bs) (sym (term_first v domains t scope))
