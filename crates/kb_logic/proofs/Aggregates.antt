-- An aggregate, value by value, and the laws of sums, minima and maxima.
use Rattle.std.proofs.Common.{◌≡◌, ℕ, ◌+◌, ℤ, pos, ◌+ℤ◌, ◌≤ℤ◌, int_lt, List, [], ◌∷◌, map, length, cond, true, false}
use Rattle.std.proofs.Common.{refl, sym, ap, subst, ◌∙◌, arith, inl, inr}
use Rattle.std.specs.List.{fold, Contains, AllByRecursion}
use Rattle.std.proofs.lemmas.Bool.{cases_Bool}
use Rattle.std.proofs.lemmas.Bool.Decides.{nat_tests}
use Rattle.std.proofs.lemmas.Int.{ints}
use Rattle.kb_logic.specs.declared.syntax.AggKind.{AggKind}
use Rattle.kb_logic.specs.declared.syntax.AggKind.TheVariants as kind
use Rattle.kb_logic.specs.Denotations.{Denotation, named, number, minus_infinity, plus_infinity, undefined, added}
use Rattle.kb_logic.specs.Denotations.{lesser, greater, aggregate_value}
use Rattle.kb_logic.specs.Arithmetic.{start, combined}
use Rattle.kb_logic.specs.Laws.{SumAddsEach, LeastIsAttained, GreatestIsAttained}
use Rattle.kb_logic.proofs.Members.{first, later, member_cases}

counted : (vs : List Denotation) (n : ℕ) → number (pos (n + length vs)) ≡ fold (combined kind.Count) (number (pos n)) vs
counted [] n = let e : n + 0 ≡ n = omega arith in ap (λ k. number (pos k)) e
counted (v ∷ vs) n =
    let e : n + length (v ∷ vs) ≡ n + 1 + length vs = omega arith in
    let one : pos (n + 1) ≡ pos n +ℤ pos 1 = omega (arith, ints) in
    ap (λ k. number (pos k)) e ∙ counted vs (n + 1) ∙ ap (λ z. fold (combined kind.Count) (number z) vs) one

pub aggregate_is_fold : (k : AggKind) (vs : List Denotation) → aggregate_value k vs ≡ fold (combined k) (start k) vs
aggregate_is_fold kind.Count vs = let e : length vs ≡ 0 + length vs = omega arith in ap (λ k. number (pos k)) e
    ∙ counted vs 0
aggregate_is_fold kind.Sum vs = refl
aggregate_is_fold kind.Min vs = refl
aggregate_is_fold kind.Max vs = refl

lost : (vs : List Denotation) → fold added undefined vs ≡ undefined
lost [] = refl
lost (v ∷ vs) = lost vs

regrouped : (z y : ℤ) (f : Denotation) → added (number (z +ℤ y)) f ≡ added (number z) (added (number (pos 0 +ℤ y)) f)
regrouped z y (named n) = refl
regrouped z y (number s) = ap number (omega (arith, ints))
regrouped z y minus_infinity = refl
regrouped z y plus_infinity = refl
regrouped z y undefined = refl

grown : (z : ℤ) (vs : List Denotation) → fold added (number z) vs ≡ added (number z) (fold added (number (pos 0)) vs)
grown z [] = ap number (omega (arith, ints))
grown z (named n ∷ vs) = lost vs ∙ sym (ap (added (number z)) (lost vs))
grown z (number y ∷ vs) =
    grown (z +ℤ y) vs ∙ regrouped z y (fold added (number (pos 0)) vs)
    ∙ ap (added (number z)) (sym (grown (pos 0 +ℤ y) vs))
grown z (minus_infinity ∷ vs) = lost vs ∙ sym (ap (added (number z)) (lost vs))
grown z (plus_infinity ∷ vs) = lost vs ∙ sym (ap (added (number z)) (lost vs))
grown z (undefined ∷ vs) = lost vs ∙ sym (ap (added (number z)) (lost vs))

sum_adds : (v : Denotation) (vs : List Denotation) → fold added (added (number (pos 0)) v) vs
    ≡ added v (fold added (number (pos 0)) vs)
sum_adds (named n) vs = lost vs
sum_adds (number y) vs = let alone : pos 0 +ℤ y ≡ y = omega (arith, ints) in
    ap (λ z. fold added (number z) vs) alone ∙ grown y vs
sum_adds minus_infinity vs = lost vs
sum_adds plus_infinity vs = lost vs
sum_adds undefined vs = lost vs

pub sum_adds_each : SumAddsEach
sum_adds_each = (refl, sum_adds)

below : (z a : ℤ) → int_lt z a ≡ true → z ≤ℤ a
below z a h = grind (arith, ints, nat_tests)

not_below : (z a : ℤ) → int_lt z a ≡ false → a ≤ℤ z
not_below z a h = grind (arith, ints, nat_tests)

skipping : (a z r : ℤ) (zs : List ℤ) → Contains (a ∷ zs) r → Contains (a ∷ z ∷ zs) r
skipping a z r zs at = elim (member_cases a r zs at) [
  | inl e ↦ subst (Contains (a ∷ z ∷ zs)) e (first a (z ∷ zs))
  | inr
      more ↦ later a r (z ∷ zs) (later z r zs more)
]

abbrev IsLeast : ℤ → List ℤ → Type 0
IsLeast a zs = (r : ℤ) × (fold lesser (number a) (map number zs) ≡ number r) × Contains (a ∷ zs) r × (r ≤ℤ a)
    × AllByRecursion (λ y. r ≤ℤ y) zs

least_from : (a : ℤ) (zs : List ℤ) → IsLeast a zs
least_from a [] = (a, refl, first a [], omega (arith, ints), tt)
least_from a (z ∷ zs) = elim (cases_Bool (int_lt z a)) [
  | inl e ↦
      let r = least_from z zs in
      let step : lesser (number a) (number z) ≡ number z = ap (λ b. cond b (number z) (number a)) e in (
        r.0,
        ap (λ v. fold lesser v (map number zs)) step ∙ r.1,
        later a r.0 (z ∷ zs) r.2,
        omega (arith, ints, r.3, below z a e),
        (r.3, r.4),
      )
  | inr e ↦
      let r = least_from a zs in
      let step : lesser (number a) (number z) ≡ number a = ap (λ b. cond b (number z) (number a)) e in (
        r.0,
        ap (λ v. fold lesser v (map number zs)) step ∙ r.1,
        skipping a z r.0 zs r.2,
        r.3,
        (omega (arith, ints, r.3, not_below z a e), r.4),
      )
]

pub least_is_attained : LeastIsAttained
least_is_attained = (refl, λ z zs. let r = least_from z zs in (r.0, r.1, r.2, (r.3, r.4)))

abbrev IsMost : ℤ → List ℤ → Type 0
IsMost a zs = (r : ℤ) × (fold greater (number a) (map number zs) ≡ number r) × Contains (a ∷ zs) r × (a ≤ℤ r)
    × AllByRecursion (λ y. y ≤ℤ r) zs

most_from : (a : ℤ) (zs : List ℤ) → IsMost a zs
most_from a [] = (a, refl, first a [], omega (arith, ints), tt)
most_from a (z ∷ zs) = elim (cases_Bool (int_lt a z)) [
  | inl e ↦
      let r = most_from z zs in
      let step : greater (number a) (number z) ≡ number z = ap (λ b. cond b (number z) (number a)) e in (
        r.0,
        ap (λ v. fold greater v (map number zs)) step ∙ r.1,
        later a r.0 (z ∷ zs) r.2,
        omega (arith, ints, r.3, below a z e),
        (r.3, r.4),
      )
  | inr e ↦
      let r = most_from a zs in
      let step : greater (number a) (number z) ≡ number a = ap (λ b. cond b (number z) (number a)) e in (
        r.0,
        ap (λ v. fold greater v (map number zs)) step ∙ r.1,
        skipping a z r.0 zs r.2,
        r.3,
        (omega (arith, ints, r.3, not_below a z e), r.4),
      )
]

pub greatest_is_attained : GreatestIsAttained
greatest_is_attained = (refl, λ z zs. let r = most_from z zs in (r.0, r.1, r.2, (r.3, r.4)))
