-- Whether a minimum or a maximum reaches a number: by the literals of some of its parts.
use Rattle.std.proofs.Common.{◌≡◌, ℕ, ℤ, int_lt, int_le, Bool, true, false, not, ◌||◌, ◌&&◌, if◌then◌else◌, List, []}
use Rattle.std.proofs.Common.{◌∷◌, map, filter, fold, refl, sym, ap, ◌∙◌, arith}
use Rattle.std.specs.List.{list_all, list_any}
use Rattle.std.proofs.lemmas.Bool.Decides.{nat_tests}
use Rattle.std.proofs.lemmas.Int.{ints}
use Rattle.std.proofs.lemmas.List.Elements.{All-cons, All-nil, All-tail}
use Rattle.kb_logic.specs.declared.syntax.AggKind.TheVariants as kind
use Rattle.kb_logic.specs.declared.syntax.Cmp.TheVariants as cmp
use Rattle.kb_logic.specs.Denotations.{Denotation, number, named, minus_infinity, plus_infinity, undefined, compared}
use Rattle.kb_logic.specs.Denotations.{lesser, greater}
use Rattle.lit_core.specs.Literals.{literal_value, negated}
use Rattle.lit_core.proofs.Soundness.{value-negated}
use Rattle.ground_core.specs.declared.parts.Part.{Part}
use Rattle.ground_core.specs.Problems.{IsLitOf, AreLitsOf, ArePartsOf}
use Rattle.ground_core.specs.Meaning.{joined, weights_of}
use Rattle.def_ground.specs.Linear.{Linear, lits_below, lits_from, reaches_number}
use Rattle.def_ground.specs.LinearValues.{linear_value, IsLinear}
use Rattle.def_ground.specs.Meanings.{Means}
use Rattle.def_ground.proofs.FormSteps.{gate-right, means-then}
use Rattle.def_ground.proofs.Growing.{more-refl}
use Rattle.def_ground.proofs.LinearSteps.{bare, true_parts}
use Rattle.def_ground.proofs.ThresholdSums.{ge-is}

-- whether a value is at least the number
abbrev reaches : ℤ → Denotation → Bool
reaches d x = compared cmp.Ge x (number d)

-- a number, or infinite
abbrev pub IsNumeric : Denotation → Type 0
IsNumeric (number z) = Unit {0}
IsNumeric plus_infinity = Unit {0}
IsNumeric minus_infinity = Unit {0}
IsNumeric (named n) = ⊥
IsNumeric undefined = ⊥

-- ---- two numbers

lesser-by : (d z w : ℤ) (t x y : Bool) → int_lt w z ≡ t → int_lt z d ≡ x → int_lt w d ≡ y
    → not (if t then y else x) ≡ (not x && not y)
lesser-by d z w true true true e f g = refl
lesser-by d z w true true false e f g = absurd (wrong e f g)
  where
    wrong : int_lt w z ≡ true → int_lt z d ≡ true → int_lt w d ≡ false → ⊥
    wrong e f g = grind (arith, ints, nat_tests)
lesser-by d z w true false y e f g = refl
lesser-by d z w false true y e f g = refl
lesser-by d z w false false true e f g = absurd (wrong e f g)
  where
    wrong : int_lt w z ≡ false → int_lt z d ≡ false → int_lt w d ≡ true → ⊥
    wrong e f g = grind (arith, ints, nat_tests)
lesser-by d z w false false false e f g = refl

greater-by : (d z w : ℤ) (t x y : Bool) → int_lt z w ≡ t → int_lt z d ≡ x → int_lt w d ≡ y
    → not (if t then y else x) ≡ (not x || not y)
greater-by d z w true x false e f g = last x
  where
    last : (c : Bool) → true ≡ (not c || true)
    last true = refl
    last false = refl
greater-by d z w true true true e f g = refl
greater-by d z w true false true e f g = absurd (wrong e f g)
  where
    wrong : int_lt z w ≡ true → int_lt z d ≡ false → int_lt w d ≡ true → ⊥
    wrong e f g = grind (arith, ints, nat_tests)
greater-by d z w false false y e f g = refl
greater-by d z w false true true e f g = refl
greater-by d z w false true false e f g = absurd (wrong e f g)
  where
    wrong : int_lt z w ≡ false → int_lt z d ≡ true → int_lt w d ≡ false → ⊥
    wrong e f g = grind (arith, ints, nat_tests)

picked : (d : ℤ) (t : Bool) (z w : ℤ)
    → reaches d (if t then number w else number z) ≡ not (if t then int_lt w d else int_lt z d)
picked d true z w = ge-is w d
picked d false z w = ge-is z d

-- the lesser of two values reaches a number where both do, the greater where one does
lesser-reaches : (d : ℤ) (x : Denotation) (w : ℤ) → IsNumeric x
    → reaches d (lesser x (number w)) ≡ (reaches d x && not (int_lt w d))
lesser-reaches d (number z) w is =
    picked d (int_lt w z) z w ∙ lesser-by d z w (int_lt w z) (int_lt z d) (int_lt w d) refl refl refl
    ∙ ap (λ c. c && not (int_lt w d)) (sym (ge-is z d))
lesser-reaches d plus_infinity w is = ge-is w d
lesser-reaches d minus_infinity w is = refl
lesser-reaches d (named n) w is = absurd is
lesser-reaches d undefined w is = absurd is

greater-reaches : (d : ℤ) (x : Denotation) (w : ℤ) → IsNumeric x
    → reaches d (greater x (number w)) ≡ (reaches d x || not (int_lt w d))
greater-reaches d (number z) w is =
    picked d (int_lt z w) z w ∙ greater-by d z w (int_lt z w) (int_lt z d) (int_lt w d) refl refl refl
    ∙ ap (λ c. c || not (int_lt w d)) (sym (ge-is z d))
greater-reaches d plus_infinity w is = refl
greater-reaches d minus_infinity w is = ge-is w d
greater-reaches d (named n) w is = absurd is
greater-reaches d undefined w is = absurd is

either-numeric : (t : Bool) (z w : ℤ) → IsNumeric (if t then number w else number z)
either-numeric true z w = tt
either-numeric false z w = tt

lesser-numeric : (x : Denotation) (w : ℤ) → IsNumeric x → IsNumeric (lesser x (number w))
lesser-numeric (number z) w is = either-numeric (int_lt w z) z w
lesser-numeric plus_infinity w is = tt
lesser-numeric minus_infinity w is = tt
lesser-numeric (named n) w is = absurd is
lesser-numeric undefined w is = absurd is

greater-numeric : (x : Denotation) (w : ℤ) → IsNumeric x → IsNumeric (greater x (number w))
greater-numeric (number z) w is = either-numeric (int_lt z w) z w
greater-numeric plus_infinity w is = tt
greater-numeric minus_infinity w is = tt
greater-numeric (named n) w is = absurd is
greater-numeric undefined w is = absurd is

-- ---- all parts

abbrev weighs : List Part → List Denotation
weighs ps = map (λ (p : Part). number p.weight) ps

and-swap : (x a b : Bool) → ((x && a) && b) ≡ (x && (a && b))
and-swap true a b = refl
and-swap false a b = refl

or-swap : (x a b : Bool) → ((x || a) || b) ≡ (x || (a || b))
or-swap true a b = refl
or-swap false a b = refl

and-right : (x : Bool) → x ≡ (x && true)
and-right true = refl
and-right false = refl

or-right : (x : Bool) → x ≡ (x || false)
or-right true = refl
or-right false = refl

-- the literals of the parts below the number are false
abbrev none_below : (ℕ → Bool) → ℤ → List Part → Bool
none_below v d ps = list_all (literal_value v) (map negated (lits_below d ps))

abbrev some_from : (ℕ → Bool) → ℤ → List Part → Bool
some_from v d ps = list_any (literal_value v) (lits_from d ps)

below-more : (v : ℕ → Bool) (d : ℤ) (p : Part) (ps : List Part) (t : Bool)
    → list_all (literal_value v) (map negated (map (λ (q : Part). q.lit)
    (if t then p ∷ filter (λ (q : Part). int_lt q.weight d) ps else filter (λ (q : Part). int_lt q.weight d) ps)))
    ≡ ((not t || not (literal_value v p.lit)) && none_below v d ps)
below-more v d p ps true = ap (λ c. c && none_below v d ps) (value-negated v p.lit)
below-more v d p ps false = refl

from-more : (v : ℕ → Bool) (d : ℤ) (p : Part) (ps : List Part) (t : Bool)
    → list_any (literal_value v) (map (λ (q : Part). q.lit)
    (if t then p ∷ filter (λ (q : Part). int_le d q.weight) ps else filter (λ (q : Part). int_le d q.weight) ps))
    ≡ ((t && literal_value v p.lit) || some_from v d ps)
from-more v d p ps true = refl
from-more v d p ps false = refl

le-not-lt : (d w : ℤ) (s t : Bool) → int_le d w ≡ s → int_lt w d ≡ t → s ≡ not t
le-not-lt d w true true e f = absurd (wrong e f)
  where
    wrong : int_le d w ≡ true → int_lt w d ≡ true → ⊥
    wrong e f = grind (arith, ints, nat_tests)
le-not-lt d w true false e f = refl
le-not-lt d w false true e f = refl
le-not-lt d w false false e f = absurd (wrong e f)
  where
    wrong : int_le d w ≡ false → int_lt w d ≡ false → ⊥
    wrong e f = grind (arith, ints, nat_tests)

module _ (v : ℕ → Bool) (d : ℤ) where
  min-step : (p : Part) (ps : List Part) (t : Bool) → ((x : Denotation) → IsNumeric x
      → reaches d (fold lesser x (weighs (true_parts v ps))) ≡ (reaches d x && none_below v d ps))
      → (x : Denotation) → IsNumeric x
      → reaches d (fold lesser x (weighs (if t then p ∷ true_parts v ps else true_parts v ps)))
      ≡ (reaches d x && ((not (int_lt p.weight d) || not t) && none_below v d ps))
  min-step p ps true rest x is =
      rest (lesser x (number p.weight)) (lesser-numeric x p.weight is)
      ∙ ap (λ c. c && none_below v d ps) (lesser-reaches d x p.weight is
      ∙ ap (λ c. reaches d x && c) (or-right (not (int_lt p.weight d))))
      ∙ and-swap (reaches d x) (not (int_lt p.weight d) || false) (none_below v d ps)
  min-step p ps false rest x is = rest x is
      ∙ ap (λ c. reaches d x && (c && none_below v d ps)) (sym (last (not (int_lt p.weight d))))
    where
      last : (c : Bool) → (c || true) ≡ true
      last true = refl
      last false = refl

  min-reaches : (ps : List Part) (x : Denotation) → IsNumeric x
      → reaches d (fold lesser x (weights_of v ps)) ≡ (reaches d x && none_below v d ps)
  min-reaches [] x is = and-right (reaches d x)
  min-reaches (p ∷ ps) x is =
      min-step p ps (literal_value v p.lit) (min-reaches ps) x is
      ∙ ap (λ c. reaches d x && c) (sym (below-more v d p ps (int_lt p.weight d)))

  max-step : (p : Part) (ps : List Part) (t : Bool) → ((x : Denotation) → IsNumeric x
      → reaches d (fold greater x (weighs (true_parts v ps))) ≡ (reaches d x || some_from v d ps))
      → (x : Denotation) → IsNumeric x
      → reaches d (fold greater x (weighs (if t then p ∷ true_parts v ps else true_parts v ps)))
      ≡ (reaches d x || ((not (int_lt p.weight d) && t) || some_from v d ps))
  max-step p ps true rest x is =
      rest (greater x (number p.weight)) (greater-numeric x p.weight is)
      ∙ ap (λ c. c || some_from v d ps) (greater-reaches d x p.weight is
      ∙ ap (λ c. reaches d x || c) (and-right (not (int_lt p.weight d))))
      ∙ or-swap (reaches d x) (not (int_lt p.weight d) && true) (some_from v d ps)
  max-step p ps false rest x is = rest x is
      ∙ ap (λ c. reaches d x || (c || some_from v d ps)) (sym (last (not (int_lt p.weight d))))
    where
      last : (c : Bool) → (c && false) ≡ false
      last true = refl
      last false = refl

  max-reaches : (ps : List Part) (x : Denotation) → IsNumeric x
      → reaches d (fold greater x (weights_of v ps)) ≡ (reaches d x || some_from v d ps)
  max-reaches [] x is = or-right (reaches d x)
  max-reaches (p ∷ ps) x is =
      max-step p ps (literal_value v p.lit) (max-reaches ps) x is
      ∙ ap (λ c. reaches d x || ((c && literal_value v p.lit) || some_from v d ps))
      (sym (le-not-lt d p.weight (int_le d p.weight) (int_lt p.weight d) refl refl))
      ∙ ap (λ c. reaches d x || c) (sym (from-more v d p ps (int_le d p.weight)))

-- ---- literals of parts are over the parts' variables

pub below-within : (n : ℕ) (d : ℤ) (ps : List Part) → ArePartsOf n ps → AreLitsOf n (map negated (lits_below d ps))
below-within n d [] h = All-nil (IsLitOf n)
below-within n d (p ∷ ps) h =
    by (int_lt p.weight d) (below-within n d ps (All-tail (λ (q : Part). IsLitOf n q.lit) p ps h)) (h 0 p (omega arith))
  where
    by : (t : Bool) → AreLitsOf n (map negated (lits_below d ps)) → IsLitOf n p.lit
        → AreLitsOf n (map negated (map (λ (q : Part). q.lit)
        (if t then p ∷ filter (λ (q : Part). int_lt q.weight d) ps else filter (λ (q : Part). int_lt q.weight d) ps)))
    by true rest own = All-cons (IsLitOf n) (negated p.lit) (map negated (lits_below d ps)) own rest
    by false rest own = rest

pub from-within : (n : ℕ) (d : ℤ) (ps : List Part) → ArePartsOf n ps → AreLitsOf n (lits_from d ps)
from-within n d [] h = All-nil (IsLitOf n)
from-within n d (p ∷ ps) h =
    by (int_le d p.weight) (from-within n d ps (All-tail (λ (q : Part). IsLitOf n q.lit) p ps h)) (h 0 p (omega arith))
  where
    by : (t : Bool) → AreLitsOf n (lits_from d ps) → IsLitOf n p.lit
        → AreLitsOf n (map (λ (q : Part). q.lit)
        (if t then p ∷ filter (λ (q : Part). int_le d q.weight) ps else filter (λ (q : Part). int_le d q.weight) ps))
    by true rest own = All-cons (IsLitOf n) p.lit (lits_from d ps) own rest
    by false rest own = rest

-- ---- the answers

pub min-reaches-right : (st : Linear) (d : ℤ) → IsLinear kind.Min st
    → Means st.problem (reaches_number kind.Min st d).problem (reaches_number kind.Min st d).answer
    (λ v. compared cmp.Ge (linear_value kind.Min v st) (number d))
min-reaches-right st d h =
    let ls = map negated (lits_below d st.parts) in
    let g = reaches_number kind.Min st d in
    means-then st.problem st.problem g.problem g.answer (λ v. joined true v ls)
    (λ v. compared cmp.Ge (linear_value kind.Min v st) (number d)) (more-refl st.problem)
    (gate-right st.problem true ls h.fine (below-within st.problem.vars d st.parts h.within))
    (λ v s. sym (ap (reaches d) (bare st.base (fold lesser plus_infinity (weights_of v st.parts)) h.plain)
    ∙ min-reaches v d st.parts plus_infinity tt))

pub max-reaches-right : (st : Linear) (d : ℤ) → IsLinear kind.Max st
    → Means st.problem (reaches_number kind.Max st d).problem (reaches_number kind.Max st d).answer
    (λ v. compared cmp.Ge (linear_value kind.Max v st) (number d))
max-reaches-right st d h =
    let ls = lits_from d st.parts in
    let g = reaches_number kind.Max st d in
    means-then st.problem st.problem g.problem g.answer (λ v. joined false v ls)
    (λ v. compared cmp.Ge (linear_value kind.Max v st) (number d)) (more-refl st.problem)
    (gate-right st.problem false ls h.fine (from-within st.problem.vars d st.parts h.within))
    (λ v s. sym (ap (reaches d) (bare st.base (fold greater minus_infinity (weights_of v st.parts)) h.plain)
    ∙ max-reaches v d st.parts minus_infinity tt))

-- these values are numbers, or infinite
min-numeric : (ps : List Part) (x : Denotation) → IsNumeric x → IsNumeric (fold lesser x (weighs ps))
min-numeric [] x is = is
min-numeric (p ∷ ps) x is = min-numeric ps (lesser x (number p.weight)) (lesser-numeric x p.weight is)

max-numeric : (ps : List Part) (x : Denotation) → IsNumeric x → IsNumeric (fold greater x (weighs ps))
max-numeric [] x is = is
max-numeric (p ∷ ps) x is = max-numeric ps (greater x (number p.weight)) (greater-numeric x p.weight is)

pub min-value-numeric : (v : ℕ → Bool) (ps : List Part) → IsNumeric (fold lesser plus_infinity (weights_of v ps))
min-value-numeric v ps = min-numeric (true_parts v ps) plus_infinity tt

pub max-value-numeric : (v : ℕ → Bool) (ps : List Part) → IsNumeric (fold greater minus_infinity (weights_of v ps))
max-value-numeric v ps = max-numeric (true_parts v ps) minus_infinity tt
