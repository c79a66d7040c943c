-- Any choice of parts as a total of gains.
use Rattle.std.proofs.Common.{Less, Greater, Equal, ◌≡◌, ℤ, pos, ◌+ℤ◌, ◌≤ℤ◌, int_lt, int_le, Bool, true, false, not}
use Rattle.std.proofs.Common.{◌||◌, ◌&&◌, if◌then◌else◌, List, [], ◌∷◌, map, filter, length, fold, cond, refl, sym, ap}
use Rattle.std.proofs.Common.{◌∙◌, arith}
use Rattle.std.specs.Ordering.{int_eq, is_eq}
use Rattle.std.proofs.lemmas.Bool.Decides.{nat_tests}
use Rattle.std.proofs.lemmas.Int.{ints}
use Rattle.kb_logic.specs.declared.elements.ExtInt.{ExtInt}
use Rattle.kb_logic.specs.declared.elements.ExtInt.TheVariants.{NegInf, Num, PosInf}
use Rattle.kb_logic.specs.declared.syntax.AggKind.TheVariants as kind
use Rattle.kb_logic.specs.Denotations.{Denotation, number, minus_infinity, plus_infinity, added, lesser, greater}
use Rattle.ground_core.specs.declared.parts.Part.{Part}
use Rattle.ground_core.specs.Intervals.{reaches}
use Rattle.aggregate_propagators.specs.Totals.{gain, max_goal, gain_if, total, met}
use Rattle.aggregate_propagators.specs.Laws.{ReachesByTotals}

weights : (Part → Bool) → List Part → List Denotation
weights f ps = map (λ (p : Part). number p.weight) (filter f ps)

-- sums
sum-step : (t : Bool) (p : Part) (ps : List Part) (z g : ℤ)
    → ((y : ℤ) → fold added (number y) (map (λ (q : Part). number q.weight) ps) ≡ number (y +ℤ g))
    → fold added (number z) (map (λ (q : Part). number q.weight) (if t then p ∷ ps else ps)) ≡ number
    (z +ℤ (gain_if t p.weight +ℤ g))
sum-step true p ps z g ih = ih (z +ℤ p.weight) ∙ ap number (omega (arith, ints))
sum-step false p ps z g ih = ih z ∙ ap number (omega (arith, ints))

sum-total : (f : Part → Bool) (b : ExtInt) (ps : List Part) (z : ℤ)
    → fold added (number z) (map (λ (q : Part). number q.weight) (filter f ps)) ≡ number (z +ℤ total f kind.Sum b ps)
sum-total f b [] z = ap number (omega (arith, ints))
sum-total f b (p ∷ ps) z = sum-step (f p) p (filter f ps) z (total f kind.Sum b ps) (λ y. sum-total f b ps y)

-- counts
count-step : (t : Bool) (p : Part) (ps : List Part) (g : ℤ) → pos (length (map (λ (q : Part). number q.weight) ps)) ≡ g
    → pos (length (map (λ (q : Part). number q.weight) (if t then p ∷ ps else ps))) ≡ gain_if t (pos 1) +ℤ g
count-step true p ps g h = omega (arith, ints, h)
count-step false p ps g h = omega (arith, ints, h)

count-total : (f : Part → Bool) (b : ExtInt) (ps : List Part)
    → pos (length (map (λ (q : Part). number q.weight) (filter f ps))) ≡ total f kind.Count b ps
count-total f b [] = refl
count-total f b (p ∷ ps) = count-step (f p) p (filter f ps) (total f kind.Count b ps) (count-total f b ps)

-- a number against a bound
le-false : (b z : ℤ) → int_lt z b ≡ true → int_le b z ≡ true → ⊥
le-false b z f g = grind (arith, ints, nat_tests)

le-true : (b z : ℤ) → int_lt z b ≡ false → int_le b z ≡ false → ⊥
le-true b z f g = grind (arith, ints, nat_tests)

lt-both : (b z : ℤ) → int_lt b z ≡ true → int_lt z b ≡ true → ⊥
lt-both b z f g = grind (arith, ints, nat_tests)

pub le-is : (b z : ℤ) (s t : Bool) → int_lt z b ≡ t → int_le b z ≡ s → s ≡ not t
le-is b z true true f g = absurd (le-false b z f g)
le-is b z true false f g = refl
le-is b z false true f g = refl
le-is b z false false f g = absurd (le-true b z f g)

abbrev equal-by : (s t : Bool) → Bool
equal-by s t = cond t false (cond s false true)

at-by : (b z : ℤ) (s t : Bool) → int_lt b z ≡ s → int_lt z b ≡ t → (s || equal-by s t) ≡ not t
at-by b z true true e f = absurd (lt-both b z e f)
at-by b z true false e f = refl
at-by b z false true e f = refl
at-by b z false false e f = refl

eq-by : (b z : ℤ) (s t : Bool) → int_lt b z ≡ s → int_lt z b ≡ t → int_eq z b ≡ equal-by s t
eq-by b z s t e f = ap (λ x. is_eq (cond x Less (cond (int_lt b z) Greater Equal))) f
    ∙ ap (λ x. is_eq (cond t Less (cond x Greater Equal))) e ∙ is-by s t
  where
    is-by : (s t : Bool) → is_eq (cond t Less (cond s Greater Equal)) ≡ equal-by s t
    is-by true true = refl
    is-by true false = refl
    is-by false true = refl
    is-by false false = refl

at-least : (b z : ℤ) (s t : Bool) → int_lt b z ≡ s → int_lt z b ≡ t → (s || int_eq z b) ≡ int_le b z
at-least b z s t e f = ap (λ x. s || x) (eq-by b z s t e f) ∙ at-by b z s t e f ∙ sym (le-is b z (int_le b z) t f refl)

num-reaches : (b : ExtInt) (z : ℤ) → reaches b (number z) ≡ met b z
num-reaches NegInf z = refl
num-reaches (Num b) z = at-least b z (int_lt b z) (int_lt z b) refl refl
num-reaches PosInf z = refl

-- greatest and least of two
trans-up : (b z w : ℤ) → int_lt z w ≡ true → int_le b z ≡ true → int_le b w ≡ false → ⊥
trans-up b z w e f g = grind (arith, ints, nat_tests)

trans-down : (b z w : ℤ) → int_lt z w ≡ false → int_le b z ≡ false → int_le b w ≡ true → ⊥
trans-down b z w e f g = grind (arith, ints, nat_tests)

greater-num : (b z w : ℤ) (t x y : Bool) → int_lt z w ≡ t → int_le b z ≡ x → int_le b w ≡ y → cond t y x ≡ (x || y)
greater-num b z w true true true e f g = refl
greater-num b z w true true false e f g = absurd (trans-up b z w e f g)
greater-num b z w true false y e f g = refl
greater-num b z w false true y e f g = refl
greater-num b z w false false true e f g = absurd (trans-down b z w e f g)
greater-num b z w false false false e f g = refl

lesser-num : (b z w : ℤ) (t x y : Bool) → int_lt w z ≡ t → int_le b z ≡ x → int_le b w ≡ y → cond t y x ≡ (x && y)
lesser-num b z w true true y e f g = refl
lesser-num b z w true false true e f g = absurd (trans-up b w z e g f)
lesser-num b z w true false false e f g = refl
lesser-num b z w false true true e f g = refl
lesser-num b z w false true false e f g = absurd (trans-down b w z e g f)
lesser-num b z w false false y e f g = refl

same-bool : (t x : Bool) → cond t x x ≡ x
same-bool true x = refl
same-bool false x = refl

picked-number : (t : Bool) (z w : ℤ) (b : ExtInt) → reaches b (cond t (number w) (number z)) ≡ cond t
    (reaches b (number w)) (reaches b (number z))
picked-number true z w b = refl
picked-number false z w b = refl

greater-two : (b : ExtInt) (z w : ℤ) → reaches b (greater (number z) (number w)) ≡
    (reaches b (number z) || reaches b (number w))
greater-two NegInf z w = picked-number (int_lt z w) z w NegInf ∙ same-bool (int_lt z w) true
greater-two (Num b) z w =
    picked-number (int_lt z w) z w (Num b)
    ∙ greater-by (reaches (Num b) (number z)) (reaches (Num b) (number w)) (num-reaches (Num b) z)
    (num-reaches (Num b) w)
  where
    greater-by : (x y : Bool) → x ≡ int_le b z → y ≡ int_le b w → cond (int_lt z w) y x ≡ (x || y)
    greater-by x y f g = greater-num b z w (int_lt z w) x y refl (sym f) (sym g)
greater-two PosInf z w = picked-number (int_lt z w) z w PosInf ∙ same-bool (int_lt z w) false

lesser-two : (b : ExtInt) (z w : ℤ) → reaches b (lesser (number z) (number w)) ≡
    (reaches b (number z) && reaches b (number w))
lesser-two NegInf z w = picked-number (int_lt w z) z w NegInf ∙ same-bool (int_lt w z) true
lesser-two (Num b) z w =
    picked-number (int_lt w z) z w (Num b)
    ∙ lesser-by (reaches (Num b) (number z)) (reaches (Num b) (number w)) (num-reaches (Num b) z)
    (num-reaches (Num b) w)
  where
    lesser-by : (x y : Bool) → x ≡ int_le b z → y ≡ int_le b w → cond (int_lt w z) y x ≡ (x && y)
    lesser-by x y f g = lesser-num b z w (int_lt w z) x y refl (sym f) (sym g)
lesser-two PosInf z w = picked-number (int_lt w z) z w PosInf ∙ same-bool (int_lt w z) false

-- totals of 0 and 1
one-more : (g : ℤ) → pos 0 ≤ℤ g → int_le (pos 1) (pos 1 +ℤ g) ≡ true
one-more g h = grind (arith, ints, nat_tests)

no-more : (g : ℤ) → int_le (pos 1) (pos 0 +ℤ g) ≡ int_le (pos 1) g
no-more g = let e : pos 0 +ℤ g ≡ g = omega (arith, ints) in ap (int_le (pos 1)) e

hit : (x r : Bool) (g : ℤ) → pos 0 ≤ℤ g → ((x || r) || int_le (pos 1) g) ≡
    (x || int_le (pos 1) ((if r then pos 1 else pos 0) +ℤ g))
hit true r g h = refl
hit false true g h = sym (one-more g h)
hit false false g h = sym (no-more g)

missed : (x r : Bool) (g : ℤ) → pos 0 ≤ℤ g → ((x && r) && not (int_le (pos 1) g)) ≡
    (x && not (int_le (pos 1) ((if r then pos 0 else pos 1) +ℤ g)))
missed false r g h = refl
missed true true g h = ap not (sym (no-more g))
missed true false g h = ap not (sym (one-more g h))

non-neg-gain : (t r : Bool) (g : ℤ) → pos 0 ≤ℤ g → pos 0 ≤ℤ (gain_if t (if r then pos 1 else pos 0) +ℤ g)
non-neg-gain true true g h = omega (arith, ints, h)
non-neg-gain true false g h = omega (arith, ints, h)
non-neg-gain false r g h = omega (arith, ints, h)

non-neg-loss : (t r : Bool) (g : ℤ) → pos 0 ≤ℤ g → pos 0 ≤ℤ (gain_if t (if r then pos 0 else pos 1) +ℤ g)
non-neg-loss true true g h = omega (arith, ints, h)
non-neg-loss true false g h = omega (arith, ints, h)
non-neg-loss false r g h = omega (arith, ints, h)

max-positive : (f : Part → Bool) (b : ExtInt) (ps : List Part) → pos 0 ≤ℤ total f kind.Max b ps
max-positive f b [] = omega (arith, ints)
max-positive f b (p ∷ ps) = non-neg-gain (f p) (reaches b (number p.weight)) (total f kind.Max b ps)
    (max-positive f b ps)

min-positive : (f : Part → Bool) (b : ExtInt) (ps : List Part) → pos 0 ≤ℤ total f kind.Min b ps
min-positive f b [] = omega (arith, ints)
min-positive f b (p ∷ ps) = non-neg-loss (f p) (reaches b (number p.weight)) (total f kind.Min b ps)
    (min-positive f b ps)

-- maxima
right-or : (x : Bool) → x ≡ (x || false)
right-or true = refl
right-or false = refl

right-and : (x : Bool) → x ≡ (x && true)
right-and true = refl
right-and false = refl

abbrev Numbers : (Denotation → Denotation → Denotation) → ExtInt → List Part → (Bool → Bool) → Type 0
Numbers op b ps after = (z : ℤ) → reaches b (fold op (number z) (map (λ (q : Part). number q.weight) ps)) ≡ after
    (reaches b (number z))

greater-is : (z w : ℤ) (t : Bool) → int_lt z w ≡ t → greater (number z) (number w) ≡ number (cond t w z)
greater-is z w true e = ap (λ x. cond x (number w) (number z)) e
greater-is z w false e = ap (λ x. cond x (number w) (number z)) e

lesser-is : (z w : ℤ) (t : Bool) → int_lt w z ≡ t → lesser (number z) (number w) ≡ number (cond t w z)
lesser-is z w true e = ap (λ x. cond x (number w) (number z)) e
lesser-is z w false e = ap (λ x. cond x (number w) (number z)) e

max-step : (t : Bool) (b : ExtInt) (p : Part) (ps : List Part) (g : ℤ) → pos 0 ≤ℤ g
    → Numbers greater b ps (λ x. x || int_le (pos 1) g)
    → Numbers greater b (if t then p ∷ ps else ps) (λ x. x || int_le (pos 1)
    (gain_if t (gain kind.Max b p.weight) +ℤ g))
max-step true b p ps g h ih z =
    let t = int_lt z p.weight in
    let e = greater-is z p.weight t refl in
    ap (λ d. reaches b (fold greater d (map (λ (q : Part). number q.weight) ps))) e ∙ ih (cond t p.weight z)
    ∙ ap (λ d. reaches b d || int_le (pos 1) g) (sym e)
    ∙ ap (λ x. x || int_le (pos 1) g) (greater-two b z p.weight)
    ∙ hit (reaches b (number z)) (reaches b (number p.weight)) g h
max-step false b p ps g h ih z = ih z ∙ ap (λ x. reaches b (number z) || x) (sym (no-more g))

max-numbers : (f : Part → Bool) (b : ExtInt) (ps : List Part)
    → Numbers greater b (filter f ps) (λ x. x || int_le (pos 1) (total f kind.Max b ps))
max-numbers f b [] z = right-or (reaches b (number z))
max-numbers f b (p ∷ ps) z = max-step (f p) b p (filter f ps) (total f kind.Max b ps) (max-positive f b ps)
    (max-numbers f b ps) z

abbrev Starts : (Denotation → Denotation → Denotation) → Denotation → ExtInt → List Part → Bool → Type 0
Starts op d b ps after = reaches b (fold op d (map (λ (q : Part). number q.weight) ps)) ≡ after

low-start : (b : ExtInt) (w : ℤ) → reaches b (number w) ≡ (reaches b minus_infinity || reaches b (number w))
low-start NegInf w = refl
low-start (Num b) w = refl
low-start PosInf w = refl

max-first : (t : Bool) (b : ExtInt) (p : Part) (ps : List Part) (g : ℤ) → pos 0 ≤ℤ g
    → Numbers greater b ps (λ x. x || int_le (pos 1) g)
    → Starts greater minus_infinity b ps (reaches b minus_infinity || int_le (pos 1) g)
    → Starts greater minus_infinity b (if t then p ∷ ps else ps)
    (reaches b minus_infinity || int_le (pos 1) (gain_if t (gain kind.Max b p.weight) +ℤ g))
max-first true b p ps g h ih start =
    ih p.weight ∙ ap (λ x. x || int_le (pos 1) g) (low-start b p.weight)
    ∙ hit (reaches b minus_infinity) (reaches b (number p.weight)) g h
max-first false b p ps g h ih start = start ∙ ap (λ x. reaches b minus_infinity || x) (sym (no-more g))

max-total : (f : Part → Bool) (b : ExtInt) (ps : List Part)
    → Starts greater minus_infinity b (filter f ps) (reaches b minus_infinity || int_le (pos 1) (total f kind.Max b ps))
max-total f b [] = right-or (reaches b minus_infinity)
max-total f b (p ∷ ps) = max-first (f p) b p (filter f ps) (total f kind.Max b ps) (max-positive f b ps)
    (max-numbers f b ps) (max-total f b ps)

max-met : (b : ExtInt) (z : ℤ) → (reaches b minus_infinity || int_le (pos 1) z) ≡ met (max_goal b) z
max-met NegInf z = refl
max-met (Num b) z = refl
max-met PosInf z = refl

-- minima
min-step : (t : Bool) (b : ExtInt) (p : Part) (ps : List Part) (g : ℤ) → pos 0 ≤ℤ g
    → Numbers lesser b ps (λ x. x && not (int_le (pos 1) g))
    → Numbers lesser b (if t then p ∷ ps else ps) (λ x. x && not
    (int_le (pos 1) (gain_if t (gain kind.Min b p.weight) +ℤ g)))
min-step true b p ps g h ih z =
    let t = int_lt p.weight z in
    let e = lesser-is z p.weight t refl in
    ap (λ d. reaches b (fold lesser d (map (λ (q : Part). number q.weight) ps))) e ∙ ih (cond t p.weight z)
    ∙ ap (λ d. reaches b d && not (int_le (pos 1) g)) (sym e)
    ∙ ap (λ x. x && not (int_le (pos 1) g)) (lesser-two b z p.weight)
    ∙ missed (reaches b (number z)) (reaches b (number p.weight)) g h
min-step false b p ps g h ih z = ih z ∙ ap (λ x. reaches b (number z) && not x) (sym (no-more g))

min-numbers : (f : Part → Bool) (b : ExtInt) (ps : List Part)
    → Numbers lesser b (filter f ps) (λ x. x && not (int_le (pos 1) (total f kind.Min b ps)))
min-numbers f b [] z = right-and (reaches b (number z))
min-numbers f b (p ∷ ps) z = min-step (f p) b p (filter f ps) (total f kind.Min b ps) (min-positive f b ps)
    (min-numbers f b ps) z

high-start : (b : ExtInt) → reaches b plus_infinity ≡ true
high-start NegInf = refl
high-start (Num b) = refl
high-start PosInf = refl

min-first : (t : Bool) (b : ExtInt) (p : Part) (ps : List Part) (g : ℤ) → pos 0 ≤ℤ g
    → Numbers lesser b ps (λ x. x && not (int_le (pos 1) g)) → Starts lesser plus_infinity b ps (not (int_le (pos 1) g))
    → Starts lesser plus_infinity b (if t then p ∷ ps else ps)
    (not (int_le (pos 1) (gain_if t (gain kind.Min b p.weight) +ℤ g)))
min-first true b p ps g h ih start = ih p.weight ∙ missed true (reaches b (number p.weight)) g h
min-first false b p ps g h ih start = start ∙ ap not (sym (no-more g))

min-total : (f : Part → Bool) (b : ExtInt) (ps : List Part)
    → Starts lesser plus_infinity b (filter f ps) (not (int_le (pos 1) (total f kind.Min b ps)))
min-total f b [] = high-start b
min-total f b (p ∷ ps) = min-first (f p) b p (filter f ps) (total f kind.Min b ps) (min-positive f b ps)
    (min-numbers f b ps) (min-total f b ps)

pub reaches-by-totals : ReachesByTotals
reaches-by-totals f kind.Count b ps = ap (λ z. reaches b (number z)) (count-total f b ps)
    ∙ num-reaches b (total f kind.Count b ps)
reaches-by-totals f kind.Sum b ps =
    ap (reaches b) (sum-total f b ps (pos 0)) ∙ num-reaches b (pos 0 +ℤ total f kind.Sum b ps)
    ∙ ap (met b) (omega (arith, ints))
reaches-by-totals f kind.Min b ps = min-total f b ps
reaches-by-totals f kind.Max b ps = max-total f b ps ∙ max-met b (total f kind.Max b ps)
