-- Whether a term is below a bound, as a question on one sum.
use Rattle.std.proofs.Common.{◌≡◌, ℕ, ℤ, pos, neg_ℤ, ◌+ℤ◌, ◌-ℤ◌, ◌≤ℤ◌, int_lt, Bool, true, false, ◌||◌, ◌&&◌}
use Rattle.std.proofs.Common.{if◌then◌else◌, List, [], ◌∷◌, map, filter, length, fold, cond, refl, sym, ap, ◌∙◌, arith}
use Rattle.std.proofs.lemmas.Bool.Decides.{nat_tests}
use Rattle.std.proofs.lemmas.Int.{ints}
use Rattle.kb_logic.specs.declared.elements.ExtInt.{ExtInt}
use Rattle.kb_logic.specs.declared.elements.ExtInt.TheVariants.{NegInf, Num, PosInf}
use Rattle.kb_logic.specs.declared.syntax.AggKind.{AggKind}
use Rattle.kb_logic.specs.declared.syntax.AggKind.TheVariants as kind
use Rattle.kb_logic.specs.Denotations.{Denotation, number, named, undefined, minus_infinity, plus_infinity, added}
use Rattle.kb_logic.specs.Denotations.{lesser, greater}
use Rattle.lit_core.specs.Literals.{literal_value}
use Rattle.ground_core.specs.declared.parts.Part.{Part}
use Rattle.ground_core.specs.Meaning.{weights_of, parts_value, shifted}
use Rattle.term_bounds.specs.Amounts.{is_under, lessened}
use Rattle.term_bounds.specs.Totals.{counted_as, none_reaching, total_bound, where_true, total}
use Rattle.term_bounds.specs.Laws.{BoundsByTotals}

-- the weights of the parts, all of them
abbrev weights : List Part → List Denotation
weights ps = map (λ (q : Part). number q.weight) ps

-- sums
sum-step : (t : Bool) (p : Part) (ps : List Part) (z g : ℤ) → ((y : ℤ) → fold added (number y) (weights ps)
    ≡ number (y +ℤ g))
    → fold added (number z) (weights (if t then p ∷ ps else ps)) ≡ number (z +ℤ (where_true t p.weight +ℤ g))
sum-step true p ps z g ih = ih (z +ℤ p.weight) ∙ ap number (omega (arith, ints))
sum-step false p ps z g ih = ih z ∙ ap number (omega (arith, ints))

pub sum-total : (v : ℕ → Bool) (b : ExtInt) (ps : List Part) (z : ℤ) → fold added (number z) (weights_of v ps)
    ≡ number (z +ℤ total v kind.Sum b ps)
sum-total v b [] z = ap number (omega (arith, ints))
sum-total v b (p ∷ ps) z = sum-step (literal_value v p.lit) p (filter (λ (q : Part). literal_value v q.lit) ps) z
    (total v kind.Sum b ps) (λ y. sum-total v b ps y)

-- counts
count-step : (t : Bool) (p : Part) (ps : List Part) (g : ℤ) → pos (length (weights ps)) ≡ g
    → pos (length (weights (if t then p ∷ ps else ps))) ≡ where_true t (pos 1) +ℤ g
count-step true p ps g h = omega (arith, ints, h)
count-step false p ps g h = omega (arith, ints, h)

pub count-total : (v : ℕ → Bool) (b : ExtInt) (ps : List Part) → pos (length (weights_of v ps))
    ≡ total v kind.Count b ps
count-total v b [] = refl
count-total v b (p ∷ ps) = count-step (literal_value v p.lit) p (filter (λ (q : Part). literal_value v q.lit) ps)
    (total v kind.Count b ps) (count-total v b ps)

-- the greater and the lesser of two numbers under a bound
up : (b z w : ℤ) → int_lt z w ≡ true → int_lt z b ≡ false → int_lt w b ≡ true → ⊥
up b z w e f g = grind (arith, ints, nat_tests)

down : (b z w : ℤ) → int_lt z w ≡ false → int_lt z b ≡ true → int_lt w b ≡ false → ⊥
down b z w e f g = grind (arith, ints, nat_tests)

greater-under : (b z w : ℤ) (t x y : Bool) → int_lt z w ≡ t → int_lt z b ≡ x → int_lt w b ≡ y → cond t y x ≡ (x && y)
greater-under b z w true true y e f g = refl
greater-under b z w true false true e f g = absurd (up b z w e f g)
greater-under b z w true false false e f g = refl
greater-under b z w false true true e f g = refl
greater-under b z w false true false e f g = absurd (down b z w e f g)
greater-under b z w false false y e f g = refl

lesser-under : (b z w : ℤ) (t x y : Bool) → int_lt w z ≡ t → int_lt z b ≡ x → int_lt w b ≡ y → cond t y x ≡ (x || y)
lesser-under b z w true true true e f g = refl
lesser-under b z w true true false e f g = absurd (up b w z e g f)
lesser-under b z w true false y e f g = refl
lesser-under b z w false true y e f g = refl
lesser-under b z w false false true e f g = absurd (down b w z e g f)
lesser-under b z w false false false e f g = refl

same-bool : (t x : Bool) → cond t x x ≡ x
same-bool true x = refl
same-bool false x = refl

picked : (t : Bool) (z w : ℤ) (b : ExtInt) → is_under b (cond t (number w) (number z)) ≡ cond t (is_under b (number w))
    (is_under b (number z))
picked true z w b = refl
picked false z w b = refl

greater-two : (b : ExtInt) (z w : ℤ) → is_under b (greater (number z) (number w))
    ≡ (is_under b (number z) && is_under b (number w))
greater-two NegInf z w = picked (int_lt z w) z w NegInf ∙ same-bool (int_lt z w) false
greater-two (Num b) z w = picked (int_lt z w) z w (Num b) ∙ greater-under b z w (int_lt z w) (int_lt z b)
    (int_lt w b) refl refl refl
greater-two PosInf z w = picked (int_lt z w) z w PosInf ∙ same-bool (int_lt z w) true

lesser-two : (b : ExtInt) (z w : ℤ) → is_under b (lesser (number z) (number w))
    ≡ (is_under b (number z) || is_under b (number w))
lesser-two NegInf z w = picked (int_lt w z) z w NegInf ∙ same-bool (int_lt w z) false
lesser-two (Num b) z w = picked (int_lt w z) z w (Num b) ∙ lesser-under b z w (int_lt w z) (int_lt z b)
    (int_lt w b) refl refl refl
lesser-two PosInf z w = picked (int_lt w z) z w PosInf ∙ same-bool (int_lt w z) true

-- totals of 0 and 1, and of 0 and -1
none-more : (g : ℤ) → int_lt (pos 0 +ℤ g) (pos 1) ≡ int_lt g (pos 1)
none-more g = let e : pos 0 +ℤ g ≡ g = omega (arith, ints) in ap (λ z. int_lt z (pos 1)) e

one-more : (g : ℤ) → pos 0 ≤ℤ g → int_lt (pos 1 +ℤ g) (pos 1) ≡ false
one-more g h = grind (arith, ints, nat_tests)

none-less : (g : ℤ) → int_lt (pos 0 +ℤ g) (pos 0) ≡ int_lt g (pos 0)
none-less g = let e : pos 0 +ℤ g ≡ g = omega (arith, ints) in ap (λ z. int_lt z (pos 0)) e

one-less : (g : ℤ) → g ≤ℤ pos 0 → int_lt (neg_ℤ (pos 1) +ℤ g) (pos 0) ≡ true
one-less g h = grind (arith, ints, nat_tests)

hit : (x r : Bool) (g : ℤ) → pos 0 ≤ℤ g → ((x && r) && int_lt g (pos 1))
    ≡ (x && int_lt ((if r then pos 0 else pos 1) +ℤ g) (pos 1))
hit false r g h = refl
hit true true g h = sym (none-more g)
hit true false g h = sym (one-more g h)

met : (x r : Bool) (g : ℤ) → g ≤ℤ pos 0 → ((x || r) || int_lt g (pos 0))
    ≡ (x || int_lt ((if r then neg_ℤ (pos 1) else pos 0) +ℤ g) (pos 0))
met true r g h = refl
met false true g h = sym (one-less g h)
met false false g h = sym (none-less g)

no-loss : (t r : Bool) (g : ℤ) → pos 0 ≤ℤ g → pos 0 ≤ℤ (where_true t (if r then pos 0 else pos 1) +ℤ g)
no-loss true true g h = omega (arith, ints, h)
no-loss true false g h = omega (arith, ints, h)
no-loss false r g h = omega (arith, ints, h)

no-gain : (t r : Bool) (g : ℤ) → g ≤ℤ pos 0 → (where_true t (if r then neg_ℤ (pos 1) else pos 0) +ℤ g) ≤ℤ pos 0
no-gain true true g h = omega (arith, ints, h)
no-gain true false g h = omega (arith, ints, h)
no-gain false r g h = omega (arith, ints, h)

max-positive : (v : ℕ → Bool) (b : ExtInt) (ps : List Part) → pos 0 ≤ℤ total v kind.Max b ps
max-positive v b [] = omega (arith, ints)
max-positive v b (p ∷ ps) = no-loss (literal_value v p.lit) (is_under b (number p.weight)) (total v kind.Max b ps)
    (max-positive v b ps)

min-negative : (v : ℕ → Bool) (b : ExtInt) (ps : List Part) → total v kind.Min b ps ≤ℤ pos 0
min-negative v b [] = omega (arith, ints)
min-negative v b (p ∷ ps) = no-gain (literal_value v p.lit) (is_under b (number p.weight)) (total v kind.Min b ps)
    (min-negative v b ps)

-- a fold from a number on
abbrev FromNumber : (Denotation → Denotation → Denotation) → ExtInt → List Part → (Bool → Bool) → Type 0
FromNumber op b ps after = (z : ℤ) → is_under b (fold op (number z) (weights ps)) ≡ after (is_under b (number z))

greater-is : (z w : ℤ) (t : Bool) → int_lt z w ≡ t → greater (number z) (number w) ≡ number (cond t w z)
greater-is z w true e = ap (λ x. cond x (number w) (number z)) e
greater-is z w false e = ap (λ x. cond x (number w) (number z)) e

lesser-is : (z w : ℤ) (t : Bool) → int_lt w z ≡ t → lesser (number z) (number w) ≡ number (cond t w z)
lesser-is z w true e = ap (λ x. cond x (number w) (number z)) e
lesser-is z w false e = ap (λ x. cond x (number w) (number z)) e

right-and : (x : Bool) → x ≡ (x && true)
right-and true = refl
right-and false = refl

right-or : (x : Bool) → x ≡ (x || false)
right-or true = refl
right-or false = refl

-- maxima
max-step : (t : Bool) (b : ExtInt) (p : Part) (ps : List Part) (g : ℤ) → pos 0 ≤ℤ g
    → FromNumber greater b ps (λ x. x && int_lt g (pos 1))
    → FromNumber greater b (if t then p ∷ ps else ps) (λ x. x && int_lt (where_true t (counted_as kind.Max b p.weight)
    +ℤ g) (pos 1))
max-step true b p ps g h ih z =
    let t = int_lt z p.weight in
    let e = greater-is z p.weight t refl in
    ap (λ d. is_under b (fold greater d (weights ps))) e ∙ ih (cond t p.weight z)
    ∙ ap (λ d. is_under b d && int_lt g (pos 1)) (sym e)
    ∙ ap (λ x. x && int_lt g (pos 1)) (greater-two b z p.weight)
    ∙ hit (is_under b (number z)) (is_under b (number p.weight)) g h
max-step false b p ps g h ih z = ih z ∙ ap (λ x. is_under b (number z) && x) (sym (none-more g))

max-numbers : (v : ℕ → Bool) (b : ExtInt) (ps : List Part) → FromNumber greater b
    (filter (λ (q : Part). literal_value v q.lit) ps) (λ x. x && int_lt (total v kind.Max b ps) (pos 1))
max-numbers v b [] z = right-and (is_under b (number z))
max-numbers v b (p ∷ ps) z = max-step (literal_value v p.lit) b p (filter (λ (q : Part). literal_value v q.lit) ps)
    (total v kind.Max b ps) (max-positive v b ps) (max-numbers v b ps) z

-- whether the bound is above minus infinity
abbrev low-under : ExtInt → Bool
low-under b = is_under b minus_infinity

low-true : (b : ExtInt) (w : ℤ) (x : Bool) → (is_under b (number w) && x)
    ≡ (low-under b && (is_under b (number w) && x))
low-true NegInf w x = refl
low-true (Num b) w x = refl
low-true PosInf w x = refl

max-first : (t : Bool) (b : ExtInt) (p : Part) (ps : List Part) (g : ℤ) → pos 0 ≤ℤ g
    → FromNumber greater b ps (λ x. x && int_lt g (pos 1))
    → is_under b (fold greater minus_infinity (weights ps)) ≡ (low-under b && int_lt g (pos 1))
    → is_under b (fold greater minus_infinity (weights (if t then p ∷ ps else ps)))
    ≡ (low-under b && int_lt (where_true t (counted_as kind.Max b p.weight) +ℤ g) (pos 1))
max-first true b p ps g h ih start =
    ih p.weight ∙ low-true b p.weight (int_lt g (pos 1))
    ∙ ap (λ x. low-under b && x) (hit true (is_under b (number p.weight)) g h)
max-first false b p ps g h ih start = start ∙ ap (λ x. low-under b && x) (sym (none-more g))

max-total : (v : ℕ → Bool) (b : ExtInt) (ps : List Part) → is_under b (fold greater minus_infinity (weights_of v ps))
    ≡ (low-under b && int_lt (total v kind.Max b ps) (pos 1))
max-total v b [] = right-and (low-under b)
max-total v b (p ∷ ps) = max-first (literal_value v p.lit) b p (filter (λ (q : Part). literal_value v q.lit) ps)
    (total v kind.Max b ps) (max-positive v b ps) (max-numbers v b ps) (max-total v b ps)

max-bound : (b : ExtInt) (z : ℤ) → (low-under b && int_lt z (pos 1)) ≡ is_under (none_reaching b) (number z)
max-bound NegInf z = refl
max-bound (Num b) z = refl
max-bound PosInf z = refl

-- minima
min-step : (t : Bool) (b : ExtInt) (p : Part) (ps : List Part) (g : ℤ) → g ≤ℤ pos 0
    → FromNumber lesser b ps (λ x. x || int_lt g (pos 0))
    → FromNumber lesser b (if t then p ∷ ps else ps) (λ x. x || int_lt (where_true t (counted_as kind.Min b p.weight)
    +ℤ g) (pos 0))
min-step true b p ps g h ih z =
    let t = int_lt p.weight z in
    let e = lesser-is z p.weight t refl in
    ap (λ d. is_under b (fold lesser d (weights ps))) e ∙ ih (cond t p.weight z)
    ∙ ap (λ d. is_under b d || int_lt g (pos 0)) (sym e)
    ∙ ap (λ x. x || int_lt g (pos 0)) (lesser-two b z p.weight)
    ∙ met (is_under b (number z)) (is_under b (number p.weight)) g h
min-step false b p ps g h ih z = ih z ∙ ap (λ x. is_under b (number z) || x) (sym (none-less g))

min-numbers : (v : ℕ → Bool) (b : ExtInt) (ps : List Part) → FromNumber lesser b
    (filter (λ (q : Part). literal_value v q.lit) ps) (λ x. x || int_lt (total v kind.Min b ps) (pos 0))
min-numbers v b [] z = right-or (is_under b (number z))
min-numbers v b (p ∷ ps) z = min-step (literal_value v p.lit) b p (filter (λ (q : Part). literal_value v q.lit) ps)
    (total v kind.Min b ps) (min-negative v b ps) (min-numbers v b ps) z

high-under : (b : ExtInt) → is_under b plus_infinity ≡ false
high-under NegInf = refl
high-under (Num b) = refl
high-under PosInf = refl

min-first : (t : Bool) (b : ExtInt) (p : Part) (ps : List Part) (g : ℤ) → g ≤ℤ pos 0
    → FromNumber lesser b ps (λ x. x || int_lt g (pos 0))
    → is_under b (fold lesser plus_infinity (weights ps)) ≡ int_lt g (pos 0)
    → is_under b (fold lesser plus_infinity (weights (if t then p ∷ ps else ps)))
    ≡ int_lt (where_true t (counted_as kind.Min b p.weight) +ℤ g) (pos 0)
min-first true b p ps g h ih start = ih p.weight ∙ met false (is_under b (number p.weight)) g h
min-first false b p ps g h ih start = start ∙ sym (none-less g)

min-total : (v : ℕ → Bool) (b : ExtInt) (ps : List Part) → is_under b (fold lesser plus_infinity (weights_of v ps))
    ≡ int_lt (total v kind.Min b ps) (pos 0)
min-total v b [] = high-under b
min-total v b (p ∷ ps) = min-first (literal_value v p.lit) b p (filter (λ (q : Part). literal_value v q.lit) ps)
    (total v kind.Min b ps) (min-negative v b ps) (min-numbers v b ps) (min-total v b ps)

-- the four kinds
parts-under : (v : ℕ → Bool) (k : AggKind) (b : ExtInt) (ps : List Part) → is_under b (parts_value v k ps)
    ≡ is_under (total_bound k b) (number (total v k b ps))
parts-under v kind.Count b ps = ap (λ z. is_under b (number z)) (count-total v b ps)
parts-under v kind.Sum b ps = ap (is_under b) (sum-total v b ps (pos 0)) ∙ ap (λ z. is_under b (number z))
    (let e : pos 0 +ℤ total v kind.Sum b ps ≡ total v kind.Sum b ps = omega (arith, ints) in e)
parts-under v kind.Min b ps = min-total v b ps
parts-under v kind.Max b ps = max-total v b ps ∙ max-bound b (total v kind.Max b ps)

-- a base taken off
less-base : (base z b : ℤ) (x y : Bool) → int_lt (base +ℤ z) b ≡ x → int_lt z (b -ℤ base) ≡ y → x ≡ y
less-base base z b true true e f = refl
less-base base z b true false e f = absurd (wrong e f)
  where
    wrong : int_lt (base +ℤ z) b ≡ true → int_lt z (b -ℤ base) ≡ false → ⊥
    wrong e f = grind (arith, ints, nat_tests)
less-base base z b false true e f = absurd (wrong e f)
  where
    wrong : int_lt (base +ℤ z) b ≡ false → int_lt z (b -ℤ base) ≡ true → ⊥
    wrong e f = grind (arith, ints, nat_tests)
less-base base z b false false e f = refl

base-off : (base : ℤ) (b : ExtInt) (d : Denotation) → is_under b (shifted base d) ≡ is_under (lessened base b) d
base-off base NegInf (named n) = refl
base-off base NegInf (number z) = refl
base-off base NegInf minus_infinity = refl
base-off base NegInf plus_infinity = refl
base-off base NegInf undefined = refl
base-off base (Num b) (named n) = refl
base-off base (Num b) (number z) = less-base base z b (int_lt (base +ℤ z) b) (int_lt z (b -ℤ base)) refl refl
base-off base (Num b) minus_infinity = refl
base-off base (Num b) plus_infinity = refl
base-off base (Num b) undefined = refl
base-off base PosInf (named n) = refl
base-off base PosInf (number z) = refl
base-off base PosInf minus_infinity = refl
base-off base PosInf plus_infinity = refl
base-off base PosInf undefined = refl

pub bounds-by-totals : BoundsByTotals
bounds-by-totals v t below = base-off t.base below (parts_value v t.kind t.parts)
    ∙ parts-under v t.kind (lessened t.base below) t.parts

-- counts and sums are totals, whatever the bound
pub count-value : (v : ℕ → Bool) (ps : List Part) → number (total v kind.Count PosInf ps) ≡ parts_value v kind.Count ps
count-value v ps = ap number (sym (count-total v PosInf ps))

pub sum-value : (v : ℕ → Bool) (ps : List Part) → number (total v kind.Sum PosInf ps) ≡ parts_value v kind.Sum ps
sum-value v ps = ap number (let e : total v kind.Sum PosInf ps ≡ pos 0 +ℤ total v kind.Sum PosInf ps =
    omega (arith, ints) in e) ∙ sym (sum-total v PosInf ps (pos 0))
