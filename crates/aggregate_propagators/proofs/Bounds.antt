-- Each value lies in the interval, so what the interval contradicts cannot hold.
use Rattle.std.specs.List.{list_any}
use Rattle.std.proofs.lemmas.Bool.{cases_Bool}
use Rattle.std.proofs.lemmas.List.Folds.{Any-from_list_any}
use Rattle.std.proofs.Common.{◌||◌, inl, inr, ◌≡◌, ℕ, ℤ, pos, ◌+ℤ◌, ◌≤ℤ◌, int_lt, int_le, nat_eq, Bool, true, false}
use Rattle.std.proofs.Common.{not, if◌then◌else◌, Option, Some, None, List, [], ◌∷◌, refl, sym, ap, ◌∙◌, subst, arith}
use Rattle.std.proofs.lemmas.Bool.Decides.{nat_tests}
use Rattle.std.proofs.lemmas.Int.{ints}
use Rattle.kb_logic.specs.declared.elements.ExtInt.{ExtInt}
use Rattle.kb_logic.specs.declared.elements.ExtInt.TheVariants.{NegInf, Num, PosInf}
use Rattle.kb_logic.specs.declared.syntax.AggKind.{AggKind}
use Rattle.kb_logic.specs.declared.syntax.AggKind.TheVariants as kind
use Rattle.kb_logic.specs.Denotations.{number}
use Rattle.lit_core.specs.declared.literals.Lit.{Lit}
use Rattle.lit_core.specs.Literals.{literal_value, by_sign, by_sign_if_any}
use Rattle.ground_core.specs.declared.parts.Part.{Part}
use Rattle.ground_core.specs.declared.parts.AggCon.{AggCon}
use Rattle.ground_core.specs.Meaning.{SumHolds, parts_value}
use Rattle.ground_core.specs.Intervals.{known_of, in_least, in_greatest, least_choice, greatest_choice}
use Rattle.ground_core.specs.Intervals.{least_possible, greatest_possible, reaches, refuted_by, contradicts}
use Rattle.ground_core.specs.Intervals.{refuting, Extends}
use Rattle.aggregate_propagators.specs.Totals.{gain, goal_of, with_side, gain_if, total, met}
use Rattle.aggregate_propagators.specs.Laws.{BoundContradictionIsSound, ContradictionIsSound}
use Rattle.aggregate_propagators.proofs.Sums.{reaches-by-totals}

-- a literal that has a value has it in every extension
pub known-holds : (a : ℕ → Option Bool) (v : ℕ → Bool) → Extends a v → (l : Lit) (b : Bool) → known_of a l ≡ Some b
    → literal_value v l ≡ b
known-holds a v ex l b e = by (a l.var.0) b refl e
  where
    some-is : (x y : Bool) → Some x ≡ Some y → x ≡ y
    some-is x y e = cc

    by : (o : Option Bool) (b : Bool) → a l.var.0 ≡ o → by_sign_if_any l.positive o ≡ Some b → literal_value v l ≡ b
    by None b is e = absurd (no-none b e)
      where
        no-none : (b : Bool) → None ≡ Some b → ⊥
        no-none b e = cc
    by (Some x) b is e = ap (by_sign l.positive) (ex l.var.0 x is) ∙ some-is (by_sign l.positive x) b e

-- more gains meet what fewer meet
le-trans : (b y z : ℤ) → y ≤ℤ z → int_le b y ≡ true → int_le b z ≡ true
le-trans b y z h e = grind (arith, ints, nat_tests)

met-more : (b : ExtInt) (y z : ℤ) → y ≤ℤ z → met b y ≡ true → met b z ≡ true
met-more NegInf y z h e = refl
met-more (Num b) y z h e = le-trans b y z h e
met-more PosInf y z h e = e

-- the first total is no greater than the second; for a minimum the other way round
abbrev InOrder : AggKind → ℤ → ℤ → Type 0
InOrder kind.Count y z = y ≤ℤ z
InOrder kind.Sum y z = y ≤ℤ z
InOrder kind.Min y z = z ≤ℤ y
InOrder kind.Max y z = y ≤ℤ z

not-back : (x y : Bool) → (y ≡ true → x ≡ true) → not x ≡ true → not y ≡ true
not-back true y h e = absurd (wrong e)
  where
    wrong : false ≡ true → ⊥
    wrong e = cc
not-back false true h e = h refl
not-back false false h e = refl

side-more : (k : AggKind) (b : ExtInt) (y z : ℤ) → InOrder k y z → with_side k (met b y) ≡ true
    → with_side k (met b z) ≡ true
side-more kind.Count b y z h e = met-more b y z h e
side-more kind.Sum b y z h e = met-more b y z h e
side-more kind.Min b y z h e = not-back (met b y) (met b z) (met-more b z y h) e
side-more kind.Max b y z h e = met-more b y z h e

order-zero : (k : AggKind) → InOrder k (pos 0) (pos 0)
order-zero kind.Count = omega (arith, ints)
order-zero kind.Sum = omega (arith, ints)
order-zero kind.Min = omega (arith, ints)
order-zero kind.Max = omega (arith, ints)

order-add : (k : AggKind) (x y g h : ℤ) → InOrder k x y → InOrder k g h → InOrder k (x +ℤ g) (y +ℤ h)
order-add kind.Count x y g h p q = omega (arith, ints, p, q)
order-add kind.Sum x y g h p q = omega (arith, ints, p, q)
order-add kind.Min x y g h p q = omega (arith, ints, p, q)
order-add kind.Max x y g h p q = omega (arith, ints, p, q)

order-refl : (k : AggKind) (x : ℤ) → InOrder k x x
order-refl kind.Count x = omega (arith, ints)
order-refl kind.Sum x = omega (arith, ints)
order-refl kind.Min x = omega (arith, ints)
order-refl kind.Max x = omega (arith, ints)

-- one part
neg-low : (w : ℤ) (t b : Bool) → int_lt w (pos 0) ≡ t → gain_if t w ≤ℤ gain_if b w
neg-low w true true e = omega (arith, ints)
neg-low w true false e = grind (arith, ints, nat_tests)
neg-low w false true e = grind (arith, ints, nat_tests)
neg-low w false false e = omega (arith, ints)

pos-high : (w : ℤ) (t b : Bool) → int_lt (pos 0) w ≡ t → gain_if b w ≤ℤ gain_if t w
pos-high w true true e = omega (arith, ints)
pos-high w true false e = grind (arith, ints, nat_tests)
pos-high w false true e = grind (arith, ints, nat_tests)
pos-high w false false e = omega (arith, ints)

none-low : (b r : Bool) → pos 0 ≤ℤ gain_if b (if r then pos 1 else pos 0)
none-low true true = omega (arith, ints)
none-low true false = omega (arith, ints)
none-low false r = omega (arith, ints)

all-high : (b r : Bool) → gain_if b (if r then pos 1 else pos 0) ≤ℤ (if r then pos 1 else pos 0)
all-high true true = omega (arith, ints)
all-high true false = omega (arith, ints)
all-high false true = omega (arith, ints)
all-high false false = omega (arith, ints)

none-low-min : (b r : Bool) → pos 0 ≤ℤ gain_if b (if r then pos 0 else pos 1)
none-low-min true true = omega (arith, ints)
none-low-min true false = omega (arith, ints)
none-low-min false r = omega (arith, ints)

all-high-min : (b r : Bool) → gain_if b (if r then pos 0 else pos 1) ≤ℤ (if r then pos 0 else pos 1)
all-high-min true true = omega (arith, ints)
all-high-min true false = omega (arith, ints)
all-high-min false true = omega (arith, ints)
all-high-min false false = omega (arith, ints)

low-part : (k : AggKind) (least : ExtInt) (w : ℤ) (o : Option Bool) (b : Bool) → ((x : Bool) → o ≡ Some x → b ≡ x)
    → InOrder k (gain_if (in_least k w o) (gain k least w)) (gain_if b (gain k least w))
low-part k least w (Some x) b h = subst (λ y. InOrder k (gain_if x (gain k least w)) (gain_if y (gain k least w)))
    (sym (h x refl)) (order-refl k (gain_if x (gain k least w)))
low-part kind.Count least w None b h = none-low b true
low-part kind.Sum least w None b h = neg-low w (int_lt w (pos 0)) b refl
low-part kind.Min least w None b h = all-high-min b (reaches least (number w))
low-part kind.Max least w None b h = none-low b (reaches least (number w))

high-part : (k : AggKind) (least : ExtInt) (w : ℤ) (o : Option Bool) (b : Bool) → ((x : Bool) → o ≡ Some x → b ≡ x)
    → InOrder k (gain_if b (gain k least w)) (gain_if (in_greatest k w o) (gain k least w))
high-part k least w (Some x) b h = subst (λ y. InOrder k (gain_if y (gain k least w)) (gain_if x (gain k least w)))
    (sym (h x refl)) (order-refl k (gain_if x (gain k least w)))
high-part kind.Count least w None b h = all-high b true
high-part kind.Sum least w None b h = pos-high w (int_lt (pos 0) w) b refl
high-part kind.Min least w None b h = none-low-min b (reaches least (number w))
high-part kind.Max least w None b h = all-high b (reaches least (number w))

module _ (a : ℕ → Option Bool) (v : ℕ → Bool) (ex : Extends a v) (k : AggKind) (least : ExtInt) where
  low-total : (ps : List Part) → InOrder k (total (least_choice a k) k least ps)
      (total (λ (p : Part). literal_value v p.lit) k least ps)
  low-total [] = order-zero k
  low-total (p ∷ ps) =
      order-add k (gain_if (least_choice a k p) (gain k least p.weight))
      (gain_if (literal_value v p.lit) (gain k least p.weight)) (total (least_choice a k) k least ps)
      (total (λ (q : Part). literal_value v q.lit) k least ps)
      (low-part k least p.weight (known_of a p.lit) (literal_value v p.lit) (λ x e. known-holds a v ex p.lit x e))
      (low-total ps)

  high-total : (ps : List Part) → InOrder k (total (λ (p : Part). literal_value v p.lit) k least ps)
      (total (greatest_choice a k) k least ps)
  high-total [] = order-zero k
  high-total (p ∷ ps) =
      order-add k (gain_if (literal_value v p.lit) (gain k least p.weight))
      (gain_if (greatest_choice a k p) (gain k least p.weight))
      (total (λ (q : Part). literal_value v q.lit) k least ps) (total (greatest_choice a k) k least ps)
      (high-part k least p.weight (known_of a p.lit) (literal_value v p.lit) (λ x e. known-holds a v ex p.lit x e))
      (high-total ps)

  -- where the least possible value reaches the bound, so does each value; where one does, so does the greatest possible
  pub low-reaches : (ps : List Part) → reaches least (least_possible a k ps) ≡ true
      → reaches least (parts_value v k ps) ≡ true
  low-reaches ps e = reaches-by-totals (λ (p : Part). literal_value v p.lit) k least ps
      ∙ side-more k (goal_of k least) (total (least_choice a k) k least ps)
      (total (λ (p : Part). literal_value v p.lit) k least ps) (low-total ps)
      (sym (reaches-by-totals (least_choice a k) k least ps) ∙ e)

  pub high-reaches : (ps : List Part) → reaches least (parts_value v k ps) ≡ true
      → reaches least (greatest_possible a k ps) ≡ true
  high-reaches ps e = reaches-by-totals (greatest_choice a k) k least ps
      ∙ side-more k (goal_of k least) (total (λ (p : Part). literal_value v p.lit) k least ps)
      (total (greatest_choice a k) k least ps) (high-total ps)
      (sym (reaches-by-totals (λ (p : Part). literal_value v p.lit) k least ps) ∙ e)

-- a constraint that holds is contradicted by no assignment that its valuation extends
never : (o : Option Bool) (low high x r : Bool) → ((b : Bool) → o ≡ Some b → x ≡ b) → x ≡ r → (low ≡ true → r ≡ true)
    → (r ≡ true → high ≡ true) → refuted_by o low high ≡ true → ⊥
never None low high x r h s l g e = cc
never (Some true) low high x r h s l g e = let one = h true refl in let two =
    g (sym s ∙ one) in let three : not high ≡ false = ap not two in cc
never (Some false) low high x r h s l g e = let one = h false refl in let two = l e in cc

pub never-contradicts : (a : ℕ → Option Bool) (v : ℕ → Bool) (c : AggCon) → Extends a v → SumHolds v c
    → contradicts a c ≡ true → ⊥
never-contradicts a v c ex s e =
    never (known_of a c.out) (reaches c.least (least_possible a c.kind c.parts))
    (reaches c.least (greatest_possible a c.kind c.parts)) (literal_value v c.out)
    (reaches c.least (parts_value v c.kind c.parts))
    (λ b k. known-holds a v ex c.out b k) s (low-reaches a v ex c.kind c.least c.parts)
    (high-reaches a v ex c.kind c.least c.parts) e

-- a valuation extends the assignment that refutes a clause, or makes the clause true
flipped : (s x : Bool) → by_sign s x ≡ false → x ≡ not s
flipped true x e = e
flipped false true e = refl
flipped false false e = sym e

or-false : (x y : Bool) → (x || y) ≡ false → (x ≡ false) × (y ≡ false)
or-false false y e = (refl, e)
or-false true y e = absurd (wrong e)
  where
    wrong : true ≡ false → ⊥
    wrong e = cc

same-var : (i n : ℕ) → nat_eq i n ≡ true → i ≡ n
same-var i n e = grind (arith, nat_tests)

some-same : (x y : Bool) → Some x ≡ Some y → x ≡ y
some-same x y e = cc

none-some : (y : Bool) → None ≡ Some y → ⊥
none-some y e = cc

refuted-value : (v : ℕ → Bool) (l : Lit) (n : ℕ) (rest : Option Bool) (t b : Bool) → nat_eq l.var.0 n ≡ t
    → literal_value v l ≡ false → (rest ≡ Some b → v n ≡ b) → (if t then Some (not l.positive) else rest) ≡ Some b
    → v n ≡ b
refuted-value v l n rest true b at f h e = ap v (sym (same-var l.var.0 n at)) ∙ flipped l.positive (v l.var.0) f
    ∙ some-same (not l.positive) b e
refuted-value v l n rest false b at f h e = h e

pub extends-refuting : (cl : List Lit) (v : ℕ → Bool) → list_any (literal_value v) cl ≡ false → Extends (refuting cl) v
extends-refuting [] v none n b e = absurd (none-some b e)
extends-refuting (l ∷ ls) v none n b e =
    let h = or-false (literal_value v l) (list_any (literal_value v) ls) none in
    refuted-value v l n (refuting ls n) (nat_eq l.var.0 n) b refl h.0 (λ r. extends-refuting ls v h.1 n b r) e

pub contradiction-is-sound : ContradictionIsSound
contradiction-is-sound c cl v e s = elim (cases_Bool (list_any (literal_value v) cl)) [
  | inl yes-true ↦ Any-from_list_any (literal_value v) cl yes-true
  | inr none ↦ absurd (never-contradicts (refuting cl) v c (extends-refuting cl v none) s e)
]

pub bound-contradiction-is-sound : BoundContradictionIsSound
bound-contradiction-is-sound c cl v e out half = elim (cases_Bool (list_any (literal_value v) cl)) [
  | inl yes-true ↦ Any-from_list_any (literal_value v) cl yes-true
  | inr none ↦
      let a = refuting cl in
      let ex = extends-refuting cl v none in
      let low : reaches c.least (least_possible a c.kind c.parts) ≡ true =
      sym (ap (λ o. refuted_by o (reaches c.least (least_possible a c.kind c.parts))
      (reaches c.least (greatest_possible a c.kind c.parts))) out) ∙ e in
      let high : reaches c.least (parts_value v c.kind c.parts) ≡ true =
      low-reaches a v ex c.kind c.least c.parts low in
      let off : reaches c.least (parts_value v c.kind c.parts) ≡ false = half (known-holds a v ex c.out false out) in
      absurd (some-never (sym high ∙ off))
]
  where
    some-never : true ≡ false → ⊥
    some-never x = cc
