-- What weighted literals come to as a sum, and that putting one more among them adds its weight.
use Rattle.std.proofs.Common.{◌≡◌, ℕ, nat_lt, nat_eq, ℤ, pos, ◌+ℤ◌, ◌-ℤ◌, Bool, true, false, not, if◌then◌else◌, List}
use Rattle.std.proofs.Common.{[]}
use Rattle.std.proofs.Common.{◌∷◌, ◌++◌, map, filter, fold, All, refl, sym, ap, ◌∙◌, arith}
use Rattle.std.specs.Bool.{beq}
use Rattle.std.proofs.lemmas.Bool.Decides.{nat_tests}
use Rattle.std.proofs.lemmas.Int.{ints}
use Rattle.std.proofs.lemmas.List.Elements.{All-cons, All-push, All-tail}
use Rattle.kb_logic.specs.declared.syntax.AggKind.TheVariants as kind
use Rattle.kb_logic.specs.Denotations.{Denotation, number, added}
use Rattle.lit_core.specs.Literals.{literal_value, by_sign}
use Rattle.ground_core.specs.declared.parts.Part.{Part}
use Rattle.ground_core.specs.Problems.{IsLitOf, ArePartsOf}
use Rattle.ground_core.specs.Meaning.{parts_value, weights_of, shifted}
use Rattle.def_ground.specs.Linear.{Shifted, part_of, merged, behind_part, inserted, comes_last, put_part}

-- a number where the test is true, and 0 where it is not
abbrev pub counted : Bool → ℤ → ℤ
counted t w = if t then w else pos 0

-- the weights of the parts that are true
abbrev pub part_sum : (ℕ → Bool) → List Part → ℤ
part_sum v [] = pos 0
part_sum v (p ∷ ps) = counted (literal_value v p.lit) p.weight +ℤ part_sum v ps

-- ---- their sum is the value of the parts

abbrev weights : List Part → List Denotation
weights ps = map (λ (q : Part). number q.weight) ps

sum-step : (t : Bool) (p : Part) (ps : List Part) (z g : ℤ)
    → ((y : ℤ) → fold added (number y) (weights ps) ≡ number (y +ℤ g))
    → fold added (number z) (weights (if t then p ∷ ps else ps)) ≡ number (z +ℤ (counted t p.weight +ℤ g))
sum-step true p ps z g ih = ih (z +ℤ p.weight) ∙ ap number (omega (arith, ints))
sum-step false p ps z g ih = ih z ∙ ap number (omega (arith, ints))

sum-from : (v : ℕ → Bool) (ps : List Part) (z : ℤ)
    → fold added (number z) (weights_of v ps) ≡ number (z +ℤ part_sum v ps)
sum-from v [] z = ap number (omega (arith, ints))
sum-from v (p ∷ ps) z = sum-step (literal_value v p.lit) p (filter (λ (q : Part). literal_value v q.lit) ps) z
    (part_sum v ps) (λ y. sum-from v ps y)

pub parts-sum : (v : ℕ → Bool) (ps : List Part) → parts_value v kind.Sum ps ≡ number (part_sum v ps)
parts-sum v ps =
    sum-from v ps (pos 0) ∙ ap number (let e : pos 0 +ℤ part_sum v ps ≡ part_sum v ps = omega (arith, ints) in e)

-- ---- one part more

sums-append : (v : ℕ → Bool) (ps qs : List Part) → part_sum v (ps ++ qs) ≡ part_sum v ps +ℤ part_sum v qs
sums-append v [] qs = omega (arith, ints)
sums-append v (p ∷ ps) qs = let e = sums-append v ps qs in omega (arith, ints, e)

-- what the number and the parts come to
abbrev worth : (ℕ → Bool) → Shifted → ℤ
worth v s = s.base +ℤ part_sum v s.parts

-- two literals of one variable
same-variable : (s t x y : Bool) → x ≡ y → (b : Bool) → beq s t ≡ b
    → by_sign s x ≡ (if b then by_sign t y else not (by_sign t y))
same-variable true true x y e true f = e
same-variable true true x y e false f = cc
same-variable true false x y e true f = cc
same-variable true false x true e false f = e
same-variable true false x false e false f = e
same-variable false true x y e true f = cc
same-variable false true x y e false f = ap not e
same-variable false false x y e true f = ap not e
same-variable false false x y e false f = cc

both-counted : (x : Bool) (a b : ℤ) → (pos 0 +ℤ (counted x (b +ℤ a) +ℤ pos 0)) ≡ counted x a +ℤ counted x b
both-counted true a b = omega (arith, ints)
both-counted false a b = omega (arith, ints)

one-counted : (x : Bool) (a b : ℤ) → (a +ℤ (counted x (b -ℤ a) +ℤ pos 0)) ≡ counted (not x) a +ℤ counted x b
one-counted true a b = omega (arith, ints)
one-counted false a b = omega (arith, ints)

merged-worth : (v : ℕ → Bool) (q p : Part) → q.lit.var.0 ≡ p.lit.var.0
    → worth v (merged q p) ≡ counted (literal_value v q.lit) q.weight +ℤ counted (literal_value v p.lit) p.weight
merged-worth v q p same = by (beq q.lit.positive p.lit.positive) refl
  where
    by : (b : Bool) → beq q.lit.positive p.lit.positive ≡ b
        → worth v (if b then record { base = pos 0; parts = part_of (p.weight +ℤ q.weight) p.lit ∷ [] }
        else record { base = q.weight; parts = part_of (p.weight -ℤ q.weight) p.lit ∷ [] })
        ≡ counted (literal_value v q.lit) q.weight +ℤ counted (literal_value v p.lit) p.weight
    by true e =
        both-counted (literal_value v p.lit) q.weight p.weight
        ∙ ap (λ x. counted x q.weight +ℤ counted (literal_value v p.lit) p.weight)
        (sym (same-variable q.lit.positive p.lit.positive (v q.lit.var.0) (v p.lit.var.0) (ap v same) true e))
    by false e =
        one-counted (literal_value v p.lit) q.weight p.weight
        ∙ ap (λ x. counted x q.weight +ℤ counted (literal_value v p.lit) p.weight)
        (sym (same-variable q.lit.positive p.lit.positive (v q.lit.var.0) (v p.lit.var.0) (ap v same) false e))

same-number : (m n : ℕ) → nat_eq m n ≡ true → m ≡ n
same-number m n e = grind (arith, nat_tests)

behind-worth : (v : ℕ → Bool) (p : Part) (s : Shifted) (a b : ℤ) → worth v s ≡ a +ℤ b
    → worth v (behind_part p s) ≡ a +ℤ (counted (literal_value v p.lit) p.weight +ℤ b)
behind-worth v p s a b e = omega (arith, ints, e)

inserted-worth : (v : ℕ → Bool) (q : Part) (ps : List Part)
    → worth v (inserted q ps) ≡ counted (literal_value v q.lit) q.weight +ℤ part_sum v ps
inserted-worth v q [] = omega (arith, ints)
inserted-worth v q (p ∷ ps) =
    by (inserted-worth v q ps) (nat_lt q.lit.var.0 p.lit.var.0) (nat_eq q.lit.var.0 p.lit.var.0) refl
  where
    by : worth v (inserted q ps) ≡ counted (literal_value v q.lit) q.weight +ℤ part_sum v ps
        → (s t : Bool) → nat_eq q.lit.var.0 p.lit.var.0 ≡ t
        → worth v (if s then record { base = pos 0; parts = q ∷ p ∷ ps } else if t then
        (let m = merged q p in record { base = m.base; parts = m.parts ++ ps }) else behind_part p (inserted q ps))
        ≡ counted (literal_value v q.lit) q.weight +ℤ part_sum v (p ∷ ps)
    by rest true t e = omega (arith, ints)
    by rest false true e =
        let m = merged q p in
        let f = sums-append v m.parts ps in
        let g = merged-worth v q p (same-number q.lit.var.0 p.lit.var.0 e) in
        omega (arith, ints, f, g)
    by rest false false e =
        behind-worth v p (inserted q ps) (counted (literal_value v q.lit) q.weight) (part_sum v ps) rest

-- the part that is put adds its weight
pub put-worth : (v : ℕ → Bool) (q : Part) (ps : List Part)
    → (let s = put_part q ps in s.base +ℤ part_sum v s.parts)
    ≡ counted (literal_value v q.lit) q.weight +ℤ part_sum v ps
put-worth v q ps = by (comes_last q.lit.var.0 ps)
  where
    by : (t : Bool) → worth v (if t then record { base = pos 0; parts = ps ++ q ∷ [] } else inserted q ps)
        ≡ counted (literal_value v q.lit) q.weight +ℤ part_sum v ps
    by true = let e = sums-append v ps (q ∷ []) in omega (arith, ints, e)
    by false = inserted-worth v q ps

added-where : (t : Bool) (a w : ℤ) → number (counted t w +ℤ a) ≡ (if t then added (number a) (number w) else number a)
added-where true a w = ap number (omega (arith, ints))
added-where false a w = ap number (omega (arith, ints))

-- so the value of a number and parts is the one before, and the weight where the literal is true
pub put-value : (v : ℕ → Bool) (base : ℤ) (q : Part) (ps : List Part)
    → (let s = put_part q ps in shifted (base +ℤ s.base) (parts_value v kind.Sum s.parts))
    ≡ (let x = shifted base (parts_value v kind.Sum ps) in
    if literal_value v q.lit then added x (number q.weight) else x)
put-value v base q ps =
    let s = put_part q ps in
    let t = literal_value v q.lit in
    let e = put-worth v q ps in
    let f : (base +ℤ s.base) +ℤ part_sum v s.parts ≡ counted t q.weight +ℤ (base +ℤ part_sum v ps) =
    omega (arith, ints, e) in
    ap (shifted (base +ℤ s.base)) (parts-sum v s.parts)
    ∙ ap number f
    ∙ added-where t (base +ℤ part_sum v ps) q.weight
    ∙ ap (λ x. if t then added (shifted base x) (number q.weight) else shifted base x) (sym (parts-sum v ps))

-- ---- the parts stay over the first n variables

inserted-within : (n : ℕ) (q : Part) (ps : List Part) → IsLitOf n q.lit → ArePartsOf n ps
    → ArePartsOf n (inserted q ps).parts
inserted-within n q [] h hs = All-cons (λ (p : Part). IsLitOf n p.lit) q [] h hs
inserted-within n q (p ∷ ps) h hs =
    by (inserted-within n q ps h (All-tail (λ (x : Part). IsLitOf n x.lit) p ps hs)) (nat_lt q.lit.var.0 p.lit.var.0)
    (nat_eq q.lit.var.0 p.lit.var.0)
  where
    P : Part → Type 0
    P x = IsLitOf n x.lit

    own : IsLitOf n p.lit
    own = hs 0 p (omega arith)

    one : (w : ℤ) → All P (part_of w p.lit ∷ ps)
    one w = All-cons P (part_of w p.lit) ps own (All-tail P p ps hs)

    merge : (b : Bool) → (let m : Shifted = if b then
        record { base = pos 0; parts = part_of (p.weight +ℤ q.weight) p.lit ∷ [] }
        else record { base = q.weight; parts = part_of (p.weight -ℤ q.weight) p.lit ∷ [] } in All P (m.parts ++ ps))
    merge true = one (p.weight +ℤ q.weight)
    merge false = one (p.weight -ℤ q.weight)

    by : All P (inserted q ps).parts → (s t : Bool)
        → (let r : Shifted = if s then record { base = pos 0; parts = q ∷ p ∷ ps } else if t then
        (let m = merged q p in record { base = m.base; parts = m.parts ++ ps }) else behind_part p (inserted q ps) in
        All P r.parts)
    by rest true t = All-cons P q (p ∷ ps) h hs
    by rest false true = merge (beq q.lit.positive p.lit.positive)
    by rest false false = All-cons P p (inserted q ps).parts own rest

pub put-within : (n : ℕ) (q : Part) (ps : List Part) → IsLitOf n q.lit → ArePartsOf n ps
    → ArePartsOf n (put_part q ps).parts
put-within n q ps h hs = by (comes_last q.lit.var.0 ps)
  where
    by : (t : Bool)
        → (let r : Shifted = if t then record { base = pos 0; parts = ps ++ q ∷ [] } else inserted q ps in
        ArePartsOf n r.parts)
    by true = All-push (λ (p : Part). IsLitOf n p.lit) ps q hs h
    by false = inserted-within n q ps h hs
