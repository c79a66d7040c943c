-- Terms whose base and parts are small have values in range.
use Rattle.std.proofs.Common.{◌≡◌, ℕ, ◌+◌, ◌^◌, ◌≤◌, ℤ, pos, negsuc, neg_ℤ, ◌+ℤ◌, ◌≤ℤ◌, nat_abs, Bool, true, false}
use Rattle.std.proofs.Common.{cond, List, [], ◌∷◌, map, filter, fold, length, get_or, All, refl, subst, arith}
use Rattle.std.proofs.lemmas.Int.{ints}
use Rattle.kb_logic.specs.declared.syntax.AggKind.{AggKind}
use Rattle.kb_logic.specs.declared.syntax.AggKind.TheVariants as kind
use Rattle.kb_logic.specs.Denotations.{Denotation, number, minus_infinity, plus_infinity, undefined, named, added}
use Rattle.kb_logic.specs.Denotations.{lesser, greater, lower_value}
use Rattle.lit_core.specs.Literals.{literal_value}
use Rattle.ground_core.specs.declared.parts.Part.{Part}
use Rattle.ground_core.specs.Problems.{ProblemState}
use Rattle.ground_core.specs.Meaning.{IsInRange, weights_of, parts_value, shifted, HasTermsInRange}
use Rattle.ground_core.specs.Ranges.{part_size, parts_size, IsSmall}

-- from -m to m
abbrev Between : ℕ → ℤ → Type 0
Between m z = (neg_ℤ (pos m) ≤ℤ z) × (z ≤ℤ pos m)

-- a number from -m to m
abbrev IsNumberIn : ℕ → Denotation → Type 0
IsNumberIn m (named n) = ⊥
IsNumberIn m (number z) = Between m z
IsNumberIn m minus_infinity = ⊥
IsNumberIn m plus_infinity = ⊥
IsNumberIn m undefined = ⊥

-- or infinite
abbrev IsIn : ℕ → Denotation → Type 0
IsIn m (named n) = ⊥
IsIn m (number z) = Between m z
IsIn m minus_infinity = Unit {0}
IsIn m plus_infinity = Unit {0}
IsIn m undefined = ⊥

itself : (w : ℤ) → Between (nat_abs w) w
itself (pos n) = (omega (arith, ints), omega (arith, ints))
itself (negsuc n) = (omega (arith, ints), omega (arith, ints))

wider : (m n : ℕ) (z : ℤ) → m ≤ n → Between m z → Between n z
wider m n z le h = (omega (arith, ints, le, h.0), omega (arith, ints, le, h.1))

sum-between : (m n : ℕ) (z w : ℤ) → Between m z → Between n w → Between (m + n) (z +ℤ w)
sum-between m n z w h k = (omega (arith, ints, h.0, k.0), omega (arith, ints, h.1, k.1))

number-wider : (m n : ℕ) (d : Denotation) → m ≤ n → IsNumberIn m d → IsNumberIn n d
number-wider m n (named x) le h = h
number-wider m n (number z) le h = wider m n z le h
number-wider m n minus_infinity le h = h
number-wider m n plus_infinity le h = h
number-wider m n undefined le h = h

in-wider : (m n : ℕ) (d : Denotation) → m ≤ n → IsIn m d → IsIn n d
in-wider m n (named x) le h = h
in-wider m n (number z) le h = wider m n z le h
in-wider m n minus_infinity le h = h
in-wider m n plus_infinity le h = h
in-wider m n undefined le h = h

number-in : (m : ℕ) (d : Denotation) → IsNumberIn m d → IsIn m d
number-in m (named x) h = h
number-in m (number z) h = h
number-in m minus_infinity h = tt
number-in m plus_infinity h = tt
number-in m undefined h = h

added-in : (m : ℕ) (d : Denotation) (w : ℤ) → IsNumberIn m d → IsNumberIn (m + nat_abs w) (added d (number w))
added-in m (named x) w h = absurd h
added-in m (number z) w h = sum-between m (nat_abs w) z w h (itself w)
added-in m minus_infinity w h = absurd h
added-in m plus_infinity w h = absurd h
added-in m undefined w h = absurd h

one-of-in : (b : Bool) (m : ℕ) (d : Denotation) (w : ℤ) → IsIn m d → IsIn (m + nat_abs w) (cond b (number w) d)
one-of-in true m d w h = wider (nat_abs w) (m + nat_abs w) w (omega arith) (itself w)
one-of-in false m d w h = in-wider m (m + nat_abs w) d (omega arith) h

-- what each weight keeps, all true ones keep
fold-in : (Q : ℕ → Denotation → Type 0) (op : Denotation → Denotation → Denotation) (k : AggKind)
    → ((p : Part) → part_size k p ≡ nat_abs p.weight)
    → ((m n : ℕ) (d : Denotation) → m ≤ n → Q m d → Q n d) → ((m : ℕ) (d : Denotation) (w : ℤ) → Q m d
    → Q (m + nat_abs w) (op d (number w)))
    → (v : ℕ → Bool) (ps : List Part) (d : Denotation) (m : ℕ) → Q m d
    → Q (m + parts_size k ps) (fold op d (weights_of v ps))
fold-in Q op k size wide step v [] d m h = wide m (m + 0) d (omega arith) h
fold-in Q op k size wide step v (p ∷ ps) d m h =
    by_value (literal_value v p.lit) (λ e n g. fold-in Q op k size wide step v ps e n g)
  where
    by_value : (b : Bool) → ((e : Denotation) (n : ℕ) → Q n e → Q (n + parts_size k ps) (fold op e (weights_of v ps)))
        → Q (m + (part_size k p + parts_size k ps)) (fold op d (map (λ (q : Part). number q.weight)
        (cond b (p ∷ filter (λ (q : Part). literal_value v q.lit) ps)
        (filter (λ (q : Part). literal_value v q.lit) ps))))
    by_value true rest =
        wide ((m + nat_abs p.weight) + parts_size k ps) (m + (part_size k p + parts_size k ps))
        (fold op (op d (number p.weight)) (weights_of v ps)) (omega (arith, size p))
        (rest (op d (number p.weight)) (m + nat_abs p.weight) (step m d p.weight h))
    by_value false rest = wide (m + parts_size k ps) (m + (part_size k p + parts_size k ps))
        (fold op d (weights_of v ps)) (omega arith) (rest d m h)

count-in : (v : ℕ → Bool) (ps : List Part) → length (weights_of v ps) ≤ parts_size kind.Count ps
count-in v [] = omega arith
count-in v (p ∷ ps) = by_value (literal_value v p.lit) (count-in v ps)
  where
    by_value : (b : Bool) → length (weights_of v ps) ≤ parts_size kind.Count ps
        → length (map (λ (q : Part). number q.weight) (cond b (p ∷ filter (λ (q : Part). literal_value v q.lit) ps)
        (filter (λ (q : Part). literal_value v q.lit) ps))) ≤ 1 + parts_size kind.Count ps
    by_value true h = omega (arith, h)
    by_value false h = omega (arith, h)

count-between : (n m : ℕ) → n ≤ m → Between m (pos n)
count-between n m h = (omega (arith, ints, h), omega (arith, ints, h))

nothing-between : Between 0 (pos 0)
nothing-between = (omega (arith, ints), omega (arith, ints))

parts-in : (v : ℕ → Bool) (k : AggKind) (ps : List Part) → IsIn (parts_size k ps) (parts_value v k ps)
parts-in v kind.Count ps = count-between (length (weights_of v ps)) (parts_size kind.Count ps) (count-in v ps)
parts-in v kind.Sum ps =
    let n : 0 + parts_size kind.Sum ps ≡ parts_size kind.Sum ps = omega arith in
    number-in (parts_size kind.Sum ps) (parts_value v kind.Sum ps)
    (subst (λ m. IsNumberIn m (parts_value v kind.Sum ps)) n (fold-in IsNumberIn added kind.Sum (λ p. refl) number-wider
    added-in v ps (number (pos 0)) 0 nothing-between))
parts-in v kind.Min ps =
    let n : 0 + parts_size kind.Min ps ≡ parts_size kind.Min ps = omega arith in
    subst (λ m. IsIn m (parts_value v kind.Min ps)) n
    (fold-in IsIn lesser kind.Min (λ p. refl) in-wider (λ m d w h. one-of-in (lower_value (number w) d) m d w h) v ps
    plus_infinity 0 tt)
parts-in v kind.Max ps =
    let n : 0 + parts_size kind.Max ps ≡ parts_size kind.Max ps = omega arith in
    subst (λ m. IsIn m (parts_value v kind.Max ps)) n
    (fold-in IsIn greater kind.Max (λ p. refl) in-wider (λ m d w h. one-of-in (lower_value d (number w)) m d w h) v ps
    minus_infinity 0 tt)

in-range : (m : ℕ) (base : ℤ) (d : Denotation) → nat_abs base + m ≤ 10 ^ 15 → IsIn m d → IsInRange (shifted base d)
in-range m base (named x) le h = absurd h
in-range m base (number z) le h = wider (nat_abs base + m) (10 ^ 15) (base +ℤ z) le
    (sum-between (nat_abs base) m base z (itself base) h)
in-range m base minus_infinity le h = tt
in-range m base plus_infinity le h = tt
in-range m base undefined le h = absurd h

pub small-in-range : (p : ProblemState) → All IsSmall p.terms → HasTermsInRange p
small-in-range p all = λ v s k d lt.
    let t = get_or p.terms k d in
    in-range (parts_size t.kind t.parts) t.base (parts_value v t.kind t.parts) (all k d lt) (parts-in v t.kind t.parts)
