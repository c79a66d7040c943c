-- Exactly one of some literals: by clauses on pairs, and by one sum.
use Rattle.std.proofs.Common.{◌≡◌, ℕ, zero, suc, ℤ, pos, neg_ℤ, ◌+ℤ◌, Bool, true, false, not, ◌&&◌, ◌||◌, List, []}
use Rattle.std.proofs.Common.{◌∷◌, map, filter, fold, cond, if◌then◌else◌, All, refl, sym, ap, ◌∙◌, arith}
use Rattle.std.specs.List.{list_all, list_any}
use Rattle.std.proofs.lemmas.List.Elements.{All-nil, All-cons}
use Rattle.std.proofs.lemmas.List.Folds.{list_all-append}
use Rattle.std.proofs.lemmas.Bool.Decides.{nat_tests}
use Rattle.std.proofs.lemmas.Int.{ints}
use Rattle.std.proofs.lemmas.Bool.{and_parts, and_from}
use Rattle.kb_logic.specs.Denotations.{Denotation, number, added, compared}
use Rattle.kb_logic.specs.declared.syntax.Cmp.TheVariants as cmp
use Rattle.kb_logic.specs.declared.syntax.AggKind.TheVariants as kind
use Rattle.lit_core.specs.declared.literals.Lit.{Lit}
use Rattle.lit_core.specs.Literals.{literal_value, negated}
use Rattle.lit_core.specs.Truth.{IsSatisfied}
use Rattle.lit_core.proofs.Soundness.{value-negated}
use Rattle.ground_core.specs.declared.parts.Part.{Part}
use Rattle.ground_core.specs.Meaning.{SumHolds, parts_value, weights_of}
use Rattle.ground_core.proofs.Clauses.{clause_value, clauses-true, clauses-hold}
use Rattle.def_ground.specs.Problems.{pairs_with, pair_clauses, first_pairs, counting, at_most_one_beside, first_sum}

-- exactly one of the literals
abbrev pub one-true : (ℕ → Bool) → List Lit → Bool
one-true v [] = false
one-true v (c ∷ cs) = if literal_value v c then not (list_any (literal_value v) cs) else one-true v cs

pairs-step : (l m a : Bool) → ((not l || (not m || false)) && (not l || not a)) ≡ (not l || not (m || a))
pairs-step true true a = refl
pairs-step true false a = refl
pairs-step false m a = refl

or-true : (c : Bool) → true ≡ (c || true)
or-true true = refl
or-true false = refl

with-each : (v : ℕ → Bool) (c : Lit) (ds : List Lit)
    → list_all (clause_value v) (map (λ d. negated c ∷ negated d ∷ []) ds) ≡
    (not (literal_value v c) || not (list_any (literal_value v) ds))
with-each v c [] = or-true (not (literal_value v c))
with-each v c (d ∷ ds) =
    let x = value-negated v c in
    let y = value-negated v d in
    let rest = with-each v c ds in
    let turn = pairs-step (literal_value v c) (literal_value v d) (list_any (literal_value v) ds) in cc

one-step : (c a p o : Bool) → (a && p) ≡ o → (a ≡ false → p ≡ true)
    → ((c || a) && ((not c || not a) && p)) ≡ (if c then not a else o)
one-step true true p o e f = refl
one-step true false p o e f = f refl
one-step false true p o e f = e
one-step false false p o e f = e

none-pairs : (v : ℕ → Bool) (cs : List Lit) → list_any (literal_value v) cs ≡ false
    → list_all (clause_value v) (pair_clauses cs) ≡ true
none-pairs v [] h = refl
none-pairs v (c ∷ cs) h =
    let both = neither (literal_value v c) (list_any (literal_value v) cs) h in
    list_all-append (clause_value v) (map (λ d. negated c ∷ negated d ∷ []) cs) (pair_clauses cs)
    ∙ ap (λ x. x && list_all (clause_value v) (pair_clauses cs))
    (with-each v c cs ∙ ap (λ x. not x || not (list_any (literal_value v) cs)) both.0)
    ∙ none-pairs v cs both.1
  where
    neither : (a b : Bool) → (a || b) ≡ false → (a ≡ false) × (b ≡ false)
    neither true b h = cc
    neither false b h = (refl, h)

pairs-say-one : (v : ℕ → Bool) (cs : List Lit) → list_all (clause_value v) (cs ∷ pair_clauses cs) ≡ one-true v cs
pairs-say-one v [] = refl
pairs-say-one v (c ∷ cs) =
    ap (λ x. (literal_value v c || list_any (literal_value v) cs) && x)
    (list_all-append (clause_value v) (map (λ d. negated c ∷ negated d ∷ []) cs) (pair_clauses cs)
    ∙ ap (λ x. x && list_all (clause_value v) (pair_clauses cs)) (with-each v c cs))
    ∙ one-step (literal_value v c) (list_any (literal_value v) cs) (list_all (clause_value v) (pair_clauses cs))
    (one-true v cs) (pairs-say-one v cs) (none-pairs v cs)

-- how many of them are true
abbrev ones : (ℕ → Bool) → List Lit → ℕ
ones v [] = 0
ones v (c ∷ cs) = if literal_value v c then suc (ones v cs) else ones v cs

-- at least one, just one, at most one
abbrev positive : ℕ → Bool
positive zero = false
positive (suc n) = true

abbrev single : ℕ → Bool
single zero = false
single (suc zero) = true
single (suc (suc n)) = false

abbrev few : ℕ → Bool
few zero = true
few (suc zero) = true
few (suc (suc n)) = false

some-more : (t a : Bool) (n : ℕ) → a ≡ positive n → (t || a) ≡ positive (if t then suc n else n)
some-more true a n e = refl
some-more false a n e = e

some-true : (v : ℕ → Bool) (cs : List Lit) → list_any (literal_value v) cs ≡ positive (ones v cs)
some-true v [] = refl
some-true v (c ∷ cs) = some-more (literal_value v c) (list_any (literal_value v) cs) (ones v cs) (some-true v cs)

none-more : (a : Bool) (n : ℕ) → a ≡ positive n → not a ≡ single (suc n)
none-more a zero e = ap not e
none-more a (suc n) e = ap not e

single-more : (t a o : Bool) (n : ℕ) → a ≡ positive n → o ≡ single n
    → (if t then not a else o) ≡ single (if t then suc n else n)
single-more true a o n e f = none-more a n e
single-more false a o n e f = f

single-true : (v : ℕ → Bool) (cs : List Lit) → one-true v cs ≡ single (ones v cs)
single-true v [] = refl
single-true v (c ∷ cs) =
    single-more (literal_value v c) (list_any (literal_value v) cs) (one-true v cs) (ones v cs) (some-true v cs)
    (single-true v cs)

few-some : (n : ℕ) → positive n ≡ true → few n ≡ true → single n ≡ true
few-some zero h k = cc
few-some (suc zero) h k = refl
few-some (suc (suc n)) h k = cc

single-few : (n : ℕ) → single n ≡ true → (positive n ≡ true) × (few n ≡ true)
single-few zero h = cc
single-few (suc zero) h = (refl, refl)
single-few (suc (suc n)) h = cc

-- what they come to
abbrev weight-of : Part → Denotation
weight-of p = number p.weight

count-step : (t : Bool) (z : ℤ) (n : ℕ) (p : Part) (rest : List Part) → p.weight ≡ neg_ℤ (pos 1)
    → ((y : ℤ) → fold added (number y) (map weight-of rest) ≡ number (y +ℤ neg_ℤ (pos n)))
    → fold added (number z) (map weight-of (cond t (p ∷ rest) rest))
    ≡ number (z +ℤ neg_ℤ (pos (if t then suc n else n)))
count-step true z n p rest w h =
    let total : (z +ℤ p.weight) +ℤ neg_ℤ (pos n) ≡ z +ℤ neg_ℤ (pos (suc n)) = omega (arith, ints, w) in
    h (z +ℤ p.weight) ∙ ap number total
count-step false z n p rest w h = h z

count-from : (v : ℕ → Bool) (cs : List Lit) (z : ℤ)
    → fold added (number z) (weights_of v (map (counting (neg_ℤ (pos 1))) cs))
    ≡ number (z +ℤ neg_ℤ (pos (ones v cs)))
count-from v [] z = let none : z ≡ z +ℤ neg_ℤ (pos 0) = omega (arith, ints) in ap number none
count-from v (c ∷ cs) z =
    count-step (literal_value v c) z (ones v cs) (counting (neg_ℤ (pos 1)) c)
    (filter (λ (p : Part). literal_value v p.lit) (map (counting (neg_ℤ (pos 1))) cs)) refl (count-from v cs)

beside-step : (t : Bool) (n : ℕ) (p : Part) (rest : List Part) → p.weight ≡ neg_ℤ (pos 2)
    → ((y : ℤ) → fold added (number y) (map weight-of rest) ≡ number (y +ℤ neg_ℤ (pos n)))
    → fold added (number (pos 0)) (map weight-of (cond t (p ∷ rest) rest))
    ≡ number (neg_ℤ (pos (if t then suc (suc n) else n)))
beside-step true n p rest w h =
    let total : (pos 0 +ℤ p.weight) +ℤ neg_ℤ (pos n) ≡ neg_ℤ (pos (suc (suc n))) = omega (arith, ints, w) in
    h (pos 0 +ℤ p.weight) ∙ ap number total
beside-step false n p rest w h =
    let total : pos 0 +ℤ neg_ℤ (pos n) ≡ neg_ℤ (pos n) = omega (arith, ints) in h (pos 0) ∙ ap number total

beside : (v : ℕ → Bool) (c : Lit) (cs : List Lit)
    → parts_value v kind.Sum (at_most_one_beside c cs).parts
    ≡ number (neg_ℤ (pos (if literal_value v c then suc (suc (ones v cs)) else ones v cs)))
beside v c cs =
    beside-step (literal_value v c) (ones v cs) (counting (neg_ℤ (pos 2)) c)
    (filter (λ (p : Part). literal_value v p.lit) (map (counting (neg_ℤ (pos 1))) cs)) refl (count-from v cs)

abbrev enough : ℕ → Bool
enough n = compared cmp.Ge (number (neg_ℤ (pos n))) (number (neg_ℤ (pos 1)))

too-many : (n : ℕ) → enough (suc (suc n)) ≡ false
too-many n = grind (arith, ints, nat_tests)

few-enough : (n : ℕ) → enough n ≡ few n
few-enough zero = refl
few-enough (suc zero) = refl
few-enough (suc (suc n)) = too-many n

-- the sum says that at most one other is true where the first is false
sum-said : (t : Bool) (n : ℕ) → not t ≡ enough (if t then suc (suc n) else n) → t ≡ false → few n ≡ true
sum-said true n h e = cc
sum-said false n h e = sym (few-enough n) ∙ sym h

said-sum : (t : Bool) (n : ℕ) → (t ≡ false → few n ≡ true) → not t ≡ enough (if t then suc (suc n) else n)
said-sum true n h = sym (too-many n)
said-sum false n h = sym (few-enough n ∙ h refl)

sum-gives : (v : ℕ → Bool) (c : Lit) (cs : List Lit) → SumHolds v (at_most_one_beside c cs)
    → literal_value v c ≡ false → few (ones v cs) ≡ true
sum-gives v c cs h =
    sum-said (literal_value v c) (ones v cs)
    (sym (value-negated v c) ∙ h ∙ ap (λ d. compared cmp.Ge d (number (neg_ℤ (pos 1)))) (beside v c cs))

gives-sum : (v : ℕ → Bool) (c : Lit) (cs : List Lit) → (literal_value v c ≡ false → few (ones v cs) ≡ true)
    → SumHolds v (at_most_one_beside c cs)
gives-sum v c cs h =
    value-negated v c ∙ said-sum (literal_value v c) (ones v cs) h
    ∙ sym (ap (λ d. compared cmp.Ge d (number (neg_ℤ (pos 1)))) (beside v c cs))

-- with the clauses of the first it says that exactly one is true
first-said : (t a o : Bool) (n : ℕ) → a ≡ positive n → o ≡ single n → (t || a) ≡ true → (not t || not a) ≡ true
    → (t ≡ false → few n ≡ true) → (if t then not a else o) ≡ true
first-said true a o n e f h k s = k
first-said false a o n e f h k s = f ∙ few-some n (sym e ∙ h) (s refl)

said-first : (t a o : Bool) (n : ℕ) → a ≡ positive n → o ≡ single n → (if t then not a else o) ≡ true
    → ((t || a) ≡ true) × ((not t || not a) ≡ true) × (t ≡ false → few n ≡ true)
said-first true a o n e f h = (refl, h, λ i. cc)
said-first false a o n e f h =
    let both = single-few n (sym f ∙ h) in (e ∙ both.0, refl, λ i. both.1)

pub says-one : (v : ℕ → Bool) (t : Bool) (cs : List Lit)
    → All (IsSatisfied v) (cs ∷ (if t then first_pairs cs else pair_clauses cs))
    → All (SumHolds v) (if t then first_sum cs else []) → one-true v cs ≡ true
says-one v false cs h s = sym (pairs-say-one v cs) ∙ clauses-true v (cs ∷ pair_clauses cs) h
says-one v true [] h s = let none = clauses-true v ([] ∷ []) h in cc
says-one v true (c ∷ cs) h s =
    let all = clauses-true v ((c ∷ cs) ∷ pairs_with c cs) h in
    let both = and_parts (literal_value v c || list_any (literal_value v) cs)
    (list_all (clause_value v) (pairs_with c cs)) all in
    first-said (literal_value v c) (list_any (literal_value v) cs) (one-true v cs) (ones v cs) (some-true v cs)
    (single-true v cs) both.0 (sym (with-each v c cs) ∙ both.1)
    (sum-gives v c cs (s 0 (at_most_one_beside c cs) (omega arith)))

pub one-says : (v : ℕ → Bool) (t : Bool) (cs : List Lit) → one-true v cs ≡ true
    → All (IsSatisfied v) (cs ∷ (if t then first_pairs cs else pair_clauses cs))
    × All (SumHolds v) (if t then first_sum cs else [])
one-says v false cs h = (
  clauses-hold v (cs ∷ pair_clauses cs) (pairs-say-one v cs ∙ h),
  All-nil (SumHolds v),
)
one-says v true [] h = cc
one-says v true (c ∷ cs) h =
    let said = said-first (literal_value v c) (list_any (literal_value v) cs) (one-true v cs) (ones v cs)
    (some-true v cs) (single-true v cs) h in (
      clauses-hold v ((c ∷ cs) ∷ pairs_with c cs)
          (and_from (literal_value v c || list_any (literal_value v) cs) (list_all (clause_value v) (pairs_with c cs))
          said.0 (with-each v c cs ∙ said.1)),
      All-cons (SumHolds v) (at_most_one_beside c cs) [] (gives-sum v c cs said.2) (All-nil (SumHolds v)),
    )
