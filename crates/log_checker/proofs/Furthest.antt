-- The furthest that parts may come to bounds every selection of them, and one selection comes to it.
use Rattle.std.proofs.Common.{◌≡◌, ℕ, zero, suc, ◌+◌, ◌<◌, ◌↔◌, IsTrue, map, ⊎_elim, ℤ, pos, ◌+ℤ◌, ◌≤ℤ◌, Bool, true}
use Rattle.std.proofs.Common.{false, not, cond, List, [], ◌∷◌, fold, length, refl, sym, ap, ◌∙◌, subst, inl, inr, arith}
use Rattle.std.proofs.Common.{Contains}
use Rattle.std.specs.Prelude.{int_lt, ◌||◌, slice_index_or}
use Rattle.std.specs.Ordering.{int_eq}
use Rattle.std.proofs.lemmas.Int.{ints}
use Rattle.kb_logic.specs.declared.elements.ExtInt.{ExtInt}
use Rattle.kb_logic.specs.declared.elements.ExtInt.TheVariants.{NegInf, Num, PosInf}
use Rattle.kb_logic.specs.declared.syntax.AggKind.{AggKind}
use Rattle.kb_logic.specs.declared.syntax.AggKind.TheVariants as kind
use Rattle.kb_logic.specs.declared.syntax.Cmp.TheVariants as cmp
use Rattle.kb_logic.specs.Denotations.{Denotation, number, minus_infinity, plus_infinity, aggregate_value, compared}
use Rattle.kb_logic.specs.Denotations.{added, lesser, greater}
use Rattle.lit_core.specs.declared.literals.Lit.{Lit}
use Rattle.lit_core.specs.Literals.{negated}
use Rattle.ground_core.specs.declared.parts.Part.{Part}
use Rattle.ground_core.specs.Meaning.{denotation_of_bound, shifted}
use Rattle.derivation_log.specs.Steps.{MayCount, counted_weights, EachPossible, HasNoOpposites, SumCannotHold}
use Rattle.derivation_log.specs.Steps.{BoundCannotHold}
use Rattle.ground_core.specs.declared.parts.AggCon.{AggCon}
use Rattle.ground_core.specs.declared.parts.GroundTerm.{GroundTerm}
use Rattle.ground_core.specs.declared.parts.TermBound.{TermBound}
use Rattle.log_checker.proofs.Turning.{mk}
use Rattle.log_checker.specs.declared.literal_sets.LiteralSet.{LiteralSet}
use Rattle.log_checker.specs.declared.amounts.Amount.{Amount}
use Rattle.log_checker.specs.declared.amounts.Amount.TheVariants.{Lowest, Finite, Highest}
use Rattle.log_checker.specs.Sets.{has, IsMarked}
use Rattle.log_checker.specs.Amounts.{plus, least_of, most_of, more, first, is_less, further, choose, amount_of}
use Rattle.log_checker.specs.Extremes.{far}

abbrev value_of : Amount → Denotation
value_of Lowest = minus_infinity
value_of (Finite z) = number z
value_of Highest = plus_infinity

-- what the chosen parts come to
abbrev sel : AggKind → Amount → List Part → List Bool → Amount
sel k d [] ds = d
sel k d (p ∷ ps) [] = d
sel k d (p ∷ ps) (true ∷ ds) = sel k (more k d p.weight) ps ds
sel k d (p ∷ ps) (false ∷ ds) = sel k d ps ds

abbrev step : AggKind → Denotation → Denotation → Denotation
step kind.Count d e = added d (number (pos 1))
step kind.Sum d e = added d e
step kind.Min d e = lesser d e
step kind.Max d e = greater d e

abbrev IsFinite : AggKind → Amount → Type 0
IsFinite kind.Count d = (z : ℤ) × (d ≡ Finite z)
IsFinite kind.Sum d = (z : ℤ) × (d ≡ Finite z)
IsFinite kind.Min d = Unit {0}
IsFinite kind.Max d = Unit {0}

add-swap : (a b : ℤ) → a +ℤ b ≡ b +ℤ a
add-swap a b = omega (arith, ints)

min-one : (d : Amount) (w : ℤ) → value_of (least_of d w) ≡ lesser (value_of d) (number w)
min-one Lowest w = refl
min-one (Finite z) w = pick (int_lt w z)
  where
    pick : (b : Bool) → value_of (cond b (Finite w) (Finite z)) ≡ cond b (number w) (number z)
    pick true = refl
    pick false = refl
min-one Highest w = refl

max-one : (d : Amount) (w : ℤ) → value_of (most_of d w) ≡ greater (value_of d) (number w)
max-one Lowest w = refl
max-one (Finite z) w = pick (int_lt z w)
  where
    pick : (b : Bool) → value_of (cond b (Finite w) (Finite z)) ≡ cond b (number w) (number z)
    pick true = refl
    pick false = refl
max-one Highest w = refl

min-sel : (d : Amount) (ps : List Part) (ds : List Bool)
    → fold lesser (value_of d) (counted_weights ps ds) ≡ value_of (sel kind.Min d ps ds)
min-sel d [] ds = refl
min-sel d (p ∷ ps) [] = refl
min-sel d (p ∷ ps) (true ∷ ds) = ap (λ x. fold lesser x (counted_weights ps ds)) (sym (min-one d p.weight))
    ∙ min-sel (least_of d p.weight) ps ds
min-sel d (p ∷ ps) (false ∷ ds) = min-sel d ps ds

max-sel : (d : Amount) (ps : List Part) (ds : List Bool)
    → fold greater (value_of d) (counted_weights ps ds) ≡ value_of (sel kind.Max d ps ds)
max-sel d [] ds = refl
max-sel d (p ∷ ps) [] = refl
max-sel d (p ∷ ps) (true ∷ ds) = ap (λ x. fold greater x (counted_weights ps ds)) (sym (max-one d p.weight))
    ∙ max-sel (most_of d p.weight) ps ds
max-sel d (p ∷ ps) (false ∷ ds) = max-sel d ps ds

sum-sel : (z : ℤ) (ps : List Part) (ds : List Bool) → fold added (number z) (counted_weights ps ds) ≡ value_of
    (sel kind.Sum (Finite z) ps ds)
sum-sel z [] ds = refl
sum-sel z (p ∷ ps) [] = refl
sum-sel z (p ∷ ps) (true ∷ ds) = ap (λ x. fold added (number x) (counted_weights ps ds)) (add-swap z p.weight)
    ∙ sum-sel (p.weight +ℤ z) ps ds
sum-sel z (p ∷ ps) (false ∷ ds) = sum-sel z ps ds

count-sel : (n : ℕ) (ps : List Part) (ds : List Bool) → number (pos (n + length (counted_weights ps ds))) ≡ value_of
    (sel kind.Count (Finite (pos n)) ps ds)
count-sel n [] ds = ap (λ m. number (pos m)) (let e : n + 0 ≡ n = omega arith in e)
count-sel n (p ∷ ps) [] = ap (λ m. number (pos m)) (let e : n + 0 ≡ n = omega arith in e)
count-sel n (p ∷ ps) (true ∷ ds) =
    let a : n + length (counted_weights (p ∷ ps) (true ∷ ds)) ≡ (1 + n) + length (counted_weights ps ds) =
    omega arith in
    let b : pos (1 + n) ≡ pos 1 +ℤ pos n = omega (arith, ints) in
    ap (λ m. number (pos m)) a ∙ count-sel (1 + n) ps ds ∙ ap (λ z. value_of (sel kind.Count (Finite z) ps ds)) b
count-sel n (p ∷ ps) (false ∷ ds) = count-sel n ps ds

selected : (k : AggKind) (ps : List Part) (ds : List Bool)
    → aggregate_value k (counted_weights ps ds) ≡ value_of (sel k (first k) ps ds)
selected kind.Count ps ds =
    ap (λ m. number (pos m)) (let e : length (counted_weights ps ds) ≡ 0 + length (counted_weights ps ds) =
    omega arith in e) ∙ count-sel 0 ps ds
selected kind.Sum ps ds = sum-sel (pos 0) ps ds
selected kind.Min ps ds = min-sel Highest ps ds
selected kind.Max ps ds = max-sel Lowest ps ds

-- the first is at most the second
abbrev Leq : Amount → Amount → Type 0
Leq Lowest b = Unit {0}
Leq (Finite a) Lowest = ⊥
Leq (Finite a) (Finite b) = a ≤ℤ b
Leq (Finite a) Highest = Unit {0}
Leq Highest Lowest = ⊥
Leq Highest (Finite b) = ⊥
Leq Highest Highest = Unit {0}

leq-refl : (a : Amount) → Leq a a
leq-refl Lowest = tt
leq-refl (Finite a) = omega (arith, ints)
leq-refl Highest = tt

leq-trans : (a b c : Amount) → Leq a b → Leq b c → Leq a c
leq-trans Lowest b c h k = tt
leq-trans (Finite a) Lowest c h k = absurd h
leq-trans (Finite a) (Finite b) Lowest h k = absurd k
leq-trans (Finite a) (Finite b) (Finite c) h k = omega (arith, ints, h, k)
leq-trans (Finite a) (Finite b) Highest h k = tt
leq-trans (Finite a) Highest Lowest h k = absurd k
leq-trans (Finite a) Highest (Finite c) h k = absurd k
leq-trans (Finite a) Highest Highest h k = tt
leq-trans Highest Lowest c h k = absurd h
leq-trans Highest (Finite b) c h k = absurd h
leq-trans Highest Highest c h k = k

lt-yes : (a b : ℤ) → int_lt a b ≡ true → a ≤ℤ b
lt-yes a b e = grind (arith, ints, e)

lt-no : (a b : ℤ) → int_lt a b ≡ false → b ≤ℤ a
lt-no a b e = grind (arith, ints, e)

less-yes : (a b : Amount) → is_less a b ≡ true → Leq a b
less-yes Lowest b e = tt
less-yes (Finite a) Lowest e = absurd (let x : false ≡ true = e in cc)
less-yes (Finite a) (Finite b) e = lt-yes a b e
less-yes (Finite a) Highest e = tt
less-yes Highest b e = absurd (let x : false ≡ true = e in cc)

less-no : (a b : Amount) → is_less a b ≡ false → Leq b a
less-no Lowest Lowest e = tt
less-no Lowest (Finite b) e = absurd (let x : true ≡ false = e in cc)
less-no Lowest Highest e = absurd (let x : true ≡ false = e in cc)
less-no (Finite a) Lowest e = tt
less-no (Finite a) (Finite b) e = lt-no a b e
less-no (Finite a) Highest e = absurd (let x : true ≡ false = e in cc)
less-no Highest Lowest e = tt
less-no Highest (Finite b) e = tt
less-no Highest Highest e = tt

plus-leq : (w : ℤ) (a b : Amount) → Leq a b → Leq (plus w a) (plus w b)
plus-leq w Lowest b h = tt
plus-leq w (Finite a) Lowest h = absurd h
plus-leq w (Finite a) (Finite b) h = omega (arith, ints, h)
plus-leq w (Finite a) Highest h = tt
plus-leq w Highest Lowest h = absurd h
plus-leq w Highest (Finite b) h = absurd h
plus-leq w Highest Highest h = tt

-- the least of a value and a number is below what either is below, and so on
least-low : (a : Amount) (w : ℤ) → Leq (least_of a w) a × Leq (least_of a w) (Finite w)
least-low Lowest w = (tt, tt)
least-low (Finite a) w = pick (int_lt w a) refl
  where
    pick : (b : Bool) → int_lt w a ≡ b → Leq (cond b (Finite w) (Finite a)) (Finite a)
        × Leq (cond b (Finite w) (Finite a)) (Finite w)
    pick true e = (lt-yes w a e, leq-refl (Finite w))
    pick false e = (leq-refl (Finite a), lt-no w a e)
least-low Highest w = (tt, leq-refl (Finite w))

least-most : (c a : Amount) (w : ℤ) → Leq c a → Leq c (Finite w) → Leq c (least_of a w)
least-most c Lowest w h k = h
least-most c (Finite a) w h k = pick (int_lt w a)
  where
    pick : (b : Bool) → Leq c (cond b (Finite w) (Finite a))
    pick true = k
    pick false = h
least-most c Highest w h k = k

most-high : (a : Amount) (w : ℤ) → Leq a (most_of a w) × Leq (Finite w) (most_of a w)
most-high Lowest w = (tt, leq-refl (Finite w))
most-high (Finite a) w = pick (int_lt a w) refl
  where
    pick : (b : Bool) → int_lt a w ≡ b → Leq (Finite a) (cond b (Finite w) (Finite a))
        × Leq (Finite w) (cond b (Finite w) (Finite a))
    pick true e = (lt-yes a w e, leq-refl (Finite w))
    pick false e = (leq-refl (Finite a), lt-no a w e)
most-high Highest w = (tt, tt)

most-least : (c a : Amount) (w : ℤ) → Leq a c → Leq (Finite w) c → Leq (most_of a w) c
most-least c Lowest w h k = k
most-least c (Finite a) w h k = pick (int_lt a w)
  where
    pick : (b : Bool) → Leq (cond b (Finite w) (Finite a)) c
    pick true = k
    pick false = h
most-least c Highest w h k = h

more-leq : (k : AggKind) (a b : Amount) (w : ℤ) → Leq a b → Leq (more k a w) (more k b w)
more-leq kind.Count a b w h = plus-leq (pos 1) a b h
more-leq kind.Sum a b w h = plus-leq w a b h
more-leq kind.Min a b w h = least-most (least_of a w) b w (leq-trans (least_of a w) a b (least-low a w).0 h)
    (least-low a w).1
more-leq kind.Max a b w h = most-least (most_of b w) a w (leq-trans a b (most_of b w) h (most-high b w).0)
    (most-high b w).1

-- the second is further, upwards or downwards
abbrev Dir : Bool → Amount → Amount → Type 0
Dir true a b = Leq a b
Dir false a b = Leq b a

dir-refl : (g : Bool) (a : Amount) → Dir g a a
dir-refl true a = leq-refl a
dir-refl false a = leq-refl a

dir-trans : (g : Bool) (a b c : Amount) → Dir g a b → Dir g b c → Dir g a c
dir-trans true a b c h k = leq-trans a b c h k
dir-trans false a b c h k = leq-trans c b a k h

dir-more : (g : Bool) (k : AggKind) (a b : Amount) (w : ℤ) → Dir g a b → Dir g (more k a w) (more k b w)
dir-more true k a b w h = more-leq k a b w h
dir-more false k a b w h = more-leq k b a w h

further-both : (g : Bool) (a b : Amount) → Dir g a (further g a b) × Dir g b (further g a b)
further-both true a b = pick (is_less a b) refl
  where
    pick : (c : Bool) → is_less a b ≡ c → Leq a (cond c b a) × Leq b (cond c b a)
    pick true e = (less-yes a b e, leq-refl b)
    pick false e = (leq-refl a, less-no a b e)
further-both false a b = pick (is_less b a) refl
  where
    pick : (c : Bool) → is_less b a ≡ c → Leq (cond c b a) a × Leq (cond c b a) b
    pick true e = (less-yes b a e, leq-refl b)
    pick false e = (leq-refl a, less-no b a e)

further-is : (g : Bool) (a b : Amount) (P : Amount → Type 0) → P a → P b → P (further g a b)
further-is true a b P x y = pick (is_less a b)
  where
    pick : (c : Bool) → P (cond c b a)
    pick true = y
    pick false = x
further-is false a b P x y = pick (is_less b a)
  where
    pick : (c : Bool) → P (cond c b a)
    pick true = y
    pick false = x

choose-with : (g may leave : Bool) (d e : Amount) → may ≡ true → Dir g e (choose g may leave d e)
choose-with g true true d e h = (further-both g d e).1
choose-with g true false d e h = dir-refl g e
choose-with g false leave d e h = absurd (let x : false ≡ true = h in cc)

choose-without : (g may leave : Bool) (d e : Amount) → leave ≡ true → Dir g d (choose g may leave d e)
choose-without g true true d e h = (further-both g d e).0
choose-without g true false d e h = absurd (let x : false ≡ true = h in cc)
choose-without g false leave d e h = dir-refl g d

choose-is : (g may leave : Bool) (d e : Amount) (P : Amount → Type 0) → (may ≡ true → P e) → (leave ≡ true → P d)
    → (may ≡ false → leave ≡ true) → P (choose g may leave d e)
choose-is g true true d e P x y z = further-is g d e P (y refl) (x refl)
choose-is g true false d e P x y z = x refl
choose-is g false leave d e P x y z = y (z refl)

module _ (s : LiteralSet) (ls : List Lit) (h : IsMarked s ls) (g : Bool) (k : AggKind) where
  unmarked : (l : Lit) → (Contains ls l → ⊥) → not (has s l) ≡ true
  unmarked l never = at (has s l) refl
    where
      at : (b : Bool) → has s l ≡ b → not b ≡ true
      at true e = absurd (never (h.only l e))
      at false e = refl

  out-of : (l : Lit) → not (has s l) ≡ true → Contains ls l → ⊥
  out-of l e is = let x : not true ≡ true = ap not (sym (h.each l is)) ∙ e in absurd (let y : false ≡ true = x in cc)

  pub upper : (ps : List Part) (ds : List Bool) (d e : Amount) → MayCount ls ps ds → Dir g d e
      → Dir g (sel k d ps ds) (far g k s e ps)
  upper [] [] d e m x = x
  upper [] (b ∷ ds) d e m x = absurd m
  upper (p ∷ ps) [] d e m x = absurd m
  upper (p ∷ ps) (true ∷ ds) d e m x =
      let may : Bool = not (has s (negated p.lit)) in
      let leave : Bool = not (has s p.lit) in
      upper ps ds (more k d p.weight) (choose g may leave e (more k e p.weight)) m.1
      (dir-trans g (more k d p.weight) (more k e p.weight) (choose g may leave e (more k e p.weight))
      (dir-more g k d e p.weight x) (choose-with g may leave e (more k e p.weight) (unmarked (negated p.lit) m.0)))
  upper (p ∷ ps) (false ∷ ds) d e m x =
      let may : Bool = not (has s (negated p.lit)) in
      let leave : Bool = not (has s p.lit) in
      upper ps ds d (choose g may leave e (more k e p.weight)) m.1
      (dir-trans g d e (choose g may leave e (more k e p.weight)) x
      (choose-without g may leave e (more k e p.weight) (unmarked p.lit m.0)))

  pub attained : HasNoOpposites ls → (ps : List Part) (d : Amount) → (ds : List Bool) × MayCount ls ps ds
      × (sel k d ps ds ≡ far g k s d ps)
  attained fine [] d = ([], tt, refl)
  attained fine (p ∷ ps) d = parted (attained fine ps (more k d p.weight)) (attained fine ps d)
    where
      parted : ((ds : List Bool) × MayCount ls ps ds ×
          (sel k (more k d p.weight) ps ds ≡ far g k s (more k d p.weight) ps))
          → ((ds : List Bool) × MayCount ls ps ds × (sel k d ps ds ≡ far g k s d ps)) → (ds : List Bool)
          × MayCount ls (p ∷ ps) ds
          × (sel k d (p ∷ ps) ds ≡ far g k s (choose g (not (has s (negated p.lit))) (not (has s p.lit)) d
          (more k d p.weight)) ps)
      parted r q = choose-is g (not (has s (negated p.lit))) (not (has s p.lit)) d (more k d p.weight)
          (λ x. (ds : List Bool) × MayCount ls (p ∷ ps) ds × (sel k d (p ∷ ps) ds ≡ far g k s x ps))
          (λ e. (true ∷ r.0, (out-of (negated p.lit) e, r.1), r.2))
          (λ e. (false ∷ q.0, (out-of p.lit e, q.1), q.2))
          (λ e. unmarked p.lit (λ is. both is (has s (negated p.lit)) refl e))
        where
          both : Contains ls p.lit → (b : Bool) → has s (negated p.lit) ≡ b → not b ≡ false → ⊥
          both is true f e = fine p.lit is (h.only (negated p.lit) f)
          both is false f e = absurd (let y : true ≡ false = e in cc)

lt-not : (a c : ℤ) → c ≤ℤ a → int_lt a c ≡ false
lt-not a c h = grind (arith, ints, h)

not-less : (c a : Amount) → Leq c a → is_less a c ≡ false
not-less Lowest Lowest h = refl
not-less Lowest (Finite a) h = refl
not-less Lowest Highest h = refl
not-less (Finite c) Lowest h = absurd h
not-less (Finite c) (Finite a) h = lt-not a c h
not-less (Finite c) Highest h = refl
not-less Highest Lowest h = absurd h
not-less Highest (Finite a) h = absurd h
not-less Highest Highest h = refl

less-down : (a b c : Amount) → Leq a b → is_less a c ≡ false → is_less b c ≡ false
less-down a b c h e = not-less c b (leq-trans c a b (less-no a c e) h)

less-up : (a b c : Amount) → Leq a b → is_less b c ≡ true → is_less a c ≡ true
less-up a b c h e = at (is_less a c) refl
  where
    at : (x : Bool) → is_less a c ≡ x → x ≡ true
    at true f = refl
    at false f = absurd (let y : true ≡ false = sym e ∙ less-down a b c h f in cc)

ge-number : (a b : ℤ) → (int_lt b a || int_eq a b) ≡ not (int_lt a b)
ge-number a b = grind (arith, ints)

ge-amount : (a : Amount) (k : ExtInt) → compared cmp.Ge (value_of a) (denotation_of_bound k) ≡ not
    (is_less a (amount_of k))
ge-amount Lowest NegInf = refl
ge-amount Lowest (Num b) = refl
ge-amount Lowest PosInf = refl
ge-amount (Finite a) NegInf = refl
ge-amount (Finite a) (Num b) = ge-number a b
ge-amount (Finite a) PosInf = refl
ge-amount Highest NegInf = refl
ge-amount Highest (Num b) = refl
ge-amount Highest PosInf = refl

lt-amount : (a : Amount) (k : ExtInt) → compared cmp.Lt (value_of a) (denotation_of_bound k) ≡ is_less a (amount_of k)
lt-amount Lowest NegInf = refl
lt-amount Lowest (Num b) = refl
lt-amount Lowest PosInf = refl
lt-amount (Finite a) NegInf = refl
lt-amount (Finite a) (Num b) = refl
lt-amount (Finite a) PosInf = refl
lt-amount Highest NegInf = refl
lt-amount Highest (Num b) = refl
lt-amount Highest PosInf = refl

shifted-value : (base : ℤ) (a : Amount) → shifted base (value_of a) ≡ value_of (plus base a)
shifted-value base Lowest = refl
shifted-value base (Finite z) = refl
shifted-value base Highest = refl

not-false : (b : Bool) → not b ≡ false → b ≡ true
not-false true e = refl
not-false false e = absurd (let y : true ≡ false = e in cc)

not-true : (b : Bool) → not b ≡ true → b ≡ false
not-true true e = absurd (let y : false ≡ true = e in cc)
not-true false e = refl

module _ (s : LiteralSet) (ls : List Lit) (h : IsMarked s ls) (fine : HasNoOpposites ls) (k : AggKind) (ps : List Part)
    (bound : ExtInt) where
  most : Amount
  most = far true k s (first k) ps

  pub each-below : is_less (far true k s (first k) ps) (amount_of bound) ≡ true
      → EachPossible ls k ps (λ d. compared cmp.Ge d (denotation_of_bound bound) ≡ false)
  each-below e ds m =
      let up : Leq (sel k (first k) ps ds) (far true k s (first k) ps) =
      upper s ls h true k ps ds (first k) (first k) m (leq-refl (first k)) in
      ap (λ d. compared cmp.Ge d (denotation_of_bound bound)) (selected k ps ds)
      ∙ ge-amount (sel k (first k) ps ds) bound ∙ ap not
      (less-up (sel k (first k) ps ds) (far true k s (first k) ps) (amount_of bound) up e)

  pub each-below-back : EachPossible ls k ps (λ d. compared cmp.Ge d (denotation_of_bound bound) ≡ false)
      → is_less (far true k s (first k) ps) (amount_of bound) ≡ true
  each-below-back each =
      let r = attained s ls h true k fine ps (first k) in
      let e : compared cmp.Ge (aggregate_value k (counted_weights ps r.0)) (denotation_of_bound bound) ≡ false =
      each r.0 r.1 in
      let f : not (is_less (sel k (first k) ps r.0) (amount_of bound)) ≡ false =
      sym (ge-amount (sel k (first k) ps r.0) bound)
      ∙ sym (ap (λ d. compared cmp.Ge d (denotation_of_bound bound)) (selected k ps r.0)) ∙ e in
      ap (λ a. is_less a (amount_of bound)) (sym r.2) ∙ not-false (is_less (sel k (first k) ps r.0) (amount_of bound)) f

  pub each-reaches : is_less (far false k s (first k) ps) (amount_of bound) ≡ false
      → EachPossible ls k ps (λ d. compared cmp.Ge d (denotation_of_bound bound) ≡ true)
  each-reaches e ds m =
      let down : Leq (far false k s (first k) ps) (sel k (first k) ps ds) =
      upper s ls h false k ps ds (first k) (first k) m (leq-refl (first k)) in
      ap (λ d. compared cmp.Ge d (denotation_of_bound bound)) (selected k ps ds)
      ∙ ge-amount (sel k (first k) ps ds) bound ∙ ap not
      (less-down (far false k s (first k) ps) (sel k (first k) ps ds) (amount_of bound) down e)

  pub each-reaches-back : EachPossible ls k ps (λ d. compared cmp.Ge d (denotation_of_bound bound) ≡ true)
      → is_less (far false k s (first k) ps) (amount_of bound) ≡ false
  each-reaches-back each =
      let r = attained s ls h false k fine ps (first k) in
      let e : compared cmp.Ge (aggregate_value k (counted_weights ps r.0)) (denotation_of_bound bound) ≡ true =
      each r.0 r.1 in
      let f : not (is_less (sel k (first k) ps r.0) (amount_of bound)) ≡ true =
      sym (ge-amount (sel k (first k) ps r.0) bound)
      ∙ sym (ap (λ d. compared cmp.Ge d (denotation_of_bound bound)) (selected k ps r.0)) ∙ e in
      ap (λ a. is_less a (amount_of bound)) (sym r.2) ∙ not-true (is_less (sel k (first k) ps r.0) (amount_of bound)) f

  module _ (base : ℤ) where
    lower : (ds : List Bool) → compared cmp.Lt (shifted base (aggregate_value k (counted_weights ps ds)))
        (denotation_of_bound bound) ≡ is_less (plus base (sel k (first k) ps ds)) (amount_of bound)
    lower ds = ap (λ d. compared cmp.Lt (shifted base d) (denotation_of_bound bound)) (selected k ps ds)
        ∙ ap (λ d. compared cmp.Lt d (denotation_of_bound bound)) (shifted-value base (sel k (first k) ps ds))
        ∙ lt-amount (plus base (sel k (first k) ps ds)) bound

    pub each-above : is_less (plus base (far false k s (first k) ps)) (amount_of bound) ≡ false
        → EachPossible ls k ps (λ d. compared cmp.Lt (shifted base d) (denotation_of_bound bound) ≡ false)
    each-above e ds m =
        let down : Leq (far false k s (first k) ps) (sel k (first k) ps ds) =
        upper s ls h false k ps ds (first k) (first k) m (leq-refl (first k)) in
        lower ds ∙ less-down (plus base (far false k s (first k) ps)) (plus base (sel k (first k) ps ds))
        (amount_of bound) (plus-leq base (far false k s (first k) ps) (sel k (first k) ps ds) down) e

    pub each-above-back : EachPossible ls k ps (λ d. compared cmp.Lt (shifted base d) (denotation_of_bound bound)
        ≡ false) → is_less (plus base (far false k s (first k) ps)) (amount_of bound) ≡ false
    each-above-back each =
        let r = attained s ls h false k fine ps (first k) in
        ap (λ a. is_less (plus base a) (amount_of bound)) (sym r.2) ∙ sym (lower r.0) ∙ each r.0 r.1

-- what the code finds decides it
pub sum-on : (s : LiteralSet) (ls : List Lit) (c : AggCon) (b : Bool) → IsMarked s ls → HasNoOpposites ls
    → has s c.out ≡ true → b ≡ is_less (far true c.kind s (first c.kind) c.parts) (amount_of c.least) → IsTrue b
    ↔ SumCannotHold ls c
sum-on s ls c b h fine on is = (
  λ t. inl (h.only c.out on, each-below s ls h fine c.kind c.parts c.least (sym is ∙ t)),
  λ f. ⊎_elim (λ x. is ∙ each-below-back s ls h fine c.kind c.parts c.least x.1)
      (λ x. absurd (fine c.out (h.only c.out on) x.0)) f,
)

pub sum-off : (s : LiteralSet) (ls : List Lit) (c : AggCon) (b : Bool) → IsMarked s ls → HasNoOpposites ls
    → has s (negated c.out) ≡ true → b ≡ is_less (far false c.kind s (first c.kind) c.parts) (amount_of c.least)
    → IsTrue (not b) ↔ SumCannotHold ls c
sum-off s ls c b h fine on is = (
  λ t. inr (h.only (negated c.out) on, each-reaches s ls h fine c.kind c.parts c.least (sym is ∙ not-true b t)),
  λ f. ⊎_elim (λ x. absurd (fine c.out x.0 (h.only (negated c.out) on)))
      (λ x. ap not (is ∙ each-reaches-back s ls h fine c.kind c.parts c.least x.1)) f,
)

pub bound-on : (s : LiteralSet) (ls : List Lit) (b : TermBound) (t : GroundTerm) (r : Bool) → IsMarked s ls
    → HasNoOpposites ls → has s b.out ≡ true → r ≡ is_less (plus t.base (far false t.kind s (first t.kind) t.parts))
    (amount_of b.below) → IsTrue (not r) ↔ BoundCannotHold ls b t
bound-on s ls b t r h fine on is = (
  λ e. (h.only b.out on, each-above s ls h fine t.kind t.parts b.below t.base (sym is ∙ not-true r e)),
  λ f. ap not (is ∙ each-above-back s ls h fine t.kind t.parts b.below t.base f.1),
)

-- negations have no opposites where the literals have none
pub negated-fine : (ls : List Lit) → HasNoOpposites ls → HasNoOpposites (map negated ls)
negated-fine ls fine l a b = fine (negated l) (back ls l a)
    (subst (Contains ls) (twice (negated l)) (back ls (negated l) b))
  where
    twice : (m : Lit) → negated m ≡ negated m
    twice m = refl

    back : (ks : List Lit) (m : Lit) → Contains (map negated ks) m → Contains ks (negated m)
    back ks m is = unmapped ks m is.0 is.1 is.2
      where
        flip : (c d : Bool) → not c ≡ d → c ≡ not d
        flip true true e = sym e
        flip true false e = refl
        flip false true e = refl
        flip false false e = sym e

        unmapped : (ks : List Lit) (m : Lit) (i : ℕ) → i < length (map negated ks)
            → slice_index_or (map negated ks) i m ≡ m → Contains ks (negated m)
        unmapped [] m i lt e = absurd (omega (arith, lt))
        unmapped (k ∷ ks) m zero lt e = (0, omega arith, mk-same k m e)
          where
            mk-same : (k m : Lit) → negated k ≡ m → k ≡ negated m
            mk-same k m e = ap (λ b. mk k.var.0 b) (flip k.positive m.positive (ap (λ (x : Lit). x.positive) e))
                ∙ ap (λ n. mk n (not m.positive)) (ap (λ (x : Lit). x.var.0) e)
        unmapped (k ∷ ks) m (suc i) lt e = let r = unmapped ks m i (omega (arith, lt)) e in
            (suc r.0, omega (arith, r.1), r.2)
