-- Where each variable stands once, a value of one part's variable changes one summand.
use Rattle.std.proofs.Common.{◌≡◌, ℕ, zero, suc, ℤ, ◌+ℤ◌, ◌<◌, ◌≤◌, nat_eq, nat_lt, not, Bool, true, false}
use Rattle.std.proofs.Common.{if◌then◌else◌, Option, Some, None, List, [], ◌∷◌, length, get_or, All, Contains, refl}
use Rattle.std.proofs.Common.{sym, ap, ◌∙◌, subst, arith}
use Rattle.std.specs.List.{AllByRecursion}
use Rattle.std.proofs.lemmas.Bool.Decides.{nat_tests}
use Rattle.std.proofs.lemmas.Int.{ints}
use Rattle.std.proofs.lemmas.List.Elements.{All-from_recursion}
use Rattle.kb_logic.specs.declared.elements.ExtInt.{ExtInt}
use Rattle.kb_logic.specs.declared.syntax.AggKind.{AggKind}
use Rattle.lit_core.specs.declared.literals.Lit.{Lit}
use Rattle.lit_core.specs.Literals.{by_sign, by_sign_if_any, negated}
use Rattle.ground_core.specs.declared.parts.Part.{Part}
use Rattle.ground_core.specs.declared.parts.AggCon.{AggCon}
use Rattle.ground_core.specs.Intervals.{known_of, changed, contradicts, refuted_by, reaches, least_possible}
use Rattle.ground_core.specs.Intervals.{greatest_possible, IsOpenAt}
use Rattle.aggregate_propagators.specs.Laws.{HasVarsOnce}
use Rattle.aggregate_propagators.specs.Reasons.{differ, in_end}
use Rattle.aggregate_propagators.specs.Totals.{gain, gain_if, goal_of, met, with_side}
use Rattle.aggregate_propagators.specs.Implied.{Decides}
use Rattle.aggregate_propagators.specs.Once.{follows, rises, end_total, moved}
use Rattle.aggregate_propagators.proofs.Deciding.{by-total, apart, other-none, either-sign}

-- rising parts stand once
less-apart : (n m k : ℕ) → n ≤ m → nat_lt m k ≡ true → nat_eq n k ≡ false
less-apart n m k l e = grind (arith, nat_tests)

less-le : (n m k : ℕ) → n ≤ m → nat_lt m k ≡ true → n ≤ k
less-le n m k l e = grind (arith, nat_tests)

if-true : (t x : Bool) → (if t then x else false) ≡ true → (t ≡ true) × (x ≡ true)
if-true true x e = (refl, e)
if-true false x e = cc

above : (m n : ℕ) (ps : List Part) → n ≤ m → rises (Some m) ps ≡ true
    → AllByRecursion (λ (q : Part). nat_eq n q.lit.var.0 ≡ false) ps
above m n [] l e = tt
above m n (p ∷ ps) l e =
    let both = if-true (nat_lt m p.lit.var.0) (rises (Some p.lit.var.0) ps) e in
    (less-apart n m p.lit.var.0 l both.0, above p.lit.var.0 n ps (less-le n m p.lit.var.0 l both.0) both.1)

once : (last : Option ℕ) (ps : List Part) → rises last ps ≡ true → HasVarsOnce ps
once last [] e = tt
once last (p ∷ ps) e =
    let both = if-true (follows last p.lit.var.0) (rises (Some p.lit.var.0) ps) e in
    (above p.lit.var.0 p.lit.var.0 ps (omega arith) both.1, once (Some p.lit.var.0) ps both.1)

pub stand-once : (ps : List Part) → rises None ps ≡ true → HasVarsOnce ps
stand-once ps e = once None ps e

-- the value of another variable
skip : {X : Type 0} (t : Bool) (x y : X) → t ≡ false → (if t then x else y) ≡ y
skip false x y e = refl
skip true x y e = absurd (wrong e)
  where
    wrong : true ≡ false → ⊥
    wrong e = cc

take-it : {X : Type 0} (t : Bool) (x y : X) → t ≡ true → (if t then x else y) ≡ x
take-it true x y e = refl
take-it false x y e = absurd (wrong e)
  where
    wrong : false ≡ true → ⊥
    wrong e = cc

eq-itself : (n : ℕ) → nat_eq n n ≡ true
eq-itself n = grind (arith, nat_tests)

pub eq-back : (m n : ℕ) → nat_eq m n ≡ false → nat_eq n m ≡ false
eq-back m n e = grind (arith, nat_tests)

pub known-apart : (a : ℕ → Option Bool) (n : ℕ) (b : Bool) (l : Lit) → nat_eq n l.var.0 ≡ false
    → known_of (changed a n b) l ≡ known_of a l
known-apart a n b l e = ap (by_sign_if_any l.positive) (skip (nat_eq n l.var.0) (Some b) (a l.var.0) e)

known-here : (a : ℕ → Option Bool) (l : Lit) (b : Bool) → known_of (changed a l.var.0 b) l ≡ Some (by_sign l.positive b)
known-here a l b =
    ap (by_sign_if_any l.positive) (take-it (nat_eq l.var.0 l.var.0) (Some b) (a l.var.0) (eq-itself l.var.0))

module _ (high : Bool) (k : AggKind) (least : ExtInt) where
  abbrev portion : (ℕ → Option Bool) → Part → ℤ
  portion a p = gain_if (in_end high k p.weight (known_of a p.lit)) (gain k least p.weight)

  portion-of : (p : Part) (o u : Option Bool) → o ≡ u → gain_if (in_end high k p.weight o) (gain k least p.weight)
      ≡ gain_if (in_end high k p.weight u) (gain k least p.weight)
  portion-of p o u e = ap (λ x. gain_if (in_end high k p.weight x) (gain k least p.weight)) e

  others-same : (a : ℕ → Option Bool) (n : ℕ) (b : Bool) (ps : List Part)
      → AllByRecursion (λ (q : Part). nat_eq n q.lit.var.0 ≡ false) ps
      → end_total (changed a n b) high k least ps ≡ end_total a high k least ps
  others-same a n b [] h = refl
  others-same a n b (p ∷ ps) h =
      let here : portion (changed a n b) p ≡ portion a p =
      portion-of p (known_of (changed a n b) p.lit) (known_of a p.lit) (known-apart a n b p.lit h.0) in
      let rest = others-same a n b ps h.1 in
      omega (arith, ints, here, rest)

  one-changed : (a : ℕ → Option Bool) (b : Bool) (ps : List Part) (i : ℕ) (d : Part) → i < length ps → HasVarsOnce ps
      → end_total (changed a (get_or ps i d).lit.var.0 b) high k least ps +ℤ portion a (get_or ps i d)
      ≡ end_total a high k least ps +ℤ portion (changed a (get_or ps i d).lit.var.0 b) (get_or ps i d)
  one-changed a b [] i d lt h = absurd (omega (arith, lt))
  one-changed a b (p ∷ ps) zero d lt h =
      let rest = others-same a p.lit.var.0 b ps h.0 in
      omega (arith, ints, rest)
  one-changed a b (p ∷ ps) (suc i) d lt h =
      let lt2 : i < length ps = omega (arith, lt) in
      let q : Part = get_or ps i d in
      let off-head : nat_eq q.lit.var.0 p.lit.var.0 ≡ false = eq-back p.lit.var.0 q.lit.var.0 (All-from_recursion
      (λ (r : Part). nat_eq p.lit.var.0 r.lit.var.0 ≡ false) ps h.0 i d lt2) in
      let here : portion (changed a q.lit.var.0 b) p ≡ portion a p =
      portion-of p (known_of (changed a q.lit.var.0 b) p.lit) (known_of a p.lit)
      (known-apart a q.lit.var.0 b p.lit off-head) in
      let rest : end_total (changed a q.lit.var.0 b) high k least ps +ℤ portion a q ≡ end_total a high k least ps
      +ℤ portion (changed a q.lit.var.0 b) q = one-changed a b ps i d lt2 h.1 in
      omega (arith, ints, here, rest)

  -- the total once an unassigned part has a value
  pub moved-total : (a : ℕ → Option Bool) (ps : List Part) (p : Part) (b : Bool) → Contains ps p → HasVarsOnce ps
      → known_of a p.lit ≡ None
      → end_total (changed a p.lit.var.0 b) high k least ps
      ≡ moved high k least p.weight (known_of (changed a p.lit.var.0 b) p.lit) (end_total a high k least ps)
  moved-total a ps p b m h none =
      let f : Part → ℤ = λ q. end_total (changed a q.lit.var.0 b) high k least ps in
      let raw : end_total (changed a p.lit.var.0 b) high k least ps +ℤ portion a p ≡ end_total a high k least ps
      +ℤ portion (changed a p.lit.var.0 b) p =
      subst (λ (q : Part). end_total (changed a q.lit.var.0 b) high k least ps +ℤ portion a q
      ≡ end_total a high k least ps +ℤ portion (changed a q.lit.var.0 b) q) m.2
      (one-changed a b ps m.0 p m.1 h) in
      let was = portion-of p (known_of a p.lit) None none in
      omega (arith, ints, raw, was)

-- the value that a literal was given
known-made : (a : ℕ → Option Bool) (l : Lit) (value : Bool)
    → known_of (changed a l.var.0 (by_sign l.positive value)) l ≡ Some value
known-made a l value = known-here a l (by_sign l.positive value) ∙ ap Some (twice l.positive value)
  where
    twice : (s x : Bool) → by_sign s (by_sign s x) ≡ x
    twice true x = refl
    twice false true = refl
    twice false false = refl

-- literals of which one has a value are of different variables
pub none-under : (s : Bool) (o : Option Bool) → by_sign_if_any s o ≡ None → o ≡ None
none-under s None e = refl
none-under s (Some b) e = absurd (wrong (by_sign s b) e)
  where
    wrong : (x : Bool) → Some x ≡ None → ⊥
    wrong x e = cc

same-var : (i n : ℕ) → nat_eq i n ≡ true → i ≡ n
same-var i n e = grind (arith, nat_tests)

pub apart-by-value : (a : ℕ → Option Bool) (l m : Lit) (b : Bool) → known_of a l ≡ None → known_of a m ≡ Some b
    → nat_eq l.var.0 m.var.0 ≡ false
apart-by-value a l m b none some = by (nat_eq l.var.0 m.var.0) refl
  where
    wrong : None ≡ Some b → ⊥
    wrong e = cc

    by : (t : Bool) → nat_eq l.var.0 m.var.0 ≡ t → t ≡ false
    by false e = refl
    by true e =
        let here : a m.var.0 ≡ None = ap a (sym (same-var l.var.0 m.var.0 e))
        ∙ none-under l.positive (a l.var.0) none in
        absurd (wrong (sym (ap (by_sign_if_any m.positive) here) ∙ some))

-- whether a part's value contradicts, by the moved total
pub wrong-by-moved : (a : ℕ → Option Bool) (c : AggCon) (high : Bool) (p : Part) (value : Bool) → HasVarsOnce c.parts
    → Contains c.parts p → known_of a c.out ≡ Some high → known_of a p.lit ≡ None
    → differ high
    (with_side c.kind (met (goal_of c.kind c.least)
    (moved high c.kind c.least p.weight (Some value) (end_total a high c.kind c.least c.parts)))) ≡ contradicts
    (changed a p.lit.var.0 (by_sign p.lit.positive value)) c
wrong-by-moved a c high p value s m out none =
    let b = by_sign p.lit.positive value in
    let off-out : nat_eq p.lit.var.0 c.out.var.0 ≡ false = apart-by-value a p.lit c.out high none out in
    ap (λ z. differ high (with_side c.kind (met (goal_of c.kind c.least) z)))
    (ap (λ o. moved high c.kind c.least p.weight o (end_total a high c.kind c.least c.parts))
    (sym (known-made a p.lit value)) ∙ sym (moved-total high c.kind c.least a c.parts p b m s none))
    ∙ by-total (changed a p.lit.var.0 b) c high (known-apart a p.lit.var.0 b c.out off-out ∙ out)

own-sign : (s : Bool) → by_sign s true ≡ s
own-sign true = refl
own-sign false = refl

other-sign : (s : Bool) → by_sign s false ≡ not s
other-sign true = refl
other-sign false = refl

pub part-true : (a : ℕ → Option Bool) (c : AggCon) (l : Lit) → known_of a l ≡ None
    → contradicts (changed a l.var.0 (by_sign l.positive true)) c ≡ true
    → Decides a c l × (IsOpenAt a c l → ⊥)
part-true a c l e w =
    let w2 : contradicts (changed a l.var.0 l.positive) c ≡ true =
    subst (λ b. contradicts (changed a l.var.0 b) c ≡ true) (own-sign l.positive) w in (
      record { unassigned = e; wrong = w2 },
      λ h. apart (contradicts (changed a l.var.0 l.positive) c) w2
          (h e l.positive),
    )

pub part-false : (a : ℕ → Option Bool) (c : AggCon) (l : Lit) → known_of a l ≡ None
    → contradicts (changed a l.var.0 (by_sign l.positive false)) c ≡ true
    → Decides a c (negated l) × (IsOpenAt a c l → ⊥)
part-false a c l e w =
    let w2 : contradicts (changed a l.var.0 (not l.positive)) c ≡ true =
    subst (λ b. contradicts (changed a l.var.0 b) c ≡ true) (other-sign l.positive) w in (
      record { unassigned = other-none a l e; wrong = w2 },
      λ h. apart (contradicts (changed a l.var.0 (not l.positive)) c) w2 (h e (not l.positive)),
    )

pub part-open : (a : ℕ → Option Bool) (c : AggCon) (l : Lit)
    → contradicts (changed a l.var.0 (by_sign l.positive true)) c ≡ false
    → contradicts (changed a l.var.0 (by_sign l.positive false)) c ≡ false → IsOpenAt a c l
part-open a c l e f none b =
    either-sign (λ s. contradicts (changed a l.var.0 s) c ≡ false) l.positive b
    (subst (λ b. contradicts (changed a l.var.0 b) c ≡ false) (own-sign l.positive) e)
    (subst (λ b. contradicts (changed a l.var.0 b) c ≡ false) (other-sign l.positive) f)

-- where the result is unassigned and open, nothing else is decided
no-result : (a : ℕ → Option Bool) (c : AggCon) → known_of a c.out ≡ None → contradicts a c ≡ false
no-result a c e =
    ap (λ o. refuted_by o (reaches c.least (least_possible a c.kind c.parts))
    (reaches c.least (greatest_possible a c.kind c.parts))) e

pub rest-open : (a : ℕ → Option Bool) (c : AggCon) → IsOpenAt a c c.out → known_of a c.out ≡ None
    → All (λ (p : Part). IsOpenAt a c p.lit) c.parts
rest-open a c quiet e k d lt none b = by (nat_eq n c.out.var.0) refl
  where
    n : ℕ
    n = (get_or c.parts k d).lit.var.0

    by : (t : Bool) → nat_eq n c.out.var.0 ≡ t → contradicts (changed a n b) c ≡ false
    by false off = no-result (changed a n b) c (known-apart a n b c.out off ∙ e)
    by true on = subst (λ (m : ℕ). contradicts (changed a m b) c ≡ false) (sym (same-var n c.out.var.0 on)) (quiet e b)

-- where it is assigned, it is decided no more
pub result-open : (a : ℕ → Option Bool) (c : AggCon) (high : Bool) → known_of a c.out ≡ Some high → IsOpenAt a c c.out
result-open a c high e none b = absurd (wrong high (sym e ∙ none))
  where
    wrong : (x : Bool) → Some x ≡ None → ⊥
    wrong x e = cc
