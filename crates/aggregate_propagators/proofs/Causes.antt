-- The reasons of a contradiction suffice.
use Rattle.std.proofs.Common.{◌≡◌, ℕ, zero, suc, nat_eq, Bool, true, false, not, if◌then◌else◌, Option, Some, None}
use Rattle.std.proofs.Common.{List, [], ◌∷◌, All, get_or, map, filter, refl, sym, ap, ◌∙◌, subst, arith}
use Rattle.std.proofs.lemmas.Bool.Decides.{nat_tests}
use Rattle.std.proofs.lemmas.List.Elements.{All-head, All-tail}
use Rattle.kb_logic.specs.declared.syntax.AggKind.{AggKind}
use Rattle.kb_logic.specs.declared.elements.ExtInt.{ExtInt}
use Rattle.kb_logic.specs.Denotations.{number, aggregate_value}
use Rattle.lit_core.specs.declared.literals.Lit.{Lit}
use Rattle.lit_core.specs.Literals.{by_sign, by_sign_if_any}
use Rattle.ground_core.specs.declared.parts.Part.{Part}
use Rattle.ground_core.specs.Intervals.{known_of, least_possible, greatest_possible, reaches, refuted_by}
use Rattle.ground_core.specs.Intervals.{refuting}
use Rattle.aggregate_propagators.specs.Reasons.{differ, in_end, narrows, denied, with_reason, reasons, asks_high}
use Rattle.aggregate_propagators.specs.Reasons.{clause_of}
use Rattle.aggregate_propagators.specs.Laws.{ReasonsSuffice}

none-some : (x : Bool) → None ≡ Some x → ⊥
none-some x e = cc

true-false : true ≡ false → ⊥
true-false e = cc

some-same : (x y : Bool) → Some x ≡ Some y → x ≡ y
some-same x y e = cc

same-var : (i n : ℕ) → nat_eq i n ≡ true → i ≡ n
same-var i n e = grind (arith, nat_tests)

eq-itself : (n : ℕ) → nat_eq n n ≡ true
eq-itself n = grind (arith, nat_tests)

-- the negation of a literal has the opposite value
flip-value : (s : Bool) (o : Option Bool) (x : Bool) → by_sign_if_any s o ≡ Some x
    → by_sign_if_any (not s) o ≡ Some (not x)
flip-value s None x e = absurd (none-some x e)
flip-value true (Some y) x e = ap (λ z. Some (not z)) (some-same y x e)
flip-value false (Some true) x e = ap (λ z. Some (not z)) (some-same false x e)
flip-value false (Some false) x e = ap (λ z. Some (not z)) (some-same true x e)

pub denied-false : (a : ℕ → Option Bool) (l : Lit) (o : Option Bool) (x : Bool) → known_of a l ≡ o → o ≡ Some x
    → known_of a (denied o l) ≡ Some false
denied-false a l None x e f = absurd (none-some x f)
denied-false a l (Some true) x e f = flip-value l.positive (a l.var.0) true e
denied-false a l (Some false) x e f = e

All-cons : {X : Type 0} (P : X → Type 0) (x : X) (xs : List X) → P x → All P xs → All P (x ∷ xs)
All-cons P x xs h t zero d lt = h
All-cons P x xs h t (suc k) d lt = t k d (omega arith)

All-none : {X : Type 0} (P : X → Type 0) → All P []
All-none P k d lt = absurd (omega arith)

with-false : (a : ℕ → Option Bool) (high : Bool) (k : AggKind) (p : Part) (o : Option Bool) (ls : List Lit)
    → known_of a p.lit ≡ o → All (λ l. known_of a l ≡ Some false) ls
    → All (λ l. known_of a l ≡ Some false) (with_reason (narrows high k p.weight o) (denied o p.lit) ls)
with-false a high k p None ls e h = h
with-false a high k p (Some x) ls e h = by (narrows high k p.weight (Some x))
  where
    by : (t : Bool) → All (λ l. known_of a l ≡ Some false) (with_reason t (denied (Some x) p.lit) ls)
    by true = All-cons (λ l. known_of a l ≡ Some false) (denied (Some x) p.lit) ls
        (denied-false a p.lit (Some x) x e refl) h
    by false = h

reasons-false : (a : ℕ → Option Bool) (high : Bool) (k : AggKind) (ps : List Part)
    → All (λ l. known_of a l ≡ Some false) (reasons a high k ps)
reasons-false a high k [] = All-none (λ l. known_of a l ≡ Some false)
reasons-false a high k (p ∷ ps) = with-false a high k p (known_of a p.lit) (reasons a high k ps) refl
    (reasons-false a high k ps)

-- what the refuting assignment gives a value has the same one in the assignment
value-of-false : (s : Bool) (o : Option Bool) → by_sign_if_any s o ≡ Some false → o ≡ Some (not s)
value-of-false s None e = absurd (none-some false e)
value-of-false true (Some x) e = e
value-of-false false (Some true) e = refl
value-of-false false (Some false) e = absurd (true-false (some-same true false e))

within-step : (a : ℕ → Option Bool) (l : Lit) (n : ℕ) (rest : Option Bool) (t b : Bool) → nat_eq l.var.0 n ≡ t
    → known_of a l ≡ Some false → (rest ≡ Some b → a n ≡ Some b) → (if t then Some (not l.positive) else rest) ≡ Some b
    → a n ≡ Some b
within-step a l n rest true b at f h e = ap a (sym (same-var l.var.0 n at)) ∙ value-of-false l.positive (a l.var.0) f
    ∙ e
within-step a l n rest false b at f h e = h e

pub within : (a : ℕ → Option Bool) (cl : List Lit) → All (λ l. known_of a l ≡ Some false) cl → (n : ℕ) (b : Bool)
    → refuting cl n ≡ Some b → a n ≡ Some b
within a [] h n b e = absurd (none-some b e)
within a (l ∷ ls) h n b e =
    let P : Lit → Type 0 = λ m. known_of a m ≡ Some false in
    within-step a l n (refuting ls n) (nat_eq l.var.0 n) b refl (All-head P l ls h)
    (λ r. within a ls (All-tail P l ls h) n b r) e

-- it gives each literal of the clause a value
HasValue : List Lit → Lit → Type 0
HasValue cl l = (b : Bool) × (refuting cl l.var.0 ≡ Some b)

still : (t b c : Bool) (o : Option Bool) → o ≡ Some b → (x : Bool) × ((if t then Some c else o) ≡ Some x)
still true b c o e = (c, refl)
still false b c o e = (b, e)

pub covers : (cl : List Lit) → All (λ l. (b : Bool) × (refuting cl l.var.0 ≡ Some b)) cl
covers [] k d lt = absurd (omega arith)
covers (l ∷ ls) zero d lt =
    (not l.positive, ap (λ t. if t then Some (not l.positive) else refuting ls l.var.0) (eq-itself l.var.0))
covers (l ∷ ls) (suc k) d lt =
    let h = covers ls k d (omega arith) in still (nat_eq l.var.0 (get_or ls k d).var.0) h.0 (not l.positive)
    (refuting ls (get_or ls k d).var.0) h.1

-- both assignments choose the same parts
eqb-same : (x y : Bool) → differ x y ≡ false → x ≡ y
eqb-same true true e = refl
eqb-same true false e = absurd (true-false e)
eqb-same false true e = absurd (true-false e)
eqb-same false false e = refl

pub denied-var : (o : Option Bool) (l : Lit) → (denied o l).var.0 ≡ l.var.0
denied-var None l = refl
denied-var (Some true) l = refl
denied-var (Some false) l = refl

module _ (a r : ℕ → Option Bool) (inside : (n : ℕ) (b : Bool) → r n ≡ Some b → a n ≡ Some b) (high : Bool)
    (k : AggKind) where
  one-same : (p : Part) (o q : Option Bool) (t : Bool) → a p.lit.var.0 ≡ o → r p.lit.var.0 ≡ q
      → narrows high k p.weight (by_sign_if_any p.lit.positive o) ≡ t
      → (t ≡ true → (b : Bool) × (r p.lit.var.0 ≡ Some b))
      → in_end high k p.weight (by_sign_if_any p.lit.positive q) ≡ in_end high k p.weight
      (by_sign_if_any p.lit.positive o)
  one-same p o (Some b) t e f n h = ap (λ x. in_end high k p.weight (by_sign_if_any p.lit.positive x))
      (sym (inside p.lit.var.0 b f) ∙ e)
  one-same p None None t e f n h = refl
  one-same p (Some x) None true e f n h = let v = h refl in absurd (none-some v.0 (sym f ∙ v.1))
  one-same p (Some x) None false e f n h =
      sym (eqb-same (in_end high k p.weight (Some (by_sign p.lit.positive x))) (in_end high k p.weight None) n)

  keep-same : (t u : Bool) (p : Part) (xs ys : List Part) → t ≡ u → xs ≡ ys
      → (if t then p ∷ xs else xs) ≡ (if u then p ∷ ys else ys)
  keep-same t u p xs ys e f = cc

  reason-here : (t : Bool) (p : Part) (ls : List Lit) → All (λ l. (b : Bool) × (r l.var.0 ≡ Some b))
      (with_reason t (denied (known_of a p.lit) p.lit) ls) → t ≡ true → (b : Bool) × (r p.lit.var.0 ≡ Some b)
  reason-here true p ls h e = subst (λ n. (b : Bool) × (r n ≡ Some b)) (denied-var (known_of a p.lit) p.lit)
      (All-head (λ (l : Lit). (b : Bool) × (r l.var.0 ≡ Some b)) (denied (known_of a p.lit) p.lit) ls h)
  reason-here false p ls h e = absurd (true-false (sym e))

  reason-rest : (t : Bool) (l : Lit) (ls : List Lit) → All (λ (m : Lit). (b : Bool) × (r m.var.0 ≡ Some b))
      (with_reason t l ls) → All (λ (m : Lit). (b : Bool) × (r m.var.0 ≡ Some b)) ls
  reason-rest true l ls h = All-tail (λ (m : Lit). (b : Bool) × (r m.var.0 ≡ Some b)) l ls h
  reason-rest false l ls h = h

  pub chosen-same : (ps : List Part) → All (λ (l : Lit). (b : Bool) × (r l.var.0 ≡ Some b)) (reasons a high k ps)
      → filter (λ (p : Part). in_end high k p.weight (known_of r p.lit)) ps ≡ filter
      (λ (p : Part). in_end high k p.weight (known_of a p.lit)) ps
  chosen-same [] h = refl
  chosen-same (p ∷ ps) h =
      let t = narrows high k p.weight (known_of a p.lit) in
      keep-same (in_end high k p.weight (known_of r p.lit)) (in_end high k p.weight (known_of a p.lit)) p _ _
      (one-same p (a p.lit.var.0) (r p.lit.var.0) t refl refl refl (reason-here t p (reasons a high k ps) h))
      (chosen-same ps (reason-rest t (denied (known_of a p.lit) p.lit) (reasons a high k ps) h))

-- the result has its value in both, and the end is the same
still-refuted : (o q : Option Bool) (l h m g : Bool) → o ≡ q → (o ≡ Some false → l ≡ m) → (o ≡ Some true → h ≡ g)
    → refuted_by o l h ≡ true → refuted_by q m g ≡ true
still-refuted None q l h m g e f k is = absurd (true-false (sym is))
still-refuted (Some true) q l h m g e f k is = subst (λ x. refuted_by x m g ≡ true) e (ap not (sym (k refl)) ∙ is)
still-refuted (Some false) q l h m g e f k is = subst (λ x. refuted_by x m g ≡ true) e (sym (f refl) ∙ is)

pub has-result : (o : Option Bool) (l h : Bool) → refuted_by o l h ≡ true → (x : Bool) × (o ≡ Some x)
has-result None l h e = absurd (true-false (sym e))
has-result (Some x) l h e = (x, refl)

end_choice : Bool → (ℕ → Option Bool) → AggKind → Part → Bool
end_choice b a k p = in_end b k p.weight (known_of a p.lit)

same-end : (r a : ℕ → Option Bool) (b : Bool) (k : AggKind) (least : ExtInt) (ps : List Part)
    → filter (λ (p : Part). in_end b k p.weight (known_of r p.lit)) ps ≡ filter
    (λ (p : Part). in_end b k p.weight (known_of a p.lit)) ps
    → reaches least
    (aggregate_value k (map (λ (p : Part). number p.weight)
    (filter (λ (p : Part). in_end b k p.weight (known_of r p.lit)) ps))) ≡ reaches least
    (aggregate_value k (map (λ (p : Part). number p.weight)
    (filter (λ (p : Part). in_end b k p.weight (known_of a p.lit)) ps)))
same-end r a b k least ps e = ap (λ zs. reaches least (aggregate_value k (map (λ (p : Part). number p.weight) zs))) e

pub reasons-suffice : ReasonsSuffice
reasons-suffice a c e =
    let out = has-result (known_of a c.out) (reaches c.least (least_possible a c.kind c.parts))
    (reaches c.least (greatest_possible a c.kind c.parts)) e in
    let high = asks_high (known_of a c.out) in
    let first = denied (known_of a c.out) c.out in
    let cl = clause_of a c in
    let wrong : All (λ l. known_of a l ≡ Some false) cl =
    All-cons (λ l. known_of a l ≡ Some false) first (reasons a high c.kind c.parts)
    (denied-false a c.out (known_of a c.out) out.0 refl out.1) (reasons-false a high c.kind c.parts) in
    let inside = within a cl wrong in
    let all = covers cl in
    let R : Lit → Type 0 = λ (l : Lit). (b : Bool) × (refuting cl l.var.0 ≡ Some b) in
    let head : (b : Bool) × (refuting cl c.out.var.0 ≡ Some b) =
    subst (λ n. (b : Bool) × (refuting cl n ≡ Some b)) (denied-var (known_of a c.out) c.out)
    (All-head R first (reasons a high c.kind c.parts) all) in
    let same = chosen-same a (refuting cl) inside high c.kind c.parts
    (All-tail R first (reasons a high c.kind c.parts) all) in (
      wrong,
      still-refuted (known_of a c.out) (known_of (refuting cl) c.out) _ _ _ _
          (ap (by_sign_if_any c.out.positive) (inside c.out.var.0 head.0 head.1 ∙ sym head.1))
          (λ is. sym (same-end (refuting cl) a false c.kind c.least c.parts
          (subst (λ b. filter (λ (p : Part). in_end b c.kind p.weight (known_of (refuting cl) p.lit)) c.parts
          ≡ filter (λ (p : Part). in_end b c.kind p.weight (known_of a p.lit)) c.parts) (ap asks_high is) same)))
          (λ is. sym (same-end (refuting cl) a true c.kind c.least c.parts
          (subst (λ b. filter (λ (p : Part). in_end b c.kind p.weight (known_of (refuting cl) p.lit)) c.parts
          ≡ filter (λ (p : Part). in_end b c.kind p.weight (known_of a p.lit)) c.parts) (ap asks_high is) same)))
          e,
    )
