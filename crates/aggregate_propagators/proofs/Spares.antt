-- A contradiction bears that as much is forgotten as its margin has room for.
use Rattle.std.proofs.Common.{◌≡◌, ℕ, ℤ, pos, ◌+ℤ◌, ◌-ℤ◌, ◌≤ℤ◌, int_lt, int_le, Bool, true, false, if◌then◌else◌}
use Rattle.std.proofs.Common.{Option, Some, None, List, [], ◌∷◌, All, refl, sym, ap, ◌∙◌, subst, arith}
use Rattle.std.proofs.lemmas.Bool.Decides.{nat_tests}
use Rattle.std.proofs.lemmas.Int.{ints}
use Rattle.std.proofs.lemmas.List.Elements.{All-cons, All-nil, All-head, All-tail, All-push, All-pop}
use Rattle.kb_logic.specs.declared.elements.ExtInt.{ExtInt}
use Rattle.kb_logic.specs.declared.elements.ExtInt.TheVariants.{NegInf, Num, PosInf}
use Rattle.kb_logic.specs.declared.syntax.AggKind.{AggKind}
use Rattle.lit_core.specs.declared.literals.Lit.{Lit}
use Rattle.lit_core.specs.Literals.{by_sign_if_any}
use Rattle.ground_core.specs.declared.parts.Part.{Part}
use Rattle.ground_core.specs.Intervals.{known_of, reaches, refuting, least_possible, greatest_possible}
use Rattle.aggregate_propagators.specs.Reasons.{asks_high, denied, differ, in_end}
use Rattle.aggregate_propagators.specs.Totals.{gain, gain_if, goal_of, met, with_side}
use Rattle.aggregate_propagators.specs.Once.{end_total}
use Rattle.aggregate_propagators.specs.Spared.{gap, forgotten, spared, spare_of, spare_at, short_clause_of}
use Rattle.aggregate_propagators.specs.Spared.{FewReasonsSuffice}
use Rattle.aggregate_propagators.proofs.Causes.{denied-false, within, covers, denied-var, has-result}
use Rattle.aggregate_propagators.proofs.Deciding.{by-total}

-- how far numbers are apart
abbrev AreWithin : ℤ → ℤ → ℤ → Type 0
AreWithin d x y = (x ≤ℤ (y +ℤ d)) × (y ≤ℤ (x +ℤ d))

gap-by : (x y : ℤ) (t : Bool) → int_lt x y ≡ t → AreWithin (if t then y -ℤ x else x -ℤ y) y x
gap-by x y true e = (grind (arith, ints, nat_tests), grind (arith, ints, nat_tests))
gap-by x y false e = (grind (arith, ints, nat_tests), grind (arith, ints, nat_tests))

gap-within : (x y : ℤ) → AreWithin (gap x y) y x
gap-within x y = gap-by x y (int_lt x y) refl

gap-low-by : (x y : ℤ) (t : Bool) → int_lt x y ≡ t → pos 0 ≤ℤ (if t then y -ℤ x else x -ℤ y)
gap-low-by x y true e = grind (arith, ints, nat_tests)
gap-low-by x y false e = grind (arith, ints, nat_tests)

pub gap-low : (x y : ℤ) → pos 0 ≤ℤ gap x y
gap-low x y = gap-low-by x y (int_lt x y) refl

gap-none-by : (x : ℤ) (t : Bool) → int_lt x x ≡ t → (if t then x -ℤ x else x -ℤ x) ≡ pos 0
gap-none-by x true e = omega (arith, ints)
gap-none-by x false e = omega (arith, ints)

pub gap-none : (x : ℤ) → gap x x ≡ pos 0
gap-none x = gap-none-by x (int_lt x x) refl

le-of : (x y : ℤ) → int_le x y ≡ true → x ≤ℤ y
le-of x y e = grind (arith, ints, nat_tests)

le-zero : (y : ℤ) → pos 0 ≤ℤ y → int_le (pos 0) y ≡ true
le-zero y h = grind (arith, ints, nat_tests)

true-false : true ≡ false → ⊥
true-false e = cc

none-some : (x : Bool) → None ≡ Some x → ⊥
none-some x e = cc

-- literals of reasons are false
all-false : (a : ℕ → Option Bool) (high : Bool) (k : AggKind) (least : ExtInt) (ps : List Part) (spare : ℤ)
    → pos 0 ≤ℤ spare → All (λ l. known_of a l ≡ Some false) (spared a high k least spare ps)
all-false a high k least [] spare low = All-nil (λ l. known_of a l ≡ Some false)
all-false a high k least (p ∷ ps) spare low = step (λ s l. all-false a high k least ps s l) (known_of a p.lit)
    (int_le by spare) refl refl
  where
    by : ℤ
    by = forgotten high k least p.weight (known_of a p.lit)

    kept : (o : Option Bool) → known_of a p.lit ≡ o → int_le by spare ≡ false → (x : Bool) × (o ≡ Some x)
    kept (Some x) e f = (x, refl)
    kept None e f =
        let none : by ≡ pos 0 = ap (forgotten high k least p.weight) e
        ∙ gap-none (gain_if (in_end high k p.weight None) (gain k least p.weight)) in
        absurd (true-false (sym (le-zero spare low) ∙ ap (λ z. int_le z spare) (sym none) ∙ f))

    step : ((s : ℤ) → pos 0 ≤ℤ s → All (λ l. known_of a l ≡ Some false) (spared a high k least s ps))
        → (o : Option Bool) (t : Bool) → known_of a p.lit ≡ o → int_le by spare ≡ t
        → All (λ l. known_of a l ≡ Some false) (if t then spared a high k least (spare -ℤ by) ps else denied
        (known_of a p.lit) p.lit ∷ spared a high k least spare ps)
    step again o true e f =
        let le : by ≤ℤ spare = le-of by spare f in
        again (spare -ℤ by) (omega (arith, ints, le))
    step again o false e f =
        let v = kept o e f in
        All-cons (λ l. known_of a l ≡ Some false) (denied (known_of a p.lit) p.lit) (spared a high k least spare ps)
        (denied-false a p.lit (known_of a p.lit) v.0 refl (e ∙ v.1)) (again spare low)

-- an assignment that keeps those values has about the same total
module _ (a r : ℕ → Option Bool) (inside : (n : ℕ) (b : Bool) → r n ≡ Some b → a n ≡ Some b) (high : Bool) (k : AggKind)
    (least : ExtInt) where
  portion : Part → Option Bool → ℤ
  portion p o = gain_if (in_end high k p.weight o) (gain k least p.weight)

  near-by : (p : Part) (q : Option Bool) → r p.lit.var.0 ≡ q
      → AreWithin (forgotten high k least p.weight (known_of a p.lit))
      (gain_if (in_end high k p.weight (by_sign_if_any p.lit.positive q)) (gain k least p.weight))
      (gain_if (in_end high k p.weight (known_of a p.lit)) (gain k least p.weight))
  near-by p None e = gap-within (gain_if (in_end high k p.weight (known_of a p.lit)) (gain k least p.weight))
      (gain_if (in_end high k p.weight None) (gain k least p.weight))
  near-by p (Some b) e =
      let same : gain_if (in_end high k p.weight (by_sign_if_any p.lit.positive (Some b))) (gain k least p.weight)
      ≡ gain_if (in_end high k p.weight (known_of a p.lit)) (gain k least p.weight) =
      ap (λ o. gain_if (in_end high k p.weight (by_sign_if_any p.lit.positive o)) (gain k least p.weight))
      (sym (inside p.lit.var.0 b e)) in
      let low = gap-low (gain_if (in_end high k p.weight (known_of a p.lit)) (gain k least p.weight))
      (gain_if (in_end high k p.weight None) (gain k least p.weight)) in
      (omega (arith, ints, same, low), omega (arith, ints, same, low))

  part-near : (p : Part) → AreWithin (forgotten high k least p.weight (known_of a p.lit))
      (gain_if (in_end high k p.weight (known_of r p.lit)) (gain k least p.weight))
      (gain_if (in_end high k p.weight (known_of a p.lit)) (gain k least p.weight))
  part-near p = near-by p (r p.lit.var.0) refl

  part-same : (p : Part) (b : Bool) → r p.lit.var.0 ≡ Some b
      → gain_if (in_end high k p.weight (known_of r p.lit)) (gain k least p.weight) ≡ gain_if
      (in_end high k p.weight (known_of a p.lit)) (gain k least p.weight)
  part-same p b e = ap (λ o. gain_if (in_end high k p.weight (by_sign_if_any p.lit.positive o)) (gain k least p.weight))
      (e ∙ sym (inside p.lit.var.0 b e))

  near-left : (x y d s u w : ℤ) → AreWithin d x y → AreWithin (s -ℤ d) u w → AreWithin s (x +ℤ u) (y +ℤ w)
  near-left x y d s u w g h =
      let g0 = g.0 in let g1 = g.1 in let h0 = h.0 in let h1 =
      h.1 in (omega (arith, ints, g0, h0), omega (arith, ints, g1, h1))

  near-kept : (x y s u w : ℤ) → x ≡ y → AreWithin s u w → AreWithin s (x +ℤ u) (y +ℤ w)
  near-kept x y s u w e h = let h0 = h.0 in let h1 = h.1 in (omega (arith, ints, e, h0), omega (arith, ints, e, h1))

  pub total-near : (ps : List Part) (spare : ℤ) → pos 0 ≤ℤ spare
      → All (λ (l : Lit). (b : Bool) × (r l.var.0 ≡ Some b)) (spared a high k least spare ps)
      → AreWithin spare (end_total r high k least ps) (end_total a high k least ps)
  total-near [] spare low h = (omega (arith, ints, low), omega (arith, ints, low))
  total-near (p ∷ ps) spare low h = step (λ s l g. total-near ps s l g) (int_le by spare) refl h
    where
      by : ℤ
      by = forgotten high k least p.weight (known_of a p.lit)

      step : ((s : ℤ) → pos 0 ≤ℤ s → All (λ (l : Lit). (b : Bool) × (r l.var.0 ≡ Some b)) (spared a high k least s ps)
          → AreWithin s (end_total r high k least ps) (end_total a high k least ps))
          → (t : Bool) → int_le by spare ≡ t → All (λ (l : Lit). (b : Bool) × (r l.var.0 ≡ Some b))
          (if t then spared a high k least (spare -ℤ by) ps else denied (known_of a p.lit) p.lit
          ∷ spared a high k least spare ps)
          → AreWithin spare (end_total r high k least (p ∷ ps)) (end_total a high k least (p ∷ ps))
      step again true e h =
          let le : by ≤ℤ spare = le-of by spare e in
          near-left (gain_if (in_end high k p.weight (known_of r p.lit)) (gain k least p.weight))
          (gain_if (in_end high k p.weight (known_of a p.lit)) (gain k least p.weight)) by spare
          (end_total r high k least ps) (end_total a high k least ps)
          (part-near p) (again (spare -ℤ by) (omega (arith, ints, le)) h)
      step again false e h =
          let H : Lit → Type 0 = λ l. (b : Bool) × (r l.var.0 ≡ Some b) in
          let v : (b : Bool) × (r p.lit.var.0 ≡ Some b) =
          subst (λ n. (b : Bool) × (r n ≡ Some b)) (denied-var (known_of a p.lit) p.lit)
          (All-head H (denied (known_of a p.lit) p.lit) (spared a high k least spare ps) h) in
          near-kept (gain_if (in_end high k p.weight (known_of r p.lit)) (gain k least p.weight))
          (gain_if (in_end high k p.weight (known_of a p.lit)) (gain k least p.weight)) spare
          (end_total r high k least ps) (end_total a high k least ps)
          (part-same p v.0 v.1)
          (again spare low (All-tail H (denied (known_of a p.lit) p.lit) (spared a high k least spare ps) h))

-- sums that are near are on the same side of the goal
met-by : (g s t : ℤ) (x : Bool) → int_le g s ≡ x → AreWithin (if x then s -ℤ g else (g -ℤ pos 1) -ℤ s) t s
    → int_le g t ≡ x
met-by g s t true e h = let h1 = h.1 in grind (arith, ints, nat_tests, h1)
met-by g s t false e h = let h0 = h.0 in grind (arith, ints, nat_tests, h0)

met-near : (g : ExtInt) (s t : ℤ) → AreWithin (spare_of g s) t s → met g t ≡ met g s
met-near NegInf s t h = refl
met-near (Num g) s t h = met-by g s t (int_le g s) refl h
met-near PosInf s t h = refl

spare-by : (g s : ℤ) (x : Bool) → int_le g s ≡ x → pos 0 ≤ℤ (if x then s -ℤ g else (g -ℤ pos 1) -ℤ s)
spare-by g s true e = grind (arith, ints, nat_tests)
spare-by g s false e = grind (arith, ints, nat_tests)

pub spare-low : (g : ExtInt) (s : ℤ) → pos 0 ≤ℤ spare_of g s
spare-low NegInf s = omega (arith, ints)
spare-low (Num g) s = spare-by g s (int_le g s) refl
spare-low PosInf s = omega (arith, ints)

pub few-suffice : FewReasonsSuffice
few-suffice a c e =
    let o = known_of a c.out in
    let v = has-result o (reaches c.least (least_possible a c.kind c.parts))
    (reaches c.least (greatest_possible a c.kind c.parts)) e in
    let high = asks_high o in
    let out : o ≡ Some high = v.1 ∙ ap Some (sym (ap asks_high v.1)) in
    let spare = spare_at a high c in
    let sum = end_total a high c.kind c.least c.parts in
    let low : pos 0 ≤ℤ spare = spare-low (goal_of c.kind c.least) sum in
    let first = denied o c.out in
    let rest = spared a high c.kind c.least spare c.parts in
    let cl = short_clause_of a c in
    let r = refuting cl in
    let wrong : All (λ l. known_of a l ≡ Some false) cl =
    All-push (λ l. known_of a l ≡ Some false) rest first (all-false a high c.kind c.least c.parts spare low)
    (denied-false a c.out o v.0 refl v.1) in
    let inside = within a cl wrong in
    let H : Lit → Type 0 = λ l. (b : Bool) × (r l.var.0 ≡ Some b) in
    let all : All H rest × H first = All-pop H cl rest (Some first) refl (covers cl) in
    let head : (b : Bool) × (r c.out.var.0 ≡ Some b) =
    subst (λ n. (b : Bool) × (r n ≡ Some b)) (denied-var o c.out) all.1 in
    let same-out : known_of r c.out ≡ Some high = ap (by_sign_if_any c.out.positive)
    (head.1 ∙ sym (inside c.out.var.0 head.0 head.1)) ∙ out in
    let near = total-near a r inside high c.kind c.least c.parts spare low all.0 in
    let side : met (goal_of c.kind c.least) (end_total r high c.kind c.least c.parts) ≡ met
    (goal_of c.kind c.least) sum = met-near (goal_of c.kind c.least) sum
    (end_total r high c.kind c.least c.parts) near in (
      wrong,
      sym (by-total r c high same-out) ∙ (ap (λ m. differ high (with_side c.kind m)) side
          ∙ (by-total a c high out ∙ e)),
    )
