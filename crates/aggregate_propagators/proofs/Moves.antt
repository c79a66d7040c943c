-- A clause of a decided part goes through those parts alone that move the end.
use Rattle.std.proofs.Common.{◌≡◌, ℕ, zero, suc, ℤ, pos, ◌+◌, ◌<◌, ◌-ℤ◌, ◌≤ℤ◌, int_lt, int_le, nat_eq, Bool, true}
use Rattle.std.proofs.Common.{false, if◌then◌else◌, Option, None, List, [], ◌∷◌, ◌++◌, length, take, drop, get_or}
use Rattle.std.proofs.Common.{All, refl, sym, ap, ◌∙◌, arith}
use Rattle.std.specs.List.{AllByRecursion}
use Rattle.std.proofs.lemmas.Bool.Decides.{nat_tests}
use Rattle.std.proofs.lemmas.Int.{ints}
use Rattle.std.proofs.lemmas.List.{length-append, take_more}
use Rattle.std.proofs.lemmas.List.Elements.{All-cons, All-from_recursion, All-nil}
use Rattle.kb_logic.specs.declared.elements.ExtInt.{ExtInt}
use Rattle.kb_logic.specs.declared.syntax.AggKind.{AggKind}
use Rattle.lit_core.specs.declared.literals.Lit.{Lit}
use Rattle.ground_core.specs.declared.parts.Part.{Part}
use Rattle.ground_core.specs.Intervals.{known_of, changed}
use Rattle.aggregate_propagators.specs.declared.movers.Mover.{Mover}
use Rattle.aggregate_propagators.specs.Laws.{HasVarsOnce}
use Rattle.aggregate_propagators.specs.Looking.{mover, movers, needed, spare_after}
use Rattle.aggregate_propagators.specs.Reasons.{denied, in_end}
use Rattle.aggregate_propagators.specs.Spared.{forgotten, spared}
use Rattle.aggregate_propagators.specs.Totals.{gain, gain_if}
use Rattle.aggregate_propagators.proofs.Singles.{eq-back, known-apart}
use Rattle.aggregate_propagators.proofs.Spares.{gap-low, gap-none}

true-false : true ≡ false → ⊥
true-false e = cc

le-of : (x y : ℤ) → int_le x y ≡ true → x ≤ℤ y
le-of x y e = grind (arith, ints, nat_tests)

-- a list by a test, both ways
by-test : {X : Type 0} (t : Bool) (x x2 y y2 : X) → (t ≡ true → x ≡ x2) → (t ≡ false → y ≡ y2)
    → (if t then x else y) ≡ (if t then x2 else y2)
by-test true x x2 y y2 f g = f refl
by-test false x x2 y y2 f g = g refl

put-append : {X : Type 0} (t : Bool) (x : X) (xs ys : List X)
    → (if t then x ∷ (xs ++ ys) else xs ++ ys) ≡ (if t then x ∷ xs else xs) ++ ys
put-append true x xs ys = refl
put-append false x xs ys = refl

chosen : {X : Type 0} (t : Bool) (x y : X) → t ≡ true → (if t then x else y) ≡ x
chosen true x y e = refl
chosen false x y e = absurd (true-false (sym e))

left-out : {X : Type 0} (t : Bool) (x y : X) → t ≡ false → (if t then x else y) ≡ y
left-out true x y e = absurd (true-false e)
left-out false x y e = refl

-- what moves nothing is left out and leaves the spare
zero-of : (by : ℤ) → pos 0 ≤ℤ by → int_lt (pos 0) by ≡ false → by ≡ pos 0
zero-of by low e = grind (arith, ints, nat_tests)

no-less : (spare : ℤ) → spare -ℤ pos 0 ≡ spare
no-less spare = omega (arith, ints)

fits-zero : (spare : ℤ) → pos 0 ≤ℤ spare → int_le (pos 0) spare ≡ true
fits-zero spare low = grind (arith, ints, nat_tests)

abbrev pub one-if : Bool → ℕ
one-if t = if t then 1 else 0

abbrev one : ℤ → Lit → Mover
one by l = record { by = by; lit = l }

-- one part more before the others, where the others are as the list says
module _ (by spare : ℤ) (l : Lit) (F : ℤ → List Lit) (ms : List Mover) (low : pos 0 ≤ℤ by) (some : pos 0 ≤ℤ spare)
    (rest : (s : ℤ) → pos 0 ≤ℤ s → F s ≡ needed s ms) where
  after-it : int_le by spare ≡ true → F (spare -ℤ by) ≡ needed (spare -ℤ by) ms
  after-it e = let le : by ≤ℤ spare = le-of by spare e in rest (spare -ℤ by) (omega (arith, ints, le))

  pub put-first : (if int_le by spare then F (spare -ℤ by) else l ∷ F spare) ≡ needed spare (one by l ∷ ms)
  put-first = by-test (int_le by spare) (F (spare -ℤ by)) (needed (spare -ℤ by) ms) (l ∷ F spare) (l ∷ needed spare ms)
      after-it (λ e. ap (λ ls. l ∷ ls) (rest spare some))

  put-by : (t : Bool) → int_lt (pos 0) by ≡ t → (if int_le by spare then F (spare -ℤ by) else l ∷ F spare)
      ≡ needed spare (if t then one by l ∷ ms else ms)
  put-by true e = put-first
  put-by false e =
      let z : by ≡ pos 0 = zero-of by low e in
      let fits : int_le by spare ≡ true = ap (λ x. int_le x spare) z ∙ fits-zero spare some in
      let same : spare -ℤ by ≡ spare = ap (λ x. spare -ℤ x) z ∙ no-less spare in
      chosen (int_le by spare) (F (spare -ℤ by)) (l ∷ F spare) fits ∙ (after-it fits ∙ ap (λ s. needed s ms) same)

  pub put-mover : (if int_le by spare then F (spare -ℤ by) else l ∷ F spare)
      ≡ needed spare (if int_lt (pos 0) by then one by l ∷ ms else ms)
  put-mover = put-by (int_lt (pos 0) by) refl

module _ (high : Bool) (k : AggKind) (least : ExtInt) where
  abbrev by-of : Part → Option Bool → ℤ
  by-of p o = forgotten high k least p.weight o

  by-low : (p : Part) (o : Option Bool) → pos 0 ≤ℤ by-of p o
  by-low p o = gap-low (gain_if (in_end high k p.weight o) (gain k least p.weight))
      (gain_if (in_end high k p.weight None) (gain k least p.weight))

  none-moves : (p : Part) (o : Option Bool) → o ≡ None → int_lt (pos 0) (by-of p o) ≡ false
  none-moves p o e =
      let z : by-of p o ≡ pos 0 = ap (by-of p) e
      ∙ gap-none (gain_if (in_end high k p.weight None) (gain k least p.weight)) in
      ap (int_lt (pos 0)) z

  -- the reasons that the spare has no room for are those among the parts that move the end
  pub spared-needed : (a : ℕ → Option Bool) (ps : List Part) (spare : ℤ) → pos 0 ≤ℤ spare
      → spared a high k least spare ps ≡ needed spare (movers a high k least ps)
  spared-needed a [] spare some = refl
  spared-needed a (p ∷ ps) spare some =
      put-mover (by-of p (known_of a p.lit)) spare (denied (known_of a p.lit) p.lit)
      (λ s. spared a high k least s ps) (movers a high k least ps) (by-low p (known_of a p.lit)) some
      (λ s low. spared-needed a ps s low)

  -- a value of another variable changes none of them
  abbrev head-step : (a : ℕ → Option Bool) (spare : ℤ) (p : Part) (ps : List Part) → Option Bool → List Lit
  head-step a spare p ps o = if int_le (by-of p o) spare then spared a high k least (spare -ℤ by-of p o) ps
      else denied o p.lit ∷ spared a high k least spare ps

  others-spared : (a : ℕ → Option Bool) (n : ℕ) (b : Bool) (ps : List Part)
      → AllByRecursion (λ (q : Part). nat_eq n q.lit.var.0 ≡ false) ps → (spare : ℤ)
      → spared (changed a n b) high k least spare ps ≡ spared a high k least spare ps
  others-spared a n b [] h spare = refl
  others-spared a n b (p ∷ ps) h spare =
      let o : Option Bool = known_of a p.lit in
      let same : known_of (changed a n b) p.lit ≡ o = known-apart a n b p.lit h.0 in
      ap (head-step (changed a n b) spare p ps) same
      ∙ by-test (int_le (by-of p o) spare) (spared (changed a n b) high k least (spare -ℤ by-of p o) ps)
      (spared a high k least (spare -ℤ by-of p o) ps)
      (denied o p.lit ∷ spared (changed a n b) high k least spare ps) (denied o p.lit ∷ spared a high k least spare ps)
      (λ e. others-spared a n b ps h.1 (spare -ℤ by-of p o))
      (λ e. ap (λ ls. denied o p.lit ∷ ls) (others-spared a n b ps h.1 spare))

  -- the reasons once a part has a value: the others that move the end, and the part at its place
  pub spared-around : (a : ℕ → Option Bool) (b : Bool) (ps : List Part) (i : ℕ) (d : Part) → i < length ps
      → HasVarsOnce ps → (spare : ℤ) → pos 0 ≤ℤ spare
      → spared (changed a (get_or ps i d).lit.var.0 b) high k least spare ps
      ≡ needed spare (movers a high k least (take i ps)
      ++ mover (changed a (get_or ps i d).lit.var.0 b) high k least (get_or ps i d)
      ∷ movers a high k least (drop (suc i) ps))
  spared-around a b [] i d lt h spare some = absurd (omega (arith, lt))
  spared-around a b (p ∷ ps) zero d lt h spare some =
      let now : ℕ → Option Bool = changed a p.lit.var.0 b in
      put-first (by-of p (known_of now p.lit)) spare (denied (known_of now p.lit) p.lit)
      (λ s. spared now high k least s ps) (movers a high k least ps) (by-low p (known_of now p.lit)) some
      (λ s low. others-spared a p.lit.var.0 b ps h.0 s ∙ spared-needed a ps s low)
  spared-around a b (q ∷ ps) (suc i) d lt h spare some =
      let lt2 : i < length ps = omega (arith, lt) in
      let p : Part = get_or ps i d in
      let now : ℕ → Option Bool = changed a p.lit.var.0 b in
      let o : Option Bool = known_of a q.lit in
      let off : nat_eq p.lit.var.0 q.lit.var.0 ≡ false = eq-back q.lit.var.0 p.lit.var.0 (All-from_recursion
      (λ (r : Part). nat_eq q.lit.var.0 r.lit.var.0 ≡ false) ps h.0 i d lt2) in
      let same : known_of now q.lit ≡ o = known-apart a p.lit.var.0 b q.lit off in
      let rest : List Mover = mover now high k least p ∷ movers a high k least (drop (suc i) ps) in
      let front : List Mover = movers a high k least (take i ps) in
      ap (head-step now spare q ps) same
      ∙ (put-mover (by-of q o) spare (denied o q.lit) (λ s. spared now high k least s ps) (front ++ rest) (by-low q o)
      some (λ s low. spared-around a b ps i d lt2 h.1 s low)
      ∙ ap (needed spare) (put-append (int_lt (pos 0) (by-of q o)) (mover a high k least q) front rest))

  -- those that move the end, without an unassigned part
  pub movers-around : (a : ℕ → Option Bool) (ps : List Part) (i : ℕ) (d : Part) → i < length ps
      → known_of a (get_or ps i d).lit ≡ None
      → movers a high k least ps ≡ movers a high k least (take i ps) ++ movers a high k least (drop (suc i) ps)
  movers-around a [] i d lt e = absurd (omega (arith, lt))
  movers-around a (p ∷ ps) zero d lt e = left-out (int_lt (pos 0) (by-of p (known_of a p.lit)))
      (mover a high k least p ∷ movers a high k least ps) (movers a high k least ps)
      (none-moves p (known_of a p.lit) e)
  movers-around a (q ∷ ps) (suc i) d lt e =
      let lt2 : i < length ps = omega (arith, lt) in
      let t : Bool = int_lt (pos 0) (by-of q (known_of a q.lit)) in
      ap (λ ms. if t then mover a high k least q ∷ ms else ms) (movers-around a ps i d lt2 e)
      ∙ put-append t (mover a high k least q) (movers a high k least (take i ps))
      (movers a high k least (drop (suc i) ps))

  movers-append : (a : ℕ → Option Bool) (xs ys : List Part)
      → movers a high k least (xs ++ ys) ≡ movers a high k least xs ++ movers a high k least ys
  movers-append a [] ys = refl
  movers-append a (x ∷ xs) ys =
      let t : Bool = int_lt (pos 0) (by-of x (known_of a x.lit)) in
      ap (λ ms. if t then mover a high k least x ∷ ms else ms) (movers-append a xs ys)
      ∙ put-append t (mover a high k least x) (movers a high k least xs) (movers a high k least ys)

  -- how many there are before the next part
  count-by : (t : Bool) (m : Mover) → length (if t then m ∷ [] else []) ≡ one-if t
  count-by true m = refl
  count-by false m = refl

  pub count-more : (a : ℕ → Option Bool) (ps : List Part) (i : ℕ) (d : Part) → i < length ps
      → length (movers a high k least (take (i + 1) ps)) ≡ length (movers a high k least (take i ps))
      + one-if (int_lt (pos 0) (mover a high k least (get_or ps i d)).by)
  count-more a ps i d lt =
      let p : Part = get_or ps i d in
      let all : movers a high k least (take (i + 1) ps) ≡ movers a high k least (take i ps)
      ++ movers a high k least (p ∷ []) =
      ap (movers a high k least) (take_more ps i d lt) ∙ movers-append a (take i ps) (p ∷ []) in
      ap length all
      ∙ (length-append (movers a high k least (take i ps)) (movers a high k least (p ∷ []))
      ∙ ap (λ n. length (movers a high k least (take i ps)) + n)
      (count-by (int_lt (pos 0) (by-of p (known_of a p.lit))) (mover a high k least p)))

  pub count-same : (a : ℕ → Option Bool) (ps : List Part) (i : ℕ) (d : Part) → i < length ps
      → known_of a (get_or ps i d).lit ≡ None
      → length (movers a high k least (take (i + 1) ps)) ≡ length (movers a high k least (take i ps))
  count-same a ps i d lt e =
      let more = count-more a ps i d lt in
      let none : one-if (int_lt (pos 0) (mover a high k least (get_or ps i d)).by) ≡ 0 =
      ap one-if (none-moves (get_or ps i d) (known_of a (get_or ps i d).lit) e) in
      omega (arith, more, none)

  low-by : (t : Bool) (m : Mover) (ms : List Mover) → pos 0 ≤ℤ m.by → All (λ (n : Mover). pos 0 ≤ℤ n.by) ms
      → All (λ (n : Mover). pos 0 ≤ℤ n.by) (if t then m ∷ ms else ms)
  low-by true m ms h g = All-cons (λ (n : Mover). pos 0 ≤ℤ n.by) m ms h g
  low-by false m ms h g = g

  pub movers-low : (a : ℕ → Option Bool) (ps : List Part)
      → All (λ (m : Mover). pos 0 ≤ℤ m.by) (movers a high k least ps)
  movers-low a [] = All-nil (λ (m : Mover). pos 0 ≤ℤ m.by)
  movers-low a (p ∷ ps) = low-by (int_lt (pos 0) (by-of p (known_of a p.lit))) (mover a high k least p)
      (movers a high k least ps) (by-low p (known_of a p.lit)) (movers-low a ps)

-- what is needed of two lists
by-both : (t : Bool) (l : Lit) (less more : List Lit) (s u : ℤ) (rest : ℤ → List Lit) (xs ys : List Lit)
    → xs ≡ less ++ rest s → ys ≡ more ++ rest u
    → (if t then xs else l ∷ ys) ≡ (if t then less else l ∷ more) ++ rest (if t then s else u)
by-both true l less more s u rest xs ys e f = e
by-both false l less more s u rest xs ys e f = ap (λ ls. l ∷ ls) f

pub needed-append : (spare : ℤ) (xs ys : List Mover)
    → needed spare (xs ++ ys) ≡ needed spare xs ++ needed (spare_after spare xs) ys
needed-append spare [] ys = refl
needed-append spare (m ∷ xs) ys =
    by-both (int_le m.by spare) m.lit (needed (spare -ℤ m.by) xs) (needed spare xs) (spare_after (spare -ℤ m.by) xs)
    (spare_after spare xs) (λ s. needed s ys) (needed (spare -ℤ m.by) (xs ++ ys)) (needed spare (xs ++ ys))
    (needed-append (spare -ℤ m.by) xs ys) (needed-append spare xs ys)
