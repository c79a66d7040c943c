-- The clauses of a constraint.
use Rattle.std.proofs.Common.{◌≡◌, ◌↔◌, ℕ, ◌+◌, ◌<◌, ◌≤◌, ℤ, pos, ◌≤ℤ◌, inl, suc, Bool, true, false, Option, Some}
use Rattle.std.proofs.Common.{None, List, [], ◌∷◌, ◌++◌, length, take, drop, get_or, All, sym, ap, ◌∙◌, subst, arith}
use Rattle.std.proofs.lemmas.List.{append_assoc, drop_at, length-append, length_push, take_at, take_more}
use Rattle.std.proofs.lemmas.List.Elements.{All-cons, All-contains, All-more, All-nil, All-pop, Contains-get_or}
use Rattle.lit_core.specs.declared.literals.Lit.{Lit}
use Rattle.ground_core.specs.declared.parts.Part.{Part}
use Rattle.ground_core.specs.declared.parts.AggCon.{AggCon}
use Rattle.ground_core.specs.Intervals.{known_of, changed, contradicts, IsOpenAt, IsQuiet}
use Rattle.lit_core.specs.Literals.{by_sign_if_any}
use Rattle.aggregate_propagators.specs.declared.movers.Mover.{Mover}
use Rattle.aggregate_propagators.specs.declared.single.End.{End}
use Rattle.aggregate_propagators.specs.declared.thresholds.Threshold.{Threshold}
use Rattle.aggregate_propagators.specs.Implied.{assigned, under, AreOpen, Decides, Follows}
use Rattle.aggregate_propagators.specs.Laws.{HasVarsOnce}
use Rattle.aggregate_propagators.specs.Looking.{IsEndOf, mover, movers, needed, spare_after}
use Rattle.aggregate_propagators.specs.Once.{end_total, moved}
use Rattle.aggregate_propagators.specs.Reasons.{asks_high, denied}
use Rattle.aggregate_propagators.specs.Spared.{short_clause_of, spare_at, spare_of, spared}
use Rattle.aggregate_propagators.specs.Thresholds.{amount_of, constraint_of}
use Rattle.aggregate_propagators.specs.Totals.{goal_of}
use Rattle.aggregate_propagators.proofs.Acting.{is-alone, is-false, is-held, is-unit}
use Rattle.aggregate_propagators.proofs.Moves.{movers-around, movers-low, needed-append, spared-around}
use Rattle.aggregate_propagators.proofs.Singles.{apart-by-value, known-apart, moved-total, none-under}
use Rattle.aggregate_propagators.proofs.Spares.{spare-low}
use Rattle.aggregate_propagators.proofs.Variables.{of-sum}

pub follows-now : (xs : List (Option Bool)) (c : AggCon) (cl : List Lit) → cl ≡ short_clause_of (assigned xs) c
    → contradicts (assigned xs) c ≡ true → Follows xs c cl
follows-now xs c cl e w = record {
  holds = is-held (assigned xs) c cl e w;
  acts = inl (is-false xs c cl e w);
  alone = is-alone (assigned xs) c cl e w;
  variables = of-sum (assigned xs) c cl e;
}

pub follows-decided : (xs : List (Option Bool)) (c : AggCon) (l : Lit) (cl : List Lit)
    → cl ≡ short_clause_of (under (assigned xs) (Some l)) c → Decides (assigned xs) c l → Follows xs c cl
follows-decided xs c l cl e d = record {
  holds = is-held (under (assigned xs) (Some l)) c cl e d.wrong;
  acts = is-unit xs c l cl e d;
  alone = is-alone (under (assigned xs) (Some l)) c cl e d.wrong;
  variables = of-sum (under (assigned xs) (Some l)) c cl e;
}

-- the list of one clause
pub follows-alone : (xs : List (Option Bool)) (c : AggCon) (cl : List Lit) (cls : List (List Lit)) → cls ≡ cl ∷ []
    → Follows xs c cl → All (Follows xs c) cls
follows-alone xs c cl cls e h = subst (All (Follows xs c)) (sym e)
    (All-cons (Follows xs c) cl [] h (All-nil (Follows xs c)))

pub not-nil : {X : Type 0} (xs : List X) (x : X) → xs ++ x ∷ [] ≡ [] → ⊥
not-nil xs x e =
    let more : length (xs ++ x ∷ []) ≡ length xs + 1 = length_push xs x in
    let none : length (xs ++ x ∷ []) ≡ 0 = ap length e in
    omega (arith, more, none)

pub not-alone : (Q : Type 0) (cl : List Lit) (cls : List (List Lit)) → cls ≡ cl ∷ [] → (Q → ⊥) → (cls ≡ []) ↔ Q
not-alone Q cl cls e never = (λ f. absurd (not-nil [] cl (sym e ∙ f)), λ q. absurd (never q))

-- there are clauses exactly where a part so far is decided
module _ (O : Part → Type 0) (ps : List Part) (i : ℕ) (d : Part) (lt : i < length ps) (cls : List (List Lit)) where
  fewer : All O (take (i + 1) ps) → All O (take i ps) × O (get_or ps i d)
  fewer = All-pop O (take (i + 1) ps) (take i ps) (Some (get_or ps i d)) (take_more ps i d lt)

  pub none-more : (cls ≡ []) ↔ All O (take i ps) → O (get_or ps i d) → (cls ≡ []) ↔ All O (take (i + 1) ps)
  none-more h o = (λ e. All-more O ps i d lt (h.0 e) o, λ all. h.1 (fewer all).0)

  pub some-more : (cl : List Lit) (more : List (List Lit)) → more ≡ cls ++ cl ∷ [] → (O (get_or ps i d) → ⊥)
      → (more ≡ []) ↔ All O (take (i + 1) ps)
  some-more cl more e never = (λ f. absurd (not-nil cls cl (sym e ∙ f)), λ all. absurd (never (fewer all).1))

-- where nothing is contradicted and all literals are open, the constraint is quiet
pub open-quiet : (a : ℕ → Option Bool) (c : AggCon) → contradicts a c ≡ false → AreOpen a c → IsQuiet a c
open-quiet a c fine h = record {
  fine = fine;
  out = h.0;
  parts = λ p has. All-contains (λ (q : Part). IsOpenAt a c q.lit) c.parts p h.1 has;
}

-- a literal of the same variable is unassigned, too
pub none-here : (a : ℕ → Option Bool) (l m : Lit) → l.var.0 ≡ m.var.0 → known_of a l ≡ None → known_of a m ≡ None
none-here a l m e n = ap (by_sign_if_any m.positive) (ap a (sym e) ∙ none-under l.positive (a l.var.0) n)

-- the parts that move the end, before and after one without a value
module _ (a : ℕ → Option Bool) (e : End) (ps : List Part) (i : ℕ) (d : Part) (lt : i < length ps)
    (none : known_of a (get_or ps i d).lit ≡ None) (count : ℕ)
    (counts : count ≡ length (movers a e.high e.of.kind (amount_of e.of.least) (take i ps))) (all : List Mover)
    (is : all ≡ movers a e.high e.of.kind (amount_of e.of.least) ps) where
  abbrev moving : List Part → List Mover
  moving = movers a e.high e.of.kind (amount_of e.of.least)

  both : all ≡ moving (take i ps) ++ moving (drop (suc i) ps)
  both = is ∙ movers-around e.high e.of.kind (amount_of e.of.least) a ps i d lt none

  pub count-within : count ≤ length all
  count-within =
      let size : length all ≡ length (moving (take i ps) ++ moving (drop (suc i) ps)) = ap length both in
      let sum = length-append (moving (take i ps)) (moving (drop (suc i) ps)) in
      omega (arith, size, sum, counts)

  pub front-movers : take count all ≡ moving (take i ps)
  front-movers = ap (take count) both ∙ take_at (moving (take i ps)) (moving (drop (suc i) ps)) count (sym counts)

  pub back-movers : drop count all ≡ moving (drop (suc i) ps)
  back-movers = ap (drop count) both ∙ drop_at (moving (take i ps)) (moving (drop (suc i) ps)) count (sym counts)

  pub front-low : (xs : List Mover) → xs ≡ take count all → All (λ (m : Mover). pos 0 ≤ℤ m.by) xs
  front-low xs e2 = subst (All (λ (m : Mover). pos 0 ≤ℤ m.by)) (sym (e2 ∙ front-movers))
      (movers-low e.high e.of.kind (amount_of e.of.least) a (take i ps))

  pub back-low : (xs : List Mover) → xs ≡ drop count all → All (λ (m : Mover). pos 0 ≤ℤ m.by) xs
  back-low xs e2 = subst (All (λ (m : Mover). pos 0 ≤ℤ m.by)) (sym (e2 ∙ back-movers))
      (movers-low e.high e.of.kind (amount_of e.of.least) a (drop (suc i) ps))

-- the clause of parts that were walked one list after another
pub walked : (s s2 s3 : ℤ) (xs own ys : List Mover) (c0 c1 c2 c3 c4 : List Lit) (o : Lit) → c0 ≡ []
    → c1 ≡ c0 ++ needed s xs → s2 ≡ spare_after s xs → c2 ≡ c1 ++ needed s2 own → s3 ≡ spare_after s2 own
    → c3 ≡ c2 ++ needed s3 ys → c4 ≡ c3 ++ o ∷ [] → c4 ≡ needed s (xs ++ (own ++ ys)) ++ o ∷ []
walked s s2 s3 xs own ys c0 c1 c2 c3 c4 o e0 e1 f1 e2 f2 e3 e4 =
    let one : c1 ≡ needed s xs = e1 ∙ ap (λ c. c ++ needed s xs) e0 in
    let two : c2 ≡ needed s xs ++ needed s2 own = e2 ∙ ap (λ c. c ++ needed s2 own) one in
    let three : c3 ≡ needed s xs ++ (needed s2 own ++ needed s3 ys) = e3
    ∙ (ap (λ c. c ++ needed s3 ys) two ∙ append_assoc (needed s xs) (needed s2 own) (needed s3 ys)) in
    let rest : needed s2 (own ++ ys) ≡ needed s2 own ++ needed s3 ys = needed-append s2 own ys
    ∙ ap (λ z. needed s2 own ++ needed z ys) (sym f2) in
    let all : needed s (xs ++ (own ++ ys)) ≡ needed s xs ++ (needed s2 own ++ needed s3 ys) =
    needed-append s xs (own ++ ys) ∙ (ap (λ z. needed s xs ++ needed z (own ++ ys)) (sym f1)
    ∙ ap (λ c. needed s xs ++ c) rest) in
    e4 ∙ ap (λ c. c ++ o ∷ []) (three ∙ sym all)

same-clause : (s : ℤ) (o : Lit) (xs xs2 ys ys2 : List Mover) (m m2 : Mover) → xs ≡ xs2 → m ≡ m2 → ys ≡ ys2
    → needed s (xs ++ m ∷ ys) ++ o ∷ [] ≡ needed s (xs2 ++ m2 ∷ ys2) ++ o ∷ []
same-clause s o xs xs2 ys ys2 m m2 e f g = ap (λ z. needed s (z ++ m ∷ ys) ++ o ∷ []) e
    ∙ (ap (λ z. needed s (xs2 ++ z ∷ ys) ++ o ∷ []) f ∙ ap (λ z. needed s (xs2 ++ m2 ∷ z) ++ o ∷ []) g)

-- the clause at a moved end
abbrev pub clause_here : (a now : ℕ → Option Bool) (ps : List Part) (e m : End) (i : ℕ) → Part → List Lit
clause_here a now ps e m i p =
    needed (spare_of (goal_of m.of.kind (amount_of m.of.least)) m.sum)
    (movers a e.high e.of.kind (amount_of e.of.least) (take i ps)
    ++ mover now e.high e.of.kind (amount_of e.of.least) p
    ∷ movers a e.high e.of.kind (amount_of e.of.least) (drop (suc i) ps))
    ++ denied (Some m.high) m.of.out ∷ []

module _ (a : ℕ → Option Bool) (ps : List Part) (e m : End) (i : ℕ) (d : Part) (is : IsEndOf a ps e)
    (once : HasVarsOnce ps) (lt : i < length ps) (none : known_of a (get_or ps i d).lit ≡ None) (of : m.of ≡ e.of)
    (high : m.high ≡ e.high) where
  abbrev p : Part
  p = get_or ps i d

  abbrev con : AggCon
  con = constraint_of e.of ps

  at-var : (b : Bool)
      → m.sum ≡ moved e.high con.kind con.least p.weight (known_of (changed a p.lit.var.0 b) p.lit) e.sum
      → clause_here a (changed a p.lit.var.0 b) ps e m i p ≡ short_clause_of (changed a p.lit.var.0 b) con
  at-var b sum =
      let now : ℕ → Option Bool = changed a p.lit.var.0 b in
      let out : known_of now con.out ≡ Some e.high = known-apart a p.lit.var.0 b con.out
      (apart-by-value a p.lit con.out e.high none is.out) ∙ is.out in
      let total : m.sum ≡ end_total now e.high con.kind con.least ps = sum
      ∙ (ap (moved e.high con.kind con.least p.weight (known_of now p.lit)) is.sum
      ∙ sym (moved-total e.high con.kind con.least a ps p b (Contains-get_or ps i d lt) once none)) in
      let spare : spare_of (goal_of m.of.kind (amount_of m.of.least)) m.sum ≡ spare_at now e.high con =
      ap (λ (t : Threshold). spare_of (goal_of t.kind (amount_of t.least)) m.sum) of
      ∙ ap (spare_of (goal_of con.kind con.least)) total in
      let walk : needed (spare_at now e.high con) (movers a e.high con.kind con.least (take i ps)
      ++ mover now e.high con.kind con.least p ∷ movers a e.high con.kind con.least (drop (suc i) ps))
      ≡ spared now e.high con.kind con.least (spare_at now e.high con) ps =
      sym (spared-around e.high con.kind con.least a b ps i d lt once (spare_at now e.high con)
      (spare-low (goal_of con.kind con.least) (end_total now e.high con.kind con.least ps))) in
      let last : denied (Some m.high) m.of.out ≡ denied (Some e.high) con.out =
      ap (λ (t : Threshold). denied (Some m.high) t.out) of ∙ ap (λ h. denied (Some h) con.out) high in
      ap (λ z. needed z (movers a e.high con.kind con.least (take i ps)
      ++ mover now e.high con.kind con.least p ∷ movers a e.high con.kind con.least (drop (suc i) ps))
      ++ denied (Some m.high) m.of.out ∷ []) spare
      ∙ (ap (λ ls. ls ++ denied (Some m.high) m.of.out ∷ []) walk
      ∙ (ap (λ l. spared now e.high con.kind con.least (spare_at now e.high con) ps ++ l ∷ []) last
      ∙ ap (λ o. spared now (asks_high o) con.kind con.least (spare_at now (asks_high o) con) ps
      ++ denied o con.out ∷ []) (sym out)))

  by-lit : (l : Lit) → l.var.0 ≡ p.lit.var.0
      → m.sum ≡ moved e.high con.kind con.least p.weight (known_of (under a (Some l)) p.lit) e.sum
      → clause_here a (under a (Some l)) ps e m i p ≡ short_clause_of (under a (Some l)) con
  by-lit l var =
      subst (λ n. m.sum ≡ moved e.high con.kind con.least p.weight (known_of (changed a n l.positive) p.lit) e.sum
      → clause_here a (changed a n l.positive) ps e m i p ≡ short_clause_of (changed a n l.positive) con) (sym var)
      (at-var l.positive)

  pub decided-clause : (l : Lit) (o : Option Bool) (xs ys : List Mover) (own : Mover) (cl : List Lit)
      → l.var.0 ≡ p.lit.var.0 → o ≡ known_of (under a (Some l)) p.lit
      → m.sum ≡ moved e.high con.kind con.least p.weight o e.sum
      → xs ≡ movers a e.high con.kind con.least (take i ps) → own ≡ mover (under a (Some l)) e.high con.kind con.least p
      → ys ≡ movers a e.high con.kind con.least (drop (suc i) ps)
      → cl ≡ needed (spare_of (goal_of m.of.kind (amount_of m.of.least)) m.sum) (xs ++ own ∷ ys)
      ++ denied (Some m.high) m.of.out ∷ [] → cl ≡ short_clause_of (under a (Some l)) con
  decided-clause l o xs ys own cl var value sum front here back is-clause =
      is-clause
      ∙ (same-clause (spare_of (goal_of m.of.kind (amount_of m.of.least)) m.sum) (denied (Some m.high) m.of.out) xs
      (movers a e.high con.kind con.least (take i ps)) ys (movers a e.high con.kind con.least (drop (suc i) ps)) own
      (mover (under a (Some l)) e.high con.kind con.least p) front here back
      ∙ by-lit l var (sum ∙ ap (λ u. moved e.high con.kind con.least p.weight u e.sum) value))
