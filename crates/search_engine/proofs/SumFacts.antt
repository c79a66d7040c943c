-- What constraints on sums imply, in a search.
use Rattle.std.proofs.Common.{◌≡◌, ℕ, ◌+◌, ◌<◌, ◌≤◌, Bool, false, Option, Some, None, List, [], ◌∷◌, ◌++◌, length}
use Rattle.std.proofs.Common.{slice_get, slice_index_or}
use Rattle.std.proofs.Common.{refl, sym, ap, subst, ◌⊎◌, inl, inr, ⊎_elim, arith, All, Any, Contains}
use Rattle.std.specs.Global.{Vec}
use Rattle.std.specs.Prelude.{IfSome, IsSome}
use Rattle.std.proofs.lemmas.List.Elements.{All-weaker, All-contains}
use Rattle.std.proofs.lemmas.Option.{get_or_from_slice_get, slice_get_within}
use Rattle.lit_core.specs.declared.literals.Lit.{Lit}
use Rattle.lit_core.specs.Literals.{value_in, by_sign_if_any}
use Rattle.lit_core.specs.Truth.{IsFalsified, IsUnitAt}
use Rattle.clause_store.specs.StoreState.{StoreState, Implies, IsConflict, IsEachOnceOf, IsStore, with_clause}
use Rattle.ground_core.specs.declared.parts.AggCon.{AggCon}
use Rattle.ground_core.specs.declared.parts.Part.{Part}
use Rattle.ground_core.specs.Problems.{ProblemState, IsProblem, IsLitOf, IsSumOf}
use Rattle.aggregate_propagators.specs.Implied.{IsOfSum, IsWithin}
use Rattle.sum_ledger.specs.declared.consequences.Consequence.{Consequence}
use Rattle.sum_ledger.specs.declared.consequences.Consequences.{Consequences}
use Rattle.sum_ledger.specs.Asking.{IsImplied, IsImpliedAt}
use Rattle.search_decisions.specs.Scores.{HaveValues}
use Rattle.sum_ledger.specs.declared.ledger.Ledger.{Ledger}
use Rattle.search_engine.specs.declared.engine.Engine.{Engine}
use Rattle.search_engine.specs.Knowledge.{Occurs}
use Rattle.search_engine.specs.Searching.{AheadAt, IsExplained, IsSearch, IsTurn, StandsAt}
use Rattle.search_engine.proofs.DecideFacts.{with_ledger, with_passing, with_store}
use Rattle.search_engine.proofs.PassingFacts.{passing-moves}
use Rattle.search_engine.proofs.Explained.{ahead-explained, conflict-explained, explained-range, search-explained}
use Rattle.search_engine.proofs.Explained.{stands-explained, turn-explained, unit-explained}

-- the constraints' variables have places
pub sums-within : (p : ProblemState) (xs : List (Option Bool)) → IsProblem p → p.vars < length xs
    → All (IsWithin xs) p.sums
sums-within p xs fine sized = All-weaker (IsSumOf p.vars) (IsWithin xs)
    (λ s of. (
      (let high : s.out.var.0 ≤ p.vars = of.0.1 in omega (arith, high, sized)),
      All-weaker (λ (t : Part). IsLitOf p.vars t.lit) (λ (t : Part). t.lit.var.0 < length xs)
          (λ t lit. let high : t.lit.var.0 ≤ p.vars = lit.1 in omega (arith, high, sized)) s.parts of.1,
    )) p.sums fine.sums

pub lit-of : (n : ℕ) (l m : Lit) → m.var.0 ≡ l.var.0 → IsLitOf n m → IsLitOf n l
lit-of n l m same is = subst (λ (k : ℕ). (1 ≤ k) × (k ≤ n)) same is

sum-lit : (n : ℕ) (s : AggCon) (l : Lit) → IsSumOf n s → IsOfSum l s → IsLitOf n l
sum-lit n s l of way = ⊎_elim
    (λ (e : s.out.var.0 ≡ l.var.0). lit-of n l s.out e of.0)
    (λ (w : Any (λ (t : Part). t.lit.var.0 ≡ l.var.0) s.parts).
    lit-of n l w.1.lit w.4 (subst (λ (t : Part). IsLitOf n t.lit) w.3 (of.1 w.0 w.1 w.2)))
    way

-- one of the constraints explains the clause
pub implied-explained : (p : ProblemState) (a : List (Option Bool)) (c : List Lit) → IsProblem p → IsImplied p.sums a c
    → IsExplained p c
implied-explained p a c fine h =
    let w = h.by in
    let of : IsSumOf p.vars w.1 = subst (IsSumOf p.vars) w.3 (fine.sums w.0 w.1 w.2) in
    record {
      within = All-weaker (λ l. IsOfSum l w.1) (IsLitOf p.vars) (λ l. sum-lit p.vars w.1 l of) c w.4.variables;
      occurs = All-weaker (λ l. IsOfSum l w.1) (Occurs p) (λ l way. inr (inl (w.0, w.1, w.2, w.3, way))) c
          w.4.variables;
      constraint = inl (w.0, w.1, w.2, w.3, w.4.holds);
    }

none-not-false : (o : Option Bool) → o ≡ None → o ≡ Some false → ⊥
none-not-false o e f = cc

-- no literal of the clause is open, or this one
module _ (a : List (Option Bool)) (c : List Lit) (acts : IsFalsified a c ⊎ ((l : Lit) × IsUnitAt a c l)) where
  pub acts-false : All (λ l. value_in a l ≡ None → ⊥) c → IsFalsified a c
  acts-false none = ⊎_elim
      (λ f. f)
      (λ w. absurd (All-contains (λ l. value_in a l ≡ None → ⊥) c w.0 none w.1.member w.1.unassigned))
      acts

  pub acts-unit : (l : Lit) → Contains c l → value_in a l ≡ None → IsUnitAt a c l
  acts-unit l has e = ⊎_elim
      (λ (f : IsFalsified a c).
      absurd (none-not-false (value_in a l) e (All-contains (λ m. value_in a m ≡ Some false) c l f has)))
      (λ w. ⊎_elim
      (λ (same : l ≡ w.0). subst (IsUnitAt a c) (sym same) w.1)
      (λ (f : value_in a l ≡ Some false). absurd (none-not-false (value_in a l) e f))
      (All-contains (λ m. (m ≡ w.0) ⊎ (value_in a m ≡ Some false)) c l w.1.others has))
      acts

-- where all variables have values none is open
open-none : (sign : Bool) (o : Option Bool) → IsSome o → by_sign_if_any sign o ≡ None → ⊥
open-none sign None h e = cc
open-none sign (Some b) h e = cc

pub none-open : (a : List (Option Bool)) (n end : ℕ) (c : List Lit) → HaveValues a 1 end → end ≡ n + 1
    → All (IsLitOf n) c → All (λ l. value_in a l ≡ None → ⊥) c
none-open a n end c total is lits = All-weaker (IsLitOf n) (λ l. value_in a l ≡ None → ⊥)
    (λ l lit. let high : l.var.0 ≤ n = lit.1 in
    open-none l.positive (slice_index_or a l.var.0 None) (total l.var.0 lit.0 (omega (arith, high, is)))) c lits

-- only the ledger differs
pub search-noted : (e : Engine) (l : Ledger) → IsSearch e → IsSearch (with_ledger e l)
search-noted e l h = record {
  engine = record {
    problem = h.engine.problem;
    within = h.engine.within;
    closed = h.engine.closed;
    learnt = h.engine.learnt;
    knows = h.engine.knows;
    store = h.engine.store;
    sized = h.engine.sized;
  };
  orderly = h.orderly;
  counted = h.counted;
  fewer = h.fewer;
  once = h.once;
  closed = h.closed;
  passing = passing-moves e (with_ledger e l) h.passing refl refl refl refl refl;
}

pub turn-noted : (e : Engine) (l : Ledger) (assume : List Lit) → IsTurn assume e → IsTurn assume (with_ledger e l)
turn-noted e l assume t = record { decisions = t.decisions; trues = t.trues }

-- a clause that a constraint implies was pushed
module _ (e : Engine) (h : IsSearch e) (lits k : List Lit) (s : StoreState)
    (implied : IsImplied e.problem.sums e.store.trail.values lits) (once : IsEachOnceOf lits k)
    (is : s ≡ with_clause e.store k) (laws : IsStore s) (p : Vec ℕ)
    (noted : p.items ≡ e.passing.items ++ length e.store.clauses ∷ []) where
  why : IsExplained e.problem lits
  why = implied-explained e.problem e.store.trail.values lits h.engine.problem implied

  same-values : s.trail.values ≡ e.store.trail.values
  same-values = ap (λ (x : StoreState). x.trail.values) is

  pub followed-range : All (λ (l : Lit). l.var.0 < length s.trail.values) lits
  followed-range = subst (λ (xs : List (Option Bool)). All (λ (l : Lit). l.var.0 < length xs) lits) (sym same-values)
      (explained-range e h lits why)

  pub followed-search : IsSearch (with_passing (with_store e s) p)
  followed-search = search-explained e h lits k s why once is laws p noted

  pub followed-turn : (assume : List Lit) → IsTurn assume e → IsTurn assume (with_passing (with_store e s) p)
  followed-turn = turn-explained e h lits k s why once is laws p noted

  pub followed-ahead : (goal : ℕ) → AheadAt e goal → AheadAt (with_passing (with_store e s) p) goal
  followed-ahead = ahead-explained e h lits k s why once is laws p noted

  pub followed-stands : (goal : ℕ) → AheadAt e goal → StandsAt (with_passing (with_store e s) p) goal
  followed-stands = stands-explained e h lits k s why once is laws p noted

  pub followed-conflict : All (λ l. value_in s.trail.values l ≡ None → ⊥) lits → IsConflict s (length e.store.clauses)
  followed-conflict none = conflict-explained e h lits k s why once is laws p noted (acts-false e.store.trail.values lits
      implied.acts (subst (λ (xs : List (Option Bool)). All (λ l. value_in xs l ≡ None → ⊥) lits) same-values none))

  pub followed-implies : (l : Lit) → Contains lits l → value_in s.trail.values l ≡ None
      → Implies s (length e.store.clauses) l
  followed-implies l has none = unit-explained e h lits k s why once is laws p noted l (acts-unit e.store.trail.values lits
      implied.acts l has (subst (λ (xs : List (Option Bool)). value_in xs l ≡ None) same-values none))

-- the constraint at a place is one of them
implied-somewhere : (sums : List AggCon) (a : List (Option Bool)) (place : ℕ) (c : List Lit)
    → IsImpliedAt sums a place c → IsImplied sums a c
implied-somewhere sums a place c h = record {
  acts = h.acts;
  by = (
    place,
    h.sum,
    slice_get_within sums place h.sum h.there,
    get_or_from_slice_get sums place h.sum h.sum h.there,
    h.by,
  );
}

-- what was found is implied by the problem's own constraints
pub implied-here : (ss sums : List AggCon) (xs values : List (Option Bool)) (o : Option Consequence) (f : Consequence)
    → ss ≡ sums → xs ≡ values → o ≡ Some f → IfSome o (λ (g : Consequence). IsImpliedAt ss xs g.place g.clause)
    → IsImplied sums values f.clause
implied-here ss sums xs values o f a b is h =
    let found : IsImpliedAt ss xs f.place f.clause = subst (λ (p : Option Consequence).
    IfSome p (λ (g : Consequence). IsImpliedAt ss xs g.place g.clause)) is h in
    let one : IsImplied ss xs f.clause = implied-somewhere ss xs f.place f.clause found in
    subst (λ (t : List AggCon). IsImplied t values f.clause) a
    (subst (λ (t : List (Option Bool)). IsImplied ss t f.clause) b one)

pub all-implied-here : (ss sums : List AggCon) (values : List (Option Bool)) (o : Option Consequences)
    (f : Consequences) → ss ≡ sums → o ≡ Some f
    → IfSome o (λ (g : Consequences). All (IsImpliedAt ss values g.place) g.clauses)
    → All (IsImplied sums values) f.clauses
all-implied-here ss sums values o f a is h =
    let found : All (IsImpliedAt ss values f.place) f.clauses = subst (λ (p : Option Consequences).
    IfSome p (λ (g : Consequences). All (IsImpliedAt ss values g.place) g.clauses)) is h in
    subst (λ (t : List AggCon). All (IsImplied t values) f.clauses) a
    (All-weaker (IsImpliedAt ss values f.place) (IsImplied ss values) (implied-somewhere ss values f.place) f.clauses
    found)

pub some-here : (o : Option Consequences) (f : Consequences) → o ≡ Some f
    → IfSome o (λ (g : Consequences). g.clauses ≡ [] → ⊥) → f.clauses ≡ [] → ⊥
some-here o f is h = subst (λ (p : Option Consequences). IfSome p (λ (g : Consequences). g.clauses ≡ [] → ⊥)) is h

-- what holds of all holds of the one at a place, and where there are some there is a first
pub at-place : {X : Type 0} (P : X → Type 0) (xs : List X) (place : ℕ) (x : X) → All P xs
    → slice_get xs place ≡ Some x → P x
at-place P xs place x h e = subst P (get_or_from_slice_get xs place x x e)
    (h place x (slice_get_within xs place x e))

pub some-length : {X : Type 0} (xs : List X) → (xs ≡ [] → ⊥) → 0 < length xs
some-length [] some = absurd (some refl)
some-length (x ∷ xs) some = omega arith

-- each of them is explained
pub all-explained : (p : ProblemState) (a : List (Option Bool)) (cs : List (List Lit)) → IsProblem p
    → All (IsImplied p.sums a) cs → All (IsExplained p) cs
all-explained p a cs fine h = All-weaker (IsImplied p.sums a) (IsExplained p) (λ c. implied-explained p a c fine) cs h

-- where all variables have values it is false
pub implied-false : (e : Engine) → IsSearch e → (end : ℕ) (c : List Lit) → HaveValues e.store.trail.values 1 end
    → end ≡ e.problem.vars + 1 → IsImplied e.problem.sums e.store.trail.values c → IsFalsified e.store.trail.values c
implied-false e h end c total is implied = acts-false e.store.trail.values c implied.acts
    (none-open e.store.trail.values e.problem.vars end c total is
    (implied-explained e.problem e.store.trail.values c h.engine.problem implied).within)
