-- Statements: what was derived, and the claim that follows.
use Rattle.std.proofs.Common.{◌≡◌, ◌∙◌, ℕ, ◌+◌, ◌-◌, ◌<◌, ◌≤◌, Bool, true, false, List, [], ◌∷◌, ◌++◌, All, length}
use Rattle.std.proofs.Common.{Option, Some, IfSome, slice_get, Contains, refl, sym, ap, subst, arith, ⊎_elim}
use Rattle.std.proofs.lemmas.Option.{slice_get_cases}
use Rattle.std.proofs.lemmas.List.Elements.{All-contains, All-head, Contains-push}
use Rattle.kb_logic.specs.declared.elements.ExtInt.{ExtInt}
use Rattle.kb_logic.specs.declared.elements.ExtInt.TheVariants.{NegInf}
use Rattle.kb_logic.specs.Denotations.{Denotation, denotation_of_bound, lower_value}
use Rattle.lit_core.specs.declared.literals.Lit.{Lit}
use Rattle.lit_core.specs.declared.literals.Var.{Var}
use Rattle.lit_core.specs.Literals.{literal_value, negated}
use Rattle.ground_core.specs.declared.parts.GroundTerm.{GroundTerm}
use Rattle.ground_core.specs.declared.parts.TermBound.{TermBound}
use Rattle.ground_core.specs.Growing.{value_of_term}
use Rattle.ground_core.specs.Meaning.{BoundHolds, term_value}
use Rattle.ground_core.specs.Problems.{ProblemState, IsLitOf}
use Rattle.ground_core.proofs.Fronts.{All-front, All-back}
use Rattle.derivation_log.specs.declared.entries.Entry.{Entry}
use Rattle.derivation_log.specs.declared.entries.Entry.TheVariants as entry
use Rattle.derivation_log.specs.Lines.{entry_text}
use Rattle.derivation_log.specs.Steps.{LogStep, after, literal, Cites, IsTermNumber}
use Rattle.derivation_log.specs.Texts.{IsBelow, IsLiteral, IsNumber, IsTerm}
use Rattle.log_checker.specs.Growing.{Checking, known}
use Rattle.claimed_replies.specs.Claims.{IsTheClaim, SaysInconsistent, SaysLeast}
use Rattle.log_checker.specs.Cases.{Admits, IsRefuted}
use Rattle.derived_claims.specs.Following.{AreOfAtoms, IsLeastUnder}
use Rattle.derived_claims.specs.Statements.{Derived, States}
use Rattle.derived_claims.proofs.Adding.{adds-one, adds-twice, derived-adds, claimed-one, stated, atoms-kept}
use Rattle.derived_claims.proofs.Citing.{cites-bound}

-- nothing makes the literals true
module _ (old mid : Checking) (lits listed : List Lit) (clause : ℕ) (x y : List ℕ) (d : Derived old mid x y)
    (atoms : AreOfAtoms old lits) (cites : Cites mid.state lits (λ m. ⊥) clause) (same : listed ≡ lits) where
  pub inconsistent-step : LogStep mid.problem mid.state (entry.Inconsistent listed clause)
  inconsistent-step =
      subst (λ (ls : List Lit). LogStep mid.problem mid.state (entry.Inconsistent ls clause)) (sym same)
      ((atoms-kept old mid x y d lits atoms).atoms, cites)

  pub inconsistent-stated : (new : Checking) (z : List ℕ) → x ≡ [] → IsNumber clause
      → new ≡ known mid.problem (after mid.state (entry.Inconsistent listed clause))
      → z ≡ y ++ entry_text (entry.Inconsistent listed clause)
      → States old new (IsTheClaim (SaysInconsistent lits)) z
  inconsistent-stated new z begins number is text =
      let e : Entry = entry.Inconsistent listed clause in
      stated old mid new (IsTheClaim (SaysInconsistent lits)) (e ∷ []) x y z begins (derived-adds old mid x y d)
      (claimed-one mid new e y z inconsistent-step (subst (All IsLiteral) (sym same) atoms.written, number) refl refl is
      text)
      (e, (clause, ap (λ (ls : List Lit). entry.Inconsistent ls clause) same), refl)

has-below : (k : ExtInt) → IsBelow k → k ≡ NegInf → ⊥
has-below k below is = subst IsBelow is below

-- a term that is there has a value below what all values are not below
both-ways : (o : Option GroundTerm) (t : GroundTerm) (v : ℕ → Bool) (d : Denotation) → o ≡ Some t
    → IfSome o (λ u. lower_value (term_value v u) d ≡ true) → lower_value (value_of_term o v) d ≡ false → ⊥
both-ways o t v d is lower least =
    let here : lower_value (term_value v t) d ≡ true =
    subst (λ (p : Option GroundTerm). IfSome p (λ u. lower_value (term_value v u) d ≡ true)) is lower in
    let there : lower_value (term_value v t) d ≡ false =
    subst (λ (p : Option GroundTerm). lower_value (value_of_term p v) d ≡ false) is least in cc

-- a bound on a term was added, whose selector is a new variable
module _ (old bounded : Checking) (lits : List Lit) (term number : ℕ) (s : Var) (k : ExtInt)
    (counted : number ≡ term + 1) (next : s.0 ≡ old.state.vars + 1) (atoms : AreOfAtoms old lits)
    (least : IsLeastUnder old lits term k) (below : IsBelow k)
    (is : bounded ≡ known old.problem (after old.state (entry.Bound s number k))) where
  abbrev bound : TermBound
  bound = record { out = literal s.0; term = number - 1; below = k }

  is-number : IsTermNumber old.problem number
  is-number = (
    omega (arith, counted),
    let there : term < length old.problem.terms = least.there in omega (arith, counted, there),
  )

  bound-step : LogStep old.problem old.state (entry.Bound s number k)
  bound-step = (next, is-number, has-below k below)

  place : number - 1 ≡ term
  place = omega (arith, counted)

  none-below : (v : ℕ → Bool) → Admits (known old.problem (after old.state (entry.Bound s number k)))
      (lits ++ literal s.0 ∷ []) v → ⊥
  none-below v a =
      let selected = All-head (λ l. literal_value v l ≡ true) (literal s.0) []
      (All-back (λ l. literal_value v l ≡ true) lits (literal s.0 ∷ []) a.trues) in
      let holds = All-head (BoundHolds v old.problem.terms) bound []
      (All-back (BoundHolds v old.problem.terms) old.state.bounds (bound ∷ []) a.bounds) selected in
      let front : Admits old lits v = record {
        clauses = a.clauses;
        sums = a.sums;
        bounds = All-front (BoundHolds v old.problem.terms) old.state.bounds (bound ∷ []) a.bounds;
        trues = All-front (λ l. literal_value v l ≡ true) lits (literal s.0 ∷ []) a.trues;
      } in
      ⊎_elim
      (λ found. both-ways (slice_get old.problem.terms term) found.0 v (denotation_of_bound k) found.2
      (subst (λ (i : ℕ). IfSome (slice_get old.problem.terms i)
      (λ u. lower_value (term_value v u) (denotation_of_bound k) ≡ true)) place holds)
      (least.least v front))
      (λ past. let there : term < length old.problem.terms = least.there in absurd (omega (arith, past.0, there)))
      (slice_get_cases old.problem.terms term).1

  pub bound-refutes : IsRefuted bounded (lits ++ literal s.0 ∷ [])
  bound-refutes = subst (λ (c : Checking). IsRefuted c (lits ++ literal s.0 ∷ [])) (sym is) none-below

  bounded-atoms : AreOfAtoms bounded lits
  bounded-atoms = subst (λ (c : Checking). AreOfAtoms c lits) (sym is) (record {
    atoms = atoms.atoms;
    vars = let vars : length old.problem.atoms ≤ old.state.vars = atoms.vars in omega (arith, vars);
    written = atoms.written;
  })

  absent : Contains lits (negated (literal s.0)) → ⊥
  absent has =
      let of = All-contains (IsLitOf (length old.problem.atoms)) lits (negated (literal s.0)) atoms.atoms has in
      let vars : length old.problem.atoms ≤ old.state.vars = atoms.vars in
      omega (arith, of.1, vars, next)

  -- entries that bear clauses were added behind it
  module _ (mid : Checking) (w x y : List ℕ) (d : Derived bounded mid x y) (listed : List Lit) (clause : ℕ)
      (cites : Cites mid.state (lits ++ literal s.0 ∷ []) (λ m. ⊥) clause) (same : listed ≡ lits) where
    there : Contains mid.state.bounds bound
    there = subst (λ (bs : List TermBound). Contains bs bound)
        (sym (d.1.bounds ∙ ap (λ (c : Checking). c.state.bounds) is))
        (Contains-push old.state.bounds bound)

    same-problem : mid.problem ≡ old.problem
    same-problem = d.1.goes_on.problem ∙ ap (λ (c : Checking). c.problem) is

    pub least-step : LogStep mid.problem mid.state (entry.Least number k listed clause)
    least-step =
        subst (λ (ls : List Lit). LogStep mid.problem mid.state (entry.Least number k ls clause)) (sym same) (
          subst (λ (p : ProblemState). IsTermNumber p number) (sym same-problem) is-number,
          has-below k below,
          (atoms-kept bounded mid x y d lits bounded-atoms).atoms,
          cites-bound mid.state lits number k bound there refl refl absent clause cites,
        )

    pub least-stated : (new : Checking) (z : List ℕ) → w ≡ [] → IsNumber s.0 → IsTerm number → IsNumber clause
        → x ≡ w ++ entry_text (entry.Bound s number k)
        → new ≡ known mid.problem (after mid.state (entry.Least number k listed clause))
        → z ≡ y ++ entry_text (entry.Least number k listed clause)
        → States old new (IsTheClaim (SaysLeast lits term k)) z
    least-stated new z begins selector written cited bound-text added text =
        let e : Entry = entry.Least number k listed clause in
        stated old mid new (IsTheClaim (SaysLeast lits term k)) (e ∷ []) w y z begins
        (adds-twice old bounded mid w x y
        (adds-one old bounded (entry.Bound s number k) w x tt bound-step (selector, written, below) refl is bound-text)
        (derived-adds bounded mid x y d))
        (claimed-one mid new e y z least-step
        (written, below, subst (All IsLiteral) (sym same) atoms.written, cited) refl refl added text) (
          e,
          (
            clause,
            ap (λ (n : ℕ). entry.Least n k listed clause) counted
                ∙ ap (λ (ls : List Lit). entry.Least (term + 1) k ls clause) same,
          ),
          refl,
        )
