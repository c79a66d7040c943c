-- Which values suit a problem that grows.
use Rattle.std.proofs.Common.{◌≡◌, ℕ, zero, suc, ◌+◌, ◌<◌, ◌≤◌, Bool, true, false, not, List, [], ◌∷◌, ◌++◌, All}
use Rattle.std.proofs.Common.{Contains, length, fold, take, drop, get_or, slice_get, Option, Some, None, IfSome, refl}
use Rattle.std.proofs.Common.{◌||◌, ◌&&◌}
use Rattle.std.proofs.Common.{sym, ap, ◌∙◌, subst, arith, ⊎_elim}
use Rattle.std.specs.Bool.{beq, then_some}
use Rattle.std.specs.List.{list_all}
use Rattle.std.specs.Option.{MatchOption}
use Rattle.std.proofs.lemmas.Bool.{both_ways, cases_eq}
use Rattle.std.proofs.lemmas.List.{take-append-drop, drop_more}
use Rattle.std.proofs.lemmas.List.Elements.{All-nil, All-push, All-contains, All-append, Contains-push}
use Rattle.std.proofs.lemmas.List.Elements.{Contains-push_cases, Contains-append_left}
use Rattle.std.proofs.lemmas.List.Sums.{fold-append}
use Rattle.kb_logic.specs.declared.elements.ExtInt.{ExtInt}
use Rattle.kb_logic.specs.declared.elements.ExtInt.TheVariants.{Num}
use Rattle.kb_logic.specs.declared.syntax.AggKind.{AggKind}
use Rattle.kb_logic.specs.declared.syntax.Cmp.TheVariants as cmp
use Rattle.kb_logic.specs.Denotations.{compared}
use Rattle.lit_core.specs.declared.literals.Lit.{Lit}
use Rattle.lit_core.specs.Literals.{by_sign, literal_value, valuation, negated}
use Rattle.lit_core.specs.Truth.{IsSatisfied}
use Rattle.lit_core.proofs.Soundness.{value-negated}
use Rattle.ground_core.specs.declared.parts.GroundTerm.{GroundTerm}
use Rattle.ground_core.specs.declared.parts.Part.{Part}
use Rattle.ground_core.specs.declared.parts.TermBound.{TermBound}
use Rattle.ground_core.specs.Problems.{ProblemState}
use Rattle.ground_core.specs.Meaning.{joined, GateHolds, BoundHolds, SumHolds, term_value, denotation_of_bound}
use Rattle.ground_core.specs.Meaning.{parts_value}
use Rattle.ground_core.specs.Growth.{clauses_of_same, falsified_by, next_lit, with_clause, with_gate, with_same}
use Rattle.ground_core.specs.Growth.{with_sum, with_term, with_bound, with_exclusion}
use Rattle.ground_core.specs.Growing.{with_retired}
use Rattle.ground_core.specs.Laws.{Differs}
use Rattle.ground_core.proofs.Fronts.{All-front, All-back}
use Rattle.ground_core.proofs.Clauses.{clause_value, clauses-true, clauses-hold, same-true, true-same}
use Rattle.ground_core.proofs.GrowthFacts.{bound-restricts, bound-means, exclusion-restricts, retired-restricts}
use Rattle.ground_core.proofs.Whole.{clause-added}
use Rattle.solving_judge.specs.declared.additions.Event.{Event}
use Rattle.solving_judge.specs.declared.additions.Event.TheVariants.{Bound, Exclusion, Retired}
use Rattle.solving_judge.specs.declared.problems.Said.{Said}
use Rattle.solving_judge.specs.declared.problems.Said.TheVariants as says
use Rattle.solving_judge.specs.Sayings.{saying, changed, term_of}
use Rattle.solving_judge.specs.Suiting.{IsLastIfSuited, Suits}

-- the next variable, if it has a value of which this is so
abbrev pub IsNext : List Bool → ℕ → (ℕ → Type 0) → Option ℕ → Type 0
IsNext values last P r = MatchOption r (last + 1 < length values → P (last + 1) → ⊥) (λ next. (next ≡ last + 1)
    × (next < length values) × P next)

module _ (values : List Bool) where
  abbrev v : ℕ → Bool
  v = valuation values

  -- a problem that names one variable more
  pub if-next : (q : ProblemState) (last : ℕ) (P : ℕ → Type 0) (r : Option ℕ) → IsNext values last P r
      → q.vars ≡ last + 1 → (last + 1 < length values → P (last + 1) → Suits q values)
      → (Suits q values → P (last + 1)) → IsLastIfSuited q values r
  if-next q last P None h is made means = λ s. h (subst (λ n. n < length values) is s.0) (means s)
  if-next q last P (Some next) h is made means = (
    made (subst (λ n. n < length values) h.0 h.1) (subst P h.0 h.2),
    is ∙ sym h.0,
  )

  pub if-named : (p q : ProblemState) (last : ℕ) (P : ℕ → Type 0) (r : Option ℕ) → p.vars ≡ last
      → IsNext values last P r → q.vars ≡ p.vars + 1 → (p.vars + 1 < length values → P (p.vars + 1) → Suits q values)
      → (Suits q values → P (p.vars + 1)) → IsLastIfSuited q values r
  if-named p q last P r e h is made means =
      if-next q p.vars P r (subst (λ n. IsNext values n P r) (sym e) h) is made means

  -- the same of what is equal
  pub turned : {X : Type 0} (f : X → ProblemState) (x y : X) (r t : Option ℕ) → x ≡ y → r ≡ t
      → IsLastIfSuited (f y) values t → IsLastIfSuited (f x) values r
  turned f x y r t e g h = subst (λ z. IsLastIfSuited (f z) values r) (sym e)
      (subst (λ o. IsLastIfSuited (f y) values o) (sym g) h)

  -- a problem that names none
  pub if-so : (q : ProblemState) (last : ℕ) (b : Bool) → q.vars ≡ last → (b ≡ true → Suits q values)
      → (Suits q values → b ≡ true) → IsLastIfSuited q values (then_some b last)
  if-so q last true is made means = (made refl, is)
  if-so q last false is made means = λ s. both_ways false refl (means s)

  -- the next variable's value
  abbrev IsAbove : ProblemState → Type 0
  IsAbove p = p.vars + 1 < length values

  less : (p : ProblemState) → p.vars + 1 < length values → p.vars < length values
  less p h = omega (arith, h)

  -- clauses
  pub clause-made : (p : ProblemState) (c : List Lit) → Suits p values → IsSatisfied v c
      → Suits (with_clause p c) values
  clause-made p c s h = (s.0, (clause-added p c v).1 s.1 h)

  pub clause-back : (p : ProblemState) (c : List Lit) → Suits (with_clause p c) values
      → Suits p values × IsSatisfied v c
  clause-back p c s = let both = (clause-added p c v).0 s.1 in ((s.0, both.0), both.1)

  -- gates
  pub gate-made : (p : ProblemState) (all : Bool) (ls : List Lit) → Suits p values → p.vars + 1 < length values
      → v (p.vars + 1) ≡ joined all v ls → Suits (with_gate p all ls) values
  gate-made p all ls s lt h = (
    lt,
    record {
      gates = All-push (GateHolds v) p.gates (record { out = next_lit p; all = all; parts = ls }) s.1.gates h;
      clauses = s.1.clauses;
      sums = s.1.sums;
      bounds = s.1.bounds;
      retired = s.1.retired;
    },
  )

  pub gate-back : (p : ProblemState) (all : Bool) (ls : List Lit) → Suits (with_gate p all ls) values → Suits p values
      × (v (p.vars + 1) ≡ joined all v ls)
  gate-back p all ls s = (
    (
      less p s.0,
      record {
        gates = All-front (GateHolds v) p.gates (record { out = next_lit p; all = all; parts = ls } ∷ []) s.1.gates;
        clauses = s.1.clauses;
        sums = s.1.sums;
        bounds = s.1.bounds;
        retired = s.1.retired;
      },
    ),
    All-contains (GateHolds v) (p.gates ++ record { out = next_lit p; all = all; parts = ls } ∷ [])
        (record { out = next_lit p; all = all; parts = ls }) s.1.gates
        (Contains-push p.gates (record { out = next_lit p; all = all; parts = ls })),
  )

  -- constraints on sums
  pub sum-made : (p : ProblemState) (k : AggKind) (ps : List Part) (n : ExtInt) → Suits p values
      → p.vars + 1 < length values → v (p.vars + 1) ≡ compared cmp.Ge (parts_value v k ps) (denotation_of_bound n)
      → Suits (with_sum p k ps n) values
  sum-made p k ps n s lt h = (
    lt,
    record {
      gates = s.1.gates;
      clauses = s.1.clauses;
      sums = All-push (SumHolds v) p.sums (record { out = next_lit p; kind = k; parts = ps; least = n }) s.1.sums h;
      bounds = s.1.bounds;
      retired = s.1.retired;
    },
  )

  pub sum-back : (p : ProblemState) (k : AggKind) (ps : List Part) (n : ExtInt) → Suits (with_sum p k ps n) values
      → Suits p values × (v (p.vars + 1) ≡ compared cmp.Ge (parts_value v k ps) (denotation_of_bound n))
  sum-back p k ps n s = (
    (
      less p s.0,
      record {
        gates = s.1.gates;
        clauses = s.1.clauses;
        sums = All-front (SumHolds v) p.sums (record { out = next_lit p; kind = k; parts = ps; least = n } ∷ [])
            s.1.sums;
        bounds = s.1.bounds;
        retired = s.1.retired;
      },
    ),
    All-contains (SumHolds v) (p.sums ++ record { out = next_lit p; kind = k; parts = ps; least = n } ∷ [])
        (record { out = next_lit p; kind = k; parts = ps; least = n }) s.1.sums
        (Contains-push p.sums (record { out = next_lit p; kind = k; parts = ps; least = n })),
  )

  -- one value of two literals
  say-same : (o a b : Bool) → ((not o || (not a || (b || false))) && ((not o || (a || (not b || false)))
      && ((o || (a || (b || false))) && ((o || (not a || (not b || false))) && true)))) ≡ by_sign o (by_sign a b)
  say-same true true true = refl
  say-same true true false = refl
  say-same true false true = refl
  say-same true false false = refl
  say-same false true true = refl
  say-same false true false = refl
  say-same false false true = refl
  say-same false false false = refl

  same-value : (p : ProblemState) (a b : Lit) → list_all (clause_value v) (clauses_of_same (next_lit p) a b)
      ≡ by_sign (v (p.vars + 1)) (by_sign (literal_value v a) (literal_value v b))
  same-value p a b =
      let not_o = value-negated v (next_lit p) in
      let not_a = value-negated v a in
      let not_b = value-negated v b in
      let says = say-same (v (p.vars + 1)) (literal_value v a) (literal_value v b) in cc

  pub same-made : (p : ProblemState) (a b : Lit) → Suits p values → p.vars + 1 < length values
      → v (p.vars + 1) ≡ by_sign (literal_value v a) (literal_value v b) → Suits (with_same p a b) values
  same-made p a b s lt h = (
    lt,
    record {
      gates = s.1.gates;
      clauses = All-append (IsSatisfied v) p.clauses (clauses_of_same (next_lit p) a b) s.1.clauses
          (clauses-hold v (clauses_of_same (next_lit p) a b) (same-value p a b ∙ true-same (v (p.vars + 1))
          (by_sign (literal_value v a) (literal_value v b)) h));
      sums = s.1.sums;
      bounds = s.1.bounds;
      retired = s.1.retired;
    },
  )

  pub same-back : (p : ProblemState) (a b : Lit) → Suits (with_same p a b) values → Suits p values
      × (v (p.vars + 1) ≡ by_sign (literal_value v a) (literal_value v b))
  same-back p a b s = (
    (
      less p s.0,
      record {
        gates = s.1.gates;
        clauses = All-front (IsSatisfied v) p.clauses (clauses_of_same (next_lit p) a b) s.1.clauses;
        sums = s.1.sums;
        bounds = s.1.bounds;
        retired = s.1.retired;
      },
    ),
    same-true (v (p.vars + 1)) (by_sign (literal_value v a) (literal_value v b)) (sym (same-value p a b)
        ∙ clauses-true v (clauses_of_same (next_lit p) a b) (All-back (IsSatisfied v) p.clauses
        (clauses_of_same (next_lit p) a b) s.1.clauses)),
  )

  -- terms, of which no bound is said yet
  pub term-made : (p : ProblemState) (t : GroundTerm) → p.bounds ≡ [] → Suits p values → Suits (with_term p t) values
  term-made p t none s = (
    s.0,
    record {
      gates = s.1.gates;
      clauses = s.1.clauses;
      sums = s.1.sums;
      bounds = subst (λ (bs : List TermBound). All (BoundHolds v (p.terms ++ t ∷ [])) bs) (sym none)
          (All-nil (BoundHolds v (p.terms ++ t ∷ [])));
      retired = s.1.retired;
    },
  )

  pub term-back : (p : ProblemState) (t : GroundTerm) → p.bounds ≡ [] → Suits (with_term p t) values → Suits p values
  term-back p t none s = (
    s.0,
    record {
      gates = s.1.gates;
      clauses = s.1.clauses;
      sums = s.1.sums;
      bounds = subst (λ (bs : List TermBound). All (BoundHolds v p.terms) bs) (sym none)
          (All-nil (BoundHolds v p.terms));
      retired = s.1.retired;
    },
  )

  -- bounds
  abbrev IsBelow : ProblemState → ℕ → ExtInt → Type 0
  IsBelow p term n = IfSome (slice_get p.terms term) (λ t. compared cmp.Lt (term_value v t) (denotation_of_bound n) ≡ true)

  pub bound-made : (p : ProblemState) (term : ℕ) (n : ExtInt) → Suits p values → p.vars + 1 < length values
      → (v (p.vars + 1) ≡ true → IsBelow p term n) → Suits (with_bound p term n) values
  bound-made p term n s lt h = (
    lt,
    record {
      gates = s.1.gates;
      clauses = s.1.clauses;
      sums = s.1.sums;
      bounds = All-push (BoundHolds v p.terms) p.bounds (record { out = next_lit p; term = term; below = n })
          s.1.bounds h;
      retired = s.1.retired;
    },
  )

  pub bound-back : (p : ProblemState) (term : ℕ) (n : ExtInt) → Suits (with_bound p term n) values → Suits p values
      × (v (p.vars + 1) ≡ true → IsBelow p term n)
  bound-back p term n s = ((less p s.0, bound-restricts p term n v s.1), bound-means p term n v s.1)

  -- the variable's literal that values make false
  abbrev other_literal : List Bool → ℕ → Lit
  other_literal other k = record { var = record { 0 = k }; positive = not (valuation other k) }

  falsified-has : (other : List Bool) (n k : ℕ) → 1 ≤ k → k ≤ n
      → Contains (falsified_by other n) (other_literal other k)
  falsified-has other zero k low high = absurd (omega (arith, low, high))
  falsified-has other (suc n) k low high = ⊎_elim
      (λ is. subst (λ j. Contains (falsified_by other n ++ other_literal other (suc n) ∷ []) (other_literal other j))
      (sym is) (Contains-push (falsified_by other n) (other_literal other (suc n))))
      (λ not_last. Contains-append_left (falsified_by other n) (other_literal other (suc n) ∷ [])
      (other_literal other k) (falsified-has other n k low (omega (arith, high, not_last))))
      (cases_eq k (suc n))

  falsified-is : (other : List Bool) (n : ℕ) (l : Lit) → Contains (falsified_by other n) l → (k : ℕ) × (1 ≤ k) × (k ≤ n)
      × (l ≡ other_literal other k)
  falsified-is other zero l has = absurd (omega (arith, has.1))
  falsified-is other (suc n) l has = ⊎_elim
      (λ old. let h = falsified-is other n l old in (h.0, h.1, omega (arith, h.2), h.3))
      (λ is. (suc n, omega arith, omega arith, sym is))
      (Contains-push_cases (falsified_by other n) (other_literal other (suc n)) l has)

  -- exclusions
  abbrev exclusion : ProblemState → List Bool → List Lit
  exclusion p other = negated (next_lit p) ∷ falsified_by other (length p.atoms)

  differing : (p : ProblemState) (other : List Bool) (b : Bool) → v (p.vars + 1) ≡ b → (b ≡ true → Differs p other v)
      → IsSatisfied v (exclusion p other)
  differing p other false is h = (0, negated (next_lit p), omega arith, refl, ap not is)
  differing p other true is h =
      let d = h refl in
      let has = falsified-has other (length p.atoms) d.0 d.1 d.2 in (
        suc has.0,
        other_literal other d.0,
        omega (arith, has.1),
        has.2,
        true-same (not (valuation other d.0)) (v d.0) (sym d.3),
      )

  differs-where : (p : ProblemState) (other : List Bool) (i : ℕ) (l : Lit) → i < length (exclusion p other)
      → get_or (exclusion p other) i l ≡ l → literal_value v l ≡ true → v (p.vars + 1) ≡ true → Differs p other v
  differs-where p other zero l lt e on sel =
      let off : not (v (p.vars + 1)) ≡ true = ap (literal_value v) e ∙ on in
      absurd (both_ways false refl (sym (ap not sel) ∙ off))
  differs-where p other (suc i) l lt e on sel =
      let h = falsified-is other (length p.atoms) l (i, omega (arith, lt), e) in (
        h.0,
        h.1,
        h.2,
        sym (same-true (not (valuation other h.0)) (v h.0) (sym (ap (literal_value v) h.3) ∙ on)),
      )

  pub exclusion-made : (p : ProblemState) (other : List Bool) → Suits p values → p.vars + 1 < length values
      → (v (p.vars + 1) ≡ true → Differs p other v) → Suits (with_exclusion p other) values
  exclusion-made p other s lt h = (
    lt,
    record {
      gates = s.1.gates;
      clauses = All-push (IsSatisfied v) p.clauses (exclusion p other) s.1.clauses
          (differing p other (v (p.vars + 1)) refl h);
      sums = s.1.sums;
      bounds = s.1.bounds;
      retired = s.1.retired;
    },
  )

  pub exclusion-back : (p : ProblemState) (other : List Bool) → Suits (with_exclusion p other) values → Suits p values
      × (v (p.vars + 1) ≡ true → Differs p other v)
  exclusion-back p other s = (
    (less p s.0, exclusion-restricts p other v s.1),
    λ on. let h = All-contains (IsSatisfied v) (p.clauses ++ exclusion p other ∷ []) (exclusion p other) s.1.clauses
        (Contains-push p.clauses (exclusion p other)) in differs-where p other h.0 h.1 h.2 h.3 h.4 on,
  )

  -- retired selectors
  pub retired-made : (p : ProblemState) (l : Lit) → Suits p values → literal_value v l ≡ false
      → Suits (with_retired p l) values
  retired-made p l s h = (
    s.0,
    record {
      gates = s.1.gates;
      clauses = s.1.clauses;
      sums = s.1.sums;
      bounds = s.1.bounds;
      retired = All-push (λ k. literal_value v k ≡ false) p.retired l s.1.retired h;
    },
  )

  pub retired-back : (p : ProblemState) (l : Lit) → Suits (with_retired p l) values → Suits p values
      × (literal_value v l ≡ false)
  retired-back p l s = (
    (s.0, retired-restricts p l v s.1),
    All-contains (λ k. literal_value v k ≡ false) (p.retired ++ l ∷ []) l s.1.retired (Contains-push p.retired l),
  )

pub beq-sign : (a b : Bool) → beq a b ≡ by_sign a b
beq-sign true true = refl
beq-sign true false = refl
beq-sign false true = refl
beq-sign false false = refl

-- what is said says nothing of bounds
pub saying-fine : (p : ProblemState) (x : Said) → p.bounds ≡ [] → (saying p x).bounds ≡ []
saying-fine p (says.Clause lits) none = none
saying-fine p (says.Gate all parts) none = none
saying-fine p (says.Same a b) none = none
saying-fine p (says.Sum kind least parts) none = none
saying-fine p (says.Term kind base parts) none = none

pub saying-back : (values : List Bool) (p : ProblemState) (x : Said) → p.bounds ≡ [] → Suits (saying p x) values
    → Suits p values
saying-back values p (says.Clause lits) none s = (clause-back values p lits.items s).0
saying-back values p (says.Gate all parts) none s = (gate-back values p all parts.items s).0
saying-back values p (says.Same a b) none s = (same-back values p a b s).0
saying-back values p (says.Sum kind least parts) none s = (sum-back values p kind parts.items least s).0
saying-back values p (says.Term kind base parts) none s =
    term-back values p (term_of kind base parts.items) none s

pub changed-back : (values : List Bool) (p : ProblemState) (x : Event) → Unit {0} → Suits (changed p x) values
    → Suits p values
changed-back values p (Bound term below) _ s = (bound-back values p term (Num below) s).0
changed-back values p (Exclusion other) _ s = (exclusion-back values p other s).0
changed-back values p (Retired var) _ s =
    (retired-back values p (record { var = record { 0 = var }; positive = true }) s).0

-- the atoms and the terms stay
pub changed-fields : (p : ProblemState) (xs : List Event) → ((fold changed p xs).atoms ≡ p.atoms)
    × ((fold changed p xs).terms ≡ p.terms)
changed-fields p [] = (refl, refl)
changed-fields p (Bound term below ∷ xs) = changed-fields (with_bound p term (Num below)) xs
changed-fields p (Exclusion other ∷ xs) = changed-fields (with_exclusion p other) xs
changed-fields p (Retired var ∷ xs) =
    changed-fields (with_retired p (record { var = record { 0 = var }; positive = true })) xs

pub said-atoms : (p : ProblemState) (xs : List Said) → (fold saying p xs).atoms ≡ p.atoms
said-atoms p [] = refl
said-atoms p (says.Clause lits ∷ xs) = said-atoms (with_clause p lits.items) xs
said-atoms p (says.Gate all parts ∷ xs) = said-atoms (with_gate p all parts.items) xs
said-atoms p (says.Same a b ∷ xs) = said-atoms (with_same p a b) xs
said-atoms p (says.Sum kind least parts ∷ xs) = said-atoms (with_sum p kind parts.items least) xs
said-atoms p (says.Term kind base parts ∷ xs) = said-atoms (with_term p (term_of kind base parts.items)) xs

-- a problem that grows step by step: values that suit it suited it before
module _ {X : Type 0} (values : List Bool) (step : ProblemState → X → ProblemState) (Fine : ProblemState → Type 0)
    (fine : (p : ProblemState) (x : X) → Fine p → Fine (step p x))
    (back : (p : ProblemState) (x : X) → Fine p → Suits (step p x) values → Suits p values) where
  pub all-fine : (p : ProblemState) (xs : List X) → Fine p → Fine (fold step p xs)
  all-fine p [] h = h
  all-fine p (x ∷ xs) h = all-fine (step p x) xs (fine p x h)

  pub all-back : (p : ProblemState) (xs : List X) → Fine p → Suits (fold step p xs) values → Suits p values
  all-back p [] h s = s
  all-back p (x ∷ xs) h s = back p x h (all-back (step p x) xs (fine p x h) s)

  -- where one step does not suit them, the whole does not
  pub unsuited : (p : ProblemState) (xs : List X) (i : ℕ) (x : X) → Fine p → i < length xs → x ≡ get_or xs i x
      → (Suits (step (fold step p (take i xs)) x) values → ⊥) → Suits (fold step p xs) values → ⊥
  unsuited p xs i x h lt is fails s =
      let q : ProblemState = fold step p (take i xs) in
      let split : fold step p xs ≡ fold step q (x ∷ drop (i + 1) xs) =
      ap (fold step p) (sym (take-append-drop i xs)) ∙ fold-append step p (take i xs) (drop i xs)
      ∙ ap (fold step q) (drop_more xs i x lt ∙ ap (λ (y : X). y ∷ drop (i + 1) xs) (sym is)) in
      fails (all-back (step q x) (drop (i + 1) xs) (fine q x (all-fine p (take i xs) h))
      (subst (λ (r : ProblemState). Suits r values) split s))
