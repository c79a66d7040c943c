-- A search under a bound.
use Rattle.std.proofs.Common.{◌≡◌, ℕ, ◌+◌, ◌<◌, ◌≤◌, Bool, true, false, Option, Some, None, List, [], ◌∷◌, ◌++◌}
use Rattle.std.proofs.Common.{length, get_or, Contains, refl, sym, ap, ◌∙◌, subst, arith, inl, inr, ⊎_elim}
use Rattle.std.proofs.lemmas.List.Elements.{All-contains, All-push, Contains-push, Contains-push_cases}
use Rattle.kb_logic.specs.declared.elements.ExtInt.{ExtInt}
use Rattle.kb_logic.specs.declared.syntax.Cmp.TheVariants as cmp
use Rattle.kb_logic.specs.Denotations.{Denotation, compared}
use Rattle.lit_core.specs.declared.literals.Lit.{Lit}
use Rattle.lit_core.specs.Literals.{literal_value, valuation}
use Rattle.ground_core.specs.Problems.{ProblemState, IsProblem, IsLitOf, AreLitsOf}
use Rattle.ground_core.specs.Meaning.{Satisfies, MakesTrue, RefutesAll, denotation_of_bound}
use Rattle.ground_core.specs.Growth.{with_bound, next_lit}
use Rattle.ground_core.specs.Growing.{value_at, bounded}
use Rattle.ground_core.specs.Solving.{SolveState, AreUnretired, HasCoreWithin, IsBudgetOf}
use Rattle.ground_core.proofs.Fronts.{All-front}
use Rattle.ground_core.proofs.Locals.{literal-local}
use Rattle.ground_core.proofs.GrowthFacts.{select, bound-restricts}
use Rattle.model_minimiser.specs.declared.minimum.Found.{Found}
use Rattle.ground_core.specs.declared.solving.Budget.{Budget}
use Rattle.ground_core.specs.Calls.{Keeps, Stays}
use Rattle.ground_core.proofs.CallFacts.{keeps-grown, keeps-none, keeps-twice}
use Rattle.ground_core.proofs.MomentFacts.{moment-bounded}
use Rattle.model_minimiser.specs.Bounds.{IsBelow, AddsAtMost}
use Rattle.model_minimiser.specs.Minima.{IsFound, NothingBelow, Finds, HasBound}

-- the next variable is that of no literal of the problem
fresh : (p : ProblemState) (ls : List Lit) → AreLitsOf p.vars ls → Contains ls (next_lit p) → ⊥
fresh p ls h has = let x : p.vars + 1 ≤ p.vars = (All-contains (IsLitOf p.vars) ls (next_lit p) h has).1 in
    omega (arith, x)

module _ (p : ProblemState) (term : ℕ) (n : ExtInt) (assume : List Lit) (fine : IsProblem p)
    (lt : term < length p.terms) (lits : AreLitsOf p.vars assume) where
  abbrev q : ProblemState
  q = with_bound p term n

  abbrev sel : Lit
  sel = next_lit p

  pub unretired : AreUnretired p assume → AreUnretired q (assume ++ sel ∷ [])
  unretired h = λ l gone has. ⊎_elim
      (λ old. h l gone old)
      (λ is. fresh p p.retired fine.retired (subst (Contains p.retired) (sym is) gone))
      (Contains-push_cases assume sel l has)

  pub found-below : (f : Found) → IsFound q (assume ++ sel ∷ []) term f → IsFound p assume term f × IsBelow f.value n
  found-below f h =
      let v : ℕ → Bool = valuation f.values in
      let on : literal_value v sel ≡ true = All-contains (λ l. literal_value v l ≡ true) (assume ++ sel ∷ []) sel
      h.assumes (Contains-push assume sel) in (
        record {
          covers = let x : p.vars + 1 < length f.values = h.covers in omega (arith, x);
          satisfies = bound-restricts p term n v h.satisfies;
          assumes =
              All-front (λ l. literal_value v l ≡ true) assume (sel ∷ []) h.assumes;
          value = h.value;
        },
        subst (λ (d : Denotation). compared cmp.Lt d (denotation_of_bound n) ≡ true) h.value
            ((select p term n fine lt).means v h.satisfies on),
      )

  pub nothing-below : RefutesAll q (assume ++ sel ∷ []) → NothingBelow p assume term n
  nothing-below refuted = λ v s t. step v s t (compared cmp.Lt (value_at p term v) (denotation_of_bound n)) refl
    where
      step : (v : ℕ → Bool) → Satisfies p v → MakesTrue v assume → (b : Bool) → compared cmp.Lt (value_at p term v)
          (denotation_of_bound n) ≡ b → compared cmp.Lt (value_at p term v) (denotation_of_bound n) ≡ false
      step v s t false is = is
      step v s t true is =
          let e = (select p term n fine lt).extends v s is in
          absurd (refuted e.0 e.2
          (All-push (λ l. literal_value e.0 l ≡ true) assume sel (λ k d less.
          sym (literal-local p.vars v e.0 e.1 (get_or assume k d) (lits k d less)) ∙ t k d less) e.3))

-- a bound, and a search under it
module _ (s0 s1 s2 : SolveState) (term : ℕ) (n : ExtInt) (ls : List Lit) (sel : Lit) (fine : IsProblem s0.problem)
    (lt : term < length s0.problem.terms) (lits : AreLitsOf s0.problem.vars ls)
    (is_next : sel ≡ next_lit s0.problem) (made : s1 ≡ bounded s0 term n) where
  pub turn-adds : Stays s1 s2 → (before after : List Lit) → after ≡ before ++ sel ∷ []
      → AddsAtMost term n s0 s2 before after
  turn-adds stays before after longer = inr (record {
    problem = stays.problem ∙ ap (λ (s : SolveState). s.problem) made;
    additions = stays.additions ∙ ap (λ (s : SolveState). s.additions) made;
    free = stays.free ∙ ap (λ (s : SolveState). s.free) made;
    lits = longer ∙ ap (λ (l : Lit). before ++ l ∷ []) is_next;
  })

  plain : (o : Option Found) → Finds s1.problem (ls ++ sel ∷ []) term s2.cores o → Finds (with_bound s0.problem term n)
      (ls ++ next_lit s0.problem ∷ []) term s2.cores o
  plain o f =
      subst (λ (s : SolveState). Finds s.problem (ls ++ next_lit s0.problem ∷ []) term s2.cores o) made
      (subst (λ (l : Lit). Finds s1.problem (ls ++ l ∷ []) term s2.cores o) is_next f)

  pub turn-found : (o : Option Found) (f : Found) → o ≡ Some f → Finds s1.problem (ls ++ sel ∷ []) term s2.cores o
      → IsFound s0.problem ls term f × IsBelow f.value n
  turn-found o f is h = found-below s0.problem term n ls fine lt lits f
      (plain (Some f) (subst (λ (x : Option Found). Finds s1.problem (ls ++ sel ∷ []) term s2.cores x) is h))

  turn-bound : Stays s1 s2 → HasBound s2.problem.bounds sel term n
  turn-bound stays =
      subst (λ (p : ProblemState). HasBound p.bounds sel term n)
      (sym (stays.problem ∙ ap (λ (s : SolveState). s.problem) made))
      (subst (λ (l : Lit). HasBound (with_bound s0.problem term n).bounds l term n) (sym is_next)
      (Contains-push s0.problem.bounds (record { out = next_lit s0.problem; term = term; below = n })))

  pub turn-nothing : (o : Option Found) → o ≡ None → Finds s1.problem (ls ++ sel ∷ []) term s2.cores o → Stays s1 s2
      → NothingBelow s0.problem ls term n × HasCoreWithin s2.cores (ls ++ sel ∷ [])
      × HasBound s2.problem.bounds sel term n
  turn-nothing o is h stays =
      let none : Finds s1.problem (ls ++ sel ∷ []) term s2.cores None =
      subst (λ (x : Option Found). Finds s1.problem (ls ++ sel ∷ []) term s2.cores x) is h in (
        nothing-below s0.problem term n ls fine lt lits (plain None none).0,
        none.1,
        turn-bound stays,
      )

-- nothing was added
pub turn-none : (s t : SolveState) (term : ℕ) (n : ExtInt) (before after : List Lit) → t ≡ s → after ≡ before
    → AddsAtMost term n s t before after
turn-none s t term n before after same lits = inl (
  subst (Stays s) (sym same) (record { problem = refl; additions = refl; free = refl }),
  lits,
)

-- a bound, and a search under it
pub turn-keeps : (s0 s1 s2 : SolveState) (b c : Budget) (term : ℕ) (n : ExtInt) → s1 ≡ bounded s0 term n
    → IsBudgetOf s0.learnt b → Keeps s1 s2 b c → Keeps s0 s2 b c
turn-keeps s0 s1 s2 b c term n made budget k =
    let bounds : Keeps s0 s1 b b = subst (λ (u : SolveState). Keeps s0 u b b) (sym made)
    (keeps-grown s0 s0 b b (bounded s0 term n) (keeps-none s0 b budget) refl refl refl
    (moment-bounded s0.problem term n)) in
    keeps-twice s0 s1 s2 b b c bounds k
