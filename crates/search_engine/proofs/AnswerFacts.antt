-- What the answers of a search mean.
use Rattle.std.proofs.Common.{◌≡◌, ℕ, suc, ◌+◌, ◌<◌, ◌≤◌, Bool, true, false, Option, Some, List, [], ◌∷◌, ◌++◌, length}
use Rattle.std.proofs.Common.{map, take, get_or, refl, sym, ap, ◌∙◌, subst, ◌⊎◌, inl, inr, ⊎_elim, arith, All, Contains}
use Rattle.std.proofs.lemmas.List.Elements.{All-nil, All-cons, All-head, All-tail, All-weaker, All-contains, All-push}
use Rattle.std.proofs.lemmas.List.Elements.{All-map, All-contains_itself}
use Rattle.std.proofs.lemmas.List.{take_all}
use Rattle.std.proofs.lemmas.Option.{same_Some}
use Rattle.lit_core.proofs.FreshFromQuiet.{false-from_negated}
use Rattle.lit_core.specs.declared.literals.Lit.{Lit}
use Rattle.lit_core.specs.Literals.{value_in, negated, literal_value, valuation, by_sign_if_any}
use Rattle.lit_core.specs.Truth.{IsSatisfied, IsSettled}
use Rattle.clause_store.specs.StoreState.{IsMadeBefore, IsQuiet}
use Rattle.conflict_analysis.specs.declared.refutations.Refuted.{Refuted}
use Rattle.conflict_analysis.specs.Analyses.{IsRefuted, IsDecided}
use Rattle.ground_core.specs.declared.parts.AggCon.{AggCon}
use Rattle.ground_core.specs.Problems.{ProblemState, IsProblem, IsLitOf, IsSumOf, AreLitsOf}
use Rattle.ground_core.specs.Meaning.{Satisfies, SumHolds, MakesTrue, RefutesAll, AreAllFalse}
use Rattle.ground_core.specs.GateClauses.{clauses_of}
use Rattle.ground_core.proofs.Whole.{satisfies-by-clauses}
use Rattle.search_engine.specs.declared.engine.Engine.{Engine}
use Rattle.search_engine.specs.Knowledge.{IsHeldAs}
use Rattle.term_bounds.specs.Breaking.{HasLits}
use Rattle.term_bounds.specs.Shares.{IsDecidedAs}
use Rattle.aggregate_propagators.specs.Implied.{assigned}
use Rattle.aggregate_propagators.proofs.Full.{quiet-is-enough}
use Rattle.search_engine.specs.Searching.{AreAssumed, AreClosed, AreQuietSums, AreTrue, GivesValues}
use Rattle.search_engine.specs.Searching.{HoldsWhereDecided, IsSearch}
use Rattle.search_engine.proofs.LearnFacts.{closed-true}
use Rattle.search_engine.proofs.Known.{once-satisfied-back}
use Rattle.search_engine.proofs.Roots.{not-both, follows-satisfied}
use Rattle.search_engine.proofs.SearchFacts.{satisfies-held}

-- an assumption that is not true, and is false by these decisions
module _ (e : Engine) (h : IsSearch e) (assume : List Lit) (assumed : AreAssumed assume e.store.trail.steps) (lit : Lit)
    (has : Contains assume lit) (untrue : value_in e.store.trail.values lit ≡ Some true → ⊥) (r : Refuted)
    (is : IsRefuted e.store lit r) where
  made-true : (k : ℕ) (m : Lit) → IsMadeBefore e.store.trail.steps k m → value_in e.store.trail.values m ≡ Some true
  made-true k m w = subst (λ (l : Lit). value_in e.store.trail.values l ≡ Some true) w.4
      (h.engine.store.trail.coherent.are_true w.0 w.1 w.3)

  -- each of these decisions was assumed
  pub decision-assumed : (l : Lit) → Contains r.lits.items l → Contains assume l
  decision-assumed l c =
      let d = All-contains (IsDecided e.store.trail) r.lits.items l is.decided c in
      ⊎_elim
      (λ (a : Contains assume d.1.lit). subst (Contains assume) d.3 a)
      (λ (all : All (IsMadeBefore e.store.trail.steps d.0) assume).
      absurd (untrue (made-true d.0 lit (All-contains (IsMadeBefore e.store.trail.steps d.0) assume lit all has))))
      (assumed d.0 d.1 d.2 d.5)

  pub decision-within : (l : Lit) → Contains r.lits.items l → l.var.0 < length e.store.trail.values
  decision-within l c =
      let d = All-contains (IsDecided e.store.trail) r.lits.items l is.decided c in
      subst (λ (x : Lit). x.var.0 < length e.store.trail.values) d.3
      (h.engine.store.trail.coherent.in_range d.0 d.1 d.2)

  -- a core that has them and the assumption is refuted
  pub core-refuted : (core : List Lit) → ((l : Lit) → Contains assume l → (l ≡ lit) ⊎ Contains r.lits.items l
      → Contains core l) → RefutesAll e.problem core
  core-refuted core covers v sat make =
      let true-in : (l : Lit) → Contains core l → literal_value v l ≡ true =
      λ l c. All-contains (λ m. literal_value v m ≡ true) core l make c in
      let lit-true : literal_value v lit ≡ true = true-in lit (covers lit has (inl refl)) in
      let others-true : All (λ m. literal_value v m ≡ true) r.lits.items = All-weaker (Contains r.lits.items)
      (λ m. literal_value v m ≡ true) (λ m c. true-in m (covers m (decision-assumed m c) (inr c))) r.lits.items
      (All-contains_itself r.lits.items) in
      ⊎_elim
      (λ alone.
      let there : Contains r.lits.items (negated lit) = subst (λ (xs : List Lit). Contains xs (negated lit))
      (sym alone.0) (0, omega arith, refl) in
      not-both v lit lit-true (All-contains (λ m. literal_value v m ≡ true) r.lits.items
      (negated lit) others-true there))
      (λ f.
      let all : All (λ m. literal_value v m ≡ true) (r.lits.items ++ lit ∷ []) =
      All-push (λ m. literal_value v m ≡ true) r.lits.items lit others-true lit-true in
      let none : All (λ x. literal_value v x ≡ true → ⊥) (map negated (r.lits.items ++ lit ∷ [])) =
      All-map (λ x. literal_value v x ≡ true → ⊥) negated (r.lits.items ++ lit ∷ [])
      (All-weaker (λ m. literal_value v m ≡ true) (λ m. literal_value v (negated m) ≡ true → ⊥)
      (λ m t u. not-both v m t u) (r.lits.items ++ lit ∷ []) all) in
      let w = follows-satisfied e.store v (satisfies-held e h.engine v sat) (map negated (r.lits.items ++ lit ∷ []))
      r.hints.items f in
      All-contains (λ x. literal_value v x ≡ true → ⊥) (map negated (r.lits.items ++ lit ∷ [])) w.1 none
      (w.0, w.2, w.3) w.4)
      is.follows

-- values of all variables satisfy a clause that is not false
module _ (a : List (Option Bool)) (values : List Bool) (n : ℕ) (given : GivesValues a (n + 1) values) where
  pub value-given : (l : Lit) → IsLitOf n l → value_in a l ≡ Some (literal_value (valuation values) l)
  value-given l is = let low : 1 ≤ l.var.0 = is.0 in let high : l.var.0 ≤ n = is.1 in
      ap (by_sign_if_any l.positive) (given.same l.var.0 low (omega (arith, high)))

  true-given : (l : Lit) → IsLitOf n l → value_in a l ≡ Some true → literal_value (valuation values) l ≡ true
  true-given l is t = same_Some (literal_value (valuation values) l) true (sym (value-given l is) ∙ t)

  some-or-false : (c : List Lit) → AreLitsOf n c → IsSatisfied (valuation values) c
      ⊎ All (λ l. value_in a l ≡ Some false) c
  some-or-false [] is = inr (All-nil (λ l. value_in a l ≡ Some false))
  some-or-false (l ∷ c) is = by_value (some-or-false c (All-tail (IsLitOf n) l c is))
      (literal_value (valuation values) l) refl
    where
      by_value : (IsSatisfied (valuation values) c ⊎ All (λ m. value_in a m ≡ Some false) c) → (b : Bool)
          → literal_value (valuation values) l ≡ b → IsSatisfied (valuation values) (l ∷ c)
          ⊎ All (λ m. value_in a m ≡ Some false) (l ∷ c)
      by_value r true e = inl (0, l, omega arith, refl, e)
      by_value r false e = ⊎_elim
          (λ s. inl (suc s.0, s.1, omega (arith, s.2), s.3, s.4))
          (λ rest. inr (All-cons (λ m. value_in a m ≡ Some false) l c (value-given l (All-head (IsLitOf n) l c is)
          ∙ ap Some e) rest))
          r

  pub settled-satisfied : (c : List Lit) → AreLitsOf n c → IsSettled a c → IsSatisfied (valuation values) c
  settled-satisfied c is settled = ⊎_elim (λ s. s) (λ f. absurd (settled.not_false f)) (some-or-false c is)

-- where nothing is left to propagate and all variables have values, these satisfy the problem and what is true
module _ (e : Engine) (h : IsSearch e) (quiet : IsQuiet e.store) (values : List Bool)
    (given : GivesValues e.store.trail.values (e.problem.vars + 1) values) (sums : AreQuietSums e)
    (bounds : HoldsWhereDecided e) where
  -- so do retired selectors
  off-given : (l : Lit) → Contains e.problem.retired l → literal_value (valuation values) l ≡ false
  off-given l gone =
      let whole : take e.closed e.problem.retired ≡ e.problem.retired = take_all e.closed e.problem.retired
      (let all : e.closed ≡ length e.problem.retired = h.closed in omega (arith, all)) in
      let closed-all : AreClosed e.store.clauses e.ids.items e.problem.retired =
      subst (AreClosed e.store.clauses e.ids.items) whole h.engine.closed in
      let off : value_in e.store.trail.values l ≡ Some false = false-from_negated e.store.trail.values l
      (closed-true e.store e.ids.items e.problem.retired quiet closed-all l gone) in
      let lit : IsLitOf e.problem.vars l = All-contains (IsLitOf e.problem.vars) e.problem.retired l
      h.engine.problem.retired gone in
      same_Some (literal_value (valuation values) l) false (sym
      (value-given e.store.trail.values values e.problem.vars given l lit) ∙ off)

  retired-false : AreAllFalse (valuation values) e.problem.retired
  retired-false = All-weaker (Contains e.problem.retired) (λ l. literal_value (valuation values) l ≡ false) off-given
      e.problem.retired (All-contains_itself e.problem.retired)

  -- the problem without its sums and bounds
  abbrev bare : ProblemState
  bare = record {
    atoms = e.problem.atoms;
    vars = e.problem.vars;
    gates = e.problem.gates;
    clauses = e.problem.clauses;
    sums = [];
    terms = e.problem.terms;
    bounds = [];
    retired = e.problem.retired;
  }

  bare-satisfied : Satisfies bare (valuation values)
  bare-satisfied = satisfies-by-clauses bare (valuation values) refl refl
      (All-weaker (λ c. (id : ℕ) × IsHeldAs e.store.clauses id c × (Contains e.ids.items id → ⊥))
      (IsSatisfied (valuation values))
      (λ c w. once-satisfied-back (valuation values) c w.1.0 w.1.2
      (settled-satisfied e.store.trail.values values e.problem.vars given w.1.0
      (h.engine.knows.within w.0 w.1.0 w.1.1) (quiet w.0 w.1.0 w.1.1)))
      (clauses_of e.problem) h.engine.knows.problem)
      retired-false

  all-decided : HasLits (IsDecidedAs e.store.trail.values (valuation values)) e.problem.terms e.problem.bounds
  all-decided =
      let fine : IsProblem e.problem = h.engine.problem in (
        (λ k d lt j m less. value-given e.store.trail.values values e.problem.vars given
            (get_or (get_or e.problem.terms k d).parts j m).lit (fine.terms k d lt j m less)),
        (λ k d lt. value-given e.store.trail.values values e.problem.vars given (get_or e.problem.bounds k d).out
            (fine.bounds k d lt).0),
      )

  sums-hold : All (SumHolds (valuation values)) e.problem.sums
  sums-hold k d lt =
      let s : AggCon = get_or e.problem.sums k d in
      let of : IsSumOf e.problem.vars s = h.engine.problem.sums k d lt in
      quiet-is-enough (assigned e.store.trail.values) (valuation values) s (
        value-given e.store.trail.values values e.problem.vars given s.out of.0,
        λ j t less. value-given e.store.trail.values values e.problem.vars given (get_or s.parts j t).lit
            (of.1 j t less),
      ) (sums k d lt).fine

  pub values-satisfy : Satisfies e.problem (valuation values)
  values-satisfy = record {
    gates = bare-satisfied.gates;
    clauses = bare-satisfied.clauses;
    sums = sums-hold;
    bounds = bounds (valuation values) all-decided;
    retired = retired-false;
  }

  pub values-make : (assume : List Lit) → AreLitsOf e.problem.vars assume → AreTrue e.store.trail.values assume
      → MakesTrue (valuation values) assume
  values-make assume lits trues k d lt = true-given e.store.trail.values values e.problem.vars given (get_or assume k d)
      (lits k d lt) (trues k d lt)
