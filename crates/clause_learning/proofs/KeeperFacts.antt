-- Searches with kept cores, within a budget.
use Rattle.std.proofs.Common.{◌≡◌, ℕ, ◌+◌, ◌-◌, ◌^◌, ◌<◌, ◌≤◌, Bool, true, Option, Some, None, IfSome, List, [], ◌∷◌}
use Rattle.std.proofs.Common.{◌++◌, length, take, drop, replicate, refl, sym, ap, ◌∙◌, subst, inl, inr, ◌⊎◌, ⊎_elim}
use Rattle.std.proofs.Common.{arith, All, Contains, slice_get}
use Rattle.std.proofs.lemmas.Nat.{pow_pos}
use Rattle.std.proofs.lemmas.List.{take-append-drop, append-nil}
use Rattle.std.proofs.lemmas.List.Elements.{All-append, All-contains, All-nil, All-weaker}
use Rattle.std.proofs.lemmas.Option.{get_or_from_slice_get, same_Some, slice_get_within}
use Rattle.lit_core.specs.declared.literals.Lit.{Lit}
use Rattle.lit_core.specs.Literals.{literal_value}
use Rattle.std.specs.Prelude.{Result, Ok, Err, OnOk, OnErr}
use Rattle.ground_core.specs.declared.solving.Budget.{Budget}
use Rattle.ground_core.specs.declared.solving.Halt.{Halt}
use Rattle.ground_core.specs.declared.solving.Verdict.{Verdict}
use Rattle.ground_core.specs.declared.solving.Verdict.TheVariants.{Sat, Unsat}
use Rattle.kb_logic.specs.declared.elements.ExtInt.{ExtInt}
use Rattle.ground_core.specs.declared.parts.GroundTerm.{GroundTerm}
use Rattle.ground_core.specs.Growing.{HasValue, value_of_term}
use Rattle.ground_core.specs.Problems.{ProblemState, IsProblem}
use Rattle.ground_core.specs.Meaning.{HasTermsInRange, IsInRange, Satisfies, RefutesAll, term_value}
use Rattle.ground_core.specs.Meaning.{denotation_of_bound}
use Rattle.ground_core.specs.Moments.{moment_of}
use Rattle.ground_core.specs.Selectors.{AreSelectors}
use Rattle.ground_core.specs.Solving.{SolveState, Answers, Spends, IsPrefix, IsBudgetOf, IsSublist, HasCoreWithin}
use Rattle.ground_core.specs.Solving.{KeepsCores}
use Rattle.ground_core.proofs.CoreFacts.{within-trans, sublist-within}
use Rattle.search_engine.specs.Joining.{joined_problem, CanJoin}
use Rattle.search_engine.proofs.Joined.{joined-first, joined-second}
use Rattle.search_engine.specs.declared.engine.Engine.{Engine}
use Rattle.search_engine.specs.Resting.{IsResting, Grows}
use Rattle.search_log.specs.Logs.{LogState}
use Rattle.search_engine.proofs.LogFacts.{resting-logged, with_log}
use Rattle.clause_learning.specs.declared.keeper.Keeper.{Keeper}
use Rattle.clause_learning.specs.Keeping.{AnswersWidened, IsKeeper, IsMost, IsNewRefusal, IsWidened}
use Rattle.clause_learning.specs.LiveBounds.{IsLive, IsOutputOfWider}
use Rattle.ground_core.specs.declared.parts.TermBound.{TermBound}
use Rattle.std.specs.Global.{Vec}
use Rattle.clause_learning.specs.declared.core_index.CoreIndex.{CoreIndex}

pub prefix-from : {X : Type 0} (xs ys : List X) → xs ≡ take (length xs) ys → IsPrefix xs ys
prefix-from xs ys e = (
  drop (length xs) ys,
  sym (take-append-drop (length xs) ys)
      ∙ ap (λ zs. zs ++ drop (length xs) ys) (sym e),
)

-- the limit is kept where the learnt list is no longer than it may be
pub most-within : (known len : ℕ) (b : Budget) (most : Option ℕ) → IsMost known b most → known ≤ len → len < 2 ^ 64
    → b.spent ≤ known → IfSome most (λ m. len ≤ m) → IfSome b.limit (λ limit. b.spent + (len - known) ≤ limit)
most-within known len b (Some m) h le small spent fits = subst
    (λ (o : Option ℕ). IfSome o (λ limit. b.spent + (len - known) ≤ limit)) (sym h.1)
    (let e : m + b.spent ≡ known + h.0 = h.2 in let f : len ≤ m = fits in omega (arith, e, f, le))
most-within known len b None h le small spent fits = by_limit b.limit h
  where
    by_limit : (o : Option ℕ) → IfSome o (λ limit. 2 ^ 64 + b.spent ≤ known + limit)
        → IfSome o (λ limit. b.spent + (len - known) ≤ limit)
    by_limit None g = tt
    by_limit (Some limit) g = let x : 2 ^ 64 + b.spent ≤ known + limit = g in omega (arith, x, le, small, spent)

-- a full learnt list is the limit reached
pub most-reached : (known len : ℕ) (b : Budget) (most : Option ℕ) → IsMost known b most → known ≤ len → most ≡ Some len
    → b.limit ≡ Some (b.spent + (len - known))
most-reached known len b None h le e = let x : None ≡ Some len = e in cc
most-reached known len b (Some m) h le e =
    let same : m ≡ len = same_Some m len e in
    let sum : m + b.spent ≡ known + h.0 = h.2 in
    h.1 ∙ ap Some (let is : h.0 ≡ b.spent + (len - known) = omega (arith, same, sum, le) in is)

-- what a search spends
pub spends : (s t : SolveState) (b c : Budget) (conflicts : ℕ) → t.problem ≡ s.problem
    → s.learnt ≡ take (length s.learnt) t.learnt → (k : ℕ) × (length t.learnt ≡ length s.learnt + k)
    × (t.moments ≡ s.moments ++ replicate k (moment_of s.problem)) → c.limit ≡ b.limit
    → c.spent ≡ b.spent + (length t.learnt - length s.learnt) → length t.learnt ≤ length s.learnt + conflicts
    → conflicts < 2 ^ s.free → IfSome b.limit (λ limit. b.spent + (length t.learnt - length s.learnt) ≤ limit)
    → Spends s t b c
spends s t b c conflicts problem front now limit spent few fewer within = record {
  limit = limit;
  rises = omega (arith, spent);
  prefix = prefix-from s.learnt t.learnt front;
  growth = omega (arith, spent, now.1);
  moments = now.2 ∙ ap (λ (n : ℕ). s.moments ++ replicate n (moment_of s.problem)) (let is : now.0 ≡ c.spent - b.spent =
      omega (arith, spent, now.1) in is);
  fewer = omega (arith, spent, now.1, few, fewer);
  within = rw (limit, spent) within;
}

-- nothing is spent where nothing is searched
pub spends-none : (s t : SolveState) (b : Budget) → t.learnt ≡ s.learnt → t.moments ≡ s.moments → IsBudgetOf s.learnt b
    → Spends s t b b
spends-none s t b learnt moments h =
    let len : length t.learnt ≡ length s.learnt = ap length learnt in
    let none : b.spent - b.spent ≡ 0 = omega arith in
    record {
      limit = refl;
      rises = omega arith;
      prefix = ([], learnt ∙ sym (append-nil s.learnt));
      growth = omega (arith, len);
      moments = moments ∙ (sym (append-nil s.moments) ∙ ap (λ (n : ℕ). s.moments ++ replicate n (moment_of s.problem))
          (sym none));
      fewer = let p : 0 < 2 ^ s.free = pow_pos s.free in omega (arith, p);
      within = h.within;
    }

-- a kept core refutes what contains it
pub refutes-within : (p : ProblemState) (cores : List (List Lit)) (core : List Lit) → All (RefutesAll p) cores
    → HasCoreWithin cores core → RefutesAll p core
refutes-within p cores core h w v sat make =
    All-contains (RefutesAll p) cores w.1 h (w.0, w.2, w.3) v sat
    (All-weaker (Contains core) (λ l. literal_value v l ≡ true)
    (λ l has. All-contains (λ m. literal_value v m ≡ true) core l make has) w.1 w.4)

-- no kept core is contained in less
pub none-within : (cores : List (List Lit)) (core lits : List Lit) → IsSublist core lits
    → (HasCoreWithin cores lits → ⊥) → HasCoreWithin cores core → ⊥
none-within cores core lits sub none w = none (
  w.0,
  w.1,
  w.2,
  w.3,
  within-trans w.1 core lits w.4 (sublist-within core lits sub),
)

-- where another problem is joined
module _ (p q : ProblemState) (fine : IsProblem p) (more-bounds : q.bounds ≡ []) (can : CanJoin p q) where
  pub joined-terms : HasTermsInRange p → HasTermsInRange q → HasTermsInRange (joined_problem p q)
  joined-terms a b v sat =
      All-append (λ t. IsInRange (term_value v t)) p.terms q.terms
      (a v (joined-first p q fine more-bounds v sat))
      (b v (joined-second p q fine more-bounds can v sat))

  pub joined-refuted : (cores : List (List Lit)) → All (RefutesAll p) cores
      → All (RefutesAll (joined_problem p q)) cores
  joined-refuted cores h = All-weaker (RefutesAll p) (RefutesAll (joined_problem p q))
      (λ c r v sat make. r v (joined-first p q fine more-bounds v sat) make) cores h

pub either : {T E : Type 0} (A B : Type 0) (r : Result T E) → OnOk r A → OnErr r B → A ⊎ B
either A B (Ok x) a b = inl a
either A B (Err e) a b = inr b

module _ (a : Keeper) (f : Engine) (bs : Vec TermBound) (h : IsKeeper a) (resting : IsResting f)
    (none : bs.items ≡ []) where
  abbrev with_engine : Keeper
  with_engine = record { alloc = a.alloc; engine = f; index = a.index; additions = a.additions; live = bs }

  -- another problem was joined
  pub keeper-joined : (q : ProblemState) → CanJoin a.engine.problem q → q.bounds ≡ [] → HasTermsInRange q
      → Grows a.engine q f → IsKeeper with_engine
  keeper-joined q can bounds terms g = record {
    resting = resting;
    terms = subst HasTermsInRange (sym g.problem) (joined-terms a.engine.problem q h.resting.engine.problem bounds can
        h.terms terms);
    few = subst (λ (p : ProblemState). length p.retired ≤ p.vars) (sym g.problem) (let le : a.engine.problem.vars
        ≤ q.vars = can.vars in let few : length a.engine.problem.retired ≤ a.engine.problem.vars = h.few in
        omega (arith, le, few));
    selectors = subst (λ (p : ProblemState). AreSelectors p.retired) (sym g.problem) h.selectors;
    indexed = h.indexed;
    refuted = subst (λ (p : ProblemState). All (RefutesAll p) a.index.cores.items) (sym g.problem)
        (joined-refuted a.engine.problem q h.resting.engine.problem bounds can a.index.cores.items h.refuted);
    counted = rw g.same.searches h.counted;
    live = subst (All (IsLive f.problem)) (sym none) (All-nil (IsLive f.problem));
  }

  -- the problem stays
  pub keeper-stays : f.problem ≡ a.engine.problem → f.searches < 2 ^ 64 → IsKeeper with_engine
  keeper-stays problem counted = record {
    resting = resting;
    terms = subst HasTermsInRange (sym problem) h.terms;
    few = subst (λ (p : ProblemState). length p.retired ≤ p.vars) (sym problem) h.few;
    selectors = subst (λ (p : ProblemState). AreSelectors p.retired) (sym problem) h.selectors;
    indexed = h.indexed;
    refuted = subst (λ (p : ProblemState). All (RefutesAll p) a.index.cores.items) (sym problem) h.refuted;
    counted = counted;
    live = subst (All (IsLive f.problem)) (sym none) (All-nil (IsLive f.problem));
  }

-- a problem that says more refutes what was refuted
pub refuted-more : (p q : ProblemState) → ((v : ℕ → Bool) → Satisfies q v → Satisfies p v) → (cores : List (List Lit))
    → All (RefutesAll p) cores → All (RefutesAll q) cores
refuted-more p q less cores h = All-weaker (RefutesAll p) (RefutesAll q)
    (λ c r v sat make. r v (less v sat) make) cores h

-- and keeps its terms in range
pub range-more : (p q : ProblemState) → q.terms ≡ p.terms → ((v : ℕ → Bool) → Satisfies q v → Satisfies p v)
    → HasTermsInRange p → HasTermsInRange q
range-more p q same less h v sat = subst (All (λ t. IsInRange (term_value v t))) (sym same) (h v (less v sat))

-- without terms there is nothing to keep in range
pub none-in-range : (p : ProblemState) → p.terms ≡ [] → HasTermsInRange p
none-in-range p none v sat = subst (All (λ t. IsInRange (term_value v t))) (sym none)
    (All-nil (λ t. IsInRange (term_value v t)))

-- a term of the problem has the value of this term
pub value-at : (p : ProblemState) (term : ℕ) (t : GroundTerm) (v : ℕ → Bool) (n : ExtInt) → slice_get p.terms term
    ≡ Some t → denotation_of_bound n ≡ term_value v t → HasValue p term v n
value-at p term t v n at is = ap (λ o. value_of_term o v) at ∙ sym is

-- and it is in range
pub in-range-at : (p : ProblemState) (term : ℕ) (t : GroundTerm) (v : ℕ → Bool) → slice_get p.terms term ≡ Some t
    → HasTermsInRange p → Satisfies p v → IsInRange (term_value v t)
in-range-at p term t v at h sat = subst (λ (u : GroundTerm). IsInRange (term_value v u))
    (get_or_from_slice_get p.terms term t t at) (h v sat term t (slice_get_within p.terms term t at))

-- kept cores stay
pub cores-prefix : (before after : List (List Lit)) (r : Result Verdict Halt) → KeepsCores before r after
    → IsPrefix before after
cores-prefix before after (Ok (Sat values)) h = ([], h ∙ sym (append-nil before))
cores-prefix before after (Ok (Unsat core)) h = ⊎_elim (λ w. ([], w.1 ∙ sym (append-nil before)))
    (λ w. (core ∷ [], w.1)) h
cores-prefix before after (Err halt) h = ([], h ∙ sym (append-nil before))

-- what was searched for where no kept core was contained in the assumptions
pub new-refusal : (a b : Keeper) (assume : List Lit) (v : Verdict) → b.index ≡ a.index
    → b.engine.problem ≡ a.engine.problem → Answers a.engine.problem assume v
    → (HasCoreWithin a.index.cores.items assume → ⊥) → IsNewRefusal b v
new-refusal a b assume (Sat values) index problem h none = tt
new-refusal a b assume (Unsat core) index problem h none = (
  subst (λ (p : ProblemState). RefutesAll p core) (sym problem) h.1,
  subst (λ (k : CoreIndex). HasCoreWithin k.cores.items core → ⊥) (sym index)
      (none-within a.index.cores.items core assume h.0 none),
)

-- an answer on more than what is assumed, where problem and live bounds stay
pub widened-later : (a b : Keeper) (assumed lits : List Lit) (v : Verdict) → b.live ≡ a.live
    → b.engine.problem ≡ a.engine.problem → IsWidened a assumed lits → Answers a.engine.problem lits v
    → AnswersWidened b assumed v
widened-later a b assumed lits v live problem wide answers = (
  lits,
  subst (λ (bs : Vec TermBound). (more : List Lit) × (lits ≡ assumed ++ more) × All (IsOutputOfWider bs.items assumed)
      more) (sym live) wide,
  subst (λ (p : ProblemState). Answers p lits v) (sym problem) answers,
)

-- another log
abbrev pub logged : Keeper → LogState → Keeper
logged a l = record {
  alloc = a.alloc;
  engine = with_log a.engine l;
  index = a.index;
  additions = a.additions;
  live = a.live;
}

pub keeper-logged : (a : Keeper) (l : LogState) → IsKeeper a → IsKeeper (logged a l)
keeper-logged a l h = record {
  resting = resting-logged a.engine l h.resting;
  terms = h.terms;
  few = h.few;
  selectors = h.selectors;
  indexed = h.indexed;
  refuted = h.refuted;
  counted = h.counted;
  live = h.live;
}
