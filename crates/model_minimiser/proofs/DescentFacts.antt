-- The descent to a least value.
use Rattle.std.proofs.Common.{◌≡◌, ℕ, ◌+◌, ◌*◌, ◌^◌, ◌<◌, ◌≤◌, Bool, false, Some, List, [], ◌∷◌, ◌++◌, map, length}
use Rattle.std.proofs.Common.{get_or}
use Rattle.std.proofs.Common.{slice_get, All, refl, sym, ap, ◌∙◌, subst, arith, ⊎_elim}
use Rattle.std.proofs.lemmas.Nat.{mul-le}
use Rattle.std.proofs.lemmas.List.{append-nil, length_push}
use Rattle.std.proofs.lemmas.List.Elements.{All-nil, All-head, All-tail, All-push}
use Rattle.kb_logic.specs.declared.elements.ExtInt.{ExtInt}
use Rattle.kb_logic.specs.declared.elements.ExtInt.TheVariants.{NegInf}
use Rattle.kb_logic.specs.declared.syntax.Cmp.TheVariants as cmp
use Rattle.kb_logic.specs.Denotations.{Denotation, compared}
use Rattle.lit_core.specs.declared.literals.Lit.{Lit}
use Rattle.lit_core.specs.Literals.{valuation}
use Rattle.ground_core.specs.declared.parts.GroundTerm.{GroundTerm}
use Rattle.ground_core.specs.declared.parts.TermBound.{TermBound}
use Rattle.ground_core.specs.declared.growing.Addition.{Addition}
use Rattle.ground_core.specs.declared.growing.Addition.TheVariants.{Bound}
use Rattle.ground_core.specs.declared.solving.Budget.{Budget}
use Rattle.ground_core.specs.Problems.{ProblemState, IsProblem, AreLitsOf}
use Rattle.ground_core.specs.Meaning.{denotation_of_bound, IsInRange}
use Rattle.ground_core.specs.Growth.{retiring}
use Rattle.ground_core.specs.Growing.{value_at, value_of_term}
use Rattle.ground_core.specs.Solving.{SolveState, IsBudgetOf, IsKept, HasCoreWithin}
use Rattle.ground_core.proofs.GrowthFacts.{term-local, term-in-range}
use Rattle.ground_core.proofs.AdditionFacts.{nothing-added}
use Rattle.ground_core.proofs.Locals.{literal-local}
use Rattle.ground_core.specs.Calls.{Keeps, Costs, Counts, CountsUpTo, Stays, GrowsByAdditions}
use Rattle.model_minimiser.specs.declared.minimum.Found.{Found}
use Rattle.model_minimiser.specs.Bounds.{AddsAtMost, AddsBounds, AddsOne, Fall, HasBounds, HoldsBounds, IsAttained}
use Rattle.model_minimiser.specs.Bounds.{IsBelow, with_past_bounds}
use Rattle.model_minimiser.proofs.BoundFacts.{bound-added, more-bounds, no-bounds, same-bounds}
use Rattle.model_minimiser.specs.Minima.{IsFound, NothingBelow, IsLeast, HasBound, Spans}
use Rattle.ground_core.proofs.CallFacts.{none-yet, keeps-none, keeps-twice, counts-more, counts-twice}
use Rattle.model_minimiser.proofs.Order.{below-trans, rank, rank-falls, IsReached, Paid, paid-begins, paid-ends}
use Rattle.model_minimiser.proofs.Order.{paid-most, paid-next}

module _ (p q : ProblemState) (h : GrowsByAdditions p q) (assumed : List Lit) (lits : AreLitsOf p.vars assumed) where
  past-value : (term : ℕ) (v : ℕ → Bool) → value_at q term v ≡ value_at p term v
  past-value term v = ap (λ (ts : List GroundTerm). value_of_term (slice_get ts term) v) h.conserves.terms

  pub past-found : (term : ℕ) (f : Found) → IsFound q assumed term f → IsFound p assumed term f
  past-found term f is = record {
    covers =
        let x : q.vars < length f.values = is.covers in
        let y : p.vars ≤ q.vars = h.conserves.grows in omega (arith, x, y);
    satisfies = h.conserves.restricts (valuation f.values) is.satisfies;
    assumes =
        is.assumes;
    value = sym (past-value term (valuation f.values)) ∙ is.value;
  }

  pub past-nothing : (term : ℕ) (n : ExtInt) → IsProblem p → NothingBelow q assumed term n
      → NothingBelow p assumed term n
  past-nothing term n fine none = λ v s t.
      let e = h.conserves.extends v s in
      let same : value_at q term e.0 ≡ value_at p term v = past-value term e.0
      ∙ sym (term-local p term v e.0 fine e.1) in
      subst (λ (d : Denotation). compared cmp.Lt d (denotation_of_bound n) ≡ false) same
      (none e.0 e.3 (λ k d less. sym (literal-local p.vars v e.0 e.1 (get_or assumed k d) (lits k d less))
      ∙ t k d less))

fall-push : (v : ExtInt) (ns : List ExtInt) → Fall ns → All (IsBelow v) ns → Fall (ns ++ v ∷ [])
fall-push v [] f h = (All-nil (λ m. IsBelow m v), tt)
fall-push v (n ∷ ns) f h = (
  All-push (λ m. IsBelow m n) ns v f.0 (All-head (IsBelow v) n ns h),
  fall-push v ns f.1 (All-tail (IsBelow v) n ns h),
)

-- bounds that were added before this value was found
pub record AddsSoFar (assumed : List Lit) (term : ℕ) (old new : SolveState) (ls : List Lit) (v : ExtInt) : Type 0 where
  pub numbers : List ExtInt
  pub has : HasBounds term numbers old new ls
  pub fall : Fall numbers
  pub attained : All (IsAttained old.problem assumed term) numbers
  pub above : All (IsBelow v) numbers

adds-begins : (assumed : List Lit) (term : ℕ) (s : SolveState) (ls : List Lit) (v : ExtInt) → ls ≡ []
    → AddsSoFar assumed term s s ls v
adds-begins assumed term s ls v none = record {
  numbers = [];
  has = no-bounds term s ls none;
  fall = tt;
  attained = All-nil (IsAttained s.problem assumed term);
  above = All-nil (IsBelow v);
}

-- the bounds that are in force after a turn, and how many more there may be
module _ (assumed : List Lit) (term : ℕ) (r s t : SolveState) (ls ms : List Lit) (v : ExtInt)
    (so_far : AddsSoFar assumed term r s ls v) (here : IsAttained r.problem assumed term v) (fine : IsProblem s.problem)
    (adds : AddsAtMost term v s t ls ms) where
  pub record AddsMore : Type 0 where
    pub holds : HoldsBounds assumed term r t ms
    pub few : length holds.numbers ≤ length so_far.numbers + 1
    pub above : (w : ExtInt) → IsBelow w v → All (IsBelow w) holds.numbers

  abbrev ns : List ExtInt
  ns = so_far.numbers

  still-above : (w : ExtInt) → IsBelow w v → All (IsBelow w) ns
  still-above w lower k d lt = below-trans w v (get_or ns k d) lower (so_far.above k d lt)

  same : Stays s t × (ms ≡ ls) → AddsMore
  same is = record {
    holds = record {
      numbers = ns;
      has = same-bounds term ns r s t ls ms so_far.has is.0 is.1;
      fall = so_far.fall;
      attained = so_far.attained;
    };
    few = omega arith;
    above = still-above;
  }

  one : AddsOne term v s t ls ms → AddsMore
  one is = record {
    holds = record {
      numbers = ns ++ v ∷ [];
      has = more-bounds term ns r s t ls ms so_far.has v fine is;
      fall = fall-push v ns so_far.fall so_far.above;
      attained = All-push (IsAttained r.problem assumed term) ns v so_far.attained here;
    };
    few = let x : length (ns ++ v ∷ []) ≡ length ns + 1 = length_push ns v in omega (arith, x);
    above = λ w lower. All-push (IsBelow w) ns v (still-above w lower) lower;
  }

  pub adds-more : AddsMore
  adds-more = ⊎_elim same one adds

-- what holds between two searches
pub record IsSoFar (assumed : List Lit) (term : ℕ) (r s : SolveState) (a b : Budget) (best : Found) (ls : List Lit)
    : Type 0 where
  pub found : IsFound r.problem assumed term best
  pub adds : AddsSoFar assumed term r s ls best.value
  pub past : GrowsByAdditions r.problem s.problem
  pub keeps : Keeps r s a b
  pub turns : ℕ
  pub few : length adds.numbers ≤ turns
  pub count : ℕ
  pub counted : count ≤ turns
  pub counts : Counts (r.free + turns) count r s a b
  pub paid : Paid r.problem term turns best.value
  pub kept : IsKept s

reached : (p : ProblemState) (assumed : List Lit) (term : ℕ) (f : Found) → IsFound p assumed term f
    → IsReached p term f.value
reached p assumed term f h = (valuation f.values, h.satisfies, h.value)

pub so-far-begins : (assumed : List Lit) (term : ℕ) (r : SolveState) (a : Budget) (first : Found) (ls : List Lit)
    → ls ≡ [] → IsBudgetOf r.learnt a → IsKept r → IsFound r.problem assumed term first
    → IsSoFar assumed term r r a a first ls
unfolding adds-begins
so-far-begins assumed term r a first ls none budget kept found = record {
  found = found;
  adds = adds-begins assumed term r ls first.value none;
  past = nothing-added r.problem;
  keeps = keeps-none r a budget;
  turns = 0;
  few = let z : length (adds-begins assumed term r ls first.value none).numbers ≡ 0 = refl in omega (arith, z);
  count = 0;
  counted = omega arith;
  counts = none-yet (r.free + 0) r a kept.counted;
  paid = paid-begins r.problem term first.value (reached r.problem assumed term first found);
  kept = kept;
}

module _ (assumed : List Lit) (term : ℕ) (r s : SolveState) (a b : Budget) (best : Found) (ls : List Lit)
    (h : IsSoFar assumed term r s a b best ls) where
  pub so-far-term : term < length r.problem.terms → term < length s.problem.terms
  so-far-term lt = subst (λ (ts : List GroundTerm). term < length ts) (sym h.past.conserves.terms) lt

  pub so-far-budget : IsBudgetOf r.learnt a → IsBudgetOf s.learnt b
  so-far-budget budget = record {
    within = h.keeps.within;
    learned =
        let x : a.spent ≤ length r.learnt = budget.learned in
        let y : a.spent ≤ b.spent = h.keeps.rises in omega (arith, x, y, h.keeps.growth);
  }

  pub so-far-most : (n : ℕ) → Spans r.problem term n → CountsUpTo (r.free + (n + 2)) (n + 2) r s a b
  so-far-most n spans =
      let le : h.turns ≤ n + 2 = paid-most r.problem term h.turns best.value h.paid
      (reached r.problem assumed term best h.found) n spans in (
        h.count,
        omega (arith, le, h.counted),
        counts-more (r.free + h.turns) (r.free + (n + 2)) h.count r s a b (omega (arith, le)) h.counts,
      )

  pub so-far-bounds : HoldsBounds assumed term r s ls
  so-far-bounds = record {
    numbers = h.adds.numbers;
    has = h.adds.has;
    fall = h.adds.fall;
    attained = h.adds.attained;
  }

  pub least-here : (cores : List (List Lit)) (bounds : List TermBound) (l : Lit) → IsProblem r.problem
      → AreLitsOf r.problem.vars assumed → (best.value ≡ NegInf → ⊥) → NothingBelow s.problem assumed term best.value
      × HasCoreWithin cores (assumed ++ l ∷ []) × HasBound bounds l term best.value
      → IsLeast r.problem assumed term cores bounds (record {
        values = best.values;
        value = best.value;
        bound = Some l;
      })
  least-here cores bounds l fine lits not none = record {
    covers = h.found.covers;
    satisfies = h.found.satisfies;
    assumes = h.found.assumes;
    attained = h.found.value;
    lowest = past-nothing r.problem s.problem h.past assumed lits term best.value fine none.0;
    bound = (not, none.1, none.2);
  }

  module _ (t : SolveState) (c : Budget) (ms : List Lit) (adds : AddsAtMost term best.value s t ls ms)
      (keeps : Keeps s t b c) (counts : CountsUpTo (s.free + 1) 1 s t b c) where
    more : AddsMore assumed term r s t ls ms best.value h.adds (
      valuation best.values,
      h.found.satisfies,
      h.found.assumes,
      h.found.value,
    ) h.kept.problem adds
    more = adds-more assumed term r s t ls ms best.value h.adds (
      valuation best.values,
      h.found.satisfies,
      h.found.assumes,
      h.found.value,
    ) h.kept.problem adds

    all-counts : Counts (r.free + (h.turns + 1)) (h.count + counts.0) r t a c
    all-counts =
        let free : s.free ≡ r.free + length h.adds.numbers = h.adds.has.free in
        let few : length h.adds.numbers ≤ h.turns = h.few in
        counts-twice (r.free + (h.turns + 1)) h.count counts.0 r s t a b c
        (counts-more (r.free + h.turns) (r.free + (h.turns + 1)) h.count r s a b (omega arith) h.counts)
        (counts-more (s.free + 1) (r.free + (h.turns + 1)) counts.0 s t b c (omega (arith, free, few)) counts.2)

    all-counted : h.count + counts.0 ≤ h.turns + 1
    all-counted = let le : h.count ≤ h.turns = h.counted in let one : counts.0 ≤ 1 = counts.1 in omega (arith, le, one)

    pub turn-ends-bounds : HoldsBounds assumed term r t ms
    turn-ends-bounds = more.holds

    pub turn-ends-keeps : Keeps r t a c
    turn-ends-keeps = keeps-twice r s t a b c h.keeps keeps

    pub turn-ends-counts : (best.value ≡ NegInf → ⊥) → (n : ℕ) → Spans r.problem term n
        → CountsUpTo (r.free + (n + 2)) (n + 2) r t a c
    turn-ends-counts not n spans =
        let le : h.turns + 1 ≤ n + 2 = paid-ends r.problem term h.turns best.value h.paid
        (reached r.problem assumed term best h.found) not n spans in (
          h.count + counts.0,
          omega (arith, le, all-counted),
          counts-more (r.free + (h.turns + 1)) (r.free + (n + 2)) (h.count + counts.0) r t a c (omega (arith, le))
              all-counts,
        )

    past-more : GrowsByAdditions r.problem t.problem
    past-more = ⊎_elim
        (λ is. subst (λ (q : ProblemState). GrowsByAdditions r.problem q) (sym is.0.problem) h.past)
        (λ is. subst (λ (q : ProblemState). GrowsByAdditions r.problem q) (sym is.problem)
        (bound-added r.problem s.problem term best.value h.kept.problem h.past))
        adds

    pub turn-next : (f : Found) → AreLitsOf r.problem.vars assumed → IsFound s.problem assumed term f
        × IsBelow f.value best.value → IsKept t → IsSoFar assumed term r t a c f ms
    turn-next f lits found kept =
        let is : IsFound r.problem assumed term f = past-found r.problem s.problem h.past assumed lits term f found.0 in
        let few : length h.adds.numbers ≤ h.turns = h.few in
        record {
          found = is;
          adds = record {
            numbers = more.holds.numbers;
            has = more.holds.has;
            fall = more.holds.fall;
            attained = more.holds.attained;
            above = more.above f.value found.1;
          };
          past = past-more;
          keeps = turn-ends-keeps;
          turns = h.turns + 1;
          few = let x : length more.holds.numbers ≤ length h.adds.numbers + 1 = more.few in omega (arith, x, few);
          count = h.count + counts.0;
          counted = all-counted;
          counts = all-counts;
          paid = paid-next r.problem term h.turns 1 best.value f.value h.paid
              (reached r.problem assumed term best h.found) found.1 (reached r.problem assumed term f is) (omega arith);
          kept = kept;
        }

    pub turn-falls : (f : Found) → term < length r.problem.terms → IsKept r → AreLitsOf r.problem.vars assumed
        → IsFound s.problem assumed term f × IsBelow f.value best.value → rank f.value < rank best.value
    turn-falls f lt kept lits found =
        let is : IsFound r.problem assumed term f = past-found r.problem s.problem h.past assumed lits term f found.0 in
        rank-falls f.value best.value
        (subst IsInRange is.value (term-in-range r.problem term (valuation f.values) kept.terms is.satisfies lt))
        (subst IsInRange h.found.value (term-in-range r.problem term (valuation best.values) kept.terms
        h.found.satisfies lt))
        found.1

-- a search that adds nothing before
pub adds-after : (assumed : List Lit) (term : ℕ) (r s t : SolveState) → Stays r s → AddsBounds assumed term s t
    → AddsBounds assumed term r t
adds-after assumed term r s t stays adds = record {
  numbers = adds.numbers;
  grows = record {
    problem = adds.grows.problem ∙ ap (λ (p : ProblemState). with_past_bounds p term adds.numbers) stays.problem;
    additions = adds.grows.additions ∙ ap (λ (l : List Addition). l ++ map (Bound term) adds.numbers) stays.additions;
    free = adds.grows.free ∙ stays.free;
  };
  fall = adds.fall;
  attained = subst (λ (p : ProblemState). All (IsAttained p assumed term) adds.numbers) stays.problem adds.attained;
}

pub adds-nothing : (assumed : List Lit) (term : ℕ) (r s : SolveState) → Stays r s → AddsBounds assumed term r s
adds-nothing assumed term r s stays = record {
  numbers = [];
  grows = record {
    problem = stays.problem ∙ sym (ap (λ (gone : List Lit). retiring r.problem gone) (append-nil r.problem.retired));
    additions = stays.additions ∙ sym (append-nil r.additions);
    free =
        stays.free;
  };
  fall = tt;
  attained = All-nil (IsAttained r.problem assumed term);
}

-- one search, and then others, each under one more bound than the one before
pub costs-below : (n : ℕ) (r s t : SolveState) (a b c : Budget) → s.free ≡ r.free → Counts r.free 1 r s a b
    → CountsUpTo (s.free + (n + 2)) (n + 2) s t b c → a.spent ≤ c.spent → Costs (n + 3) r t a c
costs-below n r s t a b c free x y rises =
    let top : ℕ = r.free + (n + 3) in
    let z : Counts top y.0 s t b c = counts-more (s.free + (n + 2)) top y.0 s t b c (omega (arith, free)) y.2 in
    let w : Counts top 1 r s a b = counts-more r.free top 1 r s a b (omega arith) x in
    let all : Counts top (1 + y.0) r t a c = counts-twice top 1 y.0 r s t a b c w z in
    let few : 1 + y.0 ≤ n + 3 = let le : y.0 ≤ n + 2 = y.1 in omega (arith, le) in record {
      searches = (1 + y.0, few, all.searches);
      spent =
          let f : c.spent + (1 + y.0) ≤ a.spent + (1 + y.0) * 2 ^ top = all.fewer in
          let g : (1 + y.0) * 2 ^ top ≤ (n + 3) * 2 ^ top = mul-le (1 + y.0) (2 ^ top) (n + 3) (2 ^ top) few
          (omega arith) in
          omega (arith, f, g, rises);
    }
