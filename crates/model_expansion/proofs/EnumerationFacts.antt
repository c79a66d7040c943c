-- Models found one after another.
use Rattle.std.proofs.Common.{◌≡◌, ℕ, zero, suc, ◌+◌, ◌-◌, ◌*◌, ◌^◌, ◌<◌, ◌≤◌, Bool, true, false, Option}
use Rattle.std.proofs.Common.{Result, Err, List, [], ◌∷◌, ◌++◌, map, length, get_or, All, refl, sym, ap}
use Rattle.std.proofs.Common.{◌∙◌, subst, arith}
use Rattle.std.proofs.lemmas.List.{append_assoc, append-nil, length_push}
use Rattle.std.proofs.lemmas.List.Elements.{All-nil, All-contains, All-push}
use Rattle.std.proofs.lemmas.Bool.{both_ways}
use Rattle.std.proofs.lemmas.Nat.{pow_pos, mul-le}
use Rattle.std.proofs.Math.Nat.{pow-le-pow_right}
use Rattle.lit_core.specs.declared.literals.Lit.{Lit}
use Rattle.lit_core.specs.Literals.{literal_value, valuation}
use Rattle.ground_core.specs.declared.growing.Addition.{Addition}
use Rattle.ground_core.specs.declared.growing.Addition.TheVariants.{Exclusion}
use Rattle.ground_core.specs.declared.solving.Budget.{Budget}
use Rattle.ground_core.specs.declared.solving.Halt.{Halt}
use Rattle.ground_core.specs.declared.solving.Halt.TheVariants.{Spent, Memory}
use Rattle.ground_core.specs.Problems.{ProblemState, IsProblem, AreLitsOf}
use Rattle.ground_core.specs.Meaning.{Satisfies, MakesTrue, RefutesAll}
use Rattle.ground_core.specs.Growth.{with_exclusion, next_lit, retiring}
use Rattle.ground_core.specs.Growing.{Conserves, IsSelector, excluded}
use Rattle.ground_core.specs.Laws.{Differs}
use Rattle.ground_core.specs.Solving.{SolveState, AreUnretired, HasCoreWithin, IsBudgetOf, IsKept}
use Rattle.ground_core.specs.Calls.{Keeps, Counts, CountsUpTo, Costs, Stays, IsAnsweredAtOnce, IsNone}
use Rattle.ground_core.proofs.CallFacts.{none-yet, keeps-none, keeps-twice, keeps-grown, counts-twice, counts-more}
use Rattle.ground_core.proofs.MomentFacts.{moment-excluded, moment-retired}
use Rattle.ground_core.proofs.AdditionFacts.{nothing-added}
use Rattle.ground_core.proofs.GrowthFacts.{exclusions-select}
use Rattle.model_search.specs.Models.{IsLeft}
use Rattle.model_expansion.specs.Exclusions.{exclusion_selectors, Excludes}
use Rattle.model_search.specs.Retirements.{AreNew, retired_all}
use Rattle.model_expansion.specs.Exclusions.{AreModels}
use Rattle.model_expansion.specs.Enumerations.{Gathers, Ends, IsAll, AddsExclusions, IsEmpty}
use Rattle.model_expansion.proofs.ExclusionFacts.{exclusions-push, selectors-push, selector-stays, selectors-number}
use Rattle.model_expansion.proofs.ExclusionFacts.{retired-stays, with-next, unretired-next, are-new, Selects}
use Rattle.model_expansion.proofs.ExclusionFacts.{selects-begins, selects-next, apart-push, all-found}

-- what holds before the search number i, from 0 on
pub record IsSoFar (assumed : List Lit) (n i : ℕ) (r s : SolveState) (a b : Budget) (ls : List Lit)
    (vs : List (List Bool)) : Type 0 where
  pub gathers : Gathers assumed n r s ls vs
  pub number : length vs ≡ i
  pub selects : Selects r.problem s.problem assumed vs ls
  pub conserves : Conserves r.problem s.problem
  pub within : AreLitsOf s.problem.vars ls
  pub unretired : AreUnretired s.problem ls
  pub keeps : Keeps r s a b
  pub counts : Counts (r.free + n) i r s a b
  pub same : vs ≡ [] → s ≡ r
  pub kept : IsKept s

pub so-far-begins : (assumed : List Lit) (n : ℕ) (r : SolveState) (a : Budget) (vs : List (List Bool)) → vs ≡ []
    → AreLitsOf r.problem.vars assumed → AreUnretired r.problem assumed → IsBudgetOf r.learnt a → IsKept r
    → IsSoFar assumed n 0 r r a a assumed vs
so-far-begins assumed n r a vs none lits unretired budget kept =
    subst (λ (xs : List (List Bool)). IsSoFar assumed n 0 r r a a assumed xs) (sym none) (record {
      gathers = record {
        problem = refl;
        additions = sym (append-nil r.additions);
        free = omega arith;
        lits = sym (append-nil assumed);
        selectors = All-nil (IsSelector r.problem);
        most = omega arith;
        models = record { left = All-nil (IsLeft r.problem assumed); apart = tt };
      };
      number = refl;
      selects = selects-begins r.problem assumed;
      conserves = (nothing-added r.problem).conserves;
      within = lits;
      unretired = unretired;
      keeps = keeps-none r a budget;
      counts = none-yet (r.free + n) r a kept.counted;
      same = λ e. refl;
      kept = kept;
    })

map-push : (vs : List (List Bool)) (v : List Bool) → map Exclusion (vs ++ v ∷ []) ≡ map Exclusion vs ++ Exclusion v ∷ []
map-push [] v = refl
map-push (w ∷ vs) v = ap (λ (l : List Addition). Exclusion w ∷ l) (map-push vs v)

-- what a search finds is left in the problem as it was, and is apart from all that was found
module _ (assumed : List Lit) (n i : ℕ) (r s : SolveState) (a b : Budget) (ls : List Lit) (vs : List (List Bool))
    (h : IsSoFar assumed n i r s a b ls vs) where
  module _ (values : List Bool) (left : IsLeft s.problem ls values) where
    abbrev means : Satisfies r.problem (valuation values) × MakesTrue (valuation values) assumed
        × All (λ w. Differs r.problem w (valuation values)) vs
    means = h.selects.means (valuation values) left.1 left.2

    pub left-before : IsLeft r.problem assumed values
    left-before = (
      let x : r.problem.vars ≤ s.problem.vars = h.conserves.grows in let y : s.problem.vars
          < length values = left.0 in omega (arith, x, y),
      means.0,
      means.1,
    )

    pub more-models : AreModels r.problem assumed (vs ++ values ∷ [])
    more-models = record {
      left = All-push (IsLeft r.problem assumed) vs values h.gathers.models.left left-before;
      apart = apart-push r.problem vs values h.gathers.models.apart means.2;
    }

    pub ends-with-more : (cores : List (List Lit)) → i ≡ n → Ends r.problem assumed n cores vs false
    ends-with-more cores is = record {
      ends = (h.number ∙ is, (valuation values, means.0, means.1, means.2));
      shown = λ e f. absurd (both_ways false refl f);
    }

    pub long-enough : length s.problem.atoms < length values
    long-enough = let x : length s.problem.atoms ≤ s.problem.vars = h.kept.problem.atoms in let y : s.problem.vars
        < length values = left.0 in omega (arith, x, y)

  pub so-far-budget : IsBudgetOf r.learnt a → IsBudgetOf s.learnt b
  so-far-budget budget = record {
    within = h.keeps.within;
    learned =
        let x : a.spent ≤ length r.learnt = budget.learned in
        let y : a.spent ≤ b.spent = h.keeps.rises in omega (arith, x, y, h.keeps.growth);
  }

  -- where a kept core refutes what is assumed, nothing was found yet
  pub none-found : IsKept r → HasCoreWithin r.cores assumed → vs ≡ []
  none-found kept shown = at vs h.gathers.models.left
    where
      at : (xs : List (List Bool)) → All (IsLeft r.problem assumed) xs → xs ≡ []
      at [] left = refl
      at (x ∷ xs) left =
          let first : IsLeft r.problem assumed x = left 0 x (omega arith) in
          absurd (All-contains (RefutesAll r.problem) r.cores shown.1 kept.refuted (shown.0, shown.2, shown.3)
          (valuation x) first.1
          (λ k d lt. All-contains (λ l. literal_value (valuation x) l ≡ true) assumed (get_or shown.1 k d) first.2
          (shown.4 k d lt)))

  module _ (t : SolveState) (c : Budget) (stays : Stays s t) (keeps : Keeps s t b c)
      (counts : Counts s.free 1 s t b c) where
    pub searched-keeps : Keeps r t a c
    searched-keeps = keeps-twice r s t a b c h.keeps keeps

    pub searched-counts : i ≤ n → Counts (r.free + n) (i + 1) r t a c
    searched-counts le = counts-twice (r.free + n) i 1 r s t a b c h.counts
        (counts-more s.free (r.free + n) 1 s t b c (omega (arith, h.gathers.free, h.number, le)) counts)

    pub searched-up-to : i ≤ n → CountsUpTo (r.free + n) (n + 1) r t a c
    searched-up-to le = (i + 1, omega (arith, le), searched-counts le)

    pub searched-gathers : Gathers assumed n r t ls vs
    searched-gathers = record {
      problem = stays.problem ∙ h.gathers.problem;
      additions = stays.additions ∙ h.gathers.additions;
      free = stays.free ∙ h.gathers.free;
      lits = h.gathers.lits;
      selectors = subst (λ (p : ProblemState). All (IsSelector p) (exclusion_selectors r.problem vs))
          (sym stays.problem) h.gathers.selectors;
      most = h.gathers.most;
      models = h.gathers.models;
    }

    pub all-told : RefutesAll s.problem ls → HasCoreWithin t.cores ls → Ends r.problem assumed n t.cores vs true
    all-told refuted shown = record {
      ends = all-found r.problem s.problem assumed vs ls h.selects refuted;
      shown = λ e f. subst (HasCoreWithin t.cores) (h.gathers.lits
          ∙ ap (λ (xs : List (List Bool)). assumed ++ exclusion_selectors r.problem xs) e ∙ append-nil assumed) shown;
    }

    -- where a kept core refutes what is assumed, the search tells at once
    pub told-at-once : (result : Result (Option (List Bool)) Halt)
        → (HasCoreWithin s.cores ls → IsAnsweredAtOnce s t result) → IsKept r → HasCoreWithin r.cores assumed
        → (vs ≡ []) × IsNone result × (t.learnt ≡ r.learnt)
    told-at-once result decided kept shown =
        let none : vs ≡ [] = none-found kept shown in
        let same : s ≡ r = h.same none in
        let plain : ls ≡ assumed = h.gathers.lits ∙ ap (λ (xs : List (List Bool)).
        assumed ++ exclusion_selectors r.problem xs) none ∙ append-nil assumed in
        let told : IsAnsweredAtOnce s t result = decided (subst (HasCoreWithin s.cores) (sym plain)
        (subst (λ (q : SolveState). HasCoreWithin q.cores assumed) (sym same) shown)) in
        (none, told.answer, told.learnt ∙ ap (λ (q : SolveState). q.learnt) same)

    module _ (u : SolveState) (values : List Bool) (left : IsLeft s.problem ls values) (made : u ≡ excluded t values)
        (kept : IsKept u) (le : i < n) where
      problem-is : u.problem ≡ with_exclusion s.problem values
      problem-is = ap (λ (q : SolveState). q.problem) made ∙ ap (λ (p : ProblemState). with_exclusion p values)
          stays.problem

      next-keeps : Keeps r u a c
      next-keeps = subst (λ (q : SolveState). Keeps r q a c) (sym made)
          (keeps-grown r t a c (excluded t values) searched-keeps refl refl refl (moment-excluded t.problem values))

      next-counts : Counts (r.free + n) (i + 1) r u a c
      next-counts =
          let x : Counts (r.free + n) (i + 1) r t a c = searched-counts (omega (arith, le)) in
          subst (λ (q : SolveState). Counts (r.free + n) (i + 1) r q a c) (sym made)
          (record { searches = x.searches; fewer = x.fewer })

      abbrev more_lits : List Lit
      more_lits = ls ++ next_lit t.problem ∷ []

      abbrev more_values : List (List Bool)
      more_values = vs ++ values ∷ []

      next-lit : next_lit t.problem ≡ next_lit s.problem
      next-lit = ap next_lit stays.problem

      next-selectors : All (IsSelector (with_exclusion s.problem values))
          (exclusion_selectors r.problem vs ++ next_lit s.problem ∷ [])
      next-selectors =
          All-push (IsSelector (with_exclusion s.problem values)) (exclusion_selectors r.problem vs)
          (next_lit s.problem)
          (λ k d lt. selector-stays s.problem values (get_or (exclusion_selectors r.problem vs) k d) h.kept.problem
          (h.gathers.selectors k d lt))
          ((exclusions-select r.problem s.problem values h.kept.problem h.conserves).selector)

      more-selectors : exclusion_selectors r.problem more_values ≡ exclusion_selectors r.problem vs ++ next_lit
          s.problem ∷ []
      more-selectors = selectors-push r.problem vs values ∙ ap (λ (p : ProblemState). exclusion_selectors r.problem vs
          ++ next_lit p ∷ []) (sym h.gathers.problem)

      pub next-gathers : Gathers assumed n r u more_lits more_values
      next-gathers = record {
        problem = problem-is ∙ ap (λ (p : ProblemState). with_exclusion p values) h.gathers.problem
            ∙ sym (exclusions-push r.problem vs values);
        additions =
            ap (λ (q : SolveState). q.additions) made ∙ ap (λ (xs : List Addition). xs ++ Exclusion values ∷ [])
            (stays.additions ∙ h.gathers.additions)
            ∙ append_assoc r.additions (map Exclusion vs) (Exclusion values ∷ [])
            ∙ ap (λ (xs : List Addition). r.additions ++ xs) (sym (map-push vs values));
        free =
            let x : u.free ≡ t.free + 1 = ap (λ (q : SolveState). q.free) made in
            let y : length more_values ≡ length vs + 1 = length_push vs values in
            omega (arith, x, y, stays.free, h.gathers.free);
        lits =
            ap (λ (xs : List Lit). xs ++ next_lit t.problem ∷ []) h.gathers.lits
            ∙ append_assoc assumed (exclusion_selectors r.problem vs) (next_lit t.problem ∷ [])
            ∙ ap (λ (l : Lit). assumed ++ (exclusion_selectors r.problem vs ++ l ∷ [])) next-lit
            ∙ ap (λ (xs : List Lit). assumed ++ xs) (sym more-selectors);
        selectors =
            subst (λ (p : ProblemState). All (IsSelector p) (exclusion_selectors r.problem more_values))
            (sym problem-is)
            (subst (All (IsSelector (with_exclusion s.problem values))) (sym more-selectors) next-selectors);
        most = let y : length more_values ≡ length vs + 1 = length_push vs values in omega (arith, y, h.number, le);
        models = more-models values left;
      }

      pub so-far-next : IsProblem r.problem → IsSoFar assumed n (i + 1) r u a c more_lits more_values
      so-far-next fine = record {
        gathers = next-gathers;
        number = length_push vs values ∙ ap (λ (k : ℕ). k + 1) h.number;
        selects = subst (λ (p : ProblemState). Selects r.problem p assumed more_values more_lits) (sym problem-is)
            (subst (λ (l : Lit). Selects r.problem (with_exclusion s.problem values) assumed more_values (ls ++ l ∷ []))
            (sym next-lit)
            (selects-next r.problem s.problem assumed vs ls values fine h.kept.problem h.conserves h.within h.selects));
        conserves = subst (Conserves r.problem) (sym problem-is)
            ((exclusions-select r.problem s.problem values h.kept.problem h.conserves).added);
        within = subst (λ (p : ProblemState). AreLitsOf p.vars more_lits) (sym problem-is)
            (subst (λ (l : Lit). AreLitsOf (s.problem.vars + 1) (ls ++ l ∷ [])) (sym next-lit)
            (with-next s.problem ls h.within));
        unretired = subst (λ (p : ProblemState). AreUnretired p more_lits) (sym problem-is)
            (subst (λ (l : Lit). AreUnretired s.problem (ls ++ l ∷ [])) (sym next-lit)
            (unretired-next s.problem ls h.kept.problem h.unretired));
        keeps = next-keeps;
        counts = next-counts;
        same = λ e. absurd (let y : length more_values ≡ length vs + 1 = length_push vs values in
            let z : length more_values ≡ 0 = ap length e in omega (arith, y, z));
        kept = kept;
      }

-- a search that halts at once halts for memory
pub halted : (halt : Halt) → IsNone {T = List Bool} (Err halt) → IsAll (Err halt)
halted Spent h = h
halted Memory h = tt

-- the selectors are retired in the end
module _ (assumed : List Lit) (n : ℕ) (r s t : SolveState) (ls sels : List Lit) (vs : List (List Bool))
    (h : Gathers assumed n r s ls vs) (is : sels ≡ exclusion_selectors r.problem vs) where
  pub selectors-fit : All (IsSelector s.problem) sels
  selectors-fit = subst (All (IsSelector s.problem)) (sym is) h.selectors

  retired-before : s.problem.retired ≡ r.problem.retired
  retired-before = ap (λ (p : ProblemState). p.retired) h.problem ∙ retired-stays r.problem vs

  pub selectors-new : IsProblem r.problem → AreNew s.problem.retired sels
  selectors-new fine =
      subst (λ (gone : List Lit). AreNew gone sels) (sym retired-before)
      (subst (AreNew r.problem.retired) (sym is) (are-new r.problem r.problem.retired vs fine.retired))

  pub end-excludes : t ≡ retired_all s sels → Excludes vs r t
  end-excludes e = record {
    problem =
        ap (λ (q : SolveState). q.problem) e ∙ ap (λ (gone : List Lit). retiring s.problem (gone ++ sels))
        retired-before
        ∙ ap (λ (ls2 : List Lit). retiring s.problem (r.problem.retired ++ ls2)) is
        ∙ ap (λ (p : ProblemState). retiring p (r.problem.retired ++ exclusion_selectors r.problem vs)) h.problem;
    additions = ap (λ (q : SolveState). q.additions) e ∙ h.additions;
    free =
        let x : t.free ≡ s.free - length sels = ap (λ (q : SolveState). q.free) e in
        let y : length sels ≡ length vs = ap length is ∙ selectors-number r.problem vs in omega (arith, x, y, h.free);
  }

  pub end-adds : t ≡ retired_all s sels → AddsExclusions assumed n r t
  end-adds e = record { values = vs; excludes = end-excludes e; most = h.most; models = h.models }

  module _ (a b : Budget) (e : t ≡ retired_all s sels) where
    pub end-keeps : Keeps r s a b → Keeps r t a b
    end-keeps k = subst (λ (q : SolveState). Keeps r q a b) (sym e)
        (keeps-grown r s a b (retired_all s sels) k refl refl refl (moment-retired s.problem sels))

    pub end-costs : Keeps r s a b → CountsUpTo (r.free + n) (n + 1) r s a b → Costs (n + 1) r t a b
    end-costs k x = subst (λ (q : SolveState). Costs (n + 1) r q a b) (sym e) (record {
      searches = (x.0, x.1, x.2.searches);
      spent =
          let f : b.spent + x.0 ≤ a.spent + x.0 * 2 ^ (r.free + n) = x.2.fewer in
          let le : x.0 ≤ n + 1 = x.1 in
          let top : 2 ^ (r.free + n) ≤ 2 ^ (r.free + (n + 1)) = pow-le-pow_right (pow_pos 1) (omega arith) in
          let g : x.0 * 2 ^ (r.free + n) ≤ (n + 1) * 2 ^ (r.free + (n + 1)) = mul-le x.0 (2 ^ (r.free + n)) (n + 1)
          (2 ^ (r.free + (n + 1))) le top in
          let one : 0 < 2 ^ (r.free + (n + 1)) = pow_pos (r.free + (n + 1)) in
          let some : 1 * 1 ≤ (n + 1) * 2 ^ (r.free + (n + 1)) = mul-le 1 1 (n + 1) (2 ^ (r.free + (n + 1)))
          (omega arith) one in
          spent-fewer a.spent b.spent x.0 (x.0 * 2 ^ (r.free + n)) ((n + 1) * 2 ^ (r.free + (n + 1))) f g
          some (none x.0);
    })
      where
        none : (k : ℕ) → k ≡ 0 → k * 2 ^ (r.free + n) ≡ 0
        none k z = subst (λ (j : ℕ). j * 2 ^ (r.free + n) ≡ 0) (sym z) (omega arith)

        spent-fewer : (x y k kp m : ℕ) → y + k ≤ x + kp → kp ≤ m → 1 ≤ m → (k ≡ 0 → kp ≡ 0) → y - x < m
        spent-fewer x y zero kp m f g some nothing = let z : kp ≡ 0 = nothing refl in omega (arith, f, z, some)
        spent-fewer x y (suc k) kp m f g some nothing = omega (arith, f, g, some)

-- the same, of what the whole call stated
pub empty-halted : (halt : Halt) → IsAll (Err halt) → IsEmpty (Err halt)
empty-halted Spent h = h
empty-halted Memory h = tt
