-- Selectors that are retired one after another.
use Rattle.std.proofs.Common.{◌≡◌, ℕ, zero, suc, ◌-◌, ◌<◌, ◌≤◌, Bool, true, false, List, [], ◌∷◌, ◌++◌, length, get_or}
use Rattle.std.proofs.Common.{All, Contains, sym, ap, ◌∙◌, subst, arith, inr, ⊎_elim}
use Rattle.std.proofs.lemmas.List.{append_assoc, append-nil}
use Rattle.std.proofs.lemmas.List.Elements.{All-append, All-contains, Contains-append_cases}
use Rattle.lit_core.specs.declared.literals.Lit.{Lit}
use Rattle.lit_core.specs.Literals.{literal_value, by_sign}
use Rattle.ground_core.specs.Problems.{ProblemState}
use Rattle.ground_core.specs.Growth.{retiring}
use Rattle.ground_core.specs.Growing.{IsSelector, retired}
use Rattle.ground_core.specs.Solving.{SolveState}
use Rattle.ground_core.specs.Calls.{GrowsByAdditions}
use Rattle.ground_core.proofs.Fronts.{All-front}
use Rattle.model_search.specs.Retirements.{AreNew, retired_all}

-- retiring the first selector and then the others is retiring all
pub retire-first : (s : SolveState) (l : Lit) (ls : List Lit) → retired_all (retired s l) ls ≡ retired_all s (l ∷ ls)
retire-first s l ls =
    let joined : (s.problem.retired ++ l ∷ []) ++ ls ≡ s.problem.retired ++ l ∷ ls =
    append_assoc s.problem.retired (l ∷ []) ls in
    let fewer : s.free - 1 - length ls ≡ s.free - suc (length ls) = omega arith in
    ap (λ (gone : List Lit). record {
      problem = retiring s.problem gone;
      learnt = s.learnt;
      moments = s.moments;
      cores = s.cores;
      free = s.free - 1 - length ls;
      searches = s.searches;
      additions = s.additions;
    }) joined
    ∙ ap (λ (free : ℕ). record {
      problem = retiring s.problem (s.problem.retired ++ l ∷ ls);
      learnt = s.learnt;
      moments = s.moments;
      cores = s.cores;
      free = free;
      searches = s.searches;
      additions = s.additions;
    }) fewer

pub retire-none : (s : SolveState) → retired_all s [] ≡ s
retire-none s =
    let whole : s.free - 0 ≡ s.free = omega arith in
    ap (λ (free : ℕ). record {
      problem = retiring s.problem (s.problem.retired ++ []);
      learnt = s.learnt;
      moments = s.moments;
      cores = s.cores;
      free = free;
      searches = s.searches;
      additions = s.additions;
    }) whole
    ∙ ap (λ (gone : List Lit). record {
      problem = retiring s.problem gone;
      learnt = s.learnt;
      moments = s.moments;
      cores = s.cores;
      free = s.free;
      searches = s.searches;
      additions = s.additions;
    }) (append-nil s.problem.retired)

pub first-fits : (s : SolveState) (l : Lit) (ls rest : List Lit) → rest ≡ l ∷ ls → All (IsSelector s.problem) rest
    → IsSelector s.problem l
first-fits s l ls rest is h = subst (All (IsSelector s.problem)) is h zero l (omega arith)

-- a selector that is retired first
module _ (s t : SolveState) (l : Lit) (ls rest : List Lit) (is : rest ≡ l ∷ ls) (new : AreNew s.problem.retired rest)
    (retires : (Contains s.problem.retired l → ⊥) → t ≡ retired s l) where
  abbrev new-first : AreNew s.problem.retired (l ∷ ls)
  new-first = subst (AreNew s.problem.retired) is new

  pub first-retired : t ≡ retired s l
  first-retired = retires new-first.0

  pub same-in-the-end : (all : SolveState) → retired_all s rest ≡ all → retired_all t ls ≡ all
  same-in-the-end all e = ap (λ (q : SolveState). retired_all q ls) first-retired ∙ retire-first s l ls
      ∙ ap (retired_all s) (sym is) ∙ e

  pub others-new : AreNew t.problem.retired ls
  others-new = subst (λ (q : SolveState). AreNew q.problem.retired ls) (sym first-retired) new-first.1

  pub others-fit : All (IsSelector s.problem) rest → All (IsSelector t.problem) ls
  others-fit h = λ k d lt.
      let x : IsSelector s.problem (get_or (l ∷ ls) (suc k) d) = subst (All (IsSelector s.problem)) is h (suc k) d
      (omega (arith, lt)) in
      subst (λ (q : SolveState). IsSelector q.problem (get_or ls k d)) (sym first-retired)
      (record {
        positive = x.positive;
        within = x.within;
        atoms = x.atoms;
        gates = x.gates;
        clauses = x.clauses;
        sums = x.sums;
        terms = x.terms;
        bounds = x.bounds;
      })

-- the positive literal of a variable after the first `low`, up to `high`
pub record IsNewLit (low high : ℕ) (l : Lit) : Type 0 where
  pub positive : l.positive ≡ true
  pub beyond : low < l.var.0
  pub within : l.var.0 ≤ high

-- what grew by additions did so too where selectors of new variables are retired
pub retirements-added : (p q : ProblemState) (ls : List Lit) → GrowsByAdditions p q → All (IsNewLit p.vars q.vars) ls
    → GrowsByAdditions p (retiring q (q.retired ++ ls))
retirements-added p q ls h new = record {
  conserves = record {
    grows = h.conserves.grows;
    atoms = h.conserves.atoms;
    terms = h.conserves.terms;
    restricts = λ v s. h.conserves.restricts v (record {
      gates = s.gates;
      clauses = s.clauses;
      sums = s.sums;
      bounds = s.bounds;
      retired = All-front (λ l. literal_value v l ≡ false) q.retired ls s.retired;
    });
    extends = λ v s.
        let e = h.conserves.extends v s in (
          e.0,
          e.1,
          e.2,
          record {
            gates = e.3.gates;
            clauses = e.3.clauses;
            sums = e.3.sums;
            bounds = e.3.bounds;
            retired = All-append (λ l. literal_value e.0 l ≡ false) q.retired ls e.3.retired
                (λ k d lt. ap (λ (b : Bool). by_sign b (e.0 (get_or ls k d).var.0)) (new k d lt).positive
                ∙ e.2 (get_or ls k d).var.0 (new k d lt).beyond (new k d lt).within);
          },
        );
  };
  retired = λ l has. ⊎_elim
      (λ old. h.retired l old)
      (λ since. inr (All-contains (IsNewLit p.vars q.vars) ls l new since).beyond)
      (Contains-append_cases q.retired ls l has);
}
