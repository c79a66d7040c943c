-- Bounds one after another, and their selectors.
use Rattle.std.proofs.Common.{◌≡◌, ℕ, suc, ◌+◌, ◌-◌, ◌<◌, ◌≤◌, List, [], ◌∷◌, ◌++◌, map, length, All, Contains, refl}
use Rattle.std.proofs.Common.{sym, ap, ◌∙◌, subst, arith}
use Rattle.std.proofs.lemmas.List.{append_assoc, append-nil, length_push}
use Rattle.std.proofs.lemmas.List.Elements.{All-contains, All-nil, All-cons, All-push, All-weaker}
use Rattle.kb_logic.specs.declared.elements.ExtInt.{ExtInt}
use Rattle.lit_core.specs.declared.literals.Lit.{Lit}
use Rattle.ground_core.specs.declared.growing.Addition.{Addition}
use Rattle.ground_core.specs.declared.growing.Addition.TheVariants.{Bound}
use Rattle.ground_core.specs.declared.parts.TermBound.{TermBound}
use Rattle.ground_core.specs.declared.solving.Budget.{Budget}
use Rattle.ground_core.specs.Problems.{ProblemState, IsProblem, IsLitOf, AreLitsOf}
use Rattle.ground_core.specs.Growth.{with_bound, next_lit, retiring}
use Rattle.ground_core.specs.Growing.{IsSelector}
use Rattle.ground_core.specs.Solving.{SolveState}
use Rattle.ground_core.specs.Calls.{Keeps, Counts, CountsUpTo, GrowsByAdditions, Stays}
use Rattle.ground_core.proofs.CallFacts.{keeps-grown}
use Rattle.ground_core.proofs.MomentFacts.{moment-retired}
use Rattle.ground_core.proofs.AdditionFacts.{nothing-added}
use Rattle.ground_core.proofs.GrowthFacts.{bound-conserves, bound-problem, bound-selector}
use Rattle.model_search.specs.Retirements.{AreNew, retired_all}
use Rattle.model_search.proofs.RetirementFacts.{IsNewLit, retirements-added}
use Rattle.model_minimiser.specs.declared.minimum.Minimum.{Minimum}
use Rattle.model_minimiser.specs.Bounds.{AddsBounds, AddsOne, GrowsBy, HasBounds, HoldsBounds, bound_selectors}
use Rattle.model_minimiser.specs.Bounds.{with_bounds}
use Rattle.model_minimiser.specs.Minima.{IsLeast}

bounds-push : (p : ProblemState) (term : ℕ) (ns : List ExtInt) (n : ExtInt) → with_bounds p term (ns ++ n ∷ [])
    ≡ with_bound (with_bounds p term ns) term n
bounds-push p term [] n = refl
bounds-push p term (m ∷ ns) n = bounds-push (with_bound p term m) term ns n

selectors-push : (p : ProblemState) (term : ℕ) (ns : List ExtInt) (n : ExtInt) → bound_selectors p term (ns ++ n ∷ [])
    ≡ bound_selectors p term ns ++ next_lit (with_bounds p term ns) ∷ []
selectors-push p term [] n = refl
selectors-push p term (m ∷ ns) n = ap (λ (ls : List Lit). next_lit p ∷ ls)
    (selectors-push (with_bound p term m) term ns n)

selectors-number : (p : ProblemState) (term : ℕ) (ns : List ExtInt) → length (bound_selectors p term ns) ≡ length ns
selectors-number p term [] = refl
selectors-number p term (n ∷ ns) = ap suc (selectors-number (with_bound p term n) term ns)

retired-stays : (p : ProblemState) (term : ℕ) (ns : List ExtInt) → (with_bounds p term ns).retired ≡ p.retired
retired-stays p term [] = refl
retired-stays p term (n ∷ ns) = retired-stays (with_bound p term n) term ns

map-push : (term : ℕ) (ns : List ExtInt) (n : ExtInt) → map (Bound term) (ns ++ n ∷ []) ≡ map (Bound term) ns
    ++ Bound term n ∷ []
map-push term [] n = refl
map-push term (m ∷ ns) n = ap (λ (l : List Addition). Bound term m ∷ l) (map-push term ns n)

-- the next variable is that of no literal of the problem
fresh : (n : ℕ) (ls : List Lit) (l : Lit) → AreLitsOf n ls → l.var.0 ≡ n + 1 → Contains ls l → ⊥
fresh n ls l h is has = let x : l.var.0 ≤ n = (All-contains (IsLitOf n) ls l h has).1 in omega (arith, x, is)

with-next : (p : ProblemState) (ls : List Lit) → AreLitsOf p.vars ls → AreLitsOf (p.vars + 1) (ls ++ next_lit p ∷ [])
with-next p ls h = All-push (IsLitOf (p.vars + 1)) ls (next_lit p)
    (All-weaker (IsLitOf p.vars) (IsLitOf (p.vars + 1)) (λ l is. (
      is.0,
      let x : l.var.0 ≤ p.vars = is.1 in
          omega (arith, x),
    )) ls h)
    (omega arith, omega arith)

are-new : (p : ProblemState) (term : ℕ) (gone : List Lit) (ns : List ExtInt) → AreLitsOf p.vars gone
    → AreNew gone (bound_selectors p term ns)
are-new p term gone [] h = tt
are-new p term gone (n ∷ ns) h = (
  fresh p.vars gone (next_lit p) h refl,
  are-new (with_bound p term n) term (gone ++ next_lit p ∷ []) ns (with-next p gone h),
)

-- a selector stays one where one more bound is added
selector-stays : (p : ProblemState) (term : ℕ) (n : ExtInt) (l : Lit) → IsSelector p l
    → IsSelector (with_bound p term n) l
selector-stays p term n l h = record {
  positive = h.positive;
  within = (h.within.0, let x : l.var.0 ≤ p.vars = h.within.1 in omega (arith, x));
  atoms = h.atoms;
  gates = h.gates;
  clauses = h.clauses;
  sums = h.sums;
  terms = h.terms;
  bounds = All-push (λ (b : TermBound). b.out.var.0 ≡ l.var.0 → b.out ≡ l) p.bounds (record {
    out = next_lit p;
    term = term;
    below = n;
  }) h.bounds (λ e. absurd (let x : l.var.0 ≤ p.vars = h.within.1 in let y : p.vars + 1 ≡ l.var.0 = e in
      omega (arith, x, y)));
}

pub no-bounds : (term : ℕ) (s : SolveState) (ls : List Lit) → ls ≡ [] → HasBounds term [] s s ls
no-bounds term s ls none = record {
  problem = refl;
  additions = sym (append-nil s.additions);
  free = omega arith;
  lits = none;
  fit = subst (All (IsSelector s.problem)) (sym none) (All-nil (IsSelector s.problem));
}

module _ (term : ℕ) (ns : List ExtInt) (r s t : SolveState) (ls ms : List Lit) (h : HasBounds term ns r s ls) where
  pub same-bounds : Stays s t → ms ≡ ls → HasBounds term ns r t ms
  same-bounds stays same = record {
    problem = stays.problem ∙ h.problem;
    additions = stays.additions ∙ h.additions;
    free = stays.free ∙ h.free;
    lits = same ∙ h.lits;
    fit = subst (All (IsSelector t.problem)) (sym same) (subst (λ (p : ProblemState). All (IsSelector p) ls)
        (sym stays.problem) h.fit);
  }

  pub more-bounds : (n : ExtInt) → IsProblem s.problem → AddsOne term n s t ls ms
      → HasBounds term (ns ++ n ∷ []) r t ms
  more-bounds n fine a = record {
    problem = a.problem ∙ ap (λ (p : ProblemState). with_bound p term n) h.problem ∙ sym (bounds-push r.problem term ns
        n);
    additions = a.additions ∙ ap (λ (l : List Addition). l ++ Bound term n ∷ []) h.additions
        ∙ append_assoc r.additions (map (Bound term) ns) (Bound term n ∷ [])
        ∙ ap (λ (l : List Addition). r.additions ++ l) (sym (map-push term ns n));
    free = let x : length (ns ++ n ∷ []) ≡ length ns + 1 = length_push ns n in omega (arith, x, a.free, h.free);
    lits = a.lits ∙ ap (λ (l : List Lit). l ++ next_lit s.problem ∷ []) h.lits
        ∙ ap (λ (p : ProblemState). bound_selectors r.problem term ns ++ next_lit p ∷ []) h.problem
        ∙ sym (selectors-push r.problem term ns n);
    fit = subst (All (IsSelector t.problem)) (sym a.lits) (subst (λ (p : ProblemState). All (IsSelector p)
        (ls ++ next_lit s.problem ∷ [])) (sym a.problem) (All-push (IsSelector (with_bound s.problem term n)) ls
        (next_lit s.problem)
        (All-weaker (IsSelector s.problem) (IsSelector (with_bound s.problem term n)) (selector-stays s.problem term n)
        ls h.fit)
        (bound-selector s.problem term n fine)));
  }

-- one more bound in force says nothing of what was there
pub bound-added : (p q : ProblemState) (term : ℕ) (n : ExtInt) → IsProblem q → GrowsByAdditions p q
    → GrowsByAdditions p (with_bound q term n)
bound-added p q term n fine h = record { conserves = bound-conserves q term n fine p h.conserves; retired = h.retired }

-- the selectors are retired in the end
module _ (assumed : List Lit) (term : ℕ) (r s t : SolveState) (ls : List Lit)
    (h : HoldsBounds assumed term r s ls) where
  retired-before : s.problem.retired ≡ r.problem.retired
  retired-before = ap (λ (p : ProblemState). p.retired) h.has.problem ∙ retired-stays r.problem term h.numbers

  pub selectors-new : IsProblem r.problem → AreNew s.problem.retired ls
  selectors-new fine =
      subst (λ (gone : List Lit). AreNew gone ls) (sym retired-before)
      (subst (AreNew r.problem.retired) (sym h.has.lits)
      (are-new r.problem term r.problem.retired h.numbers fine.retired))

  module _ (e : t ≡ retired_all s ls) where
    end-grows : GrowsBy term h.numbers r t
    end-grows = record {
      problem =
          ap (λ (q : SolveState). q.problem) e ∙ ap (λ (gone : List Lit). retiring s.problem (gone ++ ls))
          retired-before
          ∙ ap (λ (ms : List Lit). retiring s.problem (r.problem.retired ++ ms)) h.has.lits
          ∙ ap (λ (p : ProblemState). retiring p (r.problem.retired ++ bound_selectors r.problem term h.numbers))
          h.has.problem;
      additions = ap (λ (q : SolveState). q.additions) e ∙ h.has.additions;
      free =
          let x : t.free ≡ s.free - length ls = ap (λ (q : SolveState). q.free) e in
          let y : length ls ≡ length h.numbers = ap length h.has.lits ∙ selectors-number r.problem term h.numbers in
          omega (arith, x, y, h.has.free);
    }

    pub end-adds : AddsBounds assumed term r t
    end-adds = record { numbers = h.numbers; grows = end-grows; fall = h.fall; attained = h.attained }

    pub end-keeps : (a b : Budget) → Keeps r s a b → Keeps r t a b
    end-keeps a b k = subst (λ (q : SolveState). Keeps r q a b) (sym e)
        (keeps-grown r s a b (retired_all s ls) k refl refl refl (moment-retired s.problem ls))

    pub end-counts : (a b : Budget) (top m : ℕ) → CountsUpTo top m r s a b → CountsUpTo top m r t a b
    end-counts a b top m c = (
      c.0,
      c.1,
      subst (λ (q : SolveState). Counts top c.0 r q a b) (sym e) (record {
        searches = c.2.searches;
        fewer = c.2.fewer;
      }),
    )

    pub end-least : (m : Minimum) → IsLeast r.problem assumed term s.cores s.problem.bounds m
        → IsLeast r.problem assumed term t.cores t.problem.bounds m
    end-least m least = subst (λ (q : SolveState). IsLeast r.problem assumed term q.cores q.problem.bounds m) (sym e)
        least

-- bounds, whose selectors are retired in the end, are additions
bounds-added : (p q : ProblemState) (term : ℕ) (ns : List ExtInt) → term < length q.terms → IsProblem q
    → GrowsByAdditions p q → GrowsByAdditions p (with_bounds q term ns)
bounds-added p q term [] lt fine h = h
bounds-added p q term (n ∷ ns) lt fine h = bounds-added p (with_bound q term n) term ns lt
    (bound-problem q term n lt fine) (bound-added p q term n fine h)

selectors-of-new : (low : ℕ) (p : ProblemState) (term : ℕ) (ns : List ExtInt) → term < length p.terms → IsProblem p
    → low ≤ p.vars → All (IsNewLit low (with_bounds p term ns).vars) (bound_selectors p term ns)
selectors-of-new low p term [] lt fine le = All-nil (IsNewLit low p.vars)
selectors-of-new low p term (n ∷ ns) lt fine le =
    let more : IsProblem (with_bound p term n) = bound-problem p term n lt fine in
    let grows : p.vars + 1 ≤ (with_bounds (with_bound p term n) term ns).vars =
    (bounds-added (with_bound p term n) (with_bound p term n) term ns lt more
    (nothing-added (with_bound p term n))).conserves.grows in
    All-cons (IsNewLit low (with_bounds (with_bound p term n) term ns).vars) (next_lit p)
    (bound_selectors (with_bound p term n) term ns)
    (record { positive = refl; beyond = omega (arith, le); within = grows })
    (selectors-of-new low (with_bound p term n) term ns lt more (omega (arith, le)))

pub bounds-grow : (assumed : List Lit) (term : ℕ) (s t : SolveState) → term < length s.problem.terms
    → IsProblem s.problem → AddsBounds assumed term s t → GrowsByAdditions s.problem t.problem
bounds-grow assumed term s t lt fine h =
    subst (λ (q : ProblemState). GrowsByAdditions s.problem q) (sym h.grows.problem)
    (subst (λ (gone : List Lit). GrowsByAdditions s.problem
    (retiring (with_bounds s.problem term h.numbers) (gone ++ bound_selectors s.problem term h.numbers)))
    (retired-stays s.problem term h.numbers)
    (retirements-added s.problem (with_bounds s.problem term h.numbers) (bound_selectors s.problem term h.numbers)
    (bounds-added s.problem s.problem term h.numbers lt fine (nothing-added s.problem))
    (selectors-of-new s.problem.vars s.problem term h.numbers lt fine (omega arith))))
