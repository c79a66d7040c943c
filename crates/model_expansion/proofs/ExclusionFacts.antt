-- Exclusions one after another, and their selectors.
use Rattle.std.proofs.Common.{◌≡◌, ℕ, zero, suc, ◌+◌, ◌<◌, ◌≤◌, Bool, true, false, not, List, [], ◌∷◌, ◌++◌}
use Rattle.std.proofs.Common.{length, get_or, All, Contains, refl, sym, ap, ◌∙◌, subst, arith, inl, inr, ⊎_elim, ◌⊎◌}
use Rattle.std.specs.List.{Any}
use Rattle.std.proofs.lemmas.List.Elements.{All-nil, All-cons, All-contains, All-push, All-head, All-tail}
use Rattle.std.proofs.lemmas.List.Elements.{Contains-push, Contains-push_cases}
use Rattle.std.proofs.lemmas.Bool.{cases_eq}
use Rattle.std.proofs.Math.Numerals.{add-one}
use Rattle.lit_core.specs.declared.literals.Lit.{Lit}
use Rattle.lit_core.specs.Literals.{literal_value, valuation, negated}
use Rattle.ground_core.specs.Problems.{ProblemState, IsProblem, IsLitOf, AreLitsOf}
use Rattle.ground_core.specs.Meaning.{Satisfies, MakesTrue, RefutesAll}
use Rattle.ground_core.specs.More.{Agree}
use Rattle.ground_core.specs.Growth.{with_exclusion, next_lit, falsified_by, retiring}
use Rattle.ground_core.specs.Growing.{Conserves, IsSelector}
use Rattle.ground_core.specs.Solving.{SolveState, AreUnretired}
use Rattle.ground_core.specs.Calls.{GrowsByAdditions}
use Rattle.ground_core.specs.Laws.{Differs}
use Rattle.ground_core.proofs.Fronts.{All-front}
use Rattle.ground_core.proofs.Locals.{agree-trans, literal-local}
use Rattle.ground_core.proofs.AdditionFacts.{nothing-added}
use Rattle.ground_core.proofs.GrowthFacts.{exclusions-select, exclusion-restricts, exclusion-problem}
use Rattle.model_search.specs.Retirements.{AreNew}
use Rattle.model_search.proofs.RetirementFacts.{IsNewLit, retirements-added}
use Rattle.model_expansion.specs.Exclusions.{with_exclusions, exclusion_selectors, AreApart, Excludes}
use Rattle.model_expansion.specs.Exclusions.{with_past_exclusions}

pub exclusions-push : (p : ProblemState) (vs : List (List Bool)) (v : List Bool) → with_exclusions p (vs ++ v ∷ [])
    ≡ with_exclusion (with_exclusions p vs) v
exclusions-push p [] v = refl
exclusions-push p (w ∷ vs) v = exclusions-push (with_exclusion p w) vs v

pub selectors-push : (p : ProblemState) (vs : List (List Bool)) (v : List Bool) → exclusion_selectors p (vs ++ v ∷ [])
    ≡ exclusion_selectors p vs ++ next_lit (with_exclusions p vs) ∷ []
selectors-push p [] v = refl
selectors-push p (w ∷ vs) v = ap (λ (ls : List Lit). next_lit p ∷ ls) (selectors-push (with_exclusion p w) vs v)

pub retired-stays : (p : ProblemState) (vs : List (List Bool)) → (with_exclusions p vs).retired ≡ p.retired
retired-stays p [] = refl
retired-stays p (v ∷ vs) = retired-stays (with_exclusion p v) vs

pub selectors-number : (p : ProblemState) (vs : List (List Bool)) → length (exclusion_selectors p vs) ≡ length vs
selectors-number p [] = refl
selectors-number p (v ∷ vs) = ap suc (selectors-number (with_exclusion p v) vs)

-- the next variable is that of no literal of the problem
pub fresh : (n : ℕ) (ls : List Lit) (l : Lit) → AreLitsOf n ls → l.var.0 ≡ n + 1 → Contains ls l → ⊥
fresh n ls l h is has = let x : l.var.0 ≤ n = (All-contains (IsLitOf n) ls l h has).1 in omega (arith, x, is)

one-more : (n : ℕ) (ls : List Lit) → AreLitsOf n ls → AreLitsOf (n + 1) ls
one-more n ls h = λ k d lt. ((h k d lt).0, let x : (get_or ls k d).var.0 ≤ n = (h k d lt).1 in omega (arith, x))

pub with-next : (p : ProblemState) (ls : List Lit) → AreLitsOf p.vars ls
    → AreLitsOf (p.vars + 1) (ls ++ next_lit p ∷ [])
with-next p ls h = All-push (IsLitOf (p.vars + 1)) ls (next_lit p) (one-more p.vars ls h) (omega arith, omega arith)

pub unretired-next : (p : ProblemState) (ls : List Lit) → IsProblem p → AreUnretired p ls
    → AreUnretired p (ls ++ next_lit p ∷ [])
unretired-next p ls fine h = λ l gone has. ⊎_elim
    (λ old. h l gone old)
    (λ is. fresh p.vars p.retired l fine.retired (sym (ap (λ (k : Lit). k.var.0) is)) gone)
    (Contains-push_cases ls (next_lit p) l has)

pub are-new : (p : ProblemState) (gone : List Lit) (vs : List (List Bool)) → AreLitsOf p.vars gone
    → AreNew gone (exclusion_selectors p vs)
are-new p gone [] h = tt
are-new p gone (v ∷ vs) h = (
  fresh p.vars gone (next_lit p) h refl,
  are-new (with_exclusion p v) (gone ++ next_lit p ∷ []) vs (with-next p gone h),
)

falsified-within : (values : List Bool) (n : ℕ) → AreLitsOf n (falsified_by values n)
falsified-within values zero = All-nil (IsLitOf zero)
falsified-within values (suc n) = subst (λ (m : ℕ). AreLitsOf m (falsified_by values (suc n))) (add-one n)
    (All-push (IsLitOf (n + 1)) (falsified_by values n) (record {
      var = record { 0 = suc n };
      positive =
          not (valuation values (suc n));
    }) (one-more n (falsified_by values n) (falsified-within values n)) (
      omega arith,
      omega arith,
    ))

-- a selector stays one where more is excluded
pub selector-stays : (p : ProblemState) (values : List Bool) (l : Lit) → IsProblem p → IsSelector p l
    → IsSelector (with_exclusion p values) l
selector-stays p values l fine h = record {
  positive = h.positive;
  within = (h.within.0, let x : l.var.0 ≤ p.vars = h.within.1 in omega (arith, x));
  atoms = h.atoms;
  gates = h.gates;
  clauses = All-push (λ (c : List Lit). Contains c l → ⊥) p.clauses (negated (next_lit p) ∷ falsified_by values
      (length p.atoms)) h.clauses nowhere;
  sums = h.sums;
  terms = h.terms;
  bounds = h.bounds;
}
  where
    nowhere : Contains (negated (next_lit p) ∷ falsified_by values (length p.atoms)) l → ⊥
    nowhere has = at has.0 has.1 has.2
      where
        at : (i : ℕ) → i < length (negated (next_lit p) ∷ falsified_by values (length p.atoms))
            → get_or (negated (next_lit p) ∷ falsified_by values (length p.atoms)) i l ≡ l → ⊥
        at zero lt e = let x : l.var.0 ≤ p.vars = h.within.1 in let y : p.vars + 1 ≡ l.var.0 =
            ap (λ (k : Lit). k.var.0) e in omega (arith, x, y)
        at (suc i) lt e =
            let x : l.var.0 ≤ length p.atoms = (All-contains (IsLitOf (length p.atoms))
            (falsified_by values (length p.atoms)) l (falsified-within values (length p.atoms))
            (i, omega (arith, lt), e)).1 in
            let y : length p.atoms < l.var.0 = h.atoms in omega (arith, x, y)

-- what a valuation of the problem with exclusions is, and that there is one for each that differs from all
pub record Selects (p q : ProblemState) (assumed : List Lit) (vs : List (List Bool)) (ls : List Lit) : Type 0 where
  pub means : (v : ℕ → Bool) → Satisfies q v → MakesTrue v ls → Satisfies p v × MakesTrue v assumed
      × All (λ w. Differs p w v) vs
  pub extends : (v : ℕ → Bool) → Satisfies p v → MakesTrue v assumed → All (λ w. Differs p w v) vs
      → (w : ℕ → Bool) × Agree p.vars v w × Satisfies q w × MakesTrue w ls

pub selects-begins : (p : ProblemState) (assumed : List Lit) → Selects p p assumed [] assumed
selects-begins p assumed = record {
  means = λ v s t. (s, t, All-nil (λ w. Differs p w v));
  extends = λ v s t d. (v, (λ k low high. refl), s, t);
}

module _ (p q : ProblemState) (assumed : List Lit) (vs : List (List Bool)) (ls : List Lit) (values : List Bool)
    (first : IsProblem p) (fine : IsProblem q) (c : Conserves p q) (lits : AreLitsOf q.vars ls)
    (h : Selects p q assumed vs ls) where
  differs-there : (v : ℕ → Bool) → Differs q values v → Differs p values v
  differs-there v d = subst (λ (atoms : ℕ). (k : ℕ) × (1 ≤ k) × (k ≤ atoms) × (v k ≡ not (valuation values k)))
      (ap length c.atoms) d

  differs-after : (v w : ℕ → Bool) → Agree p.vars v w → Differs p values v → Differs q values w
  differs-after v w a d =
      let within : length p.atoms ≤ p.vars = first.atoms in
      subst (λ (atoms : ℕ). (k : ℕ) × (1 ≤ k) × (k ≤ atoms) × (w k ≡ not (valuation values k)))
      (sym (ap length c.atoms))
      (d.0, d.1, d.2, sym (a d.0 d.1 (omega (arith, d.2, within))) ∙ d.3)

  pub selects-next : Selects p (with_exclusion q values) assumed (vs ++ values ∷ []) (ls ++ next_lit q ∷ [])
  selects-next = record {
    means = λ v s t.
        let on : literal_value v (next_lit q) ≡ true = All-contains (λ l. literal_value v l ≡ true)
        (ls ++ next_lit q ∷ []) (next_lit q) t (Contains-push ls (next_lit q)) in
        let d : Differs p values v = differs-there v ((exclusions-select p q values fine c).means v s on) in
        let old = h.means v (exclusion-restricts q values v s) (All-front (λ l. literal_value v l ≡ true) ls
        (next_lit q ∷ []) t) in
        (old.0, old.1, All-push (λ w. Differs p w v) vs values old.2 d);
    extends = λ v s t d.
        let e = h.extends v s t (All-front (λ w. Differs p w v) vs (values ∷ []) d) in
        let here : Differs p values v = All-contains (λ w. Differs p w v) (vs ++ values ∷ []) values d
        (Contains-push vs values) in
        let f = (exclusions-select p q values fine c).extends e.0 e.2 (differs-after v e.0 e.1 here) in (
          f.0,
          agree-trans p.vars q.vars v e.0 f.0 c.grows e.1 f.1,
          f.2,
          All-push (λ l. literal_value f.0 l ≡ true) ls (next_lit q)
              (λ k d2 lt. sym (literal-local q.vars e.0 f.0 f.1 (get_or ls k d2) (lits k d2 lt)) ∙ e.3 k d2 lt) f.3,
        );
  }

pub apart-push : (p : ProblemState) (vs : List (List Bool)) (v : List Bool) → AreApart p vs
    → All (λ w. Differs p w (valuation v)) vs → AreApart p (vs ++ v ∷ [])
apart-push p [] v a d = (All-nil (λ w. Differs p v (valuation w)), tt)
apart-push p (w ∷ vs) v a d = (
  All-push (λ u. Differs p w (valuation u)) vs v a.0 (All-head (λ u. Differs p u (valuation v)) w vs d),
  apart-push p vs v a.1 (All-tail (λ u. Differs p u (valuation v)) w vs d),
)

-- the valuation differs from the values at one of the first variables, or has the same ones
same-or-other : (b c : Bool) → (b ≡ c) ⊎ (c ≡ not b)
same-or-other true true = inl refl
same-or-other true false = inr refl
same-or-other false true = inr refl
same-or-other false false = inl refl

differs-or-agrees : (n : ℕ) (values : List Bool) (v : ℕ → Bool)
    → ((k : ℕ) × (1 ≤ k) × (k ≤ n) × (v k ≡ not (valuation values k))) ⊎ Agree n (valuation values) v
differs-or-agrees zero values v = inr (λ k low high. absurd (omega (arith, low, high)))
differs-or-agrees (suc n) values v = ⊎_elim
    (λ d. inl (d.0, d.1, let x : d.0 ≤ n = d.2 in omega (arith, x), d.3))
    (λ a. ⊎_elim
    (λ same. inr (λ k low high. ⊎_elim
    (λ is. ap (valuation values) is ∙ same ∙ sym (ap v is))
    (λ other. a k low (omega (arith, high, other)))
    (cases_eq k (suc n))))
    (λ other. inl (suc n, omega arith, omega arith, other))
    (same-or-other (valuation values (suc n)) (v (suc n))))
    (differs-or-agrees n values v)

pub all-or-any : (p : ProblemState) (v : ℕ → Bool) (vs : List (List Bool)) → All (λ w. Differs p w v) vs
    ⊎ Any (λ w. Agree (length p.atoms) (valuation w) v) vs
all-or-any p v [] = inl (All-nil (λ w. Differs p w v))
all-or-any p v (w ∷ vs) = ⊎_elim
    (λ d. ⊎_elim
    (λ all. inl (All-cons (λ u. Differs p u v) w vs d all))
    (λ any. inr (suc any.0, any.1, omega (arith, any.2), any.3, any.4))
    (all-or-any p v vs))
    (λ a. inr (zero, w, omega arith, refl, a))
    (differs-or-agrees (length p.atoms) w v)

-- where nothing is left under the exclusions, each model is one of these
pub all-found : (p q : ProblemState) (assumed : List Lit) (vs : List (List Bool)) (ls : List Lit)
    → Selects p q assumed vs ls → RefutesAll q ls → (v : ℕ → Bool) → Satisfies p v → MakesTrue v assumed
    → Any (λ w. Agree (length p.atoms) (valuation w) v) vs
all-found p q assumed vs ls h refuted v s t = ⊎_elim
    (λ d. let e = h.extends v s t d in absurd (refuted e.0 e.2 e.3))
    (λ any. any)
    (all-or-any p v vs)

-- exclusions, whose selectors are retired in the end, are additions
exclusions-added : (p q : ProblemState) (vs : List (List Bool)) → IsProblem q → GrowsByAdditions p q
    → GrowsByAdditions p (with_exclusions q vs)
exclusions-added p q [] fine h = h
exclusions-added p q (v ∷ vs) fine h = exclusions-added p (with_exclusion q v) vs (exclusion-problem q v fine)
    (record { conserves = (exclusions-select p q v fine h.conserves).added; retired = h.retired })

selectors-of-new : (low : ℕ) (p : ProblemState) (vs : List (List Bool)) → IsProblem p → low ≤ p.vars
    → All (IsNewLit low (with_exclusions p vs).vars) (exclusion_selectors p vs)
selectors-of-new low p [] fine le = All-nil (IsNewLit low p.vars)
selectors-of-new low p (v ∷ vs) fine le =
    let more : IsProblem (with_exclusion p v) = exclusion-problem p v fine in
    let grows : p.vars + 1 ≤ (with_exclusions (with_exclusion p v) vs).vars =
    (exclusions-added (with_exclusion p v) (with_exclusion p v) vs more
    (nothing-added (with_exclusion p v))).conserves.grows in
    All-cons (IsNewLit low (with_exclusions (with_exclusion p v) vs).vars) (next_lit p)
    (exclusion_selectors (with_exclusion p v) vs)
    (record { positive = refl; beyond = omega (arith, le); within = grows })
    (selectors-of-new low (with_exclusion p v) vs more (omega (arith, le)))

pub excludes-grow : (vs : List (List Bool)) (s t : SolveState) → IsProblem s.problem → Excludes vs s t
    → GrowsByAdditions s.problem t.problem
excludes-grow vs s t fine h =
    subst (λ (q : ProblemState). GrowsByAdditions s.problem q) (sym h.problem)
    (subst (λ (gone : List Lit). GrowsByAdditions s.problem
    (retiring (with_exclusions s.problem vs) (gone ++ exclusion_selectors s.problem vs)))
    (retired-stays s.problem vs)
    (retirements-added s.problem (with_exclusions s.problem vs) (exclusion_selectors s.problem vs)
    (exclusions-added s.problem s.problem vs fine (nothing-added s.problem))
    (selectors-of-new s.problem.vars s.problem vs fine (omega arith))))
