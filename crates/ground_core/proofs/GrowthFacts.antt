-- Laws of problems that grow by bounds.
use Rattle.std.proofs.Common.{◌≡◌, ℕ, zero, suc, ◌≤◌, ◌<◌, ◌+◌, Bool, true, false, not, Option, Some, None, IfSome}
use Rattle.std.proofs.Common.{List, [], ◌∷◌, ◌++◌, All, length, get_or, slice_get, take, refl, sym, ap, ◌∙◌, subst}
use Rattle.std.proofs.Common.{arith, ⊎_elim, Contains}
use Rattle.std.proofs.Math.Numerals.{add-one}
use Rattle.std.proofs.lemmas.Option.{slice_get_within, get_or_from_slice_get, slice_get_cases, none-some}
use Rattle.std.proofs.lemmas.List.{length_push, take-append-le}
use Rattle.std.proofs.lemmas.List.Elements.{All-nil, All-cons, All-contains, All-push, Contains-push}
use Rattle.std.proofs.lemmas.List.Elements.{Contains-push_cases, Contains-append_left}
use Rattle.std.proofs.lemmas.Bool.{cases_eq, both_ways}
use Rattle.kb_logic.specs.declared.elements.ExtInt.{ExtInt}
use Rattle.kb_logic.specs.declared.syntax.Cmp.TheVariants as cmp
use Rattle.kb_logic.specs.Denotations.{compared}
use Rattle.lit_core.specs.declared.literals.Lit.{Lit}
use Rattle.lit_core.proofs.LiteralFacts.{negated-differs}
use Rattle.lit_core.specs.Truth.{IsSatisfied}
use Rattle.lit_core.specs.Literals.{by_sign, literal_value, valuation, negated}
use Rattle.ground_core.specs.declared.parts.GroundTerm.{GroundTerm}
use Rattle.ground_core.specs.declared.parts.TermBound.{TermBound}
use Rattle.ground_core.specs.declared.moments.Moment.{Moment}
use Rattle.ground_core.specs.Problems.{ProblemState, IsProblem, IsLitOf, AreLitsOf, IsTermOf}
use Rattle.ground_core.specs.Meaning.{HasTermsInRange, IsInRange, shifted, Satisfies, BoundHolds, term_value}
use Rattle.ground_core.specs.Meaning.{denotation_of_bound}
use Rattle.ground_core.specs.More.{Agree}
use Rattle.ground_core.specs.Moments.{IsMomentOf}
use Rattle.ground_core.specs.Growth.{with_bound, with_exclusion, next_lit, falsified_by}
use Rattle.ground_core.specs.Growing.{value_of_term, value_at, Conserves, IsSelector, IsApart, with_retired}
use Rattle.ground_core.specs.Solving.{IsLearntFrom}
use Rattle.ground_core.specs.Laws.{BoundsSelect, BoundsSayNoMore, BoundsAreKept, ExclusionsAreKept, RetirementsAreKept}
use Rattle.ground_core.specs.Laws.{Differs, ExclusionsSelect}
use Rattle.ground_core.proofs.Fronts.{All-front}
use Rattle.ground_core.proofs.SelectorFacts.{selectors-push}
use Rattle.ground_core.proofs.Locals.{agree-trans, value-local, satisfies-local, bound-below}
use Rattle.ground_core.proofs.Valuations.{with_value, with_value-old, with_value-new}

pub item-of : {X : Type 0} (P : X → Type 0) (xs : List X) (k : ℕ) (x : X) → All P xs → slice_get xs k ≡ Some x → P x
item-of P xs k x h is = All-contains P xs x h (k, slice_get_within xs k x is, get_or_from_slice_get xs k x x is)

module _ (p : ProblemState) (term : ℕ) (below : ExtInt) where
  abbrev new_bound : TermBound
  new_bound = record { out = next_lit p; term = term; below = below }

  abbrev IsBelow : (ℕ → Bool) → Type 0
  IsBelow v = IfSome (slice_get p.terms term) (λ t. compared cmp.Lt (term_value v t) (denotation_of_bound below) ≡ true)

  pub bound-restricts : (v : ℕ → Bool) → Satisfies (with_bound p term below) v → Satisfies p v
  bound-restricts v s = record {
    gates = s.gates;
    clauses = s.clauses;
    sums = s.sums;
    bounds =
        All-front (BoundHolds v p.terms) p.bounds (new_bound ∷ []) s.bounds;
    retired = s.retired;
  }

  pub bound-means : (v : ℕ → Bool) → Satisfies (with_bound p term below) v → v (p.vars + 1) ≡ true → IsBelow v
  bound-means v s on = All-contains (BoundHolds v p.terms) (p.bounds ++ new_bound ∷ []) new_bound s.bounds
      (Contains-push p.bounds new_bound) on

  pub bound-made : (b : Bool) (v : ℕ → Bool) → IsProblem p → Satisfies p v → (b ≡ true → IsBelow v)
      → Satisfies (with_bound p term below) (with_value (p.vars + 1) b v)
  bound-made b v fine s is_below =
      let w : ℕ → Bool = with_value (p.vars + 1) b v in
      let a : Agree p.vars v w = with_value-old p.vars b v in
      let t : Satisfies p w = satisfies-local p v w fine a s in
      let under : BoundHolds w p.terms new_bound = λ on.
      bound-below p.vars v w a new_bound (slice_get p.terms term)
      (λ x is. item-of (IsTermOf p.vars) p.terms term x fine.terms is)
      (is_below (sym (with_value-new (p.vars + 1) b v) ∙ on)) in
      record {
        gates = t.gates;
        clauses = t.clauses;
        sums = t.sums;
        bounds =
            All-push (BoundHolds w p.terms) p.bounds new_bound t.bounds under;
        retired = t.retired;
      }

pub term-local : (p : ProblemState) (term : ℕ) (v w : ℕ → Bool) → IsProblem p → Agree p.vars v w
    → value_at p term v ≡ value_at p term w
term-local p term v w fine a = at (slice_get p.terms term) (λ x is. item-of (IsTermOf p.vars) p.terms term x
    fine.terms is)
  where
    at : (o : Option GroundTerm) → ((x : GroundTerm) → o ≡ Some x → IsTermOf p.vars x)
        → value_of_term o v ≡ value_of_term o w
    at None h = refl
    at (Some x) h = ap (shifted x.base) (value-local p.vars v w a x.kind x.parts (h x refl))

there-is : (p : ProblemState) (term : ℕ) → term < length p.terms → (x : GroundTerm) × (slice_get p.terms term ≡ Some x)
there-is p term lt = ⊎_elim (λ s. (s.0, s.2)) (λ n. absurd (let x : length p.terms ≤ term = n.0 in omega arith))
    (slice_get_cases p.terms term).1

pub term-in-range : (p : ProblemState) (term : ℕ) (v : ℕ → Bool) → HasTermsInRange p → Satisfies p v
    → term < length p.terms → IsInRange (value_at p term v)
term-in-range p term v h s lt =
    let x = there-is p term lt in
    subst (λ (o : Option GroundTerm). IsInRange (value_of_term o v)) (sym x.1)
    (item-of (λ t. IsInRange (term_value v t)) p.terms term x.0 (h v s) x.1)

below-none : (o : Option GroundTerm) (v : ℕ → Bool) (b : ExtInt) → compared cmp.Lt (value_of_term o v)
    (denotation_of_bound b) ≡ true → IfSome o (λ x. compared cmp.Lt (term_value v x) (denotation_of_bound b) ≡ true)
below-none None v b h = tt
below-none (Some x) v b h = h

below-some : (o : Option GroundTerm) (v : ℕ → Bool) (b : ExtInt) → ((x : GroundTerm) × (o ≡ Some x))
    → IfSome o (λ x. compared cmp.Lt (term_value v x) (denotation_of_bound b) ≡ true) → compared cmp.Lt (value_of_term o v)
    (denotation_of_bound b) ≡ true
below-some None v b s h = absurd (none-some s.0 s.1)
below-some (Some x) v b s h = h

pub select : BoundsSelect
select p term below fine lt = record {
  means = λ v s on. below-some (slice_get p.terms term) v below (there-is p term lt) (bound-means p term below v s on);
  extends = λ v s less. (
    with_value (p.vars + 1) true v,
    with_value-old p.vars true v,
    bound-made p term below true v fine s (λ _. below-none (slice_get p.terms term) v below less),
    with_value-new (p.vars + 1) true v,
  );
}

pub retired-restricts : (p : ProblemState) (l : Lit) (v : ℕ → Bool) → Satisfies (with_retired p l) v → Satisfies p v
retired-restricts p l v s = record {
  gates = s.gates;
  clauses = s.clauses;
  sums = s.sums;
  bounds = s.bounds;
  retired =
      All-front (λ k. literal_value v k ≡ false) p.retired (l ∷ []) s.retired;
}

-- a selector of what is new may be retired
pub gone-conserves : (p q : ProblemState) (l : Lit) → Conserves p q → l.positive ≡ true → p.vars < l.var.0
    → l.var.0 ≤ q.vars → Conserves p (with_retired q l)
gone-conserves p q l c on new within = record {
  grows = c.grows;
  atoms = c.atoms;
  terms = c.terms;
  restricts = λ v s. c.restricts v (retired-restricts q l v s);
  extends = λ v s.
      let e = c.extends v s in (
        e.0,
        e.1,
        e.2,
        record {
          gates = e.3.gates;
          clauses = e.3.clauses;
          sums = e.3.sums;
          bounds = e.3.bounds;
          retired =
              All-push (λ k. literal_value e.0 k ≡ false) q.retired l e.3.retired
              (ap (λ (b : Bool). by_sign b (e.0 l.var.0)) on ∙ e.2 l.var.0 new within);
        },
      );
}

-- a literal of the first n variables is of another variable than the next
apart : (n : ℕ) (l k : Lit) → l.var.0 ≡ n + 1 → IsLitOf n k → IsApart l k
apart n l k is h = λ e. let x : k.var.0 ≤ n = h.1 in omega (arith, e, is, x)

module _ (q : ProblemState) (term : ℕ) (below : ExtInt) (fine : IsProblem q) where
  abbrev sel : Lit
  sel = next_lit q

  abbrev far : (k : Lit) → IsLitOf q.vars k → IsApart sel k
  far k h = apart q.vars sel k refl h

  pub bound-selector : IsSelector (with_bound q term below) (next_lit q)
  bound-selector = record {
    positive = refl;
    within = (omega arith, omega arith);
    atoms = let x : length q.atoms ≤ q.vars = fine.atoms in omega arith;
    gates = λ k d lt. (
      far (get_or q.gates k d).out (fine.gates k d lt).0,
      λ j e less. far (get_or (get_or q.gates k d).parts j e) ((fine.gates k d lt).1 j e less),
    );
    clauses = λ k d lt has. far sel (All-contains (IsLitOf q.vars) (get_or q.clauses k d) sel
        (fine.clauses k d lt) has) refl;
    sums = λ k d lt. (
      far (get_or q.sums k d).out (fine.sums k d lt).0,
      λ j e less. far (get_or (get_or q.sums k d).parts j e).lit ((fine.sums k d lt).1 j e less),
    );
    terms = λ k d lt j e less. far (get_or (get_or q.terms k d).parts j e).lit (fine.terms k d lt j e less);
    bounds = All-push (λ (b : TermBound). b.out.var.0 ≡ q.vars + 1 → b.out ≡ sel) q.bounds (new_bound q term below)
        (λ k d lt e. absurd (far (get_or q.bounds k d).out (fine.bounds k d lt).0 e))
        (λ e. refl);
  }

  module _ (p : ProblemState) (c : Conserves p q) where
    pub bound-conserves : Conserves p (with_bound q term below)
    bound-conserves = record {
      grows = let x : p.vars ≤ q.vars = c.grows in omega arith;
      atoms = c.atoms;
      terms = c.terms;
      restricts = λ v s. c.restricts v (bound-restricts q term below v s);
      extends = λ v s.
          let e = c.extends v s in
          let w : ℕ → Bool = with_value (q.vars + 1) false e.0 in
          let a : Agree q.vars e.0 w = with_value-old q.vars false e.0 in (
            w,
            agree-trans p.vars q.vars v e.0 w c.grows e.1 a,
            (λ k low high. ⊎_elim
                (λ is. ap w is ∙ with_value-new (q.vars + 1) false e.0)
                (λ not. sym (a k (omega (arith, low)) (omega (arith, high, not)))
                ∙ e.2 k low (omega (arith, high, not)))
                (cases_eq k (q.vars + 1))),
            bound-made q term below false e.0 fine e.3 (λ f. absurd (both_ways false refl f)),
          );
    }

    pub retired-conserves : Conserves p (with_retired (with_bound q term below) (next_lit q))
    retired-conserves = let x : p.vars ≤ q.vars = c.grows in gone-conserves p (with_bound q term below) (next_lit q)
        bound-conserves refl (omega (arith, x)) (omega arith)

pub say-no-more : BoundsSayNoMore
say-no-more p q term below fine c lt = record {
  added = bound-conserves q term below fine p c;
  selector = bound-selector q term below fine;
  retired = retired-conserves q term below fine p c;
}

one-more : (n : ℕ) (l : Lit) → IsLitOf n l → IsLitOf (n + 1) l
one-more n l h = (h.0, let x : l.var.0 ≤ n = h.1 in omega arith)

pub bound-problem : (p : ProblemState) (term : ℕ) (below : ExtInt) → term < length p.terms → IsProblem p
    → IsProblem (with_bound p term below)
bound-problem p term below lt fine = record {
  atoms = let x : length p.atoms ≤ p.vars = fine.atoms in omega arith;
  gates = λ k d l. (
    one-more p.vars (get_or p.gates k d).out (fine.gates k d l).0,
    λ j e less. one-more p.vars (get_or (get_or p.gates k d).parts j e) ((fine.gates k d l).1 j e less),
  );
  clauses = λ k d l j e less. one-more p.vars (get_or (get_or p.clauses k d) j e) (fine.clauses k d l j e less);
  sums = λ k d l. (
    one-more p.vars (get_or p.sums k d).out (fine.sums k d l).0,
    λ j e less. one-more p.vars (get_or (get_or p.sums k d).parts j e).lit ((fine.sums k d l).1 j e less),
  );
  terms = λ k d l j e less. one-more p.vars (get_or (get_or p.terms k d).parts j e).lit (fine.terms k d l j e less);
  bounds = All-push (λ (b : TermBound). IsLitOf (p.vars + 1) b.out × (b.term < length p.terms)) p.bounds
      (new_bound p term below)
      (λ k d l. (one-more p.vars (get_or p.bounds k d).out (fine.bounds k d l).0, (fine.bounds k d l).1))
      ((omega arith, omega arith), lt);
  retired = λ k d l. one-more p.vars (get_or p.retired k d) (fine.retired k d l);
}

-- the problem of a moment, with these bounds
abbrev with_bounds : ProblemState → Moment → List TermBound → ProblemState
with_bounds p m bs = record {
  atoms = p.atoms;
  vars = m.vars;
  gates = take m.gates p.gates;
  clauses =
      take m.clauses p.clauses;
  sums = take m.sums p.sums;
  terms = p.terms;
  bounds = bs;
  retired =
      take m.retired p.retired;
}

pub keep : BoundsAreKept
keep s term below lt kept = record {
  problem = bound-problem s.problem term below lt kept.problem;
  terms = λ v sat. kept.terms v (bound-restricts s.problem term below v sat);
  learnt = record {
    paired = kept.learnt.paired;
    were = λ k d l. more (get_or s.moments k d) (kept.learnt.were k d l);
    each = λ k c m c_is m_is.
        let was : IsMomentOf s.problem m = item-of (IsMomentOf s.problem) s.moments k m kept.learnt.were m_is in
        subst (λ (bs : List TermBound). IsLearntFrom (with_bounds s.problem m bs) (take k s.learnt) c)
        (sym (take-append-le m.bounds s.problem.bounds (new_bound s.problem term below ∷ []) was.bounds))
        (kept.learnt.each k c m c_is m_is);
  };
  refuted = λ k d l v sat t. kept.refuted k d l v (bound-restricts s.problem term below v sat) t;
  counted = kept.counted;
  selectors = kept.selectors;
  free = let x : s.problem.vars ≤ s.free + length s.problem.retired = kept.free in omega (arith, x);
}
  where
    more : (m : Moment) → IsMomentOf s.problem m → IsMomentOf (with_bound s.problem term below) m
    more m h = record {
      vars = let x : m.vars ≤ s.problem.vars = h.vars in omega arith;
      gates = h.gates;
      clauses = h.clauses;
      sums = h.sums;
      bounds = let x : m.bounds ≤ length s.problem.bounds = h.bounds in
          let n : length (s.problem.bounds ++ new_bound s.problem term below ∷ []) ≡ length s.problem.bounds + 1 =
          length_push s.problem.bounds (new_bound s.problem term below) in omega arith;
      retired = h.retired;
    }

pub falsified-more : (values : List Bool) (n : ℕ) → falsified_by values (n + 1) ≡ falsified_by values n ++ record
    { var = record { 0 = n + 1 }; positive = not (valuation values (n + 1)) } ∷ []
falsified-more values n = rw (add-one n) refl

falsified-lits : (values : List Bool) (n m : ℕ) → n ≤ m → AreLitsOf m (falsified_by values n)
falsified-lits values zero m le = All-nil (IsLitOf m)
falsified-lits values (suc n) m le = All-push (IsLitOf m) (falsified_by values n)
    (record { var = record { 0 = suc n }; positive = not (valuation values (suc n)) })
    (falsified-lits values n m (omega (arith, le))) (omega arith, le)

pub exclusion-problem : (p : ProblemState) (values : List Bool) → IsProblem p → IsProblem (with_exclusion p values)
exclusion-problem p values fine = record {
  atoms = let x : length p.atoms ≤ p.vars = fine.atoms in omega arith;
  gates = λ k d l. (
    one-more p.vars (get_or p.gates k d).out (fine.gates k d l).0,
    λ j e less. one-more p.vars (get_or (get_or p.gates k d).parts j e) ((fine.gates k d l).1 j e less),
  );
  clauses = All-push (AreLitsOf (p.vars + 1)) p.clauses (negated (next_lit p) ∷ falsified_by values (length p.atoms))
      (λ k d l j e less. one-more p.vars (get_or (get_or p.clauses k d) j e) (fine.clauses k d l j e less))
      (All-cons (IsLitOf (p.vars + 1)) (negated (next_lit p)) (falsified_by values (length p.atoms))
      (omega arith, omega arith)
      (falsified-lits values (length p.atoms) (p.vars + 1) (let x : length p.atoms ≤ p.vars = fine.atoms in
      omega arith)));
  sums = λ k d l. (
    one-more p.vars (get_or p.sums k d).out (fine.sums k d l).0,
    λ j e less. one-more p.vars (get_or (get_or p.sums k d).parts j e).lit ((fine.sums k d l).1 j e less),
  );
  terms = λ k d l j e less. one-more p.vars (get_or (get_or p.terms k d).parts j e).lit (fine.terms k d l j e less);
  bounds = λ k d l. (one-more p.vars (get_or p.bounds k d).out (fine.bounds k d l).0, (fine.bounds k d l).1);
  retired = λ k d l. one-more p.vars (get_or p.retired k d) (fine.retired k d l);
}

pub exclusion-restricts : (p : ProblemState) (values : List Bool) (v : ℕ → Bool) → Satisfies (with_exclusion p values) v
    → Satisfies p v
exclusion-restricts p values v s = record {
  gates = s.gates;
  clauses = All-front (IsSatisfied v) p.clauses
      ((negated (next_lit p) ∷ falsified_by values (length p.atoms)) ∷ []) s.clauses;
  sums = s.sums;
  bounds = s.bounds;
  retired = s.retired;
}

pub retired-problem : (p : ProblemState) (l : Lit) → IsLitOf p.vars l → IsProblem p → IsProblem (with_retired p l)
retired-problem p l within fine = record {
  atoms = fine.atoms;
  gates = fine.gates;
  clauses = fine.clauses;
  sums =
      fine.sums;
  terms = fine.terms;
  bounds = fine.bounds;
  retired =
      All-push (IsLitOf p.vars) p.retired l fine.retired within;
}

-- the problem of a moment, with these clauses, or with these retired selectors
abbrev with_clauses : ProblemState → Moment → List (List Lit) → ProblemState
with_clauses p m cs = record {
  atoms = p.atoms;
  vars = m.vars;
  gates = take m.gates p.gates;
  clauses = cs;
  sums =
      take m.sums p.sums;
  terms = p.terms;
  bounds = take m.bounds p.bounds;
  retired = take m.retired p.retired;
}

abbrev with_gone : ProblemState → Moment → List Lit → ProblemState
with_gone p m ls = record {
  atoms = p.atoms;
  vars = m.vars;
  gates = take m.gates p.gates;
  clauses =
      take m.clauses p.clauses;
  sums = take m.sums p.sums;
  terms = p.terms;
  bounds = take m.bounds p.bounds;
  retired = ls;
}

pub keep-exclusion : ExclusionsAreKept
keep-exclusion s values kept = record {
  problem = exclusion-problem s.problem values kept.problem;
  terms = λ v sat. kept.terms v (exclusion-restricts s.problem values v sat);
  learnt = record {
    paired = kept.learnt.paired;
    were = λ k d l. more (get_or s.moments k d) (kept.learnt.were k d l);
    each = λ k c m c_is m_is.
        let was : IsMomentOf s.problem m = item-of (IsMomentOf s.problem) s.moments k m kept.learnt.were m_is in
        subst (λ (cs : List (List Lit)). IsLearntFrom (with_clauses s.problem m cs) (take k s.learnt) c)
        (sym (take-append-le m.clauses s.problem.clauses ((negated (next_lit s.problem) ∷ falsified_by values
        (length s.problem.atoms)) ∷ []) was.clauses))
        (kept.learnt.each k c m c_is m_is);
  };
  refuted = λ k d l v sat t. kept.refuted k d l v (exclusion-restricts s.problem values v sat) t;
  counted = kept.counted;
  selectors = kept.selectors;
  free = let x : s.problem.vars ≤ s.free + length s.problem.retired = kept.free in omega (arith, x);
}
  where
    more : (m : Moment) → IsMomentOf s.problem m → IsMomentOf (with_exclusion s.problem values) m
    more m h = record {
      vars = let x : m.vars ≤ s.problem.vars = h.vars in omega arith;
      gates = h.gates;
      clauses = let x : m.clauses ≤ length s.problem.clauses = h.clauses in
          let n : length (s.problem.clauses ++ (negated (next_lit s.problem) ∷ falsified_by values
          (length s.problem.atoms)) ∷ []) ≡ length s.problem.clauses + 1 =
          length_push s.problem.clauses (negated (next_lit s.problem) ∷ falsified_by values (length s.problem.atoms))
          in omega arith;
      sums = h.sums;
      bounds = h.bounds;
      retired = h.retired;
    }

pub keep-retired : RetirementsAreKept
keep-retired s l within on new kept = record {
  problem = retired-problem s.problem l within kept.problem;
  terms = λ v sat. kept.terms v (retired-restricts s.problem l v sat);
  learnt = record {
    paired = kept.learnt.paired;
    were = λ k d lt. more (get_or s.moments k d) (kept.learnt.were k d lt);
    each = λ k c m c_is m_is.
        let was : IsMomentOf s.problem m = item-of (IsMomentOf s.problem) s.moments k m kept.learnt.were m_is in
        subst (λ (ls : List Lit). IsLearntFrom (with_gone s.problem m ls) (take k s.learnt) c)
        (sym (take-append-le m.retired s.problem.retired (l ∷ []) was.retired))
        (kept.learnt.each k c m c_is m_is);
  };
  refuted = λ k d lt v sat t. kept.refuted k d lt v (retired-restricts s.problem l v sat) t;
  counted = kept.counted;
  selectors = selectors-push s.problem.retired s.problem.vars l kept.selectors on new;
  free = let x : s.problem.vars ≤ s.free + length s.problem.retired = kept.free in
      let n : length (s.problem.retired ++ l ∷ []) ≡ length s.problem.retired + 1 = length_push s.problem.retired l in
      omega (arith, x, n);
}
  where
    more : (m : Moment) → IsMomentOf s.problem m → IsMomentOf (with_retired s.problem l) m
    more m h = record {
      vars = h.vars;
      gates = h.gates;
      clauses = h.clauses;
      sums = h.sums;
      bounds = h.bounds;
      retired = let x : m.retired ≤ length s.problem.retired = h.retired in let n : length (s.problem.retired ++ l ∷ [])
          ≡ length s.problem.retired + 1 = length_push s.problem.retired l in omega arith;
    }

-- the variable's literal that the values make false
abbrev other_literal : List Bool → ℕ → Lit
other_literal values k = record { var = record { 0 = k }; positive = not (valuation values k) }

falsified-has : (values : List Bool) (n k : ℕ) → 1 ≤ k → k ≤ n → Contains (falsified_by values n)
    (other_literal values k)
falsified-has values zero k low high = absurd (omega (arith, low, high))
falsified-has values (suc n) k low high = ⊎_elim
    (λ is. subst (λ j. Contains (falsified_by values n ++ other_literal values (suc n) ∷ []) (other_literal values j))
    (sym is) (Contains-push (falsified_by values n) (other_literal values (suc n))))
    (λ not_last. Contains-append_left (falsified_by values n) (other_literal values (suc n) ∷ [])
    (other_literal values k) (falsified-has values n k low (omega (arith, high, not_last))))
    (cases_eq k (suc n))

falsified-is : (values : List Bool) (n : ℕ) (l : Lit) → Contains (falsified_by values n) l → (k : ℕ) × (1 ≤ k) × (k ≤ n)
    × (l ≡ other_literal values k)
falsified-is values zero l has = absurd (omega (arith, has.1))
falsified-is values (suc n) l has = ⊎_elim
    (λ old. let h = falsified-is values n l old in (h.0, h.1, omega (arith, h.2), h.3))
    (λ is. (suc n, omega arith, omega arith, sym is))
    (Contains-push_cases (falsified_by values n) (other_literal values (suc n)) l has)

sign-true : (b c : Bool) → by_sign b c ≡ true → c ≡ b
sign-true true c e = e
sign-true false true e = sym e
sign-true false false e = refl

true-sign : (b c : Bool) → c ≡ b → by_sign b c ≡ true
true-sign true c e = e
true-sign false true e = sym e
true-sign false false e = refl

module _ (p : ProblemState) (values : List Bool) where
  abbrev others : List Lit
  others = falsified_by values (length p.atoms)

  in-clause : (v : ℕ → Bool) (i : ℕ) (l : Lit) → i < length (negated (next_lit p) ∷ others)
      → get_or (negated (next_lit p) ∷ others) i l ≡ l → literal_value v l ≡ true → v (p.vars + 1) ≡ true
      → Differs p values v
  in-clause v zero l lt e on sel =
      let off : not (v (p.vars + 1)) ≡ true = ap (literal_value v) e ∙ on in
      absurd (both_ways false refl (sym (ap not sel) ∙ off))
  in-clause v (suc i) l lt e on sel =
      let h = falsified-is values (length p.atoms) l (i, omega (arith, lt), e) in
      (h.0, h.1, h.2, sign-true (not (valuation values h.0)) (v h.0) (sym (ap (literal_value v) h.3) ∙ on))

  exclusion-made : (b : Bool) (v : ℕ → Bool) → IsProblem p → Satisfies p v → (b ≡ true → Differs p values v)
      → Satisfies (with_exclusion p values) (with_value (p.vars + 1) b v)
  exclusion-made b v fine s differs =
      let w : ℕ → Bool = with_value (p.vars + 1) b v in
      let a : Agree p.vars v w = with_value-old p.vars b v in
      let t : Satisfies p w = satisfies-local p v w fine a s in
      record {
        gates = t.gates;
        clauses = All-push (IsSatisfied w) p.clauses (negated (next_lit p) ∷ others) t.clauses
            (clause b refl);
        sums = t.sums;
        bounds = t.bounds;
        retired = t.retired;
      }
    where
      clause : (c : Bool) → b ≡ c → IsSatisfied (with_value (p.vars + 1) b v) (negated (next_lit p) ∷ others)
      clause false is = (0, negated (next_lit p), omega arith, refl, ap not (with_value-new (p.vars + 1) b v ∙ is))
      clause true is =
          let d = differs is in
          let has = falsified-has values (length p.atoms) d.0 d.1 d.2 in
          let x : length p.atoms ≤ p.vars = fine.atoms in
          let same : v d.0 ≡ with_value (p.vars + 1) b v d.0 = with_value-old p.vars b v d.0 d.1
          (omega (arith, x, d.2)) in (
            suc has.0,
            other_literal values d.0,
            omega (arith, has.1),
            has.2,
            true-sign (not (valuation values d.0))
                (with_value (p.vars + 1) b v d.0) (sym same ∙ d.3),
          )

  exclusion-selector : IsProblem p → IsSelector (with_exclusion p values) (next_lit p)
  exclusion-selector fine = record {
    positive = refl;
    within = (omega arith, omega arith);
    atoms = let x : length p.atoms ≤ p.vars = fine.atoms in omega arith;
    gates = λ k d lt. (
      away (get_or p.gates k d).out (fine.gates k d lt).0,
      λ j e less. away (get_or (get_or p.gates k d).parts j e) ((fine.gates k d lt).1 j e less),
    );
    clauses = All-push (λ (c : List Lit). Contains c (next_lit p) → ⊥) p.clauses (negated (next_lit p) ∷ others)
        (λ k d lt has. away (next_lit p) (All-contains (IsLitOf p.vars) (get_or p.clauses k d) (next_lit p)
        (fine.clauses k d lt) has) refl)
        (λ has. nowhere has.0 has.1 has.2);
    sums = λ k d lt. (
      away (get_or p.sums k d).out (fine.sums k d lt).0,
      λ j e less. away (get_or (get_or p.sums k d).parts j e).lit ((fine.sums k d lt).1 j e less),
    );
    terms = λ k d lt j e less. away (get_or (get_or p.terms k d).parts j e).lit (fine.terms k d lt j e less);
    bounds = λ k d lt e. absurd (away (get_or p.bounds k d).out (fine.bounds k d lt).0 e);
  }
    where
      away : (k : Lit) → IsLitOf p.vars k → IsApart (next_lit p) k
      away k h = apart p.vars (next_lit p) k refl h

      nowhere : (i : ℕ) → i < length (negated (next_lit p) ∷ others) → get_or (negated (next_lit p) ∷ others) i
          (next_lit p) ≡ next_lit p → ⊥
      nowhere zero lt e = negated-differs (next_lit p) (sym e)
      nowhere (suc i) lt e = away (next_lit p) (All-contains (IsLitOf p.vars) others (next_lit p)
          (falsified-lits values (length p.atoms) p.vars fine.atoms) (i, omega (arith, lt), e)) refl

module _ (p q : ProblemState) (values : List Bool) (fine : IsProblem q) (c : Conserves p q) where
  exclusion-conserves : Conserves p (with_exclusion q values)
  exclusion-conserves = record {
    grows = let x : p.vars ≤ q.vars = c.grows in omega arith;
    atoms = c.atoms;
    terms = c.terms;
    restricts = λ v s. c.restricts v (exclusion-restricts q values v s);
    extends = λ v s.
        let e = c.extends v s in
        let w : ℕ → Bool = with_value (q.vars + 1) false e.0 in
        let a : Agree q.vars e.0 w = with_value-old q.vars false e.0 in (
          w,
          agree-trans p.vars q.vars v e.0 w c.grows e.1 a,
          (λ k low high. ⊎_elim
              (λ is. ap w is ∙ with_value-new (q.vars + 1) false e.0)
              (λ not_new. sym (a k (omega (arith, low)) (omega (arith, high, not_new)))
              ∙ e.2 k low (omega (arith, high, not_new)))
              (cases_eq k (q.vars + 1))),
          exclusion-made q values false e.0 fine e.3 (λ f. absurd (both_ways false refl f)),
        );
  }

  exclusion-retired : Conserves p (with_retired (with_exclusion q values) (next_lit q))
  exclusion-retired = let x : p.vars ≤ q.vars = c.grows in gone-conserves p (with_exclusion q values) (next_lit q)
      exclusion-conserves refl (omega (arith, x)) (omega arith)

pub exclusions-select : ExclusionsSelect
exclusions-select p q values fine c = record {
  means = λ v s on. let h = All-contains (IsSatisfied v) (q.clauses ++ (negated (next_lit q) ∷ falsified_by values
      (length q.atoms)) ∷ []) (negated (next_lit q) ∷ falsified_by values (length q.atoms)) s.clauses
      (Contains-push q.clauses (negated (next_lit q) ∷ falsified_by values (length q.atoms))) in
      in-clause q values v h.0 h.1 h.2 h.3 h.4 on;
  extends = λ v s d. (
    with_value (q.vars + 1) true v,
    with_value-old q.vars true v,
    exclusion-made q values true v fine s (λ _. d),
    with_value-new (q.vars + 1) true v,
  );
  added = exclusion-conserves p q values fine c;
  selector = exclusion-selector q values fine;
  retired = exclusion-retired p q values fine c;
}
