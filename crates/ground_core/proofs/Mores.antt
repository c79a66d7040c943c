-- Steps that define more.
use Rattle.std.proofs.Common.{◌≡◌, ℕ, ◌≤◌, ◌+◌, Bool, true, false, ◌&&◌, ◌||◌, not, List, [], ◌∷◌, ◌++◌, refl, sym, ap}
use Rattle.std.proofs.Common.{◌∙◌, arith, ⊎_elim}
use Rattle.std.proofs.lemmas.List.Elements.{All-contains, All-push, All-append, Contains-push}
use Rattle.std.proofs.lemmas.Bool.{cases_eq}
use Rattle.lit_core.specs.declared.literals.Lit.{Lit}
use Rattle.lit_core.specs.Literals.{literal_value, by_sign}
use Rattle.lit_core.specs.Truth.{IsSatisfied}
use Rattle.lit_core.proofs.Soundness.{value-negated}
use Rattle.std.specs.List.{list_all}
use Rattle.ground_core.specs.declared.parts.Gate.{Gate}
use Rattle.ground_core.specs.declared.parts.Part.{Part}
use Rattle.ground_core.specs.declared.parts.AggCon.{AggCon}
use Rattle.kb_logic.specs.declared.elements.ExtInt.{ExtInt}
use Rattle.kb_logic.specs.declared.syntax.AggKind.{AggKind}
use Rattle.kb_logic.specs.declared.syntax.Cmp.TheVariants as cmp
use Rattle.kb_logic.specs.Denotations.{compared}
use Rattle.ground_core.specs.Problems.{ProblemState, IsProblem, IsLitOf, AreLitsOf, ArePartsOf}
use Rattle.ground_core.specs.Meaning.{joined, parts_value, denotation_of_bound, GateHolds, SumHolds, Satisfies}
use Rattle.ground_core.specs.More.{Agree, DefinesMore, Adds}
use Rattle.ground_core.specs.Growth.{next_lit, with_gate, with_sum, with_same, clauses_of_same}
use Rattle.ground_core.proofs.Locals.{agree-trans, literal-local, joined-local, value-local, satisfies-local}
use Rattle.ground_core.proofs.Fronts.{All-front, All-back}
use Rattle.ground_core.proofs.Valuations.{with_value, with_value-old, with_value-new}
use Rattle.ground_core.proofs.Clauses.{clause_value, clauses-true, clauses-hold, same-true, true-same}

pub more-trans : (p q r : ProblemState) → DefinesMore p q → DefinesMore q r → DefinesMore p r
more-trans p q r a b = record {
  grows = let x : p.vars ≤ q.vars = a.grows in let y : q.vars ≤ r.vars = b.grows in omega arith;
  restricts = λ v s. a.restricts v (b.restricts v s);
  extends = λ v s.
      let e = a.extends v s in
      let f = b.extends e.0 e.2 in
      (f.0, agree-trans p.vars q.vars v e.0 f.0 a.grows e.1 f.1, f.2);
  unique = λ v w s t e. b.unique v w s t (a.unique v w (b.restricts v s) (b.restricts w t) e);
}

module _ (p q : ProblemState) (value : (ℕ → Bool) → Bool) (fine : IsProblem p) (one : q.vars ≡ p.vars + 1)
    (local : (v w : ℕ → Bool) → Agree p.vars v w → value v ≡ value w)
    (gives : (v : ℕ → Bool) → Satisfies q v → Satisfies p v × (v (p.vars + 1) ≡ value v))
    (makes : (v : ℕ → Bool) → Satisfies p v → v (p.vars + 1) ≡ value v → Satisfies q v) where
  extended : (ℕ → Bool) → ℕ → Bool
  extended v = with_value (p.vars + 1) (value v) v

  extended-old : (v : ℕ → Bool) → Agree p.vars v (extended v)
  unfolding extended
  extended-old v = with_value-old p.vars (value v) v

  extended-new : (v : ℕ → Bool) → extended v (p.vars + 1) ≡ value v
  unfolding extended
  extended-new v = with_value-new (p.vars + 1) (value v) v

  pub defined : DefinesMore p q
  defined = record {
    grows = omega (arith, one);
    restricts = λ v s. (gives v s).0;
    extends = λ v s. (
      extended v,
      extended-old v,
      makes (extended v) (satisfies-local p v (extended v) fine (extended-old v) s) (extended-new v
          ∙ local v (extended v) (extended-old v)),
    );
    unique = λ v w s t e k low high. ⊎_elim
        (λ is. ap v is ∙ (gives v s).1 ∙ local v w e ∙ sym ((gives w t).1) ∙ sym (ap w is))
        (λ not. e k low (omega (arith, one, not)))
        (cases_eq k (p.vars + 1));
  }

  pub added : Adds p q value (next_lit p)
  added = record {
    more = defined;
    one = one;
    within = (omega arith, omega (arith, one));
    means = λ v s. (gives v s).1;
  }

module _ (p : ProblemState) (all : Bool) (parts : List Lit) (fine : IsProblem p) (within : AreLitsOf p.vars parts) where
  abbrev gate : Gate
  gate = record { out = next_lit p; all = all; parts = parts }

  pub gate-added : Adds p (with_gate p all parts) (λ v. joined all v parts) (next_lit p)
  gate-added = added p (with_gate p all parts) (λ v. joined all v parts) fine refl
      (λ v w e. joined-local p.vars v w e all parts within)
      (λ v s. (
        record {
          gates = All-front (GateHolds v) p.gates (gate ∷ []) s.gates;
          clauses = s.clauses;
          sums = s.sums;
          bounds = s.bounds;
          retired = s.retired;
        },
        All-contains (GateHolds v) (p.gates ++ gate ∷ []) gate s.gates (Contains-push p.gates gate),
      ))
      (λ v s e. record {
        gates = All-push (GateHolds v) p.gates gate s.gates e;
        clauses = s.clauses;
        sums = s.sums;
        bounds = s.bounds;
        retired = s.retired;
      })

module _ (p : ProblemState) (kind : AggKind) (parts : List Part) (least : ExtInt) (fine : IsProblem p)
    (within : ArePartsOf p.vars parts) where
  abbrev sum : AggCon
  sum = record { out = next_lit p; kind = kind; parts = parts; least = least }

  pub sum-added : Adds p (with_sum p kind parts least) (λ v. compared cmp.Ge (parts_value v kind parts)
      (denotation_of_bound least)) (next_lit p)
  sum-added = added p (with_sum p kind parts least) (λ v. compared cmp.Ge (parts_value v kind parts)
      (denotation_of_bound least)) fine refl
      (λ v w e. ap (λ d. compared cmp.Ge d (denotation_of_bound least)) (value-local p.vars v w e kind parts within))
      (λ v s. (
        record {
          gates = s.gates;
          clauses = s.clauses;
          sums = All-front (SumHolds v) p.sums (sum ∷ []) s.sums;
          bounds =
              s.bounds;
          retired = s.retired;
        },
        All-contains (SumHolds v) (p.sums ++ sum ∷ []) sum s.sums (Contains-push p.sums sum),
      ))
      (λ v s e. record {
        gates = s.gates;
        clauses = s.clauses;
        sums = All-push (SumHolds v) p.sums sum s.sums e;
        bounds = s.bounds;
        retired = s.retired;
      })

say_same : (o a b : Bool) → ((not o || (not a || (b || false))) &&
    ((not o || (a || (not b || false))) && ((o || (a || (b || false))) &&
    ((o || (not a || (not b || false))) && true)))) ≡ by_sign o (by_sign a b)
say_same true true true = refl
say_same true true false = refl
say_same true false true = refl
say_same true false false = refl
say_same false true true = refl
say_same false true false = refl
say_same false false true = refl
say_same false false false = refl

module _ (p : ProblemState) (a b : Lit) (fine : IsProblem p) (a_in : IsLitOf p.vars a) (b_in : IsLitOf p.vars b) where
  abbrev four : List (List Lit)
  four = clauses_of_same (next_lit p) a b

  same-value : (v : ℕ → Bool) → list_all (clause_value v) four ≡ by_sign (v (p.vars + 1))
      (by_sign (literal_value v a) (literal_value v b))
  same-value v =
      let o : Lit = next_lit p in
      let not_o = value-negated v o in
      let not_a = value-negated v a in
      let not_b = value-negated v b in
      let says = say_same (v (p.vars + 1)) (literal_value v a) (literal_value v b) in cc

  pub same-added : Adds p (with_same p a b) (λ v. by_sign (literal_value v a) (literal_value v b)) (next_lit p)
  same-added = added p (with_same p a b) (λ v. by_sign (literal_value v a) (literal_value v b)) fine refl
      (λ v w e. let x = literal-local p.vars v w e a a_in in let y = literal-local p.vars v w e b b_in in cc)
      (λ v s. (
        record {
          gates = s.gates;
          clauses = All-front (IsSatisfied v) p.clauses four s.clauses;
          sums = s.sums;
          bounds =
              s.bounds;
          retired = s.retired;
        },
        same-true (v (p.vars + 1)) (by_sign (literal_value v a) (literal_value v b)) (sym (same-value v)
            ∙ clauses-true v four (All-back (IsSatisfied v) p.clauses four s.clauses)),
      ))
      (λ v s e. record {
        gates = s.gates;
        clauses = All-append (IsSatisfied v) p.clauses four s.clauses
            (clauses-hold v four (same-value v ∙ true-same (v (p.vars + 1))
            (by_sign (literal_value v a) (literal_value v b)) e));
        sums = s.sums;
        bounds = s.bounds;
        retired = s.retired;
      })
