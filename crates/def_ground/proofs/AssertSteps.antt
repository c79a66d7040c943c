-- What is asserted, step by step.
use Rattle.std.proofs.Common.{◌≡◌, ℕ, Bool, true, false, not, ◌&&◌, ◌||◌, List, [], ◌∷◌, ◌++◌, if◌then◌else◌, refl}
use Rattle.std.proofs.Common.{sym, ap, ◌∙◌, arith, All}
use Rattle.std.specs.List.{list_all, list_any}
use Rattle.std.proofs.lemmas.List.Elements.{All-append, All-push, All-contains, Contains-push}
use Rattle.lit_core.specs.declared.literals.Lit.{Lit}
use Rattle.lit_core.specs.Literals.{literal_value}
use Rattle.lit_core.specs.Truth.{IsSatisfied}
use Rattle.ground_core.specs.Problems.{ProblemState, IsProblem, AreLitsOf}
use Rattle.ground_core.specs.Meaning.{Satisfies}
use Rattle.ground_core.specs.More.{Agree, DefinesMore}
use Rattle.ground_core.specs.Growth.{with_clause}
use Rattle.ground_core.proofs.Fronts.{All-front, All-back}
use Rattle.ground_core.proofs.Clauses.{clause_value, clause-true, clause-holds, clauses-true, clauses-hold}
use Rattle.ground_core.proofs.Locals.{joined-local, agree-trans}
use Rattle.def_ground.specs.Answers.{GroundResult}
use Rattle.def_ground.specs.Cases.{with_clauses}
use Rattle.def_ground.specs.CaseSentences.{or_clause}
use Rattle.def_ground.specs.Forms.{settles, with_answer, signed_result}
use Rattle.def_ground.specs.Meanings.{Means, AssertsMore}
use Rattle.def_ground.proofs.FormSteps.{taken-value, taken-fine, means-not}

abbrev pub any-of : List Lit → (ℕ → Bool) → Bool
any-of ls v = list_any (literal_value v) ls

abbrev pub Local : ℕ → ((ℕ → Bool) → Bool) → Type 0
Local n V = (v w : ℕ → Bool) → Agree n v w → V v ≡ V w

pub or-true : (c : Bool) → (c || true) ≡ true
or-true true = refl
or-true false = refl

pub or-false : (c : Bool) → (c || false) ≡ c
or-false true = refl
or-false false = refl

pub or-assoc : (a c d : Bool) → ((a || c) || d) ≡ (a || (c || d))
or-assoc true c d = refl
or-assoc false c d = refl

pub or-and : (a c d : Bool) → ((a || c) && (a || d)) ≡ (a || (c && d))
or-and true c d = refl
or-and false c d = refl

both-true : (c d : Bool) → c ≡ true → d ≡ true → (c && d) ≡ true
both-true true d e f = f
both-true false d e f = cc

parts-true : (c d : Bool) → (c && d) ≡ true → (c ≡ true) × (d ≡ true)
parts-true true d e = (refl, e)
parts-true false d e = cc

pub agree-refl : (n : ℕ) (v : ℕ → Bool) → Agree n v v
agree-refl n v = λ k low high. refl

pub says-is : (p q : ProblemState) (V W : (ℕ → Bool) → Bool) → ((v : ℕ → Bool) → V v ≡ W v) → AssertsMore p q V
    → AssertsMore p q W
says-is p q V W e h = record {
  fine = h.fine;
  grows = h.grows;
  gives = λ v s. let g = h.gives v s in (g.0, sym (e v) ∙ g.1);
  extends = λ v s t. h.extends v s (e v ∙ t);
  unique = h.unique;
}

pub says-nothing : (p : ProblemState) (V : (ℕ → Bool) → Bool) → IsProblem p → ((v : ℕ → Bool) → V v ≡ true)
    → AssertsMore p p V
says-nothing p V fine e =
    record {
      fine = fine;
      grows = omega arith;
      gives = λ v s. (s, e v);
      extends = λ v s t.
          (v, agree-refl p.vars v, s);
      unique = λ v w s t a. a;
    }

pub says-clause : (p : ProblemState) (ls : List Lit) → IsProblem p → AreLitsOf p.vars ls
    → AssertsMore p (with_clause p ls) (any-of ls)
says-clause p ls fine within = record {
  fine =
      record {
        atoms = fine.atoms;
        gates = fine.gates;
        clauses = All-push
            (AreLitsOf p.vars) p.clauses ls fine.clauses within;
        sums = fine.sums;
        terms = fine.terms;
        bounds = fine.bounds;
        retired = fine.retired;
      };
  grows = omega arith;
  gives = λ v s. (
    record {
      gates = s.gates;
      clauses = All-front (IsSatisfied v) p.clauses
          (ls ∷ []) s.clauses;
      sums = s.sums;
      bounds = s.bounds;
      retired = s.retired;
    },
    clause-true v ls (All-contains (IsSatisfied v) (p.clauses ++ ls ∷ []) ls s.clauses (Contains-push p.clauses ls)),
  );
  extends =
      λ v s t. (
        v,
        agree-refl p.vars v,
        record {
          gates = s.gates;
          clauses = All-push
              (IsSatisfied v) p.clauses ls s.clauses (clause-holds v ls t);
          sums = s.sums;
          bounds = s.bounds;
          retired = s.retired;
        },
      );
  unique = λ v w s t a. a;
}

-- clauses that are true exactly where V is
pub says-clauses : (p : ProblemState) (cs : List (List Lit)) (V : (ℕ → Bool) → Bool) → IsProblem p
    → All (AreLitsOf p.vars) cs → ((v : ℕ → Bool) → Satisfies p v → list_all (clause_value v) cs ≡ V v)
    → AssertsMore p (with_clauses p cs) V
says-clauses p cs V fine within e = record {
  fine =
      record {
        atoms = fine.atoms;
        gates = fine.gates;
        clauses = All-append (AreLitsOf p.vars) p.clauses cs fine.clauses within;
        sums = fine.sums;
        terms = fine.terms;
        bounds = fine.bounds;
        retired = fine.retired;
      };
  grows = omega arith;
  gives = λ v s.
      let old : Satisfies p v = record {
        gates = s.gates;
        clauses = All-front (IsSatisfied v) p.clauses cs s.clauses;
        sums = s.sums;
        bounds = s.bounds;
        retired = s.retired;
      } in
      (old, sym (e v old) ∙ clauses-true v cs (All-back (IsSatisfied v) p.clauses cs s.clauses));
  extends = λ v s t. (
    v,
    agree-refl p.vars v,
    record {
      gates = s.gates;
      clauses = All-append (IsSatisfied v) p.clauses cs s.clauses (clauses-hold v cs (e v s ∙ t));
      sums = s.sums;
      bounds = s.bounds;
      retired = s.retired;
    },
  );
  unique = λ v w s t a. a;
}

-- first more is defined
pub says-after : (p q r : ProblemState) (V W : (ℕ → Bool) → Bool) → DefinesMore p q → Local p.vars W
    → ((v : ℕ → Bool) → Satisfies q v → V v ≡ W v) → AssertsMore q r V → AssertsMore p r W
says-after p q r V W m local e h = record {
  fine = h.fine;
  grows = omega (arith, m.grows, h.grows);
  gives = λ v s. let g = h.gives v s in (m.restricts v g.0, sym (e v g.0) ∙ g.1);
  extends = λ v s t.
      let x = m.extends v s in
      let y = h.extends x.0 x.2 (e x.0 x.2 ∙ sym (local v x.0 x.1) ∙ t) in
      (y.0, agree-trans p.vars q.vars v x.0 y.0 m.grows x.1 y.1, y.2);
  unique = λ v w s t a. h.unique v w s t (m.unique v w (h.gives v s).0 (h.gives w t).0 a);
}

-- one, and then another
pub says-two : (p q r : ProblemState) (V W : (ℕ → Bool) → Bool) → Local p.vars W → AssertsMore p q V
    → AssertsMore q r W → AssertsMore p r (λ v. V v && W v)
says-two p q r V W local h k = record {
  fine = k.fine;
  grows = omega (arith, h.grows, k.grows);
  gives = λ v s.
      let x = k.gives v s in
      let y = h.gives v x.0 in (y.0, both-true (V v) (W v) y.1 x.1);
  extends = λ v s t.
      let both = parts-true (V v) (W v) t in
      let x = h.extends v s both.0 in
      let y = k.extends x.0 x.2 (sym (local v x.0 x.1) ∙ both.1) in
      (y.0, agree-trans p.vars q.vars v x.0 y.0 h.grows x.1 y.1, y.2);
  unique = λ v w s t a. k.unique v w s t (h.unique v w (k.gives v s).0 (k.gives w t).0 a);
}

pub any-local : (n : ℕ) (ls : List Lit) → AreLitsOf n ls → Local n (any-of ls)
any-local n ls h v w agree = joined-local n v w agree false ls h

pub or-local : (n : ℕ) (V W : (ℕ → Bool) → Bool) → Local n V → Local n W → Local n (λ v. V v || W v)
or-local n V W h k v w agree = ap (λ c. c || W v) (h v w agree) ∙ ap (λ c. V w || c) (k v w agree)

-- an answer's clause
pub clause-right : (p : ProblemState) (g : GroundResult) (ls : List Lit) (F : (ℕ → Bool) → Bool) → AreLitsOf p.vars ls
    → Local p.vars F → Means p g.problem g.answer F → AssertsMore p (or_clause ls g) (λ v. any-of ls v || F v)
clause-right p g ls F within f-local h = by (settles false g.answer) refl
  where
    local : Local p.vars (λ v. any-of ls v || F v)
    local = or-local p.vars (any-of ls) F (any-local p.vars ls within) f-local

    said : (s : Bool) → settles false g.answer ≡ s → (v : ℕ → Bool) → Satisfies g.problem v
        → (if s then true else any-of (with_answer g.answer ls) v) ≡ (any-of ls v || F v)
    said s e v sat =
        ap (λ c. if c then true else any-of (with_answer g.answer ls) v) (sym e) ∙ taken-value false g.answer ls v
        ∙ ap (λ c. any-of ls v || c) (h.right v sat)

    by : (s : Bool) → settles false g.answer ≡ s
        → AssertsMore p (if s then g.problem else with_clause g.problem (with_answer g.answer ls))
        (λ v. any-of ls v || F v)
    by true e =
        says-after p g.problem g.problem (λ v. true) (λ v. any-of ls v || F v) h.more local (said true e)
        (says-nothing g.problem (λ v. true) h.fine (λ v. refl))
    by false e =
        says-after p g.problem (with_clause g.problem (with_answer g.answer ls)) (any-of (with_answer g.answer ls))
        (λ v. any-of ls v || F v) h.more local (said false e)
        (says-clause g.problem (with_answer g.answer ls) h.fine (taken-fine p g ls F within h))

abbrev pub signed-truth : Bool → Bool → Bool
signed-truth true c = c
signed-truth false c = not c

pub signed-means : (p : ProblemState) (sign : Bool) (g : GroundResult) (F : (ℕ → Bool) → Bool)
    → Means p g.problem g.answer F
    → Means p (signed_result sign g).problem (signed_result sign g).answer (λ v. signed-truth sign (F v))
signed-means p true g F h = h
signed-means p false g F h = means-not p g F h
