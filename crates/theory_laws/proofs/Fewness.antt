-- How many variables a definition adds.
use Rattle.std.proofs.Common.{◌≡◌, ◌≤◌, ℕ, ◌+◌, ◌*◌, List, [], ◌∷◌, length, fold, Bool, true, false, if◌then◌else◌}
use Rattle.std.proofs.Common.{Option, Some, None, refl, sym, ap, ◌∙◌, arith, inl, inr}
use Rattle.std.specs.List.{AllByRecursion, sum_by}
use Rattle.std.proofs.lemmas.List.Sums.{sum_by-cons}
use Rattle.kb_logic.specs.declared.elements.Elem.{Elem}
use Rattle.kb_logic.specs.Trees.{RuleTree, FormulaTree}
use Rattle.kb_logic.specs.Structures.{choices}
use Rattle.kb_logic.specs.Bounds.{types_of}
use Rattle.kb_logic.specs.Domains.{AreDomainsOf}
use Rattle.kb_logic.specs.Weights.{occurrences, body_occurrences, rule_occurrences}
use Rattle.kb_logic.proofs.Atoms.{tuple_elements}
use Rattle.kb_logic.proofs.Has.{Has, contains_from}
use Rattle.ground_core.specs.Problems.{ProblemState}
use Rattle.term_values.specs.GroundBases.{GroundBase, known_of}
use Rattle.def_ground.specs.declared.answers.Answer.{Answer}
use Rattle.def_ground.specs.declared.answers.Answer.TheVariants.{Constant, Literal}
use Rattle.def_ground.specs.Answers.{GroundResult}
use Rattle.def_ground.specs.Forms.{form_of, answer_of_atom}
use Rattle.def_ground.proofs.Counting.{linear}
use Rattle.def_ground.proofs.FewLaws.{few-variables}
use Rattle.def_ground.specs.Definitions.{Instances, with_body, instance_step, rule_instances, all_instances, head_var}
use Rattle.def_ground.specs.Definitions.{bodies_of, settled_by, complete_atom, defined_vars}
use Rattle.theory_laws.specs.DefinitionLaws.{FewForDefinitions}
use Rattle.def_ground.specs.Rules.{IsTypedRule}
use Rattle.theory_laws.proofs.Completing.{made_by, made-same}

vars-made : (t : Bool) (a : Answer) (as' : List Answer) (p : ProblemState) → (made_by t a as' p).vars ≡ p.vars
vars-made true (Constant true) as' p = refl
vars-made false (Constant true) as' p = refl
vars-made true (Constant false) as' p = refl
vars-made false (Constant false) as' p = refl
vars-made true (Literal l) as' p = refl
vars-made false (Literal l) as' p = refl

-- the clauses of atoms make no variables
atoms-vars : (b : GroundBase) (bs : List (ℕ × Answer)) (ns : List ℕ) (q : ProblemState)
    → (fold (complete_atom b bs) q ns).vars ≡ q.vars
atoms-vars b bs [] q = refl
atoms-vars b bs (n ∷ ns) q =
    let a = answer_of_atom (known_of b n) n in
    atoms-vars b bs ns (complete_atom b bs q n)
    ∙ ap (λ (r : ProblemState). r.vars) (sym (made-same a (bodies_of n bs) q))
    ∙ vars-made (settled_by (bodies_of n bs)) a (bodies_of n bs) q

body-vars : (o : Option ℕ) (g : GroundResult) (st : Instances) (k : ℕ) → g.problem.vars ≤ st.problem.vars + k
    → (with_body o g st).problem.vars ≤ st.problem.vars + k
body-vars None g st k h = omega arith
body-vars (Some n) g st k h = h

-- the body of an instance adds four times its occurrences, and nothing where it is not written
abbrev body-count : GroundBase → RuleTree → ℕ
body-count b r = if r.has_body then occurrences b.vocabulary b.domains r.body 1 else 0

module _ (b : GroundBase) (given : AreDomainsOf b.vocabulary b.domains) where
  one-body : (r : RuleTree) → IsTypedRule b.vocabulary b.domains r → (e : List Elem) → Has (choices b.domains r.vars) e
      → (p : ProblemState) → (form_of b r.body e p).problem.vars ≤ p.vars + 4 * body-count b r
  one-body r h e m p = by r.has_body refl
    where
      by : (t : Bool) → r.has_body ≡ t
          → (form_of b r.body e p).problem.vars ≤ p.vars + 4 *
          (if t then occurrences b.vocabulary b.domains r.body 1 else 0)
      by true w =
          few-variables b r.body (types_of r.vars) e p given
          (tuple_elements b.domains (types_of r.vars) e (contains_from (choices b.domains r.vars) e m)) h.typed
      by false w =
          let none : (form_of b r.body e p).problem.vars ≡ p.vars =
          ap (λ (f : FormulaTree). (form_of b f e p).problem.vars) (h.unwritten w) in
          omega (arith, none)

  each-instance : (r : RuleTree) → IsTypedRule b.vocabulary b.domains r → (es : List (List Elem))
      → ((e : List Elem) → Has es e → Has (choices b.domains r.vars) e) → (st : Instances)
      → (fold (instance_step b r) st es).problem.vars ≤ st.problem.vars + length es * (4 * body-count b r)
  each-instance r h [] inside st = omega arith
  each-instance r h (e ∷ es) inside st =
      let k = 4 * body-count b r in
      let here = body-vars (head_var b r e) (form_of b r.body e st.problem) st k
      (one-body r h e (inside e (inl refl)) st.problem) in
      let rest = each-instance r h es (λ a m. inside a (inr m)) (instance_step b r st e) in
      let sizes : (length es + 1) * k ≡ length es * k + k = omega arith in
      omega (arith, here, rest, sizes)

  body-total : (r : RuleTree) (n : ℕ) → n * (4 * body-count b r) ≡ 4 * body_occurrences b.vocabulary b.domains r n
  body-total r n = by r.has_body
    where
      ring : (n x y : ℕ) → y ≡ n * x → n * (4 * x) ≡ 4 * y
      ring n x y e = omega (arith, e)

      by : (t : Bool) → n * (4 * (if t then occurrences b.vocabulary b.domains r.body 1 else 0)) ≡ 4 *
          (if t then occurrences b.vocabulary b.domains r.body n else 0)
      by true =
          ring n (occurrences b.vocabulary b.domains r.body 1) (occurrences b.vocabulary b.domains r.body n)
          (linear b.vocabulary b.domains r.body n)
      by false = ring n 0 0 (omega arith)

  each-rule : (rs : List RuleTree) → AllByRecursion (IsTypedRule b.vocabulary b.domains) rs → (st : Instances)
      → (fold (rule_instances b) st rs).problem.vars ≤ st.problem.vars + 4 * sum_by
      (rule_occurrences b.vocabulary b.domains) rs
  each-rule [] h st = omega arith
  each-rule (r ∷ rs) h st =
      let n = length (choices b.domains r.vars) in
      let here = each-instance r h.0 (choices b.domains r.vars) (λ e m. m) st in
      let total = body-total r n in
      let rest = each-rule rs h.1 (rule_instances b st r) in
      let sum = sum_by-cons (rule_occurrences b.vocabulary b.domains) r rs in
      omega (arith, here, total, rest, sum)

pub few-for-definitions : FewForDefinitions
few-for-definitions b d p given typed =
    let made = all_instances b d p in
    let clauses = atoms-vars b made.bodies (defined_vars b d) made.problem in
    let bodies = each-rule b given d.rules typed (record { bodies = []; problem = p }) in
    omega (arith, clauses, bodies)
