-- Definitions one after another: what they say, and what stays said.
use Rattle.std.proofs.Common.{◌≤◌, ℕ, Bool, true, false, List, [], ◌∷◌, map, fold, Option, Some, None}
use Rattle.std.proofs.Common.{refl, subst, ◌∙◌, arith}
use Rattle.std.specs.List.{AllByRecursion}
use Rattle.kb_logic.specs.declared.elements.Elem.{Elem}
use Rattle.kb_logic.specs.declared.structures.Structure.{Structure}
use Rattle.kb_logic.specs.Domains.{AreDomainsOf}
use Rattle.kb_logic.specs.Models.{ModelOfDefinition}
use Rattle.kb_logic.specs.Structures.{choices}
use Rattle.kb_logic.specs.Trees.{RuleTree, DefinitionTree}
use Rattle.lit_core.specs.Literals.{negated}
use Rattle.ground_core.specs.GateClauses.{clauses_of_join}
use Rattle.ground_core.specs.More.{Agree}
use Rattle.ground_core.specs.Problems.{ProblemState, IsProblem}
use Rattle.term_values.specs.GroundBases.{GroundBase, known_of, structure_of}
use Rattle.def_ground.specs.declared.answers.Answer.{Answer}
use Rattle.def_ground.specs.declared.answers.Answer.TheVariants.{Constant, Literal}
use Rattle.def_ground.specs.Answers.{GroundResult}
use Rattle.def_ground.specs.Definitions.{Instances, with_body, instance_step, rule_instances, all_instances, head_var}
use Rattle.def_ground.specs.Definitions.{bodies_of, settled_by, literals_in, complete, complete_atom, defined_vars}
use Rattle.def_ground.specs.Definitions.{define_of, define_all}
use Rattle.def_ground.specs.Forms.{form_of, answer_of_atom}
use Rattle.def_ground.specs.Meanings.{HasAtoms, HasRoom}
use Rattle.def_ground.specs.Rules.{IsTypedDefinition}
use Rattle.def_ground.proofs.AssertLaws.{room-grown}
use Rattle.def_ground.proofs.KeepSteps.{Keeps, keeps-all, keeps-on, keeps-clause, keeps-clauses}
use Rattle.def_ground.proofs.KeepLaws.{form-keeps}
use Rattle.theory_laws.specs.DefinitionLaws.{AssertsThat}
use Rattle.theory_laws.proofs.Completing.{made_by, made-same}
use Rattle.theory_laws.proofs.Models.{definition-is-asserted}

-- ---- what stays said

made-keeps : (t : Bool) (a : Answer) (as' : List Answer) (p : ProblemState) → Keeps p (made_by t a as' p)
made-keeps true (Constant true) as' p = keeps-all p
made-keeps false (Constant true) as' p = keeps-clause p (literals_in as')
made-keeps true (Constant false) as' p = keeps-clause p []
made-keeps false (Constant false) as' p = keeps-clauses p (map (λ l. negated l ∷ []) (literals_in as'))
made-keeps true (Literal l) as' p = keeps-clause p (l ∷ [])
made-keeps false (Literal l) as' p = keeps-clauses p (clauses_of_join false l (literals_in as'))

complete-keeps : (a : Answer) (as' : List Answer) (p : ProblemState) → Keeps p (complete a as' p)
complete-keeps a as' p = subst (Keeps p) (made-same a as' p) (made-keeps (settled_by as') a as' p)

atoms-keep : (b : GroundBase) (bs : List (ℕ × Answer)) (ns : List ℕ) (p : ProblemState)
    → Keeps p (fold (complete_atom b bs) p ns)
atoms-keep b bs [] p = keeps-all p
atoms-keep b bs (n ∷ ns) p =
    let q = complete_atom b bs p n in
    keeps-on p q (fold (complete_atom b bs) q ns)
    (complete-keeps (answer_of_atom (known_of b n) n) (bodies_of n bs) p) (atoms-keep b bs ns q)

body-keeps : (o : Option ℕ) (g : GroundResult) (st : Instances) → Keeps st.problem g.problem
    → Keeps st.problem (with_body o g st).problem
body-keeps None g st h = keeps-all st.problem
body-keeps (Some n) g st h = h

instances-keep : (b : GroundBase) (r : RuleTree) (es : List (List Elem)) (st : Instances)
    → Keeps st.problem (fold (instance_step b r) st es).problem
instances-keep b r [] st = keeps-all st.problem
instances-keep b r (e ∷ es) st =
    let next = instance_step b r st e in
    keeps-on st.problem next.problem (fold (instance_step b r) next es).problem
    (body-keeps (head_var b r e) (form_of b r.body e st.problem) st (form-keeps b r.body e st.problem))
    (instances-keep b r es next)

rules-keep : (b : GroundBase) (rs : List RuleTree) (st : Instances)
    → Keeps st.problem (fold (rule_instances b) st rs).problem
rules-keep b [] st = keeps-all st.problem
rules-keep b (r ∷ rs) st =
    let next = rule_instances b st r in
    keeps-on st.problem next.problem (fold (rule_instances b) next rs).problem
    (instances-keep b r (choices b.domains r.vars) st) (rules-keep b rs next)

define-keeps : (b : GroundBase) (d : DefinitionTree) (p : ProblemState) → Keeps p (define_of b d p)
define-keeps b d p =
    let made = all_instances b d p in
    keeps-on p made.problem (define_of b d p) (rules-keep b d.rules (record { bodies = []; problem = p }))
    (atoms-keep b made.bodies (defined_vars b d) made.problem)

pub definitions-keep : (b : GroundBase) (ds : List DefinitionTree) (p : ProblemState) → Keeps p (define_all b ds p)
definitions-keep b [] p = keeps-all p
definitions-keep b (d ∷ ds) p =
    let q = define_of b d p in
    keeps-on p q (define_all b ds q) (define-keeps b d p) (definitions-keep b ds q)

-- ---- what they say

-- the structure is a model of each definition
abbrev pub AreModelsOf : GroundBase → List DefinitionTree → Structure → Type 0
AreModelsOf b ds m = AllByRecursion (ModelOfDefinition b.vocabulary m) ds

agree-on : (m n : ℕ) (u v w : ℕ → Bool) → m ≤ n → Agree m u v → Agree n v w → Agree m u w
agree-on m n u v w le e f k low high = e k low high ∙ f k low (omega (arith, high, le))

pub definitions-asserted : (b : GroundBase) → AreDomainsOf b.vocabulary b.domains → (ds : List DefinitionTree)
    → AllByRecursion (IsTypedDefinition b.vocabulary b.domains) ds → (p : ProblemState) → IsProblem p → HasAtoms b p
    → HasRoom b p → AssertsThat p (define_all b ds p) (λ v. AreModelsOf b ds (structure_of b v))
definitions-asserted b domains [] typed p fine at room = record {
  fine = fine;
  grows = omega arith;
  gives = λ v s. (s, tt);
  extends = λ v s m. (v, (λ k low high. refl), s);
  unique = λ v w s t e. e;
}
definitions-asserted b domains (d ∷ ds) typed p fine at room =
    let q = define_of b d p in
    let one = definition-is-asserted b d p domains typed.0 fine at room in
    let rest =
    definitions-asserted b domains ds typed.1 q one.fine (λ v s. at v (one.gives v s).0)
    (room-grown b p q one.grows room) in
    let le = one.grows in
    let more = rest.grows in
    record {
      fine = rest.fine;
      grows = omega (arith, le, more);
      gives = λ v s. let g = rest.gives v s in let h = one.gives v g.0 in (h.0, (h.1, g.1));
      extends = λ v s m.
          let w = one.extends v s m.0 in
          let u =
          rest.extends w.0 w.2 (subst (AreModelsOf b ds) (room.same v w.0 w.1) m.1) in
          (u.0, agree-on p.vars q.vars v w.0 u.0 le w.1 u.1, u.2);
      unique = λ v w s t e.
          rest.unique v w s t (one.unique v w (rest.gives v s).0 (rest.gives w t).0 e);
    }
