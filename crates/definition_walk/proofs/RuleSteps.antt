-- One rule and one instance more.
use Rattle.std.proofs.Common.{◌≡◌, ◌<◌, ◌≤◌, ℕ, zero, suc, ◌+◌, ◌-◌, List, [], ◌∷◌, ◌++◌, map, take, fold, length}
use Rattle.std.proofs.Common.{get_or, Some, sym, ap, subst}
use Rattle.std.proofs.Common.{◌∙◌, arith}
use Rattle.std.specs.List.{AllByRecursion}
use Rattle.kb_logic.specs.declared.syntax.Rule.{Rule}
use Rattle.kb_logic.specs.declared.syntax.Definition.{Definition}
use Rattle.kb_logic.specs.Trees.{RuleTree, DefinitionTree}
use Rattle.kb_logic.specs.Views.{rule_view, definition_view}
use Rattle.kb_logic.specs.declared.elements.Elem.{Elem}
use Rattle.ground_core.specs.Problems.{ProblemState}
use Rattle.term_values.specs.GroundBases.{GroundBase}
use Rattle.def_ground.specs.declared.answers.Answer.{Answer}
use Rattle.def_ground.specs.Answers.{GroundResult, Makes}
use Rattle.def_ground.specs.Forms.{form_of}
use Rattle.def_ground.specs.Definitions.{Instances, with_body, instance_step, rule_instances, head_var}
use Rattle.definition_walk.specs.declared.bodies.Bodies.{Bodies}
use Rattle.definition_walk.specs.Lists.{lists_of, HaveBodies}
use Rattle.definition_walk.specs.Steps.{Stands}

pub rules-next : (b : GroundBase) (rules : List Rule) (k : ℕ) (x : Rule) (st : Instances) → k < length rules
    → x ≡ get_or rules k x
    → fold (rule_instances b) st (map rule_view (take (k + 1) rules)) ≡ rule_instances b
    (fold (rule_instances b) st (map rule_view (take k rules))) (rule_view x)
rules-next b [] k x st h is = absurd (omega (arith, h))
rules-next b (y ∷ rules) zero x st h is = ap (λ r. rule_instances b st (rule_view r)) (sym is)
rules-next b (y ∷ rules) (suc k) x st h is =
    let next : suc k + 1 ≡ suc (k + 1) = omega arith in
    ap (λ m. fold (rule_instances b) st (map rule_view (take m (y ∷ rules)))) next
    ∙ rules-next b rules k x (rule_instances b st (rule_view y)) (omega (arith, h)) is

pub rule-at : (P : RuleTree → Type 0) (rules : List Rule) → AllByRecursion P (map rule_view rules) → (k : ℕ) (x : Rule)
    → k < length rules → x ≡ get_or rules k x → P (rule_view x)
rule-at P [] h k x lt is = absurd (omega (arith, lt))
rule-at P (y ∷ rules) h zero x lt is = subst (λ r. P (rule_view r)) (sym is) h.0
rule-at P (y ∷ rules) h (suc k) x lt is = rule-at P rules h.1 k x (omega (arith, lt)) is

pub definition-at : (P : RuleTree → Type 0) (ds : List Definition)
    → AllByRecursion (λ (d : DefinitionTree). AllByRecursion P d.rules) (map definition_view ds) → (k : ℕ)
    (x : Definition) → k < length ds → x ≡ get_or ds k x → AllByRecursion P (definition_view x).rules
definition-at P [] h k x lt is = absurd (omega (arith, lt))
definition-at P (y ∷ ds) h zero x lt is = subst (λ d. AllByRecursion P (definition_view d).rules) (sym is) h.0
definition-at P (y ∷ ds) h (suc k) x lt is = definition-at P ds h.1 k x (omega (arith, lt)) is

-- the body of one instance more
module _ (b : GroundBase) (r : RuleTree) (e : List Elem) (st : Instances) (was kept : Bodies) (p q : ProblemState)
    (n place : ℕ) (a : Answer) (head : Some n ≡ head_var b r e) (low : was.first ≤ n) (at : place ≡ n - was.first)
    (first : kept.first ≡ was.first) (made : Makes (form_of b r.body e p) a q)
    (more : (told : List (ℕ × Answer)) (k : ℕ) → HaveBodies told k (lists_of was.lists)
    → HaveBodies (told ++ (k + place, a) ∷ []) k (lists_of kept.lists)) where
  pub instance-stands : Stands st was p → Stands (instance_step b r st e) kept q
  instance-stands s =
      let g = form_of b r.body e st.problem in
      let same : form_of b r.body e p ≡ g = ap (form_of b r.body e) s.problem in
      let body : a ≡ g.answer = made.0 ∙ ap (λ (x : GroundResult). x.answer) same in
      let var : was.first + place ≡ n = omega (arith, low, at) in
      subst (λ o. Stands (with_body o g st) kept q) head (record {
        bodies =
            subst (λ k. HaveBodies (st.bodies ++ (n, g.answer) ∷ []) k (lists_of kept.lists)) (sym first)
            (subst (λ x. HaveBodies (st.bodies ++ (n, x) ∷ []) was.first (lists_of kept.lists)) body
            (subst (λ m. HaveBodies (st.bodies ++ (m, a) ∷ []) was.first (lists_of kept.lists)) var
            (more st.bodies was.first s.bodies)));
        problem = made.1 ∙ ap (λ (x : GroundResult). x.problem) same;
      })
