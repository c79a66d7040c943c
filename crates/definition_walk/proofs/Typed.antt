-- Well typed rules can be ground.
use Rattle.std.proofs.Common.{ℕ, List, [], ◌∷◌, true, Option, Some, None, IfSome, sym, subst}
use Rattle.std.specs.List.{AllByRecursion}
use Rattle.kb_logic.specs.declared.elements.Elem.{Elem}
use Rattle.kb_logic.specs.declared.vocabularies.Vocabulary.{Vocabulary}
use Rattle.kb_logic.specs.Bounds.{types_of, TermIsBounded}
use Rattle.kb_logic.specs.Structures.{choices}
use Rattle.kb_logic.specs.Trees.{TermTree, variable, integer, constructed, application, summation, product, aggregate}
use Rattle.kb_logic.specs.Trees.{SummandTrees, more_summands, no_summands}
use Rattle.kb_logic.proofs.Atoms.{tuple_elements}
use Rattle.kb_logic.proofs.Members.{in_all}
use Rattle.term_values.specs.RowArithmetic.{RowsFit}
use Rattle.def_ground.specs.Rules.{IsHeadTerm}
use Rattle.def_ground.proofs.TypedForms.{ground-form}
use Rattle.ground_walk.specs.Groundable.{IsGroundable}
use Rattle.ground_walk.proofs.BoundedRows.{small-rows-fit}
use Rattle.ground_walk.proofs.GroundableLaws.{groundable}
use Rattle.definition_walk.specs.Steps.{IsPlainTerm}
use Rattle.definition_walk.specs.WalkLaws.{TypedCanBeGround}

module _ (v : Vocabulary) (domains : List (List Elem)) (scope : List ℕ) where
  plain-term : (t : TermTree) → IsHeadTerm t → TermIsBounded v domains t scope → IsPlainTerm t
  plain-term (variable n) h k = record { head = h; fits = λ b e. tt }
  plain-term (integer z) h k = record { head = h; fits = λ b e. tt }
  plain-term (constructed ty n) h k = record { head = h; fits = λ b e. tt }
  plain-term (application s ts) h k = absurd h
  plain-term (summation ss) h k =
      let bounded = subst (λ (us : SummandTrees). TermIsBounded v domains (summation us) scope) h.1 k in
      record {
        head = h;
        fits = λ b e. subst (λ (us : SummandTrees). RowsFit b (summation us) e) (sym h.1)
            (small-rows-fit b (summation (more_summands true (integer h.0) no_summands)) [] [] tt (tt, tt) bounded);
      }
  plain-term (product ts) h k = absurd h
  plain-term (aggregate a bs f t) h k = absurd h

  plain-terms : (ts : List TermTree) → AllByRecursion IsHeadTerm ts
      → AllByRecursion (λ t. TermIsBounded v domains t scope) ts → AllByRecursion IsPlainTerm ts
  plain-terms [] h k = tt
  plain-terms (t ∷ ts) h k = (plain-term t h.0 k.0, plain-terms ts h.1 k.1)

  plain-value : (o : Option TermTree) → IfSome o IsHeadTerm → IfSome o (λ t. TermIsBounded v domains t scope)
      → IfSome o IsPlainTerm
  plain-value None h k = tt
  plain-value (Some t) h k = plain-term t h k

pub typed-can-be-ground : TypedCanBeGround
typed-can-be-ground b r given typed bounded = record {
  head = record {
    args = plain-terms b.vocabulary b.domains (types_of r.vars) r.args typed.args bounded.args;
    value = plain-value b.vocabulary b.domains (types_of r.vars) r.value typed.value bounded.value;
    kind = typed.kind;
  };
  body =
      in_all (IsGroundable b r.body) (choices b.domains r.vars)
      (λ e c. let types = tuple_elements b.domains (types_of r.vars) e c in
      groundable b r.body (types_of r.vars) e types
      (ground-form b given r.body (types_of r.vars) e types typed.typed typed.placed) bounded.body);
}
