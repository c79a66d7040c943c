-- What admits the literals of choices is a model under them.
use Rattle.std.proofs.Common.{◌≡◌, ◌∙◌, ℕ, Bool, true, false, not, List, [], ◌∷◌, ◌++◌, length}
use Rattle.std.proofs.Common.{refl, sym, ap, arith}
use Rattle.std.proofs.lemmas.List.Elements.{All-nil, All-head}
use Rattle.std.proofs.lemmas.Option.{slice_get_within}
use Rattle.kb_logic.specs.declared.elements.ExtInt.{ExtInt}
use Rattle.kb_logic.specs.declared.structures.Literal.{Literal}
use Rattle.kb_logic.specs.declared.structures.Structure.{Structure}
use Rattle.kb_logic.specs.Answers.{IsLeast}
use Rattle.kb_logic.specs.Bases.{Base, IsModelUnder}
use Rattle.kb_logic.specs.Denotations.{Denotation, denotation_of_bound, lower_value}
use Rattle.kb_logic.specs.InForce.{InForce, Forces, HasNoModel}
use Rattle.kb_logic.specs.Structures.{EachWith}
use Rattle.lit_core.specs.declared.literals.Lit.{Lit}
use Rattle.lit_core.specs.Literals.{literal_value, negated}
use Rattle.lit_core.proofs.Soundness.{value-negated}
use Rattle.ground_core.specs.Meaning.{BoundHolds, Satisfies, AreAllFalse}
use Rattle.ground_core.specs.Problems.{ProblemState}
use Rattle.ground_core.proofs.Fronts.{All-front, All-back}
use Rattle.ground_core.proofs.Whole.{satisfies-by-clauses}
use Rattle.term_values.specs.GroundBases.{structure_of}
use Rattle.term_values.specs.KnownBases.{IsGroundBase}
use Rattle.def_ground.specs.Groundings.{IsGroundingOf, HasNoBounds}
use Rattle.atom_numbers.specs.Numbers.{HasNumber}
use Rattle.atom_numbers.proofs.LiteralFacts.{all-chosen, holds-true}
use Rattle.log_checker.specs.Growing.{Checking}
use Rattle.ground_task.specs.Tasks.{atom_base}
use Rattle.log_checker.specs.Cases.{Admits, IsRefuted}
use Rattle.derived_claims.specs.Following.{IsLeastUnder}

-- the problem without its sums and bounds
abbrev bare : ProblemState → ProblemState
bare p = record {
  atoms = p.atoms;
  vars = p.vars;
  gates = p.gates;
  clauses = p.clauses;
  sums = [];
  terms = p.terms;
  bounds = [];
  retired = p.retired;
}

-- what is admitted satisfies a problem without bounds
satisfied : (c : Checking) → HasNoBounds c.problem → (lits : List Lit) (v : ℕ → Bool) → Admits c lits v
    → Satisfies c.problem v
satisfied c none lits v a =
    let off : AreAllFalse v c.problem.retired = rw none.retired (All-nil (λ l. literal_value v l ≡ false)) in
    let s = satisfies-by-clauses (bare c.problem) v refl refl a.clauses off in record {
      gates = s.gates;
      clauses = s.clauses;
      sums = a.sums;
      bounds = rw none.bounds (All-nil (BoundHolds v c.problem.terms));
      retired = off;
    }

-- and fewer literals, too
admits-front : (c : Checking) (lits more : List Lit) (v : ℕ → Bool) → Admits c (lits ++ more) v → Admits c lits v
admits-front c lits more v a = record {
  clauses = a.clauses;
  sums = a.sums;
  bounds = a.bounds;
  trues = All-front (λ l. literal_value v l ≡ true) lits more a.trues;
}

module _ (base : Base) (c : Checking) (g : IsGroundingOf base c.problem) (none : HasNoBounds c.problem)
    (fine : IsGroundBase (atom_base base)) (choices : List Literal) (lits : List Lit)
    (each : EachWith (HasNumber (atom_base base)) choices lits) where
  abbrev structure : (ℕ → Bool) → Structure
  structure v = structure_of (atom_base base) v

  model : (v : ℕ → Bool) → Admits c lits v → IsModelUnder base choices (structure v)
  model v a =
      let m = g.gives v (satisfied c none lits v a) in record {
        structure = m.structure;
        extends = m.extends;
        theory = m.theory;
        chosen = all-chosen (atom_base base) fine v choices lits each a.trues;
      }

  abbrev force : InForce
  force = record { choices = choices }

  pub none-admits : HasNoModel base force → IsRefuted c lits
  none-admits never v a = never (structure v) (model v a)

  pub none-admits-negation : (l : Literal) (lit : Lit) → HasNumber (atom_base base) l lit → Forces base force l
      → IsRefuted c (lits ++ negated lit ∷ [])
  none-admits-negation l lit number forces v a =
      let front = admits-front c lits (negated lit ∷ []) v a in
      let holds = holds-true (atom_base base) fine v l lit number (forces (structure v) (model v front)) in
      let denied = All-head (λ k. literal_value v k ≡ true) (negated lit) []
      (All-back (λ k. literal_value v k ≡ true) lits (negated lit ∷ []) a.trues) in
      let c : true ≡ not true = sym denied ∙ value-negated v lit ∙ ap not holds in cc

  pub none-is-lower : (t : ℕ) (value : ExtInt) (m : Structure) → IsLeast base force t value m
      → IsLeastUnder c lits t value
  none-is-lower t value m is = record {
    there = let number : length c.problem.terms ≡ length base.terms = g.number in
        omega (arith, number, slice_get_within base.terms t is.term is.named);
    least = λ v a.
        ap (λ (d : Denotation). lower_value d (denotation_of_bound value))
        (g.terms t is.term is.named v (satisfied c none lits v a))
        ∙ is.least (structure v) (model v a);
  }
