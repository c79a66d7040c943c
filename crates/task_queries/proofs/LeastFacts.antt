-- What a least value in all valuations says of models.
use Rattle.std.proofs.Common.{◌≡◌, ℕ, ◌<◌, Bool, false, Some, List, [], length, slice_get, sym, ap, ◌∙◌, subst, arith}
use Rattle.std.proofs.Common.{⊎_elim}
use Rattle.std.proofs.lemmas.Option.{slice_get_cases}
use Rattle.kb_logic.specs.declared.structures.Literal.{Literal}
use Rattle.kb_logic.specs.declared.structures.Structure.{Structure}
use Rattle.kb_logic.specs.Bases.{Base, NamedTerm}
use Rattle.kb_logic.specs.Denotations.{Denotation, denotation_of_bound, lower_value}
use Rattle.kb_logic.specs.Meaning.{value_of}
use Rattle.kb_logic.specs.Answers.{IsLeast}
use Rattle.kb_logic.specs.Structures.{EachWith}
use Rattle.lit_core.specs.declared.literals.Lit.{Lit}
use Rattle.lit_core.specs.Literals.{valuation}
use Rattle.ground_core.specs.declared.parts.TermBound.{TermBound}
use Rattle.ground_core.specs.Problems.{ProblemState}
use Rattle.ground_core.specs.Meaning.{Satisfies}
use Rattle.ground_core.specs.Growing.{value_at}
use Rattle.term_values.specs.GroundBases.{GroundBase, structure_of}
use Rattle.atom_numbers.specs.Numbers.{HasNumber}
use Rattle.model_minimiser.specs.declared.minimum.Minimum.{Minimum}
use Rattle.model_minimiser.specs.Minima as minima
use Rattle.ground_task.specs.Tasks.{IsTaskOf}
use Rattle.ground_task.proofs.TaskFacts.{is-model, valued}
use Rattle.task_queries.specs.Queries.{under}

module _ (base : Base) (b : GroundBase) (p : ProblemState) (h : IsTaskOf base b p) where
  -- the term has its value in the structure
  term-value : (n : ℕ) (t : NamedTerm) → slice_get base.terms n ≡ Some t → (v : ℕ → Bool) → Satisfies p v
      → value_of (structure_of b v) t.term [] ≡ value_at p n v
  term-value n t is v s = ap (λ (x : GroundBase). value_of (structure_of x v) t.term []) h.numbers
      ∙ sym (h.represents.terms n t is v s)

  module _ (choices : List Literal) (lits : List Lit) (each : EachWith (HasNumber b) choices lits) (n : ℕ)
      (cores : List (List Lit)) (bounds : List TermBound) (m : Minimum) (found : minima.IsLeast p lits n cores bounds m)
    where
      of-term : (t : NamedTerm) → slice_get base.terms n ≡ Some t
          → IsLeast base (under choices) n m.value (structure_of b (valuation m.values))
      of-term t is = record {
        term = t;
        named = is;
        model = is-model base b p h choices lits each (valuation m.values) found.satisfies found.assumes;
        attained = term-value n t is (valuation m.values) found.satisfies ∙ found.attained;
        least = λ o model.
            let e = valued base b p h choices lits each o model in
            let same : value_at p n e.0 ≡ value_of o t.term [] =
            sym (term-value n t is e.0 e.1) ∙ ap (λ (x : Structure). value_of x t.term []) e.3 in
            subst (λ (d : Denotation). lower_value d (denotation_of_bound m.value) ≡ false) same
            (found.lowest e.0 e.1 e.2);
      }

      pub is-least : n < length p.terms → IsLeast base (under choices) n m.value (structure_of b (valuation m.values))
      is-least lt =
          let number : length p.terms ≡ length base.terms = h.represents.number in
          ⊎_elim (λ c. of-term c.0 c.2) (λ c. absurd (omega (arith, lt, c.0, number))) (slice_get_cases base.terms n).1
