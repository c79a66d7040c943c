use Rattle.std.proofs.Common.{◌≡◌, ℕ, Bool, List, length, ap, ◌∙◌, subst, refl}
use Rattle.std.proofs.lemmas.Result.{IfOk-weaker}
use Rattle.lit_core.specs.Literals.{valuation}
use Rattle.kb_logic.specs.declared.elements.Elem.{Elem}
use Rattle.kb_logic.specs.declared.structures.Structure.{Structure}
use Rattle.kb_logic.specs.declared.vocabularies.Symbol.{Symbol}
use Rattle.term_values.specs.GroundBases.{GroundBase, structure_of}
use Rattle.atom_numbers.specs.Numbers.{bare_base}
use Rattle.atom_numbers.specs.Tables.{relation_tables, function_tables}
use Rattle.atom_numbers.proofs.TableFacts.{structure-made}
use Rattle.atom_numbers.proofs.numbers.AtomNumbers.structure_of.Goals as goal

pub returns : goal.returns
returns c =
    let v : ℕ → Bool = valuation c.args.values.now in
    let ds : List (List Elem) = c.self.inside.domains.value in
    let b : GroundBase = bare_base c.self.inside.vocabulary ds in
    let made : Structure = record {
      domains = ds;
      relations = c.in_ok-relations.relations;
      functions =
          c.in_ok-functions.functions;
    } in
    let is : made ≡ structure_of b v =
    structure-made b v c.self.invariant.fine ds c.in_ok-relations.relations c.in_ok-functions.functions refl
    (c.in_ok-relations.ensures ∙ ap (λ (xs : List (List Elem)). relation_tables xs c.as_slice-symbols.result.now v
    (length c.as_slice-symbols.result.now)) c.lists-domains.ensures
    ∙ ap (λ (ss : List Symbol). relation_tables ds ss v (length ss)) c.as_slice-symbols.ensures)
    (c.in_ok-functions.ensures ∙ ap (λ (xs : List (List Elem)). function_tables xs c.as_slice-symbols.result.now v
    (length c.as_slice-symbols.result.now)) c.lists-domains.ensures
    ∙ ap (λ (ss : List Symbol). function_tables ds ss v (length ss)) c.as_slice-symbols.ensures) in
    IfOk-weaker c.over.result _ _ (λ m same.
    same ∙ subst (λ (base : GroundBase). made ≡ structure_of base v) c.self.view_is is) c.over.ensures
