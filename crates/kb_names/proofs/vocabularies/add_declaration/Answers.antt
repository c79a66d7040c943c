use Rattle.formula_names.specs.Meanings.{names_in}
use Rattle.formula_names.proofs.ChainEnds.{on_ok_map}
use Rattle.kb_names.proofs.vocabularies.add_declaration.Goals as goal

pub returns-in-Constructed-clause-types : goal.returns-in-Constructed-clause-types
returns-in-Constructed-clause-types c =
    rw c.in-Constructed.is (on_ok_map c.constructed_type.result _ _ c.constructed_type.ensures.types
    (λ all. all (names_in c.args.table.now)))

pub returns-in-Constructed-clause-noted : goal.returns-in-Constructed-clause-noted
returns-in-Constructed-clause-noted c =
    rw c.in-Constructed.is (on_ok_map c.constructed_type.result _ _ c.constructed_type.ensures.noted
    (λ all. all (names_in c.args.table.now)))
