use Rattle.std.proofs.Common.{◌++◌, List, ap, sym, ◌∙◌}
use Rattle.std.proofs.lemmas.List.{append-nil}
use Rattle.kb_logic.specs.declared.structures.Literal.{Literal}
use Rattle.ground_core.proofs.AtomFacts.{no-atoms}
use Rattle.ground_core.proofs.atoms.push_symbol.Goals as goal

pub returns-then-has_no_value : goal.returns-then-has_no_value
returns-then-has_no_value c =
    let none = c.has_no_value.ensures c.if-has_no_value.true in
    sym (ap (λ (l : List Literal). c.args.atoms.now.items ++ l)
    (no-atoms c.args.domains.now c.args.number c.args.symbol.now none.0 none.1) ∙ append-nil c.args.atoms.now.items)
