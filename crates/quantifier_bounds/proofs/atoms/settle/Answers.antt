use Rattle.partial_structures.specs.KnownAtoms.{atom_of}
use Rattle.quantifier_bounds.proofs.Made.{settled_yes, settled_no}
use Rattle.std.proofs.Common.{sym, ◌∙◌}
use Rattle.quantifier_bounds.proofs.atoms.settle.Goals as goal

pub returns-in-Yes : goal.returns-in-Yes
returns-in-Yes c = settled_yes c.args.known.now (atom_of c.args.atom.now) c.args.v c.constant.result
    (sym c.value.ensures ∙ c.in-Yes.is) c.constant.ensures

pub returns-in-No : goal.returns-in-No
returns-in-No c = settled_no c.args.known.now (atom_of c.args.atom.now) c.args.v c.constant-in-No.result
    (sym c.value.ensures ∙ c.in-No.is) c.constant-in-No.ensures
