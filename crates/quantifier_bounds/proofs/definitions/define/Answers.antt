use Rattle.std.proofs.Common.{map, sym, ◌∙◌}
use Rattle.kb_logic.specs.Views.{rule_view}
use Rattle.partial_structures.specs.KnownAtoms.{atom_of}
use Rattle.quantifier_bounds.specs.Rules.{definition_of}
use Rattle.quantifier_bounds.proofs.Defined.{plain_heads}
use Rattle.quantifier_bounds.proofs.Told.{derives_yes, derives_no, derives_open}
use Rattle.quantifier_bounds.proofs.definitions.define.Goals as goal

pub returns-in-Yes : goal.returns-in-Yes
returns-in-Yes c =
    let k = c.args.known.now in
    derives_yes k (definition_of c.args.defining.rules.now) (atom_of c.args.atom.now)
    (plain_heads k.symbols k.domains (map rule_view c.args.defining.rules.now) c.requires.fits) c.settle.new.known
    c.settle.result
    (sym c.derived.ensures ∙ c.in-Yes.is) c.settle.ensures

pub returns-in-No : goal.returns-in-No
returns-in-No c =
    let k = c.args.known.now in
    derives_no k (definition_of c.args.defining.rules.now) (atom_of c.args.atom.now)
    (plain_heads k.symbols k.domains (map rule_view c.args.defining.rules.now) c.requires.fits) c.settle-in-No.new.known
    c.settle-in-No.result (sym c.derived.ensures ∙ c.in-No.is) c.settle-in-No.ensures

pub returns-in-Unknown : goal.returns-in-Unknown
returns-in-Unknown c =
    let k = c.args.known.now in
    derives_open k (definition_of c.args.defining.rules.now) (atom_of c.args.atom.now)
    (plain_heads k.symbols k.domains (map rule_view c.args.defining.rules.now) c.requires.fits)
    (sym c.derived.ensures ∙ c.in-Unknown.is)
