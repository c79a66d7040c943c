use Rattle.std.proofs.Common.{sym, subst}
use Rattle.std.specs.List.{AllByRecursion}
use Rattle.kb_logic.specs.Structures.{choices}
use Rattle.kb_logic.specs.Views.{rule_view}
use Rattle.plain_evaluation.proofs.Envs.{env_view-Given}
use Rattle.partial_structures.specs.KnownAtoms.{atom_of}
use Rattle.quantifier_bounds.specs.Fits.{InstanceFits}
use Rattle.quantifier_bounds.proofs.Told.{told_other}
use Rattle.quantifier_bounds.proofs.derivation.told_more.Goals as goal

pub returns-then-asked : goal.returns-then-asked
returns-then-asked c =
    sym (told_other c.args.known.now (atom_of c.args.asked.atom.now) c.args.before (rule_view c.args.asked.rule.now)
    c.if-asked.true)

pub instances-requires-clause-fits : goal.instances-requires-clause-fits
instances-requires-clause-fits c =
    let k = c.args.known.now in
    let r = rule_view c.args.asked.rule.now in
    rw env_view-Given (subst (λ bs. AllByRecursion (InstanceFits k.symbols k.domains r) (choices k.domains bs))
    (sym c.as_slice-bounds.ensures) c.requires.instances)
