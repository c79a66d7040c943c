use Rattle.std.proofs.Common.{map, None, option_map}
use Rattle.kb_logic.specs.Trees.{terms_of}
use Rattle.kb_logic.specs.Views.{term_view}
use Rattle.plain_evaluation.specs.Environments.{env_view}
use Rattle.partial_structures.specs.KnownAtoms.{atom_of}
use Rattle.quantifier_bounds.proofs.Naming.{gives_has}
use Rattle.quantifier_bounds.proofs.leaves.atom_must.Goals as goal

pub returns : goal.returns
returns c =
    gives_has c.args.known.now c.args.symbol (terms_of (map term_view c.args.args.now)) None (env_view c.args.env.now)
    c.args.v (option_map atom_of c.in_ok-atom.atom) c.give.new.known c.give.result c.in_ok-atom.ensures c.give.ensures
