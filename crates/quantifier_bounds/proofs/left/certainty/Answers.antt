use Rattle.std.proofs.Common.{refl}
use Rattle.kb_logic.specs.Views.{formula_view}
use Rattle.plain_evaluation.specs.Environments.{env_view}
use Rattle.quantifier_bounds.proofs.Lasts.{fits_now}
use Rattle.quantifier_bounds.proofs.left.certainty.Goals as goal

pub certain_formula-requires : goal.certain_formula-requires
certain_formula-requires c =
    fits_now c.args.known.now.symbols c.args.known.now.domains c.args.known.now c.consistency.ensures.consistent refl
    refl
    (formula_view c.args.formula.now) (env_view c.args.env.now) c.requires
