use Rattle.formula_names.proofs.Bindings.{bound_at, bound_nowhere}
use Rattle.formula_names.proofs.scopes.is_bound_from.Goals as goal

pub returns-in-Some : goal.returns-in-Some
returns-in-Some c = bound_at c.args.name.now c.args.outer _ c.args.scope.now c.in-Some.ensures

pub returns-in-None : goal.returns-in-None
returns-in-None c = bound_nowhere c.args.name.now c.args.outer c.args.scope.now c.in-None.ensures
