use Rattle.std.proofs.Common.{◌∙◌, sym}
use Rattle.quantifier_bounds.proofs.Values.{values_none, values_one, values_many}
use Rattle.quantifier_bounds.proofs.functions.function_must.Goals as goal

pub returns-in-None : goal.returns-in-None
returns-in-None c =
    values_none c.args.known.now c.args.symbol c.args.args.now c.args.values.now
    (sym c.in_ok-values_left.ensures ∙ c.in-None.is)

pub returns-in-One : goal.returns-in-One
returns-in-One c =
    values_one c.args.known.now c.args.symbol c.args.args.now c.args.values.now c.lone_value.new.known
    c.lone_value.result (sym c.in_ok-values_left.ensures ∙ c.in-One.is) c.lone_value.ensures

pub returns-in-Many : goal.returns-in-Many
returns-in-Many c =
    values_many c.args.known.now c.args.symbol c.args.args.now c.args.values.now
    (sym c.in_ok-values_left.ensures ∙ c.in-Many.is)
