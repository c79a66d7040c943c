use Rattle.std.proofs.Common.{◌<◌, ◌∙◌, arith, length, sym}
use Rattle.std.proofs.lemmas.Grind.{common_steps}
use Rattle.grammar.specs.declared.raw.RawProduct.{out-RawProduct}
use Rattle.formula_names.proofs.Scaled.{factors_raw}
use Rattle.formula_names.proofs.standings.factors_stand.Goals as goal

pub returns-then-is_scaled : goal.returns-then-is_scaled
returns-then-is_scaled c =
    let some : 0 < length (out-RawProduct c.args.raw.now).more = grind (arith, common_steps) in
    rw (factors_raw c.args.standing c.args.raw.now some, sym c.is_scaled.ensures ∙ c.if-is_scaled.true) c.scaled.ensures
