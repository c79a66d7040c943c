use Rattle.std.proofs.Common.{◌≡◌, pos, map, drop}
use Rattle.kb_logic.specs.Arithmetic.{ProductFits}
use Rattle.kb_logic.specs.Meaning.{product_from}
use Rattle.term_values.specs.RowValues.{row_value}
use Rattle.term_values.proofs.arithmetic.product.Given as goal

abbrev pub invariant-loop-factor : goal.invariant-loop-factor
invariant-loop-factor l = record {
  same : product_from l.total (map row_value (drop l.factor-index l.values))
      ≡ product_from (pos 1) (map row_value l.values);
  fits : ProductFits l.total (map row_value (drop l.factor-index l.values));
}
