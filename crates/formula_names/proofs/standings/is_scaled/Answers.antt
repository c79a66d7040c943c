use Rattle.std.proofs.Common.{◌≡◌, ◌∙◌, map, refl, sym}
use Rattle.grammar.specs.View.{product_tail_view}
use Rattle.grammar.specs.declared.raw.RawProduct.{out-RawProduct}
use Rattle.formula_names.proofs.Scaled.{others_of, scaled_raw}
use Rattle.formula_names.proofs.standings.is_scaled.Goals as goal

pub returns-then-is_signed_integer : goal.returns-then-is_signed_integer
returns-then-is_signed_integer c =
    let all : c.others-others.result ≡ others_of (map product_tail_view (out-RawProduct c.args.raw.now).more) =
    rw c.as_slice.ensures at c.others-others.ensures.counted in
    rw (scaled_raw c.args.raw.now, sym c.is_signed_integer.ensures ∙ c.if-is_signed_integer.true, all) refl

pub returns-else-is_signed_integer : goal.returns-else-is_signed_integer
returns-else-is_signed_integer c =
    let all : c.others-others.result ≡ others_of (map product_tail_view (out-RawProduct c.args.raw.now).more) =
    rw c.as_slice.ensures at c.others-others.ensures.counted in
    rw (scaled_raw c.args.raw.now, sym c.is_signed_integer.ensures ∙ c.if-is_signed_integer.false, all) refl
