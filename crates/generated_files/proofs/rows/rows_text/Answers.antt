use Rattle.std.proofs.Common.{◌∙◌, ap, codes, map}
use Rattle.std.proofs.lemmas.List.{take_all}
use Rattle.std.proofs.lemmas.Result.{IfOk-weaker}
use Rattle.std.specs.String.{string_bytes}
use Rattle.generated_files.specs.Texts.{row_text}
use Rattle.generated_files.proofs.Numbers.{same_joined}
use Rattle.generated_files.proofs.rows.rows_text.Goals as goal

pub returns : goal.returns
returns c =
    let whole = take_all c.loop-first.first-index c.args.firsts.now c.loop-first-test.false in
    IfOk-weaker c.join.result _ _ (λ text joined. joined
    ∙ same_joined string_bytes row_text (codes "; ") c.as_slice.result.now c.args.firsts.now
    (ap (map string_bytes) c.as_slice.ensures.value ∙ c.loop-first.invariant ∙ ap (map row_text) whole))
    c.join.ensures.ok
