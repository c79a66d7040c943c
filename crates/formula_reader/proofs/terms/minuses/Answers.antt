use Rattle.std.proofs.Common.{◌∙◌, List, ap, sym, refl, arith}
use Rattle.grammar.specs.Terminals.{Tok, toks}
use Rattle.formula_reader.specs.Results.{put_minuses}
use Rattle.formula_reader.proofs.InFactors.{minuses_push}
use Rattle.formula_reader.proofs.terms.minuses.Goals as goal

pub loop-place-init : goal.loop-place-init
loop-place-init c = rw c.start-count.ensures.same (record { shorter = omega arith; so_far = refl })

pub loop-place-preserved : goal.loop-place-preserved
loop-place-preserved c =
    let l = c.loop-place.invariant in
    record {
      shorter = omega (arith, c.in-Some.ensures.shorter, l.shorter);
      so_far = rw c.in_ok-push.ensures.ok (l.so_far ∙ ap (λ (v : List Tok). put_minuses c.loop-place.signs v)
          c.in-Some.ensures.some ∙ sym (minuses_push c.loop-place.signs c.in-Some.place (toks c.in-Some.after.now)));
    }
