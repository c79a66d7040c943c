use Rattle.std.proofs.Common.{◌≡◌, ◌↔◌, ◌+◌, IsNone, Option, None, All, take, ◌++◌, ◌∷◌, [], refl, sym, ap, ◌∙◌, subst}
use Rattle.std.proofs.lemmas.List.{take_all, take_more}
use Rattle.std.proofs.lemmas.List.Elements.{All-push}
use Rattle.ground_core.specs.declared.parts.AggCon.{AggCon}
use Rattle.ground_core.specs.Intervals.{IsQuiet}
use Rattle.aggregate_propagators.specs.Implied.{assigned}
use Rattle.sum_ledger.proofs.scan.first_implied.Goals as goal

from-none : {X : Type 0} (Q : Type 0) (o : Option X) → o ≡ None → IsNone o ↔ Q → Q
from-none Q o e h = h.0 (subst IsNone (sym e) refl)

pub loop-place-preserved : goal.loop-place-preserved
loop-place-preserved c =
    let Q : AggCon → Type 0 = IsQuiet (assigned c.args.values.now) in
    let s : AggCon = c.index-sums-place.result in
    let i = c.loop-place.place in
    let quiet : Q s = from-none (Q s) c.in_ok-clause.field-0 c.in-None.is c.in_ok-clause.ensures.none in
    let more : take (i + 1) c.args.sums.now ≡ take i c.args.sums.now ++ s ∷ [] = take_more c.args.sums.now i s
    c.loop-place-test.true ∙ ap (λ (x : AggCon). take i c.args.sums.now ++ x ∷ []) (sym c.index-sums-place.is) in
    subst (All Q) (sym more) (All-push Q (take i c.args.sums.now) s c.loop-place.invariant quiet)

pub returns-clause-quiet : goal.returns-clause-quiet
returns-clause-quiet c = subst (All (IsQuiet (assigned c.args.values.now)))
    (take_all c.loop-place.place c.args.sums.now c.loop-place-test.false) c.loop-place.invariant
