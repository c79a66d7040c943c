use Rattle.std.proofs.Common.{◌≡◌, ◌∷◌, ◌∙◌, ap, map, sym}
use Rattle.std.proofs.lemmas.Result.{IfOk-weaker}
use Rattle.kb_logic.specs.Bounds.{Interval}
use Rattle.data_domains.specs.Sets.{interval_view, runs_in}
use Rattle.size_stage.specs.Ranges.{interval}
use Rattle.size_stage.proofs.Counting.{none_mapped}
use Rattle.size_stage.proofs.Reaching.{no_integers, some_integers}
use Rattle.size_stage.proofs.type_sizes.range_in.Goals as goal

pub returns-in_default : goal.returns-in_default
returns-in_default c = λ cells h.
    no_integers cells c.args.elements.now h (ap (map interval_view) (sym c.deref.ensures.value)
    ∙ none_mapped interval_view c.deref.result.now c.in_default.ensures.cases)

pub returns : goal.returns
returns c =
    let first = interval_view c.in-Some.first.now in
    let more = map interval_view c.in-Some.more.now in
    let runs : runs_in c.args.elements.now ≡ first ∷ more =
    ap (map interval_view) (sym c.deref.ensures.value ∙ c.in-Some.ensures.cases.0) in
    IfOk-weaker c.from_to.result _ _ (λ r e cells h.
    e ∙ ap (λ (i : Interval). interval first.low i.high) c.last_of.ensures
    ∙ some_integers cells c.args.elements.now first more h runs) c.from_to.ensures
