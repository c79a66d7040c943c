use Rattle.std.proofs.Common.{[], map, sym, subst}
use Rattle.std.proofs.lemmas.List.{append-nil, drop_all}
use Rattle.kb_logic.specs.Trees.{terms_of}
use Rattle.kb_logic.specs.Views.{term_view}
use Rattle.row_ranges.specs.Keys.{HaveSteps}
use Rattle.row_ranges.proofs.steps.variable_steps.Goals as goal

pub returns : goal.returns
returns c =
    let ts = terms_of (map term_view c.args.args.now) in
    let own = c.args.own.now in
    let types = c.args.types.now in
    subst (HaveSteps types own ts 0 c.args.bounds.now) (append-nil c.loop-n.steps.items)
    (c.loop-n.invariant []
    (subst (λ bs. HaveSteps types own ts c.loop-n.n bs [])
    (sym (drop_all c.loop-n.n c.args.bounds.now c.loop-n-test.false)) tt))
