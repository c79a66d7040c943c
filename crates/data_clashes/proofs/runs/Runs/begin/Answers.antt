use Rattle.std.proofs.Common.{◌∙◌, ◌++◌, ◌∷◌, [], ap}
use Rattle.data_clashes.specs.RunViews.{cells_against}
use Rattle.data_clashes.specs.declared.runs.Run.{Run}
use Rattle.data_clashes.proofs.RunFacts.{begins, run_over}
use Rattle.data_clashes.proofs.runs.Runs.begin.Goals as goal

pub returns : goal.returns
returns c = λ s h.
    let old = c.args.self.now.over.items in
    let next = c.replace-over.new.dest in
    let put = c.replace-over.ensures.after in
    run_over s h old c.push.new.self.items c.args.self.now.last next c.args.cell
    (c.in_ok-push.ensures.items ∙ ap (λ (r : Run). old ++ r ∷ []) c.replace-over.ensures.value)
    (ap (λ (r : Run). r.cells.items) put ∙ c.in_ok-cells.ensures)
    ∙ ap (λ cs. cells_against s h c.args.self.now ++ cs)
    (begins s h next c.args.fact.now c.args.cell (ap (λ (r : Run). r.symbol) put) (ap (λ (r : Run). r.holds) put)
    (ap (λ (r : Run). r.valued) put ∙ c.is_some.ensures))
