use Rattle.std.proofs.Common.{◌≡◌, ◌++◌, ◌∙◌, true, refl, ap, rules}
use Rattle.data_clashes.specs.RunViews.{cells_against}
use Rattle.data_clashes.proofs.RunFacts.{added_by}
use Rattle.data_clashes.proofs.runs.Runs.push_only.Goals as goal

pub returns-then-is_alike : goal.returns-then-is_alike
returns-then-is_alike c = λ s h.
    let t : c.is_alike.result ≡ true = search rules in
    let same = c.is_alike.ensures t in
    c.in_ok-push_cell.ensures s h
    ∙ ap (λ cs. cells_against s h c.args.self.now ++ cs) (added_by s h c.args.fact.now _ _ _ c.args.cell same.0 same.1
    same.2 c.requires)

pub returns : goal.returns
returns c = λ s h.
    c.in_ok-begin.ensures s h
    ∙ ap (λ cs. cells_against s h c.args.self.now ++ cs) (added_by s h c.args.fact.now _ _ _ c.args.cell refl refl
    refl c.requires)
