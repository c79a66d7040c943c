use Rattle.std.proofs.Common.{◌≡◌, ◌<◌, ◌+◌, ◌++◌, ◌∷◌, [], List, length, take, get_or, sym, ap, ◌∙◌, subst, rules}
use Rattle.std.proofs.lemmas.List.{take_more}
use Rattle.lit_core.specs.declared.literals.Lit.{Lit}
use Rattle.search_decisions.specs.Scores.{Raises}
use Rattle.search_decisions.proofs.ScoreFacts.{raises-more}
use Rattle.search_decisions.proofs.scores.Scores.raise.Goals as goal

pub loop-lit-preserved : goal.loop-lit-preserved
loop-lit-preserved c =
    let lt : c.loop-lit.lit-index < length c.args.lits.now = search rules in
    let d : Lit = c.lit-item.result in
    let a : Lit = get_or c.args.lits.now c.loop-lit.lit-index d in
    let next : take (c.loop-lit.lit-index + 1) c.args.lits.now ≡ take c.loop-lit.lit-index c.args.lits.now ++ a ∷ [] =
    take_more c.args.lits.now c.loop-lit.lit-index d lt in
    subst (λ (xs : List Lit). Raises xs c.args.self.now.scores.items c.raise_one.new.self.scores.items) (sym next)
    (raises-more (take c.loop-lit.lit-index c.args.lits.now) a c.args.self.now.scores.items c.loop-lit.self.scores.items
    c.raise_one.new.self.scores.items c.loop-lit.invariant (c.raise_one.ensures.raises a (ap (λ (l : Lit). l.var.0)
    (sym (c.lit.ensures.value ∙ c.lit-item.is)))))
