use Rattle.std.proofs.Common.{◌∷◌, ap, ◌∙◌}
use Rattle.std.proofs.lemmas.Result.{on_ok_weaker}
use Rattle.definition_walk.proofs.BodyFacts.{join-made}
use Rattle.definition_walk.proofs.atoms.push_join.Goals as goal

pub returns : goal.returns
returns c =
    on_ok_weaker c.add_clause_of.result (λ made. made ∙ join-made c.args.problem.now c.push_each.new.problem c.args.lit
    c.args.lits.now c.as_slice.result.now c.in_ok-push_each.ensures
    (c.as_slice.ensures.value ∙ c.in_ok-clause.ensures ∙ ap (λ l. l ∷ c.args.lits.now) c.negated.ensures))
    c.add_clause_of.ensures.ok
