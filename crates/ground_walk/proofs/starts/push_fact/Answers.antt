use Rattle.std.proofs.Common.{Bool, Option, sym, ap, ◌∙◌}
use Rattle.def_ground.specs.Cases.{with_clauses}
use Rattle.def_ground.specs.Problems.{fact_clause}
use Rattle.def_ground.proofs.WithClauses.{with_none}
use Rattle.ground_walk.proofs.starts.push_fact.Goals as goal

pub returns-in-None : goal.returns-in-None
returns-in-None c =
    let p = c.args.problem.now in
    sym (ap (λ (o : Option Bool). with_clauses p (fact_clause c.args.var o)) c.in-None.is ∙ with_none p)
