use Rattle.std.proofs.Common.{Bool, [], if◌then◌else◌, sym, ap, ◌∙◌, length}
use Rattle.def_ground.specs.Problems.{function_says, one_of_clauses, one_of_sums, saying}
use Rattle.ground_walk.proofs.StartSteps.{saying-none}
use Rattle.ground_walk.proofs.starts.push_symbol.Goals as goal

pub returns-else-is_function : goal.returns-else-is_function
returns-else-is_function c =
    let p = c.args.problem.now in
    let b = c.args.base.now in
    let s = c.args.symbol in
    saying-none p
    ∙ sym
    (ap (λ (t : Bool). saying p (if t then function_says (one_of_clauses (length b.known)) b s else [])
    (if t then function_says (one_of_sums (length b.known)) b s else [])) c.if-is_function.false)
