use Rattle.std.proofs.Common.{List, All, sym, subst}
use Rattle.lit_core.specs.declared.literals.Lit.{Lit}
use Rattle.consequences.specs.Forced.{IsSeen}
use Rattle.task_cases.proofs.asking.ask_forced.Goals as goal

pub forced-requires-clause-seen : goal.forced-requires-clause-seen
forced-requires-clause-seen g c =
    subst (λ (ls : List Lit). All (IsSeen (g.S.Solve.state c.args.solver.now).problem ls) c.args.seen.now)
    (sym c.as_slice.ensures.value) c.requires.seen
