use Rattle.std.proofs.Common.{List, sym, ap, ◌∙◌, subst}
use Rattle.kb_logic.specs.declared.elements.Elem.{Elem}
use Rattle.kb_logic.specs.Domains.{AreDomainsOf}
use Rattle.term_values.proofs.TypedLaws.{domains-ground}
use Rattle.atom_numbers.specs.Numbers.{bare_base}
use Rattle.ground_task.proofs.TaskFacts.{opened}
use Rattle.ground_task.proofs.task.Task.open.Goals as goal

pub of-requires-clause-fine : goal.of-requires-clause-fine
of-requires-clause-fine g c =
    domains-ground (bare_base c.args.vocabulary.now c.domains.result.now)
    (subst (AreDomainsOf c.args.vocabulary.now) (sym c.domains.ensures.domains) c.requires.«data».domains)

pub returns-clause-task : goal.returns-clause-task
returns-clause-task g c =
    opened c.args.vocabulary.now c.args.«data».now (g.S.Solve.state c.args.solver).problem c.in_ok-numbers.numbers
    c.requires.«data»
    (c.in_ok-numbers.ensures
    ∙ ap (λ (ds : List (List Elem)). bare_base c.args.vocabulary.now ds) c.domains.ensures.domains) c.requires.fresh
