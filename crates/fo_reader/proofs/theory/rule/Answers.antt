use Rattle.std.proofs.lemmas.Result.{err_from_is_err_and}
use Rattle.grammar.specs.Terminals.{toks}
use Rattle.fo_reader.proofs.InTheory.{rule_bindings, rule_clause}
use Rattle.fo_reader.proofs.theory.rule.Goals as goal

pub returns-in_err-binders-clause-reads : goal.returns-in_err-binders-clause-reads
returns-in_err-binders-clause-reads c =
    let p = err_from_is_err_and c.from_residual.result c.from_residual.ensures.1 in
    rw (p.1, p.2) (rule_bindings (toks c.args.items.now) c.args.end c.in_err-binders.field-0.0
    c.in_err-binders.ensures.reads)

pub returns-in_err-found-clause-reads : goal.returns-in_err-found-clause-reads
returns-in_err-found-clause-reads c =
    let p = err_from_is_err_and c.from_residual-in_err-found.result c.from_residual-in_err-found.ensures.1 in
    rw (p.1, p.2) (rule_clause _ (toks c.args.items.now) (toks c.in_ok-binders.rest.now) c.args.end
    c.in_err-found.field-0.0 c.in_ok-binders.ensures.reads.0 c.in_ok-binders.ensures.reads.2
    c.in_err-found.ensures.reads)
