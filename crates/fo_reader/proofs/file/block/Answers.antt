use Rattle.std.proofs.lemmas.Result.{err_from_is_err_and}
use Rattle.grammar.specs.Terminals.{toks}
use Rattle.fo_reader.proofs.InFile.{in_vocabulary_block, in_theory_block, in_structure_block, in_term_block, no_block}
use Rattle.fo_reader.proofs.file.block.Goals as goal

pub returns-in_err-vocabulary-clause-reads : goal.returns-in_err-vocabulary-clause-reads
returns-in_err-vocabulary-clause-reads c =
    let p = err_from_is_err_and c.from_residual.result c.from_residual.ensures.1 in
    rw (p.1, p.2, c.in-Some.ensures.some) (in_vocabulary_block c.in-Some.place (toks c.in-Some.behind.now) c.args.end
    c.in_err-vocabulary.field-0.0 c.in_err-vocabulary.ensures.reads)

pub returns-in_err-theory-clause-reads : goal.returns-in_err-theory-clause-reads
returns-in_err-theory-clause-reads c =
    let p = err_from_is_err_and c.from_residual-in_err-theory.result c.from_residual-in_err-theory.ensures.1 in
    rw (p.1, p.2, c.in-Some-skip.ensures.some) (in_theory_block c.in-Some-skip.place (toks c.in-Some-skip.behind.now)
    c.args.end c.in_err-theory.field-0.0 c.in_err-theory.ensures.reads)

pub returns-in_err-structure-clause-reads : goal.returns-in_err-structure-clause-reads
returns-in_err-structure-clause-reads c =
    let p = err_from_is_err_and c.from_residual-in_err-structure.result c.from_residual-in_err-structure.ensures.1 in
    rw (p.1, p.2, c.in-Some-skip-2.ensures.some) (in_structure_block c.in-Some-skip-2.place
    (toks c.in-Some-skip-2.behind.now) c.args.end c.in_err-structure.field-0.0 c.in_err-structure.ensures.reads)

pub returns-in_err-term-clause-reads : goal.returns-in_err-term-clause-reads
returns-in_err-term-clause-reads c =
    let p = err_from_is_err_and c.from_residual-in_err-term.result c.from_residual-in_err-term.ensures.1 in
    rw (p.1, p.2, c.in-Some-skip-3.ensures.some) (in_term_block c.in-Some-skip-3.place
    (toks c.in-Some-skip-3.behind.now) c.args.end c.in_err-term.field-0.0 c.in_err-term.ensures.reads)

pub returns-in-None-clause-reads : goal.returns-in-None-clause-reads
returns-in-None-clause-reads c =
    let ts = toks c.args.items.now in (
      ts,
      no_block ts c.in_default.ensures.none c.in_default-skip.ensures.none c.in_default-skip-2.ensures.none
          c.in_default-skip-3.ensures.none c.in-None.ensures.none,
      c.place_at.ensures,
    )
