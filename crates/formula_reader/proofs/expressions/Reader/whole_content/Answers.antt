use Rattle.std.proofs.Common.{true}
use Rattle.std.proofs.lemmas.Result.{err_from_is_err_and}
use Rattle.grammar.specs.Terminals.{toks}
use Rattle.grammar.specs.Trees.{atom, prim}
use Rattle.grammar.specs.Spelling.{put_unary}
use Rattle.token_reader.specs.Sorts.{app_formula, app_unary}
use Rattle.token_reader.specs.Machine.{unsettled}
use Rattle.grammar.specs.View.{unary_view, formula_view, app_view}
use Rattle.formula_reader.specs.Results.{wrap_prim}
use Rattle.token_reader.proofs.Inside.{fails_in}
use Rattle.formula_reader.proofs.InOperands.{app_is, wrap_prim_fine}
use Rattle.formula_reader.proofs.InChains.{unary_here, in_bracket, bracket_of, formula_from, not_both, either_halts}
use Rattle.formula_reader.proofs.InChains.{chain_no_app}
use Rattle.formula_reader.proofs.expressions.Reader.whole_content.Goals as goal

pub returns-in_err-found-clause-reads : goal.returns-in_err-found-clause-reads
returns-in_err-found-clause-reads g c =
    let p = err_from_is_err_and c.from_residual.result c.from_residual.ensures.1 in
    rw (p.1, p.2) (fails_in c.args.self.now.end c.in_err-found.field-0.0 (in_bracket (toks c.args.items.now))
    c.in_err-found.ensures.reads)

pub returns-in-Term-clause-reads : goal.returns-in-Term-clause-reads
returns-in-Term-clause-reads g c = let read = c.in_ok-found.ensures.reads in rw c.in-Term.is at read

pub returns-in_err-formula-in-Formula-clause-reads : goal.returns-in_err-formula-in-Formula-clause-reads
returns-in_err-formula-in-Formula-clause-reads g c =
    let p = err_from_is_err_and c.from_residual-in_err-formula-in-Formula.result
    c.from_residual-in_err-formula-in-Formula.ensures.1 in
    let read = c.in_ok-found.ensures.reads in
    let found = rw c.in-Formula.is at read in
    rw (p.1, p.2) (fails_in c.args.self.now.end c.in_err-formula-in-Formula.field-0.0
    (bracket_of (toks c.args.items.now) (put_unary (unary_view c.in-Formula.first) (toks c.in_ok-found.rest.now))
    found.0.spelled) (c.in_err-formula-in-Formula.ensures.reads
    (unary_here (toks c.args.items.now) (unary_view c.in-Formula.first) c.in-Formula.closed
    (toks c.in_ok-found.rest.now) found.0)))

pub returns-in_ok-formula-in-Formula-clause-reads : goal.returns-in_ok-formula-in-Formula-clause-reads
returns-in_ok-formula-in-Formula-clause-reads g c =
    let read = c.in_ok-found.ensures.reads in
    let found = rw c.in-Formula.is at read in (
      formula_from (toks c.args.items.now) (put_unary (unary_view c.in-Formula.first) (toks c.in_ok-found.rest.now))
          unsettled (formula_view c.in_ok-formula-in-Formula.formula) (toks c.in_ok-formula-in-Formula.last.now)
          found.0.spelled (c.in_ok-formula-in-Formula.ensures.reads
          (unary_here (toks c.args.items.now) (unary_view c.in-Formula.first) c.in-Formula.closed
          (toks c.in_ok-found.rest.now) found.0)).1,
      not_both (app_formula (formula_view c.in_ok-formula-in-Formula.formula))
          (app_unary (unary_view c.in-Formula.first)) c.in_ok-formula-in-Formula.ensures.kind found.1,
    )

pub returns-then-not-connects-clause-reads : goal.returns-then-not-connects-clause-reads
returns-then-not-connects-clause-reads g c =
    let read = c.in_ok-found.ensures.reads in
    let found = rw c.in-Either.is at read in
    (found, either_halts (toks c.in_ok-found.rest.now) found.ends (c.connects.ensures.no c.if-not-connects.true))

pub returns-in_err-formula-in-Either-clause-reads : goal.returns-in_err-formula-in-Either-clause-reads
returns-in_err-formula-in-Either-clause-reads g c =
    let p = err_from_is_err_and c.from_residual-in_err-formula-in-Either.result
    c.from_residual-in_err-formula-in-Either.ensures.1 in
    let x = prim (wrap_prim c.in-Either.pairs (atom (app_view c.in-Either.app))) in
    let read = c.in_ok-found.ensures.reads in
    let found = rw c.in-Either.is at read in
    let linked = c.in_err-formula-in-Either.ensures.reads in
    let after = rw (c.in_ok-first-in-Either.ensures, c.in_ok-inside-in-Either.ensures) at linked in
    rw (p.1, p.2) (fails_in c.args.self.now.end c.in_err-formula-in-Either.field-0.0
    (bracket_of (toks c.args.items.now) (put_unary x (toks c.in_ok-found.rest.now)) found.spelled)
    (after (unary_here (toks c.args.items.now) x true (toks c.in_ok-found.rest.now)
    (app_is (toks c.args.items.now) (app_view c.in-Either.app) c.in-Either.pairs
    (toks c.in_ok-found.rest.now) found))))

pub returns-in_ok-formula-in-Either-clause-reads : goal.returns-in_ok-formula-in-Either-clause-reads
returns-in_ok-formula-in-Either-clause-reads g c =
    let x = wrap_prim c.in-Either.pairs (atom (app_view c.in-Either.app)) in
    let read = c.in_ok-found.ensures.reads in
    let found = rw c.in-Either.is at read in
    let linked = c.in_ok-formula-in-Either.ensures.reads in
    let after = rw (c.in_ok-first-in-Either.ensures, c.in_ok-inside-in-Either.ensures) at linked in
    let here = unary_here (toks c.args.items.now) (prim x) true (toks c.in_ok-found.rest.now)
    (app_is (toks c.args.items.now) (app_view c.in-Either.app) c.in-Either.pairs
    (toks c.in_ok-found.rest.now) found) in
    let whole = formula_from (toks c.args.items.now) (put_unary (prim x) (toks c.in_ok-found.rest.now)) unsettled
    (formula_view c.in_ok-formula-in-Either.formula) (toks c.in_ok-formula-in-Either.last.now) found.spelled
    (after here).1 in (
      whole,
      chain_no_app (formula_view c.in_ok-formula-in-Either.formula) x (toks c.args.items.now)
          (toks c.in_ok-found.rest.now) (toks c.in_ok-formula-in-Either.last.now) found.spelled
          (wrap_prim_fine c.in-Either.pairs (atom (app_view c.in-Either.app)) found.fine) found.ends
          (c.connects.ensures.yes c.if-not-connects.false) whole,
    )
