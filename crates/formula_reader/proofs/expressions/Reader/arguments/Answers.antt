use Rattle.std.proofs.Common.{◌∙◌, List, ap, subst, sym}
use Rattle.std.proofs.lemmas.Result.{err_from_is_err_and}
use Rattle.grammar.specs.Terminals.{Tok}
use Rattle.grammar.specs.Spelling.{put_app, put_name}
use Rattle.grammar.specs.Fine.{FineApp}
use Rattle.grammar.specs.View.{name_view}
use Rattle.token_reader.specs.Parts.{at_either, Fails}
use Rattle.formula_reader.proofs.expressions.Reader.arguments.Goals as goal

pub returns-in_err-terms-clause-reads : goal.returns-in_err-terms-clause-reads
returns-in_err-terms-clause-reads g c =
    let p = err_from_is_err_and c.from_residual-in_err-terms.result c.from_residual-in_err-terms.ensures.1 in
    rw (p.1, p.2) (subst (λ (ts : List Tok). Fails at_either put_app FineApp (put_name (name_view c.args.name) ts)
    c.args.self.now.end c.in_err-terms.field-0.0) (sym c.in-Some.ensures.some)
    (c.in_err-terms.ensures.reads (name_view c.args.name) c.in-Some.begin c.in_default-skip.ensures.none))

pub returns-clause-reads : goal.returns-clause-reads
returns-clause-reads g c =
    let read = c.in_ok-terms.ensures.reads (name_view c.args.name) c.in-Some.begin
    c.in_default-skip.ensures.none in
    rw c.in_ok-apply.ensures (record {
      spelled = ap (λ (ts : List Tok). put_name (name_view c.args.name) ts)
          (c.in-Some.ensures.some ∙ read.0);
      fine = read.1;
      shut = tt;
    })
