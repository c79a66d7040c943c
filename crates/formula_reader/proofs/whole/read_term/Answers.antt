use Rattle.grammar.specs.Spelling.{put_term}
use Rattle.grammar.specs.Fine.{FineTerm}
use Rattle.grammar.specs.View.{term_view}
use Rattle.formula_reader.proofs.Unread.{answered, refused_early}
use Rattle.formula_reader.proofs.whole.read_term.Goals as goal

pub returns-in-Ok : goal.returns-in-Ok
returns-in-Ok c =
    let p = rw c.deref.ensures.value at c.only_term.ensures in
    answered term_view put_term FineTerm c.args.src.now _ c.only_term.result c.in-Ok.ensures p

pub returns-in-Err : goal.returns-in-Err
returns-in-Err c = refused_early term_view put_term FineTerm c.args.src.now c.in-Err.e c.in-Err.ensures
