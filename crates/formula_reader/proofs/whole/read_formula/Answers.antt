use Rattle.grammar.specs.Spelling.{put_formula}
use Rattle.grammar.specs.Fine.{FineFormula}
use Rattle.grammar.specs.View.{formula_view}
use Rattle.formula_reader.proofs.Unread.{answered, refused_early}
use Rattle.formula_reader.proofs.whole.read_formula.Goals as goal

pub returns-in-Ok : goal.returns-in-Ok
returns-in-Ok c =
    let p = rw c.deref.ensures.value at c.only_formula.ensures in
    answered formula_view put_formula FineFormula c.args.src.now _ c.only_formula.result c.in-Ok.ensures p

pub returns-in-Err : goal.returns-in-Err
returns-in-Err c = refused_early formula_view put_formula FineFormula c.args.src.now c.in-Err.e c.in-Err.ensures
