use Rattle.kb_logic.specs.Views.{formula_view}
use Rattle.printed_texts.proofs.FormulasReadBack.{formulas_are_read_back, depth_alone_is_refused}
use Rattle.fo_printer.proofs.formulas.print_formula.Goals as goal

pub returns-clause-back : goal.returns-clause-back
returns-clause-back c = λ names spoken shallow. formulas_are_read_back c.args.v.now names (formula_view c.args.f.now)
    spoken shallow

pub returns-clause-deep : goal.returns-clause-deep
returns-clause-deep c = λ names spoken. depth_alone_is_refused c.args.v.now names (formula_view c.args.f.now) spoken
