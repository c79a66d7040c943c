use Rattle.std.proofs.Common.{arith}
use Rattle.definition_walk.proofs.SymbolSteps.{vars-within, vars-rise, item-at}
use Rattle.definition_walk.proofs.symbols.complete_symbol.Goals as goal

pub overflow_sub-count : goal.overflow_sub-count
overflow_sub-count c =
    let b = c.args.base.now in
    let inside = c.requires.symbol in
    let rise = vars-rise b c.args.symbol (item-at b.vocabulary.symbols c.args.symbol inside) inside in
    omega (arith, rise, c.first_var-first.ensures, c.next_var.ensures)

pub complete_range-requires-clause-few : goal.complete_range-requires-clause-few
complete_range-requires-clause-few c =
    let b = c.args.base.now in
    let inside = c.requires.symbol in
    let x = item-at b.vocabulary.symbols c.args.symbol inside in
    let rise = vars-rise b c.args.symbol x inside in
    let within = vars-within b c.requires.known c.args.symbol x inside in
    let few = c.atoms-atoms.ensures.few in
    omega (arith, rise, within, few, c.first_var-first.ensures, c.next_var.ensures)

pub complete_range-requires-clause-high : goal.complete_range-requires-clause-high
complete_range-requires-clause-high c =
    let b = c.args.base.now in
    let inside = c.requires.symbol in
    let rise = vars-rise b c.args.symbol (item-at b.vocabulary.symbols c.args.symbol inside) inside in
    let high = c.requires.high in
    omega (arith, rise, high, c.first_var-first.ensures, c.next_var.ensures)

pub complete_range-requires-clause-vars : goal.complete_range-requires-clause-vars
complete_range-requires-clause-vars c =
    let b = c.args.base.now in
    let inside = c.requires.symbol in
    let x = item-at b.vocabulary.symbols c.args.symbol inside in
    let rise = vars-rise b c.args.symbol x inside in
    let within = vars-within b c.requires.known c.args.symbol x inside in
    let vars = c.requires.vars in
    omega (arith, rise, within, vars, c.first_var-first.ensures, c.next_var.ensures)
