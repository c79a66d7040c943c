use Rattle.std.proofs.Common.{arith}
use Rattle.atom_numbers.proofs.PlaceFacts.{symbol-atoms-few, vars-within, numbered, number-fits}
use Rattle.atom_numbers.proofs.places.variable_of.Goals as goal

pub atom_place-place-requires-clause-few : goal.atom_place-place-requires-clause-few
atom_place-place-requires-clause-few c = symbol-atoms-few c.args.domains.now c.args.symbols.now c.args.firsts.now
    c.requires.numbered c.args.literal.now c.requires.over.0 c.index-symbols-number.result c.requires.over.1
    c.index-symbols-number.is

pub bounds-firsts-number : goal.bounds-firsts-number
bounds-firsts-number c = vars-within c.args.domains.now c.args.symbols.now c.args.firsts.now c.requires.numbered
    c.args.literal.now c.requires.over.0 c.index-symbols-number.result c.requires.over.1 c.index-symbols-number.is

pub overflow_add-result : goal.overflow_add-result
overflow_add-result c = let x = number-fits c.args.domains.now c.args.symbols.now c.args.firsts.now c.requires.numbered
    c.args.literal.now c.requires.over.0 c.index-symbols-number.result c.requires.over.1 c.index-symbols-number.is
    c.atom_place-place.result c.atom_place-place.ensures in omega (arith, x)

pub returns : goal.returns
returns c = numbered c.args.domains.now c.args.symbols.now c.args.firsts.now c.requires.numbered c.args.literal.now
    c.requires.over.0 c.index-symbols-number.result c.requires.over.1 c.index-symbols-number.is
    c.atom_place-place.result c.atom_place-place.ensures
