use Rattle.std.proofs.Common.{length, ◌-◌, refl}
use Rattle.atom_numbers.proofs.ApplicationFacts.{search-begins}
use Rattle.atom_numbers.proofs.places.symbol_of.Goals as goal

pub loop-number-init : goal.loop-number-init
loop-number-init c =
    search-begins c.args.domains.now c.args.symbols.now c.args.firsts.now c.requires.numbered c.args.lit
    c.requires.atom (length c.args.firsts.now - 1) refl
