-- What the fields of atom numbers hold.
use Rattle.atom_numbers.specs.declared.numbers.AtomNumbers.TheInside.{Inside}
use Rattle.term_values.specs.GroundBases.{GroundBase}
use Rattle.term_values.specs.KnownBases.{IsGroundBase}
use Rattle.atom_numbers.specs.Numbers.{bare_base, AreNumbered}

abbrev pub base_in : Inside → GroundBase
base_in n = bare_base n.vocabulary n.domains.value

-- the domains are fine, and the first variables are those of the symbols
pub record IsNumbered (n : Inside) : Type 0 where
  pub fine : IsGroundBase (base_in n)
  pub numbered : AreNumbered n.domains.value n.vocabulary.symbols n.firsts.items
