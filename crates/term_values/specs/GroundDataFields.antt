-- What ground data keep: what is known of each atom, and tables by which variables and places are found.
use Rattle.std.specs.Prelude.{◌≡◌, ◌<◌, ◌^◌, length, sum_by}
use Rattle.term_values.specs.GroundBases.{GroundBase, atoms_in}
use Rattle.term_values.specs.DomainIndexes.{AreIndexesOf}
use Rattle.term_values.specs.VariableTables.{first_vars}
use Rattle.term_values.specs.declared.ground_data.GroundData.TheInside.{Inside}

abbrev pub base_in : Inside → GroundBase
base_in d = record { vocabulary = d.vocabulary.now; domains = d.domains.now; known = d.known.items }

pub record IsSoundData (d : Inside) : Type 0 where
  -- the variables of the symbols' first atoms
  pub firsts : d.firsts.items ≡ first_vars d.domains.now d.vocabulary.now.symbols (length d.vocabulary.now.symbols)
  -- the places of the elements in their domains
  pub indexes : AreIndexesOf d.indexes.items d.domains.now
  -- all atoms, of which there are few enough
  pub known : length d.known.items ≡ sum_by (atoms_in d.domains.now) d.vocabulary.now.symbols
  pub few : length d.known.items < 2 ^ 63
