-- Choices, and the literals of their atoms' variables.
use Rattle.std.specs.Prelude.{List, All}
use Rattle.kb_logic.specs.declared.structures.Literal.{Literal}
use Rattle.kb_logic.specs.Structures.{EachWith}
use Rattle.kb_logic.specs.Models.{IsAtomOver, atom_of}
use Rattle.lit_core.specs.declared.literals.Lit.{Lit}
use Rattle.ground_core.specs.Solving.{IsSublist}
use Rattle.term_values.specs.GroundBases.{GroundBase}
use Rattle.atom_numbers.specs.Numbers.{HasNumber}

-- the literals' atoms are over the domains
abbrev pub AreOver : GroundBase → List Literal → Type 0
AreOver b ls = All (λ l. IsAtomOver b.vocabulary.symbols b.domains (atom_of l)) ls

-- some of the choices, in their order, whose literals are just those of the core
pub record AreChosen (b : GroundBase) (choices : List Literal) (core : List Lit) (some : List Literal) : Type 0 where
  pub among : IsSublist some choices
  pub each : EachWith (HasNumber b) some core
