-- Laws of the variables of ground atoms.
use Rattle.std.specs.Prelude.{◌≡◌, ◌↔◌, ℕ, Bool, true}
use Rattle.kb_logic.specs.declared.structures.Literal.{Literal}
use Rattle.kb_logic.specs.Models.{HoldsIn}
use Rattle.lit_core.specs.declared.literals.Lit.{Lit}
use Rattle.lit_core.specs.Literals.{literal_value}
use Rattle.term_values.specs.GroundBases.{GroundBase, structure_of}
use Rattle.term_values.specs.KnownBases.{IsGroundBase}
use Rattle.atom_numbers.specs.Numbers.{HasNumber}

-- a literal is true in the structure of a valuation exactly where the literal of its atom's variable is
abbrev pub LiteralsHoldByTheirVariables : Type 0
LiteralsHoldByTheirVariables =
    (b : GroundBase) (v : ℕ → Bool) (l : Literal) (lit : Lit) → IsGroundBase b → HasNumber b l lit
    → HoldsIn (structure_of b v) l ↔ (literal_value v lit ≡ true)
