-- Elements that are lent.
use Rattle.std.specs.Prelude.{ℕ, List, Option, map, option_map}
use Rattle.kb_logic.specs.Models.{GroundAtom}
use Rattle.row_tries.specs.declared.lent.LentElem.{LentElem}
use Rattle.row_tries.specs.Lent.{lent_view}

-- the atom of these elements
abbrev pub lent_atom : ℕ → List LentElem → Option LentElem → GroundAtom
lent_atom s args v = record { symbol = s; args = map lent_view args; value = option_map lent_view v }
