-- Rows over domains, from a place on.
use Rattle.std.proofs.Common.{ℕ, List}
use Rattle.kb_logic.specs.declared.elements.Elem.{Elem}
use Rattle.kb_logic.specs.Structures.{IsRowOver}

-- the row is over the domains exactly where its rest is
pub record SameRest (domains : List (List Elem)) (types : List ℕ) (row : List Elem) (types' : List ℕ)
    (row' : List Elem) : Type 0 where
  pub down : IsRowOver domains types row → IsRowOver domains types' row'
  pub up : IsRowOver domains types' row' → IsRowOver domains types row
