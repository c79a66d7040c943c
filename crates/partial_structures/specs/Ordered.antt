-- What the rows say of all atoms of a symbol, in their order.
use Rattle.std.specs.Prelude.{ℕ, List, [], ◌∷◌, map, flat_map, Bool, Option, None, Some}
use Rattle.kb_logic.specs.declared.elements.Elem.{Elem}
use Rattle.kb_logic.specs.Structures.{domain_at}
use Rattle.row_tries.specs.Rows.{child_by, label_of, mark_at}
use Rattle.partial_structures.specs.AtomRows.{denied, settled, value_status}
use Rattle.row_tries.specs.declared.rows.Edge.{Edge}
use Rattle.row_tries.specs.declared.rows.Mark.{Mark}
use Rattle.row_tries.specs.declared.truths.Truth.{Truth}

-- what is known of a function's having this value where its arguments lead to the node
abbrev pub value_behind : List (List ℕ) → List (Edge × Mark) → Bool → Option ℕ → Elem → Truth
value_behind ws es closed node x =
    value_status (mark_at es node).value (label_of ws x) (settled closed
    (denied (mark_at es (child_by es node (label_of ws x))).known))

-- what is known of the atoms whose arguments lead to the node: of one, or of a function's with each of its values
abbrev pub ending : List (List ℕ) → List (Edge × Mark) → Bool → List (List Elem) → Option ℕ → Option ℕ → List Truth
ending ws es closed domains node None = settled closed (mark_at es node).known ∷ []
ending ws es closed domains node (Some ty) = map (value_behind ws es closed node) (domain_at domains ty)

-- what is known of the atoms whose arguments lead over the node, and then have these types
abbrev pub beyond : List (List ℕ) → List (Edge × Mark) → Bool → List (List Elem) → Option ℕ → List ℕ
    → Option ℕ → List Truth
beyond ws es closed domains node [] value = ending ws es closed domains node value
beyond ws es closed domains node (ty ∷ types) value =
    flat_map (λ x. beyond ws es closed domains (child_by es node (label_of ws x)) types value) (domain_at domains ty)
