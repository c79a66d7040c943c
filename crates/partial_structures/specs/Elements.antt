-- Tables of the elements of the types.
use Rattle.std.specs.Prelude.{◌≡◌, ℕ, zero, suc, List, [], ◌∷◌, map, Bool, false, Option, None, Some}
use Rattle.std.specs.List.{list_any}
use Rattle.kb_logic.specs.declared.elements.Elem.{Elem}
use Rattle.kb_logic.specs.Structures.{domain_at}
use Rattle.kb_logic.specs.Denotations.{Denotation}
use Rattle.partial_structures.specs.Applications.{stands_in}
use Rattle.row_tries.specs.Rows.{same_label, same_optional_label, label_of}
use Rattle.row_tries.specs.Values.{value_label}
use Rattle.row_tries.specs.declared.rows.Label.{Label}
use Rattle.partial_structures.specs.declared.elements.Elements.{Elements}

-- the labels of a type; there are none past the last type
abbrev pub labels_at : List (List Label) → ℕ → List Label
labels_at [] ty = []
labels_at (ls ∷ tables) zero = ls
labels_at (ls ∷ tables) (suc ty) = labels_at tables ty

-- the label stands for the element
abbrev pub stands_for : List (List ℕ) → Label → Elem → Bool
stands_for ws l x = same_optional_label l (label_of ws x)

-- the labels are those of the elements
abbrev pub AreLabelsOf : List (List ℕ) → List Elem → List Label → Type 0
AreLabelsOf ws xs ls = (l : Label) → list_any (same_label l) ls ≡ list_any (stands_for ws l) xs

-- the tables have the labels of the elements of each type
abbrev pub HasElements : List (List ℕ) → List (List Elem) → List (List Label) → Type 0
HasElements ws domains tables = (ty : ℕ) → AreLabelsOf ws (domain_at domains ty) (labels_at tables ty)

-- the type has an element with the label
abbrev pub has_label_of : List (List Label) → ℕ → Option Label → Bool
has_label_of tables ty None = false
has_label_of tables ty (Some l) = list_any (same_label l) (labels_at tables ty)

-- the tables tell of each value whether it is an element of a type
abbrev pub TellsElements : List (List ℕ) → List (List Elem) → List (List Label) → Type 0
TellsElements ws domains tables = (ty : ℕ) (v : Denotation) → has_label_of tables ty (value_label ws v) ≡ stands_in
    (domain_at domains ty) v

-- the labels that are kept, type by type
abbrev pub labels_in : Elements → List (List Label)
labels_in e = map (λ t. t.keys) e.tables.items
