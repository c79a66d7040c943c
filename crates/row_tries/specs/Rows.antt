-- A tree of rows: the nodes with their marks, each numbered by its place.
use Rattle.std.specs.Prelude.{◌≡◌, ℕ, List, [], ◌∷◌, length, Option, None, Some, Bool, true, false, ◌==◌, ◌&&◌, ◌||◌}
use Rattle.std.specs.Prelude.{nat_lt, option_map, slice_get, is_some}
use Rattle.std.specs.Option.{option_map_or}
use Rattle.std.specs.List.{list_all}
use Rattle.std.specs.Ordering.{int_eq}
use Rattle.std.specs.Str.{bytes_eq}
use Rattle.kb_logic.specs.declared.elements.Elem.{Elem}
use Rattle.kb_logic.specs.declared.elements.Elem.TheVariants.{Named, Num}
use Rattle.row_tries.specs.Words.{place}
use Rattle.row_tries.specs.declared.rows.Edge.{Edge}
use Rattle.row_tries.specs.declared.rows.Mark.{Mark}
use Rattle.row_tries.specs.declared.rows.Label.{Label}
use Rattle.row_tries.specs.declared.rows.Label.TheVariants.{Symbol, Word, Number}
use Rattle.row_tries.specs.declared.truths.Truth.TheVariants.{Unknown}

abbrev pub same_label : Label → Label → Bool
same_label (Symbol a) (Symbol b) = a == b
same_label (Word a) (Word b) = a == b
same_label (Number a) (Number b) = int_eq a b
same_label _ _ = false

abbrev pub same_edge : ℕ → Label → Edge → Bool
same_edge p l e = (p == e.parent) && same_label l e.label

-- what stands for an element whose name is one of the words
abbrev pub label_of : List (List ℕ) → Elem → Option Label
label_of ws (Named q) = option_map Word (place (bytes_eq q) ws)
label_of ws (Num z) = Some (Number z)

-- the node to which the edge leads
abbrev pub child_of : List (Edge × Mark) → ℕ → Label → Option ℕ
child_of es p l = place (λ e. same_edge p l e.0) es

abbrev pub child_by : List (Edge × Mark) → Option ℕ → Option Label → Option ℕ
child_by es None l = None
child_by es (Some p) None = None
child_by es (Some p) (Some l) = child_of es p l

-- the node of the symbol's row with these elements, the last one first
abbrev pub node_of : List (List ℕ) → List (Edge × Mark) → ℕ → List Elem → Option ℕ
node_of ws es s [] = child_of es 0 (Symbol s)
node_of ws es s (x ∷ xs) = child_by es (node_of ws es s xs) (label_of ws x)

abbrev pub blank : Mark
blank = record { known = Unknown; value = None }

abbrev pub mark_at : List (Edge × Mark) → Option ℕ → Mark
mark_at es None = blank
mark_at es (Some n) = option_map_or (λ e. e.1) (slice_get es n) blank

-- the mark of the symbol's row
abbrev pub mark_of : List (List ℕ) → List (Edge × Mark) → ℕ → List Elem → Mark
mark_of ws es s xs = mark_at es (node_of ws es s xs)

abbrev pub is_symbol : Label → Bool
is_symbol (Symbol s) = true
is_symbol (Word n) = false
is_symbol (Number z) = false

-- each edge leads from the root or from one of the nodes
abbrev pub is_tree : List (Edge × Mark) → Bool
is_tree es = list_all (λ e. is_symbol e.0.label || nat_lt e.0.parent (length es)) es

-- the new tree has the old one's nodes, and every row has the mark that it had
pub record Grows (old new : List (Edge × Mark)) : Type 0 where
  pub nodes : (ws : List (List ℕ)) (s : ℕ) (xs : List Elem) (n : ℕ) → node_of ws old s xs ≡ Some n
      → node_of ws new s xs ≡ Some n
  pub marks : (ws : List (List ℕ)) (s : ℕ) (xs : List Elem) → mark_of ws new s xs ≡ mark_of ws old s xs

-- the row of symbol s with the elements xs, the last one first, has a new mark, and every other row has the mark that
-- it had
pub record Marks (ws : List (List ℕ)) (old new : List (Edge × Mark)) (s : ℕ) (xs : List Elem) (m : Mark) : Type 0 where
  pub here : mark_of ws new s xs ≡ m
  pub others : (r : ℕ) (ys : List Elem) → ((r ≡ s) × (ys ≡ xs) → ⊥) → mark_of ws new r ys ≡ mark_of ws old r ys

-- the element has a label
abbrev pub has_label : List (List ℕ) → Elem → Bool
has_label ws x = is_some (label_of ws x)

abbrev pub same_optional_label : Label → Option Label → Bool
same_optional_label l None = false
same_optional_label l (Some k) = same_label l k
