-- Tuples in memory, as keys of a table.
use Rattle.std.specs.Prelude.{◌≡◌, List, length, map}
use Rattle.std.specs.List.{list_any}
use Rattle.kb_logic.specs.declared.elements.Elem.{Elem}
use Rattle.kb_logic.specs.declared.elements.Elem.TheVariants as elem
use Rattle.stage_definitions.specs.DataFacts.{same_tuple}
use Rattle.data_refusals.specs.declared.labels.Label.{Label}
use Rattle.data_refusals.specs.declared.labels.Label.TheVariants.{Word, Number}

abbrev pub label_view : Label → Elem
label_view (Word w) = elem.Named w.now
label_view (Number z) = elem.Num z

abbrev pub tuple_view : List Label → List Elem
tuple_view ls = map label_view ls

-- the same tuples, and as many
pub record AreSameTuples (xs ys : List (List Elem)) : Type 0 where
  pub count : length xs ≡ length ys
  pub among : (t : List Elem) → list_any (same_tuple t) xs ≡ list_any (same_tuple t) ys
