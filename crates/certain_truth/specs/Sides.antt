-- The sides of a comparison.
use Rattle.std.specs.Prelude.{◌≡◌, ℕ, List, Option, None, Some}
use Rattle.std.specs.Option.{option_map}
use Rattle.kb_logic.specs.declared.elements.Elem.{Elem}
use Rattle.kb_logic.specs.Trees.{TermTree}
use Rattle.kb_logic.specs.Denotations.{Denotation}
use Rattle.certain_truth.specs.Certainty.{known_value, equation_certain}
use Rattle.partial_structures.specs.Applications.{value_certain}
use Rattle.partial_structures.specs.Values.{value_view}
use Rattle.partial_structures.specs.Known.{known_in, place_view, spot_of}
use Rattle.partial_structures.specs.declared.truths.Truth.TheVariants as truth
use Rattle.partial_structures.specs.declared.known.Known.{Known}
use Rattle.partial_structures.specs.declared.spots.Place.{Place}
use Rattle.certain_truth.specs.declared.sides.Side.{Side}

-- the place to which the term's arguments lead, where it is an application with known ones
abbrev pub IsApplied : Known → TermTree → List Elem → Option (ℕ × Place) → Type 0
IsApplied s t e None = (v : Option Denotation) → equation_certain (known_in s) t v e ≡ truth.Unknown
IsApplied s t e (Some a) =
    (vs : List Denotation) × (place_view a.1 ≡ spot_of s a.0 vs) × ((v : Option Denotation)
    → equation_certain (known_in s) t v e ≡ value_certain (known_in s) a.0 (Some vs) v)

-- what is known of the term
pub record IsSide (s : Known) (t : TermTree) (e : List Elem) (side : Side) : Type 0 where
  pub value : option_map value_view side.value ≡ known_value (known_in s) t e
  pub applied : IsApplied s t e side.applied
