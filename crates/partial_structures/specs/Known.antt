-- What is known, as it is lent to the evaluator, and where an application's atoms stand in it.
use Rattle.std.specs.Prelude.{ℕ, List, [], ◌∷◌, fold, filter, Bool, true, false, ◌&&◌, Option, None, Some, is_some}
use Rattle.std.specs.Prelude.{slice_get}
use Rattle.std.specs.Option.{option_map_or}
use Rattle.kb_logic.specs.declared.elements.Elem.{Elem}
use Rattle.kb_logic.specs.declared.vocabularies.Symbol.{Symbol}
use Rattle.kb_logic.specs.Structures.{domain_at}
use Rattle.kb_logic.specs.Denotations.{Denotation}
use Rattle.kb_logic.specs.Models.{GroundAtom}
use Rattle.partial_structures.specs.KnownAtoms.{KnownAtoms, atoms_over}
use Rattle.partial_structures.specs.Applications.{stands_in}
use Rattle.row_tries.specs.Words.{words_in}
use Rattle.row_tries.specs.Rows.{child_by, node_of}
use Rattle.partial_structures.specs.AtomRows.{status_of}
use Rattle.partial_structures.specs.Flags.{is_closed}
use Rattle.partial_structures.specs.Status.{is_yes, is_no}
use Rattle.row_tries.specs.Values.{value_label}
use Rattle.row_tries.specs.declared.truths.Truth.{Truth}
use Rattle.partial_structures.specs.declared.known.Known.{Known}
use Rattle.partial_structures.specs.declared.spots.Place.{Place}

abbrev pub status_in : Known → GroundAtom → Truth
status_in s a = status_of (words_in s.rows.now.words) s.rows.now.nodes.entries (is_closed s.closed.now a.symbol)
    a.symbol a.args a.value

abbrev pub known_in : Known → KnownAtoms
known_in s = record {
  symbols = s.symbols.now;
  domains = s.domains.now;
  true_atoms = filter (λ a. is_yes (status_in s a)) (atoms_over s.symbols.now s.domains.now);
  false_atoms = filter (λ a. is_no (status_in s a)) (atoms_over s.symbols.now s.domains.now);
}

-- where the walk along some arguments stands: the node of the row, the types of the arguments that are to come, and
-- whether each argument so far was of its type
pub record Spot : Type 0 where
  pub node : Option ℕ
  pub types : List ℕ
  pub typed : Bool

abbrev pub place_view : Place → Spot
place_view p = record { node = p.node; types = p.types.now; typed = p.typed }

abbrev pub rest_of : List ℕ → List ℕ
rest_of [] = []
rest_of (ty ∷ types) = types

abbrev pub is_of_first : List (List Elem) → List ℕ → Denotation → Bool
is_of_first domains [] v = false
is_of_first domains (ty ∷ types) v = stands_in (domain_at domains ty) v

-- the first spot of a symbol
abbrev pub first_spot : Option ℕ → Option Symbol → Spot
first_spot node None = record { node = node; types = []; typed = false }
first_spot node (Some d) = record { node = node; types = d.args; typed = true }

abbrev pub start_of : Known → ℕ → Spot
start_of s symbol = first_spot (node_of (words_in s.rows.now.words) s.rows.now.nodes.entries symbol [])
    (slice_get s.symbols.now symbol)

-- one argument further
abbrev pub stepped : Known → Spot → Denotation → Spot
stepped s p v = record {
  node = child_by s.rows.now.nodes.entries p.node (value_label (words_in s.rows.now.words) v);
  types = rest_of p.types;
  typed = is_of_first s.domains.now p.types v && p.typed;
}

-- the spot after these arguments
abbrev pub spot_of : Known → ℕ → List Denotation → Spot
spot_of s symbol vs = fold (stepped s) (start_of s symbol) vs

abbrev pub is_none_left : List ℕ → Bool
is_none_left [] = true
is_none_left (ty ∷ types) = false

-- the arguments are as many as the symbol's, and each is of its type
abbrev pub is_whole : Spot → Bool
is_whole p = is_none_left p.types && p.typed

-- whether the symbol is a function
abbrev pub is_function_of : List Symbol → ℕ → Bool
is_function_of symbols s = option_map_or (λ (d : Symbol). is_some d.value) (slice_get symbols s) false
