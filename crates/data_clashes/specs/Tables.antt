-- Facts in memory, by their symbols and arguments.
use Rattle.std.specs.Prelude.{◌≡◌, ◌⊎◌, ◌==◌, ◌&&◌, not, ℕ, Bool, true, false, IsTrue, List, [], ◌∷◌, map, Option, None}
use Rattle.std.specs.Prelude.{Some, option_map, if◌then◌else◌}
use Rattle.std.specs.List.{list_any}
use Rattle.kb_logic.specs.declared.elements.Elem.{Elem}
use Rattle.stage_definitions.specs.Elements.{Cell, one}
use Rattle.stage_definitions.specs.DataFacts.{Fact, same_tuple, same_value_of}
use Rattle.data_refusals.specs.Labels.{label_view, tuple_view}
use Rattle.data_refusals.specs.declared.labels.Label.{Label}
use Rattle.data_clashes.specs.declared.keys.Key.{Key}
use Rattle.data_clashes.specs.declared.tables.Table.{Table}

-- the key has this symbol, these arguments and this value
abbrev pub is_atom : ℕ → List Elem → Option Elem → Key → Bool
is_atom s xs v k = (s == k.symbol) && (same_tuple xs (tuple_view k.args.items) && same_value_of v
    (option_map label_view k.value))

-- the value that stands beside these arguments, where one stands there
abbrev pub value_in : List (Key × Option Label) → ℕ → List Elem → Option (Option Elem)
value_in [] s xs = None
value_in (e ∷ es) s xs = if is_atom s xs None e.0 then Some (option_map label_view e.1) else value_in es s xs

-- the atom stands among those that are denied
abbrev pub is_denied : List Key → ℕ → List Elem → Option Elem → Bool
is_denied ks s xs v = list_any (is_atom s xs v) ks

-- the symbol is one whose facts are compared one by one
abbrev pub is_wide : List ℕ → ℕ → Bool
is_wide ks s = list_any (λ k. s == k) ks

-- a fact that is said with these arguments stands in the table
abbrev pub IsKeptBy : Bool → Table → Fact → List Elem → Type 0
IsKeptBy true t f xs = value_in t.values.entries f.symbol xs ≡ Some f.value
IsKeptBy false t f xs = IsTrue (is_denied t.denied.keys f.symbol xs f.value)

-- the table knows the fact, or its symbol's facts are compared one by one
abbrev pub IsKept : Table → Fact → Type 0
IsKept t f = IsTrue (is_wide t.wide.keys f.symbol) ⊎ ((xs : List Elem) × (f.args ≡ map (λ x. one x) xs)
    × IsKeptBy f.holds t f xs)

-- what stands beside the arguments is nothing, or this value
abbrev pub agrees : Option (Option Elem) → Option Elem → Bool
agrees None v = true
agrees (Some w) v = same_value_of w v

-- what stands beside the arguments is nothing, or another value
abbrev pub differs : Option (Option Elem) → Option Elem → Bool
differs None v = true
differs (Some w) v = not (same_value_of w v)

-- with what stands beside its arguments, and whether its atom is denied, the fact clashes with none
abbrev pub is_clear : Bool → Option (Option Elem) → Option Elem → Bool → Bool
is_clear true known v denied = agrees known v && not denied
is_clear false known v denied = differs known v
