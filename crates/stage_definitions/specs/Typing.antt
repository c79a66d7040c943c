-- The types of variables: as they are written, else by the places where they stand, else by the other sides of
-- comparisons.
--
-- Variables are named by their numbers, counted from the outermost, so the number n stands for one variable in the
-- whole scope of its list.
use Rattle.std.specs.Prelude.{ℕ, ◌+◌, ◌==◌, Bool, false, not, ◌||◌, List, [], ◌∷◌, ◌++◌, length, map, Option, None}
use Rattle.std.specs.Prelude.{Some, slice_get, unwrap_or, if◌then◌else◌}
use Rattle.std.specs.List.{list_any, list_all}
use Rattle.kb_logic.specs.declared.vocabularies.TypeDecl.{TypeDecl}
use Rattle.stage_definitions.specs.Kinship.{is_under}
use Rattle.stage_definitions.specs.Demands.{TermType, whole, declared, untyped, known, Kind, of_variable, by_itself}
use Rattle.stage_definitions.specs.Demands.{Demand, a_number, sides, predicate_argument, function_argument, head_value}
use Rattle.stage_definitions.specs.Demands.{Finding, nothing, found, torn, Binding, Part, demand, scope, Parts}
use Rattle.stage_definitions.specs.Demands.{no_parts}
use Rattle.stage_definitions.specs.Demands.{more_parts}

-- ---- the least of some types

-- neither of two of these types is below the other
abbrev pub is_split : List TypeDecl → List ℕ → Bool
is_split types ts = list_any (λ a. list_any (λ b. not (is_under types a b || is_under types b a)) ts) ts

abbrev pub found_first : (ℕ → Bool) → List ℕ → Finding
found_first test [] = nothing
found_first test (t ∷ ts) = if test t then found t else found_first test ts

-- the one of these types that is below all of them
abbrev pub least_of : List TypeDecl → List ℕ → Finding
least_of types ts = found_first (λ t. list_all (λ u. is_under types t u) ts) ts

-- what these types say of a variable's type
abbrev pub finding_of : List TypeDecl → List ℕ → Finding
finding_of types ts = if is_split types ts then torn else least_of types ts

-- ---- a variable's type by what was found before, or else by these types

abbrev pub settled : Finding → Finding → Finding
settled nothing new = new
settled (found t) new = found t
settled torn new = torn

abbrev pub settled_binding : List TypeDecl → Binding → List ℕ → Binding
settled_binding types b ts = record { place = b.place; finding = settled b.finding (finding_of types ts) }

-- variables of which the first has the number n
abbrev pub settled_bindings : List TypeDecl → ℕ → List Binding → (ℕ → List ℕ) → List Binding
settled_bindings types n [] of_number = []
settled_bindings types n (b ∷ bs) of_number =
    settled_binding types b (of_number n) ∷ settled_bindings types (n + 1) bs of_number

-- ---- the places of a variable: the types of the positions at which it is the argument, or a head's value

abbrev pub is_variable : ℕ → Kind → Bool
is_variable n (of_variable m) = m == n
is_variable n (by_itself t) = false

abbrev pub places_given : ℕ → Demand → List ℕ
places_given n (a_number p k) = []
places_given n (sides p a b) = []
places_given n (predicate_argument p k t) = if is_variable n k then t ∷ [] else []
places_given n (function_argument p i k t) = if is_variable n k then t ∷ [] else []
places_given n (head_value p k t) = if is_variable n k then t ∷ [] else []

abbrev mutual
  pub places_at : ℕ → Part → List ℕ
  places_at n (demand d) = places_given n d
  places_at n (scope bs ps) = places_in n ps

  pub places_in : ℕ → Parts → List ℕ
  places_in n no_parts = []
  places_in n (more_parts p ps) = places_at n p ++ places_in n ps

-- each variable without a type gets the least of its places, where so many variables are in scope
abbrev mutual
  pub part_by_places : List TypeDecl → ℕ → Part → Part
  part_by_places types n (demand d) = demand d
  part_by_places types n (scope bs ps) =
      scope (settled_bindings types n bs (λ m. places_in m ps)) (by_places types (n + length bs) ps)

  pub by_places : List TypeDecl → ℕ → Parts → Parts
  by_places types n no_parts = no_parts
  by_places types n (more_parts p ps) = more_parts (part_by_places types n p) (by_places types n ps)

-- ---- the other sides of comparisons in which a variable is a side

abbrev pub type_found : Finding → Option ℕ
type_found nothing = None
type_found (found t) = Some t
type_found torn = None

-- the types in scope after a list of variables
abbrev pub within : List (Option ℕ) → List Binding → List (Option ℕ)
within types_in_scope bs = types_in_scope ++ map (λ b. type_found b.finding) bs

-- a term's type, where the variables in scope have these
abbrev pub type_in : List (Option ℕ) → Kind → TermType
type_in types_in_scope (of_variable n) = known (unwrap_or (slice_get types_in_scope n) None)
type_in types_in_scope (by_itself t) = t

-- integers, sums, products and aggregates give no variable a type
abbrev pub types_known : TermType → List ℕ
types_known whole = []
types_known (declared t) = t ∷ []
types_known untyped = []

abbrev pub side_given : List (Option ℕ) → ℕ → Kind → Kind → List ℕ
side_given types_in_scope n x y = if is_variable n x then types_known (type_in types_in_scope y) else []

abbrev pub sides_given : List (Option ℕ) → ℕ → Demand → List ℕ
sides_given types_in_scope n (a_number p k) = []
sides_given types_in_scope n (sides p a b) = side_given types_in_scope n a b ++ side_given types_in_scope n b a
sides_given types_in_scope n (predicate_argument p k t) = []
sides_given types_in_scope n (function_argument p i k t) = []
sides_given types_in_scope n (head_value p k t) = []

abbrev mutual
  pub sides_at : List (Option ℕ) → ℕ → Part → List ℕ
  sides_at types_in_scope n (demand d) = sides_given types_in_scope n d
  sides_at types_in_scope n (scope bs ps) = sides_in (within types_in_scope bs) n ps

  pub sides_in : List (Option ℕ) → ℕ → Parts → List ℕ
  sides_in types_in_scope n no_parts = []
  sides_in types_in_scope n (more_parts p ps) = sides_at types_in_scope n p ++ sides_in types_in_scope n ps

-- each variable without a type and without places gets the least of the other sides; variables have their types as
-- they are written or by places
abbrev mutual
  pub part_by_sides : List TypeDecl → List (Option ℕ) → Part → Part
  part_by_sides types types_in_scope (demand d) = demand d
  part_by_sides types types_in_scope (scope bs ps) =
      scope (settled_bindings types (length types_in_scope) bs (λ m. sides_in (within types_in_scope bs) m ps))
      (by_sides types (within types_in_scope bs) ps)

  pub by_sides : List TypeDecl → List (Option ℕ) → Parts → Parts
  by_sides types types_in_scope no_parts = no_parts
  by_sides types types_in_scope (more_parts p ps) =
      more_parts (part_by_sides types types_in_scope p) (by_sides types types_in_scope ps)

-- parts outside all variables' scopes, with all that is found of their variables' types
abbrev pub all_settled : List TypeDecl → Parts → Parts
all_settled types ps = by_sides types [] (by_places types 0 ps)
