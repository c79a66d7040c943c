-- Types that are found of variables one by one: of their places, or of the other sides of comparisons.
use Rattle.std.specs.Prelude.{ℕ, ◌+◌, List, [], ◌∷◌, ◌++◌, length, Option, fold, if◌then◌else◌}
use Rattle.kb_logic.specs.declared.vocabularies.TypeDecl.{TypeDecl}
use Rattle.stage_definitions.specs.Kinship.{is_under}
use Rattle.stage_definitions.specs.Demands.{Kind, Demand, Finding, nothing, found, torn, Binding, Part, demand, scope}
use Rattle.stage_definitions.specs.Demands.{Parts, no_parts, more_parts}
use Rattle.stage_definitions.specs.Typing.{is_variable, places_given, sides_given, within, settled, settled_bindings}
use Rattle.type_constraints.specs.declared.infer.Source.{Source}
use Rattle.type_constraints.specs.declared.infer.Source.TheVariants.{Places, Sides}

-- one more type, where the least of those before is known
abbrev pub seen : List TypeDecl → Finding → ℕ → Finding
seen types nothing t = found t
seen types (found s) t = if is_under types t s then found t else (if is_under types s t then found s else torn)
seen types torn t = torn

-- the findings of the variables from the number n on, after these types of each
abbrev pub after : List TypeDecl → (ℕ → List ℕ) → ℕ → List Finding → List Finding
after types of_number n [] = []
after types of_number n (f ∷ fs) = fold (seen types) f (of_number n) ∷ after types of_number (n + 1) fs

-- the type t of the variable that is of this kind
abbrev pub if_variable : Kind → ℕ → ℕ → List ℕ
if_variable k t n = if is_variable n k then t ∷ [] else []

abbrev pub settled_by : Binding → Finding → Binding
settled_by b f = record { place = b.place; finding = settled b.finding f }

-- bindings with the findings that their variables came to
abbrev pub settled_from : List Binding → List Finding → List Binding
settled_from [] fs = []
settled_from (b ∷ bs) [] = []
settled_from (b ∷ bs) (f ∷ fs) = settled_by b f ∷ settled_from bs fs

abbrev pub given : Source → List (Option ℕ) → ℕ → Demand → List ℕ
given Places types_in_scope n d = places_given n d
given Sides types_in_scope n d = sides_given types_in_scope n d

abbrev mutual
  pub gathered_at : Source → List (Option ℕ) → ℕ → Part → List ℕ
  gathered_at source types_in_scope n (demand d) = given source types_in_scope n d
  gathered_at source types_in_scope n (scope bs ps) = gathered_in source (within types_in_scope bs) n ps

  pub gathered_in : Source → List (Option ℕ) → ℕ → Parts → List ℕ
  gathered_in source types_in_scope n no_parts = []
  gathered_in source types_in_scope n (more_parts p ps) =
      gathered_at source types_in_scope n p ++ gathered_in source types_in_scope n ps

abbrev mutual
  pub part_by : Source → List TypeDecl → List (Option ℕ) → Part → Part
  part_by source types types_in_scope (demand d) = demand d
  part_by source types types_in_scope (scope bs ps) =
      scope (settled_bindings types (length types_in_scope) bs (λ n. gathered_in source
      (within types_in_scope bs) n ps))
      (parts_by source types (within types_in_scope bs) ps)

  pub parts_by : Source → List TypeDecl → List (Option ℕ) → Parts → Parts
  parts_by source types types_in_scope no_parts = no_parts
  parts_by source types types_in_scope (more_parts p ps) =
      more_parts (part_by source types types_in_scope p) (parts_by source types types_in_scope ps)
