-- Which variable each name stands for, in a table.
use Rattle.std.specs.Prelude.{ℕ, ◌≡◌, ◌<◌, ◌^◌, List, map, length, take, slice_get, Option, None, Some}
use Rattle.std.specs.Str.{bytes_eq}
use Rattle.indexmap.specs.IndexMap.{get_by}
use Rattle.stage_definitions.specs.Scopes.{last_position}
use Rattle.formula_names.specs.declared.scopes.Binding.{Binding}
use Rattle.formula_names.specs.declared.scopes.Levels.{Levels}
use Rattle.formula_names.specs.declared.scopes.Scope.TheInside.{Inside}

abbrev pub held : Option (Option ℕ) → Option ℕ
held (Some level) = level
held None = None

abbrev pub level_in : Levels → List ℕ → Option ℕ
level_in levels word = held (get_by (λ k. bytes_eq word k.now) levels.map)

abbrev pub texts_in : List Binding → List (List ℕ)
texts_in = map (λ b. b.text.now)

-- the table has the innermost variable of each name, and each binding the one that it hides
pub record IsScope (s : Inside) : Type 0 where
  pub levels : (word : List ℕ) → level_in s.levels word ≡ last_position word (texts_in s.bindings.items)
  pub hidden : (i : ℕ) → (b : Binding) → slice_get s.bindings.items i ≡ Some b → b.hidden ≡ last_position b.text.now
      (take i (texts_in s.bindings.items))
  pub few : length s.bindings.items < 2 ^ 32
