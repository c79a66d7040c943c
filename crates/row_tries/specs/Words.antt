-- The names among the elements, each numbered by its place.
use Rattle.std.specs.Prelude.{ℕ, suc, List, [], ◌∷◌, ◌++◌, map, fold, Option, None, Some, Bool, if◌then◌else◌}
use Rattle.std.specs.Prelude.{option_map}
use Rattle.std.specs.List.{list_any}
use Rattle.std.specs.Str.{bytes_eq}
use Rattle.kb_logic.specs.declared.elements.Elem.{Elem}
use Rattle.kb_logic.specs.declared.elements.Elem.TheVariants.{Named, Num}
use Rattle.row_tries.specs.declared.words.Words.{Words}

-- the place of the first item that passes the test
abbrev pub place : {X : Type 0} → (X → Bool) → List X → Option ℕ
place test [] = None
place test (x ∷ xs) = if test x then Some 0 else option_map (λ n. suc n) (place test xs)

-- the words
abbrev pub words_in : Words → List (List ℕ)
words_in w = map (λ k. k.items) w.words.keys

-- the words, with this one last if it is not among them
abbrev pub with_word : List (List ℕ) → List ℕ → List (List ℕ)
with_word ws q = if list_any (bytes_eq q) ws then ws else ws ++ q ∷ []

abbrev pub with_element : List (List ℕ) → Elem → List (List ℕ)
with_element ws (Named q) = with_word ws q
with_element ws (Num z) = ws

-- the names of all elements, in order of first occurrence
abbrev pub words_of : List (List Elem) → List (List ℕ)
words_of domains = fold (λ ws d. fold with_element ws d) [] domains
