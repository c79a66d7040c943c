-- The stage of sizes: what it refuses of the chosen theory over the data's domains, and what it returns where it
-- refuses nothing.
use Rattle.std.specs.Prelude.{ℕ, ◌+◌, min, ◌≡◌, Bool, false, not, ◌&&◌, nat_lt, List, [], ◌∷◌, ◌++◌, map, Option}
use Rattle.std.specs.Prelude.{Some, slice_get, option_to_list, zip, flat_map}
use Rattle.std.specs.List.{list_any}
use Rattle.kb_text.specs.declared.fault.K.{K}
use Rattle.kb_text.specs.declared.fault.K.TheVariants as k
use Rattle.kb_text.specs.declared.fault.KbFault.{KbFault}
use Rattle.kb_logic.specs.declared.elements.Elem.{Elem}
use Rattle.kb_logic.specs.declared.vocabularies.Symbol.{Symbol}
use Rattle.kb_logic.specs.declared.vocabularies.Vocabulary.{Vocabulary}
use Rattle.kb_logic.specs.Bounds.{Interval}
use Rattle.kb_logic.specs.Weights.{atom_count, weight_of}
use Rattle.stage_definitions.specs.Earliest.{IsRowOf, noted_at}
use Rattle.stage_definitions.specs.TypedFiles.{TypedTheoryTree, TypedTermTree, TypedFile}
use Rattle.stage_definitions.specs.TheoryItems.{items_of}
use Rattle.stage_definitions.specs.Sizes.{symbol_atoms, is_small, item_bounds, term_bounds}

-- a number, or the greatest of 64 bits
abbrev pub capped : ℕ → ℕ
capped n = min n 18446744073709551615

-- what the stage looks at
pub data SizeUse : Type 0 where
  -- the terms that begin here have these static bounds
  terms_at : ℕ → List Interval → SizeUse
  -- the name of a declaration: so many ground atoms with those of the declarations before it, and so many of its own
  atoms_with : ℕ → ℕ → ℕ → SizeUse
  -- the chosen theory's first word, and the weight
  weighs : ℕ → ℕ → SizeUse

-- where a refusal of it stands
abbrev pub place_of_size_use : SizeUse → ℕ
place_of_size_use (terms_at place is) = place
place_of_size_use (atoms_with place before own) = place
place_of_size_use (weighs place weight) = place

-- ---- the uses

-- terms that begin at this place, with their bounds
abbrev pub term_use : ℕ × List Interval → SizeUse
term_use x = terms_at x.0 x.1

-- the terms of a theory, which begin at these places
abbrev pub uses_of_theory : Vocabulary → List (List Elem) → TypedTheoryTree × List ℕ → List SizeUse
uses_of_theory v domains t = map term_use (zip t.1 (flat_map (item_bounds v domains) (items_of t.0.theory)))

-- the term of a term block, in which terms begin at these places
abbrev pub uses_of_block : Vocabulary → List (List Elem) → TypedTermTree × List ℕ → List SizeUse
uses_of_block v domains b = map term_use (zip b.1 (term_bounds v domains b.0.term []))

-- the symbols, whose names stand at these places, where so many ground atoms stand before
abbrev pub uses_of_symbols : List (List Elem) → ℕ → List (ℕ × Symbol) → List SizeUse
uses_of_symbols domains before [] = []
uses_of_symbols domains before (s ∷ ss) =
    atoms_with s.0 before (symbol_atoms domains s.1) ∷ uses_of_symbols domains (before + symbol_atoms domains s.1) ss

-- the weight of a theory, with all term blocks
abbrev pub weight_in : TypedFile → List (List Elem) → TypedTheoryTree → ℕ
weight_in f domains t = weight_of f.vocabulary domains t.theory (map (λ b. b.term) f.terms)

-- the theory's weight, at the place of its first word
abbrev pub weight_uses : TypedFile → List (List Elem) → TypedTheoryTree × ℕ → List SizeUse
weight_uses f domains t = weighs t.1 (weight_in f domains t.0) ∷ []

-- of lists that go together, the items with this number
abbrev pub chosen_of : {A B : Type 0} → List A → List B → ℕ → List (A × B)
chosen_of xs ys n = option_to_list (slice_get (zip xs ys) n)

-- all that is looked at over these domains, with the theory of this number
abbrev pub size_uses : TypedFile → ℕ → List (List Elem) → List SizeUse
size_uses f theory domains =
    uses_of_symbols domains 0 (zip f.places.symbols f.vocabulary.symbols)
    ++ (flat_map (uses_of_theory f.vocabulary domains) (chosen_of f.theories f.places.theory_terms theory)
    ++ (flat_map (uses_of_block f.vocabulary domains) (zip f.terms f.places.block_terms)
    ++ flat_map (weight_uses f domains) (chosen_of f.theories f.places.theories theory)))

-- ---- the rows of the table

-- the most ground atoms
abbrev pub atom_limit : ℕ
atom_limit = 2000000

-- the greatest weight
abbrev pub weight_limit : ℕ
weight_limit = 64000000

-- the greatest weight of what narrowed data leave open, and of a knowledge base whose data are not narrowed
abbrev pub open_limit : ℕ
open_limit = 4000000

-- a term's bounds are too wide
abbrev pub is_unbounded : SizeUse → Bool
is_unbounded (terms_at place is) = list_any (λ i. not (is_small i)) is
is_unbounded (atoms_with place before own) = false
is_unbounded (weighs place weight) = false

-- the declaration brings the ground atoms above their limit, or the weight is above its own
abbrev pub is_too_heavy : SizeUse → Bool
is_too_heavy (terms_at place is) = false
is_too_heavy (atoms_with place before own) = not (nat_lt atom_limit before) && nat_lt atom_limit (before + own)
is_too_heavy (weighs place weight) = nat_lt weight_limit weight

-- whether the row for a cause refuses the use
abbrev pub is_size_refused : SizeUse → K → Bool
is_size_refused u k.OutOfRange = is_unbounded u
is_size_refused u k.TooLarge = is_too_heavy u
is_size_refused u cause = false

-- the causes of this stage
abbrev pub size_causes : List K
size_causes = k.OutOfRange ∷ k.TooLarge ∷ []

-- a row of the table holds of one of these uses
abbrev pub SizesRefuse : List SizeUse → KbFault → Type 0
SizesRefuse = IsRowOf is_size_refused place_of_size_use size_causes

-- the earliest refusal so far, and then those of one use
abbrev pub size_noted : Option KbFault → SizeUse → Option KbFault
size_noted = noted_at is_size_refused place_of_size_use size_causes

-- the number of ground atoms, and the weight, each up to the greatest of 64 bits
pub record Sizes : Type 0 where
  pub atoms : ℕ
  pub weight : ℕ

-- what the stage of sizes returns where it refuses nothing of the theory with this number over these domains
pub record AreSizesOf (f : TypedFile) (theory : ℕ) (domains : List (List Elem)) (answer : Sizes) : Type 0 where
  pub accepted : (q : KbFault) → SizesRefuse (size_uses f theory domains) q → ⊥
  pub atoms : answer.atoms ≡ capped (atom_count f.vocabulary domains)
  pub weight : (t : TypedTheoryTree) → slice_get f.theories theory ≡ Some t → answer.weight
      ≡ capped (weight_in f domains t)
