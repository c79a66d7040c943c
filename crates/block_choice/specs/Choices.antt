-- Which block an option names, where names are first a block's, and why no blocks are chosen.
use Rattle.std.specs.Prelude.{ℕ, ◌≡◌, Bool, false, nat_lt, List, Option, None, Some, option_map, ⊤}
use Rattle.std.specs.Map.{lookup}
use Rattle.std.specs.Borrow.{Bor}
use Rattle.std.specs.Str.{bytes_eq}
use Rattle.grammar.specs.Trees.{Name}
use Rattle.grammar.specs.declared.error.KbError.{KbError}
use Rattle.grammar.specs.declared.error.KbError.TheVariants.{Refused, Memory}
use Rattle.stage_definitions.specs.Scopes.{Text}
use Rattle.stage_definitions.specs.Names.{text_of, place_of_name}
use Rattle.stage_definitions.specs.Files.{File}
use Rattle.stage_definitions.specs.Earliest.{IsEarliest}
use Rattle.stage_definitions.specs.BlocksStage.{is_again, block_uses, BlocksRefuse}
use Rattle.block_choice.specs.declared.first_places.FirstPlaces.{FirstPlaces}

-- the word that is given, if one is
abbrev pub word_given : Option (Bor (List ℕ)) → Option Text
word_given = option_map (λ (w : Bor (List ℕ)). w.now)

-- whether this least place, if there is one, stands before a place
abbrev pub is_before : Option ℕ → ℕ → Bool
is_before None place = false
is_before (Some least) place = nat_lt least place

-- the place that is kept for a word
abbrev pub place_kept : FirstPlaces → Text → Option ℕ
place_kept first word = lookup (λ (k : Bor (List ℕ)). bytes_eq word k.now) first.places.entries

-- the places tell of each name whether one of these stands before it
abbrev pub AreFirstPlaces : List Name → FirstPlaces → Type 0
AreFirstPlaces names first = (w : Name) → is_before (place_kept first (text_of w)) (place_of_name w) ≡ is_again names w

-- there was no memory, or the refusal is the earliest one of the stage of blocks
abbrev pub FailsWith : File → Option Text → Option Text → KbError → Type 0
FailsWith f theory structure Memory = ⊤
FailsWith f theory structure (Refused r) = IsEarliest (BlocksRefuse (block_uses f theory structure)) r
