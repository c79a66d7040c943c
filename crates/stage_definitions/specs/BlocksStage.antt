-- The stage of blocks: which blocks a file may have, and which theory and structure are chosen.
use Rattle.std.specs.Prelude.{ℕ, ◌≡◌, ◌+◌, Bool, true, false, not, ◌&&◌, IsTrue, nat_lt, is_none, List, [], ◌∷◌, ◌++◌}
use Rattle.std.specs.Prelude.{length, map, Option, None, Some, position, Contains}
use Rattle.std.specs.List.{flat_map, list_any}
use Rattle.std.specs.Str.{bytes_eq}
use Rattle.kb_text.specs.declared.fault.K.{K}
use Rattle.kb_text.specs.declared.fault.K.TheVariants as k
use Rattle.kb_text.specs.declared.fault.KbFault.{KbFault}
use Rattle.stage_definitions.specs.Earliest.{refusal, noted_at}
use Rattle.grammar.specs.Trees.{Name}
use Rattle.stage_definitions.specs.Scopes.{Text}
use Rattle.stage_definitions.specs.Names.{text_of, place_of_name}
use Rattle.stage_definitions.specs.Files.{Header, VocabularyBlock, File}

pub data BlockUse : Type 0 where
  -- a header's second word, where the vocabulary has this name, if there is one
  over : Option Text → Name → BlockUse
  -- the name of a block, where the theories, structures and term blocks have these names
  called : List Name → Name → BlockUse
  -- a block of a kind of which one is wanted, with so many of its kind before it, and the place of its first word
  one_of : ℕ → ℕ → BlockUse
  -- the end of the file, where a block of one of these names is wanted, and of this one where one is named
  wanted : List Name → Option Text → ℕ → BlockUse

abbrev pub place_of_block : BlockUse → ℕ
place_of_block (over vocabulary w) = place_of_name w
place_of_block (called names w) = place_of_name w
place_of_block (one_of before place) = place
place_of_block (wanted names choice end) = end

abbrev pub is_called : Text → Name → Bool
is_called word n = bytes_eq word (text_of n)

abbrev pub is_other : Option Text → Text → Bool
is_other None word = true
is_other (Some name) word = not (bytes_eq name word)

-- whether a block of the same name stands before
abbrev pub is_again : List Name → Name → Bool
is_again names w = list_any (λ n. is_called (text_of w) n && nat_lt (place_of_name n) (place_of_name w)) names

-- the number of the block that is chosen: the one with this name, or where none is named the first
abbrev pub chosen : List Name → Option Text → Option ℕ
chosen [] None = None
chosen (n ∷ ns) None = Some 0
chosen ns (Some word) = position (is_called word) ns

-- ---- the rows

abbrev pub is_unknown : BlockUse → Bool
is_unknown (over vocabulary w) = is_other vocabulary (text_of w)
is_unknown (called names w) = false
is_unknown (one_of before place) = false
is_unknown (wanted names choice end) = false

abbrev pub is_redeclared : BlockUse → Bool
is_redeclared (over vocabulary w) = false
is_redeclared (called names w) = is_again names w
is_redeclared (one_of before place) = false
is_redeclared (wanted names choice end) = false

abbrev pub is_choiceless : BlockUse → Bool
is_choiceless (over vocabulary w) = false
is_choiceless (called names w) = false
is_choiceless (one_of before place) = nat_lt 0 before
is_choiceless (wanted names choice end) = is_none (chosen names choice)

-- ---- the uses of a file

abbrev pub name_of_vocabulary : List VocabularyBlock → Option Text
name_of_vocabulary [] = None
name_of_vocabulary (v ∷ vs) = Some (text_of v.name)

abbrev pub headers_of : File → List Header
headers_of f = map (λ t. t.header) f.theories ++ (f.structures ++ map (λ t. t.header) f.terms)

abbrev pub header_names : List Header → List Name
header_names = map (λ h. h.name)

abbrev pub one_of_each : ℕ → List ℕ → List BlockUse
one_of_each before [] = []
one_of_each before (p ∷ ps) = one_of before p ∷ one_of_each (before + 1) ps

-- where a name is given, there may be more
abbrev pub one_unless_named : Option Text → List ℕ → List BlockUse
one_unless_named None places = one_of_each 0 places
one_unless_named (Some word) places = []

abbrev pub uses_of_header : File → Header → List BlockUse
uses_of_header f h = over (name_of_vocabulary f.vocabularies) h.of ∷ called (header_names (headers_of f)) h.name ∷ []

abbrev pub block_uses : File → Option Text → Option Text → List BlockUse
block_uses f theory structure =
    flat_map (uses_of_header f) (headers_of f)
    ++ (one_of_each 0 (map (λ v. v.place) f.vocabularies)
    ++ (one_unless_named theory (map (λ t. t.header.place) f.theories)
    ++ (one_unless_named structure (map (λ h. h.place) f.structures)
    ++ (wanted (map (λ v. v.name) f.vocabularies) None f.end
    ∷ wanted (map (λ t. t.header.name) f.theories) theory f.end
    ∷ wanted (header_names f.structures) structure f.end ∷ []))))

-- a constructor for each row
pub data BlocksRefuse (us : List BlockUse) : KbFault → Type 0 where
  unknown_name : (u : BlockUse) → Contains us u → IsTrue (is_unknown u)
      → BlocksRefuse us (refusal k.UnknownName (place_of_block u))
  redeclared : (u : BlockUse) → Contains us u → IsTrue (is_redeclared u)
      → BlocksRefuse us (refusal k.Redeclared (place_of_block u))
  block_choice : (u : BlockUse) → Contains us u → IsTrue (is_choiceless u)
      → BlocksRefuse us (refusal k.BlockChoice (place_of_block u))

-- the same table by causes
abbrev pub is_refused : BlockUse → K → Bool
is_refused u k.Syntax = false
is_refused u k.UnknownName = is_unknown u
is_refused u k.Redeclared = is_redeclared u
is_refused u k.WrongArity = false
is_refused u k.TypeClash = false
is_refused u k.Untyped = false
is_refused u k.TypeNotGiven = false
is_refused u k.NotAnElement = false
is_refused u k.DataClash = false
is_refused u k.Unsupported = false
is_refused u k.BadHead = false
is_refused u k.OutOfRange = false
is_refused u k.TooLarge = false
is_refused u k.TooLong = false
is_refused u k.TooDeep = false
is_refused u k.BlockChoice = is_choiceless u

abbrev pub block_causes : List K
block_causes = k.UnknownName ∷ k.Redeclared ∷ k.BlockChoice ∷ []

-- the earliest refusal so far, and then those of one use
abbrev pub block_noted : Option KbFault → BlockUse → Option KbFault
block_noted = noted_at is_refused place_of_block block_causes

-- what the stage of blocks returns where it refuses nothing
pub record IsPicked (f : File) (theory structure : Option Text) (picked_theory picked_structure : ℕ) : Type 0 where
  pub accepted : (q : KbFault) → BlocksRefuse (block_uses f theory structure) q → ⊥
  pub one_vocabulary : length f.vocabularies ≡ 1
  pub theory_chosen : chosen (map (λ t. t.header.name) f.theories) theory ≡ Some picked_theory
  pub structure_chosen : chosen (header_names f.structures) structure ≡ Some picked_structure
