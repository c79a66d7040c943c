-- The stage of names: what it refuses.
use Rattle.std.specs.Prelude.{ℕ, ◌==◌, Bool, true, false, not, ◌||◌, ◌&&◌, IsTrue, is_some, nat_lt, List, [], ◌∷◌}
use Rattle.std.specs.Prelude.{◌++◌, length, Option, None, Some, if◌then◌else◌, zero, suc, slice_get, Contains}
use Rattle.std.specs.List.{flat_map}
use Rattle.kb_text.specs.declared.fault.K.{K}
use Rattle.kb_text.specs.declared.fault.K.TheVariants as k
use Rattle.kb_text.specs.declared.fault.KbFault.{KbFault}
use Rattle.stage_definitions.specs.Earliest.{refusal, noted_at}
use Rattle.stage_definitions.specs.Scopes.{last_position, is_among}
use Rattle.stage_definitions.specs.Standings.{may_stand}
use Rattle.stage_definitions.specs.Files.{Declaration, VocabularyBlock, File}
use Rattle.grammar.specs.Trees.{Name}
use Rattle.stage_definitions.specs.Names.{Names, Meaning, undeclared, integers, naturals, a_type, predicate, function}
use Rattle.stage_definitions.specs.Names.{made, variable, meaning_in, meaning_of, meaning_at, text_of, names_of}
use Rattle.stage_definitions.specs.Uses.{Use, declares, counted, climbs, parent, position, bound, formula_word}
use Rattle.stage_definitions.specs.Uses.{term_word}
use Rattle.stage_definitions.specs.Uses.{function_word, head_argument, an_aggregate, place_of_use, Context, is_simple}
use Rattle.stage_definitions.specs.Uses.{uses_of_declarations, uses_in_theory, uses_in_block}

-- ---- what a word may mean

abbrev pub is_undeclared : Meaning → Bool
is_undeclared undeclared = true
is_undeclared integers = false
is_undeclared naturals = false
is_undeclared (a_type t) = false
is_undeclared (predicate s n) = false
is_undeclared (function s n) = false
is_undeclared (made t i) = false
is_undeclared (variable level) = false

-- a type, `int` and `nat` included
abbrev pub is_type : Meaning → Bool
is_type undeclared = false
is_type integers = true
is_type naturals = true
is_type (a_type t) = true
is_type (predicate s n) = false
is_type (function s n) = false
is_type (made t i) = false
is_type (variable level) = false

abbrev pub is_number_type : Meaning → Bool
is_number_type undeclared = false
is_number_type integers = true
is_number_type naturals = true
is_number_type (a_type t) = false
is_number_type (predicate s n) = false
is_number_type (function s n) = false
is_number_type (made t i) = false
is_number_type (variable level) = false

-- declared, but as no type
abbrev pub is_no_type : Meaning → Bool
is_no_type undeclared = false
is_no_type integers = false
is_no_type naturals = false
is_no_type (a_type t) = false
is_no_type (predicate s n) = true
is_no_type (function s n) = true
is_no_type (made t i) = true
is_no_type (variable level) = true

-- of another kind than a formula with so many arguments; a type's name is another refusal
abbrev pub is_no_formula : Meaning → ℕ → Bool
is_no_formula undeclared count = false
is_no_formula integers count = false
is_no_formula naturals count = false
is_no_formula (a_type t) count = false
is_no_formula (predicate s n) count = not (n == count)
is_no_formula (function s n) count = true
is_no_formula (made t i) count = true
is_no_formula (variable level) count = true

-- of another kind than a term with so many arguments
abbrev pub is_no_term : Meaning → ℕ → Bool
is_no_term undeclared count = false
is_no_term integers count = false
is_no_term naturals count = false
is_no_term (a_type t) count = false
is_no_term (predicate s n) count = true
is_no_term (function s n) count = not (n == count)
is_no_term (made t i) count = not (count == 0)
is_no_term (variable level) count = false

-- of another kind than a function of a head with so many arguments
abbrev pub is_no_function : Meaning → ℕ → Bool
is_no_function undeclared count = false
is_no_function integers count = false
is_no_function naturals count = false
is_no_function (a_type t) count = false
is_no_function (predicate s n) count = true
is_no_function (function s n) count = not (n == count)
is_no_function (made t i) count = true
is_no_function (variable level) count = true

abbrev pub is_symbol : Meaning → Bool
is_symbol undeclared = false
is_symbol integers = false
is_symbol naturals = false
is_symbol (a_type t) = false
is_symbol (predicate s n) = true
is_symbol (function s n) = true
is_symbol (made t i) = false
is_symbol (variable level) = false

-- a symbol that the definition defines in which the word stands
abbrev pub is_defined : Names → Context → Name → ℕ → Bool
is_defined names c w n = is_symbol (meaning_at names c.scope w n) && is_among (text_of w) c.defined

-- ---- cycles of `isa`

-- whether the parent, where there is one, passes
abbrev pub stepped : Option (Option ℕ) → (ℕ → Bool) → Bool
stepped None test = false
stepped (Some None) test = false
stepped (Some (Some b)) test = test b

-- at most so many steps up from the type a lead to the type t, by no type with a number below t
abbrev pub comes_back : ℕ → List (Option ℕ) → ℕ → ℕ → Bool
comes_back zero parents t a = false
comes_back (suc n) parents t a =
    stepped (slice_get parents a) (λ b. if b == t then true else
    (if nat_lt b t then false else comes_back n parents t b))

-- the type number t is the first one of a cycle: some steps up lead back to it, by no earlier type
abbrev pub begins_cycle : List (Option ℕ) → ℕ → Bool
begins_cycle parents t = comes_back (length parents) parents t t

-- ---- the rows of the table, each a test of a use by itself

abbrev pub is_unknown : Names → Use → Bool
is_unknown names (declares before w) = false
is_unknown names (counted greatest number w) = false
is_unknown names (climbs parents number w) = false
is_unknown names (parent w) = is_undeclared (meaning_of names (text_of w))
is_unknown names (position w) = is_undeclared (meaning_of names (text_of w))
is_unknown names (bound before w) = false
is_unknown names (formula_word c w n) = is_undeclared (meaning_at names c.scope w n)
is_unknown names (term_word c w n) = is_undeclared (meaning_at names c.scope w n)
is_unknown names (function_word scope w n) = is_undeclared (meaning_at names scope w n)
is_unknown names (head_argument scope t) = false
is_unknown names (an_aggregate s k place) = false

abbrev pub is_redeclared : Use → Bool
is_redeclared (declares before w) = is_some (meaning_in before (text_of w))
is_redeclared (counted greatest number w) = false
is_redeclared (climbs parents number w) = begins_cycle parents number
is_redeclared (parent w) = false
is_redeclared (position w) = false
is_redeclared (bound before w) = is_some (last_position (text_of w) before)
is_redeclared (formula_word c w n) = false
is_redeclared (term_word c w n) = false
is_redeclared (function_word scope w n) = false
is_redeclared (head_argument scope t) = false
is_redeclared (an_aggregate s k place) = false

abbrev pub is_wrong : Names → Use → Bool
is_wrong names (declares before w) = false
is_wrong names (counted greatest number w) = false
is_wrong names (climbs parents number w) = false
is_wrong names (parent w) = is_no_type (meaning_of names (text_of w))
is_wrong names (position w) = is_no_type (meaning_of names (text_of w))
is_wrong names (bound before w) = false
is_wrong names (formula_word c w n) = is_no_formula (meaning_at names c.scope w n) n
is_wrong names (term_word c w n) = is_no_term (meaning_at names c.scope w n) n
is_wrong names (function_word scope w n) = is_no_function (meaning_at names scope w n) n
is_wrong names (head_argument scope t) = false
is_wrong names (an_aggregate s k place) = false

abbrev pub is_unsupported : Names → Use → Bool
is_unsupported names (declares before w) = false
is_unsupported names (counted greatest number w) = false
is_unsupported names (climbs parents number w) = false
is_unsupported names (parent w) = false
is_unsupported names (position w) = is_number_type (meaning_of names (text_of w))
is_unsupported names (bound before w) = false
is_unsupported names (formula_word c w n) = is_type (meaning_at names c.scope w n) || is_defined names c w n
is_unsupported names (term_word c w n) = is_type (meaning_at names c.scope w n) || is_defined names c w n
is_unsupported names (function_word scope w n) = is_type (meaning_at names scope w n)
is_unsupported names (head_argument scope t) = false
is_unsupported names (an_aggregate s k place) = not (may_stand s k)

abbrev pub is_bad_head : Names → Use → Bool
is_bad_head names (declares before w) = false
is_bad_head names (counted greatest number w) = false
is_bad_head names (climbs parents number w) = false
is_bad_head names (parent w) = false
is_bad_head names (position w) = false
is_bad_head names (bound before w) = false
is_bad_head names (formula_word c w n) = false
is_bad_head names (term_word c w n) = false
is_bad_head names (function_word scope w n) = false
is_bad_head names (head_argument scope t) = not (is_simple names scope t)
is_bad_head names (an_aggregate s k place) = false

abbrev pub is_too_many : Use → Bool
is_too_many (declares before w) = false
is_too_many (counted greatest number w) = nat_lt greatest number
is_too_many (climbs parents number w) = false
is_too_many (parent w) = false
is_too_many (position w) = false
is_too_many (bound before w) = false
is_too_many (formula_word c w n) = false
is_too_many (term_word c w n) = false
is_too_many (function_word scope w n) = false
is_too_many (head_argument scope t) = false
is_too_many (an_aggregate s k place) = false

-- a constructor for each row
pub data Refuses (names : Names) (us : List Use) : KbFault → Type 0 where
  unknown_name : (u : Use) → Contains us u → IsTrue (is_unknown names u)
      → Refuses names us (refusal k.UnknownName (place_of_use u))
  redeclared : (u : Use) → Contains us u → IsTrue (is_redeclared u)
      → Refuses names us (refusal k.Redeclared (place_of_use u))
  wrong_arity : (u : Use) → Contains us u → IsTrue (is_wrong names u)
      → Refuses names us (refusal k.WrongArity (place_of_use u))
  unsupported : (u : Use) → Contains us u → IsTrue (is_unsupported names u)
      → Refuses names us (refusal k.Unsupported (place_of_use u))
  bad_head : (u : Use) → Contains us u → IsTrue (is_bad_head names u)
      → Refuses names us (refusal k.BadHead (place_of_use u))
  too_large : (u : Use) → Contains us u → IsTrue (is_too_many u)
      → Refuses names us (refusal k.TooLarge (place_of_use u))

-- the same table by causes
abbrev pub is_refused : Names → Use → K → Bool
is_refused names u k.Syntax = false
is_refused names u k.UnknownName = is_unknown names u
is_refused names u k.Redeclared = is_redeclared u
is_refused names u k.WrongArity = is_wrong names u
is_refused names u k.TypeClash = false
is_refused names u k.Untyped = false
is_refused names u k.TypeNotGiven = false
is_refused names u k.NotAnElement = false
is_refused names u k.DataClash = false
is_refused names u k.Unsupported = is_unsupported names u
is_refused names u k.BadHead = is_bad_head names u
is_refused names u k.OutOfRange = false
is_refused names u k.TooLarge = is_too_many u
is_refused names u k.TooLong = false
is_refused names u k.TooDeep = false
is_refused names u k.BlockChoice = false

abbrev pub name_causes : List K
name_causes = k.UnknownName ∷ k.Redeclared ∷ k.WrongArity ∷ k.Unsupported ∷ k.BadHead ∷ k.TooLarge ∷ []

-- the earliest refusal so far, and then those of one use
abbrev pub name_noted : Names → Option KbFault → Use → Option KbFault
name_noted names = noted_at (is_refused names) place_of_use name_causes

-- ---- a file

-- the declarations of the vocabulary; there is one where the stage of blocks refuses nothing
abbrev pub declarations_of : List VocabularyBlock → List Declaration
declarations_of [] = []
declarations_of (v ∷ vs) = v.declarations

abbrev pub uses_of_file : File → List Use
uses_of_file f =
    uses_of_declarations (declarations_of f.vocabularies)
    ++ (flat_map (uses_in_theory (names_of (declarations_of f.vocabularies))) f.theories
    ++ flat_map uses_in_block f.terms)

abbrev pub NamesRefuse : File → KbFault → Type 0
NamesRefuse f = Refuses (names_of (declarations_of f.vocabularies)) (uses_of_file f)
