-- What the words of a vocabulary mean.
use Rattle.std.specs.Prelude.{ℕ, ◌+◌, ◌==◌, is_some, List, [], ◌∷◌, ◌++◌, length, Option, None, Some, unwrap_or}
use Rattle.std.specs.Prelude.{if◌then◌else◌, codes}
use Rattle.std.specs.Str.{bytes_eq}
use Rattle.grammar.specs.Trees.{Name, name}
use Rattle.stage_definitions.specs.Scopes.{Text, last_position}
use Rattle.stage_definitions.specs.Files.{Declaration, type_under, constructed_type, symbol}

abbrev pub text_of : Name → Text
text_of (name t p) = t

abbrev pub place_of_name : Name → ℕ
place_of_name (name t p) = p

-- a word is a bound variable with its number, or as it is declared: a type with its number, a predicate or function
-- with its number and how many arguments it takes, or the name of an element, with its type and its place there
pub data Meaning : Type 0 where
  undeclared : Meaning
  integers : Meaning
  naturals : Meaning
  a_type : ℕ → Meaning
  predicate : ℕ → ℕ → Meaning
  function : ℕ → ℕ → Meaning
  made : ℕ → ℕ → Meaning
  variable : ℕ → Meaning

-- the names declared so far, each with what it means
abbrev pub Names : Type 0
Names = List (Text × Meaning)

abbrev pub meaning_in : Names → Text → Option Meaning
meaning_in [] word = None
meaning_in (e ∷ es) word = if bytes_eq word e.0 then Some e.1 else meaning_in es word

abbrev pub meaning_of : Names → Text → Meaning
meaning_of names word = unwrap_or (meaning_in names word) undeclared

-- one more declaration: a name that is declared already keeps its meaning
abbrev pub declared : Names → Text → Meaning → Names
declared names word meaning = if is_some (meaning_in names word) then names else names ++ (word, meaning) ∷ []

-- `int` and `nat` are taken
abbrev pub number_types : Names
number_types = (codes "int", integers) ∷ (codes "nat", naturals) ∷ []

abbrev pub symbol_meaning : ℕ → ℕ → Option Name → Meaning
symbol_meaning number arity None = predicate number arity
symbol_meaning number arity (Some value) = function number arity

-- the names of a constructed type's elements, from this place on
abbrev pub made_names : ℕ → ℕ → List Name → List (Name × Meaning)
made_names ty place [] = []
made_names ty place (n ∷ ns) = (n, made ty place) ∷ made_names ty (place + 1) ns

-- each name in the order of the text, where so many types and symbols stand before
abbrev pub declared_names : ℕ → ℕ → List Declaration → List (Name × Meaning)
declared_names types symbols [] = []
declared_names types symbols (type_under n parent ∷ ds) = (n, a_type types) ∷ declared_names (types + 1) symbols ds
declared_names types symbols (constructed_type n ns ∷ ds) =
    (n, a_type types) ∷ (made_names types 0 ns ++ declared_names (types + 1) symbols ds)
declared_names types symbols (symbol n args value ∷ ds) =
    (n, symbol_meaning symbols (length args) value) ∷ declared_names types (symbols + 1) ds

abbrev pub with_names : Names → List (Name × Meaning) → Names
with_names names [] = names
with_names names (e ∷ es) = with_names (declared names (text_of e.0) e.1) es

-- types, symbols and names of elements share one space of names
abbrev pub names_of : List Declaration → Names
names_of ds = with_names number_types (declared_names 0 0 ds)

-- a word without arguments is the innermost bound variable of that name; else a word is what is declared
abbrev pub variable_or : Option ℕ → Meaning → Meaning
variable_or (Some level) meaning = variable level
variable_or None meaning = meaning

abbrev pub meaning_at : Names → List Text → Name → ℕ → Meaning
meaning_at names scope word count =
    variable_or (if count == 0 then last_position (text_of word) scope else None) (meaning_of names (text_of word))
