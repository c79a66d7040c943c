-- The stage of types: what it refuses, and what it returns where it refuses nothing.
use Rattle.std.specs.Prelude.{ℕ, ◌≡◌, Bool, true, false, not, ◌&&◌, IsTrue, List, [], ◌∷◌, ◌++◌, map, Option, Contains}
use Rattle.std.specs.List.{flat_map}
use Rattle.kb_text.specs.declared.fault.K.{K}
use Rattle.kb_text.specs.declared.fault.K.TheVariants as k
use Rattle.kb_text.specs.declared.fault.KbFault.{KbFault}
use Rattle.kb_logic.specs.declared.vocabularies.TypeDecl.{TypeDecl}
use Rattle.kb_logic.specs.declared.vocabularies.Vocabulary.{Vocabulary}
use Rattle.stage_definitions.specs.Earliest.{refusal, noted_at}
use Rattle.stage_definitions.specs.Kinship.{is_number_type, are_akin, is_under}
use Rattle.stage_definitions.specs.Demands.{TermType, whole, declared, untyped, Demand, a_number, sides}
use Rattle.stage_definitions.specs.Demands.{predicate_argument, function_argument, head_value, Finding, nothing, found}
use Rattle.stage_definitions.specs.Demands.{torn, Binding, Part, demand, scope, Parts, no_parts, more_parts, parts_of}
use Rattle.stage_definitions.specs.Demands.{formula_parts, rule_parts, term_parts, number_demand}
use Rattle.stage_definitions.specs.NamedTrees.{NamedTerm, NamedFormula, NamedRule}
use Rattle.stage_definitions.specs.Numbering.{NamedTheoryTree, NamedTermTree, NamedFile}
use Rattle.stage_definitions.specs.TypedFiles.{TypedFile, typed_file}
use Rattle.stage_definitions.specs.Typing.{type_in, within, all_settled}

-- a variable where it is bound, with all that is found; or a demand, where the variables in scope have these types
pub data TypeUse : Type 0 where
  binding : Binding → TypeUse
  demanded : List (Option ℕ) → Demand → TypeUse

abbrev pub place_of_demand : Demand → ℕ
place_of_demand (a_number p k) = p
place_of_demand (sides p a b) = p
place_of_demand (predicate_argument p k t) = p
place_of_demand (function_argument p i k t) = p
place_of_demand (head_value p k t) = p

abbrev pub place_of_type_use : TypeUse → ℕ
place_of_type_use (binding b) = b.place
place_of_type_use (demanded types_in_scope d) = place_of_demand d

-- ---- the rows of the table, each a test of a use by itself; a term without a type is refused nowhere, since its
-- variable is refused earlier

abbrev pub is_no_number : List TypeDecl → TermType → Bool
is_no_number types whole = false
is_no_number types (declared t) = not (is_number_type types t)
is_no_number types untyped = false

abbrev pub are_apart : List TypeDecl → TermType → TermType → Bool
are_apart types untyped b = false
are_apart types whole b = is_no_number types b
are_apart types (declared t) untyped = false
are_apart types (declared t) whole = is_no_number types (declared t)
are_apart types (declared t) (declared u) = not (are_akin types t u)

-- an argument of a function is below its position, or an integer at the position of a number
abbrev pub is_misplaced : List TypeDecl → Bool → TermType → ℕ → Bool
is_misplaced types is_integer untyped u = false
is_misplaced types is_integer whole u = not (is_integer && is_number_type types u)
is_misplaced types is_integer (declared t) u = not (is_under types t u)

abbrev pub is_unmet : List TypeDecl → List (Option ℕ) → Demand → Bool
is_unmet types types_in_scope (a_number p k) = is_no_number types (type_in types_in_scope k)
is_unmet types types_in_scope (sides p a b) = are_apart types (type_in types_in_scope a) (type_in types_in_scope b)
is_unmet types types_in_scope (predicate_argument p k t) = are_apart types (type_in types_in_scope k) (declared t)
is_unmet types types_in_scope (function_argument p i k t) = is_misplaced types i (type_in types_in_scope k) t
is_unmet types types_in_scope (head_value p k t) = false

abbrev pub is_torn : Finding → Bool
is_torn nothing = false
is_torn (found t) = false
is_torn torn = true

abbrev pub is_nothing : Finding → Bool
is_nothing nothing = true
is_nothing (found t) = false
is_nothing torn = false

abbrev pub is_type_clash : List TypeDecl → TypeUse → Bool
is_type_clash types (binding b) = is_torn b.finding
is_type_clash types (demanded types_in_scope d) = is_unmet types types_in_scope d

abbrev pub is_untyped : TypeUse → Bool
is_untyped (binding b) = is_nothing b.finding
is_untyped (demanded types_in_scope d) = false

-- ---- the uses in parts whose variables have all that is found

abbrev mutual
  pub uses_at : List (Option ℕ) → Part → List TypeUse
  uses_at types_in_scope (demand d) = demanded types_in_scope d ∷ []
  uses_at types_in_scope (scope bs ps) = map binding bs ++ uses_among (within types_in_scope bs) ps

  pub uses_among : List (Option ℕ) → Parts → List TypeUse
  uses_among types_in_scope no_parts = []
  uses_among types_in_scope (more_parts p ps) = uses_at types_in_scope p ++ uses_among types_in_scope ps

-- ---- a file

-- what a sentence demands, with all that is found of its variables' types
abbrev pub sentence_settled : Vocabulary → NamedFormula → Parts
sentence_settled v f = all_settled v.types (parts_of (formula_parts v.symbols f))

-- and a rule of a definition
abbrev pub rule_settled : Vocabulary → NamedRule → Parts
rule_settled v r = all_settled v.types (parts_of (rule_parts v.symbols r))

-- and the term of a term block, which has to be a number
abbrev pub block_settled : Vocabulary → NamedTerm → Parts
block_settled v t = all_settled v.types (parts_of (number_demand v.symbols t ∷ term_parts v.symbols t))

abbrev pub sentence_type_uses : Vocabulary → NamedFormula → List TypeUse
sentence_type_uses v s = uses_among [] (sentence_settled v s)

abbrev pub rule_type_uses : Vocabulary → NamedRule → List TypeUse
rule_type_uses v r = uses_among [] (rule_settled v r)

-- the sentences, and then the rules of the definitions
abbrev pub theory_type_uses : NamedFile → NamedTheoryTree → List TypeUse
theory_type_uses f t =
    flat_map (sentence_type_uses f.vocabulary) t.sentences
    ++ flat_map (flat_map (rule_type_uses f.vocabulary)) t.definitions

abbrev pub block_type_uses : NamedFile → NamedTermTree → List TypeUse
block_type_uses f t = uses_among [] (block_settled f.vocabulary t.term)

abbrev pub type_uses_of_file : NamedFile → List TypeUse
type_uses_of_file f = flat_map (theory_type_uses f) f.theories ++ flat_map (block_type_uses f) f.terms

-- a constructor for each row
pub data TypesRefuse (f : NamedFile) : KbFault → Type 0 where
  type_clash : (u : TypeUse) → Contains (type_uses_of_file f) u → IsTrue (is_type_clash f.vocabulary.types u)
      → TypesRefuse f (refusal k.TypeClash (place_of_type_use u))
  no_type : (u : TypeUse) → Contains (type_uses_of_file f) u → IsTrue (is_untyped u)
      → TypesRefuse f (refusal k.Untyped (place_of_type_use u))

-- the same table by causes
abbrev pub is_type_refused : List TypeDecl → TypeUse → K → Bool
is_type_refused types u k.Syntax = false
is_type_refused types u k.UnknownName = false
is_type_refused types u k.Redeclared = false
is_type_refused types u k.WrongArity = false
is_type_refused types u k.TypeClash = is_type_clash types u
is_type_refused types u k.Untyped = is_untyped u
is_type_refused types u k.TypeNotGiven = false
is_type_refused types u k.NotAnElement = false
is_type_refused types u k.DataClash = false
is_type_refused types u k.Unsupported = false
is_type_refused types u k.BadHead = false
is_type_refused types u k.OutOfRange = false
is_type_refused types u k.TooLarge = false
is_type_refused types u k.TooLong = false
is_type_refused types u k.TooDeep = false
is_type_refused types u k.BlockChoice = false

abbrev pub type_causes : List K
type_causes = k.TypeClash ∷ k.Untyped ∷ []

-- the earliest refusal so far, and then those of one use
abbrev pub type_noted : List TypeDecl → Option KbFault → TypeUse → Option KbFault
type_noted types = noted_at (is_type_refused types) place_of_type_use type_causes

-- what the stage of types returns where it refuses nothing
pub record IsTyped (f : NamedFile) (answer : TypedFile) : Type 0 where
  pub accepted : (q : KbFault) → TypesRefuse f q → ⊥
  pub tree : answer ≡ typed_file f
