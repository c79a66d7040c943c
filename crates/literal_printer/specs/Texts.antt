-- The texts of elements and literals.
use Rattle.std.specs.Prelude.{ℕ, List, [], ◌∷◌, ◌++◌, Bool, true, false, Option, Some, None, flat_map, codes, slice_get}
use Rattle.std.specs.Fmt.{signed_decimal}
use Rattle.kb_logic.specs.declared.elements.Elem.{Elem}
use Rattle.kb_logic.specs.declared.elements.Elem.TheVariants.{Named, Num}
use Rattle.kb_logic.specs.declared.vocabularies.Symbol.{Symbol}
use Rattle.kb_logic.specs.declared.vocabularies.Vocabulary.{Vocabulary}
use Rattle.kb_logic.specs.declared.structures.Literal.{Literal}

-- a word, or an integer in decimal
abbrev pub elem_text : Elem → List ℕ
elem_text (Named name) = name
elem_text (Num n) = signed_decimal n

-- `a,b`
abbrev pub row_text : List Elem → List ℕ
row_text [] = []
row_text (elem ∷ elems) = elem_text elem ++ flat_map (λ x. codes "," ++ elem_text x) elems

abbrev pub name_of : Option Symbol → List ℕ
name_of None = []
name_of (Some s) = s.name

-- nothing, or the arguments in parentheses
abbrev pub args_text : List Elem → List ℕ
args_text [] = []
args_text (x ∷ xs) = codes "(" ++ (row_text (x ∷ xs) ++ codes ")")

abbrev pub atom_text : Vocabulary → Literal → List ℕ
atom_text vocab l = name_of (slice_get vocab.symbols l.symbol) ++ args_text l.args

abbrev pub negation_text : Bool → List ℕ
negation_text true = []
negation_text false = codes "~"

abbrev pub equality_text : Bool → List ℕ
equality_text true = codes " = "
equality_text false = codes " ~= "

-- `P(a,b)` or `~P(a,b)` where there is no value, and else `f(a,b) = c` or `f(a,b) ~= c`
abbrev pub valued_text : Vocabulary → Literal → Option Elem → List ℕ
valued_text vocab l None = negation_text l.positive ++ atom_text vocab l
valued_text vocab l (Some x) = atom_text vocab l ++ (equality_text l.positive ++ elem_text x)

abbrev pub literal_text : Vocabulary → Literal → List ℕ
literal_text vocab l = valued_text vocab l l.value
