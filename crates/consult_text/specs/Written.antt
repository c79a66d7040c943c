-- Command lines as they are written, and the tokens that spell them.
use Rattle.std.specs.Prelude.{◌≡◌, ℕ, List, [], ◌∷◌, Bool, true, false, codes, ⊤}
use Rattle.std.specs.List.{AllByRecursion}
use Rattle.kb_text.specs.Tokens.{is_word_of}
use Rattle.consult_text.specs.Budgets.{most_models, IsUpTo, IsBudget}

-- a token, without its place
pub data Tok : Type 0 where
  word : (text : List ℕ) → Tok
  digits : (text : List ℕ) → Tok
  sign : (text : List ℕ) → Tok
  procedure : Tok

-- an element as it is written: a name, or digits with or without a minus
pub data WrittenElem : Type 0 where
  named : (text : List ℕ) → WrittenElem
  integer : (negative : Bool) (text : List ℕ) → WrittenElem

-- a literal as it is written: `P(a,b)`, `~P(a,b)`, `p`, `~p`; or `f(a,b) = c`, `f(a,b) ~= c`, `c = e`, `c ~= e`
pub data WrittenLiteral : Type 0 where
  atom : (positive : Bool) (name : List ℕ) (args : List WrittenElem) → WrittenLiteral
  equation : (positive : Bool) (name : List ℕ) (args : List WrittenElem) (value : WrittenElem) → WrittenLiteral

-- a command as it is written
pub data WrittenCommand : Type 0 where
  assert : (literal : WrittenLiteral) → WrittenCommand
  retract : (literal : WrittenLiteral) → WrittenCommand
  reset : WrittenCommand
  choices : WrittenCommand
  model : WrittenCommand
  models : (text : List ℕ) → WrittenCommand
  propagate : WrittenCommand
  minimize : (name : List ℕ) → WrittenCommand
  explain : (literal : WrittenLiteral) → WrittenCommand
  why : WrittenCommand
  budget : (text : List ℕ) → WrittenCommand
  unlimited : WrittenCommand
  forget : WrittenCommand

abbrev pub put_elem : WrittenElem → List Tok → List Tok
put_elem (named text) ts = word text ∷ ts
put_elem (integer true text) ts = sign (codes "-") ∷ digits text ∷ ts
put_elem (integer false text) ts = digits text ∷ ts

-- further elements, with a comma before each
abbrev pub put_further : List WrittenElem → List Tok → List Tok
put_further [] ts = ts
put_further (e ∷ es) ts = sign (codes ",") ∷ put_elem e (put_further es ts)

-- the arguments in parentheses, and nothing where there are none
abbrev pub put_args : List WrittenElem → List Tok → List Tok
put_args [] ts = ts
put_args (e ∷ es) ts = sign (codes "(") ∷ put_elem e (put_further es (sign (codes ")") ∷ ts))

abbrev pub put_sign : Bool → List Tok → List Tok
put_sign true ts = ts
put_sign false ts = sign (codes "~") ∷ ts

abbrev pub equals : Bool → List ℕ
equals true = codes "="
equals false = codes "~="

abbrev pub put_literal : WrittenLiteral → List Tok → List Tok
put_literal (atom positive name args) ts = put_sign positive (word name ∷ put_args args ts)
put_literal (equation positive name args value) ts =
    word name ∷ put_args args (sign (equals positive) ∷ put_elem value ts)

-- the tokens of the command
abbrev pub put_command : WrittenCommand → List Tok
put_command (assert l) = word (codes "assert") ∷ put_literal l (sign (codes ".") ∷ [])
put_command (retract l) = word (codes "retract") ∷ put_literal l (sign (codes ".") ∷ [])
put_command reset = word (codes "reset") ∷ sign (codes ".") ∷ []
put_command choices = word (codes "choices") ∷ sign (codes ".") ∷ []
put_command model = word (codes "model") ∷ sign (codes ".") ∷ []
put_command (models text) = word (codes "models") ∷ digits text ∷ sign (codes ".") ∷ []
put_command propagate = word (codes "propagate") ∷ sign (codes ".") ∷ []
put_command (minimize name) = word (codes "minimize") ∷ word name ∷ sign (codes ".") ∷ []
put_command (explain l) = word (codes "explain") ∷ put_literal l (sign (codes ".") ∷ [])
put_command why = word (codes "why") ∷ sign (codes ".") ∷ []
put_command (budget text) = word (codes "budget") ∷ digits text ∷ sign (codes ".") ∷ []
put_command unlimited = word (codes "budget") ∷ word (codes "unlimited") ∷ sign (codes ".") ∷ []
put_command forget = word (codes "forget") ∷ sign (codes ".") ∷ []

-- words that are no names
abbrev pub reserved_words : List (List ℕ)
reserved_words = codes "vocabulary" ∷ codes "theory" ∷ codes "structure" ∷ codes "term" ∷ codes "procedure"
    ∷ codes "type" ∷ codes "isa" ∷ codes "constructed" ∷ codes "true" ∷ codes "false" ∷ codes "sum" ∷ codes "min"
    ∷ codes "max" ∷ []

abbrev pub IsName : List ℕ → Type 0
IsName text = is_word_of reserved_words text ≡ false

abbrev pub HasName : WrittenElem → Type 0
HasName (named text) = IsName text
HasName (integer negative text) = ⊤

abbrev pub HasNames : WrittenLiteral → Type 0
HasNames (atom positive name args) = IsName name × AllByRecursion HasName args
HasNames (equation positive name args value) = IsName name × AllByRecursion HasName args × HasName value

-- its names are no reserved words, and its number is one that may stand there
abbrev pub IsWellFormed : WrittenCommand → Type 0
IsWellFormed (assert l) = HasNames l
IsWellFormed (retract l) = HasNames l
IsWellFormed reset = ⊤
IsWellFormed choices = ⊤
IsWellFormed model = ⊤
IsWellFormed (models text) = IsUpTo most_models text
IsWellFormed propagate = ⊤
IsWellFormed (minimize name) = IsName name
IsWellFormed (explain l) = HasNames l
IsWellFormed why = ⊤
IsWellFormed (budget text) = IsBudget text
IsWellFormed unlimited = ⊤
IsWellFormed forget = ⊤
