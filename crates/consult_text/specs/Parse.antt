-- What is cut off the front of the tokens of a line; and that nothing of its kind stands there, where nothing is.
use Rattle.std.specs.Prelude.{◌≡◌, ◌≢◌, ℕ, List, [], ◌∷◌, ◌++◌, map, Bool, Option, Some, None, codes}
use Rattle.std.specs.Borrow.{Bor}
use Rattle.std.specs.List.{AllByRecursion}
use Rattle.kb_text.specs.declared.token.Token.{Token}
use Rattle.kb_text.specs.Tokens.{lexemes}
use Rattle.consult_text.specs.Written as written
use Rattle.consult_text.specs.Written.{Tok, word, digits, sign, WrittenElem, WrittenLiteral, WrittenCommand, named}
use Rattle.consult_text.specs.Written.{integer, atom, equation, put_elem, put_further, put_args, put_literal}
use Rattle.consult_text.specs.Written.{put_command, equals, IsName, HasName, HasNames, IsWellFormed}
use Rattle.consult_text.specs.Lines.{tok_of}
use Rattle.consult_text.specs.Budgets.{most_models, IsUpTo, IsBudget}
use Rattle.consult_text.specs.declared.written.ElemText.{ElemText}
use Rattle.consult_text.specs.declared.written.ElemText.TheVariants as elem
use Rattle.consult_text.specs.declared.written.Head.{Head}
use Rattle.consult_text.specs.declared.written.LiteralText.{LiteralText}
use Rattle.consult_text.specs.declared.written.CommandText.{CommandText}
use Rattle.consult_text.specs.declared.written.CommandText.TheVariants as command

abbrev pub elem_view : ElemText → WrittenElem
elem_view (elem.Name text) = named text.now
elem_view (elem.Integer negative text) = integer negative text.now

abbrev pub elem_views : List ElemText → List WrittenElem
elem_views = map elem_view

abbrev pub valued_view : LiteralText → Option ElemText → WrittenLiteral
valued_view l None = atom l.positive l.name.now (elem_views l.args.items)
valued_view l (Some value) = equation l.positive l.name.now (elem_views l.args.items) (elem_view value)

abbrev pub literal_view : LiteralText → WrittenLiteral
literal_view l = valued_view l l.value

abbrev pub command_view : CommandText → WrittenCommand
command_view (command.Assert l) = written.assert (literal_view l)
command_view (command.Retract l) = written.retract (literal_view l)
command_view command.Reset = written.reset
command_view command.Choices = written.choices
command_view command.Model = written.model
command_view (command.Models text) = written.models text.now
command_view command.Propagate = written.propagate
command_view (command.Minimize name) = written.minimize name.now
command_view (command.Explain l) = written.explain (literal_view l)
command_view command.Why = written.why
command_view (command.Budget text) = written.budget text.now
command_view command.Unlimited = written.unlimited
command_view command.Forget = written.forget

abbrev pub toks : List Token → List Tok
toks ts = map tok_of (lexemes ts)

-- the token at the front
abbrev pub Behind : Tok → List Tok → Option (Bor (List Token)) → Type 0
Behind t ts None = (rest : List Tok) → ts ≢ t ∷ rest
Behind t ts (Some rest) = ts ≡ t ∷ toks rest.now

-- a name
abbrev pub ParsesName : List Tok → Option (Bor (List ℕ) × Bor (List Token)) → Type 0
ParsesName ts None = (text : List ℕ) (rest : List Tok) → IsName text → ts ≢ word text ∷ rest
ParsesName ts (Some p) = (ts ≡ word p.0.now ∷ toks p.1.now) × IsName p.0.now

-- the digits of an integer
abbrev pub ParsesDigits : List Tok → Option (Bor (List ℕ) × Bor (List Token)) → Type 0
ParsesDigits ts None = (text : List ℕ) (rest : List Tok) → ts ≢ digits text ∷ rest
ParsesDigits ts (Some p) = ts ≡ digits p.0.now ∷ toks p.1.now

-- an element
abbrev pub ParsesElem : List Tok → Option (ElemText × Bor (List Token)) → Type 0
ParsesElem ts None = (e : WrittenElem) (rest : List Tok) → HasName e → ts ≢ put_elem e rest
ParsesElem ts (Some p) = (ts ≡ put_elem (elem_view p.0) (toks p.1.now)) × HasName (elem_view p.0)

abbrev pub close : List Tok → List Tok
close ts = sign (codes ")") ∷ ts

-- further elements and the closing parenthesis; they are added to those before
abbrev pub ParsesFurther : List ElemText → List ElemText → List Tok → Option (Bor (List Token)) → Type 0
ParsesFurther before now ts None = (es : List WrittenElem) (rest : List Tok) → AllByRecursion HasName es
    → ts ≢ put_further es (close rest)
ParsesFurther before now ts (Some rest) =
    (es : List WrittenElem) × (elem_views now ≡ elem_views before ++ es) × (ts ≡ put_further es (close (toks rest.now)))
    × AllByRecursion HasName es

-- no opening parenthesis comes first
abbrev pub IsClosed : List Tok → Type 0
IsClosed ts = (rest : List Tok) → ts ≢ sign (codes "(") ∷ rest

-- arguments, and what is after them wherever no opening parenthesis is
abbrev pub ParsesArgs : List Tok → List WrittenElem → List Tok → Type 0
ParsesArgs ts es rest =
    (ts ≡ put_args es rest) × AllByRecursion HasName es × ((es' : List WrittenElem) (rest' : List Tok) → IsClosed rest'
    → ts ≡ put_args es' rest' → rest' ≡ rest)

abbrev pub HasNoArgs : List Tok → Type 0
HasNoArgs ts = (es : List WrittenElem) (rest : List Tok) → AllByRecursion HasName es → IsClosed rest
    → ts ≢ put_args es rest

-- a name with arguments, and what is after them wherever no opening parenthesis is
abbrev pub ParsesHead : List Tok → List ℕ → List WrittenElem → List Tok → Type 0
ParsesHead ts name es rest =
    (ts ≡ word name ∷ put_args es rest) × IsName name × AllByRecursion HasName es
    × ((name' : List ℕ) (es' : List WrittenElem) (rest' : List Tok) → IsClosed rest'
    → ts ≡ word name' ∷ put_args es' rest' → rest' ≡ rest)

abbrev pub HasNoHead : List Tok → Type 0
HasNoHead ts = (name : List ℕ) (es : List WrittenElem) (rest : List Tok) → IsName name → AllByRecursion HasName es
    → IsClosed rest → ts ≢ word name ∷ put_args es rest

-- the literal with this sign, name, arguments and value
abbrev pub head_literal : Bool → Head → Option ElemText → WrittenLiteral
head_literal positive h None = atom positive h.name.now (elem_views h.args.items)
head_literal positive h (Some value) = equation positive h.name.now (elem_views h.args.items) (elem_view value)

abbrev pub dot : List Tok
dot = sign (codes ".") ∷ []

-- the sign between a function's term and its value
abbrev pub ParsesEquality : List Tok → Option (Bool × Bor (List Token)) → Type 0
ParsesEquality ts None = (positive : Bool) (rest : List Tok) → ts ≢ sign (equals positive) ∷ rest
ParsesEquality ts (Some p) = ts ≡ sign (equals p.0) ∷ toks p.1.now

-- the tokens after the sign of an atom that is false
abbrev pub ParsesNegated : List Tok → Option LiteralText → Type 0
ParsesNegated ts None = (name : List ℕ) (es : List WrittenElem) → IsName name → AllByRecursion HasName es
    → ts ≢ word name ∷ put_args es dot
ParsesNegated ts (Some l) = (sign (codes "~") ∷ ts ≡ put_literal (literal_view l) dot) × HasNames (literal_view l)

-- the tokens of a literal with no `~` before it
abbrev pub ParsesPositive : List Tok → Option LiteralText → Type 0
ParsesPositive ts None = ((name : List ℕ) (es : List WrittenElem) → IsName name → AllByRecursion HasName es
    → ts ≢ word name ∷ put_args es dot) × ((positive : Bool) (name : List ℕ) (es : List WrittenElem) (e : WrittenElem)
    → IsName name → AllByRecursion HasName es → HasName e
    → ts ≢ word name ∷ put_args es (sign (equals positive) ∷ put_elem e dot))
ParsesPositive ts (Some l) = (ts ≡ put_literal (literal_view l) dot) × HasNames (literal_view l)

-- the tokens are those of a literal and the dot
abbrev pub ParsesLiteral : List Tok → Option LiteralText → Type 0
ParsesLiteral ts None = (l : WrittenLiteral) → HasNames l → ts ≢ put_literal l dot
ParsesLiteral ts (Some l) = (ts ≡ put_literal (literal_view l) dot) × HasNames (literal_view l)

-- the tokens of a command about a literal
abbrev pub ParsesAbout : List Tok → Option CommandText → Type 0
ParsesAbout ts None = (l : WrittenLiteral) → HasNames l → (ts ≢ put_command (written.assert l))
    × (ts ≢ put_command (written.retract l)) × (ts ≢ put_command (written.explain l))
ParsesAbout ts (Some c) = (ts ≡ put_command (command_view c)) × IsWellFormed (command_view c)

-- the digits of a number from 1 to the limit, and the dot
abbrev pub ParsesNumber : ℕ → List Tok → Option (Bor (List ℕ)) → Type 0
ParsesNumber limit ts None = (text : List ℕ) → IsUpTo limit text → ts ≢ digits text ∷ dot
ParsesNumber limit ts (Some text) = (ts ≡ digits text.now ∷ dot) × IsUpTo limit text.now

-- the tokens after the word `budget`
abbrev pub ParsesBudget : List Tok → Option CommandText → Type 0
ParsesBudget ts None = ((text : List ℕ) → IsBudget text → ts ≢ digits text ∷ dot)
    × (ts ≢ word (codes "unlimited") ∷ dot)
ParsesBudget ts (Some c) = (word (codes "budget") ∷ ts ≡ put_command (command_view c)) × IsWellFormed (command_view c)

-- the tokens of a command with a number
abbrev pub ParsesNumbered : List Tok → Option CommandText → Type 0
ParsesNumbered ts None = ((text : List ℕ) → IsBudget text → ts ≢ put_command (written.budget text))
    × (ts ≢ put_command written.unlimited)
    × ((text : List ℕ) → IsUpTo most_models text → ts ≢ put_command (written.models text))
ParsesNumbered ts (Some c) = (ts ≡ put_command (command_view c)) × IsWellFormed (command_view c)

-- the tokens of a command about a term block
abbrev pub ParsesMinimize : List Tok → Option CommandText → Type 0
ParsesMinimize ts None = (name : List ℕ) → IsName name → ts ≢ put_command (written.minimize name)
ParsesMinimize ts (Some c) = (ts ≡ put_command (command_view c)) × IsWellFormed (command_view c)

-- the tokens are those of a command of one word
abbrev pub ParsesShort : List Tok → Option CommandText → Type 0
ParsesShort ts None =
    (ts ≢ word (codes "reset") ∷ dot) × (ts ≢ word (codes "choices") ∷ dot) × (ts ≢ word (codes "model") ∷ dot)
    × (ts ≢ word (codes "propagate") ∷ dot) × (ts ≢ word (codes "why") ∷ dot) × (ts ≢ word (codes "forget") ∷ dot)
ParsesShort ts (Some c) = (ts ≡ put_command (command_view c)) × IsWellFormed (command_view c)

-- the tokens are those of a command
abbrev pub ParsesCommand : List Tok → Option CommandText → Type 0
ParsesCommand ts None = (w : WrittenCommand) → IsWellFormed w → ts ≢ put_command w
ParsesCommand ts (Some c) = (ts ≡ put_command (command_view c)) × IsWellFormed (command_view c)
