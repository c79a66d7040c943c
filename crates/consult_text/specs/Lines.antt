-- What a command line means.
use Rattle.std.specs.Prelude.{◌≡◌, ◌≢◌, ◌<◌, ◌≤◌, ℕ, List, [], length, map, Contains, Option, Some, None, Result}
use Rattle.std.specs.Prelude.{Ok, Err, position, ⊤}
use Rattle.std.specs.Str.{bytes_eq}
use Rattle.kb_logic.specs.declared.vocabularies.Symbol.{Symbol}
use Rattle.kb_logic.specs.declared.structures.Literal.{Literal}
use Rattle.kb_logic.specs.Bases.{Base, NamedTerm}
use Rattle.kb_text.specs.Depth.{outermost}
use Rattle.kb_text.specs.declared.token.Kind.{Kind}
use Rattle.kb_text.specs.declared.token.Kind.TheVariants.{Word, Int, Sign, Procedure}
use Rattle.kb_text.specs.Tokens.{Lexeme, TokensFrom, decimal}
use Rattle.consult_text.specs.Budgets.{most_models}
use Rattle.consult_text.specs.Written as written
use Rattle.consult_text.specs.Written.{Tok, word, digits, sign, procedure, WrittenLiteral, WrittenCommand, put_command}
use Rattle.consult_text.specs.Written.{IsWellFormed}
use Rattle.consult_text.specs.Literals.{IsLiteralOver, IsFirstNamed, HasFormOf, literal_of, name_of}
use Rattle.consult_text.specs.declared.commands.Command.{Command}
use Rattle.consult_text.specs.declared.commands.Command.TheVariants as command
use Rattle.consult_text.specs.declared.lines.CommandError.{CommandError}
use Rattle.consult_text.specs.declared.lines.CommandError.TheVariants as errors
use Rattle.consult_text.specs.declared.refusals.F.{F}
use Rattle.consult_text.specs.declared.refusals.F.TheVariants as refusal

abbrev pub tok : Kind → List ℕ → Tok
tok Word text = word text
tok Int text = digits text
tok Sign text = sign text
tok Procedure text = procedure

abbrev pub tok_of : Lexeme → Tok
tok_of l = tok l.kind l.text

-- the line's tokens are this command; spaces and comments may stand between them
pub record IsWritten (line : List ℕ) (w : WrittenCommand) : Type 0 where
  pub lexemes : List Lexeme
  pub tokens : TokensFrom outermost 0 line (Ok lexemes)
  pub spelled : map tok_of lexemes ≡ put_command w
  pub formed : IsWellFormed w

-- the line has no token: nothing but spaces and comments
abbrev pub IsBlank : List ℕ → Type 0
IsBlank line = TokensFrom outermost 0 line (Ok [])

-- the line is neither blank nor a command
abbrev pub IsNoCommand : List ℕ → Type 0
IsNoCommand line = (IsBlank line → ⊥) × ((w : WrittenCommand) → IsWritten line w → ⊥)

-- the written literal stands for this one
abbrev pub StandsFor : Base → WrittenLiteral → Literal → Type 0
StandsFor kb w l =
    (number : ℕ) × (s : Symbol) × IsFirstNamed kb.vocabulary.symbols (name_of w) number s × HasFormOf s w
    × (l ≡ literal_of number w) × IsLiteralOver kb l

-- the written literal is refused, for the first of its causes: its symbol is not declared, is of another form, or an
-- element is not in its position's type
abbrev pub IsRefusedFor : Base → WrittenLiteral → F → Type 0
IsRefusedFor kb w refusal.UnknownSymbol = (s : Symbol) → Contains kb.vocabulary.symbols s → s.name ≢ name_of w
IsRefusedFor kb w refusal.WrongArity = (number : ℕ) × (s : Symbol)
    × IsFirstNamed kb.vocabulary.symbols (name_of w) number s × (HasFormOf s w → ⊥)
IsRefusedFor kb w refusal.NotAnElement =
    (number : ℕ) × (s : Symbol) × IsFirstNamed kb.vocabulary.symbols (name_of w) number s × HasFormOf s w
    × (IsLiteralOver kb (literal_of number w) → ⊥)
IsRefusedFor kb w _ = ⊥

-- the number of the first term block of this name
abbrev pub term_number : Base → List ℕ → Option ℕ
term_number kb name = position (λ (t : NamedTerm). bytes_eq name t.name) kb.terms

-- what the written command asks
abbrev pub Asks : Base → WrittenCommand → Command → Type 0
Asks kb (written.assert w) (command.Assert l) = StandsFor kb w l
Asks kb (written.retract w) (command.Retract l) = StandsFor kb w l
Asks kb written.reset command.Reset = ⊤
Asks kb written.choices command.Choices = ⊤
Asks kb written.model command.Model = ⊤
Asks kb (written.models text) (command.Models n) = n ≡ decimal text
Asks kb written.propagate command.Propagate = ⊤
Asks kb (written.minimize name) (command.Minimize t) = term_number kb name ≡ Some t
Asks kb (written.explain w) (command.Explain l) = StandsFor kb w l
Asks kb written.why command.Why = ⊤
Asks kb (written.budget text) (command.Budget b) = b ≡ Some (decimal text)
Asks kb written.unlimited (command.Budget b) = b ≡ None
Asks kb written.forget command.Forget = ⊤
Asks kb _ _ = ⊥

-- why it is refused
abbrev pub RefusesFor : Base → WrittenCommand → F → Type 0
RefusesFor kb (written.assert w) f = IsRefusedFor kb w f
RefusesFor kb (written.retract w) f = IsRefusedFor kb w f
RefusesFor kb (written.explain w) f = IsRefusedFor kb w f
RefusesFor kb (written.minimize name) refusal.UnknownTerm = term_number kb name ≡ None
RefusesFor kb _ f = ⊥

-- the line has this command
abbrev pub HasCommand : Base → List ℕ → Command → Type 0
HasCommand kb line c = (w : WrittenCommand) × IsWritten line w × Asks kb w c

-- the line is refused for this cause: it is no command, or its literal or its term block is refused
abbrev pub HasRefusal : Base → List ℕ → F → Type 0
HasRefusal kb line refusal.Syntax = IsNoCommand line
HasRefusal kb line f = (w : WrittenCommand) × IsWritten line w × RefusesFor kb w f

-- a command over the knowledge base, as every one that is read
abbrev pub IsCommandOver : Base → Command → Type 0
IsCommandOver kb (command.Assert l) = IsLiteralOver kb l
IsCommandOver kb (command.Retract l) = IsLiteralOver kb l
IsCommandOver kb command.Reset = ⊤
IsCommandOver kb command.Choices = ⊤
IsCommandOver kb command.Model = ⊤
IsCommandOver kb (command.Models n) = (1 ≤ n) × (n ≤ most_models)
IsCommandOver kb command.Propagate = ⊤
IsCommandOver kb (command.Minimize t) = t < length kb.terms
IsCommandOver kb (command.Explain l) = IsLiteralOver kb l
IsCommandOver kb command.Why = ⊤
IsCommandOver kb (command.Budget b) = ⊤
IsCommandOver kb command.Forget = ⊤

-- what a line is read as, unless memory ran out: nothing, a command, or a refusal
abbrev pub Reads : Base → List ℕ → Result (Option Command) CommandError → Type 0
Reads kb line (Ok None) = IsBlank line
Reads kb line (Ok (Some c)) = HasCommand kb line c
Reads kb line (Err (errors.Refused f)) = HasRefusal kb line f
Reads kb line (Err errors.Memory) = ⊤
