-- Written integers whose values have 63 bits, as those of every line that has tokens, and numbers of models.
use Rattle.std.specs.Prelude.{◌≡◌, ℕ, List, ◌<◌, ◌≤◌, ◌^◌, Option, Some, None, Result, Ok, Err, ⊤}
use Rattle.std.specs.List.{AllByRecursion}
use Rattle.kb_logic.specs.declared.structures.Literal.{Literal}
use Rattle.kb_logic.specs.Bases.{Base}
use Rattle.kb_text.specs.Tokens.{decimal}
use Rattle.consult_text.specs.Budgets.{most_models}
use Rattle.consult_text.specs.Written as written
use Rattle.consult_text.specs.Written.{WrittenElem, named, integer, WrittenLiteral, atom, equation, WrittenCommand}
use Rattle.consult_text.specs.Lines.{StandsFor, IsRefusedFor, IsWritten, IsBlank, IsNoCommand, Asks, RefusesFor}
use Rattle.consult_text.specs.Parse.{command_view}
use Rattle.consult_text.specs.declared.commands.Command.{Command}
use Rattle.consult_text.specs.declared.commands.Command.TheVariants as command
use Rattle.consult_text.specs.declared.written.CommandText.{CommandText}
use Rattle.consult_text.specs.declared.refusals.F.TheVariants.{Syntax}
use Rattle.consult_text.specs.declared.lines.CommandError.{CommandError}
use Rattle.consult_text.specs.declared.lines.CommandError.TheVariants as errors

abbrev pub IsInRange : WrittenElem → Type 0
IsInRange (named text) = ⊤
IsInRange (integer negative text) = decimal text < 2 ^ 63

abbrev pub HasRange : WrittenLiteral → Type 0
HasRange (atom positive name args) = AllByRecursion IsInRange args
HasRange (equation positive name args value) = AllByRecursion IsInRange args × IsInRange value

abbrev pub HasRanges : WrittenCommand → Type 0
HasRanges (written.assert l) = HasRange l
HasRanges (written.retract l) = HasRange l
HasRanges written.reset = ⊤
HasRanges written.choices = ⊤
HasRanges written.model = ⊤
HasRanges (written.models text) = decimal text ≤ most_models
HasRanges written.propagate = ⊤
HasRanges (written.minimize name) = ⊤
HasRanges (written.explain l) = HasRange l
HasRanges written.why = ⊤
HasRanges (written.budget text) = decimal text < 2 ^ 63
HasRanges written.unlimited = ⊤
HasRanges written.forget = ⊤

-- what a written literal is looked up as
abbrev pub LooksUp : Base → WrittenLiteral → Result Literal CommandError → Type 0
LooksUp kb w (Ok l) = StandsFor kb w l
LooksUp kb w (Err (errors.Refused f)) = IsRefusedFor kb w f
LooksUp kb w (Err errors.Memory) = ⊤

-- what the name of a term block is looked up as
abbrev pub FindsTerm : Base → List ℕ → Result ℕ CommandError → Type 0
FindsTerm kb name (Ok t) = Asks kb (written.minimize name) (command.Minimize t)
FindsTerm kb name (Err (errors.Refused f)) = RefusesFor kb (written.minimize name) f
FindsTerm kb name (Err errors.Memory) = ⊤

-- what a line is parsed as
abbrev pub ParsesAs : List ℕ → Result (Option CommandText) CommandError → Type 0
ParsesAs line (Ok None) = IsBlank line
ParsesAs line (Ok (Some c)) = IsWritten line (command_view c) × HasRanges (command_view c)
ParsesAs line (Err (errors.Refused f)) = (f ≡ Syntax) × IsNoCommand line
ParsesAs line (Err errors.Memory) = ⊤

-- what a written command means
abbrev pub Answers : Base → WrittenCommand → Result Command CommandError → Type 0
Answers kb w (Ok c) = Asks kb w c
Answers kb w (Err (errors.Refused f)) = RefusesFor kb w f
Answers kb w (Err errors.Memory) = ⊤
