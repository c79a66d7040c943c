-- What lines are, in the subject's own words.
use Rattle.std.specs.Prelude.{◌≡◌, ℕ, List, Option, Some, None, Result, Ok, Err}
use Rattle.kb_logic.specs.Bases.{Base}
use Rattle.consult_text.specs.declared.commands.Command.{Command}
use Rattle.consult_text.specs.declared.refusals.F.{F}
use Rattle.consult_text.specs.Lines.{IsBlank, HasCommand, HasRefusal, IsCommandOver}

-- a line has nothing but spaces, or it has a command, or it is refused
abbrev pub Meaning : Type 0
Meaning = Result (Option Command) F

abbrev pub Means : Base → List ℕ → Meaning → Type 0
Means kb line (Ok None) = IsBlank line
Means kb line (Ok (Some c)) = HasCommand kb line c
Means kb line (Err f) = HasRefusal kb line f

-- a line means at most one of these
abbrev pub HasOneMeaning : Base → List ℕ → Type 0
HasOneMeaning kb line = (a b : Meaning) → Means kb line a → Means kb line b → a ≡ b

-- the literal of a line's command is one of the vocabulary over the domains
abbrev pub CommandsAreOverTheBase : Type 0
CommandsAreOverTheBase = (kb : Base) (line : List ℕ) (c : Command) → HasCommand kb line c → IsCommandOver kb c
