-- Why a file has no numbers for its words.
use Rattle.std.specs.Prelude.{⊤}
use Rattle.grammar.specs.declared.error.KbError.{KbError}
use Rattle.grammar.specs.declared.error.KbError.TheVariants.{Refused, Memory}
use Rattle.stage_definitions.specs.Earliest.{IsEarliest}
use Rattle.stage_definitions.specs.Files.{File}
use Rattle.stage_definitions.specs.NamesStage.{NamesRefuse}

-- there was no memory, or the refusal is the earliest one of the stage of names
abbrev pub FailsWith : File → KbError → Type 0
FailsWith f Memory = ⊤
FailsWith f (Refused r) = IsEarliest (NamesRefuse f) r
