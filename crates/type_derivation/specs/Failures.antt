-- Why a file has no types for its variables.
use Rattle.std.specs.Prelude.{⊤}
use Rattle.grammar.specs.declared.error.KbError.{KbError}
use Rattle.grammar.specs.declared.error.KbError.TheVariants.{Refused, Memory}
use Rattle.stage_definitions.specs.Earliest.{IsEarliest}
use Rattle.stage_definitions.specs.Numbering.{NamedFile}
use Rattle.stage_definitions.specs.TypesStage.{TypesRefuse}

-- there was no memory, or the refusal is the earliest one of the stage of types
abbrev pub FailsWith : NamedFile → KbError → Type 0
FailsWith f Memory = ⊤
FailsWith f (Refused r) = IsEarliest (TypesRefuse f) r
