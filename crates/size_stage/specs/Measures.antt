-- What the stage of sizes returns.
use Rattle.std.specs.Prelude.{ℕ, ⊤, List}
use Rattle.grammar.specs.declared.error.KbError.{KbError}
use Rattle.grammar.specs.declared.error.KbError.TheVariants.{Refused, Memory}
use Rattle.kb_logic.specs.declared.elements.Elem.{Elem}
use Rattle.stage_definitions.specs.Earliest.{IsEarliest}
use Rattle.stage_definitions.specs.TypedFiles.{TypedFile}
use Rattle.stage_definitions.specs.SizesStage.{Sizes, SizesRefuse, size_uses}
use Rattle.size_stage.specs.declared.measures.Measure.{Measure}

abbrev pub measure_view : Measure → Sizes
measure_view m = record { atoms = m.atoms; weight = m.weight }

-- there was no memory, or the refusal is the earliest one of the stage of sizes
abbrev pub FailsWith : TypedFile → ℕ → List (List Elem) → KbError → Type 0
FailsWith f theory domains Memory = ⊤
FailsWith f theory domains (Refused r) = IsEarliest (SizesRefuse (size_uses f theory domains)) r
