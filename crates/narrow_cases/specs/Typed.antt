-- What the stages of names and types made of a file.
use Rattle.stage_definitions.specs.Files.{File}
use Rattle.stage_definitions.specs.Numbering.{IsNamed, NamedFile}
use Rattle.stage_definitions.specs.TypesStage.{IsTyped}
use Rattle.stage_definitions.specs.TypedFiles.{TypedFile}

-- the file has these types
abbrev pub HasTypedFile : File → TypedFile → Type 0
HasTypedFile f typed = (named : NamedFile) × IsNamed f named × IsTyped named typed
