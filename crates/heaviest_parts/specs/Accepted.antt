-- Files that the first stages of reading accept.
use Rattle.stage_definitions.specs.Files.{File}
use Rattle.stage_definitions.specs.Numbering.{IsNamed, NamedFile}
use Rattle.stage_definitions.specs.TypesStage.{IsTyped}
use Rattle.stage_definitions.specs.TypedFiles.{TypedFile}

-- the stages of names and of types accept some file, of which these are the types
abbrev pub IsAcceptedFile : TypedFile → Type 0
IsAcceptedFile typed = (file : File) × (named : NamedFile) × IsNamed file named × IsTyped named typed
