-- What is observable of a shelf in memory.
use Rattle.std.specs.Prelude.{◌≡◌, ℕ, List, [], ◌∷◌, Option, Some, None, if◌then◌else◌, map}
use Rattle.std.specs.Option.{option_map}
use Rattle.std.specs.Str.{bytes_eq}
use Rattle.std.specs.String.{string_bytes}
use Rattle.std.specs.declared.string.String.{String}
use Rattle.std.specs.declared.alloc.Global.{Global}
use Rattle.kb_io.specs.Memory.{SourceState}
use Rattle.kb_io.specs.declared.source.MemFile.{MemFile}

-- the files that are not handed out yet, the names asked for, the sources handed out and not got back, the faults
pub record ShelfState : Type 0 where
  pub files : List MemFile
  pub asked : Option (List (List ℕ))
  pub open_sources : Option ℕ
  pub faults : ℕ

-- the source of the first file of this name
abbrev pub source_named : List MemFile → List ℕ → Option SourceState
source_named [] name = None
source_named (file ∷ files) name = if bytes_eq (string_bytes file.name) name then Some file.source
    else source_named files name

-- the bytes that the first file of this name has left
abbrev pub file_named : List MemFile → List ℕ → Option (List ℕ)
file_named files name = option_map (λ (s : SourceState). s.left) (source_named files name)

-- the files without the first of this name
abbrev pub without : List ℕ → List MemFile → List MemFile
without name [] = []
without name (file ∷ files) = if bytes_eq (string_bytes file.name) name then files else file ∷ without name files

-- no file has met a fault
abbrev pub AreFresh : List MemFile → Type 0
AreFresh [] = Unit {0}
AreFresh (file ∷ files) = (file.source.faults ≡ 0) × AreFresh files

-- no two files have one name
abbrev pub NamesDiffer : List MemFile → Type 0
NamesDiffer [] = Unit {0}
NamesDiffer (file ∷ files) = (source_named files (string_bytes file.name) ≡ None) × NamesDiffer files

abbrev pub names_of : List (String Global) → List (List ℕ)
names_of = map string_bytes
