-- The structure of a text that is used.
use Rattle.std.proofs.Common.{◌≡◌, ◌∙◌, ℕ, List, length, slice_get, Option, Some, None, Ok, option_map, Result, Err}
use Rattle.std.proofs.Common.{IfOk, inl, sym, ap}
use Rattle.std.proofs.lemmas.Option.{slice_get-map}
use Rattle.std.specs.String.{string_bytes}
use Rattle.std.specs.declared.string.String.{String}
use Rattle.std.specs.declared.alloc.Global.{Global}
use Rattle.grammar.specs.declared.raw_blocks.RawKb.{RawKb}
use Rattle.grammar.specs.declared.raw_blocks.RawStructure.{RawStructure}
use Rattle.grammar.specs.BlockTrees.{Structure}
use Rattle.grammar.specs.BlockView.{structure_view}
use Rattle.grammar.specs.FileReads.{KbRead}
use Rattle.stage_definitions.specs.Files.{File}
use Rattle.stage_definitions.specs.FileView.{file_in}
use Rattle.stage_definitions.specs.BlocksStage.{IsPicked}
use Rattle.stage_definitions.specs.Numbering.{IsNamed, NamedFile}
use Rattle.stage_definitions.specs.TypesStage.{IsTyped}
use Rattle.stage_definitions.specs.TypedFiles.{TypedFile}
use Rattle.stage_definitions.proofs.OneFile.{one_file}
use Rattle.reading_cases.specs.Lines.{IsChosenLine, IsDataLine, IsMeasuredLine, IsReadAs}

-- the raw structure with a number stands for the text's structure with that number
pub read_as : (text : List ℕ) (kb : RawKb) (t s : ℕ) (raw : RawStructure) → KbRead text (Ok kb)
    → IsPicked (file_in kb) None None t s → slice_get kb.structures s ≡ Some raw
    → IsReadAs text (file_in kb) t (structure_view raw)
read_as text kb t s raw (blocks, reads, is) picked at = record {
  blocks = blocks;
  read = reads;
  file = one_file blocks (length text) kb is;
  number = s;
  picked = picked;
  structure = ap (λ (xs : List Structure). slice_get xs s) (sym is.structures)
      ∙ (slice_get-map structure_view kb.structures s ∙ ap (λ (o : Option RawStructure).
      option_map structure_view o) at);
}

-- a line of a file's part is the line of the text
pub chosen_is : {E : Type 0} (r : Result (String Global) E) (text : List ℕ) (f : File) (t : ℕ) (tree : Structure)
    → IsReadAs text f t tree → IfOk r (λ line. IsChosenLine f t tree (string_bytes line))
    → IfOk r (λ line. IsDataLine text (string_bytes line))
chosen_is (Ok line) text f t tree read is = inl (f, t, tree, read, is)
chosen_is (Err e) text f t tree read is = tt

-- a line of a typed file is the line of the file
pub measured_is : {E : Type 0} (r : Result (String Global) E) (f : File) (n : NamedFile) (y : TypedFile) (t : ℕ)
    (tree : Structure) → IsNamed f n → IsTyped n y → IfOk r (λ line. IsMeasuredLine y t tree (string_bytes line))
    → IfOk r (λ line. IsChosenLine f t tree (string_bytes line))
measured_is (Ok line) f n y t tree named typed is = inl (n, y, named, typed, is)
measured_is (Err e) f n y t tree named typed is = tt
