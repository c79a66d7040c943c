-- What words say, as the program holds it.
use Rattle.std.specs.Prelude.{option_map}
use Rattle.command_words.specs.CommandLine.{FileSaid, Said, consult, check, verify, generate}
use Rattle.command_words.specs.declared.line.FileWords.{FileWords}
use Rattle.command_words.specs.declared.line.Line.{Line}
use Rattle.command_words.specs.declared.line.Line.TheVariants as line

abbrev pub file_view : FileWords → FileSaid
file_view f = record {
  file = f.file.now;
  theory = option_map (λ s. s.now) f.theory;
  structure = option_map (λ s. s.now) f.structure;
}

abbrev pub line_view : Line → Said
line_view (line.Consult f budget log) =
    consult (file_view f) (option_map (λ s. s.now) budget) (option_map (λ s. s.now) log)
line_view (line.Check f) = check (file_view f)
line_view (line.Verify f log) = verify (file_view f) log.now
line_view (line.Generate kind number text) = generate kind.now number.now text
