-- What a file means is said so that it can be read.
use Rattle.std.specs.Prelude.{ℕ, List, Ok}
use Rattle.grammar.specs.BlockTrees.{Block}
use Rattle.grammar.specs.FileReads.{KbReads}
use Rattle.file_laws.specs.Spoken.{names_in, IsSpokenFile, SentencesAreReadAgain}
use Rattle.printed_texts.specs.ReadBlocks.{IsReadBack}
use Rattle.base_reader.specs.FileMeanings.{Choice, Meaning, FileMeans, base_of_meaning}
use Rattle.consult_text.specs.OneText.{HasWordNames}

-- the names of what a file means are words, no two symbols have one, and integers have at most 63 bits
abbrev pub FilesHaveWordNames : Type 0
FilesHaveWordNames =
    (c : Choice) (bytes : List ℕ) (m : Meaning) → FileMeans c bytes m → HasWordNames (base_of_meaning m)

-- the block that is printed of the chosen structure is read back as what the structure makes known, and no other file
-- has its text
abbrev pub StructuresAreReadBack : Type 0
StructuresAreReadBack =
    (c : Choice) (bytes : List ℕ) (m : Meaning) → FileMeans c bytes m
    → IsReadBack m.file.vocabulary m.structure m.known

-- each sentence of what a file means can be written with the words of the file's vocabulary, which mean it again, and
-- so can the term of each term block
abbrev pub FilesAreSpoken : Type 0
FilesAreSpoken =
    (c : Choice) (bytes : List ℕ) (blocks : List Block) (m : Meaning) → KbReads bytes (Ok blocks) → FileMeans c bytes m
    → IsSpokenFile (names_in blocks) m.file

-- the text that is printed of each sentence is read back as the sentence, by these words; depth alone refuses it
abbrev pub SentencesAreReadBack : Type 0
SentencesAreReadBack =
    (c : Choice) (bytes : List ℕ) (blocks : List Block) (m : Meaning) → KbReads bytes (Ok blocks) → FileMeans c bytes m
    → SentencesAreReadAgain (names_in blocks) m.file
