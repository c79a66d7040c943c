-- That what is printed about a file can be read: the replies to commands, and the structure that is checked.
use Rattle.std.specs.Prelude.{◌≡◌, ℕ, List, map, Option, Some}
use Rattle.std.specs.Io.KnownBytes.{Appends}
use Rattle.printed_texts.specs.ReadBlocks.{IsReadBack}
use Rattle.base_reader.specs.FileMeanings.{Choice, Meaning, FileMeans, base_of_meaning}
use Rattle.consult_text.specs.States.{State, first_state}
use Rattle.consultation.specs.declared.said.Said.{Said}
use Rattle.consultation.specs.Consultation.{said_texts, Consultation}
use Rattle.idp_cli.specs.Jobs.{check, Asks}
use Rattle.run_laws.specs.OneAnswer.{IsBudgetInRange}
use Rattle.idp_cli.specs.Runs.{Words, texts_of, Outside, RunEnds, structure_text}
use Rattle.consultation.specs.Consultation.{reply_of}
use Rattle.idp_cli.specs.declared.status.Status.TheVariants as status

-- two consultations of the same lines about what a file means that print the same bytes have the same replies, line by
-- line
abbrev pub FileRepliesLaw : Type 0
FileRepliesLaw = (c : Choice) (bytes : List ℕ) (m : Meaning) (budget : Option ℕ) (t u : State)
    (lines : List (List ℕ)) (a b : List Said)
    → FileMeans c bytes m → IsBudgetInRange budget
    → Consultation (base_of_meaning m) (first_state budget) lines a t
    → Consultation (base_of_meaning m) (first_state budget) lines b u
    → said_texts (base_of_meaning m) a ≡ said_texts (base_of_meaning m) b → map reply_of a ≡ map reply_of b

-- where a check is done, the output grew by the text of the structure that the file means, which is read back as what
-- that structure makes known and is the text of no other
abbrev pub CheckedIsReadBackLaw : Type 0
CheckedIsReadBackLaw = (words : Words) (before now : Outside) (file bytes : List ℕ) (c : Choice)
    → Asks (texts_of words) (check file c) → before.files file ≡ Some bytes → RunEnds status.Done words before now
    → (m : Meaning) × FileMeans c bytes m × Appends before.streams.out now.streams.out (structure_text m)
    × IsReadBack m.file.vocabulary m.structure m.known
