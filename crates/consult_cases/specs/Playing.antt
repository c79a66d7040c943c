-- What is printed of the cases.
use Rattle.std.specs.Prelude.{◌≡◌, ◌++◌, ℕ, List, [], ◌∷◌, codes, Some, None}
use Rattle.std.specs.Fmt.{decimal}
use Rattle.memchr.specs.Find.{FindsNeedle}
use Rattle.idp_cli.specs.Codes.{code_of}
use Rattle.idp_cli.specs.Runs.{Words, Outside, RunEnds}
use Rattle.idp_cli.specs.declared.status.Status.{Status}
use Rattle.consult_cases.specs.Cases.{IsCutAt, IsCase}

-- the names of the files
abbrev pub kb : List ℕ
kb = codes "kb"

abbrev pub log : List ℕ
log = codes "log"

-- A run by these words, over a shelf whose file `kb` has the first bytes, and with the second ones as its file `log`
-- and as the commands, ended in this status, and left this text in an output and this one in a log that held nothing.
pub record Leaves (words : Words) (file script : List ℕ) (status : Status) (text logged : List ℕ) : Type 0 where
  pub before : Outside
  pub now : Outside
  pub is_file : before.files kb ≡ Some file
  pub is_log : before.files log ≡ Some script
  pub is_script : before.streams.script ≡ Some script
  pub empty : before.streams.out ≡ Some []
  pub unwritten : before.streams.log ≡ Some []
  pub ends : RunEnds status words before now
  pub left : now.streams.out ≡ Some text
  pub stated : now.streams.log ≡ Some logged

abbrev pub status_text : Status → List ℕ
status_text status = codes "status " ++ (decimal (code_of status) ++ codes "\n")

-- what a log held, behind a line that says so; nothing where it held nothing
abbrev pub log_text : List ℕ → List ℕ
log_text [] = []
log_text (byte ∷ bytes) = codes "log\n" ++ (byte ∷ bytes)

-- the replies, what the log held, and the line of the status
abbrev pub outcome_text : Status → List ℕ → List ℕ → List ℕ
outcome_text status text logged = text ++ (log_text logged ++ status_text status)

-- what is printed of a case is what a run over its file and commands left
abbrev pub IsPlayed : List ℕ → List ℕ → Type 0
IsPlayed text printed =
    (head : List ℕ) × (file : List ℕ) × (script : List ℕ) × IsCase text head file script
    × ((words : Words) × (status : Status) × (left : List ℕ) × (logged : List ℕ)
    × Leaves words file script status left logged × (printed ≡ outcome_text status left logged))

abbrev pub marker : List ℕ
marker = codes "\n====\n"

-- such a piece is added for the text
abbrev pub Adds : (List ℕ → List ℕ → Type 0) → List ℕ → List ℕ → List ℕ → Type 0
Adds IsOne text old new = (piece : List ℕ) × IsOne text piece × (new ≡ old ++ piece)

-- what is printed of all cases
pub data IsReport : List ℕ → List ℕ → Type 0 where
  last : {texts printed : List ℕ} → FindsNeedle texts marker 0 None → IsPlayed texts printed → IsReport texts printed
  next : {texts printed more : List ℕ} (text rest : List ℕ) → IsCutAt marker texts text rest
      → IsPlayed text printed → IsReport rest more → IsReport texts (printed ++ more)
