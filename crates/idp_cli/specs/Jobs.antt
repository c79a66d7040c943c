-- What the words of a command line ask.
use Rattle.std.specs.Prelude.{◌≡◌, ℕ, List, Bool, true, false, Option, Some, None, is_some, codes}
use Rattle.std.specs.List.{list_all}
use Rattle.kb_text.specs.Bytes.{between}
use Rattle.kb_text.specs.Tokens.{decimal}
use Rattle.command_words.specs.CommandLine as words
use Rattle.command_words.specs.CommandLine.{FileSaid, Said, said_by}
use Rattle.generated_files.specs.Texts.{kind_name, IsNumberOf}
use Rattle.generated_files.specs.declared.kinds.Kind.{Kind}
use Rattle.consult_text.specs.Budgets.{IsBudget, default_budget}
use Rattle.base_reader.specs.FileMeanings.{Choice}

-- to answer the commands by what a file means, with a first budget, and with a log or without one; to print the chosen
-- structure of a file; to verify a log of what was derived from a file; to print the file that is made of a number; or
-- to print a summary of what follows from that file
pub data Job : Type 0 where
  consult : (file : List ℕ) → Choice → (budget : Option ℕ) → (logs : Bool) → Job
  check : (file : List ℕ) → Choice → Job
  verify : (file : List ℕ) → Choice → (log : List ℕ) → Job
  make : Kind → (number : ℕ) → Job
  summarise : Kind → (number : ℕ) → Job

-- the file that it is about; one that is made is none of the shelf's
abbrev pub file_of : Job → Option (List ℕ)
file_of (consult file c budget logs) = Some file
file_of (check file c) = Some file
file_of (verify file c log) = Some file
file_of (make k n) = None
file_of (summarise k n) = None

-- the text is digits alone
abbrev pub IsDigits : List ℕ → Type 0
IsDigits text = list_all (between 48 57) text ≡ true

-- the text is a budget: `unlimited`, or decimal digits of a number in its range
abbrev pub IsBudgetText : List ℕ → Option ℕ → Type 0
IsBudgetText text None = text ≡ codes "unlimited"
IsBudgetText text (Some n) = IsDigits text × IsBudget text × (n ≡ decimal text)

-- the first budget: the one that is given, or the one of every session
abbrev pub IsFirstBudget : Option (List ℕ) → Option ℕ → Type 0
IsFirstBudget None budget = budget ≡ Some default_budget
IsFirstBudget (Some text) budget = IsBudgetText text budget

abbrev pub choice_in : FileSaid → Choice
choice_in f = record { theory = f.theory; structure = f.structure }

-- the text is decimal digits of a number of the kind
pub record IsNumberText (k : Kind) (text : List ℕ) (n : ℕ) : Type 0 where
  pub digits : IsDigits text
  pub value : n ≡ decimal text
  pub within : IsNumberOf k n

-- the texts are a kind of file and a number of it
abbrev pub AreOfFile : List ℕ → List ℕ → Kind → ℕ → Type 0
AreOfFile kind number k n = (kind ≡ kind_name k) × IsNumberText k number n

-- what is said asks this: `consult`, `check` or `verify`, about its file, with its options and its log; `generate` with
-- `--text`, to make the file; and `generate` without it, to summarise it
abbrev pub AsksBy : Said → Job → Type 0
AsksBy (words.consult f text path) (consult file c budget logs) =
    (file ≡ f.file) × (c ≡ choice_in f) × IsFirstBudget text budget × (logs ≡ is_some path)
AsksBy (words.check f) (check file c) = (file ≡ f.file) × (c ≡ choice_in f)
AsksBy (words.verify f path) (verify file c log) = (file ≡ f.file) × (c ≡ choice_in f) × (log ≡ path)
AsksBy (words.generate kind number true) (make k n) = AreOfFile kind number k n
AsksBy (words.generate kind number false) (summarise k n) = AreOfFile kind number k n
AsksBy _ _ = ⊥

-- the words are a command line that asks this
abbrev pub Asks : List (List ℕ) → Job → Type 0
Asks words job = (said : Said) × (said_by words ≡ Some said) × AsksBy said job

-- the words ask nothing
abbrev pub IsUsage : List (List ℕ) → Type 0
IsUsage words = (job : Job) → Asks words job → ⊥

-- the words ask for a consultation with a log
abbrev pub AskForLog : List (List ℕ) → Type 0
AskForLog words = (file : List ℕ) × (c : Choice) × (budget : Option ℕ) × Asks words (consult file c budget true)

-- what is said names this file for a log: it is `consult`, with a budget that is one
abbrev pub NamesLog : Said → List ℕ → Type 0
NamesLog (words.consult f text (Some path)) p = (p ≡ path) × ((budget : Option ℕ) × IsFirstBudget text budget)
NamesLog _ p = ⊥

-- the words are a command line that names this file for a log
abbrev pub IsLogPath : List (List ℕ) → List ℕ → Type 0
IsLogPath words p = (said : Said) × (said_by words ≡ Some said) × NamesLog said p
