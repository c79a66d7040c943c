-- The command line of the program as a simple command of clap, and what words say by it.
use Rattle.std.specs.Prelude.{◌≡◌, List, [], ◌∷◌, Bool, false, true, if◌then◌else◌, Option, Some, None, codes}
use Rattle.std.specs.Prelude.{option_map, option_and_then}
use Rattle.std.specs.Option.{option_map_or}
use Rattle.std.specs.Str.{bytes_eq}
use Rattle.clap.specs.Words.{App, Kinds, Row, Rule, Text, app_of, fault_of, first_of, new_app, new_rule}
use Rattle.clap.specs.Words.{subcommand_of, with_rule, with_subcommand}
use Rattle.clap.specs.Simple.{on_top}
use Rattle.clap.specs.declared.builder.action.ArgAction.TheVariants.{SetTrue}
use Rattle.clap.specs.declared.builder.command.Command.{Command}
use Rattle.clap.specs.declared.builder.command.Command.TheViews.{out-Command}

-- a word that has to stand there
abbrev pub word_rule : Text → Rule
word_rule name = record (new_rule name) { required = true }

-- an option with a value
abbrev pub option_rule : Text → Rule
option_rule name = record (new_rule name) { long = Some name }

-- an option without a value
abbrev pub flag_rule : Text → Rule
flag_rule name = record (new_rule name) { long = Some name; action = Some SetTrue }

-- a subcommand with a file, and with options that choose in it
abbrev pub choosing : Text → App
choosing name =
    with_rule (with_rule (with_rule (new_app name) (word_rule (codes "FILE"))) (option_rule (codes "theory")))
    (option_rule (codes "structure"))

-- `consult FILE [--theory NAME] [--structure NAME] [--budget N] [--log LOG]`
abbrev pub consulting : App
consulting =
    with_rule (with_rule (choosing (codes "consult")) (option_rule (codes "budget"))) (option_rule (codes "log"))

-- `check FILE [--theory NAME] [--structure NAME]`
abbrev pub checking : App
checking = choosing (codes "check")

-- `verify FILE LOG [--theory NAME] [--structure NAME]`
abbrev pub verifying : App
verifying = with_rule (choosing (codes "verify")) (word_rule (codes "LOG"))

-- `generate KIND N [--text]`
abbrev pub generating : App
generating =
    with_rule (with_rule (with_rule (new_app (codes "generate")) (word_rule (codes "KIND"))) (word_rule (codes "N")))
    (flag_rule (codes "text"))

-- a command line that has to have a subcommand, by words without the program's name; it has a version
abbrev pub program : App
program =
    on_top (λ s. record s { no_binary_name = true; subcommand_required = true; has_version = true })
    (new_app (codes "idp"))

-- with the three that are about a file
abbrev pub about_files : App
about_files = with_subcommand (with_subcommand (with_subcommand program consulting.top) checking.top) verifying.top

-- and with the one that makes a file
abbrev pub command_line : App
command_line = with_subcommand about_files generating.top

-- clap reads the command by this line, and no option is handed down to subcommands
abbrev pub IsReadBy : App → Command → Type 0
IsReadBy line c = (app_of c ≡ line) × ((out-Command c).has_globals ≡ false)

-- a file, and the names of the theory and of the structure that are chosen in it, where they are named
pub record FileSaid : Type 0 where
  pub file : Text
  pub theory : Option Text
  pub structure : Option Text

-- What words say: to consult about a file, with a budget and with a file for the log where they are given; to check a
-- file; to verify a log of what was derived from a file; or to generate a file of this kind and number, and whether its
-- text is what is wanted.
pub data Said : Type 0 where
  consult : FileSaid → (budget log : Option Text) → Said
  check : FileSaid → Said
  verify : FileSaid → (log : Text) → Said
  generate : (kind number : Text) → (text : Bool) → Said

-- the file with these values of options; nothing where there is no file
abbrev pub file_with : Option Text → Option Text → Option Text → Option FileSaid
file_with file theory structure = option_map (λ file. record {
  file = file;
  theory = theory;
  structure = structure;
}) file

-- the file that the matches name
abbrev pub file_in : List Row → Option FileSaid
file_in rows =
    file_with (first_of (codes "FILE") rows) (first_of (codes "theory") rows) (first_of (codes "structure") rows)

-- an option without a value is given: clap has `true` for it, and `false` where it is not
abbrev pub has_flag : Text → List Row → Bool
has_flag name rows = option_map_or (λ value. bytes_eq value (codes "true")) (first_of name rows) false

-- a file and a log; nothing where one of them is wanting
abbrev pub verification_with : Option FileSaid → Option Text → Option Said
verification_with None log = None
verification_with (Some f) log = option_map (λ log. verify f log) log

-- a kind and a number; nothing where one of them is wanting
abbrev pub generation_with : Option Text → Option Text → Bool → Option Said
generation_with None number text = None
generation_with (Some kind) number text = option_map (λ number. generate kind number text) number

-- the kind and the number that the matches name
abbrev pub generation_in : List Row → Option Said
generation_in rows =
    generation_with (first_of (codes "KIND") rows) (first_of (codes "N") rows) (has_flag (codes "text") rows)

-- what the matches of each subcommand say
abbrev pub consultation_in : List Row → Option Said
consultation_in rows =
    option_map (λ f. consult f (first_of (codes "budget") rows) (first_of (codes "log") rows)) (file_in rows)

abbrev pub check_in : List Row → Option Said
check_in rows = option_map check (file_in rows)

abbrev pub verification_in : List Row → Option Said
verification_in rows = verification_with (file_in rows) (first_of (codes "LOG") rows)

abbrev pub said_in : Text → List Row → Option Said
said_in name rows =
    if bytes_eq name (codes "consult") then consultation_in rows
    else (if bytes_eq name (codes "check") then check_in rows
    else (if bytes_eq name (codes "verify") then verification_in rows
    else (if bytes_eq name (codes "generate") then generation_in rows else None)))

-- this where clap has no error, and nothing where it has one
abbrev pub said_unless : Kinds → Option Said → Option Said
said_unless [] said = said
said_unless (k ∷ ks) said = None

-- What words say by the command line: the matches that clap has for them. Where it has an error for them they say
-- nothing; a question for help is one.
abbrev pub said_by : List Text → Option Said
said_by words = said_unless (fault_of command_line words)
    (option_and_then (λ p. said_in p.0 p.1) (subcommand_of command_line words))
