-- What is wrong with words, by the error that clap has for them.
use Rattle.std.specs.Prelude.{◌≡◌, ◌≢◌, ◌⊎◌, List, [], Option, Some, codes, option_map}
use Rattle.clap.specs.Words.{IsAmong, Text, fault_of, subcommand_of}
use Rattle.clap.specs.declared.error.kind.ErrorKind.{ErrorKind}
use Rattle.clap.specs.declared.error.kind.ErrorKind.TheVariants as kind
use Rattle.command_words.specs.CommandLine.{command_line}
use Rattle.command_words.specs.declared.complaints.Complaint.{Complaint}
use Rattle.command_words.specs.declared.complaints.Complaint.TheVariants as complaint

-- the error asks how the program is called, or says that no subcommand was named
abbrev pub AsksForHelp : ErrorKind → Type 0
AsksForHelp k =
    (k ≡ kind.DisplayHelp)
    ⊎ ((k ≡ kind.DisplayHelpOnMissingArgumentOrSubcommand) ⊎ (k ≡ kind.MissingSubcommand))

-- the complaint fits an error of this kind
abbrev pub Fits : Complaint → ErrorKind → Type 0
Fits complaint.Help k = AsksForHelp k
Fits complaint.Version k = k ≡ kind.DisplayVersion
Fits (complaint.Wrong lines) k = (AsksForHelp k → ⊥) × (k ≢ kind.DisplayVersion) × (k ≢ kind.OutOfMemory)
Fits _ k = ⊥

-- the complaint is about the values of a subcommand with this name
abbrev pub FitsName : Complaint → Option Text → Type 0
FitsName complaint.Generation name = name ≡ Some (codes "generate")
FitsName complaint.Budget name = name ≢ Some (codes "generate")
FitsName _ name = ⊥

-- the name of the subcommand that the words name
abbrev pub name_said : List Text → Option Text
name_said words = option_map (λ p. p.0) (subcommand_of command_line words)

-- where clap has no error for the words, the complaint is about values; else it fits clap's error
abbrev pub IsComplaintOn : Complaint → List Text → Type 0
IsComplaintOn c words =
    ((fault_of command_line words ≡ []) × FitsName c (name_said words))
    ⊎ ((k : ErrorKind) × IsAmong k (fault_of command_line words) × Fits c k)
