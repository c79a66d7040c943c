-- What words say, by the values that are found and by what clap answers.
use Rattle.std.proofs.Common.{◌≡◌, refl, Bool, Option, Some, None, List, [], ◌∷◌, true, option_map}
use Rattle.std.specs.Prelude.{Box}
use Rattle.std.specs.Box.{box_value}
use Rattle.clap.specs.Words.{IsAmong, Kinds, Row, Text, fault_of, is_simple, is_simple_and_free, subcommand_of}
use Rattle.clap.specs.Words.{subcommand_rows}
use Rattle.clap.specs.declared.error.kind.ErrorKind.{ErrorKind}
use Rattle.clap.specs.declared.parser.matches.SubCommand.{SubCommand}
use Rattle.clap.specs.declared.parser.matches.ArgMatches.TheViews.{out-SubCommand}
use Rattle.clap.proofs.OnLiterals.{clap_on_literals}
use Rattle.command_words.specs.CommandLine.{command_line, file_with, generation_with, said_in, said_by}

-- equal values say the same
pub same_file : {f f' t t' s s' : Option Text} → f ≡ f' → t ≡ t' → s ≡ s' → file_with f t s ≡ file_with f' t' s'
same_file ef et es = rw (ef, et, es) refl

pub same_generation : {k k' n n' : Option Text} {t t' : Bool} → k ≡ k' → n ≡ n' → t ≡ t'
    → generation_with k n t ≡ generation_with k' n' t'
same_generation ek en et = rw (ek, en, et) refl

-- the command line is one of which clap says all
pub is_exact : is_simple_and_free command_line ≡ true
unfolding clap_on_literals
is_exact = refl

pub has_matches : is_simple command_line ≡ true
unfolding clap_on_literals
has_matches = refl

-- where there is no error, the subcommand says it
pub said_of : (words : List Text) (name : Text) (rows : List Row) → fault_of command_line words ≡ []
    → subcommand_of command_line words ≡ Some (name, rows) → said_by words ≡ said_in name rows
said_of words name rows none met = rw (none, met) refl

-- where there is one, nothing is said
pub nothing_said : (words : List Text) (ks : Kinds) (k : ErrorKind) → fault_of command_line words ≡ ks → IsAmong k ks
    → None ≡ said_by words
nothing_said words [] k e among = absurd among
nothing_said words (x ∷ xs) k e among = rw e refl

module _ {Z : Type 0} where
  -- a subcommand by its name and by its matches
  pub met_of : (o : Option (Box SubCommand Z)) (name : Text) (rows : List Row)
      → Some name ≡ option_map (λ b. (out-SubCommand (box_value b)).name.now) o
      → Some rows ≡ option_map (λ p. p.1) (subcommand_rows o) → subcommand_rows o ≡ Some (name, rows)
  met_of None name rows named found = absurd (cc named)
  met_of (Some b) name rows named found = cc (named, found)

  -- the name of a subcommand is the one that its rows have
  pub name_of_rows : (o : Option (Box SubCommand Z))
      → option_map (λ p. p.0) (subcommand_rows o) ≡ option_map (λ b. (out-SubCommand (box_value b)).name.now) o
  name_of_rows None = refl
  name_of_rows (Some b) = refl
