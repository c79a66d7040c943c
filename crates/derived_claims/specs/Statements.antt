-- What is stated of a right reply: the entries by which its claims follow, and then its claims.
use Rattle.std.specs.Prelude.{◌≡◌, ℕ, List, ◌++◌, flat_map, Bool, true, false}
use Rattle.kb_logic.specs.declared.elements.ExtInt.{ExtInt}
use Rattle.kb_logic.specs.declared.elements.ExtInt.TheVariants.{NegInf}
use Rattle.kb_logic.specs.declared.structures.Literal.{Literal}
use Rattle.kb_logic.specs.Bases.{Base}
use Rattle.derivation_log.specs.declared.entries.Entry.{Entry}
use Rattle.derivation_log.specs.Lines.{entry_text}
use Rattle.derivation_log.specs.Texts.{IsBelow}
use Rattle.search_log.specs.Entries.{AreEntries}
use Rattle.log_checker.specs.Growing.{Checking, GoesOn}
use Rattle.ground_task.specs.Tasks.{atom_base}
use Rattle.consult_text.specs.declared.commands.Command.{Command}
use Rattle.consult_text.specs.declared.replies.Reply.{Reply}
use Rattle.consult_text.specs.RightReplies.{RightReply}
use Rattle.consult_text.specs.Replies.{NeedsModel}
use Rattle.consult_text.specs.States.{State}
use Rattle.claimed_replies.specs.Claims.{AreClaims}
use Rattle.log_checker.specs.Cases.{Derives}

-- the reply to the command is right in a state with these choices, or with any where the command needs no model and
-- its reply claims nothing
abbrev pub IsRightUnder : Base → List Literal → Command → Reply → Type 0
IsRightUnder base choices c r = (s : State) × (NeedsModel c → s.choices ≡ choices) × RightReply base s c r

-- the texts of entries of a search, and then those of the claims that belong to the reply to the command, of these
-- choices
abbrev pub HasClaims : Base → List Literal → Command → Reply → List ℕ → Type 0
HasClaims base choices c r bytes = (entries : List ℕ) × (claims : List ℕ) × AreEntries entries
    × AreClaims (atom_base base) choices c r claims × (bytes ≡ entries ++ claims)

-- entries that bear clauses were added to the log, and their texts to these bytes
abbrev pub Derived : Checking → Checking → List ℕ → List ℕ → Type 0
Derived old new before after = (es : List Entry) × Derives old new es × (after ≡ before ++ flat_map entry_text es)

-- claims were added to the log, and their texts to these bytes; the clauses and the last mark stay
pub record Claimed (old new : Checking) (es : List Entry) (before after : List ℕ) : Type 0 where
  pub problem : new.problem ≡ old.problem
  pub clauses : new.state.clauses ≡ old.state.clauses
  pub line : new.state.line ≡ old.state.line
  pub goes_on : GoesOn old (flat_map entry_text es) new
  pub text : after ≡ before ++ flat_map entry_text es

-- the bytes are the texts of entries of a search, and then of claims that are so; the log goes on by them, and its last
-- mark stays
pub record States (old new : Checking) (AreSo : List Entry → Type 0) (bytes : List ℕ) : Type 0 where
  pub entries : List ℕ
  pub are : AreEntries entries
  pub claims : List Entry
  pub so : AreSo claims
  pub text : bytes ≡ entries ++ flat_map entry_text claims
  pub goes_on : GoesOn old bytes new
  pub line : new.state.line ≡ old.state.line

-- at true there are values below this one, and it can be written; at false it is `-inf`
abbrev pub HasLower : ExtInt → Bool → Type 0
HasLower value true = IsBelow value
HasLower value false = value ≡ NegInf
