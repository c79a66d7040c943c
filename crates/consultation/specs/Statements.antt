-- What a log states of the lines of a consultation.
use Rattle.std.specs.Prelude.{◌≡◌, ℕ, ◌+◌, List, [], ◌∷◌, ◌++◌, Bool, true, false, Option, ⊤}
use Rattle.std.specs.Io.KnownBytes.{Appends}
use Rattle.kb_logic.specs.Bases.{Base}
use Rattle.consult_text.specs.RightReplies.{RightReply}
use Rattle.consult_text.specs.States.{State, state_after}
use Rattle.derivation_log.specs.Lines.{entry_text}
use Rattle.derivation_log.specs.declared.entries.Entry.TheVariants.{Mark}
use Rattle.search_log.specs.Entries.{AreEntries}
use Rattle.ground_task.specs.Tasks.{atom_base}
use Rattle.claimed_replies.specs.Claims.{AreClaims}
use Rattle.consultation.specs.Consultation.{state_left}
use Rattle.consultation.specs.declared.said.Said.{Said}
use Rattle.consultation.specs.declared.said.Said.TheVariants as said

-- What is stated of line n, to which this is said and which leaves the state t: nothing of a blank one, and of each
-- other one its mark; of a command, behind its mark, entries of a search, and then the claims that belong to its reply,
-- of the choices then in force: one of `inconsistent`, one of each literal that is shown, and one of a least value.
abbrev pub IsStatement : Base → State → ℕ → Said → List ℕ → Type 0
IsStatement kb t n said.Nothing bytes = bytes ≡ []
IsStatement kb t n said.TooLong bytes = bytes ≡ entry_text (Mark n)
IsStatement kb t n (said.Refused f) bytes = bytes ≡ entry_text (Mark n)
IsStatement kb t n (said.Replied c r) bytes = (entries : List ℕ) × (claims : List ℕ) × AreEntries entries
    × AreClaims (atom_base kb) t.choices c r claims × (bytes ≡ entry_text (Mark n) ++ (entries ++ claims))

-- the statements of the lines from line n on, to which this is said from the state s on, one behind the other
abbrev pub AreStatements : Base → State → ℕ → List Said → List ℕ → Type 0
AreStatements kb s n [] bytes = bytes ≡ []
AreStatements kb s n (said ∷ more) bytes = (here : List ℕ) × (rest : List ℕ)
    × IsStatement kb (state_left kb s said) n said here × AreStatements kb (state_left kb s said) (n + 1) more rest
    × (bytes ≡ here ++ rest)

-- the log grew by bytes that are so where one is kept, and is as it was where none is
abbrev pub GrowsLog : Bool → (List ℕ → Type 0) → Option (List ℕ) → Option (List ℕ) → Type 0
GrowsLog true AreSo old new = (bytes : List ℕ) × AreSo bytes × Appends old new bytes
GrowsLog false AreSo old new = new ≡ old

-- a reply is right for its command in a state that the command turned into t
abbrev pub IsRightBefore : Base → State → Said → Type 0
IsRightBefore kb t said.Nothing = ⊤
IsRightBefore kb t said.TooLong = ⊤
IsRightBefore kb t (said.Refused f) = ⊤
IsRightBefore kb t (said.Replied c r) = (s : State) × RightReply kb s c r × (t ≡ state_after kb s c)
