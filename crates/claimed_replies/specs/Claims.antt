-- The claims that belong to a reply.
use Rattle.std.specs.Prelude.{◌≡◌, ◌+◌, ℕ, List, [], ◌∷◌, flat_map, ⊤}
use Rattle.kb_logic.specs.declared.structures.Literal.{Literal}
use Rattle.kb_logic.specs.declared.elements.ExtInt.{ExtInt}
use Rattle.kb_logic.specs.declared.elements.ExtInt.TheVariants.{NegInf, Num, PosInf}
use Rattle.kb_logic.specs.Structures.{EachWith}
use Rattle.lit_core.specs.declared.literals.Lit.{Lit}
use Rattle.derivation_log.specs.Lines.{entry_text}
use Rattle.derivation_log.specs.declared.entries.Entry.{Entry}
use Rattle.derivation_log.specs.declared.entries.Entry.TheVariants as entry
use Rattle.term_values.specs.GroundBases.{GroundBase}
use Rattle.atom_numbers.specs.Numbers.{HasNumber}
use Rattle.ground_task.specs.Choices.{AreOver}
use Rattle.consult_text.specs.declared.commands.Command.{Command}
use Rattle.consult_text.specs.declared.commands.Command.TheVariants as command
use Rattle.consult_text.specs.declared.replies.Reply.{Reply}
use Rattle.consult_text.specs.declared.replies.Reply.TheVariants as reply

-- the entry claims, by some clause, that nothing makes these literals true
abbrev pub SaysInconsistent : List Lit → Entry → Type 0
SaysInconsistent lits e = (clause : ℕ) × (e ≡ entry.Inconsistent lits clause)

-- it claims that what makes these true makes the literal true
abbrev pub SaysForced : GroundBase → List Lit → Literal → Entry → Type 0
SaysForced b lits l e = (lit : Lit) × (clause : ℕ) × HasNumber b l lit × (e ≡ entry.Forced lit lits clause)

-- it claims that nothing that makes these true gives the term with this number a value below that one
abbrev pub SaysLeast : List Lit → ℕ → ExtInt → Entry → Type 0
SaysLeast lits term value e = (clause : ℕ) × (e ≡ entry.Least (term + 1) value lits clause)

-- one entry, which says this
abbrev pub IsTheClaim : (Entry → Type 0) → List Entry → Type 0
IsTheClaim Says es = (e : Entry) × Says e × (es ≡ e ∷ [])

-- the claim of a least value: none where it is `-inf`, below which there is none
abbrev pub AreLeastClaims : List Lit → ℕ → ExtInt → List Entry → Type 0
AreLeastClaims lits term NegInf es = es ≡ []
AreLeastClaims lits term (Num n) es = IsTheClaim (SaysLeast lits term (Num n)) es
AreLeastClaims lits term PosInf es = IsTheClaim (SaysLeast lits term PosInf) es

-- the claims that belong to the reply to a command, of choices with these literals: just one of `inconsistent`, one of
-- each literal that is shown, in their order, and one of a least value
abbrev pub ClaimsOf : GroundBase → List Lit → Command → Reply → List Entry → Type 0
ClaimsOf b lits c reply.Inconsistent es = IsTheClaim (SaysInconsistent lits) es
ClaimsOf b lits c (reply.Forced ls) es = EachWith (SaysForced b lits) ls es
ClaimsOf b lits (command.Minimize t) (reply.Minimum v m) es = AreLeastClaims lits t v es
ClaimsOf b lits _ _ es = es ≡ []

-- the bytes are the texts of the claims that belong to the reply to a command under these choices
pub record AreClaims (b : GroundBase) (choices : List Literal) (c : Command) (r : Reply) (bytes : List ℕ) : Type 0 where
  pub lits : List Lit
  pub each : EachWith (HasNumber b) choices lits
  pub entries : List Entry
  pub claims : ClaimsOf b lits c r entries
  pub text : bytes ≡ flat_map entry_text entries

-- the literals of a reply that is claimed one by one are over the domains
abbrev pub AreForcedOver : GroundBase → Reply → Type 0
AreForcedOver b (reply.Forced ls) = AreOver b ls
AreForcedOver b _ = ⊤
