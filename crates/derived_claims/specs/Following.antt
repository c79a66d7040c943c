-- What follows from all that a log may cite, so that a derivation of it exists.
use Rattle.std.specs.Prelude.{◌≡◌, ℕ, ◌<◌, ◌≤◌, List, [], ◌∷◌, ◌++◌, length, All, Contains, Bool, false, ⊤}
use Rattle.kb_logic.specs.declared.elements.ExtInt.{ExtInt}
use Rattle.kb_logic.specs.declared.structures.Literal.{Literal}
use Rattle.kb_logic.specs.Denotations.{denotation_of_bound, lower_value}
use Rattle.kb_logic.specs.Models.{IsAtomOver, atom_of}
use Rattle.lit_core.specs.declared.literals.Lit.{Lit}
use Rattle.lit_core.specs.Literals.{negated}
use Rattle.ground_core.specs.Problems.{IsLitOf}
use Rattle.ground_core.specs.Growing.{value_at}
use Rattle.derivation_log.specs.declared.entries.Entry.{Entry}
use Rattle.derivation_log.specs.declared.entries.Entry.TheVariants as entry
use Rattle.derivation_log.specs.Steps.{AreAtoms, Cites}
use Rattle.derivation_log.specs.Texts.{IsLiteral, IsNumber}
use Rattle.log_checker.specs.Growing.{Checking}
use Rattle.term_values.specs.GroundBases.{GroundBase}
use Rattle.atom_numbers.specs.Numbers.{HasNumber}
use Rattle.consult_text.specs.declared.commands.Command.{Command}
use Rattle.consult_text.specs.declared.commands.Command.TheVariants as command
use Rattle.consult_text.specs.declared.replies.Reply.{Reply}
use Rattle.consult_text.specs.declared.replies.Reply.TheVariants as reply
use Rattle.log_checker.specs.Cases.{Admits, IsRefuted}
use Rattle.derived_claims.specs.declared.forcing.Forcing.{Forcing}

-- the literals are of ground atoms, whose variables are in use, and can be written
pub record AreOfAtoms (c : Checking) (lits : List Lit) : Type 0 where
  pub atoms : AreAtoms c.problem lits
  pub vars : length c.problem.atoms ≤ c.state.vars
  pub written : All IsLiteral lits

-- the literal is none of these, and all that admits these makes it true
pub record IsForced (c : Checking) (lits : List Lit) (l : Lit) : Type 0 where
  pub atom : IsLitOf (length c.problem.atoms) l
  pub new : Contains lits l → ⊥
  pub refuted : IsRefuted c (lits ++ negated l ∷ [])

-- the atom of the literal is over the domains, and its variable's literal is forced
abbrev pub IsForcedOver : GroundBase → Checking → List Lit → Literal → Type 0
IsForcedOver b c lits l = IsAtomOver b.vocabulary.symbols b.domains (atom_of l)
    × ((lit : Lit) → HasNumber b l lit → IsForced c lits lit)

-- the term is there, and nothing that admits the literals gives it a lower value
pub record IsLeastUnder (c : Checking) (lits : List Lit) (term : ℕ) (value : ExtInt) : Type 0 where
  pub there : term < length c.problem.terms
  pub least : (v : ℕ → Bool) → Admits c lits v
      → lower_value (value_at c.problem term v) (denotation_of_bound value) ≡ false

-- what is claimed of the reply to a command, of choices with these literals, follows
abbrev pub Follows : GroundBase → Checking → List Lit → Command → Reply → Type 0
Follows b c lits d reply.Inconsistent = IsRefuted c lits
Follows b c lits d (reply.Forced ls) = All (IsForcedOver b c lits) ls
Follows b c lits (command.Minimize t) (reply.Minimum v m) = IsLeastUnder c lits t v
Follows b c lits _ _ = ⊤

-- the literal is of a ground atom and can be written, and the clause of that number shows that it follows from these
pub record IsForcing (c : Checking) (lits : List Lit) (f : Forcing) : Type 0 where
  pub atom : IsLitOf (length c.problem.atoms) f.lit
  pub written : IsLiteral f.lit
  pub cites : Cites c.state lits (λ m. m ≡ f.lit) f.clause
  pub number : IsNumber f.clause

-- the variable's literal of this one
abbrev pub IsOfLiteral : GroundBase → Literal → Forcing → Type 0
IsOfLiteral b l f = HasNumber b l f.lit

-- the claim of it
abbrev pub forced_claim : List Lit → Forcing → Entry
forced_claim lits f = entry.Forced f.lit lits f.clause
