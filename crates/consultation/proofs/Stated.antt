-- The statement of a command: its mark, entries of a search, and the claims of its reply.
use Rattle.std.proofs.Common.{◌≡◌, ℕ, List, [], ◌∷◌, ◌++◌, refl, sym, ap, ◌∙◌, subst, append_assoc}
use Rattle.std.specs.List.{AllByRecursion}
use Rattle.std.proofs.lemmas.List.Elements.{All-from_recursion}
use Rattle.kb_logic.specs.Bases.{Base}
use Rattle.kb_logic.specs.Models.{IsAtomOver, atom_of}
use Rattle.kb_logic.specs.declared.structures.Literal.{Literal}
use Rattle.derivation_log.specs.Lines.{entry_text}
use Rattle.derivation_log.specs.declared.entries.Entry.TheVariants.{Mark}
use Rattle.search_log.specs.Entries.{AreEntries}
use Rattle.log_checker.specs.Growing.{Checking, GoesOn}
use Rattle.log_checker.proofs.Going.{goes-on-twice}
use Rattle.narrowed_bases.specs.Narrowings.{IsProblemOf}
use Rattle.ground_task.specs.Choices.{AreOver}
use Rattle.ground_task.specs.Tasks.{atom_base}
use Rattle.consult_base.specs.Opened.{Opened, base_of}
use Rattle.consult_text.specs.Literals.{IsLiteralOver}
use Rattle.consult_text.specs.RightReplies.{RightReply}
use Rattle.consult_text.specs.States.{State, state_after}
use Rattle.consult_text.specs.Replies.{NeedsModel}
use Rattle.consult_text.specs.declared.commands.Command.{Command}
use Rattle.consult_text.specs.declared.commands.Command.TheVariants as command
use Rattle.consult_text.specs.declared.replies.Reply.{Reply}
use Rattle.claimed_replies.specs.Claims.{AreClaims}
use Rattle.derived_claims.specs.Statements.{HasClaims, IsRightUnder}
use Rattle.consultant_session.proofs.FoundLemmas.{atom_over}
use Rattle.consultation.specs.Statements.{IsStatement}
use Rattle.consultation.specs.declared.said.Said.TheVariants as said

-- the mark, and what has the claims behind it
pub stated : (kb : Base) (t : State) (n : ℕ) (c : Command) (r : Reply) (mark more bytes : List ℕ)
    → mark ≡ entry_text (Mark n) → HasClaims kb t.choices c r more → bytes ≡ mark ++ more
    → IsStatement kb t n (said.Replied c r) bytes
stated kb t n c r mark more bytes is has parts = (
  has.0,
  has.1,
  has.2,
  has.3,
  parts ∙ (ap (λ (l : List ℕ). l ++ more) is ∙ ap (λ (l : List ℕ). entry_text (Mark n) ++ l) has.4),
)

-- the same, in three parts
pub stated-apart : (kb : Base) (t : State) (n : ℕ) (c : Command) (r : Reply) (mark first entries claims bytes : List ℕ)
    → mark ≡ entry_text (Mark n) → AreEntries entries → first ≡ mark ++ entries
    → AreClaims (atom_base kb) t.choices c r claims → bytes ≡ first ++ claims
    → IsStatement kb t n (said.Replied c r) bytes
stated-apart kb t n c r mark first entries claims bytes is are front claimed parts =
    stated kb t n c r mark (entries ++ claims) bytes is (entries, claims, are, claimed, refl)
    (parts ∙ (ap (λ (l : List ℕ). l ++ claims) front ∙ append_assoc mark entries claims))

-- what needs a model leaves the choices
same-choices : (kb : Base) (s : State) (c : Command) → NeedsModel c → s.choices ≡ (state_after kb s c).choices
same-choices kb s command.Model needs = refl
same-choices kb s (command.Models n) needs = refl
same-choices kb s command.Propagate needs = refl
same-choices kb s (command.Minimize t) needs = refl
same-choices kb s (command.Explain l) needs = refl
same-choices kb s command.Why needs = absurd needs
same-choices kb s (command.Assert l) needs = absurd needs
same-choices kb s (command.Retract l) needs = absurd needs
same-choices kb s command.Reset needs = absurd needs
same-choices kb s command.Choices needs = absurd needs
same-choices kb s (command.Budget b) needs = absurd needs
same-choices kb s command.Forget needs = absurd needs

-- what was right before is right under the choices of the state behind it
pub right-under : (kb : Base) (t : State) (c : Command) (r : Reply)
    → (s : State) × RightReply kb s c r × (t ≡ state_after kb s c) → IsRightUnder kb t.choices c r
right-under kb t c r (s, right, leaves) = (
  s,
  λ needs. same-choices kb s c needs ∙ ap (λ (u : State). u.choices) (sym leaves),
  right,
)

-- of a session's knowledge base and choices, as they were borrowed
module _ (kb kb' : Opened) (same : kb' ≡ kb) where
  pub problem-for : (a b : Checking) (bytes : List ℕ) → GoesOn a bytes b → IsProblemOf (base_of kb) a.problem
      → IsProblemOf (base_of kb') b.problem
  problem-for a b bytes steps is =
      subst (λ (k : Opened). IsProblemOf (base_of k) b.problem) (sym same)
      (subst (IsProblemOf (base_of kb)) (sym steps.problem) is)

  each-over : (ls : List Literal) → AllByRecursion (IsLiteralOver (base_of kb)) ls
      → AllByRecursion (λ l. IsAtomOver (base_of kb).vocabulary.symbols (base_of kb).known.domains (atom_of l)) ls
  each-over [] over = tt
  each-over (l ∷ ls) over = (atom_over (base_of kb) l over.0, each-over ls over.1)

  module _ (ls ls' : List Literal) (alike : ls' ≡ ls) where
    pub over-for : AllByRecursion (IsLiteralOver (base_of kb)) ls → AreOver (atom_base (base_of kb')) ls'
    over-for over =
        subst (λ (k : Opened). AreOver (atom_base (base_of k)) ls') (sym same)
        (subst (AreOver (atom_base (base_of kb))) (sym alike)
        (All-from_recursion
        (λ l. IsAtomOver (base_of kb).vocabulary.symbols (base_of kb).known.domains (atom_of l)) ls
        (each-over ls over)))

    pub right-for : (c : Command) (r : Reply) → IsRightUnder (base_of kb) ls c r → IsRightUnder (base_of kb') ls' c r
    right-for c r right =
        subst (λ (k : Opened). IsRightUnder (base_of k) ls' c r) (sym same)
        (subst (λ (some : List Literal). IsRightUnder (base_of kb) some c r) (sym alike) right)

    pub claims-for : (c : Command) (r : Reply) (bytes : List ℕ) → HasClaims (base_of kb') ls' c r bytes
        → HasClaims (base_of kb) ls c r bytes
    claims-for c r bytes has =
        subst (λ (some : List Literal). HasClaims (base_of kb) some c r bytes) alike
        (subst (λ (k : Opened). HasClaims (base_of k) ls' c r bytes) same has)

-- one statement in two parts
pub goes-on-parts : (a b c : Checking) (first more bytes : List ℕ) → GoesOn a first b → GoesOn b more c
    → bytes ≡ first ++ more → GoesOn a bytes c
goes-on-parts a b c first more bytes one two parts =
    subst (λ (l : List ℕ). GoesOn a l c) (sym parts) (goes-on-twice a b c first more one two)
