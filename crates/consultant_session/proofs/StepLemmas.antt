-- What a command that needs a model is, and what its refusal by a kept core is worth.
use Rattle.std.proofs.Common.{◌≡◌, true, List, None, All, get_or, refl, sym, subst}
use Rattle.std.proofs.lemmas.List.Elements.{All-contains}
use Rattle.kb_logic.specs.Bases.{Base}
use Rattle.kb_logic.specs.declared.structures.Literal.{Literal}
use Rattle.kb_logic.specs.InForce.{HasNoModel}
use Rattle.kb_logic.specs.Structures.{EachWith}
use Rattle.lit_core.specs.declared.literals.Lit.{Lit}
use Rattle.lit_core.specs.Literals.{literal_value}
use Rattle.ground_core.specs.Problems.{ProblemState}
use Rattle.ground_core.specs.Meaning.{RefutesAll}
use Rattle.ground_core.specs.Solving.{SolveState, HasCoreWithin}
use Rattle.atom_numbers.specs.Numbers.{HasNumber}
use Rattle.term_values.specs.GroundBases.{GroundBase}
use Rattle.ground_task.specs.Tasks.{atom_base}
use Rattle.ground_task.proofs.TaskFacts.{shown-of, has-none}
use Rattle.consult_text.specs.declared.commands.Command.{Command}
use Rattle.consult_text.specs.declared.commands.Command.TheVariants as command
use Rattle.consult_text.specs.declared.replies.Reply.TheVariants as reply
use Rattle.consult_text.specs.Replies.{IsQuery, NeedsModel}
use Rattle.consult_text.specs.RightReplies.{RightReply, RightUnless, in_force}
use Rattle.consult_text.specs.States.{State, command_refusal, state_after}
use Rattle.consultant_session.specs.Commands.{left_by, IsRefused, IsNotRefused}
use Rattle.session_queries.specs.Solvers.{IsTaskOver}
use Rattle.consultant_session.specs.Sessions.{TakesMemory}

pub needs-query : (c : Command) → NeedsModel c → IsQuery c
needs-query command.Why h = absurd h
needs-query c h = h

module _ (kb : Base) (s : State) where
  abbrev IsPlain : Command → Type 0
  IsPlain c = TakesMemory c × (command_refusal kb s c ≡ None) × (state_after kb s c ≡ s)
      × ((ls : List (List Lit)) → left_by c ls ≡ ls)

  -- a query is not refused, changes nothing and leaves what was learnt
  pub plain : (c : Command) → IsQuery c → IsPlain c
  plain command.Model h = (tt, refl, refl, λ ls. refl)
  plain (command.Models n) h = (tt, refl, refl, λ ls. refl)
  plain command.Propagate h = (tt, refl, refl, λ ls. refl)
  plain (command.Minimize t) h = (tt, refl, refl, λ ls. refl)
  plain (command.Explain l) h = (tt, refl, refl, λ ls. refl)
  plain command.Why h = (tt, refl, refl, λ ls. refl)
  plain _ h = absurd h

  -- that there is no model is the right reply to a command that needs one, where there is none
  pub right-refusal : (c : Command) → NeedsModel c → HasNoModel kb (in_force s) → RightReply kb s c reply.Inconsistent
  right-refusal c h none =
      subst (λ f. RightUnless f kb s c reply.Inconsistent) (sym (plain c (needs-query c h)).1) (h, none)

-- what refutes a core within literals refutes these
pub core-refutes : (p : ProblemState) (cores : List (List Lit)) (ls : List Lit) → All (RefutesAll p) cores
    → HasCoreWithin cores ls → RefutesAll p ls
core-refutes p cores ls refuted any = λ v sat holds.
    All-contains (RefutesAll p) cores any.1 refuted (any.0, any.2, any.3) v sat
    (λ i d lt. All-contains (λ (l : Lit). literal_value v l ≡ true) ls (get_or any.1 i d) holds (any.4 i d lt))

module _ (kb : Base) (numbers : GroundBase) (s : State) (solver : SolveState) (is : IsTaskOver kb numbers solver)
    (c : Command) (choices : List Literal) (same : choices ≡ s.choices) (lits ls : List Lit)
    (each : EachWith (HasNumber numbers) choices lits) (slice : ls ≡ lits) where
  here : EachWith (HasNumber numbers) s.choices ls
  here =
      subst (λ (cs : List Literal). EachWith (HasNumber numbers) cs ls) same
      (subst (EachWith (HasNumber numbers) choices) (sym slice) each)

  own : EachWith (HasNumber (atom_base kb)) s.choices ls
  own = subst (λ (b : GroundBase). EachWith (HasNumber b) s.choices ls) is.task.numbers here

  -- a core within the literals of the choices refuses a command that needs a model
  pub is-refused : NeedsModel c → HasCoreWithin solver.cores ls → IsRefused kb s solver c
  is-refused needs core = record {
    query = needs;
    core = λ others each-other.
        shown-of kb numbers solver.problem is.task s.choices ls others here
        (subst (λ (b : GroundBase). EachWith (HasNumber b) s.choices others) (sym is.task.numbers) each-other)
        solver.cores core;
    none = λ m model. has-none kb numbers solver.problem is.task ls s.choices here
        (core-refutes solver.problem solver.cores ls is.kept.refuted core) m model;
  }

  pub is-not-refused : (HasCoreWithin solver.cores ls → ⊥) → IsNotRefused kb s solver c
  is-not-refused none needs core = none (core ls own)
