-- The state of a session: the choices and the budget, and what each command does to them.
use Rattle.std.specs.Prelude.{ℕ, List, [], ◌∷◌, ◌++◌, Bool, true, false, ◌&&◌, ◌==◌, not, filter, Option, Some, None}
use Rattle.std.specs.List.{list_any}
use Rattle.kb_logic.specs.declared.elements.Elem.{Elem}
use Rattle.kb_logic.specs.declared.structures.Literal.{Literal}
use Rattle.kb_logic.specs.Bases.{Base}
use Rattle.kb_logic.specs.Models.{atom_of}
use Rattle.partial_structures.specs.KnownAtoms.{value_at}
use Rattle.partial_structures.specs.declared.truths.Truth.{Truth}
use Rattle.partial_structures.specs.declared.truths.Truth.TheVariants as truth
use Rattle.consult_text.specs.declared.commands.Command.{Command}
use Rattle.consult_text.specs.declared.commands.Command.TheVariants as command
use Rattle.consult_text.specs.declared.refusals.F.{F}
use Rattle.consult_text.specs.declared.refusals.F.TheVariants as refusal
use Rattle.std.specs.Cmp.Lexicographic.{pointwise}
use Rattle.kb_logic.specs.Denotations.{denotation_of, same_value}

-- what a session's replies depend on, beside the knowledge base: the choices, and how many conflicts a command may
-- meet, without a limit where there is no number
pub record State : Type 0 where
  pub choices : List Literal
  pub budget : Option ℕ

-- a session begins without choices
abbrev pub first_state : Option ℕ → State
first_state budget = record { choices = []; budget = budget }

-- the elements are the same word or the same integer
abbrev pub same_elem : Elem → Elem → Bool
same_elem x y = same_value (denotation_of x) (denotation_of y)

-- the rows have the same elements
abbrev pub same_row : List Elem → List Elem → Bool
same_row = pointwise same_elem

abbrev pub same_sign : Bool → Bool → Bool
same_sign true b = b
same_sign false b = not b

abbrev pub same_given_value : Option Elem → Option Elem → Bool
same_given_value None None = true
same_given_value None (Some y) = false
same_given_value (Some x) None = false
same_given_value (Some x) (Some y) = same_elem x y

-- the literals have the same sign, symbol, arguments and value
abbrev pub same_literal : Literal → Literal → Bool
same_literal a b = (same_sign a.positive b.positive && (a.symbol == b.symbol)) &&
    (same_row a.args b.args && same_given_value a.value b.value)

-- the literal is a choice
abbrev pub is_chosen : State → Literal → Bool
is_chosen s l = list_any (same_literal l) s.choices

-- it is certain whether it is so
abbrev pub is_certain : Truth → Bool
is_certain truth.Yes = true
is_certain truth.No = true
is_certain truth.Unknown = false

-- the literal's atom is known in the data: it is certainly true there, or certainly false
abbrev pub is_known : Base → Literal → Bool
is_known kb l = is_certain (value_at kb.known (atom_of l))

-- this refusal where its cause holds, and else the next one
abbrev pub refused_where : Bool → F → Option F → Option F
refused_where true f next = Some f
refused_where false f next = next

-- why a command is refused, if it is: a literal whose atom is known in the data, and then one that is a choice
-- already, is not asserted, and one that is no choice is not retracted
abbrev pub command_refusal : Base → State → Command → Option F
command_refusal kb s (command.Assert l) = refused_where (is_known kb l) refusal.GivenByData (refused_where
    (is_chosen s l) refusal.AlreadyChosen None)
command_refusal kb s (command.Retract l) = refused_where (not (is_chosen s l)) refusal.NotChosen None
command_refusal kb s command.Reset = None
command_refusal kb s command.Choices = None
command_refusal kb s command.Model = None
command_refusal kb s (command.Models n) = None
command_refusal kb s command.Propagate = None
command_refusal kb s (command.Minimize t) = None
command_refusal kb s (command.Explain l) = None
command_refusal kb s command.Why = None
command_refusal kb s (command.Budget b) = None
command_refusal kb s command.Forget = None

-- the choices without this one, in their order
abbrev pub without : Literal → List Literal → List Literal
without l choices = filter (λ c. not (same_literal l c)) choices

-- what a command that is not refused does
abbrev pub carried_out : State → Command → State
carried_out s (command.Assert l) = record s { choices = s.choices ++ l ∷ [] }
carried_out s (command.Retract l) = record s { choices = without l s.choices }
carried_out s command.Reset = record s { choices = [] }
carried_out s command.Choices = s
carried_out s command.Model = s
carried_out s (command.Models n) = s
carried_out s command.Propagate = s
carried_out s (command.Minimize t) = s
carried_out s (command.Explain l) = s
carried_out s command.Why = s
carried_out s (command.Budget b) = record s { budget = b }
carried_out s command.Forget = s

abbrev pub unless_refused : Option F → State → State → State
unless_refused None s t = t
unless_refused (Some f) s t = s

-- the state after a command; one that is refused changes nothing
abbrev pub state_after : Base → State → Command → State
state_after kb s c = unless_refused (command_refusal kb s c) s (carried_out s c)
