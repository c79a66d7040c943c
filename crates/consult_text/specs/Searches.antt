-- How many conflicts a query may meet at most, whatever its budget.
use Rattle.std.specs.Prelude.{ℕ, ◌+◌, ◌*◌, ◌^◌, [], length, map, slice_get}
use Rattle.std.specs.Option.{option_map_or}
use Rattle.kb_logic.specs.Bases.{Base, NamedTerm}
use Rattle.kb_logic.specs.Bounds.{bounds_of, width_of}
use Rattle.kb_logic.specs.KnownAtoms.{atoms_over}
use Rattle.kb_logic.specs.Weights.{weight_of}
use Rattle.consult_text.specs.declared.commands.Command.{Command}
use Rattle.consult_text.specs.declared.commands.Command.TheVariants as command
use Rattle.consult_text.specs.States.{State}

-- the weight of the knowledge base
abbrev pub weight : Base → ℕ
weight kb = weight_of kb.vocabulary kb.known.domains kb.theory (map (λ (t : NamedTerm). t.term) kb.terms)

-- the width of the static bounds of the term block with this number
abbrev pub term_width : Base → ℕ → ℕ
term_width kb t = option_map_or (λ (b : NamedTerm). width_of (bounds_of kb.vocabulary kb.known.domains b.term []))
    (slice_get kb.terms t) 0

-- how many searches a command takes at most in a state
abbrev pub searches : Base → State → Command → ℕ
searches kb s command.Model = 1
searches kb s (command.Models n) = n + 1
searches kb s command.Propagate = length (atoms_over kb.vocabulary.symbols kb.known.domains) + 1
searches kb s (command.Minimize t) = term_width kb t + 3
searches kb s (command.Explain l) = length s.choices + 2
searches kb s command.Why = length s.choices + 2
searches kb s _ = 0

-- a budget of so many conflicts lets every search of the command come to its end
abbrev pub enough : Base → State → Command → ℕ
enough kb s c = searches kb s c * 2 ^ (weight kb + searches kb s c)
