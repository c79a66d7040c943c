-- What is noted of terms whose bounds are known to be too wide or not.
use Rattle.std.specs.Prelude.{ℕ, Bool, List, Option, map}
use Rattle.std.specs.List.{flat_map}
use Rattle.kb_text.specs.declared.fault.K.TheVariants as k
use Rattle.kb_text.specs.declared.fault.KbFault.{KbFault}
use Rattle.kb_logic.specs.declared.elements.Elem.{Elem}
use Rattle.kb_logic.specs.declared.vocabularies.Vocabulary.{Vocabulary}
use Rattle.kb_logic.specs.Trees.{FormulaTree, RuleTree, DefinitionTree, TheoryTree}
use Rattle.kb_logic.specs.Bounds.{Interval}
use Rattle.stage_definitions.specs.Earliest.{noted_if}
use Rattle.stage_definitions.specs.Sizes.{item_bounds}
use Rattle.stage_definitions.specs.TheoryItems.{TheoryItem, sentence, rule, items_of}

-- the earliest refusal so far, and then that of a term at this place, whose bounds are too wide or not
abbrev pub wide_noted : Option KbFault → ℕ × Bool → Option KbFault
wide_noted so_far x = noted_if x.1 k.OutOfRange x.0 so_far

-- sentences, rules and the rules of a definition as items of a theory
abbrev pub sentences_in : List FormulaTree → List TheoryItem
sentences_in fs = map (λ f. sentence f) fs

abbrev pub rules_in : List RuleTree → List TheoryItem
rules_in rs = map (λ r. rule r) rs

abbrev pub rules_of : DefinitionTree → List TheoryItem
rules_of d = rules_in d.rules

-- the bounds at each term of a theory
abbrev pub theory_bounds : Vocabulary → List (List Elem) → TheoryTree → List (List Interval)
theory_bounds v domains t = flat_map (item_bounds v domains) (items_of t)
