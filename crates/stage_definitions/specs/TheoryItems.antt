-- The items of a theory: its sentences, and then the rules of its definitions. The places of its terms are kept in this
-- order.
use Rattle.std.specs.Prelude.{List, ◌++◌, map, option_to_list}
use Rattle.std.specs.List.{flat_map}
use Rattle.kb_logic.specs.Trees.{TermTree, FormulaTree, RuleTree, TheoryTree}

pub data TheoryItem : Type 0 where
  sentence : FormulaTree → TheoryItem
  rule : RuleTree → TheoryItem

-- the terms of a rule's head: its arguments, and a function's value
abbrev pub head_terms : RuleTree → List TermTree
head_terms r = r.args ++ option_to_list r.value

abbrev pub items_of : TheoryTree → List TheoryItem
items_of t = map (λ f. sentence f) t.sentences ++ flat_map (λ d. map (λ r. rule r) d.rules) t.definitions
