-- Heads of rules, whose terms are known whatever is known of the atoms.
use Rattle.std.specs.Prelude.{◌≡◌, ℤ, true, IfSome, ⊤}
use Rattle.std.specs.List.{AllByRecursion}
use Rattle.kb_logic.specs.Trees.{TermTree, variable, integer, constructed, application, summation, product, aggregate}
use Rattle.kb_logic.specs.Trees.{more_summands, no_summands, RuleTree}

-- a term of a head is a variable, an integer, with a minus or without, or a constructed name
abbrev pub IsHeadTerm : TermTree → Type 0
IsHeadTerm (variable n) = ⊤
IsHeadTerm (integer z) = ⊤
IsHeadTerm (constructed ty n) = ⊤
IsHeadTerm (application s ts) = ⊥
IsHeadTerm (summation ss) = (z : ℤ) × (ss ≡ more_summands true (integer z) no_summands)
IsHeadTerm (product ts) = ⊥
IsHeadTerm (aggregate k bs f t) = ⊥

-- each term of the rule's head is such a term
pub record HasPlainHead (r : RuleTree) : Type 0 where
  pub args : AllByRecursion IsHeadTerm r.args
  pub value : IfSome r.value IsHeadTerm
