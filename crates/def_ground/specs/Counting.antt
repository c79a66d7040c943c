-- Where aggregates stand in terms, and with which factors.
use Rattle.std.specs.Prelude.{ℤ, pos, ◌*ℤ◌, Bool, true, false, ◌||◌, if◌then◌else◌, Option, Some, None}
use Rattle.kb_logic.specs.declared.syntax.AggKind.{AggKind}
use Rattle.kb_logic.specs.declared.syntax.AggKind.TheVariants as kind
use Rattle.kb_logic.specs.Meaning.{signed_of}
use Rattle.kb_logic.specs.Trees.{TermTree, variable, integer, constructed, application, summation, product, aggregate}
use Rattle.kb_logic.specs.Trees.{TermTrees, no_terms, more_terms, SummandTrees, no_summands, more_summands}

abbrev mutual
  -- there is an aggregate in the term
  pub has_aggregate : TermTree → Bool
  has_aggregate (variable n) = false
  has_aggregate (integer z) = false
  has_aggregate (constructed ty n) = false
  has_aggregate (application s ts) = have_aggregates ts
  has_aggregate (summation ss) = sum_has_aggregate ss
  has_aggregate (product ts) = have_aggregates ts
  has_aggregate (aggregate k bs f t) = true

  pub have_aggregates : TermTrees → Bool
  have_aggregates no_terms = false
  have_aggregates (more_terms t ts) = has_aggregate t || have_aggregates ts

  pub sum_has_aggregate : SummandTrees → Bool
  sum_has_aggregate no_summands = false
  sum_has_aggregate (more_summands minus t ss) = has_aggregate t || sum_has_aggregate ss

abbrev mutual
  -- the value of an integer with signs, and 1 for any other term
  pub signed_integer : TermTree → ℤ
  signed_integer (variable n) = pos 1
  signed_integer (integer z) = z
  signed_integer (constructed ty n) = pos 1
  signed_integer (application s ts) = pos 1
  signed_integer (summation ss) = signed_operand ss
  signed_integer (product ts) = pos 1
  signed_integer (aggregate k bs f t) = pos 1

  pub signed_operand : SummandTrees → ℤ
  signed_operand no_summands = pos 1
  signed_operand (more_summands minus t no_summands) = signed_of minus (signed_integer t)
  signed_operand (more_summands minus t (more_summands sign u ss)) = pos 1

-- the product of the factors without aggregates, which are integers
abbrev pub integer_factor : TermTrees → ℤ
integer_factor no_terms = pos 1
integer_factor (more_terms t ts) = (if has_aggregate t then pos 1 else signed_integer t) *ℤ integer_factor ts

-- which of the two a term is as a whole: a minimum or a maximum
abbrev pub extreme_of : TermTree → Option AggKind
extreme_of (variable n) = None
extreme_of (integer z) = None
extreme_of (constructed ty n) = None
extreme_of (application s ts) = None
extreme_of (summation ss) = None
extreme_of (product ts) = None
extreme_of (aggregate kind.Count bs f t) = None
extreme_of (aggregate kind.Sum bs f t) = None
extreme_of (aggregate kind.Min bs f t) = Some kind.Min
extreme_of (aggregate kind.Max bs f t) = Some kind.Max
