-- Static bounds in 64 bits: an integer past these stands at their end.
--
-- Each prefix of a chain is a term of its own, so a term whose bounds are clamped is refused, or has a part that is.
use Rattle.std.specs.Prelude.{ℕ, ℤ, pos, neg_ℤ, List, [], ◌∷◌, ◌++◌, length, fold, slice_get}
use Rattle.std.specs.Int.{int_min, int_max}
use Rattle.kb_logic.specs.declared.elements.Elem.{Elem}
use Rattle.kb_logic.specs.declared.vocabularies.Vocabulary.{Vocabulary}
use Rattle.kb_logic.specs.Trees.{TermTree, variable, integer, constructed, application, summation, product, aggregate}
use Rattle.kb_logic.specs.Trees.{TermTrees, no_terms, more_terms, SummandTrees, no_summands, more_summands}
use Rattle.kb_logic.specs.Structures.{domain_at, choices}
use Rattle.kb_logic.specs.Bounds.{Interval, exactly, range_of, domain_if, value_type_of, types_of}
use Rattle.kb_logic.specs.Bounds.{signed_interval, interval_sum, interval_product, aggregate_bounds}

-- the integer, or the end of 64 bits that it has passed
abbrev pub clamp : ℤ → ℤ
clamp z = int_max (neg_ℤ (pos 9223372036854775808)) (int_min (pos 9223372036854775807) z)

abbrev pub clamp_interval : Interval → Interval
clamp_interval i = record { low = clamp i.low; high = clamp i.high }

abbrev pub clamping_sum : Interval → Interval → Interval
clamping_sum a b = clamp_interval (interval_sum a b)

abbrev pub clamping_product : Interval → Interval → Interval
clamping_product a b = clamp_interval (interval_product a b)

abbrev mutual
  -- the static bounds of a term; the scope has the types of the variables in scope, the outermost first
  pub clamped_bounds : Vocabulary → List (List Elem) → TermTree → List ℕ → Interval
  clamped_bounds v domains (variable n) scope = range_of (domain_if domains (slice_get scope n))
  clamped_bounds v domains (integer z) scope = exactly z
  clamped_bounds v domains (constructed ty n) scope = range_of (domain_at domains ty)
  clamped_bounds v domains (application s ts) scope = range_of (domain_if domains (value_type_of v s))
  clamped_bounds v domains (summation ss) scope = fold clamping_sum (exactly (pos 0))
      (clamped_summands v domains ss scope)
  clamped_bounds v domains (product ts) scope = fold clamping_product (exactly (pos 1))
      (clamped_factors v domains ts scope)
  clamped_bounds v domains (aggregate k bs f t) scope =
      clamp_interval (aggregate_bounds k (length (choices domains bs))
      (clamped_bounds v domains t (scope ++ types_of bs)))

  pub clamped_factors : Vocabulary → List (List Elem) → TermTrees → List ℕ → List Interval
  clamped_factors v domains no_terms scope = []
  clamped_factors v domains (more_terms t ts) scope = clamped_bounds v domains t scope
      ∷ clamped_factors v domains ts scope

  pub clamped_summands : Vocabulary → List (List Elem) → SummandTrees → List ℕ → List Interval
  clamped_summands v domains no_summands scope = []
  clamped_summands v domains (more_summands minus t ss) scope =
      clamp_interval (signed_interval minus (clamped_bounds v domains t scope)) ∷ clamped_summands v domains ss scope
