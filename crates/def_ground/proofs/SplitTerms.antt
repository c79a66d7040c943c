-- A side of a comparison as what its aggregates come to, and what is left of it, which is what its rows say.
use Rattle.std.proofs.Common.{◌≡◌, ℤ, pos, neg_ℤ, ◌+ℤ◌, ◌-ℤ◌, ◌*ℤ◌, Bool, true, false, ◌||◌, List}
use Rattle.std.proofs.Common.{refl, ap, ◌∙◌, arith}
use Rattle.std.proofs.lemmas.Int.{ints}
use Rattle.kb_logic.specs.declared.elements.Elem.{Elem}
use Rattle.kb_logic.specs.declared.structures.Structure.{Structure}
use Rattle.kb_logic.specs.Meaning.{value_of, signed_of}
use Rattle.kb_logic.specs.Trees.{TermTree, variable, integer, constructed, application, summation, product, aggregate}
use Rattle.kb_logic.specs.Trees.{TermTrees, no_terms, more_terms, SummandTrees, no_summands, more_summands}
use Rattle.term_values.specs.GroundBases.{GroundBase}
use Rattle.term_values.specs.GroundTerms.{IsGroundTerm, AreGroundTerms, AreGroundSummands}
use Rattle.def_ground.specs.AskedTerms.{number_of}
use Rattle.def_ground.specs.Counting.{has_aggregate, have_aggregates, sum_has_aggregate, integer_factor}
use Rattle.def_ground.specs.GroundForms.{IsSignedInteger, AreSignedIntegers}
use Rattle.def_ground.proofs.Products.{times-zero}

abbrev mutual
  -- what the aggregates of a side come to, each with its factors and its sign
  pub counted_in : Structure → TermTree → List Elem → ℤ
  counted_in m (variable n) e = pos 0
  counted_in m (integer z) e = pos 0
  counted_in m (constructed ty n) e = pos 0
  counted_in m (application s ts) e = pos 0
  counted_in m (summation ss) e = counted_summands m ss e
  counted_in m (product ts) e = integer_factor ts *ℤ counted_factors m ts e
  counted_in m (aggregate k bs f t) e = number_of (value_of m (aggregate k bs f t) e)

  pub counted_summands : Structure → SummandTrees → List Elem → ℤ
  counted_summands m no_summands e = pos 0
  counted_summands m (more_summands minus t ss) e =
      signed_of minus (counted_in m t e) +ℤ counted_summands m ss e

  pub counted_factors : Structure → TermTrees → List Elem → ℤ
  counted_factors m no_terms e = pos 0
  counted_factors m (more_terms t ts) e = counted_in m t e +ℤ counted_factors m ts e

-- what is left of a side without them
abbrev pub left_in : Structure → TermTree → List Elem → ℤ
left_in m t e = number_of (value_of m t e) -ℤ counted_in m t e

pub neither : (c d : Bool) → (c || d) ≡ false → (c ≡ false) × (d ≡ false)
neither true d h = absurd cc
neither false d h = (refl, h)

pub both-false : (c d : Bool) → c ≡ false → d ≡ false → (c || d) ≡ false
both-false true d h k = absurd cc
both-false false d h k = k

signed-zero : (minus : Bool) (z : ℤ) → z ≡ pos 0 → signed_of minus z ≡ pos 0
signed-zero true z h = ap neg_ℤ h
signed-zero false z h = h

mutual
  -- a term without aggregates counts nothing
  pub nothing-counted : (m : Structure) (t : TermTree) (e : List Elem) → has_aggregate t ≡ false
      → counted_in m t e ≡ pos 0
  nothing-counted m (variable n) e h = refl
  nothing-counted m (integer z) e h = refl
  nothing-counted m (constructed ty n) e h = refl
  nothing-counted m (application s ts) e h = refl
  nothing-counted m (summation ss) e h = no-summand-counted m ss e h
  nothing-counted m (product ts) e h =
      ap (λ z. integer_factor ts *ℤ z) (no-factor-counted m ts e h) ∙ times-zero (integer_factor ts)
  nothing-counted m (aggregate k bs f t) e h = absurd cc

  pub no-summand-counted : (m : Structure) (ss : SummandTrees) (e : List Elem) → sum_has_aggregate ss ≡ false
      → counted_summands m ss e ≡ pos 0
  no-summand-counted m no_summands e h = refl
  no-summand-counted m (more_summands minus t ss) e h =
      let both = neither (has_aggregate t) (sum_has_aggregate ss) h in
      let one = signed-zero minus (counted_in m t e) (nothing-counted m t e both.0) in
      let more = no-summand-counted m ss e both.1 in omega (arith, ints, one, more)

  pub no-factor-counted : (m : Structure) (ts : TermTrees) (e : List Elem) → have_aggregates ts ≡ false
      → counted_factors m ts e ≡ pos 0
  no-factor-counted m no_terms e h = refl
  no-factor-counted m (more_terms t ts) e h =
      let both = neither (has_aggregate t) (have_aggregates ts) h in
      let one = nothing-counted m t e both.0 in
      let more = no-factor-counted m ts e both.1 in omega (arith, ints, one, more)

module _ (b : GroundBase) where
  mutual
    -- a ground term has no aggregates
    pub ground-plain : (t : TermTree) → IsGroundTerm b t → has_aggregate t ≡ false
    ground-plain (variable n) h = refl
    ground-plain (integer z) h = refl
    ground-plain (constructed ty n) h = refl
    ground-plain (application s ts) h = grounds-plain ts h.1
    ground-plain (summation ss) h = operands-plain ss h
    ground-plain (product ts) h = grounds-plain ts h
    ground-plain (aggregate k bs f t) h = absurd h

    pub grounds-plain : (ts : TermTrees) → AreGroundTerms b ts → have_aggregates ts ≡ false
    grounds-plain no_terms h = refl
    grounds-plain (more_terms t ts) h =
        both-false (has_aggregate t) (have_aggregates ts) (ground-plain t h.0) (grounds-plain ts h.1)

    operands-plain : (ss : SummandTrees) → AreGroundSummands b ss → sum_has_aggregate ss ≡ false
    operands-plain no_summands h = refl
    operands-plain (more_summands minus t ss) h =
        both-false (has_aggregate t) (sum_has_aggregate ss) (ground-plain t h.0) (operands-plain ss h.1)

-- an integer with signs has none either
pub integer-plain : (t : TermTree) → IsSignedInteger t → has_aggregate t ≡ false
integer-plain (variable n) h = refl
integer-plain (integer z) h = refl
integer-plain (constructed ty n) h = refl
integer-plain (application s ts) h = absurd h
integer-plain (summation no_summands) h = refl
integer-plain (summation (more_summands minus t no_summands)) h =
    both-false (has_aggregate t) false (integer-plain t h) refl
integer-plain (summation (more_summands minus t (more_summands sign u ss))) h = absurd h
integer-plain (product ts) h = absurd h
integer-plain (aggregate k bs f t) h = absurd h

pub integers-plain : (ts : TermTrees) → AreSignedIntegers ts → have_aggregates ts ≡ false
integers-plain no_terms h = refl
integers-plain (more_terms t ts) h =
    both-false (has_aggregate t) (have_aggregates ts) (integer-plain t h.0) (integers-plain ts h.1)
