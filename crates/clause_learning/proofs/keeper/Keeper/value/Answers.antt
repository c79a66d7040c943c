use Rattle.std.proofs.Common.{◌≡◌, ◌<◌, ℕ, List, Some, get_or, length, ap, ◌∙◌, sym}
use Rattle.std.specs.List.{slice_get}
use Rattle.std.proofs.lemmas.Option.{slice_get-get_or}
use Rattle.lit_core.specs.Literals.{valuation}
use Rattle.ground_core.specs.declared.parts.GroundTerm.{GroundTerm}
use Rattle.ground_core.specs.Problems.{ProblemState}
use Rattle.clause_learning.proofs.KeeperFacts.{in-range-at, value-at}
use Rattle.clause_learning.proofs.keeper.Keeper.value.Goals as goal

-- the term that is read is the problem's
read : (p : ProblemState) (ts : List GroundTerm) (k : ℕ) (t : GroundTerm) → k < length p.terms → ts ≡ p.terms
    → t ≡ get_or ts k t → slice_get p.terms k ≡ Some t
read p ts k t lt same is = slice_get-get_or p.terms k t lt ∙ ap Some
    (sym (is ∙ ap (λ (xs : List GroundTerm). get_or xs k t) same))

pub value_of-requires : goal.value_of-requires
value_of-requires c =
    let p : ProblemState = c.args.self.now.engine.problem in
    in-range-at p c.args.term c.index-terms-term.result (valuation c.args.values.now)
    (read p c.terms-terms.result.now c.args.term c.index-terms-term.result c.requires.term
    c.terms-terms.ensures.value c.index-terms-term.is) c.requires.keeper.terms c.requires.satisfied

pub returns : goal.returns
returns c =
    let p : ProblemState = c.args.self.now.engine.problem in
    value-at p c.args.term c.index-terms-term.result (valuation c.args.values.now) c.value_of.result
    (read p c.terms-terms.result.now c.args.term c.index-terms-term.result c.requires.term
    c.terms-terms.ensures.value c.index-terms-term.is) c.value_of.ensures
