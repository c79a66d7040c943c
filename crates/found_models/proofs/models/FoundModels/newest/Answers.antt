use Rattle.std.proofs.Common.{◌≡◌, ◌∙◌, ◌+◌, ◌-◌, ℕ, Bool, List, [], drop, take, get_or, ap, sym, arith}
use Rattle.found_models.specs.Found.{FoundState, makes_all, those_under}
use Rattle.found_models.proofs.LastFacts.{last-passes}
use Rattle.found_models.proofs.models.FoundModels.newest.Goals as goal

pub returns-then-make_all : goal.returns-then-make_all
returns-then-make_all c =
    let models : List (List Bool) = c.args.self.now.models in
    let here : ℕ = c.loop-left.left - 1 in
    let values : List Bool = c.index-values.result.now in
    let are : c.self.inside.models.items ≡ models = ap (λ (f : FoundState). f.models) c.self.view_is in
    let behind : here + 1 ≡ c.loop-left.left = omega (arith, c.loop-left-test.true) in
    let none : those_under c.args.lits.now (drop (here + 1) models) ≡ [] =
    ap (λ (n : ℕ). those_under c.args.lits.now (drop n models)) behind ∙ c.loop-left.invariant.none in (
      those_under c.args.lits.now (take here models),
      last-passes (makes_all c.args.lits.now) models here values (omega (arith, behind, c.loop-left.invariant.within))
          (c.index-values.ensures ∙ ap (λ (ms : List (List Bool)). get_or ms here values) are)
          (sym c.make_all.ensures ∙ c.if-make_all.true) none,
    )
