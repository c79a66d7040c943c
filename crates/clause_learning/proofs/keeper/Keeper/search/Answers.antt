use Rattle.std.proofs.Common.{◌≡◌, ◌+◌, ◌<◌, ◌≤◌, ◌^◌, ℕ, length, refl, subst, arith}
use Rattle.search_engine.specs.declared.engine.Engine.{Engine}
use Rattle.clause_learning.specs.Keeping.{IsMost, kept_of}
use Rattle.clause_learning.proofs.KeeperFacts.{spends, most-within}
use Rattle.clause_learning.proofs.keeper.Keeper.search.Goals as goal

pub returns-clause-spends : goal.returns-clause-spends
returns-clause-spends g c =
    let e : Engine = c.args.self.now.engine in
    let f : Engine = c.solve-verdict.new.self in
    let known : c.len-before.result ≡ length e.learnt = c.len-before.ensures in
    let len : c.len-after.result ≡ length f.learnt = c.len-after.ensures in
    let most : IsMost (length e.learnt) c.args.budget.now c.most_of.result =
    subst (λ (n : ℕ). IsMost n c.args.budget.now c.most_of.result) known c.most_of.ensures in
    let longer : length e.learnt ≤ length f.learnt = let n : length f.learnt ≡ length e.learnt
    + c.solve-verdict.ensures.now.0 = c.solve-verdict.ensures.now.1 in omega (arith, n) in
    let small : length f.learnt < 2 ^ 64 = let i : c.len-after.result < 2 ^ 64 = c.len-after.type_inv in
    omega (arith, i, len) in
    spends (kept_of c.args.self.now) _ c.args.budget.now _ f.conflicts c.solve-verdict.ensures.problem
    c.solve-verdict.ensures.learnt c.solve-verdict.ensures.now refl (omega (arith, known, len))
    c.solve-verdict.ensures.counted c.solve-verdict.ensures.fewer
    (most-within (length e.learnt) (length f.learnt) c.args.budget.now c.most_of.result most longer small
    c.requires.budget.learned c.solve-verdict.ensures.room)
