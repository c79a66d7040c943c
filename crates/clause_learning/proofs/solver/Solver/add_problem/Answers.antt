use Rattle.std.proofs.Common.{◌≡◌, [], subst, sym, ◌⊎◌, ⊎_elim}
use Rattle.std.specs.Global.{Vec}
use Rattle.ground_core.specs.declared.parts.TermBound.{TermBound}
use Rattle.ground_core.specs.Problems.{ProblemState}
use Rattle.ground_core.specs.Meaning.{HasTermsInRange}
use Rattle.search_engine.specs.declared.engine.Engine.{Engine}
use Rattle.search_engine.specs.Joining.{CanJoin}
use Rattle.search_engine.specs.Resting.{Grows, IsResting, Stays}
use Rattle.clause_learning.specs.declared.keeper.Keeper.{Keeper}
use Rattle.clause_learning.specs.Keeping.{IsKeeper}
use Rattle.clause_learning.specs.SolverFields.{state_of}
use Rattle.clause_learning.specs.SolverState.{SolverState}
use Rattle.clause_learning.proofs.KeeperFacts.{either, keeper-joined, keeper-stays}
use Rattle.clause_learning.proofs.SolverFacts.{solver-laws}
use Rattle.clause_learning.proofs.solver.Solver.add_problem.Goals as goal

added : (a : Keeper) (f : Engine) (bs : Vec TermBound) (q : ProblemState) (s : SolverState) → bs.items ≡ []
    → state_of a ≡ s → IsKeeper a → IsResting f
    → CanJoin s.kept.problem q → q.bounds ≡ [] → HasTermsInRange q → Grows a.engine q f ⊎ Stays a.engine f
    → IsKeeper (record { alloc = a.alloc; engine = f; index = a.index; additions = a.additions; live = bs })
added a f bs q s none view h resting joins bounds terms way =
    let can : CanJoin a.engine.problem q = subst (λ (x : SolverState). CanJoin x.kept.problem q) (sym view) joins in
    ⊎_elim
    (λ (g : Grows a.engine q f). keeper-joined a f bs h resting none q can bounds terms g)
    (λ (g : Stays a.engine f). keeper-stays a f bs h resting none g.problem (rw g.same.searches h.counted))
    way

pub invariant_of-self : goal.invariant_of-self
invariant_of-self g c =
    let a : Keeper = c.self.inside.keeper in
    let f : Engine = c.add_problem.new.self in
    added a f c.clear.new.self c.args.more.now _ c.clear.ensures.items c.self.view_is c.self.invariant
    c.add_problem.ensures.resting c.requires.can
    c.requires.bounds c.requires.range (either (Grows a.engine c.args.more.now f) (Stays a.engine f)
    c.add_problem.result c.add_problem.ensures.ok c.add_problem.ensures.err)

pub returns-clause-laws : goal.returns-clause-laws
returns-clause-laws g c =
    let a : Keeper = c.self.inside.keeper in
    let f : Engine = c.add_problem.new.self in
    solver-laws (record {
      alloc = a.alloc;
      engine = f;
      index = a.index;
      additions = a.additions;
      live =
          c.clear.new.self;
    })
    (added a f c.clear.new.self c.args.more.now _ c.clear.ensures.items c.self.view_is c.self.invariant
    c.add_problem.ensures.resting c.requires.can
    c.requires.bounds c.requires.range (either (Grows a.engine c.args.more.now f) (Stays a.engine f)
    c.add_problem.result c.add_problem.ensures.ok c.add_problem.ensures.err))
