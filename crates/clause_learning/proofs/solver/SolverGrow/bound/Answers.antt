use Rattle.std.proofs.Common.{◌≡◌, ℕ, [], ◌∷◌, refl, sym, subst}
use Rattle.std.specs.Prelude.{Result, Ok, Err, IfOk, OnErr}
use Rattle.kb_logic.specs.declared.elements.ExtInt.{ExtInt}
use Rattle.lit_core.specs.declared.literals.Lit.{Lit}
use Rattle.ground_core.specs.declared.growing.Addition.TheVariants.{Bound}
use Rattle.ground_core.specs.Solving.{SolveState}
use Rattle.ground_core.specs.Growing.{bounded}
use Rattle.clause_learning.specs.declared.keeper.Keeper.{Keeper}
use Rattle.clause_learning.specs.Keeping.{SameKeeping, kept_of}
use Rattle.clause_learning.specs.SolverState.{SolverState}
use Rattle.clause_learning.specs.GoingOn.{GoesOn, goes-itself, prefix-itself}
use Rattle.clause_learning.proofs.SolverFacts.{solver-laws}
use Rattle.clause_learning.proofs.solver.SolverGrow.bound.Goals as goal

-- with a bound, and without one
goes-bounded : {E : Type 0} (a b : Keeper) (term : ℕ) (below : ExtInt) (l : Lit) (r : Result Lit E)
    → IfOk r (λ out. (out ≡ l) × (kept_of b ≡ bounded (kept_of a) term below)) → OnErr r (SameKeeping a b)
    → GoesOn (kept_of a) (kept_of b)
goes-bounded a b term below l (Ok out) ok err =
    let s : SolveState = kept_of a in
    subst (GoesOn s) (sym ok.1) (record {
      learnt = prefix-itself s.learnt;
      moments = prefix-itself s.moments;
      cores =
          prefix-itself s.cores;
      additions = (Bound term below ∷ [], refl);
    })
goes-bounded a b term below l (Err e) ok err = subst (GoesOn (kept_of a)) (sym err.kept) (goes-itself (kept_of a))

pub returns-clause-later : goal.returns-clause-later
returns-clause-later g c =
    let a : Keeper = c.self.inside.keeper in
    let b : Keeper = c.bound.new.self in
    subst (λ (x : SolverState). GoesOn x.kept (kept_of b)) c.self.view_is
    (goes-bounded a b c.args.term c.args.below _ c.bound.result c.bound.ensures.ok c.bound.ensures.err)

pub returns-clause-laws : goal.returns-clause-laws
returns-clause-laws g c = solver-laws c.bound.new.self c.bound.ensures.keeper
