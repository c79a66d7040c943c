use Rattle.std.proofs.Common.{◌≡◌, Bool, List, [], ◌∷◌, refl, sym, subst}
use Rattle.std.specs.Prelude.{Result, Ok, Err, IfOk, OnErr}
use Rattle.lit_core.specs.declared.literals.Lit.{Lit}
use Rattle.ground_core.specs.declared.growing.Addition.TheVariants.{Exclusion}
use Rattle.ground_core.specs.Solving.{SolveState}
use Rattle.ground_core.specs.Growing.{excluded}
use Rattle.clause_learning.specs.declared.keeper.Keeper.{Keeper}
use Rattle.clause_learning.specs.Keeping.{SameKeeping, kept_of}
use Rattle.clause_learning.specs.SolverState.{SolverState}
use Rattle.clause_learning.specs.GoingOn.{GoesOn, goes-itself, prefix-itself}
use Rattle.clause_learning.proofs.SolverFacts.{solver-laws}
use Rattle.clause_learning.proofs.solver.SolverGrow.exclude.Goals as goal

-- with an exclusion, and without one
goes-excluded : {E : Type 0} (a b : Keeper) (values : List Bool) (l : Lit) (r : Result Lit E)
    → IfOk r (λ out. (out ≡ l) × (kept_of b ≡ excluded (kept_of a) values)) → OnErr r (SameKeeping a b)
    → GoesOn (kept_of a) (kept_of b)
goes-excluded a b values l (Ok out) ok err =
    let s : SolveState = kept_of a in
    subst (GoesOn s) (sym ok.1) (record {
      learnt = prefix-itself s.learnt;
      moments = prefix-itself s.moments;
      cores =
          prefix-itself s.cores;
      additions = (Exclusion values ∷ [], refl);
    })
goes-excluded a b values l (Err e) ok err = subst (GoesOn (kept_of a)) (sym err.kept) (goes-itself (kept_of a))

pub returns-clause-later : goal.returns-clause-later
returns-clause-later g c =
    let a : Keeper = c.self.inside.keeper in
    let b : Keeper = c.exclude.new.self in
    subst (λ (x : SolverState). GoesOn x.kept (kept_of b)) c.self.view_is
    (goes-excluded a b c.args.values.now _ c.exclude.result c.exclude.ensures.ok c.exclude.ensures.err)

pub returns-clause-laws : goal.returns-clause-laws
returns-clause-laws g c = solver-laws c.exclude.new.self c.exclude.ensures.keeper
