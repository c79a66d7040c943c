use Rattle.std.proofs.Common.{ℕ, List, Contains, sym, subst}
use Rattle.lit_core.specs.declared.literals.Lit.{Lit}
use Rattle.lit_core.specs.Literals.{negated}
use Rattle.clause_base.specs.StoreState.{StoreState, IsHeld}
use Rattle.clause_store.proofs.store.Store.fix.Goals as goal

pub fix-requires-clause-unopposed : goal.fix-requires-clause-unopposed
fix-requires-clause-unopposed c = subst (λ (s : StoreState). (id : ℕ) (d : List Lit) → IsHeld s id d
    → Contains d (negated c.args.lit) → ⊥) (sym c.self.view_is) c.requires.unopposed
