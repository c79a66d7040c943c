use Rattle.std.proofs.Common.{◌≡◌, List, Contains, sym, subst, inl, inr, ◌⊎◌, ⊎_elim}
use Rattle.std.proofs.lemmas.Result.{IfOk-weaker}
use Rattle.lit_core.specs.declared.literals.Lit.{Lit}
use Rattle.search_engine.specs.LitSets.{HasLit}
use Rattle.search_engine.specs.Cores.{IsCoreOf}
use Rattle.search_engine.proofs.cores.core_of.Goals as goal

pub returns-clause-covers : goal.returns-clause-covers
returns-clause-covers c =
    IfOk-weaker c.chosen.result (IsCoreOf c.args.assume.now c.insert.new.self) (λ (core : List Lit). (l : Lit)
    → Contains c.args.assume.now l → (l ≡ c.args.lit) ⊎ Contains c.args.others.now l → Contains core l)
    (λ core h l has why. h.covers l has (⊎_elim (λ e. subst (HasLit c.insert.new.self)
    (sym e) c.in_ok-insert.ensures.new) (λ o. c.in_ok-insert.ensures.kept l ((c.in_ok-blamed.ensures l).1 o)) why))
    c.chosen.ensures

pub returns-clause-from : goal.returns-clause-from
returns-clause-from c =
    IfOk-weaker c.chosen.result (IsCoreOf c.args.assume.now c.insert.new.self) (λ (core : List Lit). (l : Lit)
    → Contains core l → (l ≡ c.args.lit) ⊎ Contains c.args.others.now l)
    (λ core h l has. ⊎_elim (λ o. inr ((c.in_ok-blamed.ensures l).0 o)) (λ e. inl (sym e))
    (c.in_ok-insert.ensures.from l (h.from l has)))
    c.chosen.ensures
