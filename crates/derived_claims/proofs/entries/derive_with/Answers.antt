use Rattle.std.proofs.Common.{◌∙◌, List, sym, subst}
use Rattle.lit_core.specs.declared.literals.Lit.{Lit}
use Rattle.derivation_log.specs.Steps.{Cites}
use Rattle.log_checker.specs.Cases.{IsRefuted}
use Rattle.derived_claims.proofs.entries.derive_with.Goals as goal

pub derive-requires-clause-refuted : goal.derive-requires-clause-refuted
derive-requires-clause-refuted c =
    subst (IsRefuted c.args.checker.now) (sym (c.as_slice.ensures.value ∙ c.in_ok-push.ensures.items))
    c.requires.refuted

pub returns-clause-cites : goal.returns-clause-cites
returns-clause-cites c =
    subst (λ (ls : List Lit). Cites c.derive.new.checker.state ls (λ m. ⊥) c.in_ok-clause.clause)
    (c.as_slice.ensures.value ∙ c.in_ok-push.ensures.items) c.in_ok-clause.ensures.cites
