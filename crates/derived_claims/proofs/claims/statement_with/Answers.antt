use Rattle.std.proofs.Common.{List, All, sym, subst}
use Rattle.kb_logic.specs.declared.structures.Literal.{Literal}
use Rattle.log_checker.specs.Cases.{IsRefuted}
use Rattle.derived_claims.specs.Following.{IsForcedOver}
use Rattle.derived_claims.proofs.claims.statement_with.Goals as goal

pub of_inconsistent-requires-clause-refuted : goal.of_inconsistent-requires-clause-refuted
of_inconsistent-requires-clause-refuted c =
    let follows = rw c.in-Inconsistent.is at c.requires.follows in
    subst (IsRefuted c.args.checker.now) (sym c.as_slice.ensures.value) follows

pub of_forced-requires-clause-forced : goal.of_forced-requires-clause-forced
of_forced-requires-clause-forced c =
    let follows = rw c.in-Forced.is at c.requires.follows in
    subst (λ (ls : List Literal). All (IsForcedOver c.args.numbers.now c.args.checker.now c.args.lits.now.items) ls)
    (sym c.as_slice-in-Forced.ensures) follows
