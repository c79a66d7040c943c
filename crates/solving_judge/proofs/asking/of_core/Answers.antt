use Rattle.std.proofs.Common.{◌≡◌, true, refl, subst}
use Rattle.lit_core.specs.Literals.{literal_value}
use Rattle.ground_core.proofs.Sublists.{sublist-all}
use Rattle.solving_judge.specs.declared.additions.Found.TheVariants.{Core}
use Rattle.solving_judge.specs.Answering.{IsFound}
use Rattle.solving_judge.proofs.asking.of_core.Goals as goal

pub returns-in-Core-clause-told : goal.returns-in-Core-clause-told
returns-in-Core-clause-told c = λ said.
    let core = c.args.core.now in
    let smaller = c.in-Core.field-0 in
    let found : IsFound c.args.force.now core (Core smaller) = subst (IsFound c.args.force.now core) c.in-Core.is
    c.in_ok-ask.ensures.found in (
      core,
      refl,
      (
        c.is_sublist.ensures.0 c.if-not-is_sublist.false,
        λ v s all. found.1 v s (sublist-all (λ l. literal_value v l ≡ true) smaller core found.0 all),
      ),
    )
