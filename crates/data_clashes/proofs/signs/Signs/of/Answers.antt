use Rattle.std.proofs.Common.{true, false}
use Rattle.std.proofs.lemmas.List.{drop_all}
use Rattle.structure_entries.proofs.Dropped.{front}
use Rattle.data_clashes.specs.Signs.{may_say}
use Rattle.data_clashes.proofs.Opposable.{last_sign, next_sign}
use Rattle.data_clashes.proofs.signs.Signs.of.Goals as goal

pub loop-entry-preserved : goal.loop-entry-preserved
loop-entry-preserved c =
    let es = c.args.entries.now in
    let i = c.loop-entry.entry-index in
    let next = front es i c.entry-item.result c.loop-entry-test.true c.entry-item.is in
    record {
      affirmed = λ s. next_sign (may_say true s) es i c.entry-item.result _ _ _ next
          (c.in_ok-add.ensures.affirmed s) (c.loop-entry.invariant.affirmed s);
      denied = λ s. next_sign (may_say false s) es i c.entry-item.result _ _ _ next
          (c.in_ok-add.ensures.denied s) (c.loop-entry.invariant.denied s);
    }

pub returns : goal.returns
returns c =
    let es = c.args.entries.now in
    let i = c.loop-entry.entry-index in
    let none = drop_all i es c.loop-entry-test.false in
    record {
      affirmed = λ s. last_sign (may_say true s) es i _ _ none (c.loop-entry.invariant.affirmed s);
      denied = λ s. last_sign (may_say false s) es i _ _ none (c.loop-entry.invariant.denied s);
    }
