use Rattle.std.proofs.Common.{sym, ◌∙◌}
use Rattle.atom_numbers.proofs.UnknownFacts.{open-more, open-same}
use Rattle.atom_numbers.proofs.unknown.open_among.Goals as goal

pub loop-k-preserved-then-not-is_uncertain : goal.loop-k-preserved-then-not-is_uncertain
loop-k-preserved-then-not-is_uncertain c =
    open-same c.args.truths.now c.loop-k.k _ c.loop-k-test.true
    c.loop-k.lits.items (sym c.is_uncertain.ensures ∙ c.if-not-is_uncertain.true) c.loop-k.invariant

pub loop-k-preserved : goal.loop-k-preserved
loop-k-preserved c =
    open-more c.args.truths.now c.loop-k.k _ c.loop-k-test.true
    c.loop-k.lits.items c.push.new.self.items (sym c.is_uncertain.ensures ∙ c.if-not-is_uncertain.false)
    c.loop-k.invariant c.in_ok-push.ensures.items
