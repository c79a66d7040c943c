use Rattle.std.proofs.Common.{◌+◌, List, ℕ, sym, ap, ◌∙◌, subst}
use Rattle.search_decisions.specs.Scores.{AreListed}
use Rattle.search_decisions.proofs.scores.Scores.list.Goals as goal

pub loop-number-preserved : goal.loop-number-preserved
loop-number-preserved c = record {
  lists =
      let h = c.loop-number.invariant in
      let next = c.in_ok-list_next.ensures.lists c.args.from c.loop-number.auto.number h.lists in
      subst (λ (xs : List ℕ). AreListed xs c.args.assignment.now c.args.from (c.loop-number.number + 1)
      c.list_next.new.self.open.items c.list_next.new.self.listed.items)
      (sym (ap (λ v. v.items) c.list_next.ensures.scores)) next;
  scores = c.list_next.ensures.scores ∙ c.loop-number.invariant.scores;
}
