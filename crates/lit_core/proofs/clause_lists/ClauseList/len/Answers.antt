use Rattle.std.proofs.Common.{◌≡◌, length, sym, ap, ◌∙◌}
use Rattle.lit_core.proofs.ClauseListFacts.{length-clauses}
use Rattle.lit_core.proofs.clause_lists.ClauseList.len.Goals as goal

pub returns : goal.returns
returns c = c.len.ensures ∙ c.self.inside.ends.ok.0 ∙ sym (length-clauses c.self.inside.lits.items 0
    c.self.inside.ends.items)
    ∙ ap length c.self.view_is
