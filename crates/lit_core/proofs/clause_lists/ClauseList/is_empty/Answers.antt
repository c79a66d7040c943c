use Rattle.std.proofs.Common.{rules, ◌≡◌, ℕ, List, length, sym, ap, ◌∙◌}
use Rattle.lit_core.proofs.ClauseListFacts.{length-clauses}
use Rattle.lit_core.proofs.clause_lists.ClauseList.is_empty.Goals as goal

pub returns : goal.returns
returns c =
    let size : length c.args.self.now ≡ length c.self.inside.ends.items = sym (ap length c.self.view_is)
    ∙ length-clauses c.self.inside.lits.items 0 c.self.inside.ends.items in
    rw size (search (rules, c.is_empty.ensures))
