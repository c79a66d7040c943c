use Rattle.std.proofs.Common.{◌≡◌, ◌&&◌, true, sym, ◌∙◌}
use Rattle.kb_logic.specs.Views.{term_view}
use Rattle.sentence_guards.specs.Guards.{is_leaf}
use Rattle.sentence_guards.proofs.GuardSteps.{both-true, comparison-quiet}
use Rattle.sentence_guards.proofs.guards.comparison_part.Goals as goal

pub returns-then-both_leaves : goal.returns-then-both_leaves
returns-then-both_leaves c =
    let x = term_view c.args.left.now in
    let y = term_view c.args.right.now in
    let both : (is_leaf x && is_leaf y) ≡ true = sym c.both_leaves.ensures ∙ c.if-both_leaves.true in
    let each = both-true (is_leaf x) (is_leaf y) both in
    λ b. comparison-quiet b c.args.sign c.args.cmp x y each.0 each.1
