use Rattle.std.proofs.Common.{◌≡◌, map, length}
use Rattle.kb_logic.specs.Views.{formula_view}
use Rattle.refinement.specs.Following.{ObeysSentences, IsFollowing}
use Rattle.refinement.proofs.following.+led.Given as goal

-- what the sentences fix was followed
abbrev pub invariant-loop-number : goal.invariant-loop-number
invariant-loop-number l = record {
  symbols : l.course.setting.symbols.now ≡ l.known.symbols;
  domains : l.course.setting.domains.now ≡ l.known.domains;
  so_far : IsFollowing l.fn.known l.known (ObeysSentences (map formula_view l.course.sentences.now));
}

abbrev pub decreases-led : goal.decreases-led
decreases-led l = length l.bounds.now
