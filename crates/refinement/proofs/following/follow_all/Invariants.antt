use Rattle.std.proofs.Common.{◌≡◌, map}
use Rattle.kb_logic.specs.Views.{formula_view}
use Rattle.refinement.specs.Following.{ObeysSentences, IsFollowing}
use Rattle.refinement.proofs.following.follow_all.Given as goal

-- what the sentences fix was followed
abbrev pub invariant-loop-turn : goal.invariant-loop-turn
invariant-loop-turn l = record {
  symbols : l.course.setting.symbols.now ≡ l.known.symbols;
  domains : l.course.setting.domains.now ≡ l.known.domains;
  so_far : IsFollowing l.fn.known l.known (ObeysSentences (map formula_view l.course.sentences.now));
}
