use Rattle.std.proofs.Common.{◌≡◌, map, drop}
use Rattle.kb_logic.specs.Views.{formula_view}
use Rattle.refinement.specs.Following.{ObeysSentences}
use Rattle.refinement.proofs.Follows.{SoFar}
use Rattle.refinement.proofs.walk.sentences_walked.Given as goal

-- the sentences that are left stand for all
abbrev pub invariant-loop-at : goal.invariant-loop-at
invariant-loop-at l =
    let sentences = l.course.sentences.now in
    let W = ObeysSentences (map formula_view sentences) in
    record {
      symbols : l.course.setting.symbols.now ≡ l.known.symbols;
      domains : l.course.setting.domains.now ≡ l.known.domains;
      so_far : SoFar W l.fn.known l.known l.changed W (ObeysSentences (map formula_view (drop l.at sentences)));
    }
