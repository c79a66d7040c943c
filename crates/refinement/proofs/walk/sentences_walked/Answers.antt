use Rattle.std.proofs.Common.{◌≡◌, ◌∷◌, ◌+◌, ◌∙◌, [], get_or, map, drop, sym, subst, true}
use Rattle.std.proofs.lemmas.List.{at_drop_more}
use Rattle.kb_logic.specs.KnownAtoms.{KnownAtoms}
use Rattle.kb_logic.specs.Views.{formula_view}
use Rattle.kb_logic.proofs.Members.{in_map}
use Rattle.bound_laws.specs.Closures.{Obeys}
use Rattle.refinement.specs.Following.{ObeysSentences}
use Rattle.refinement.proofs.Follows.{SoFar, turn, begun}
use Rattle.refinement.proofs.Parts.{got_member, sentence_part}
use Rattle.refinement.proofs.walk.sentences_walked.Goals as goal

pub loop-at-init : goal.loop-at-init
loop-at-init c =
    let W = ObeysSentences (map formula_view c.args.course.sentences.now) in
    record {
      symbols = c.requires.symbols;
      domains = c.requires.domains;
      so_far = begun W c.args.known.now W W (λ h. h);
    }

pub sentence_must-requires-clause-part : goal.sentence_must-requires-clause-part
sentence_must-requires-clause-part c =
    let sentences = c.args.course.sentences.now in
    let at = c.loop-at.at in
    let x = get_or sentences at c.index-course-at.result in
    sentence_part c.args.course.setting.symbols.now c.args.course.setting.domains.now (map formula_view sentences)
    (formula_view x) c.requires.fits (in_map formula_view sentences x
    (got_member sentences at c.index-course-at.result c.loop-at-test.true))

pub loop-at-preserved : goal.loop-at-preserved
loop-at-preserved c =
    let sentences = c.args.course.sentences.now in
    let at = c.loop-at.at in
    let x = get_or sentences at c.index-course-at.result in
    let left = map formula_view (drop at sentences) in
    let next = map formula_view (drop (at + 1) sentences) in
    let split : left ≡ formula_view x ∷ next =
    at_drop_more (map formula_view) sentences at c.index-course-at.result c.loop-at-test.true in
    let W = ObeysSentences (map formula_view sentences) in
    let then' = c.sentence_must.new.known in
    let step = c.in_ok-more.ensures in
    record {
      symbols = c.loop-at.invariant.symbols ∙ sym step.more.symbols;
      domains = c.loop-at.invariant.domains ∙ sym step.more.domains;
      so_far = subst (λ b. SoFar W c.args.known.now then' b W (ObeysSentences next)) (sym c.either-changed.ensures)
          (turn W c.args.known.now c.loop-at.known c.loop-at.changed W (ObeysSentences left)
          c.loop-at.invariant.so_far then' c.in_ok-more.more
          (λ (q : KnownAtoms). Obeys q true (formula_view x) [])
          (ObeysSentences next) (λ p n. subst (λ gs. ObeysSentences gs then') (sym split) (p, n)) step);
    }
