use Rattle.std.proofs.Common.{map, sym, subst, ap, ◌∙◌, Err}
use Rattle.std.proofs.lemmas.Result.{err_from_is_err_and}
use Rattle.kb_logic.specs.Views.{formula_view}
use Rattle.refinement.specs.Following.{ObeysSentences, WasFollowed}
use Rattle.refinement.proofs.Follows.{followed, followed_fault}
use Rattle.refinement.proofs.following.follow_all.Goals as goal

pub returns-in_err-follow : goal.returns-in_err-follow
returns-in_err-follow c =
    let W = ObeysSentences (map formula_view c.args.course.sentences.now) in
    let first = c.args.known.now in
    let then' = c.follow.new.known in
    let p = err_from_is_err_and c.from_residual.result c.from_residual.ensures.1 in
    subst (λ r. WasFollowed first then' r W) (sym (p.1 ∙ ap Err p.2))
    (followed_fault W (Unit {0}) (Unit {0}) first c.loop-turn.known then' then' c.in_err-follow.field-0.0
    c.loop-turn.invariant.so_far c.in_err-follow.ensures)

pub loop-turn-preserved : goal.loop-turn-preserved
loop-turn-preserved c =
    let W = ObeysSentences (map formula_view c.args.course.sentences.now) in
    let step = c.in_ok-follow.ensures in
    record {
      symbols = c.loop-turn.invariant.symbols ∙ sym step.more.symbols;
      domains = c.loop-turn.invariant.domains ∙ sym step.more.domains;
      so_far = followed W c.args.known.now c.loop-turn.known c.follow.new.known c.loop-turn.invariant.so_far step;
    }
