use Rattle.std.proofs.Common.{◌≡◌, [], map, sym, subst, ap, ◌∙◌}
use Rattle.kb_logic.specs.Trees.{universal}
use Rattle.kb_logic.specs.Views.{formula_view}
use Rattle.kb_logic.proofs.Members.{in_map}
use Rattle.kb_logic.proofs.Shapes.{formula_view-All}
use Rattle.plain_evaluation.proofs.Envs.{env_view-Given}
use Rattle.refinement.specs.Following.{IsPart}
use Rattle.refinement.proofs.Parts.{sentence_part, instance_parts}
use Rattle.refinement.proofs.following.follow_at.Goals as goal

pub led-requires-clause-parts : goal.led-requires-clause-parts
led-requires-clause-parts c =
    let s = c.args.course.setting.symbols.now in
    let d = c.args.course.setting.domains.now in
    let sentences = c.args.course.sentences.now in
    let fs = map formula_view sentences in
    let x = c.in-Some.sentence.now in
    let these = c.deref-4.result.now in
    let inner = c.deref-2.result.now in
    let is : formula_view x ≡ universal these (formula_view inner) =
    ap formula_view c.in-All.is ∙ formula_view-All c.in-All.bounds c.in-All.inner
    ∙ ap (λ b. universal b (formula_view c.in-All.inner.value)) (sym c.deref-4.ensures.value)
    ∙ ap (λ g. universal these (formula_view g)) (sym c.deref-2.ensures) in
    rw env_view-Given (instance_parts s d fs these (formula_view inner) []
    (subst (λ g. IsPart s d fs g []) is (sentence_part s d fs (formula_view x) c.requires.fits
    (in_map formula_view sentences x
    (c.args.occurrence.now.sentence, c.in-Some.ensures.lookup.3.0, sym (c.in-Some.ensures.lookup.3.1 x))))))
