use Rattle.std.proofs.Common.{◌≡◌, arith, subst, sym, ap, ◌∙◌}
use Rattle.plain_evaluation.specs.Environments.{frame_view}
use Rattle.kb_logic.specs.declared.vocabularies.Bound.{Bound}
use Rattle.kb_logic.specs.Structures.{domain_at}
use Rattle.plain_evaluation.proofs.Digits.{At, step}
use Rattle.plain_evaluation.proofs.environments.element.Goals as goal

pub nonzero_rem-number : goal.nonzero_rem-number
nonzero_rem-number c =
    let block = c.args.frame.now.block in
    (step block.domains.now block.bounds.now (frame_view c.args.frame.now) c.loop-at.at c.index-bounds-at.result
    c.domain_in.result.now c.loop-at.count c.loop-at.number
    (omega (arith, c.loop-at-test.true, c.requires)) c.index-bounds-at.is (c.domain_in.ensures
    ∙ ap (λ (b : Bound). domain_at block.domains.now b.ty) (sym c.index-bounds-at.is)) c.loop-at.invariant).positive

pub loop-at-preserved : goal.loop-at-preserved
loop-at-preserved c =
    let block = c.args.frame.now.block in
    (step block.domains.now block.bounds.now (frame_view c.args.frame.now) c.loop-at.at c.index-bounds-at.result
    c.domain_in.result.now c.loop-at.count c.loop-at.number
    (omega (arith, c.loop-at-test.true, c.requires)) c.index-bounds-at.is (c.domain_in.ensures
    ∙ ap (λ (b : Bound). domain_at block.domains.now b.ty) (sym c.index-bounds-at.is)) c.loop-at.invariant).next

pub nonzero_div-result : goal.nonzero_div-result
nonzero_div-result c =
    let block = c.args.frame.now.block in
    let all : c.loop-at.at ≡ c.args.place = omega (arith, c.loop-at-test.false, c.loop-at.auto.at-end) in
    let now = subst (λ i. At block.domains.now block.bounds.now (frame_view c.args.frame.now) i c.loop-at.count
    c.loop-at.number) all c.loop-at.invariant in
    (step block.domains.now block.bounds.now (frame_view c.args.frame.now) c.args.place c.index-bounds-place.result
    c.domain_in-domain.result.now c.loop-at.count c.loop-at.number
    c.requires c.index-bounds-place.is (c.domain_in-domain.ensures
    ∙ ap (λ (b : Bound). domain_at block.domains.now b.ty) (sym c.index-bounds-place.is)) now).positive

pub bounds-domain-number : goal.bounds-domain-number
bounds-domain-number c =
    let block = c.args.frame.now.block in
    let all : c.loop-at.at ≡ c.args.place = omega (arith, c.loop-at-test.false, c.loop-at.auto.at-end) in
    let now = subst (λ i. At block.domains.now block.bounds.now (frame_view c.args.frame.now) i c.loop-at.count
    c.loop-at.number) all c.loop-at.invariant in
    (step block.domains.now block.bounds.now (frame_view c.args.frame.now) c.args.place c.index-bounds-place.result
    c.domain_in-domain.result.now c.loop-at.count c.loop-at.number
    c.requires c.index-bounds-place.is (c.domain_in-domain.ensures
    ∙ ap (λ (b : Bound). domain_at block.domains.now b.ty) (sym c.index-bounds-place.is)) now).digit

pub returns : goal.returns
returns c =
    let block = c.args.frame.now.block in
    let all : c.loop-at.at ≡ c.args.place = omega (arith, c.loop-at-test.false, c.loop-at.auto.at-end) in
    let now = subst (λ i. At block.domains.now block.bounds.now (frame_view c.args.frame.now) i c.loop-at.count
    c.loop-at.number) all c.loop-at.invariant in
    (step block.domains.now block.bounds.now (frame_view c.args.frame.now) c.args.place c.index-bounds-place.result
    c.domain_in-domain.result.now c.loop-at.count c.loop-at.number
    c.requires c.index-bounds-place.is (c.domain_in-domain.ensures
    ∙ ap (λ (b : Bound). domain_at block.domains.now b.ty) (sym c.index-bounds-place.is)) now).element
    c.index-domain-number.result c.index-domain-number.is
