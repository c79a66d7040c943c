use Rattle.std.proofs.Common.{◌≡◌, ◌+◌, ◌-◌, ◌+ℤ◌, pos, fold, get_or, ap, ◌∙◌, arith}
use Rattle.stage_definitions.specs.Elements as set
use Rattle.data_domains.proofs.Aheads.{next_listed, passed}
use Rattle.data_domains.proofs.listing.Listing.turn.Goals as goal

pub returns-then-step-eq0-clause-elems : goal.returns-then-step-eq0-clause-elems
returns-then-step-eq0-clause-elems c = λ end h.
    next_listed c.args.self.now.elems c.list.new.self.elems c.args.self.now.base c.args.place end h
    c.in_ok-list.ensures.elems

pub returns-clause-elems : goal.returns-clause-elems
returns-clause-elems c = λ end h.
    let s = c.args.self.now in
    let step = c.number_at-step.result in
    let at : step ≡ get_or s.ahead.items c.args.place 0 = c.number_at-step.ensures
    ∙ ap (λ xs. get_or xs c.args.place 0) c.deref.ensures.value in
    ap (λ xs. fold set.with_element xs (set.integers_from (s.base +ℤ pos (c.args.place + step))
    (end - (c.args.place + step)))) c.join.ensures.elems
    ∙ passed s.elems s.base step c.args.place end
    (λ j lt. c.requires.listing.ahead c.args.place j (omega (arith, lt, at)))
