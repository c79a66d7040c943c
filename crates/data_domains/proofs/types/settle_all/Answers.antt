use Rattle.std.proofs.Common.{◌∙◌, refl, sym, arith}
use Rattle.std.proofs.lemmas.List.{length-set}
use Rattle.data_domains.proofs.Filled.{found_there}
use Rattle.data_domains.proofs.Wholes.{all_settled, nothing_settled, one_settled}
use Rattle.data_domains.proofs.types.settle_all.Goals as goal

pub loop-ty-init : goal.loop-ty-init
loop-ty-init c = record { count = refl; settled = nothing_settled c.args.all.now.items }

pub loop-ty-preserved : goal.loop-ty-preserved
loop-ty-preserved c =
    let all = c.loop-ty.all.items in
    let there = found_there all c.loop-ty.ty c.in-Some.data.now c.in-Some.ensures.item.3.0 c.in-Some.ensures.value in
    record {
      count = length-set all c.loop-ty.ty c.settle.new.data ∙ c.loop-ty.invariant.count;
      settled = one_settled c.args.all.now.items all c.loop-ty.ty c.settle.new.data c.in-Some.data.now there
          c.in_ok-settle.ensures.traits c.in_ok-settle.ensures.cells c.in_ok-settle.ensures.elements
          c.loop-ty.invariant.settled;
    }

pub settle-requires : goal.settle-requires
settle-requires c =
    let ty = c.loop-ty.ty in
    let there = found_there c.loop-ty.all.items ty c.in-Some.data.now c.in-Some.ensures.item.3.0
    c.in-Some.ensures.value in
    c.requires ty c.in-Some.data.now (sym (c.loop-ty.invariant.settled.rest ty (omega arith)) ∙ there)

pub returns-clause-settled : goal.returns-clause-settled
returns-clause-settled c =
    let end = c.loop-ty-test.false in
    all_settled c.args.all.now.items c.loop-ty.all.items c.loop-ty.ty (omega (arith, end, c.len-ty-end.ensures))
    c.loop-ty.invariant.settled
