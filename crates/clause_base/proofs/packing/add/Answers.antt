use Rattle.std.proofs.Common.{◌∙◌, ap}
use Rattle.lit_core.specs.Packing.{number_of}
use Rattle.clause_base.proofs.ShortFacts.{grows-same, put-grows, put-listed, written-same}
use Rattle.clause_base.proofs.packing.add.Goals as goal

pub returns-in_err-push-clause-grows : goal.returns-in_err-push-clause-grows
returns-in_err-push-clause-grows c d member rest =
    rw (written-same c.args.lists.now c.list_of.result c.push.new.self c.index_mut.result.now
    c.index_mut.ensures.value c.in_err-push.ensures.items) (grows-same _ _ _)

pub returns-clause-grows : goal.returns-clause-grows
returns-clause-grows c d member rest =
    put-grows c.args.lists.now c.list_of.result c.args.lit c.push.new.self c.index_mut.result.now c.args.seen d
    (c.list_of.ensures ∙ ap number_of c.lit.ensures.value) (rw (c.list_of.ensures, c.lit.ensures.value) c.requires)
    c.index_mut.ensures.value c.in_ok-push.ensures.items member rest

pub returns-clause-here : goal.returns-clause-here
returns-clause-here c =
    put-listed c.args.lists.now c.list_of.result c.args.lit c.push.new.self c.index_mut.result.now c.args.seen
    (c.list_of.ensures ∙ ap number_of c.lit.ensures.value) (rw (c.list_of.ensures, c.lit.ensures.value) c.requires)
    c.index_mut.ensures.value c.in_ok-push.ensures.items
