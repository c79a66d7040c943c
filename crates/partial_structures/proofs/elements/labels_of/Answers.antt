use Rattle.std.proofs.Common.{◌∙◌, ap}
use Rattle.std.specs.List.{list_any}
use Rattle.std.proofs.lemmas.List.{take_all}
use Rattle.partial_structures.specs.Elements.{stands_for}
use Rattle.row_tries.specs.Words.{words_in}
use Rattle.partial_structures.proofs.ElementLemmas.{next_label}
use Rattle.partial_structures.proofs.elements.labels_of.Goals as goal

pub loop-elem-preserved : goal.loop-elem-preserved
loop-elem-preserved c =
    next_label (words_in c.args.rows.now.words) c.args.elems.now c.loop-elem.elem-index c.elem-item.result
    c.loop-elem.labels.keys c.add_label.new.labels.keys c.label.result c.loop-elem-test.true c.elem-item.is
    c.label.ensures c.in_ok-add_label.ensures c.loop-elem.invariant

pub returns : goal.returns
returns c = λ l.
    c.loop-elem.invariant l
    ∙ ap (list_any (stands_for (words_in c.args.rows.now.words) l))
    (take_all c.loop-elem.elem-index c.args.elems.now c.loop-elem-test.false)
