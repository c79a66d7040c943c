use Rattle.std.proofs.Common.{refl, reverse}
use Rattle.row_tries.specs.Words.{words_in}
use Rattle.row_tries.specs.declared.truths.Truth.TheVariants.{Yes}
use Rattle.row_tries.proofs.Changes.{Grows-refl, set_after}
use Rattle.partial_structures.proofs.atoms.affirm.Goals as goal

pub returns-in-None-clause-made : goal.returns-in-None-clause-made
returns-in-None-clause-made c = λ s args at.
    let ws = words_in c.args.rows.now.words in
    let es = c.args.rows.now.nodes.entries in
    rw c.in-None.is (set_after ws ws es es c.set_mark.new.self.nodes.entries s (reverse args) (reverse args)
    c.args.node c.mark-mark.result (λ m. record m { known = Yes }) refl (Grows-refl es) at refl c.mark-mark.ensures
    c.set_mark.ensures.nodes)

pub returns-in-Some-clause-made : goal.returns-in-Some-clause-made
returns-in-Some-clause-made c = λ s args at.
    let ws = words_in c.args.rows.now.words in
    let es = c.args.rows.now.nodes.entries in
    rw (c.in-Some.is, ← c.lent_label-value.ensures) (set_after ws ws es es c.set_mark-in-Some.new.self.nodes.entries s
    (reverse args) (reverse args) c.args.node c.mark-mark.result
    (λ m. record m { value = c.lent_label-value.result }) refl (Grows-refl es) at refl c.mark-mark.ensures c.set_mark-in-Some.ensures.nodes)
