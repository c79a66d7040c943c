use Rattle.std.proofs.Common.{◌∙◌, ◌∷◌, ◌++◌, ◌+◌, [], take, sym, ap, subst, arith}
use Rattle.std.proofs.lemmas.List.{take_all, take_more}
use Rattle.consequences.specs.declared.kept.Kept.{Kept}
use Rattle.consequences.specs.Indexed.{IsIndexed}
use Rattle.consequences.proofs.IndexFacts.{kept-one}
use Rattle.kept_supports.proofs.lits.index_of.Goals as goal

pub loop-one-preserved : goal.loop-one-preserved
loop-one-preserved c =
    let i = c.loop-one.one-index in
    let k : Kept = c.one-item.result in
    kept-one c.loop-one.lits.keys c.insert_full.new.self.keys (take i c.args.kept.now) (take (i + 1) c.args.kept.now) k
    c.loop-one.invariant c.in_ok-insert_full.ensures.keys
    (take_more c.args.kept.now i k c.loop-one-test.true
    ∙ ap (λ (z : Kept). take i c.args.kept.now ++ z ∷ []) (sym c.one-item.is))

pub returns : goal.returns
returns c =
    subst (IsIndexed c.loop-one.lits.keys)
    (take_all c.loop-one.one-index c.args.kept.now (omega (arith, c.loop-one-test.false))) c.loop-one.invariant
