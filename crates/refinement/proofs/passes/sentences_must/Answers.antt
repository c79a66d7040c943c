use Rattle.std.proofs.Common.{map, [], subst, sym}
use Rattle.std.specs.List.{AllByRecursion}
use Rattle.kb_logic.specs.Views.{formula_view}
use Rattle.quantifier_bounds.specs.Fits.{Fits}
use Rattle.refinement.specs.Following.{ObeysSentences}
use Rattle.refinement.proofs.Follows.{whole_step}
use Rattle.refinement.proofs.passes.sentences_must.Goals as goal

pub sentences_walked-requires-clause-fits : goal.sentences_walked-requires-clause-fits
sentences_walked-requires-clause-fits c =
    let fs = map formula_view c.args.sentences.now in
    let s = c.args.setting.symbols.now in
    subst (λ ds. AllByRecursion (λ f. Fits s ds f []) fs) (sym c.requires.domains)
    (subst (λ ss. AllByRecursion (λ f. Fits ss c.args.known.now.domains f []) fs) (sym c.requires.symbols)
    c.requires.fits)

pub returns : goal.returns
returns c =
    whole_step (ObeysSentences (map formula_view c.args.sentences.now)) c.args.known.now
    c.sentences_walked.new.known c.sentences_walked.result c.sentences_walked.ensures
