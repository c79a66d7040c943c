use Rattle.std.proofs.Common.{sym, ap, ◌∙◌, subst}
use Rattle.term_values.specs.GroundBases.{GroundBase}
use Rattle.term_values.specs.KnownBases.{IsGroundBase}
use Rattle.atom_numbers.proofs.ApplicationFacts.{numbered-slices, application-told}
use Rattle.atom_numbers.proofs.numbers.AtomNumbers.application_of.Goals as goal

pub returns : goal.returns
returns c =
    let domains = c.lists-domains.result.now in
    let symbols = c.as_slice-symbols.result.now in
    let firsts = c.as_slice-firsts.result.now in
    let h = numbered-slices c.self.inside.domains.value domains c.self.inside.vocabulary.symbols symbols
    c.self.inside.firsts.items firsts c.lists-domains.ensures c.as_slice-symbols.ensures
    c.as_slice-firsts.ensures.value c.self.invariant.numbered in
    application-told domains symbols firsts h c.args.lit c.symbol_of-number.result c.symbol_of-number.ensures
    c.index-symbols-number.result c.index-symbols-number.is c.args.self.now
    (subst IsGroundBase c.self.view_is c.self.invariant.fine)
    (sym (ap (λ (b : GroundBase). b.vocabulary.symbols) c.self.view_is) ∙ sym c.as_slice-symbols.ensures)
    (sym (ap (λ (b : GroundBase). b.domains) c.self.view_is) ∙ sym c.lists-domains.ensures)
    c.application_at.result c.application_at.ensures
