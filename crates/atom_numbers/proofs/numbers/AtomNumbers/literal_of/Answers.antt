use Rattle.std.proofs.Common.{sym, ap, ◌∙◌, refl, ◌-◌, get_or}
use Rattle.std.proofs.lemmas.Result.{IfOk-weaker}
use Rattle.term_values.specs.GroundBases.{GroundBase}
use Rattle.atom_numbers.proofs.ApplicationFacts.{numbered-slices, has-number}
use Rattle.atom_numbers.proofs.numbers.AtomNumbers.literal_of.Goals as goal

pub returns : goal.returns
returns c =
    let domains = c.lists-domains.result.now in
    let symbols = c.as_slice-symbols.result.now in
    let firsts = c.as_slice-firsts.result.now in
    let number = c.symbol_of-number.result in
    let h = numbered-slices c.self.inside.domains.value domains c.self.inside.vocabulary.symbols symbols
    c.self.inside.firsts.items firsts c.lists-domains.ensures c.as_slice-symbols.ensures
    c.as_slice-firsts.ensures.value c.self.invariant.numbered in
    IfOk-weaker c.literal_at.result _ _ (λ l p. has-number domains symbols firsts h c.args.lit.var.0 number
    c.symbol_of-number.ensures c.index-symbols-number.result c.index-symbols-number.is
    (c.args.lit.var.0 - get_or firsts number 0) refl c.args.self.now
    (sym (ap (λ (b : GroundBase). b.vocabulary.symbols) c.self.view_is) ∙ sym c.as_slice-symbols.ensures)
    (sym (ap (λ (b : GroundBase). b.domains) c.self.view_is) ∙ sym c.lists-domains.ensures) l c.args.lit refl
    p.0 p.1 p.2) c.literal_at.ensures
