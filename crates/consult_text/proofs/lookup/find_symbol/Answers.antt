use Rattle.std.proofs.Common.{◌≡◌, ◌≢◌, length, refl, sym, ap, ◌∙◌}
use Rattle.std.proofs.lemmas.Option.{slice_get_read}
use Rattle.std.proofs.lemmas.Slice.Eq.{bytes_eq-Decides}
use Rattle.kb_logic.specs.declared.vocabularies.Symbol.{Symbol}
use Rattle.consult_text.proofs.Symbols.{no_more_named, not_named, not_this}
use Rattle.consult_text.proofs.lookup.find_symbol.Goals as goal

pub returns-then-eq : goal.returns-then-eq
returns-then-eq c =
    let at = slice_get_read c.args.symbols.now (length c.args.symbols.now) c.loop-number.number
    c.index-symbols-number-then-eq.result refl c.loop-number-test.true c.index-symbols-number-then-eq.is in
    let at' = slice_get_read c.args.symbols.now (length c.args.symbols.now) c.loop-number.number
    c.index-symbols-number.result refl c.loop-number-test.true c.index-symbols-number.is in
    let same : c.index-symbols-number-then-eq.result ≡ c.index-symbols-number.result = cc in
    let texts : c.text.result.now ≡ c.args.name.now =
    (bytes_eq-Decides c.text.result.now c.args.name.now).0 (sym c.eq.ensures ∙ c.if-eq.true) in
    let here : c.text.result.now ≡ c.index-symbols-number.result.name = c.text.ensures
    ∙ ap (λ (s : Symbol). s.name) (sym c.index-symbols-number.is) in
    record { at = at; named = ap (λ (s : Symbol). s.name) same ∙ (sym here ∙ texts); first = c.loop-number.invariant }

pub loop-number-preserved : goal.loop-number-preserved
loop-number-preserved c =
    let at = slice_get_read c.args.symbols.now (length c.args.symbols.now) c.loop-number.number
    c.index-symbols-number.result refl c.loop-number-test.true c.index-symbols-number.is in
    let here : c.text.result.now ≡ c.index-symbols-number.result.name = c.text.ensures
    ∙ ap (λ (s : Symbol). s.name) (sym c.index-symbols-number.is) in
    let other : c.index-symbols-number.result.name ≢ c.args.name.now =
    λ e. not_this c.text.result.now c.args.name.now c.eq.result c.eq.ensures c.if-eq.false (here ∙ e) in
    no_more_named c.args.symbols.now c.args.name.now c.loop-number.number c.index-symbols-number.result
    c.loop-number.invariant at other

pub returns : goal.returns
returns c = not_named c.args.symbols.now c.args.name.now c.loop-number.number c.loop-number-test.false
    c.loop-number.invariant
