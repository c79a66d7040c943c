use Rattle.std.proofs.Common.{◌≡◌, ℕ, refl, sym, ◌∙◌, false}
use Rattle.std.specs.Prelude.{codes}
use Rattle.kb_logic.specs.declared.vocabularies.Symbol.{Symbol}
use Rattle.kb_logic.specs.KnownAtoms.{KnownAtoms}
use Rattle.printed_texts.specs.Entries.{marked, true_rows, false_rows, is_whole}
use Rattle.fo_printer.proofs.Written.{two_written}
use Rattle.fo_printer.proofs.entries.push_symbol.Goals as goal

pub returns : goal.returns
returns c =
    let k : KnownAtoms = c.args.s.now in
    let s : ℕ × Symbol = (c.args.number, c.args.symbol.now) in
    let known = c.in_ok-text.ensures in
    let open_ : is_whole k s ≡ false = sym known.whole ∙ c.if-text.false in
    let first = rw c.text-else-text.ensures at (c.in_ok-push_marked.ensures (codes "ct") (true_rows k s) refl
    known.trues) in
    let second = rw c.text-else-text-2.ensures at (c.push_marked-else-text.ensures (codes "cf") (false_rows k s) refl
    known.falses) in
    rw open_ (two_written _ c.args.out.now.items c.push_marked.new.out.items c.push_marked-else-text.new.out.items
    (marked c.args.symbol.now.name (codes "ct") (true_rows k s)) (marked c.args.symbol.now.name (codes "cf")
    (false_rows k s)) first second)
