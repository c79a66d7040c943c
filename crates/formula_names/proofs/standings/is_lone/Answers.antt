use Rattle.std.proofs.Common.{◌≡◌, ◌∙◌, ◌==◌, true, false, length, sym}
use Rattle.grammar.specs.declared.raw.RawTermTree.{out-RawTermTree}
use Rattle.formula_names.proofs.LoneTerms.{lone_raw}
use Rattle.formula_names.proofs.standings.is_lone.Goals as goal

pub returns-then-is_empty : goal.returns-then-is_empty
returns-then-is_empty c =
    let one : c.is_empty.result ≡ (length (out-RawTermTree c.args.raw.now).more == 0) =
    rw c.as_slice.ensures at c.is_empty.ensures in
    let none : (length (out-RawTermTree c.args.raw.now).more == 0) ≡ true = sym one ∙ c.if-is_empty.true in
    rw (lone_raw c.args.raw.now, none) (rw c.as_slice-then-is_empty.ensures at c.is_empty-then-is_empty.ensures)

pub returns-else-is_empty : goal.returns-else-is_empty
returns-else-is_empty c =
    let one : c.is_empty.result ≡ (length (out-RawTermTree c.args.raw.now).more == 0) =
    rw c.as_slice.ensures at c.is_empty.ensures in
    let some : (length (out-RawTermTree c.args.raw.now).more == 0) ≡ false = sym one ∙ c.if-is_empty.false in
    rw (lone_raw c.args.raw.now, some) c.if-is_empty.false
