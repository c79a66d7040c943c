use Rattle.std.proofs.Common.{◌≡◌, ◌+◌, length, ap, ◌∙◌, arith}
use Rattle.kb_logic.specs.declared.vocabularies.Vocabulary.{Vocabulary}
use Rattle.definition_walk.proofs.SymbolSteps.{last-var}
use Rattle.definition_walk.proofs.symbols.next_var.Goals as goal

pub returns-else-symbol-len : goal.returns-else-symbol-len
returns-else-symbol-len c =
    let b = c.args.base.now in
    let size = c.len.ensures ∙ ap (λ (v : Vocabulary). length v.symbols) c.vocabulary.ensures in
    let past : c.args.symbol + 1 ≡ length b.vocabulary.symbols =
    omega (arith, size, c.if-symbol-len.false, c.requires.symbol) in
    ap (λ n. n + 1) c.atoms.ensures.atoms ∙ last-var b c.requires.known c.args.symbol past
