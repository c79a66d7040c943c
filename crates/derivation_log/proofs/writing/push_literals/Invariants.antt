use Rattle.std.proofs.Common.{◌≡◌, ◌++◌, flat_map, codes, take}
use Rattle.lit_core.specs.declared.literals.Lit.{Lit}
use Rattle.derivation_log.specs.Lines.{literal_text}
use Rattle.derivation_log.proofs.writing.push_literals.Given as goal

abbrev pub invariant-loop-lit : goal.invariant-loop-lit
invariant-loop-lit l = l.out.items ≡ l.fn.out.items ++ flat_map (λ (x : Lit). literal_text x ++ codes " ")
    (take l.lit-index l.lits)
