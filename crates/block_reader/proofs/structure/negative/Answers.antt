use Rattle.std.proofs.Common.{◌∷◌, refl}
use Rattle.grammar.specs.declared.terminal.Terminal.TheVariants as t
use Rattle.grammar.specs.declared.terminal.Adding.TheVariants.{Minus}
use Rattle.grammar.specs.Terminals.{toks, sign}
use Rattle.block_reader.proofs.InStructure.{no_number}
use Rattle.block_reader.proofs.structure.negative.Goals as goal

pub returns-in_default-clause-reads : goal.returns-in_default-clause-reads
returns-in_default-clause-reads c = no_number c.args.place (sign (t.Add Minus) c.args.place ∷ toks c.args.items.now)
    (toks c.args.items.now) c.args.end c.place_at.result refl c.in_default.ensures.none c.place_at.ensures
