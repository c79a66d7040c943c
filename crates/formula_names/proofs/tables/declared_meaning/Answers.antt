use Rattle.formula_names.proofs.Listed.{meaning_found, meaning_missing}
use Rattle.formula_names.proofs.tables.declared_meaning.Goals as goal

pub returns-in-Some : goal.returns-in-Some
returns-in-Some c = meaning_found c.args.table.now.meanings.entries c.args.word.now _ c.in-Some.ensures.value

pub returns-in-None : goal.returns-in-None
returns-in-None c = meaning_missing c.args.table.now.meanings.entries c.args.word.now c.in-None.ensures.value
