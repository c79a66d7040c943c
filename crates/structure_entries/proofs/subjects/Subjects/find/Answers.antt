use Rattle.structure_entries.proofs.Found.{word_found, word_missing}
use Rattle.structure_entries.proofs.subjects.Subjects.find.Goals as goal

pub returns-in-Some : goal.returns-in-Some
returns-in-Some c = word_found c.args.self.now.table.entries c.args.word.now _ c.in-Some.ensures.value

pub returns-in-None : goal.returns-in-None
returns-in-None c = word_missing c.args.self.now.table.entries c.args.word.now c.in-None.ensures.value
