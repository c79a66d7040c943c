use Rattle.atom_numbers.specs.Numbers.{HasNumber}
use Rattle.ground_task.proofs.ChoiceFacts.{each-length}
use Rattle.ground_task.proofs.task.Task.chosen_among.Goals as goal

pub chosen_among-requires-clause-same : goal.chosen_among-requires-clause-same
chosen_among-requires-clause-same g c =
    each-length (HasNumber c.args.self.now.numbers) c.args.choices.now c.args.lits.now c.requires.each
