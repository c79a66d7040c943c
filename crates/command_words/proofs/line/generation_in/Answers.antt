use Rattle.std.proofs.Common.{◌∙◌}
use Rattle.command_words.proofs.Said.{same_generation}
use Rattle.command_words.proofs.line.generation_in.Goals as goal

pub returns : goal.returns
returns c = c.generation_with.ensures ∙ same_generation c.value_of.ensures c.value_of-2.ensures c.has_flag.ensures
