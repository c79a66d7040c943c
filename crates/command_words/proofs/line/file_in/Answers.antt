use Rattle.std.proofs.Common.{◌∙◌}
use Rattle.command_words.proofs.Said.{same_file}
use Rattle.command_words.proofs.line.file_in.Goals as goal

pub returns : goal.returns
returns c = c.file_with.ensures ∙ same_file c.value_of.ensures c.value_of-2.ensures c.value_of-3.ensures
