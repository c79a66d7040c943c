use Rattle.std.proofs.Common.{◌≡◌, take}
use Rattle.consult_text.proofs.replies.copy_models.Given as goal

abbrev pub invariant-loop-model : goal.invariant-loop-model
invariant-loop-model l = l.copies.items ≡ take l.model-index l.models
