use Rattle.std.proofs.Common.{◌≡◌, ◌++◌, take, flat_map}
use Rattle.consult_text.specs.Texts.{model_block}
use Rattle.consult_text.proofs.texts.push_models.Given as goal

abbrev pub invariant-loop-m : goal.invariant-loop-m
invariant-loop-m l = l.out.items ≡ l.initial.out.items ++ flat_map (model_block l.vocab) (take l.m-index l.models)
