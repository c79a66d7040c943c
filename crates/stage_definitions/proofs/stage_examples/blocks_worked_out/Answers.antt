use Rattle.std.proofs.Common.{refl}
use Rattle.stage_definitions.proofs.stage_examples.blocks_worked_out.Goals as goal

pub returns : goal.returns
returns c = record {
  other_vocabulary = refl;
  same_vocabulary = refl;
  no_vocabulary = refl;
  second_name = refl;
  first_name = refl;
  second_block = refl;
  only_block = refl;
  named_second = refl;
  first_of_all = refl;
  more_where_named = refl;
  not_there = refl;
  none_there = refl;
}
