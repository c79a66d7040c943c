use Rattle.std.proofs.Common.{◌∙◌, sym}
use Rattle.stage_definitions.proofs.Headers.{position_named}
use Rattle.block_choice.proofs.blocks.chosen.Goals as goal

pub returns-in-Some : goal.returns-in-Some
returns-in-Some g c =
    rw c.in-Some.is (c.named.ensures ∙ sym (position_named g.B.Headed.header_of c.in-Some.word.now c.args.blocks.now))
