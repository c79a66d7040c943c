use Rattle.printed_texts.proofs.BlocksReadBack.{blocks_are_read_back}
use Rattle.fo_printer.proofs.block.print_block.Goals as goal

pub returns-clause-back : goal.returns-clause-back
returns-clause-back c = λ w. blocks_are_read_back c.args.v.now c.args.name.now c.args.s.now w
    c.consistency.ensures.consistent c.consistency.ensures.listed
