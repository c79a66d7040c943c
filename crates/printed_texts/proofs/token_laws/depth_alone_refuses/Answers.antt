use Rattle.kb_text.specs.Depth.{outermost}
use Rattle.printed_texts.proofs.Tokens.{scanned, shallow_read}
use Rattle.printed_texts.proofs.token_laws.depth_alone_refuses.Goals as goal

pub returns-clause-refuses : goal.returns-clause-refuses
returns-clause-refuses c = λ xs apart. scanned outermost 0 xs apart

pub returns-clause-reads : goal.returns-clause-reads
returns-clause-reads c = shallow_read
