use Rattle.std.proofs.Common.{◌-◌, take, drop}
use Rattle.kb_io.proofs.Cutting.{unread_cut, cuts_some}
use Rattle.kb_io.proofs.line_buffer.Buffer.cut.Goals as goal

pub returns-in-Some-clause-answer : goal.returns-in-Some-clause-answer
returns-in-Some-clause-answer c =
    let buffer = c.args.self.now in
    let seen = c.deref.ensures.value in
    let found = c.in-Some.ensures in
    cuts_some c.finish.result buffer _ c.keep.new.self
    (take c.in-Some.n (take (buffer.end - buffer.at) (drop buffer.at buffer.chunk.items))) c.finish.ensures.answer
    (unread_cut buffer.chunk.items _ buffer.at buffer.end c.in-Some.n seen found.0 found.2)
    (rw (← seen) found.1)
    (rw (← c.begin.ensures.begun, ← seen) c.keep.ensures.begun)
