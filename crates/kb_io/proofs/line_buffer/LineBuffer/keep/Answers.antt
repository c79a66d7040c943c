use Rattle.std.proofs.Common.{arith}
use Rattle.kb_io.proofs.Cutting.{let_go_goes_on, gets_too_long}
use Rattle.kb_io.proofs.line_buffer.LineBuffer.keep.Goals as goal

pub returns-in-Partial-2-clause-begun : goal.returns-in-Partial-2-clause-begun
returns-in-Partial-2-clause-begun c =
    rw c.in-Partial.is (gets_too_long c.args.self.now.bytes.items c.args.piece.now c.requires.sound.whole
    c.requires.none (omega (arith, c.if-piece-len.false, c.requires.sound.short)))

pub returns-in-Overlong : goal.returns-in-Overlong
returns-in-Overlong c =
    record {
      sound = c.requires.sound;
      under_way = c.requires.under_way;
      begun = rw c.in-Overlong.is (let_go_goes_on _ c.requires.none);
    }
