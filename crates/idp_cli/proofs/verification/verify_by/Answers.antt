use Rattle.std.proofs.Common.{rules, ◌≡◌}
use Rattle.base_reader.specs.Readings.{meaning_of}
use Rattle.idp_cli.proofs.VerificationLemmas.{answer_ends, unread_ends}
use Rattle.idp_cli.proofs.verification.verify_by.Goals as goal

pub returns-in-Ok-clause-ends : goal.returns-in-Ok-clause-ends
returns-in-Ok-clause-ends g c = λ file choice files means same.
    let read = c.in-Ok.ensures.read in
    let bytes : c.deref.result.now ≡ c.in-Ok.bytes.items = search rules in
    answer_ends file choice c.args.name.now (meaning_of c.args.kb.now) files _
    (g.H.Shelf.file c.args.shelf.now c.args.name.now) (g.H.Shelf.faults c.args.shelf.now)
    (g.H.Shelf.faults c.read_log.new.shelf) _ _ means same c.in-Ok.bytes.items read.1 read.0 read.2
    c.print_answer.result _ _ (rw bytes at c.print_answer.ensures)

pub returns-in-Err-clause-ends : goal.returns-in-Err-clause-ends
returns-in-Err-clause-ends g c = λ file choice files means same.
    unread_ends file choice c.args.name.now (meaning_of c.args.kb.now) files _
    (g.H.Shelf.file c.args.shelf.now c.args.name.now) (g.H.Shelf.faults c.args.shelf.now)
    (g.H.Shelf.faults c.read_log.new.shelf) _ _ means same c.in-Err.status c.in-Err.ensures.read
