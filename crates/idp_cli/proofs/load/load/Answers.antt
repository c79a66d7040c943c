use Rattle.std.proofs.Common.{ℕ, ◌+◌, Err, sym, subst}
use Rattle.grammar.specs.FileReads.{most_bytes}
use Rattle.kb_io.specs.declared.read_write.ReadError.{ReadError}
use Rattle.kb_text.specs.declared.fault.K.TheVariants.{TooLong}
use Rattle.consultation.specs.Streams.{IfObservable}
use Rattle.idp_cli.specs.Files.{IsRefusedAt}
use Rattle.idp_cli.specs.JobViews.{choice_view}
use Rattle.idp_cli.specs.Reading.{ReadsFile}
use Rattle.idp_cli.proofs.LongFiles.{long_file}
use Rattle.idp_cli.proofs.load.load.Goals as goal

pub returns-in-Err-TooLong-clause-loaded : goal.returns-in-Err-TooLong-clause-loaded
returns-in-Err-TooLong-clause-loaded g c =
    let file = g.H.Shelf.file c.args.shelf.now c.args.name.now in
    let read = subst (λ (e : ReadError). ReadsFile (Err e) most_bytes file (g.H.Shelf.faults c.args.shelf.now)
    (g.H.Shelf.faults c.read_file.new.shelf))
    c.in-Err-TooLong.field-0-is c.in-Err-TooLong.ensures.read in (
      read.0,
      subst (λ (n : ℕ). IfObservable file (IsRefusedAt (choice_view c.args.options) TooLong (n + 1)))
          (sym c.in-Err-TooLong.newlines-is)
          (long_file (choice_view c.args.options) c.in-Err-TooLong.newlines file read.2),
    )
