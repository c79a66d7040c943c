use Rattle.std.proofs.lemmas.Result.{IfErr-weaker, IfOk-weaker}
use Rattle.type_derivation.specs.TypedViews.{typed_view}
use Rattle.base_reader.specs.FileMeanings.{FileMeans}
use Rattle.base_reader.specs.Readings.{choice, meaning_of, FailsWith}
use Rattle.base_reader.proofs.Stages.{types_refused, data_refused, structure_within, theory_there, means}
use Rattle.base_reader.proofs.reading.read_base.Goals as goal

pub returns-in-Err-read_types-clause-err : goal.returns-in-Err-read_types-clause-err
returns-in-Err-read_types-clause-err c =
    types_refused c.files_are_their_blocks.ensures (choice c.args.theory c.args.structure) c.args.bytes.now
    c.in-Ok.found.0 c.in-Ok.found.1.theory c.in-Ok.found.1.structure
    c.in-Ok.ensures.ok c.in-Err-read_types.e c.in-Err-read_types.ensures.err

pub structure_at-structure-requires : goal.structure_at-structure-requires
structure_at-structure-requires c =
    structure_within c.files_are_their_blocks.ensures (choice c.args.theory c.args.structure) c.args.bytes.now
    c.in-Ok.found.0 c.in-Ok.found.1.theory c.in-Ok.found.1.structure
    c.in-Ok.ensures.ok

pub opened-requires-clause-theory : goal.opened-requires-clause-theory
opened-requires-clause-theory c =
    theory_there c.files_are_their_blocks.ensures (choice c.args.theory c.args.structure) c.args.bytes.now
    c.in-Ok.found.0 c.in-Ok.found.1.theory c.in-Ok.found.1.structure c.in-Ok.ensures.ok c.in-Ok-read_types.typed
    c.in-Ok-read_types.ensures.ok

pub returns-clause-ok : goal.returns-clause-ok
returns-clause-ok c =
    IfOk-weaker c.opened.result _
    (λ k. FileMeans (choice c.args.theory c.args.structure) c.args.bytes.now (meaning_of k))
    (means c.files_are_their_blocks.ensures (choice c.args.theory c.args.structure) c.args.bytes.now
    c.in-Ok.found.0 c.in-Ok.found.1.theory c.in-Ok.found.1.structure c.in-Ok.ensures.ok c.in-Ok-read_types.typed
    c.structure_at-structure.result.now c.in-Ok-read_types.ensures.ok c.structure_at-structure.ensures)
    c.opened.ensures.ok

pub returns-clause-err : goal.returns-clause-err
returns-clause-err c =
    IfErr-weaker c.opened.result _ (FailsWith (choice c.args.theory c.args.structure) c.args.bytes.now)
    (data_refused c.files_are_their_blocks.ensures (choice c.args.theory c.args.structure) c.args.bytes.now
    c.in-Ok.found.0 c.in-Ok.found.1.theory c.in-Ok.found.1.structure
    c.in-Ok.ensures.ok (typed_view c.in-Ok-read_types.typed) c.structure_at-structure.result.now
    c.in-Ok-read_types.ensures.ok c.structure_at-structure.ensures)
    c.opened.ensures.err
