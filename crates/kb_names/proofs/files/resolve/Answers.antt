use Rattle.std.proofs.Common.{◌≡◌, ◌∙◌, Option, None, fold, map, sym}
use Rattle.kb_text.specs.declared.fault.KbFault.{KbFault}
use Rattle.stage_definitions.specs.Files.{File}
use Rattle.stage_definitions.specs.FileView.{file_in, vocabulary_in}
use Rattle.stage_definitions.specs.Names.{names_of}
use Rattle.stage_definitions.specs.NamesStage.{declarations_of, name_noted, uses_of_file}
use Rattle.stage_definitions.specs.Numbering.{IsNamed, NamedFile, named_file, vocabulary_name}
use Rattle.stage_definitions.proofs.NamedTypes.{named_without_cycles}
use Rattle.stage_definitions.proofs.Rows.{earliest_refused, nothing_refused}
use Rattle.kb_names.specs.NumberedViews.{numbered_view}
use Rattle.kb_names.proofs.files.resolve.Goals as goal

-- where nothing was noted, the stage refuses nothing
named_where_nothing_is_noted : (f : File) (answer : NamedFile) (first : Option KbFault)
    → first ≡ fold (name_noted (names_of (declarations_of f.vocabularies))) None (uses_of_file f) → first ≡ None
    → answer ≡ named_file (vocabulary_name f.vocabularies) (declarations_of f.vocabularies) f.theories f.terms
    → IsNamed f answer
named_where_nothing_is_noted f answer first noted none tree = record {
  accepted = nothing_refused (names_of (declarations_of f.vocabularies)) (uses_of_file f) (sym noted ∙ none);
  tree = tree;
}

pub accepted-requires : goal.accepted-requires
accepted-requires c = record {
  acyclic = named_without_cycles (file_in c.args.raw.now) (numbered_view c.in-Ok.kb)
      (named_where_nothing_is_noted (file_in c.args.raw.now) (numbered_view c.in-Ok.kb) c.named.new.earliest.first
      (rw c.new-earliest.ensures at c.in-Ok.ensures.noted) c.in-None.is c.in-Ok.ensures.tree);
}

pub returns-in-None-clause-ok : goal.returns-in-None-clause-ok
returns-in-None-clause-ok c =
    rw c.accepted.ensures
    (named_where_nothing_is_noted (file_in c.args.raw.now) (numbered_view c.in-Ok.kb) c.named.new.earliest.first
    (rw c.new-earliest.ensures at c.in-Ok.ensures.noted) c.in-None.is c.in-Ok.ensures.tree)

pub returns-in-Some-clause-err : goal.returns-in-Some-clause-err
returns-in-Some-clause-err c =
    let noted : c.named.new.earliest.first ≡ fold (name_noted (names_of
    (declarations_of (map vocabulary_in c.args.raw.now.vocabularies)))) None
    (uses_of_file (file_in c.args.raw.now)) =
    rw c.new-earliest.ensures at c.in-Ok.ensures.noted in
    earliest_refused (names_of (declarations_of (map vocabulary_in c.args.raw.now.vocabularies)))
    (uses_of_file (file_in c.args.raw.now)) c.in-Some.fault (sym noted ∙ c.in-Some.is)
