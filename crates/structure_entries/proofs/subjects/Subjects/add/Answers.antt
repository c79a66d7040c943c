use Rattle.std.proofs.Common.{◌∙◌, ◌≡◌, is_some, false, true, rules}
use Rattle.std.specs.Map.{lookup}
use Rattle.std.specs.Str.{bytes_eq}
use Rattle.indexmap.proofs.CallerLemmas.{insert_entry-new}
use Rattle.structure_entries.specs.EntryViews.{subject_view}
use Rattle.structure_entries.proofs.Found.{added, kept, none_of}
use Rattle.structure_entries.proofs.subjects.Subjects.add.Goals as goal

pub returns-in_ok-insert : goal.returns-in_ok-insert
returns-in_ok-insert c =
    let absent : is_some (lookup (λ k. bytes_eq c.args.word.now k.now) c.args.self.now.table.entries) ≡ false =
    search rules in
    added c.args.self.now.table.entries _ c.args.word c.args.subject
    (c.in_ok-insert.ensures.entries ∙ insert_entry-new (λ x y. bytes_eq x.now y.now) c.args.self.now.table c.args.word
    c.args.subject (none_of _ absent))

pub returns-else-not-contains_key : goal.returns-else-not-contains_key
returns-else-not-contains_key c =
    let there : is_some (lookup (λ k. bytes_eq c.args.word.now k.now) c.args.self.now.table.entries) ≡ true =
    search rules in
    kept c.args.self.now.table.entries c.args.word.now (subject_view c.args.subject) there
