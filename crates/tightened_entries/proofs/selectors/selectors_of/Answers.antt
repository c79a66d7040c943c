use Rattle.std.proofs.Common.{◌∷◌, [], ◌++◌}
use Rattle.std.proofs.lemmas.List.Elements.{All-push}
use Rattle.search_log.specs.Entries.{IsOfSearch}
use Rattle.tightened_entries.proofs.OneByOne.{one-bound, one-selector}
use Rattle.tightened_entries.proofs.Reading.{reads-more}
use Rattle.tightened_entries.proofs.selectors.selectors_of.Goals as goal

pub loop-at-preserved : goal.loop-at-preserved
loop-at-preserved c =
    let known = c.loop-at.invariant in
    let es = known.1.0 in
    let e = c.in-Ok.entry in (
      c.in_ok-note.ensures.hashed,
      (
        es ++ e ∷ [],
        All-push IsOfSearch es e known.1.1 c.in_ok-note.ensures.search,
        reads-more c.args.entries.now c.loop-at.at c.in-Ok.next es e known.1.2 c.in-Ok.ensures.ok,
        one-selector es e c.loop-at.found.list.items c.note.new.self.list.items known.1.3 c.in_ok-note.ensures.list,
        one-bound es e c.args.text.now.items c.loop-at.text.items c.note.new.text.items known.1.4
            c.in_ok-note.ensures.text,
      ),
    )
