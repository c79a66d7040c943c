use Rattle.std.proofs.Common.{◌∷◌, [], ◌++◌}
use Rattle.tightened_entries.proofs.OneByOne.{one-other}
use Rattle.tightened_entries.proofs.Reading.{reads-more}
use Rattle.tightened_entries.proofs.tightening.push_others.Goals as goal

pub loop-at-preserved : goal.loop-at-preserved
loop-at-preserved c =
    let known = c.loop-at.invariant in
    let es = known.0 in
    let e = c.in-Ok.entry in (
      es ++ e ∷ [],
      reads-more c.args.entries.now c.loop-at.at c.in-Ok.next es e known.1 c.in-Ok.ensures.ok,
      one-other es e c.args.before c.args.selectors.now.list.items c.args.text.now.items c.loop-at.text.items
          c.push_under.new.text.items known.2 c.in_ok-push_under.ensures,
    )
