use Rattle.std.proofs.Common.{ℕ, List, ◌++◌, ap, ◌∙◌}
use Rattle.std.specs.Prelude.{flat_map}
use Rattle.derivation_log.specs.Lines.{entry_text}
use Rattle.tightened_entries.specs.LastBounds.{bounds_of}
use Rattle.tightened_entries.proofs.OneByOne.{tightened-entries}
use Rattle.tightened_entries.proofs.tightening.under_last_bound.Goals as goal

pub returns-clause-texts : goal.returns-clause-texts
returns-clause-texts c =
    let read = c.in_ok-selectors.ensures.read in
    let empty = read.4 ∙ ap (λ (t : List ℕ). t ++ flat_map entry_text (bounds_of read.0)) c.new-text.ensures.items in
    tightened-entries c.args.constraints read.0 c.complete.new.text.items read.1
    (c.in_ok-complete.ensures read.0 read.2 read.3 empty)
