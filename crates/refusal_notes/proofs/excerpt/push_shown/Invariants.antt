use Rattle.std.proofs.Common.{◌≡◌, ◌++◌, take, flat_map}
use Rattle.refusal_notes.specs.Excerpts.{shown}
use Rattle.refusal_notes.proofs.excerpt.push_shown.Given as goal

abbrev pub invariant-loop-b : goal.invariant-loop-b
invariant-loop-b l = l.out.items ≡ l.initial.out.items ++ flat_map (shown l.is_text) (take l.b-index l.bytes)
