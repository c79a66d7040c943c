use Rattle.std.proofs.Common.{◌≡◌, ◌++◌, OnOk, subst}
use Rattle.kb_logic.proofs.TupleLists.{map-map}
use Rattle.partial_structures.specs.KnownAtoms.{atoms_of, value_at}
use Rattle.term_values.specs.KnownBases.{known_truth}
use Rattle.term_values.proofs.known_atoms.push_symbol.Goals as goal

pub returns : goal.returns
returns c =
    let k = c.args.partial.now in
    let old = c.args.known.now.items in
    let new = c.push_truths.new.known.items in
    let made = rw (c.as_slice.ensures.value, c.in_ok-push_values.ensures, c.new-truths.ensures.items)
    at c.push_truths.ensures in
    subst (λ ys. OnOk c.push_truths.result (new ≡ old ++ ys))
    (map-map known_truth (value_at k) (atoms_of k c.args.symbol)) made
