use Rattle.std.proofs.Common.{◌≡◌, ◌∙◌, true, false, if◌then◌else◌, None, sym, ap, slice_get}
use Rattle.partial_structures.specs.Applications.{arguments_typed}
use Rattle.partial_structures.specs.KnownAtoms.{value_of_row}
use Rattle.partial_structures.specs.Known.{Spot, known_in, is_whole, spot_of}
use Rattle.row_tries.specs.Rows.{mark_at}
use Rattle.partial_structures.specs.AtomRows.{settled}
use Rattle.partial_structures.specs.Flags.{is_closed}
use Rattle.row_tries.specs.declared.truths.Truth.TheVariants.{No}
use Rattle.partial_structures.proofs.Walks.{whole_is, predicate_row, function_row}
use Rattle.partial_structures.proofs.lookups.atom_truth.Goals as goal

pub returns-then-not-is_complete : goal.returns-then-not-is_complete
returns-then-not-is_complete c = λ vs h.
    let a = c.args in
    let typed : arguments_typed (known_in a.s) (slice_get a.s.symbols.now a.symbol) vs ≡ false =
    sym (whole_is a.s a.symbol vs) ∙ sym (ap is_whole h) ∙ sym c.is_complete.ensures ∙ c.if-not-is_complete.true in
    sym (ap (λ b. if b then value_of_row (known_in a.s) a.symbol vs None else No) typed)

pub returns-then-is_function : goal.returns-then-is_function
returns-then-is_function c = λ vs h.
    let a = c.args in
    let typed : arguments_typed (known_in a.s) (slice_get a.s.symbols.now a.symbol) vs ≡ true =
    sym (whole_is a.s a.symbol vs) ∙ sym (ap is_whole h) ∙ sym c.is_complete.ensures ∙ c.if-not-is_complete.false in
    sym (ap (λ b. if b then value_of_row (known_in a.s) a.symbol vs None else No) typed
    ∙ function_row a.s a.symbol vs (sym c.is_function.ensures ∙ c.if-is_function.true))

pub returns : goal.returns
returns c = λ vs h.
    let a = c.args in
    let typed : arguments_typed (known_in a.s) (slice_get a.s.symbols.now a.symbol) vs ≡ true =
    sym (whole_is a.s a.symbol vs) ∙ sym (ap is_whole h) ∙ sym c.is_complete.ensures ∙ c.if-not-is_complete.false in
    let row = predicate_row a.s a.symbol vs typed (sym c.is_function.ensures ∙ c.if-is_function.false) in
    let node : a.place.node ≡ (spot_of a.s a.symbol vs).node = ap (λ (p : Spot). p.node) h in
    rw (c.flag.ensures, c.mark.ensures) at c.if_closed.ensures
    ∙ ap (λ n. settled (is_closed a.s.closed.now a.symbol) (mark_at a.s.rows.now.nodes.entries n).known) node
    ∙ sym (ap (λ b. if b then value_of_row (known_in a.s) a.symbol vs None else No) typed ∙ row)
