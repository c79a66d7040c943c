use Rattle.std.proofs.Common.{◌≡◌, ◌∙◌, ℕ, ◌*◌, ◌<◌, ◌^◌, Bool, List, [], length, map, None, replicate, sym, ap}
use Rattle.std.specs.List.{flat_map}
use Rattle.partial_structures.specs.AtomRows.{settled}
use Rattle.partial_structures.specs.Ordered.{beyond, value_behind}
use Rattle.row_tries.specs.declared.rows.Edge.{Edge}
use Rattle.row_tries.specs.declared.rows.Mark.{Mark}
use Rattle.row_tries.specs.declared.truths.Truth.TheVariants.{Unknown}
use Rattle.partial_structures.proofs.Rest.{each_elem, each_value, if_some, none_left}
use Rattle.partial_structures.proofs.ordered.+atoms_beyond.Goals as goal

pub returns-in-Some-value : goal.returns-in-Some-value
returns-in-Some-value t c = λ ws es closed.
    ap (λ types. beyond ws es closed c.args.domains.now None types c.args.value)
    (none_left c.args.types.now c.in-None.ensures.cases)
    ∙ ap (λ v. beyond ws es closed c.args.domains.now None [] v) c.in-Some-value.is
    ∙ ap (map (value_behind ws es closed None)) (sym c.domain_in.ensures)
    ∙ each_value ws es closed c.domain_in.result.now

pub returns-in-Some-atoms_beyond : goal.returns-in-Some-atoms_beyond
returns-in-Some-atoms_beyond t c =
    let xs = c.domain_in-in-Some-atoms_beyond.result.now in
    let n = c.in-Some-atoms_beyond.count in
    if_some c.checked_mul.result (length xs * n < 2 ^ 64) (length xs * n)
    (λ m. (ws : List (List ℕ)) (es : List (Edge × Mark)) (closed : Bool)
    → beyond ws es closed c.args.domains.now None c.args.types.now c.args.value ≡ replicate m (settled closed Unknown))
    c.checked_mul.ensures (λ ws es closed.
    let ys = beyond ws es closed c.args.domains.now None c.in-Some.rest.now c.args.value in
    ap (λ types. beyond ws es closed c.args.domains.now None types c.args.value) c.in-Some.ensures.cases.0
    ∙ ap (flat_map (λ x. ys)) (sym c.domain_in-in-Some-atoms_beyond.ensures)
    ∙ each_elem n (settled closed Unknown) ys (c.in-Some-atoms_beyond.ensures ws es closed) xs)
