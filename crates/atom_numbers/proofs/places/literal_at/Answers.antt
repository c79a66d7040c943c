use Rattle.std.proofs.Common.{Some, [], ◌/◌, List, ℕ, get_or, length, refl, ap, ◌∙◌}
use Rattle.kb_logic.specs.Structures.{tuples_of}
use Rattle.atom_numbers.proofs.ApplicationFacts.{literal-placed}
use Rattle.atom_numbers.proofs.places.literal_at.Goals as goal

pub returns-in_ok-tuple_at-in-Some-value : goal.returns-in_ok-tuple_at-in-Some-value
returns-in_ok-tuple_at-in-Some-value c = (
  refl,
  refl,
  literal-placed c.args.domains.now c.args.symbol.now c.in-Some-value.ty c.args.place c.in-Some-value.is c.requires
      c.domain_in-domain.result.now c.domain_in-domain.ensures c.index-domain-place.result c.index-domain-place.is _
      (c.in_ok-tuple_at-in-Some-value.ensures ∙ ap (λ (types : List ℕ). get_or (tuples_of c.args.domains.now types)
      (c.args.place / length c.domain_in-domain.result.now) []) c.as_slice-types.ensures)
      (ap Some c.in_ok-value-in-Some-value.ensures),
)
