use Rattle.base_reader.proofs.CanBeGrounded.{accepted_can_be_grounded}
use Rattle.base_reader.proofs.bases.accepted_can_be_grounded.Goals as goal

pub returns : goal.returns
returns c =
    accepted_can_be_grounded c.accepted_is_typed_over.ensures c.accepted_have_domains.ensures
    c.accepted_is_given.ensures c.given_is_consistent.ensures
