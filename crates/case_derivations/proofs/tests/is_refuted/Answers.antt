use Rattle.std.proofs.Common.{◌≡◌, ◌∷◌, []}
use Rattle.case_derivations.specs.Once.{IsOnceOf}
use Rattle.case_derivations.proofs.Assigning.{of-some}
use Rattle.case_derivations.proofs.tests.is_refuted.Goals as goal

pub walk-requires-clause-fine : goal.walk-requires-clause-fine
walk-requires-clause-fine c =
    let once : IsOnceOf (c.lit_of.result ∷ c.lit_of-2.result ∷ []) c.in-Some.chosen.items =
    of-some _ _ c.in_ok-chosen.field-0 c.in-Some.chosen c.in-Some.is c.in_ok-chosen.ensures in
    rw (c.deref-2.ensures.value) once.fine
