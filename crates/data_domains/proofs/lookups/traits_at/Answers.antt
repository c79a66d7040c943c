use Rattle.std.proofs.Common.{refl, sym}
use Rattle.data_domains.proofs.Looked.{traits_found, traits_missing}
use Rattle.data_domains.proofs.lookups.traits_at.Goals as goal

pub returns-in-Some : goal.returns-in-Some
returns-in-Some c = λ all es h. traits_found all es c.args.types.now c.args.ty c.in-Some.data.now h
    (sym c.in-Some.ensures)

pub returns-in-None : goal.returns-in-None
returns-in-None c = λ all es h. traits_missing all es c.args.types.now c.args.ty _ h (sym c.in-None.ensures) refl refl
    refl refl refl
