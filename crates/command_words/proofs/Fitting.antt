-- No complaint fits that memory ran out.
use Rattle.std.proofs.Common.{◌≡◌, refl, inl, inr}
use Rattle.clap.specs.declared.error.kind.ErrorKind.TheVariants as kind
use Rattle.command_words.specs.Complaints.{AsksForHelp, Fits}
use Rattle.command_words.specs.declared.complaints.Complaint.{Complaint}
use Rattle.command_words.specs.declared.complaints.Complaint.TheVariants as complaint

asks_nothing : AsksForHelp kind.OutOfMemory → ⊥
asks_nothing (inl is) = absurd (cc is)
asks_nothing (inr (inl is)) = absurd (cc is)
asks_nothing (inr (inr is)) = absurd (cc is)

no_version : kind.OutOfMemory ≡ kind.DisplayVersion → ⊥
no_version is = cc is

pub fits_no_memory : (c : Complaint) → Fits c kind.OutOfMemory → ⊥
fits_no_memory complaint.Help fits = asks_nothing fits
fits_no_memory complaint.Version fits = no_version fits
fits_no_memory (complaint.Wrong lines) fits = fits.2 refl
fits_no_memory complaint.Budget fits = fits
fits_no_memory complaint.Generation fits = fits
