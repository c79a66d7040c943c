-- A file that is longer than it may be is refused for that.
use Rattle.std.proofs.Common.{◌≡◌, ℕ, ◌+◌, ◌<◌, List, length, take, refl, sym, ap, subst, Option, Some, None}
use Rattle.grammar.specs.FileReads.{most_bytes, too_long}
use Rattle.kb_io.specs.Lines.{newlines}
use Rattle.kb_text.specs.declared.fault.K.TheVariants.{TooLong}
use Rattle.base_reader.specs.FileMeanings.{Choice, text}
use Rattle.consultation.specs.Streams.{IfObservable}
use Rattle.idp_cli.specs.Files.{IsRefusedAt}

pub long_file : (c : Choice) (n : ℕ) (file : Option (List ℕ))
    → IfObservable file (λ told. (most_bytes < length told) × (n ≡ newlines (take most_bytes told)))
    → IfObservable file (IsRefusedAt c TooLong (n + 1))
long_file c n None is = tt
long_file c n (Some told) is = (
  record { cause = TooLong; place = most_bytes },
  text (record { cause = TooLong; place = most_bytes })
      (too_long is.0),
  refl,
  ap (λ (x : ℕ). x + 1) is.1,
)

-- the line is the one at which the bytes end that are taken
pub long_at : (c : Choice) (line : ℕ) (bytes : List ℕ) → most_bytes < length bytes
    → line ≡ newlines (take most_bytes bytes) + 1 → IsRefusedAt c TooLong line bytes
long_at c line bytes long is =
    subst (λ (l : ℕ). IsRefusedAt c TooLong l bytes) (sym is) (long_file c _ (Some bytes) (long, refl))
