use Rattle.term_values.proofs.KnownLaws.{known-extends, extends-known}
use Rattle.term_values.proofs.laws.known_is_extended.Goals as goal

pub returns : goal.returns
returns c = λ v k w given. (known-extends v k given w, extends-known v k given w)
