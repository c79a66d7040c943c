-- What entries add to a log.
use Rattle.std.specs.Prelude.{◌≡◌, ℕ, List, ◌++◌, flat_map}
use Rattle.derivation_log.specs.declared.entries.Entry.{Entry}
use Rattle.derivation_log.specs.Lines.{entry_text}
use Rattle.log_checker.specs.Growing.{Checking}
use Rattle.log_checker.specs.Cases.{Derives}

-- clauses were derived, and the texts of their entries were appended
abbrev pub Adds : Checking → Checking → List ℕ → List ℕ → Type 0
Adds old new before text = (es : List Entry) × Derives old new es × (text ≡ before ++ flat_map entry_text es)
