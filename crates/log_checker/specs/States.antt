-- The state of a check.
use Rattle.std.specs.Prelude.{◌≡◌, ◌+◌, ◌≤◌}
use Rattle.derivation_log.specs.declared.entries.Entry.{Entry}
use Rattle.derivation_log.specs.declared.entries.Entry.TheVariants as entry
use Rattle.derivation_log.specs.Steps.{CheckState}
use Rattle.log_checker.specs.declared.checked.Checked.{Checked}

abbrev pub state_view : Checked → CheckState
state_view c = record { vars = c.vars; clauses = c.clauses; bounds = c.bounds; line = c.line; claims = c.claims.items }

-- what an entry that adds a variable needs to be added
abbrev pub IsNext : CheckState → Entry → Type 0
IsNext st (entry.Mark n) = Unit {0}
IsNext st (entry.Learnt lits hints) = Unit {0}
IsNext st (entry.Sum n lits) = Unit {0}
IsNext st (entry.Bound s t k) = (s.0 ≡ st.vars + 1) × (1 ≤ t)
IsNext st (entry.Exclude s lits) = s.0 ≡ st.vars + 1
IsNext st (entry.Inconsistent lits c) = Unit {0}
IsNext st (entry.Forced l lits c) = Unit {0}
IsNext st (entry.Least t k lits c) = Unit {0}
