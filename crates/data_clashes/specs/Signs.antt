-- Symbols of which the rows of a structure may say both that atoms are true and that atoms are false.
use Rattle.std.specs.Prelude.{◌≡◌, ℕ, ◌==◌, Bool, true, false, not, is_some, ◌&&◌, ◌||◌, List, filter}
use Rattle.std.specs.List.{list_any}
use Rattle.stage_definitions.specs.DataEntries.{Subject, nothing_named, an_element, a_type, a_symbol, Said, value_type}
use Rattle.stage_definitions.specs.DataEntries.{Sense, everything, certainly_true, certainly_false, unread, sense_of}
use Rattle.stage_definitions.specs.DataFacts.{gives_whole}
use Rattle.data_clashes.specs.Tables.{is_wide}
use Rattle.data_clashes.specs.declared.signs.Signs.{Signs}

-- rows with this sense are true, or are false
abbrev pub says : Bool → Sense → Bool
says holds everything = holds
says holds certainly_true = holds
says holds certainly_false = not holds
says holds unread = false

-- the entry is one of the symbol, and says of atoms that they are so; a value says both, since other values are false
abbrev pub may_say : Bool → ℕ → Said → Bool
may_say holds s e = gives_whole s e.subject && (is_some (value_type e.subject) || says holds (sense_of e.mark))

-- what the word names is a symbol of which these entries say both
abbrev pub is_opposable : List Said → Subject → Bool
is_opposable es nothing_named = false
is_opposable es an_element = false
is_opposable es (a_type t d) = false
is_opposable es (a_symbol s d) = list_any (may_say true s) es && list_any (may_say false s) es

-- those of the entries of which a row may clash with another one
abbrev pub opposable : List Said → List Said → List Said
opposable all es = filter (λ e. is_opposable all e.subject) es

-- the symbols of which these entries say that atoms are true, and those of which they say that atoms are false
pub record AreSignsOf (es : List Said) (t : Signs) : Type 0 where
  pub affirmed : (s : ℕ) → is_wide t.affirmed.keys s ≡ list_any (may_say true s) es
  pub denied : (s : ℕ) → is_wide t.denied.keys s ≡ list_any (may_say false s) es
