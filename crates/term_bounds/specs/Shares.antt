-- The least that parts may count where some variables are unassigned.
use Rattle.std.specs.Prelude.{◌≡◌, ℕ, ℤ, pos, ◌+ℤ◌, ◌-ℤ◌, int_lt, Bool, if◌then◌else◌, Option, Some, None}
use Rattle.std.specs.Prelude.{List, [], ◌∷◌}
use Rattle.kb_logic.specs.declared.elements.ExtInt.{ExtInt}
use Rattle.kb_logic.specs.declared.syntax.AggKind.{AggKind}
use Rattle.lit_core.specs.declared.literals.Lit.{Lit}
use Rattle.lit_core.specs.Literals.{literal_value, value_in}
use Rattle.ground_core.specs.declared.parts.Part.{Part}
use Rattle.term_bounds.specs.Totals.{counted_as, where_true}

-- the least that a part may count: nothing or its number, whichever is less, unless its literal has a value
abbrev pub share : Option Bool → ℤ → ℤ
share (Some b) w = where_true b w
share None w = if int_lt w (pos 0) then w else pos 0

-- by how much a value raises it
abbrev pub raised : Option Bool → ℤ → ℤ
raised o w = share o w -ℤ share None w

-- the least that the parts may count together
abbrev pub least_total : List (Option Bool) → AggKind → ExtInt → List Part → ℤ
least_total a k bound [] = pos 0
least_total a k bound (p ∷ ps) = share (value_in a p.lit) (counted_as k bound p.weight) +ℤ least_total a k bound ps

-- what a part counts more than the least that it may, where its literal has no value yet and has this one then
abbrev pub opened : Option Bool → Bool → ℤ → ℤ
opened (Some b) x w = pos 0
opened None x w = where_true x w -ℤ share None w

-- the same of all parts under a valuation
abbrev pub opened_total : List (Option Bool) → (ℕ → Bool) → AggKind → ExtInt → List Part → ℤ
opened_total a v k bound [] = pos 0
opened_total a v k bound (p ∷ ps) = opened (value_in a p.lit) (literal_value v p.lit) (counted_as k bound p.weight)
    +ℤ opened_total a v k bound ps

-- the literal has a value, which is that under the valuation
abbrev pub IsDecidedAs : List (Option Bool) → (ℕ → Bool) → Lit → Type 0
IsDecidedAs a v l = value_in a l ≡ Some (literal_value v l)
