-- The interval of an aggregate's possible values under an assignment, each part by itself.
use Rattle.std.specs.Prelude.{ℕ, ℤ, pos, int_lt, nat_eq, Bool, true, false, not, if◌then◌else◌, Option, Some, None}
use Rattle.std.specs.Prelude.{List, [], ◌∷◌, map, filter, ◌≡◌, Contains}
use Rattle.kb_logic.specs.declared.elements.ExtInt.{ExtInt}
use Rattle.kb_logic.specs.declared.syntax.AggKind.{AggKind}
use Rattle.kb_logic.specs.declared.syntax.AggKind.TheVariants as kind
use Rattle.kb_logic.specs.declared.syntax.Cmp.TheVariants as cmp
use Rattle.kb_logic.specs.Denotations.{Denotation, number, aggregate_value, compared}
use Rattle.lit_core.specs.declared.literals.Lit.{Lit}
use Rattle.lit_core.specs.Literals.{by_sign_if_any}
use Rattle.ground_core.specs.declared.parts.Part.{Part}
use Rattle.ground_core.specs.declared.parts.AggCon.{AggCon}
use Rattle.ground_core.specs.Meaning.{denotation_of_bound}

-- a literal's value where some variables are unassigned
abbrev pub known_of : (ℕ → Option Bool) → Lit → Option Bool
known_of a l = by_sign_if_any l.positive (a l.var.0)

-- whether a part counts in the least possible value: where it is unassigned, as it makes the value less
abbrev pub in_least : AggKind → ℤ → Option Bool → Bool
in_least k w (Some b) = b
in_least kind.Count w None = false
in_least kind.Sum w None = int_lt w (pos 0)
in_least kind.Min w None = true
in_least kind.Max w None = false

-- whether it counts in the greatest possible value
abbrev pub in_greatest : AggKind → ℤ → Option Bool → Bool
in_greatest k w (Some b) = b
in_greatest kind.Count w None = true
in_greatest kind.Sum w None = int_lt (pos 0) w
in_greatest kind.Min w None = false
in_greatest kind.Max w None = true

-- the aggregate of the parts that are chosen
abbrev pub value_where : (Part → Bool) → AggKind → List Part → Denotation
value_where f k ps = aggregate_value k (map (λ (p : Part). number p.weight) (filter f ps))

-- whether this part counts in the least possible value
abbrev pub least_choice : (ℕ → Option Bool) → AggKind → Part → Bool
least_choice a k p = in_least k p.weight (known_of a p.lit)

-- whether it counts in the greatest possible value
abbrev pub greatest_choice : (ℕ → Option Bool) → AggKind → Part → Bool
greatest_choice a k p = in_greatest k p.weight (known_of a p.lit)

-- the lower end of the interval
abbrev pub least_possible : (ℕ → Option Bool) → AggKind → List Part → Denotation
least_possible a k ps = value_where (least_choice a k) k ps

-- its upper end
abbrev pub greatest_possible : (ℕ → Option Bool) → AggKind → List Part → Denotation
greatest_possible a k ps = value_where (greatest_choice a k) k ps

-- whether a value is at least the bound
abbrev pub reaches : ExtInt → Denotation → Bool
reaches least d = compared cmp.Ge d (denotation_of_bound least)

-- a result that is true asks that the greatest value reaches the bound, one that is false that the least does not
abbrev pub refuted_by : Option Bool → Bool → Bool → Bool
refuted_by None low high = false
refuted_by (Some true) low high = not high
refuted_by (Some false) low high = low

-- the interval contradicts the constraint's result
abbrev pub contradicts : (ℕ → Option Bool) → AggCon → Bool
contradicts a c = refuted_by (known_of a c.out) (reaches c.least (least_possible a c.kind c.parts))
    (reaches c.least (greatest_possible a c.kind c.parts))

-- the assignment that makes every literal of the clause false, and no other
abbrev pub refuting : List Lit → ℕ → Option Bool
refuting [] n = None
refuting (l ∷ ls) n = if nat_eq l.var.0 n then Some (not l.positive) else refuting ls n

-- the assignment with one variable given a value
abbrev pub changed : (ℕ → Option Bool) → ℕ → Bool → ℕ → Option Bool
changed a k b n = if nat_eq k n then Some b else a n

-- giving the literal a value either way contradicts nothing
abbrev pub IsOpenAt : (ℕ → Option Bool) → AggCon → Lit → Type 0
IsOpenAt a c l = known_of a l ≡ None → (b : Bool) → contradicts (changed a l.var.0 b) c ≡ false

-- nothing is refuted, and nothing unassigned is decided
pub record IsQuiet (a : ℕ → Option Bool) (c : AggCon) : Type 0 where
  pub fine : contradicts a c ≡ false
  pub out : IsOpenAt a c c.out
  pub parts : (p : Part) → Contains c.parts p → IsOpenAt a c p.lit

-- the valuation has every value that the assignment has
abbrev pub Extends : (ℕ → Option Bool) → (ℕ → Bool) → Type 0
Extends a v = (n : ℕ) (b : Bool) → a n ≡ Some b → v n ≡ b
