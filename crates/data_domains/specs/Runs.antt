-- Intervals that rise, with a gap before each next one.
use Rattle.std.specs.Prelude.{ℤ, pos, ◌+ℤ◌, ◌≤ℤ◌, int_lt, Bool, List, [], ◌∷◌, Option, None, Some, if◌then◌else◌, ⊤}
use Rattle.std.specs.List.{list_any}
use Rattle.kb_logic.specs.Bounds.{Interval}
use Rattle.stage_definitions.specs.Elements.{is_between}

-- the integer lies in one of the intervals
abbrev pub is_inside : List Interval → ℤ → Bool
is_inside is z = list_any (λ i. is_between i.low i.high z) is

-- no integer lies in the interval
abbrev pub is_hollow : Interval → Bool
is_hollow i = int_lt i.high i.low

-- none of the intervals is empty, and none begins before this integer or before the one that precedes it
abbrev pub AreRisingFrom : ℤ → List Interval → Type 0
AreRisingFrom z [] = ⊤
AreRisingFrom z (i ∷ is) = (z ≤ℤ i.low) × (i.low ≤ℤ i.high) × AreRisingFrom i.low is

-- none of the intervals is empty or begins before this integer, and after each one an integer is left out
abbrev pub AreApartFrom : ℤ → List Interval → Type 0
AreApartFrom z [] = ⊤
AreApartFrom z (i ∷ is) = (z ≤ℤ i.low) × (i.low ≤ℤ i.high) × AreApartFrom (i.high +ℤ pos 2) is

-- the same, wherever they begin
pub record AreApart (is : List Interval) : Type 0 where
  pub start : ℤ
  pub from : AreApartFrom start is

-- the first of the intervals that does not end before the integer, where there is one
abbrev pub first_reaching : ℤ → List Interval → Option Interval
first_reaching z [] = None
first_reaching z (i ∷ is) = if int_lt i.high z then first_reaching z is else Some i
