-- Entries under the last of their bounds.
use Rattle.std.specs.Prelude.{ℕ, ◌+◌, ◌-◌, Bool, true, false, not, ◌&&◌, List, [], ◌∷◌, ◌++◌, map, length, filter}
use Rattle.std.specs.Prelude.{if◌then◌else◌, nat_eq, nat_le, nat_lt, slice_index_or}
use Rattle.std.specs.List.{list_any}
use Rattle.lit_core.specs.declared.literals.Lit.{Lit}
use Rattle.derivation_log.specs.declared.entries.Entry.{Entry}
use Rattle.derivation_log.specs.declared.entries.Entry.TheVariants.{Mark, Learnt, Sum, Bound, Exclude, Inconsistent}
use Rattle.derivation_log.specs.declared.entries.Entry.TheVariants.{Forced, Least}

-- the entry is a bound
abbrev pub is_bound : Entry → Bool
is_bound (Mark n) = false
is_bound (Learnt lits hints) = false
is_bound (Sum n lits) = false
is_bound (Bound s t k) = true
is_bound (Exclude s lits) = false
is_bound (Inconsistent lits c) = false
is_bound (Forced l lits c) = false
is_bound (Least t k lits c) = false

-- the variable of a bound's selector
abbrev pub selector : Entry → ℕ
selector (Mark n) = 0
selector (Learnt lits hints) = 0
selector (Sum n lits) = 0
selector (Bound s t k) = s.0
selector (Exclude s lits) = 0
selector (Inconsistent lits c) = 0
selector (Forced l lits c) = 0
selector (Least t k lits c) = 0

-- those of the entries that are bounds, in their order
abbrev pub bounds_of : List Entry → List Entry
bounds_of es = filter is_bound es

-- the other ones
abbrev pub others : List Entry → List Entry
others es = filter (λ e. not (is_bound e)) es

-- the variables of the bounds' selectors
abbrev pub selectors_of : List Entry → List ℕ
selectors_of es = map selector (bounds_of es)

abbrev pub last_of : List ℕ → ℕ
last_of ss = slice_index_or ss (length ss - 1) 0

-- the literal is one of a selector
abbrev pub is_over : List ℕ → Lit → Bool
is_over ss l = list_any (nat_eq l.var.0) ss

-- the literal has this sign
abbrev pub has_sign : Bool → Lit → Bool
has_sign true l = l.positive
has_sign false l = not l.positive

-- the literal is one of a selector, with this sign
abbrev pub is_over_with : List ℕ → Bool → Lit → Bool
is_over_with ss sign l = is_over ss l && has_sign sign l

-- the last selector's literal with this sign, where a selector has one among the literals
abbrev pub last_with : List ℕ → Bool → List Lit → List Lit
last_with ss sign ls =
    if list_any (is_over_with ss sign) ls then record { var = record { 0 = last_of ss }; positive = sign } ∷ [] else []

-- the literals with the last selector in place of each: it stands behind the other literals, once with each sign
abbrev pub literals_under : List ℕ → List Lit → List Lit
literals_under ss ls = filter (λ l. not (is_over ss l)) ls ++ (last_with ss true ls ++ last_with ss false ls)

-- the last bound's number in place of each bound's, where so many constraints come before them
abbrev pub number_under : ℕ → ℕ → ℕ → ℕ
number_under before count n = if nat_lt before n && nat_le n (before + count) then before + count else n

-- the entry with the last bound in place of each
abbrev pub under : ℕ → List ℕ → Entry → Entry
under before ss (Mark n) = Mark n
under before ss (Learnt lits hints) = Learnt (literals_under ss lits) hints
under before ss (Sum n lits) = Sum (number_under before (length ss) n) (literals_under ss lits)
under before ss (Bound s t k) = Bound s t k
under before ss (Exclude s lits) = Exclude s (literals_under ss lits)
under before ss (Inconsistent lits c) = Inconsistent (literals_under ss lits) c
under before ss (Forced l lits c) = Forced l (literals_under ss lits) c
under before ss (Least t k lits c) = Least t k (literals_under ss lits) c

-- the bounds, and then the other entries under the last one; as they are where there are less than two bounds
abbrev pub tightened : ℕ → List Entry → List Entry
tightened before es =
    if nat_lt (length (selectors_of es)) 2 then es else bounds_of es ++ map (under before (selectors_of es)) (others es)
