-- A function's values are elements of its value type.
use Rattle.std.proofs.Common.{◌≡◌, ◌==◌, ℕ, zero, suc, ◌<◌, ℤ, List, [], ◌∷◌, ◌++◌, length, get_or, cond, Bool, true}
use Rattle.std.proofs.Common.{false, Option, Some, None, IfSome, is_some, refl, sym, ap, subst, ◌∙◌, arith, inl, inr}
use Rattle.std.specs.Option.{option_and_then}
use Rattle.std.specs.List.{Contains, AllByRecursion, enumerate_from, slice_get}
use Rattle.std.proofs.lemmas.Int.{ints, clamps}
use Rattle.std.proofs.lemmas.Bool.{cases_Bool, eqb-true}
use Rattle.std.proofs.lemmas.List.Elements.{All-contains, filter_passes}
use Rattle.kb_logic.specs.declared.elements.Elem.{Elem}
use Rattle.kb_logic.specs.declared.elements.Elem.TheVariants.{Named, Num}
use Rattle.kb_logic.specs.declared.vocabularies.Symbol.{Symbol}
use Rattle.kb_logic.specs.declared.vocabularies.Vocabulary.{Vocabulary}
use Rattle.kb_logic.specs.declared.structures.Table.{Table}
use Rattle.kb_logic.specs.declared.structures.Structure.{Structure}
use Rattle.kb_logic.specs.Structures.{domain_at, tuples_of, EachWith, IsRowFor, IsFunction, IsStructure, functions_of}
use Rattle.kb_logic.specs.Denotations.{Denotation, denotation_of, same_value}
use Rattle.kb_logic.specs.Meaning.{rows_of, behind, last_value, applied, element_value}
use Rattle.kb_logic.specs.Bounds.{Interval, hull, integers, range_of, domain_if, value_type_of, IsWithin, ValueIsWithin}
use Rattle.kb_logic.specs.Bounds.{HasTypes}
use Rattle.kb_logic.proofs.Atoms.{numbered_at}
use Rattle.kb_logic.proofs.Members.{first, later, from_filter}

in_hull : (z y : ℤ) (i : Interval) → IsWithin i y → IsWithin (hull z (Some i)) y
in_hull z y i h = record { low = omega (arith, ints, clamps, h.low); high = omega (arith, ints, clamps, h.high) }

at_hull : (z : ℤ) (o : Option Interval) → IsWithin (hull z o) z
at_hull z None = record { low = omega (arith, ints); high = omega (arith, ints) }
at_hull z (Some i) = record { low = omega (arith, ints, clamps); high = omega (arith, ints, clamps) }

same_number : (y z : ℤ) → Num y ≡ Num z → y ≡ z
same_number y z e = cc

found : (xs : List Elem) (z : ℤ) (k : ℕ) → k < length xs → get_or xs k (Num z) ≡ Num z
    → (i : Interval) × (integers xs ≡ Some i) × IsWithin i z
found [] z k h at = absurd (omega arith)
found (Named n ∷ xs) z zero h at = cc
found (Named n ∷ xs) z (suc k) h at = found xs z k (omega arith) at
found (Num y ∷ xs) z zero h at = (
  hull y (integers xs),
  refl,
  subst (IsWithin (hull y (integers xs)))
      (same_number y z at) (at_hull y (integers xs)),
)
found (Num y ∷ xs) z (suc k) h at = let r = found xs z k (omega arith) at in
    (hull y (Some r.0), ap (λ o. Some (hull y o)) r.1, in_hull y z r.0 r.2)

-- an element is in its domain's range
pub element_within : (xs : List Elem) (x : Elem) → Contains xs x → ValueIsWithin (range_of xs) (denotation_of x)
element_within xs (Named n) at = tt
element_within xs (Num z) at = let r = found xs z at.0 at.1 at.2 in rw r.1 r.2

pub variable_within : (domains : List (List Elem)) (scope : List ℕ) (e : List Elem) (n : ℕ) → HasTypes domains scope e
    → ValueIsWithin (range_of (domain_if domains (slice_get scope n))) (element_value (slice_get e n))
variable_within domains [] [] n h = tt
variable_within domains [] (x ∷ e) n h = absurd h
variable_within domains (ty ∷ scope) [] n h = absurd h
variable_within domains (ty ∷ scope) (x ∷ e) zero h = element_within (domain_at domains ty) x h.0
variable_within domains (ty ∷ scope) (x ∷ e) (suc n) h = variable_within domains scope e n h.1

element_at : (xs all : List Elem) (n : ℕ) → ((x : Elem) → Contains xs x → Contains all x)
    → ValueIsWithin (range_of all) (element_value (slice_get xs n))
element_at [] all n h = tt
element_at (x ∷ xs) all zero h = element_within all x (h x (first x xs))
element_at (x ∷ xs) all (suc n) h = element_at xs all n (λ y at. h y (later x y xs at))

pub constructed_within : (xs : List Elem) (n : ℕ) → ValueIsWithin (range_of xs) (element_value (slice_get xs n))
constructed_within xs n = element_at xs xs n (λ x at. at)

-- the last element of the row, where it has one, is in the domain
abbrev pub LastIn : List Elem → List Elem → Type 0
LastIn dom [] = Unit {0}
LastIn dom (x ∷ []) = Contains dom x
LastIn dom (x ∷ y ∷ row) = LastIn dom (y ∷ row)

last_of_tail : (dom : List Elem) (x : Elem) (row : List Elem) → LastIn dom (x ∷ row) → LastIn dom row
last_of_tail dom x [] h = tt
last_of_tail dom x (y ∷ row) h = h

last_added : (dom args : List Elem) (x : Elem) → Contains dom x → LastIn dom (args ++ x ∷ [])
last_added dom [] x at = at
last_added dom (y ∷ []) x at = at
last_added dom (y ∷ z ∷ args) x at = last_added dom (z ∷ args) x at

one_left : (dom : List Elem) (x : Elem) (row : List Elem) → LastIn dom (x ∷ row)
    → ValueIsWithin (range_of dom) (last_value (Some (x ∷ row)))
one_left dom x [] h = element_within dom x h
one_left dom x (y ∷ row) h = tt

if_begins : (b : Bool) (i : Interval) (o : Option (List Elem)) → ValueIsWithin i (last_value o)
    → ValueIsWithin i (last_value (cond b o None))
if_begins true i o h = h
if_begins false i o h = tt

behind_within : (dom row : List Elem) (vs : List Denotation) → LastIn dom row
    → ValueIsWithin (range_of dom) (last_value (behind row vs))
behind_within dom [] [] h = tt
behind_within dom [] (v ∷ vs) h = tt
behind_within dom (x ∷ row) [] h = one_left dom x row h
behind_within dom (x ∷ row) (v ∷ vs) h = if_begins (same_value (denotation_of x) v) (range_of dom) (behind row vs)
    (behind_within dom row vs (last_of_tail dom x row h))

first_or_rest : (i : Interval) (o : Option (List Elem)) (d : Denotation) → ValueIsWithin i (last_value o)
    → ValueIsWithin i d → ValueIsWithin i (elim o [ None ↦ d | Some rest ↦ last_value (Some rest) ])
first_or_rest i None d h k = k
first_or_rest i (Some rest) d h k = h

applied_within : (dom : List Elem) (rows : List (List Elem)) (vs : List Denotation) → AllByRecursion (LastIn dom) rows
    → ValueIsWithin (range_of dom) (applied rows vs)
applied_within dom [] vs h = tt
applied_within dom (r ∷ rs) vs h = first_or_rest (range_of dom) (behind r vs) (applied rs vs)
    (behind_within dom r vs h.0) (applied_within dom rs vs h.1)

each_last : (dom : List Elem) (tuples rows : List (List Elem)) → EachWith (IsRowFor dom) tuples rows
    → AllByRecursion (LastIn dom) rows
each_last dom [] [] h = tt
each_last dom [] (r ∷ rows) h = absurd h
each_last dom (a ∷ tuples) [] h = absurd h
each_last dom (a ∷ tuples) (r ∷ rows) h = (
  subst (LastIn dom) (sym h.0.2) (last_added dom a h.0.0 h.0.1),
  each_last dom tuples rows h.1,
)

rows_last : (domains : List (List Elem)) (value : Option ℕ) (tuples rows : List (List Elem)) → is_some value ≡ true
    → IfSome value (λ ty. EachWith (IsRowFor (domain_at domains ty)) tuples rows)
    → AllByRecursion (LastIn (domain_if domains value)) rows
rows_last domains None tuples rows s h = cc
rows_last domains (Some ty) tuples rows s h = each_last (domain_at domains ty) tuples rows h

function_rows : (domains : List (List Elem)) (ps : List (ℕ × Symbol)) (ts : List Table) (n : ℕ) (value : Option ℕ)
    → EachWith (IsFunction domains) ps ts
    → ((p : ℕ × Symbol) → Contains ps p → p.0 ≡ n → (p.1.value ≡ value) × (is_some p.1.value ≡ true))
    → AllByRecursion (LastIn (domain_if domains value)) (rows_of n ts)
function_rows domains [] [] n value each known = tt
function_rows domains [] (t ∷ ts) n value each known = absurd each
function_rows domains (p ∷ ps) [] n value each known = absurd each
function_rows domains (p ∷ ps) (t ∷ ts) n value each known = elim (cases_Bool (t.symbol == n)) [
  | inl e ↦
      let facts = known p (first p ps) (sym each.0.symbol ∙ eqb-true t.symbol n e) in
      let here = subst (λ o. AllByRecursion (LastIn (domain_if domains o)) t.rows) facts.0
      (rows_last domains p.1.value (tuples_of domains p.1.args) t.rows facts.1 each.0.rows) in
      subst (λ b. AllByRecursion (LastIn (domain_if domains value)) (cond b t.rows (rows_of n ts))) (sym e) here
  | inr e ↦
      subst (λ b. AllByRecursion (LastIn (domain_if domains value)) (cond b t.rows (rows_of n ts))) (sym e)
      (function_rows domains ps ts n value each.1 (λ q in' is. known q (later p q ps in') is))
]

pub function_within : (v : Vocabulary) (m : Structure) → IsStructure v m → (n : ℕ) (vs : List Denotation)
    → ValueIsWithin (range_of (domain_if m.domains (value_type_of v n))) (applied (rows_of n m.functions) vs)
function_within v m is n vs =
    let known : (p : ℕ × Symbol) → Contains (functions_of v) p → p.0 ≡ n → (p.1.value ≡ value_type_of v n)
    × (is_some p.1.value ≡ true) = λ p at number.
    let r = numbered_at v.symbols 0 p.0 p.1 (from_filter (λ (s : ℕ × Symbol). is_some s.1.value)
    (enumerate_from 0 v.symbols) p at) in
    let place : r.0 ≡ n = omega (arith, r.1, number) in
    let symbol : slice_get v.symbols n ≡ Some p.1 = sym (ap (slice_get v.symbols) place) ∙ r.2 in (
      sym (ap (option_and_then (λ (t : Symbol). t.value)) symbol),
      All-contains (λ (s : ℕ × Symbol). is_some s.1.value ≡ true) (functions_of v) p
          (filter_passes (λ (s : ℕ × Symbol). is_some s.1.value) (enumerate_from 0 v.symbols)) at,
    ) in
    applied_within (domain_if m.domains (value_type_of v n)) (rows_of n m.functions) vs
    (function_rows m.domains (functions_of v) m.functions n (value_type_of v n) is.functions known)
