-- Counts that stop at the greatest number of 64 bits, and tables of first variables.
use Rattle.std.proofs.Common.{◌≡◌, ◌≤◌, ◌<◌, ℕ, zero, suc, ◌+◌, ◌*◌, List, [], ◌∷◌, ◌++◌, length, drop, take, get_or}
use Rattle.std.proofs.Common.{refl, sym, ap, ◌∙◌, arith, inl, inr}
use Rattle.std.proofs.Common.{Some, slice_get, ◌⊎◌}
use Rattle.std.specs.List.{sum_by}
use Rattle.std.proofs.lemmas.Bool.{cases_lt}
use Rattle.std.proofs.lemmas.List.{at_drop_more, length-append}
use Rattle.std.proofs.lemmas.List.Sums.{sum_by_more}
use Rattle.std.proofs.Math.Nat.{mul-le-mul_left, mul-one, mul_assoc}
use Rattle.kb_logic.specs.declared.elements.Elem.{Elem}
use Rattle.kb_logic.specs.declared.vocabularies.Symbol.{Symbol}
use Rattle.kb_logic.specs.Structures.{domain_at, tuples_of}
use Rattle.kb_logic.proofs.TupleCounts.{length-tuples_over}
use Rattle.term_values.specs.GroundBases.{atoms_in}
use Rattle.term_values.specs.VariableTables.{capped, first_vars}

large : (a : ℕ) → 18446744073709551615 ≤ a → capped a ≡ 18446744073709551615
large a h = omega arith

within : (a : ℕ) → a ≤ 18446744073709551615 → capped a ≡ a
within a h = omega arith

large_product : (a b : ℕ) → 18446744073709551615 ≤ a → 18446744073709551615 ≤ a * suc b
large_product a b h =
    let one : a * 1 ≤ a * suc b = mul-le-mul_left a (omega arith) in
    let same : a * 1 ≡ a = mul-one a in
    omega arith

-- a factor that stops changes no product that stops
pub first_factor : (a b : ℕ) → capped (capped a * b) ≡ capped (a * b)
first_factor a zero =
    let left : capped a * 0 ≡ 0 = none (capped a) in
    let right : a * 0 ≡ 0 = none a in
    ap capped (left ∙ sym right)
  where
    none : (n : ℕ) → n * 0 ≡ 0
    none n = omega arith
first_factor a (suc b) = elim (cases_lt 18446744073709551615 a) [
  | inl h ↦
      let above : 18446744073709551615 ≤ a = omega arith in
      let stop = large a above in
      let most : 18446744073709551615 ≤ capped a = omega arith in
      large (capped a * suc b) (large_product (capped a) b most) ∙ sym (large (a * suc b) (large_product a b above))
  | inr h ↦ ap (λ n. capped (n * suc b)) (within a h)
]

pub tuples_split : (domains : List (List Elem)) (types : List ℕ) (i : ℕ) → i < length types
    → length (tuples_of domains (drop i types))
    ≡ length (domain_at domains (get_or types i 0)) * length (tuples_of domains (drop (i + 1) types))
tuples_split domains types i h =
    at_drop_more (λ ts. length (tuples_of domains ts)) types i 0 h
    ∙ length-tuples_over (tuples_of domains (drop (i + 1) types)) (domain_at domains (get_or types i 0))

-- one type more is counted
pub count_more : (domains : List (List Elem)) (types : List ℕ) (i count next size : ℕ) → i < length types
    → size ≡ length (domain_at domains (get_or types i 0)) → next ≡ capped (count * size)
    → capped (next * length (tuples_of domains (drop (i + 1) types)))
    ≡ capped (count * length (tuples_of domains (drop i types)))
count_more domains types i count next size h s e =
    let more = length (tuples_of domains (drop (i + 1) types)) in
    ap (λ n. capped (n * more)) e
    ∙ (first_factor (count * size) more
    ∙ ap capped (mul_assoc count size more
    ∙ ap (λ n. count * n) (ap (λ k. k * more) s ∙ sym (tuples_split domains types i h))))

-- all types are counted
pub count_all : (domains : List (List Elem)) (types : List ℕ) (i count : ℕ) → length types ≤ i
    → drop i types ≡ [] → capped (count * length (tuples_of domains (drop i types)))
    ≡ capped (length (tuples_of domains types))
    → count ≤ 18446744073709551615 → count ≡ capped (length (tuples_of domains types))
count_all domains types i count h none e fits =
    let one : count * length (tuples_of domains (drop i types)) ≡ count * 1 =
    ap (λ ts. count * length (tuples_of domains ts)) none in
    let same : count * 1 ≡ count = mul-one count in
    sym (within count fits) ∙ (ap capped (sym same ∙ sym one) ∙ e)

-- the number of a symbol's atoms
pub atoms_capped : (a b r t : ℕ) → t ≡ capped a → r ≡ capped (t * b) → r ≡ capped (a * b)
atoms_capped a b r t e f = f ∙ ap (λ n. capped (n * b)) e ∙ first_factor a b

pub first_vars_length : (domains : List (List Elem)) (symbols : List Symbol) (n : ℕ)
    → length (first_vars domains symbols n) ≡ n
first_vars_length domains symbols zero = refl
first_vars_length domains symbols (suc n) =
    let e = first_vars_length domains symbols n in
    let l = length-append (first_vars domains symbols n) ((1 + sum_by (atoms_in domains) (take n symbols)) ∷ []) in
    omega arith

slice_push : {X : Type 0} (xs : List X) (x : X) (n k : ℕ) → length xs ≡ n → k < suc n
    → ((k < n) × (slice_get (xs ++ x ∷ []) k ≡ slice_get xs k)) ⊎ ((k ≡ n) × (slice_get (xs ++ x ∷ []) k ≡ Some x))
slice_push [] x n zero e h = inr (e, refl)
slice_push [] x n (suc k) e h = absurd (omega (arith, e, h))
slice_push (y ∷ xs) x zero k e h = absurd (omega (arith, e))
slice_push (y ∷ xs) x (suc n) zero e h = inl (omega arith, refl)
slice_push (y ∷ xs) x (suc n) (suc k) e h = elim (slice_push xs x n k (omega (arith, e)) (omega (arith, h))) [
  | inl a ↦ let l = a.0 in inl (omega (arith, l), a.1)
  | inr a ↦ inr (ap suc a.0, a.1)
]

-- the variable of a symbol's first atom stands in the table
pub first_var_at : (domains : List (List Elem)) (symbols : List Symbol) (n s : ℕ) → s < n
    → slice_get (first_vars domains symbols n) s ≡ Some (1 + sum_by (atoms_in domains) (take s symbols))
first_var_at domains symbols zero s h = absurd (omega (arith, h))
first_var_at domains symbols (suc n) s h =
    elim (slice_push (first_vars domains symbols n) (1 + sum_by (atoms_in domains) (take n symbols)) n s
    (first_vars_length domains symbols n) h) [
      | inl a ↦ a.1 ∙ first_var_at domains symbols n s a.0
      | inr a ↦ a.1 ∙ ap (λ k. Some (1 + sum_by (atoms_in domains) (take k symbols))) (sym a.0)
    ]

-- one symbol more
pub next_var : (domains : List (List Elem)) (symbols : List Symbol) (i next sum count : ℕ) (d : Symbol)
    → i < length symbols
    → d ≡ get_or symbols i d → next ≡ 1 + sum_by (atoms_in domains) (take i symbols)
    → count ≡ capped (atoms_in domains d) → sum ≡ next + count → sum ≤ 18446744073709551615
    → sum ≡ 1 + sum_by (atoms_in domains) (take (i + 1) symbols)
next_var domains symbols i next sum count d h at n c s fits =
    let more = sum_by_more (atoms_in domains) symbols i d h in
    let here : atoms_in domains (get_or symbols i d) ≡ atoms_in domains d = ap (atoms_in domains) (sym at) in
    let exact : count ≡ atoms_in domains d = omega (arith, n, c, s, fits) in
    omega (arith, more, here, exact, n, s)
