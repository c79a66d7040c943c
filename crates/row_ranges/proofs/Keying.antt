-- The key of a row is that of the places of its elements.
use Rattle.std.proofs.Common.{◌≡◌, ℕ, zero, suc, ◌+◌, ◌*◌, ◌/◌, ◌%◌, ◌<◌, List, [], ◌∷◌, length, get_or, Bool}
use Rattle.std.proofs.Common.{true, false, cond, Option, Some, None, refl, sym, ap, ◌∙◌, arith}
use Rattle.std.specs.Option.{option_map, unwrap_or}
use Rattle.std.proofs.lemmas.Nat.{div-mul-add, mod-mul-add}
use Rattle.kb_logic.specs.declared.elements.Elem.{Elem}
use Rattle.kb_logic.specs.declared.elements.Elem.TheVariants.{Named, Num}
use Rattle.kb_logic.specs.Trees.{TermTrees, no_terms, more_terms}
use Rattle.kb_logic.specs.Structures.{IsDistinct, domain_at, tuples_of}
use Rattle.kb_logic.specs.Denotations.{denotation_of, same_value, undefined}
use Rattle.kb_logic.proofs.Atoms.{same_is, is_same}
use Rattle.kb_logic.proofs.Pairs.{length-pairs}
use Rattle.term_values.specs.GroundBases.{row_index}
use Rattle.term_values.specs.DomainIndexes.{elem_index}
use Rattle.term_values.proofs.IndexLemmas.{elem_named, elem_number}
use Rattle.term_values.proofs.RadixLemmas.{index_split, other_length, with_digit}
use Rattle.term_values.proofs.RowFacts.{place-below}
use Rattle.row_ranges.specs.Arguments.{argument_value, argument_values}
use Rattle.row_ranges.specs.Keys.{key_of, key_under}

same-element : (x y : Elem) → denotation_of x ≡ denotation_of y → x ≡ y
same-element (Named q) y h = sym (elem_named y q (sym h))
same-element (Num z) y h = sym (elem_number y z (sym h))

default-same : {X : Type 0} (xs : List X) (i : ℕ) (x y : X) → i < length xs → get_or xs i x ≡ get_or xs i y
default-same [] i x y h = absurd (omega (arith, h))
default-same (z ∷ xs) zero x y h = refl
default-same (z ∷ xs) (suc i) x y h = default-same xs i x y (omega (arith, h))

found : (b : Bool) (o : Option ℕ) → b ≡ true → cond b (Some 0) o ≡ Some 0
found true o h = refl
found false o h = cc

not-found : (b : Bool) (o : Option ℕ) (i : ℕ) → b ≡ false → o ≡ Some i
    → cond b (Some 0) (option_map (λ k. 1 + k) o) ≡ Some (suc i)
not-found true o i h e = cc
not-found false o i h e =
    let next : 1 + i ≡ suc i = omega arith in ap (option_map (λ k. 1 + k)) e ∙ ap Some next

-- where no element stands twice, the place of an element is found
pub place-is : (xs : List Elem) (i : ℕ) (d : Elem) → IsDistinct xs → i < length xs
    → elem_index xs (denotation_of (get_or xs i d)) ≡ Some i
place-is [] i d h k = absurd (omega (arith, k))
place-is (x ∷ xs) zero d h k =
    found (same_value (denotation_of x) (denotation_of x)) (option_map (λ k. 1 + k) (elem_index xs (denotation_of x)))
    (is_same (denotation_of x))
place-is (x ∷ xs) (suc i) d h k =
    let y = get_or xs i d in
    let below : i < length xs = omega (arith, k) in
    not-found (same_value (denotation_of x) (denotation_of y)) (elem_index xs (denotation_of y)) i
    (other (same_value (denotation_of x) (denotation_of y)) refl) (place-is xs i d h.1 below)
  where
    other : (b : Bool) → same_value (denotation_of x) (denotation_of (get_or xs i d)) ≡ b → b ≡ false
    other true t =
        let same : x ≡ get_or xs i d =
        same-element x (get_or xs i d) (same_is (denotation_of x) (denotation_of (get_or xs i d)) t) in
        absurd (h.0 (i, omega (arith, k), default-same xs i x d (omega (arith, k)) ∙ sym same))
    other false t = refl

-- nothing is no element
pub no-place : (xs : List Elem) → elem_index xs undefined ≡ None
no-place [] = refl
no-place (Named q ∷ xs) = ap (option_map (λ k. 1 + k)) (no-place xs)
no-place (Num z ∷ xs) = ap (option_map (λ k. 1 + k)) (no-place xs)

-- a digit and the rest
digits : (n : ℕ) (p o : Option ℕ) (i : ℕ) → with_digit n p o ≡ Some i
    → (q : ℕ) × (r : ℕ) × (p ≡ Some q) × (o ≡ Some r) × (i ≡ q * n + r)
digits n None o i h = cc
digits n (Some q) None i h = cc
digits n (Some q) (Some r) i h = let is : q * n + r ≡ i = cc in (q, r, refl, refl, sym is)

-- where the arguments are a row, its key is what they come to
pub key-is : (domains : List (List Elem)) (types own : List ℕ) (ts : TermTrees) (e : List Elem) (i : ℕ)
    → row_index (tuples_of domains types) (argument_values domains ts e) ≡ Some i
    → key_of domains types own i ≡ key_under domains types own ts e
key-is domains [] own ts e i h = refl
key-is domains (ty ∷ types) [] ts e i h = refl
key-is domains (ty ∷ types) (s ∷ own) no_terms e i h =
    let none : row_index (tuples_of domains (ty ∷ types)) [] ≡ None =
    other_length domains (ty ∷ types) [] (λ l. let no : suc (length types) ≡ 0 = l in absurd (omega (arith, no))) in
    let bad : None ≡ Some i = sym none ∙ h in cc
key-is domains (ty ∷ types) (s ∷ own) (more_terms t ts) e i h =
    let v = argument_value domains t e in
    let vs = argument_values domains ts e in
    let T = tuples_of domains types in
    let n = length T in
    let split : row_index (tuples_of domains (ty ∷ types)) (v ∷ vs)
    ≡ with_digit n (elem_index (domain_at domains ty) v) (row_index T vs) =
    index_split domains (ty ∷ types) (v ∷ vs) 0 (omega arith) (omega arith) in
    let parts = digits n (elem_index (domain_at domains ty) v) (row_index T vs) i (sym split ∙ h) in
    by parts.0 parts.1 parts.2 parts.3 parts.4 (key-is domains types own ts e parts.1 parts.3)
  where
    by : (q r : ℕ) → elem_index (domain_at domains ty) (argument_value domains t e) ≡ Some q
        → row_index (tuples_of domains types) (argument_values domains ts e) ≡ Some r
        → i ≡ q * length (tuples_of domains types) + r
        → key_of domains types own r ≡ key_under domains types own ts e
        → key_of domains (ty ∷ types) (s ∷ own) i ≡ key_under domains (ty ∷ types) (s ∷ own) (more_terms t ts) e
    by q r first rest is later =
        let n = length (tuples_of domains types) in
        let below : r < n = place-below (tuples_of domains types) (argument_values domains ts e) r rest in
        let digit : i / n ≡ q = ap (λ k. k / n) is ∙ div-mul-add q n r below in
        let left : i % n ≡ r = ap (λ k. k % n) is ∙ mod-mul-add q n r below in
        ap (λ k. k * s + key_of domains types own (i % n)) digit
        ∙ (ap (λ k. q * s + key_of domains types own k) left
        ∙ (ap (λ k. q * s + k) later
        ∙ ap (λ o. unwrap_or o 0 * s + key_under domains types own ts e) (sym first)))

-- how many tuples there are of the types after the first
pub below-is : (domains : List (List Elem)) (types : List ℕ) (ty : ℕ) (rest : List ℕ) (count size : ℕ)
    → types ≡ ty ∷ rest → count ≡ length (tuples_of domains types) → size ≡ length (domain_at domains ty) → 0 < size
    → count / size ≡ length (tuples_of domains rest)
below-is domains types ty rest count size is all digits some =
    let n = length (tuples_of domains rest) in
    let whole : count ≡ length (domain_at domains ty) * n =
    all ∙ (ap (λ ts. length (tuples_of domains ts)) is
    ∙ length-pairs (λ (x : Elem) (a : List Elem). x ∷ a) (tuples_of domains rest) (domain_at domains ty)) in
    let turned : count ≡ n * size + 0 = omega (arith, whole, ap (λ k. k * n) digits) in
    ap (λ k. k / size) turned ∙ div-mul-add n size 0 some

-- the key by the first digit
pub key-step : (domains : List (List Elem)) (types own : List ℕ) (ty : ℕ) (others : List ℕ) (s : ℕ) (later : List ℕ)
    (row n rest : ℕ) → types ≡ ty ∷ others → own ≡ s ∷ later → n ≡ length (tuples_of domains others)
    → rest ≡ key_of domains others later (row % n)
    → key_of domains types own row ≡ (row / n) * s + rest
key-step domains types own ty others s later row n rest is steps count left =
    ap (λ ts. key_of domains ts own row) is
    ∙ (ap (λ ss. key_of domains (ty ∷ others) ss row) steps
    ∙ (ap (λ k. (row / k) * s + key_of domains others later (row % k)) (sym count)
    ∙ ap (λ k. (row / n) * s + k) (sym left)))
