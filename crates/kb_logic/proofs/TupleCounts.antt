-- How many tuples there are, and counts that stop at 21.
use Rattle.std.proofs.Common.{◌≡◌, ℕ, zero, suc, ◌+◌, ◌*◌, ◌≤◌, ◌<◌, min, List, [], ◌∷◌, map, length, drop, take}
use Rattle.std.proofs.Common.{get_or, sym, ap, ◌∙◌, arith, inl, inr, length-append}
use Rattle.std.specs.List.{flat_map, sum_by, enumerate_from}
use Rattle.std.proofs.lemmas.List.{at_drop_more, take_all, length-map}
use Rattle.std.proofs.lemmas.List.Sums.{sum_by_more}
use Rattle.std.proofs.lemmas.List.FromFn.{get_or-enumerate_from, length-enumerate_from}
use Rattle.std.proofs.lemmas.Bool.{cases_lt}
use Rattle.std.proofs.lemmas.Nat.{mul-le}
use Rattle.kb_logic.specs.declared.elements.Elem.{Elem}
use Rattle.kb_logic.specs.declared.vocabularies.Symbol.{Symbol}
use Rattle.kb_logic.specs.Structures.{domain_at, tuples_of}

pub length-tuples_over : (more : List (List Elem)) (xs : List Elem) → length (flat_map (λ x. map (λ a. x ∷ a) more) xs)
    ≡ length xs * length more
length-tuples_over more [] = omega arith
length-tuples_over more (x ∷ xs) =
    length-append (map (λ a. x ∷ a) more) (flat_map (λ x. map (λ a. x ∷ a) more) xs)
    ∙ rw (length-map more (λ a. x ∷ a), length-tuples_over more xs) (omega arith)

capped_above : (a b : ℕ) → 21 ≤ a → min 21 (21 * b) ≡ min 21 (a * b)
capped_above a zero h = omega arith
capped_above a (suc b) h = let low : 21 * 1 ≤ a * suc b = mul-le 21 1 a (suc b) h (omega arith) in omega arith

-- what is above 21 stays there in a product with anything but 0
pub capped : (a b : ℕ) → min 21 (min 21 a * b) ≡ min 21 (a * b)
capped a b = elim (cases_lt a 21) [
  | inl h ↦ let same : min 21 a ≡ a = omega arith in ap (λ n. min 21 (n * b)) same
  | inr h ↦ let cap : min 21 a ≡ 21 = omega arith in ap (λ n. min 21 (n * b)) cap ∙ capped_above a b h
]

pub next_product : (domains : List (List Elem)) (types : List ℕ) (i count : ℕ) → i < length types
    → min 21 (min 21 (count * length (domain_at domains (get_or types i 0))) * length
    (tuples_of domains (drop (i + 1) types))) ≡ min 21 (count * length (tuples_of domains (drop i types)))
next_product domains types i count h =
    let more = length (tuples_of domains (drop (i + 1) types)) in
    let size = length (domain_at domains (get_or types i 0)) in
    let split : length (tuples_of domains (drop i types)) ≡ size * more =
    at_drop_more (λ ts. length (tuples_of domains ts)) types i 0 h
    ∙ length-tuples_over (tuples_of domains (drop (i + 1) types)) (domain_at domains (get_or types i 0)) in
    capped (count * size) more ∙ ap (min 21) (omega arith) ∙ ap (λ n. min 21 (count * n)) (sym split)

pub next_sum : (f : ℕ × Symbol → ℕ) (symbols : List Symbol) (i : ℕ) (s : Symbol) (c d r : ℕ) → i < length symbols
    → s ≡ get_or symbols i s
    → c ≡ min 21 (sum_by f (take i (enumerate_from 0 symbols))) → d ≡ min 21 (f (i, s)) → r ≡ min (c + d) 21
    → r ≡ min 21 (sum_by f (take (i + 1) (enumerate_from 0 symbols)))
next_sum f symbols i s c d r h at e g is =
    let all = enumerate_from 0 symbols in
    let first : 0 + i ≡ i = omega arith in
    let within : i < length all = rw length-enumerate_from h in
    let item : get_or all i (0, s) ≡ (i, s) = get_or-enumerate_from 0 symbols i (0, s) h
    ∙ ap {B = ℕ × Symbol} (λ n. (n, get_or symbols i s)) first ∙ ap {B = ℕ × Symbol} (λ t. (i, t)) (sym at) in
    let step : sum_by f (take (i + 1) all) ≡ sum_by f (take i all) + f (i, s) = sum_by_more f all i (0, s) within
    ∙ ap (λ t. sum_by f (take i all) + f t) item in
    rw step (omega arith)

pub whole_sum : (f : ℕ × Symbol → ℕ) (symbols : List Symbol) (i c : ℕ) → length symbols ≤ i
    → c ≡ min 21 (sum_by f (take i (enumerate_from 0 symbols)))
    → c ≡ min 21 (sum_by f (enumerate_from 0 symbols))
whole_sum f symbols i c h e = e ∙ ap (λ xs. min 21 (sum_by f xs))
    (take_all i (enumerate_from 0 symbols) (rw length-enumerate_from h))
