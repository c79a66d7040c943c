-- Lists of rows, one row after another; and the sums of their values.
use Rattle.std.proofs.Common.{◌≡◌, ◌<◌, ℕ, zero, suc, ◌+◌, ℤ, ◌+ℤ◌, List, [], ◌∷◌, ◌++◌, map, length, take, drop}
use Rattle.std.proofs.Common.{get_or, Bool, false}
use Rattle.std.proofs.Common.{Option, Some, None, option_map, slice_get, refl, sym, ap, ◌∙◌, arith, subst, FitsSigned}
use Rattle.std.proofs.Common.{w64, to_z, of_z}
use Rattle.std.specs.List.{flat_map, AllByRecursion}
use Rattle.std.proofs.lemmas.List.{map_more, take_more, append_assoc, drop_more}
use Rattle.std.proofs.lemmas.List.Concat.{flat_map-append}
use Rattle.std.proofs.lemmas.Option.{get_or_from_slice_get}
use Rattle.std.proofs.lemmas.Int.{ints, to_z-of_z}
use Rattle.kb_logic.specs.Denotations.{Denotation, named, number, minus_infinity, plus_infinity, undefined}
use Rattle.kb_logic.specs.Meaning.{signed_of, summand_plus}
use Rattle.kb_logic.specs.Values.{value_view}
use Rattle.kb_logic.specs.declared.values.Value.{Value}
use Rattle.kb_logic.specs.declared.values.Value.TheVariants as value
use Rattle.term_values.specs.RowSums.{sum_values}
use Rattle.term_values.proofs.VariableLemmas.{slice_inside}

pub row_read : {X Y : Type 0} (R : List (X × Y)) (j : ℕ) (g : X) (v : Y)
    → option_map (λ (r : X × Y). r.0) (slice_get R j) ≡ Some g
    → option_map (λ (r : X × Y). r.1) (slice_get R j) ≡ Some v → slice_get R j ≡ Some (g, v)
row_read {X = X} {Y = Y} R j g v = by (slice_get R j)
  where
    by : (o : Option (X × Y)) → option_map (λ (r : X × Y). r.0) o ≡ Some g → option_map (λ (r : X × Y). r.1) o ≡ Some v
        → o ≡ Some (g, v)
    by None h k = cc
    by (Some r) h k =
        let a : r.0 ≡ g = cc in
        let b : r.1 ≡ v = cc in
        ap {A = X} {B = Option (X × Y)} (λ x. Some (x, r.1)) a ∙ ap {A = Y} {B = Option (X × Y)} (λ y. Some (g, y)) b

pub map_pushed : {X Y Z : Type 0} (f : X × Y → Z) (R : List (X × Y)) (j : ℕ) (g : X) (v : Y) (before now next : List Z)
    → slice_get R j ≡ Some (g, v) → now ≡ before ++ map f (take j R) → next ≡ now ++ f (g, v) ∷ []
    → next ≡ before ++ map f (take (j + 1) R)
map_pushed f R j g v before now next at e n =
    let read = get_or_from_slice_get R j (g, v) (g, v) at in
    let more = map_more f R j (g, v) (slice_inside R j (g, v) at) ∙ ap (λ r. map f (take j R) ++ f r ∷ []) read in
    n ∙ (ap (λ l. l ++ f (g, v) ∷ []) e
    ∙ (append_assoc before (map f (take j R)) (f (g, v) ∷ []) ∙ ap (λ l. before ++ l) (sym more)))

pub flat_pushed : {X Z : Type 0} (f : X → List Z) (R : List X) (j : ℕ) (r : X) (before now next : List Z)
    → slice_get R j ≡ Some r → now ≡ before ++ flat_map f (take j R) → next ≡ now ++ f r
    → next ≡ before ++ flat_map f (take (j + 1) R)
flat_pushed f R j r before now next at e n =
    let read = get_or_from_slice_get R j r r at in
    let one : flat_map f (r ∷ []) ≡ f r = last (f r) in
    let more = ap (flat_map f) (take_more R j r (slice_inside R j r at) ∙ ap (λ x. take j R ++ x ∷ []) read)
    ∙ (flat_map-append f (take j R) (r ∷ []) ∙ ap (λ l. flat_map f (take j R) ++ l) one) in
    n ∙ (ap (λ l. l ++ f r) e ∙ (append_assoc before (flat_map f (take j R)) (f r) ∙ ap (λ l. before ++ l) (sym more)))
  where
    last : {A : Type 0} (l : List A) → l ++ [] ≡ l
    last [] = refl
    last (x ∷ l) = ap (λ m. x ∷ m) (last l)

pub all_at : {X : Type 0} (P : X → Type 0) (xs : List X) (i : ℕ) (x : X) → AllByRecursion P xs
    → slice_get xs i ≡ Some x → P x
all_at P [] i x h at = cc
all_at P (y ∷ xs) zero x h at = let same : y ≡ x = cc in subst P same h.0
all_at P (y ∷ xs) (suc i) x h at = all_at P xs i x h.1 at

-- ---- sums

plus_none : (m : Bool) (v : Denotation) → summand_plus m v None ≡ None
plus_none m (named q) = refl
plus_none m (number z) = refl
plus_none m minus_infinity = refl
plus_none m plus_infinity = refl
plus_none m undefined = refl

pub sums_differ : (ms : List Bool) (vs : List Denotation) → (length ms ≡ length vs → ⊥) → None ≡ sum_values ms vs
sums_differ [] [] h = absurd (h refl)
sums_differ [] (v ∷ vs) h = refl
sums_differ (m ∷ ms) [] h = refl
sums_differ (m ∷ ms) (v ∷ vs) h =
    sym (ap (summand_plus m v) (sym (sums_differ ms vs (λ e. h (ap suc e)))) ∙ plus_none m v)

not_number : (v : Value) (m : Bool) (o : Option ℤ) → ((n : ℤ) → v ≡ value.Num n → ⊥)
    → summand_plus m (value_view v) o ≡ None
not_number (value.Named q) m o h = refl
not_number (value.Num z) m o h = absurd (h z refl)
not_number value.NegInf m o h = refl
not_number value.PosInf m o h = refl
not_number value.Nothing m o h = refl

sums_split : (ms : List Bool) (vs : List Denotation) (i : ℕ) → i < length ms → i < length vs
    → sum_values (drop i ms) (drop i vs)
    ≡ summand_plus (get_or ms i false) (get_or vs i undefined) (sum_values (drop (i + 1) ms) (drop (i + 1) vs))
sums_split ms vs i h k =
    ap (λ l. sum_values l (drop i vs)) (drop_more ms i false h)
    ∙ ap (sum_values (get_or ms i false ∷ drop (i + 1) ms)) (drop_more vs i undefined k)

pub sums_end : (ms : List Bool) (vs : List Denotation) (i : ℕ) (t : ℤ) (v : Value) (whole : Option ℤ) → i < length ms
    → i < length vs → get_or vs i undefined ≡ value_view v → ((n : ℤ) → v ≡ value.Num n → ⊥)
    → option_map (λ z. t +ℤ z) (sum_values (drop i ms) (drop i vs)) ≡ whole → None ≡ whole
sums_end ms vs i t v whole h k at none e =
    let rest = sum_values (drop (i + 1) ms) (drop (i + 1) vs) in
    let gone : sum_values (drop i ms) (drop i vs) ≡ None =
    sums_split ms vs i h k ∙ (ap (λ d. summand_plus (get_or ms i false) d rest) at
    ∙ not_number v (get_or ms i false) rest none) in
    ap (option_map (λ z. t +ℤ z)) (sym gone) ∙ e

added : (m : Bool) (n t u : ℤ) (rest : Option ℤ) → u ≡ t +ℤ signed_of m n
    → option_map (λ z. u +ℤ z) rest ≡ option_map (λ z. t +ℤ z) (summand_plus m (number n) rest)
added m n t u None e = refl
added m n t u (Some s) e = ap Some (omega (arith, ints))

pub sums_next : (ms : List Bool) (vs : List Denotation) (i : ℕ) (m : Bool) (n t r u : ℤ) → i < length ms → i < length vs
    → get_or ms i false ≡ m → get_or vs i undefined ≡ number n → FitsSigned w64 n
    → r ≡ signed_of m (to_z w64 (of_z w64 n)) → u ≡ t +ℤ r
    → option_map (λ z. u +ℤ z) (sum_values (drop (i + 1) ms) (drop (i + 1) vs))
    ≡ option_map (λ z. t +ℤ z) (sum_values (drop i ms) (drop i vs))
sums_next ms vs i m n t r u h k sign at fits p e =
    let rest = sum_values (drop (i + 1) ms) (drop (i + 1) vs) in
    let q : u ≡ t +ℤ signed_of m n = e ∙ ap (λ z. t +ℤ z) (simp to_z-of_z at p) in
    let split : sum_values (drop i ms) (drop i vs) ≡ summand_plus m (number n) rest =
    sums_split ms vs i h k ∙ (ap (λ s. summand_plus s (get_or vs i undefined) rest) sign
    ∙ ap (λ d. summand_plus m d rest) at) in
    added m n t u rest q ∙ ap (option_map (λ z. t +ℤ z)) (sym split)
