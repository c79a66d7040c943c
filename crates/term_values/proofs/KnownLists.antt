-- What is known of the atoms of symbols, one symbol after another.
use Rattle.std.proofs.Common.{◌≡◌, ◌<◌, ℕ, zero, suc, ◌+◌, List, [], ◌∷◌, ◌++◌, map, length, take, Option, Some}
use Rattle.std.proofs.Common.{None}
use Rattle.std.proofs.Common.{refl, sym, ap, ◌∙◌, arith, slice_get, Bool}
use Rattle.std.specs.List.{flat_map, enumerate_from}
use Rattle.std.specs.Option.{option_map_or}
use Rattle.std.proofs.lemmas.List.{append-nil, map-append}
use Rattle.std.proofs.lemmas.List.Concat.{flat_map-append}
use Rattle.kb_logic.specs.declared.elements.Elem.{Elem}
use Rattle.kb_logic.specs.declared.vocabularies.Symbol.{Symbol}
use Rattle.kb_logic.specs.Structures.{tuples_of}
use Rattle.kb_logic.specs.Models.{GroundAtom}
use Rattle.kb_logic.specs.KnownAtoms.{KnownAtoms, atoms_with, atoms_over}
use Rattle.partial_structures.specs.KnownAtoms.{atoms_of, value_at}
use Rattle.term_values.specs.KnownBases.{known_truth}

abbrev parts : List (List Elem) → ℕ × Symbol → List GroundAtom
parts domains s = atoms_with domains s.0 (tuples_of domains s.1.args) s.1.value

enumerate_next : {X : Type 0} (xs : List X) (n i : ℕ) (x : X) → slice_get xs i ≡ Some x
    → enumerate_from n (take (suc i) xs) ≡ enumerate_from n (take i xs) ++ (n + i, x) ∷ []
enumerate_next [] n i x at = cc
enumerate_next {X = X} (y ∷ xs) n zero x at =
    let z : n + 0 ≡ n = omega arith in
    let is : y ≡ x = cc in
    ap {A = ℕ} {B = List (ℕ × X)} (λ k. (k, y) ∷ []) (sym z) ∙ ap {A = X} {B = List (ℕ × X)} (λ w. (n + 0, w) ∷ []) is
enumerate_next {X = X} (y ∷ xs) n (suc i) x at =
    let z : n + 1 + i ≡ n + suc i = omega arith in
    ap {A = List (ℕ × X)} {B = List (ℕ × X)} (λ l. (n, y) ∷ l)
    (enumerate_next xs (n + 1) i x at
    ∙ ap {A = ℕ} {B = List (ℕ × X)} (λ k. enumerate_from (n + 1) (take i xs) ++ (k, x) ∷ []) z)

enumerate_more : {X : Type 0} (xs : List X) (n i : ℕ) (x : X) → slice_get xs i ≡ Some x
    → enumerate_from n (take (i + 1) xs) ≡ enumerate_from n (take i xs) ++ (n + i, x) ∷ []
enumerate_more xs n i x at =
    let one : i + 1 ≡ suc i = omega arith in
    ap (λ k. enumerate_from n (take k xs)) one ∙ enumerate_next xs n i x at

get-below : {X : Type 0} (xs : List X) (i : ℕ) → i < length xs → slice_get xs i ≡ None → ⊥
get-below [] i h at = absurd (omega (arith, h))
get-below (x ∷ xs) zero h at = cc
get-below (x ∷ xs) (suc i) h at = get-below xs i (omega (arith, h)) at

-- one symbol more
pub values_more : (k : KnownAtoms) (i : ℕ) (now next : List (Option Bool)) → i < length k.symbols
    → now ≡ map (λ a. known_truth (value_at k a)) (atoms_over (take i k.symbols) k.domains)
    → next ≡ now ++ map (λ a. known_truth (value_at k a)) (atoms_of k i)
    → next ≡ map (λ a. known_truth (value_at k a)) (atoms_over (take (i + 1) k.symbols) k.domains)
values_more k i now next below e f = by (slice_get k.symbols i) refl
  where
    by : (o : Option Symbol) → slice_get k.symbols i ≡ o
        → next ≡ map (λ a. known_truth (value_at k a)) (atoms_over (take (i + 1) k.symbols) k.domains)
    by None at = absurd (get-below k.symbols i below at)
    by (Some d) at =
        let before = atoms_over (take i k.symbols) k.domains in
        let here = parts k.domains (i, d) in
        let mine : atoms_of k i ≡ here = ap (λ (o : Option Symbol). option_map_or
        (λ (x : Symbol). atoms_with k.domains i (tuples_of k.domains x.args) x.value) o []) at in
        let index : 0 + i ≡ i = omega arith in
        let all : atoms_over (take (i + 1) k.symbols) k.domains ≡ before ++ here =
        ap (flat_map (parts k.domains)) (enumerate_more k.symbols 0 i d at)
        ∙ flat_map-append (parts k.domains) (enumerate_from 0 (take i k.symbols)) ((0 + i, d) ∷ [])
        ∙ ap (λ l. before ++ l) (append-nil (parts k.domains (0 + i, d)) ∙ ap (λ n. parts k.domains (n, d)) index) in
        f ∙ ap (λ l. now ++ map (λ a. known_truth (value_at k a)) l) mine
        ∙ ap (λ l. l ++ map (λ a. known_truth (value_at k a)) here) e
        ∙ sym (map-append (λ a. known_truth (value_at k a)) before here)
        ∙ ap (map (λ a. known_truth (value_at k a))) (sym all)
