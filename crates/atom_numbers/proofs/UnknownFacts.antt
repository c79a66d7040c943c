-- What is known of the atoms symbol by symbol, and the literals of the unknown ones.
use Rattle.std.proofs.Common.{◌≡◌, ◌<◌, ℕ, suc, ◌+◌, List, [], ◌∷◌, ◌++◌, map, length, take, get_or, filter, Bool, true}
use Rattle.std.proofs.Common.{false, if◌then◌else◌, Option, Some, None, slice_get, refl, sym, ap, ◌∙◌, subst, arith}
use Rattle.std.proofs.Common.{◌⊎◌, ◌≤◌, inl, inr}
use Rattle.std.specs.List.{flat_map, enumerate_from}
use Rattle.std.specs.Option.{option_map_or}
use Rattle.std.proofs.lemmas.List.{append-nil, map-append, take_more, length-take-le}
use Rattle.std.proofs.lemmas.List.Concat.{flat_map-append}
use Rattle.std.proofs.lemmas.Option.{slice_get_cases}
use Rattle.kb_logic.specs.declared.vocabularies.Symbol.{Symbol}
use Rattle.kb_logic.specs.declared.vocabularies.Vocabulary.{Vocabulary}
use Rattle.kb_logic.specs.Structures.{EachWith, tuples_of}
use Rattle.kb_logic.specs.Models.{GroundAtom}
use Rattle.kb_logic.specs.KnownAtoms.{KnownAtoms, atoms_with, atoms_over}
use Rattle.kb_logic.specs.InForce.{literal_with}
use Rattle.lit_core.specs.declared.literals.Lit.{Lit}
use Rattle.partial_structures.specs.KnownAtoms.{atoms_of, value_at}
use Rattle.partial_structures.specs.declared.truths.Truth.{Truth}
use Rattle.term_values.specs.Rows.{positive_lit}
use Rattle.term_values.specs.GroundBases.{GroundBase}
use Rattle.atom_numbers.specs.Numbers.{HasNumber, bare_base}
use Rattle.atom_numbers.specs.Unknown.{is_unknown, unknown_atoms, open_from, AreOpen}

abbrev part : KnownAtoms → ℕ × Symbol → List GroundAtom
part k s = atoms_with k.domains s.0 (tuples_of k.domains s.1.args) s.1.value

enumerate-push : (n : ℕ) (xs : List Symbol) (x : Symbol)
    → enumerate_from n (xs ++ x ∷ []) ≡ enumerate_from n xs ++ (n + length xs, x) ∷ []
enumerate-push n [] x = let none : n ≡ n + length {A = Symbol} [] = omega arith in
    ap {A = ℕ} {B = List (ℕ × Symbol)} (λ m. (m, x) ∷ []) none
enumerate-push n (y ∷ xs) x =
    let same : n + 1 + length xs ≡ n + length (y ∷ xs) = omega arith in
    ap {A = List (ℕ × Symbol)} {B = List (ℕ × Symbol)} (λ l. (n, y) ∷ l)
    (enumerate-push (n + 1) xs x
    ∙ ap {A = ℕ} {B = List (ℕ × Symbol)} (λ m. enumerate_from (n + 1) xs ++ (m, x) ∷ []) same)

-- the atoms of one symbol more
atoms-more : (k : KnownAtoms) (i : ℕ) → i < length k.symbols
    → atoms_over (take (i + 1) k.symbols) k.domains ≡ atoms_over (take i k.symbols) k.domains ++ atoms_of k i
atoms-more k i lt = at (slice_get_cases k.symbols i).1
  where
    at : ((d : Symbol) × (i < length k.symbols) × (slice_get k.symbols i ≡ Some d) × (get_or k.symbols i d ≡ d))
        ⊎ ((length k.symbols ≤ i) × (slice_get k.symbols i ≡ None))
        → atoms_over (take (i + 1) k.symbols) k.domains ≡ atoms_over (take i k.symbols) k.domains ++ atoms_of k i
    at (inl c) =
        let d : Symbol = c.0 in
        let before = atoms_over (take i k.symbols) k.domains in
        let size = length-take-le i k.symbols (omega (arith, lt)) in
        let number : 0 + length (take i k.symbols) ≡ i = omega (arith, size) in
        let mine : part k (i, d) ≡ atoms_of k i = sym (ap (λ (o : Option Symbol). option_map_or
        (λ (x : Symbol). atoms_with k.domains i (tuples_of k.domains x.args) x.value) o []) c.2) in
        ap (λ (xs : List Symbol). flat_map (part k) (enumerate_from 0 xs)) (take_more k.symbols i d lt
        ∙ ap (λ (x : Symbol). take i k.symbols ++ x ∷ []) c.3)
        ∙ ap (flat_map (part k)) (enumerate-push 0 (take i k.symbols) d)
        ∙ flat_map-append (part k) (enumerate_from 0 (take i k.symbols)) ((0 + length (take i k.symbols), d) ∷ [])
        ∙ ap (λ l. before ++ l) (append-nil (part k (0 + length (take i k.symbols), d))
        ∙ ap (λ n. part k (n, d)) number ∙ mine)
    at (inr c) = absurd (omega (arith, lt, c.0))

pub truths-more : (k : KnownAtoms) (i : ℕ) (now next : List Truth) → i < length k.symbols
    → now ≡ map (value_at k) (atoms_over (take i k.symbols) k.domains)
    → next ≡ now ++ map (value_at k) (atoms_of k i)
    → next ≡ map (value_at k) (atoms_over (take (i + 1) k.symbols) k.domains)
truths-more k i now next lt before e =
    e ∙ ap (λ l. l ++ map (value_at k) (atoms_of k i)) before
    ∙ sym (map-append (value_at k) (atoms_over (take i k.symbols) k.domains) (atoms_of k i))
    ∙ ap (map (value_at k)) (sym (atoms-more k i lt))

-- the literal where it is wanted
abbrev one_if : Bool → ℕ → List Lit
one_if c n = if c then positive_lit n ∷ [] else []

if-push : (c : Bool) (l : Lit) (xs ys : List Lit) → (if c then l ∷ (xs ++ ys) else (xs ++ ys))
    ≡ (if c then l ∷ xs else xs) ++ ys
if-push true l xs ys = refl
if-push false l xs ys = refl

open-push : (n m : ℕ) (ts : List Truth) (t : Truth) → m ≡ n + length ts
    → open_from n (ts ++ t ∷ []) ≡ open_from n ts ++ one_if (is_unknown t) m
open-push n m [] t at = let same : n ≡ m = omega (arith, at) in ap (one_if (is_unknown t)) same
open-push n m (u ∷ ts) t at =
    ap (λ (xs : List Lit). if is_unknown u then positive_lit n ∷ xs else xs)
    (open-push (n + 1) m ts t (omega (arith, at)))
    ∙ if-push (is_unknown u) (positive_lit n) (open_from (n + 1) ts) (one_if (is_unknown t) m)

module _ (truths : List Truth) (k : ℕ) (d : Truth) (lt : k < length truths) where
  abbrev t : Truth
  t = get_or truths k d

  next-open : open_from 1 (take (k + 1) truths) ≡ open_from 1 (take k truths) ++ one_if (is_unknown t) (k + 1)
  next-open =
      let size = length-take-le k truths (omega (arith, lt)) in
      ap (open_from 1) (take_more truths k d lt)
      ∙ open-push 1 (k + 1) (take k truths) t (omega (arith, size))

  pub open-more : (old new : List Lit) → is_unknown t ≡ true → old ≡ open_from 1 (take k truths)
      → new ≡ old ++ positive_lit (k + 1) ∷ [] → new ≡ open_from 1 (take (k + 1) truths)
  open-more old new unknown before e =
      e ∙ ap (λ (ls : List Lit). ls ++ positive_lit (k + 1) ∷ []) before
      ∙ sym (next-open ∙ ap (λ c. open_from 1 (take k truths) ++ one_if c (k + 1)) unknown)

  pub open-same : (old : List Lit) → is_unknown t ≡ false → old ≡ open_from 1 (take k truths)
      → old ≡ open_from 1 (take (k + 1) truths)
  open-same old known before =
      before ∙ sym (next-open ∙ ap (λ c. open_from 1 (take k truths) ++ one_if c (k + 1)) known
      ∙ append-nil (open_from 1 (take k truths)))

module _ (b : GroundBase) (k : KnownAtoms) where
  abbrev unknown-in : List GroundAtom → List GroundAtom
  unknown-in gs = filter (λ a. is_unknown (value_at k a)) gs

  one-more : (c : Bool) (a : GroundAtom) (n : ℕ) (gs : List GroundAtom) (lits : List Lit)
      → HasNumber b (literal_with true a) (positive_lit n)
      → EachWith (HasNumber b) (map (literal_with true) gs) lits
      → EachWith (HasNumber b) (map (literal_with true) (if c then a ∷ gs else gs))
      (if c then positive_lit n ∷ lits else lits)
  one-more true a n gs lits number rest = (number, rest)
  one-more false a n gs lits number rest = rest

  pub open-numbers : (gs : List GroundAtom) (n m : ℕ) → m ≡ suc n
      → ((j : ℕ) (a : GroundAtom) → slice_get gs j ≡ Some a
      → slice_get (atoms_over b.vocabulary.symbols b.domains) (n + j) ≡ Some a)
      → EachWith (HasNumber b) (map (literal_with true) (unknown-in gs)) (open_from m (map (value_at k) gs))
  open-numbers [] n m is h = tt
  open-numbers (a ∷ gs) n m is h =
      let first : n + 0 ≡ n = omega arith in
      one-more (is_unknown (value_at k a)) a m (unknown-in gs) (open_from (m + 1) (map (value_at k) gs))
      (record {
        place = n;
        atom = subst (λ i. slice_get (atoms_over b.vocabulary.symbols b.domains) i ≡ Some a) first (h 0 a refl);
        var = is;
        sign = refl;
      })
      (open-numbers gs (n + 1) (m + 1) (omega (arith, is)) (λ j c at.
      subst (λ i. slice_get (atoms_over b.vocabulary.symbols b.domains) i ≡ Some c)
      (let same : n + suc j ≡ n + 1 + j = omega arith in same) (h (suc j) c at)))

pub open-are : (k : KnownAtoms) (lits : List Lit)
    → lits ≡ open_from 1 (map (value_at k) (atoms_over k.symbols k.domains))
    → (v : Vocabulary) → v.symbols ≡ k.symbols → AreOpen (bare_base v k.domains) k lits
open-are k lits is v same =
    let all = open-numbers (bare_base v k.domains) k (atoms_over k.symbols k.domains) 0 1 (omega arith)
    (λ j a at. let here : j ≡ 0 + j = omega arith in
    ap (λ (ss : List Symbol). slice_get (atoms_over ss k.domains) (0 + j)) same
    ∙ subst (λ i. slice_get (atoms_over k.symbols k.domains) i ≡ Some a) here at) in
    subst (EachWith (HasNumber (bare_base v k.domains)) (map (literal_with true) (unknown_atoms k))) (sym is) all
