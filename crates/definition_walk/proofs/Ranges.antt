-- The atoms of a defined symbol stand one after another.
use Rattle.std.proofs.Common.{◌≡◌, ℕ, zero, suc, ◌+◌, ◌*◌, List, [], ◌∷◌, ◌++◌, map, filter, length, Bool, true, false}
use Rattle.std.proofs.Common.{if◌then◌else◌, Option, Some, None, refl, sym, ap, ◌∙◌, arith, inl, inr}
use Rattle.std.specs.List.{enumerate_from, flat_map}
use Rattle.std.proofs.lemmas.List.{length-map, length-append, map-append}
use Rattle.std.proofs.lemmas.List.Elements.{filter-append}
use Rattle.kb_logic.specs.declared.elements.Elem.{Elem}
use Rattle.kb_logic.specs.declared.vocabularies.Symbol.{Symbol}
use Rattle.kb_logic.specs.Trees.{DefinitionTree}
use Rattle.kb_logic.specs.Structures.{domain_at, tuples_of}
use Rattle.kb_logic.specs.Models.{GroundAtom}
use Rattle.kb_logic.specs.KnownAtoms.{atoms_with}
use Rattle.kb_logic.specs.Weights.{value_count}
use Rattle.kb_logic.proofs.Has.{Has, map_has, flat_map_has}
use Rattle.term_values.specs.GroundBases.{GroundBase, atoms_in}
use Rattle.def_ground.specs.Definitions.{is_defined}
use Rattle.definition_walk.specs.Lists.{numbers_from}
use Rattle.definition_walk.specs.WalkLaws.{ranges, DefinedAreRanges}

first-number : (k l : ℕ) → numbers_from k (suc l) ≡ k ∷ numbers_from (k + 1) l
first-number k zero = let same : k + 0 ≡ k = omega arith in ap (λ m. m ∷ []) same
first-number k (suc l) =
    let next : k + suc l ≡ (k + 1) + l = omega arith in
    ap (λ xs. xs ++ (k + suc l) ∷ []) (first-number k l) ∙ ap (λ m. k ∷ (numbers_from (k + 1) l ++ m ∷ [])) next

enumerate-append : {X : Type 0} (n : ℕ) (xs ys : List X)
    → enumerate_from n (xs ++ ys) ≡ enumerate_from n xs ++ enumerate_from (n + length xs) ys
enumerate-append n [] ys = let same : n ≡ n + 0 = omega arith in ap (λ m. enumerate_from m ys) same
enumerate-append n (x ∷ xs) ys =
    let next : (n + 1) + length xs ≡ n + suc (length xs) = omega arith in
    ap (λ zs. (n, x) ∷ zs) (enumerate-append (n + 1) xs ys)
    ∙ ap (λ m. (n, x) ∷ (enumerate_from (n + 1) xs ++ enumerate_from m ys)) next

-- the atoms of one symbol
flat-size : (f : List Elem → Elem → GroundAtom) (xs : List Elem) (ts : List (List Elem))
    → length (flat_map (λ t. map (f t) xs) ts) ≡ length ts * length xs
flat-size f xs [] = omega arith
flat-size f xs (t ∷ ts) =
    let both = length-append (map (f t) xs) (flat_map (λ u. map (f u) xs) ts) in
    let here = length-map xs (f t) in
    let rest = flat-size f xs ts in
    omega (arith, both, here, rest)

with-size : (domains : List (List Elem)) (i : ℕ) (ts : List (List Elem)) (value : Option ℕ)
    → length (atoms_with domains i ts value) ≡ length ts * value_count domains value
with-size domains i ts None =
    let e = length-map {A = List Elem} {B = GroundAtom} ts (λ t. record { symbol = i; args = t; value = None }) in
    omega (arith, e)
with-size domains i ts (Some ty) =
    flat-size (λ t x. record { symbol = i; args = t; value = Some x }) (domain_at domains ty) ts

with-symbol : (domains : List (List Elem)) (i : ℕ) (ts : List (List Elem)) (ty : Option ℕ) (a : GroundAtom)
    → Has (atoms_with domains i ts ty) a → a.symbol ≡ i
with-symbol domains i ts None a m = let r = map_has _ ts a m in ap (λ (c : GroundAtom). c.symbol) (sym r.2)
with-symbol domains i ts (Some ty) a m =
    let r = flat_map_has (λ t. map (λ y. record { symbol = i; args = t; value = Some y }) (domain_at domains ty)) ts a m
    in
    let q = map_has _ (domain_at domains ty) a r.2 in
    ap (λ (c : GroundAtom). c.symbol) (sym q.2)

module _ (d : DefinitionTree) where
  abbrev picked : List (ℕ × GroundAtom) → List ℕ
  picked xs =
      map (λ (x : ℕ × GroundAtom). x.0) (filter (λ (x : ℕ × GroundAtom). is_defined d x.1.symbol) xs)

  picked-append : (xs ys : List (ℕ × GroundAtom)) → picked (xs ++ ys) ≡ picked xs ++ picked ys
  picked-append xs ys =
      let test = λ (x : ℕ × GroundAtom). is_defined d x.1.symbol in
      ap (map (λ (x : ℕ × GroundAtom). x.0)) (filter-append test xs ys)
      ∙ map-append (λ (x : ℕ × GroundAtom). x.0) (filter test xs) (filter test ys)

  abbrev no-number : List ℕ
  no-number = []

  nothing : (t : Bool) → no-number ≡ (if t then no-number else no-number)
  nothing true = refl
  nothing false = refl

  one-more : (t : Bool) (k l : ℕ) (a : GroundAtom) (rest : List (ℕ × GroundAtom))
      → map (λ (x : ℕ × GroundAtom). x.0) rest ≡ (if t then numbers_from (k + 1) l else [])
      → map (λ (x : ℕ × GroundAtom). x.0) (if t then (k, a) ∷ rest else rest) ≡
      (if t then numbers_from k (suc l) else [])
  one-more true k l a rest e = ap (λ xs. k ∷ xs) e ∙ sym (first-number k l)
  one-more false k l a rest e = e

  one-symbol : (s k : ℕ) (xs : List GroundAtom) → ((a : GroundAtom) → Has xs a → a.symbol ≡ s)
      → picked (enumerate_from k xs) ≡ (if is_defined d s then numbers_from k (length xs) else [])
  one-symbol s k [] same = nothing (is_defined d s)
  one-symbol s k (x ∷ xs) same =
      let rest = filter (λ (y : ℕ × GroundAtom). is_defined d y.1.symbol) (enumerate_from (k + 1) xs) in
      ap (λ n. map (λ (y : ℕ × GroundAtom). y.0) (if is_defined d n then (k, x) ∷ rest else rest))
      (same x (inl refl))
      ∙ one-more (is_defined d s) k (length xs) x rest (one-symbol s (k + 1) xs (λ a m. same a (inr m)))

  module _ (b : GroundBase) where
    abbrev parts : ℕ × Symbol → List GroundAtom
    parts s = atoms_with b.domains s.0 (tuples_of b.domains s.1.args) s.1.value

    each-symbol : (k n : ℕ) (ss : List Symbol)
        → picked (enumerate_from k (flat_map parts (enumerate_from n ss))) ≡ ranges b d k n ss
    each-symbol k n [] = refl
    each-symbol k n (s ∷ ss) =
        let part = parts (n, s) in
        let more = flat_map parts (enumerate_from (n + 1) ss) in
        let size = with-size b.domains n (tuples_of b.domains s.args) s.value in
        ap picked (enumerate-append k part more)
        ∙ picked-append (enumerate_from k part) (enumerate_from (k + length part) more)
        ∙ ap (λ xs. xs ++ picked (enumerate_from (k + length part) more))
        (one-symbol n k part (with-symbol b.domains n (tuples_of b.domains s.args) s.value))
        ∙ ap (λ m. (if is_defined d n then numbers_from k m else []) ++ picked (enumerate_from (k + m) more)) size
        ∙ ap (λ xs. (if is_defined d n then numbers_from k (atoms_in b.domains s) else []) ++ xs)
        (each-symbol (k + atoms_in b.domains s) (n + 1) ss)

pub defined-are-ranges : DefinedAreRanges
defined-are-ranges b d = each-symbol d b 1 0 b.vocabulary.symbols
