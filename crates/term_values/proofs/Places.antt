-- Which variable a ground atom has.
use Rattle.std.proofs.Common.{◌≡◌, ℕ, zero, suc, ◌+◌, ◌*◌, List, [], ◌∷◌, map, length, ◌⊎◌, inl, inr}
use Rattle.std.proofs.Common.{Option, Some, None, option_map, slice_get, refl, sym, ap, ◌∙◌, arith}
use Rattle.std.specs.List.{enumerate_from, sum_by}
use Rattle.std.proofs.lemmas.List.{length-map}
use Rattle.std.proofs.Math.Seq.{take-length}
use Rattle.std.proofs.lemmas.List.Concat.{length-flat_map}
use Rattle.std.proofs.lemmas.List.Sums.{sum_by-cons}
use Rattle.std.proofs.lemmas.Option.{slice_get_within, slice_get-map}
use Rattle.kb_logic.specs.declared.elements.Elem.{Elem}
use Rattle.kb_logic.specs.declared.vocabularies.Symbol.{Symbol}
use Rattle.kb_logic.specs.Structures.{domain_at, tuples_of}
use Rattle.kb_logic.specs.Models.{GroundAtom}
use Rattle.kb_logic.specs.KnownAtoms.{atoms_with, atoms_over}
use Rattle.kb_logic.specs.Weights.{value_count}
use Rattle.term_values.specs.GroundBases.{GroundBase, atoms_in, first_var}
use Rattle.term_values.proofs.Offsets.{offset, offset-sum, offset-even, offset-numbered, part-at, part-of}
use Rattle.term_values.proofs.Offsets.{numbered-item, item-numbered, some-same}

abbrev pub plain-atom : ℕ → List Elem → GroundAtom
plain-atom s t = record { symbol = s; args = t; value = None }

abbrev pub valued-atom : ℕ → List Elem → Elem → GroundAtom
valued-atom s t x = record { symbol = s; args = t; value = Some x }

-- the variable n is that of the predicate s at the tuple t, the i-th one
pub record PredicateVar (b : GroundBase) (n : ℕ) (a : GroundAtom) : Type 0 where
  pub s : ℕ
  pub d : Symbol
  pub i : ℕ
  pub t : List Elem
  pub declared : slice_get b.vocabulary.symbols s ≡ Some d
  pub plain : d.value ≡ None
  pub tuple : slice_get (tuples_of b.domains d.args) i ≡ Some t
  pub number : n ≡ first_var b s + i
  pub atom : a ≡ plain-atom s t

-- the variable n is that of the function s at the tuple t, the i-th one, with the value x, the j-th one
pub record FunctionVar (b : GroundBase) (n : ℕ) (a : GroundAtom) : Type 0 where
  pub s : ℕ
  pub d : Symbol
  pub ty : ℕ
  pub i : ℕ
  pub t : List Elem
  pub j : ℕ
  pub x : Elem
  pub declared : slice_get b.vocabulary.symbols s ≡ Some d
  pub valued : d.value ≡ Some ty
  pub tuple : slice_get (tuples_of b.domains d.args) i ≡ Some t
  pub value : slice_get (domain_at b.domains ty) j ≡ Some x
  pub number : n ≡ first_var b s + i * length (domain_at b.domains ty) + j
  pub atom : a ≡ valued-atom s t x

abbrev atoms : GroundBase → List GroundAtom
atoms b = atoms_over b.vocabulary.symbols b.domains

-- the atoms of one symbol
module _ (domains : List (List Elem)) (s : ℕ) where
  abbrev valued-atoms : ℕ → List Elem → List GroundAtom
  valued-atoms ty t = map (valued-atom s t) (domain_at domains ty)

  valued-size : (ty : ℕ) (t : List Elem) → length (valued-atoms ty t) ≡ length (domain_at domains ty)
  valued-size ty t = length-map (domain_at domains ty) (valued-atom s t)

  with-size : (ts : List (List Elem)) (value : Option ℕ)
      → length (atoms_with domains s ts value) ≡ length ts * value_count domains value
  with-size ts None = let e = length-map ts (plain-atom s) in omega (arith, e)
  with-size ts (Some ty) =
      length-flat_map (valued-atoms ty) ts
      ∙ ap (sum_by (λ t. length (valued-atoms ty t))) (sym (take-length ts))
      ∙ sym (offset-sum (λ t. length (valued-atoms ty t)) ts (length ts))
      ∙ offset-even (λ t. length (valued-atoms ty t)) (length (domain_at domains ty)) (valued-size ty) ts (length ts)
      (omega arith)

  plain-at : (ts : List (List Elem)) (i : ℕ) (t : List Elem) → slice_get ts i ≡ Some t
      → slice_get (map (plain-atom s) ts) i ≡ Some (plain-atom s t)
  plain-at ts i t h = slice_get-map (plain-atom s) ts i ∙ ap (option_map (plain-atom s)) h

  valued-at : (ts : List (List Elem)) (ty i j : ℕ) (t : List Elem) (x : Elem) → slice_get ts i ≡ Some t
      → slice_get (domain_at domains ty) j ≡ Some x
      → slice_get (atoms_with domains s ts (Some ty)) (i * length (domain_at domains ty) + j) ≡ Some (valued-atom s t x)
  valued-at ts ty i j t x h k =
      let n = length (domain_at domains ty) in
      let inside = slice_get_within (domain_at domains ty) j x k in
      let within = slice_get_within ts i t h in
      let size = valued-size ty t in
      let before = offset-even (λ t. length (valued-atoms ty t)) n (valued-size ty) ts i (omega (arith, within)) in
      part-at (valued-atoms ty) ts i j (i * n + j) t h (omega (arith, inside, size)) (omega (arith, before))
      ∙ slice_get-map (valued-atom s t) (domain_at domains ty) j ∙ ap (option_map (valued-atom s t)) k

  mapped-at : {X : Type 0} (f : X → GroundAtom) (xs : List X) (i : ℕ) (a : GroundAtom)
      → slice_get (map f xs) i ≡ Some a → (x : X) × (slice_get xs i ≡ Some x) × (a ≡ f x)
  mapped-at f [] i a h = cc
  mapped-at f (x ∷ xs) zero a h = (x, refl, sym (some-same (f x) a h))
  mapped-at f (x ∷ xs) (suc i) a h = mapped-at f xs i a h

  abbrev IsPlainAt : List (List Elem) → Option ℕ → ℕ → GroundAtom → Type 0
  IsPlainAt ts value j a = (value ≡ None) × ((t : List Elem) × (slice_get ts j ≡ Some t) × (a ≡ plain-atom s t))

  abbrev IsValuedAt : List (List Elem) → Option ℕ → ℕ → GroundAtom → Type 0
  IsValuedAt ts value k a =
      (ty : ℕ) × (i : ℕ) × (t : List Elem) × (j : ℕ) × (x : Elem) × (value ≡ Some ty) × (slice_get ts i ≡ Some t)
      × (slice_get (domain_at domains ty) j ≡ Some x)
      × (k ≡ i * length (domain_at domains ty) + j) × (a ≡ valued-atom s t x)

  with-at : (ts : List (List Elem)) (value : Option ℕ) (k : ℕ) (a : GroundAtom)
      → slice_get (atoms_with domains s ts value) k ≡ Some a → IsPlainAt ts value k a ⊎ IsValuedAt ts value k a
  with-at ts None k a h = inl (refl, mapped-at (plain-atom s) ts k a h)
  with-at ts (Some ty) k a h =
      let n = length (domain_at domains ty) in
      let r = part-of (valued-atoms ty) ts k a h in
      let m = mapped-at (valued-atom s r.1) (domain_at domains ty) r.2 a r.4 in
      let within = slice_get_within ts r.0 r.1 r.3 in
      let before = offset-even (λ t. length (valued-atoms ty t)) n (valued-size ty) ts r.0 (omega (arith, within)) in
      let at = r.5 in
      inr (ty, r.0, r.1, r.2, m.0, refl, r.3, m.1, omega (arith, before, at), m.2)

module _ (b : GroundBase) where
  abbrev parts : ℕ × Symbol → List GroundAtom
  parts s = atoms_with b.domains s.0 (tuples_of b.domains s.1.args) s.1.value

  before-symbol : (s : ℕ) → 1 + offset (λ p. length (parts p)) (enumerate_from 0 b.vocabulary.symbols) s ≡ first_var b s
  before-symbol s =
      ap (λ n. 1 + n)
      (offset-numbered (λ p. length (parts p)) (atoms_in b.domains)
      (λ p. with-size b.domains p.0 (tuples_of b.domains p.1.args) p.1.value) 0 b.vocabulary.symbols s
      ∙ offset-sum (atoms_in b.domains) b.vocabulary.symbols s)

  symbol-part : (s k : ℕ) (d : Symbol) (a : GroundAtom) → slice_get b.vocabulary.symbols s ≡ Some d
      → slice_get (atoms_with b.domains s (tuples_of b.domains d.args) d.value) k ≡ Some a
      → (n : ℕ) × (first_var b s + k ≡ suc n) × (slice_get (atoms b) n ≡ Some a)
  symbol-part s k d a at h =
      let n = offset (λ p. length (parts p)) (enumerate_from 0 b.vocabulary.symbols) s + k in
      let first = before-symbol s in
      let zero-on : 0 + s ≡ s = omega arith in
      let item : slice_get (enumerate_from 0 b.vocabulary.symbols) s ≡ Some
      (s, d) = numbered-item b.vocabulary.symbols 0 s d at ∙ ap (λ m. Some (m, d)) zero-on in
      let inside = slice_get_within (parts (s, d)) k a h in
      (n, omega (arith, first), part-at parts (enumerate_from 0 b.vocabulary.symbols) s k n (s, d) item inside refl ∙ h)

  -- each place has the variable of its atom
  pub predicate-variable : (s i : ℕ) (d : Symbol) (t : List Elem) → slice_get b.vocabulary.symbols s ≡ Some d
      → d.value ≡ None → slice_get (tuples_of b.domains d.args) i ≡ Some t
      → (n : ℕ) × (first_var b s + i ≡ suc n) × (slice_get (atoms b) n ≡ Some (plain-atom s t))
  predicate-variable s i d t at none tuple =
      symbol-part s i d (plain-atom s t) at
      (ap (λ o. slice_get (atoms_with b.domains s (tuples_of b.domains d.args) o) i) none
      ∙ plain-at b.domains s (tuples_of b.domains d.args) i t tuple)

  pub function-variable : (s i j ty : ℕ) (d : Symbol) (t : List Elem) (x : Elem)
      → slice_get b.vocabulary.symbols s ≡ Some d → d.value ≡ Some ty
      → slice_get (tuples_of b.domains d.args) i ≡ Some t → slice_get (domain_at b.domains ty) j ≡ Some x
      → (n : ℕ) × (first_var b s + i * length (domain_at b.domains ty) + j ≡ suc n)
      × (slice_get (atoms b) n ≡ Some (valued-atom s t x))
  function-variable s i j ty d t x at some tuple value =
      let k = i * length (domain_at b.domains ty) + j in
      let r = symbol-part s k d (valued-atom s t x) at
      (ap (λ o. slice_get (atoms_with b.domains s (tuples_of b.domains d.args) o) k) some
      ∙ valued-at b.domains s (tuples_of b.domains d.args) ty i j t x tuple value) in
      let e = r.1 in
      (r.0, omega (arith, e), r.2)

  -- and each variable is that of one place
  pub variable-of : (n : ℕ) (a : GroundAtom) → slice_get (atoms b) n ≡ Some a
      → PredicateVar b (suc n) a ⊎ FunctionVar b (suc n) a
  variable-of n a h =
      let r = part-of parts (enumerate_from 0 b.vocabulary.symbols) n a h in
      let p = item-numbered b.vocabulary.symbols 0 r.0 r.1 r.3 in
      let number = p.0 in
      let s : ℕ = r.1.0 in
      let same : r.0 ≡ s = omega (arith, number) in
      let declared : slice_get b.vocabulary.symbols s ≡ Some r.1.1 = sym (ap (slice_get b.vocabulary.symbols) same)
      ∙ p.1 in
      let first = before-symbol s in
      let before : n ≡ offset (λ q. length (parts q)) (enumerate_from 0 b.vocabulary.symbols) s + r.2 = r.5
      ∙ ap (λ k. offset (λ q. length (parts q)) (enumerate_from 0 b.vocabulary.symbols) k + r.2) same in
      elim (with-at b.domains s (tuples_of b.domains r.1.1.args) r.1.1.value r.2 a r.4) [
        | inl q ↦ inl (record {
          s = s;
          d = r.1.1;
          i = r.2;
          t = q.1.0;
          declared = declared;
          plain = q.0;
          tuple = q.1.1;
          number = omega (arith, first, before);
          atom = q.1.2;
        })
        | inr q ↦ inr (record {
          s = s;
          d = r.1.1;
          ty = q.0;
          i = q.1;
          t = q.2;
          j = q.3;
          x = q.4;
          declared = declared;
          valued = q.5;
          tuple = q.6;
          value = q.7;
          number = (let inner = q.8 in omega (arith, first, before, inner));
          atom = q.9;
        })
      ]

sum-numbered : (f : ℕ × Symbol → ℕ) (g : Symbol → ℕ) → ((p : ℕ × Symbol) → f p ≡ g p.1) → (n : ℕ) (xs : List Symbol)
    → sum_by f (enumerate_from n xs) ≡ sum_by g xs
sum-numbered f g is n [] = refl
sum-numbered f g is n (x ∷ xs) =
    let left = sum_by-cons f (n, x) (enumerate_from (n + 1) xs) in
    let right = sum_by-cons g x xs in
    let here = is (n, x) in
    let rest = sum-numbered f g is (n + 1) xs in
    omega (arith, left, right, here, rest)

-- how many ground atoms there are
pub atoms-count : (b : GroundBase)
    → length (atoms_over b.vocabulary.symbols b.domains) ≡ sum_by (atoms_in b.domains) b.vocabulary.symbols
atoms-count b =
    length-flat_map (parts b) (enumerate_from 0 b.vocabulary.symbols)
    ∙ sum-numbered (λ p. length (parts b p)) (atoms_in b.domains)
    (λ p. with-size b.domains p.0 (tuples_of b.domains p.1.args) p.1.value) 0 b.vocabulary.symbols
