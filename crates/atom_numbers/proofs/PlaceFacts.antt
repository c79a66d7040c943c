-- Places of tuples, whose elements are digits, and of atoms.
use Rattle.std.proofs.Common.{◌≡◌, ℕ, zero, suc, ◌+◌, ◌*◌, ◌/◌, ◌%◌, ◌^◌, ◌<◌, ◌≤◌, Option, Some, None, List, []}
use Rattle.std.proofs.Common.{◌∷◌, ◌++◌, map}
use Rattle.std.proofs.Common.{option_map, length, drop, take, get_or, slice_get, Contains, refl, sym, ap, ◌∙◌, subst}
use Rattle.std.proofs.Common.{arith, inl, inr, ⊎_elim, length-drop}
use Rattle.std.specs.List.{sum_by}
use Rattle.std.proofs.lemmas.List.{at_drop_more, at_drop_all, length-map, append_assoc}
use Rattle.std.proofs.lemmas.List.Sums.{sum_by_more_le, sum_by_more}
use Rattle.std.proofs.Math.Seq.{take-length}
use Rattle.std.proofs.lemmas.Nat.{mul-le, div-mul-add, div_below, mod_below, div-add-mod'}
use Rattle.std.proofs.lemmas.Option.{slice_get_within, slice_get-map, slice_get-get_or, get_or_from_slice_get}
use Rattle.kb_logic.specs.declared.elements.Elem.{Elem}
use Rattle.kb_logic.specs.declared.vocabularies.Symbol.{Symbol}
use Rattle.kb_logic.specs.declared.structures.Literal.{Literal}
use Rattle.kb_logic.specs.Structures.{domain_at, tuples_of}
use Rattle.kb_logic.specs.Models.{GroundAtom, HasValueIn, atom_of}
use Rattle.kb_logic.specs.KnownAtoms.{atoms_over}
use Rattle.kb_logic.specs.Weights.{value_count}
use Rattle.kb_logic.proofs.Has.{Has, has_from, contains_from, flat_map_has, map_has}
use Rattle.kb_logic.proofs.TupleCounts.{length-tuples_over}
use Rattle.term_values.specs.GroundBases.{GroundBase, atoms_in, first_var}
use Rattle.term_values.proofs.Offsets.{part-at, offset-even}
use Rattle.term_values.proofs.Chosen.{has-index}
use Rattle.term_values.proofs.Places.{predicate-variable, function-variable, atoms-count}
use Rattle.atom_numbers.specs.Numbers.{IsPlaceIn, first_of, AreNumbered}

pub next-count : (domains : List (List Elem)) (types : List ℕ) (i count product n : ℕ) → i < length types
    → count * length (tuples_of domains (drop i types)) ≡ n → product ≡ count * length
    (domain_at domains (get_or types i 0)) → product * length (tuples_of domains (drop (i + 1) types)) ≡ n
next-count domains types i count product n lt all is =
    let more : ℕ = length (tuples_of domains (drop (i + 1) types)) in
    let size : ℕ = length (domain_at domains (get_or types i 0)) in
    let split : length (tuples_of domains (drop i types)) ≡ size * more =
    at_drop_more (λ ts. length (tuples_of domains ts)) types i 0 lt
    ∙ length-tuples_over (tuples_of domains (drop (i + 1) types)) (domain_at domains (get_or types i 0)) in
    ap (λ c. c * more) is ∙ assoc count size more ∙ ap (λ m. count * m) (sym split) ∙ all
  where
    assoc : (a b c : ℕ) → a * b * c ≡ a * (b * c)
    assoc a b c = omega arith

pub end-count : (domains : List (List Elem)) (types : List ℕ) (i count n : ℕ) → length types ≤ i
    → count * length (tuples_of domains (drop i types)) ≡ n → count ≡ n
end-count domains types i count n le all =
    let one : length (tuples_of domains (drop i types)) ≡ 1 = at_drop_all (λ ts. length (tuples_of domains ts))
    types i le in
    let whole : count ≡ count * 1 = omega arith in
    whole ∙ ap (λ m. count * m) (sym one) ∙ all

-- the tuple with this element before it
tuple-at : (domains : List (List Elem)) (ty : ℕ) (tys : List ℕ) (p i : ℕ) (x : Elem) (xs : List Elem)
    → slice_get (domain_at domains ty) p ≡ Some x → slice_get (tuples_of domains tys) i ≡ Some xs
    → slice_get (tuples_of domains (ty ∷ tys)) (p * length (tuples_of domains tys) + i) ≡ Some (x ∷ xs)
tuple-at domains ty tys p i x xs at_x at_xs =
    let more : List (List Elem) = tuples_of domains tys in
    let longer : Elem → List (List Elem) = λ y. map (λ a. y ∷ a) more in
    let size : (y : Elem) → length (longer y) ≡ length more = λ y. length-map more (λ a. y ∷ a) in
    let inside : i < length more = slice_get_within more i xs at_xs in
    let within : p < length (domain_at domains ty) = slice_get_within (domain_at domains ty) p x at_x in
    let before = offset-even (λ y. length (longer y)) (length more) size (domain_at domains ty) p
    (omega (arith, within)) in
    let here = size x in
    part-at longer (domain_at domains ty) p i (p * length more + i) x at_x (omega (arith, inside, here))
    (omega (arith, before))
    ∙ slice_get-map (λ a. x ∷ a) more i ∙ ap (option_map (λ a. x ∷ a)) at_xs

-- the digits so far lead to the tuple, wherever those that are left stand
pub record LeadsOn (domains : List (List Elem)) (types : List ℕ) (args : List Elem) (k place : ℕ) : Type 0 where
  pub among : Contains (tuples_of domains (drop k types)) (drop k args)
  pub leads : (i : ℕ) → slice_get (tuples_of domains (drop k types)) i ≡ Some (drop k args)
      → slice_get (tuples_of domains types) (place * length (tuples_of domains (drop k types)) + i) ≡ Some args

pub leads-begins : (domains : List (List Elem)) (types : List ℕ) (args : List Elem)
    → Contains (tuples_of domains types) args → LeadsOn domains types args 0 0
leads-begins domains types args among = record {
  among = among;
  leads = λ i e. let same : i ≡ 0 * length (tuples_of domains types) + i = omega arith in
      subst (λ j. slice_get (tuples_of domains types) j ≡ Some args) same e;
}

pub tuple-length : (domains : List (List Elem)) (types : List ℕ) (args : List Elem)
    → Contains (tuples_of domains types) args → length args ≡ length types
tuple-length domains types args among = at types args (has_from (tuples_of domains types) args among)
  where
    at : (tys : List ℕ) (xs : List Elem) → Has (tuples_of domains tys) xs → length xs ≡ length tys
    at [] xs has = ⊎_elim (λ e. sym (ap length e)) (λ a. absurd a) has
    at (ty ∷ tys) xs has =
        let a = flat_map_has (λ y. map (λ t. y ∷ t) (tuples_of domains tys)) (domain_at domains ty) xs has in
        let b = map_has (λ t. a.0 ∷ t) (tuples_of domains tys) xs a.2 in
        sym (ap length b.2) ∙ ap suc (at tys b.0 b.1)

-- the item and what is after it
split-at : {X : Type 0} (xs ys : List X) (k : ℕ) (y d : X) → drop k xs ≡ y ∷ ys → (k < length xs) × (get_or xs k d ≡ y)
    × (drop (k + 1) xs ≡ ys)
split-at {X = X} xs ys k y d e =
    let n : length (drop k xs) ≡ suc (length ys) = ap length e in
    let m = length-drop k xs in
    let inside : k < length xs = omega (arith, n, m) in
    let both : get_or xs k d ∷ drop (k + 1) xs ≡ y ∷ ys = sym (at_drop_more (λ (zs : List X). zs) xs k d inside) ∙ e in
    (inside, by-head both, by-tail both)
  where
    by-head : get_or xs k d ∷ drop (k + 1) xs ≡ y ∷ ys → get_or xs k d ≡ y
    by-head h = cc

    by-tail : get_or xs k d ∷ drop (k + 1) xs ≡ y ∷ ys → drop (k + 1) xs ≡ ys
    by-tail h = cc

module _ (domains : List (List Elem)) (types : List ℕ) (args : List Elem) (k place : ℕ)
    (h : LeadsOn domains types args k place) (lt : k < length types) where
  abbrev ty : ℕ
  ty = get_or types k 0

  abbrev tys : List ℕ
  tys = drop (k + 1) types

  types-are : drop k types ≡ ty ∷ tys
  types-are = at_drop_more (λ (zs : List ℕ). zs) types k 0 lt

  parts : (y : Elem) × (ys : List Elem) × (drop k args ≡ y ∷ ys) × Has (domain_at domains ty) y
      × Has (tuples_of domains tys) ys
  parts =
      let among : Has (tuples_of domains (ty ∷ tys)) (drop k args) = has_from (tuples_of domains (ty ∷ tys))
      (drop k args) (subst (λ ts. Contains (tuples_of domains ts) (drop k args)) types-are h.among) in
      let a = flat_map_has (λ y. map (λ t. y ∷ t) (tuples_of domains tys)) (domain_at domains ty) (drop k args) among in
      let b = map_has (λ t. a.0 ∷ t) (tuples_of domains tys) (drop k args) a.2 in
      (a.0, b.0, sym b.2, a.1, b.1)

  pub args-long : k < length args
  args-long = (split-at args parts.1 k parts.0 parts.0 parts.2).0

  module _ (x : Elem) (is : x ≡ get_or args k x) where
    head-is : x ≡ parts.0
    head-is = is ∙ (split-at args parts.1 k parts.0 x parts.2).1

    rest-is : drop (k + 1) args ≡ parts.1
    rest-is = (split-at args parts.1 k parts.0 x parts.2).2

    pub element-there : Contains (domain_at domains ty) x
    element-there = subst (Contains (domain_at domains ty)) (sym head-is)
        (contains_from (domain_at domains ty) parts.0 parts.3)

    pub leads-next : (p : ℕ) → slice_get (domain_at domains ty) p ≡ Some x → LeadsOn domains types args (k + 1)
        (place * length (domain_at domains ty) + p)
    leads-next p at = record {
      among = subst (Contains (tuples_of domains tys)) (sym rest-is)
          (contains_from (tuples_of domains tys) parts.1 parts.4);
      leads = λ i e.
          let inner : slice_get (tuples_of domains (ty ∷ tys)) (p * length (tuples_of domains tys) + i)
          ≡ Some (x ∷ drop (k + 1) args) = tuple-at domains ty tys p i x (drop (k + 1) args) at e in
          let args-are : x ∷ drop (k + 1) args ≡ drop k args = ap (λ y. y ∷ drop (k + 1) args) head-is
          ∙ ap (λ ys. parts.0 ∷ ys) rest-is ∙ sym parts.2 in
          let outer : slice_get (tuples_of domains (drop k types)) (p * length (tuples_of domains tys) + i)
          ≡ Some (drop k args) =
          ap (λ ts. slice_get (tuples_of domains ts) (p * length (tuples_of domains tys) + i)) types-are ∙ inner
          ∙ ap Some args-are in
          let size : length (tuples_of domains (drop k types)) ≡ length (domain_at domains ty) * length
          (tuples_of domains tys) =
          ap (λ ts. length (tuples_of domains ts)) types-are ∙ length-tuples_over (tuples_of domains tys)
          (domain_at domains ty) in
          subst (λ j. slice_get (tuples_of domains types) j ≡ Some args)
          (ap (λ n. place * n + (p * length (tuples_of domains tys) + i)) size
          ∙ digits place (length (domain_at domains ty)) p (length (tuples_of domains tys)) i)
          (h.leads (p * length (tuples_of domains tys) + i) outer);
    }
      where
        digits : (a s q l i : ℕ) → a * (s * l) + (q * l + i) ≡ (a * s + q) * l + i
        digits a s q l i = omega arith

pub place-fits : (domains : List (List Elem)) (types : List ℕ) (args : List Elem) (k place : ℕ)
    → LeadsOn domains types args k place → place < length (tuples_of domains types)
place-fits domains types args k place h =
    let i = has-index (tuples_of domains (drop k types)) (drop k args) (has_from (tuples_of domains (drop k types))
    (drop k args) h.among) in
    let inner : i.0 < length (tuples_of domains (drop k types)) = slice_get_within (tuples_of domains (drop k types))
    i.0 (drop k args) i.1 in
    let outer : place * length (tuples_of domains (drop k types)) + i.0 < length (tuples_of domains types) =
    slice_get_within (tuples_of domains types) (place * length (tuples_of domains (drop k types)) + i.0) args
    (h.leads i.0 i.1) in
    let more : place * 1 ≤ place * length (tuples_of domains (drop k types)) =
    mul-le place 1 place (length (tuples_of domains (drop k types))) (omega arith) (omega (arith, inner)) in
    let whole : place * 1 ≡ place = omega arith in
    omega (arith, outer, more, whole)

pub leads-ends : (domains : List (List Elem)) (types : List ℕ) (args : List Elem) (k place : ℕ) → length types ≤ k
    → LeadsOn domains types args k place → slice_get (tuples_of domains types) place ≡ Some args
leads-ends domains types args k place le h =
    let last : tuples_of domains (drop k types) ≡ [] ∷ [] = at_drop_all (tuples_of domains) types k le in
    let among : Has ([] ∷ []) (drop k args) = has_from ([] ∷ []) (drop k args)
    (subst (λ ts. Contains ts (drop k args)) last h.among) in
    let none : drop k args ≡ [] = ⊎_elim (λ e. sym e) (λ a. absurd a) among in
    let first : slice_get (tuples_of domains (drop k types)) 0 ≡ Some (drop k args) = ap (λ ts. slice_get ts 0) last
    ∙ ap Some (sym none) in
    let size : length (tuples_of domains (drop k types)) ≡ 1 = ap length last in
    let same : place * 1 + 0 ≡ place = omega arith in
    subst (λ j. slice_get (tuples_of domains types) j ≡ Some args) (ap (λ n. place * n + 0) size ∙ same)
    (h.leads 0 first)

-- where a value is among the domain's elements, the tuples are no more than the atoms
pub tuples-few : (domains : List (List Elem)) (s : Symbol) (o : Option Elem) → HasValueIn domains s.value o
    → atoms_in domains s < 2 ^ 64 → length (tuples_of domains s.args) < 2 ^ 64
tuples-few domains s o value few = at s.value o value few
  where
    at : (v : Option ℕ) (o2 : Option Elem) → HasValueIn domains v o2 → length (tuples_of domains s.args) *
        (elim v [ None ↦ 1 | Some t ↦ length (domain_at domains t) ]) < 2 ^ 64
        → length (tuples_of domains s.args) < 2 ^ 64
    at None o2 h f = let one : length (tuples_of domains s.args) * 1 ≡ length (tuples_of domains s.args) =
        omega arith in omega (arith, f, one)
    at (Some t) None h f = absurd h
    at (Some t) (Some x) h f =
        let more : length (tuples_of domains s.args) * 1 ≤ length (tuples_of domains s.args) * length
        (domain_at domains t) = mul-le (length (tuples_of domains s.args)) 1 (length (tuples_of domains s.args))
        (length (domain_at domains t)) (omega arith) (omega (arith, h.1)) in
        let one : length (tuples_of domains s.args) * 1 ≡ length (tuples_of domains s.args) = omega arith in
        omega (arith, f, more, one)

-- the place of a value fits where the number of atoms does
pub valued-fits : (n m i j : ℕ) → i < n → j < m → n * m < 2 ^ 64 → i * m + j < 2 ^ 64
valued-fits n m i j a b f =
    let more : suc i * m ≤ n * m = mul-le (suc i) m n m (omega (arith, a)) (omega arith) in
    let split : suc i * m ≡ i * m + m = omega arith in
    omega (arith, more, split, b, f)

-- the numbers of the symbols
pub firsts-more : (domains : List (List Elem)) (symbols : List Symbol) (i : ℕ) (d : Symbol) → i < length symbols
    → first_of domains symbols (i + 1) ≡ first_of domains symbols i + atoms_in domains (get_or symbols i d)
firsts-more domains symbols i d lt = let e = sum_by_more (atoms_in domains) symbols i d lt in omega (arith, e)

-- the atoms of a symbol are before the end
pub firsts-within : (domains : List (List Elem)) (symbols : List Symbol) (vars : List ℕ)
    → AreNumbered domains symbols vars → (i : ℕ) (d : Symbol) → i < length symbols
    → first_of domains symbols i + atoms_in domains (get_or symbols i d) < 2 ^ 64
firsts-within domains symbols vars h i d lt =
    let le = sum_by_more_le (atoms_in domains) symbols i d lt in
    let all : sum_by (atoms_in domains) (take (length symbols) symbols) ≡ sum_by (atoms_in domains) symbols =
    ap (sum_by (atoms_in domains)) (take-length symbols) in
    let few : 1 + sum_by (atoms_in domains) (take (length symbols) symbols) < 2 ^ 64 = h.few in
    omega (arith, le, all, few)

abbrev the-atom : ℕ → List Elem → Option Elem → GroundAtom
the-atom s args o = record { symbol = s; args = args; value = o }

atom-same : (l : Literal) (s : ℕ) (o : Option Elem) → s ≡ l.symbol → l.value ≡ o → the-atom s l.args o ≡ atom_of l
atom-same l s o is e = ap (λ n. the-atom n l.args o) is ∙ ap (λ v. the-atom l.symbol l.args v) (sym e)

-- the variable that a place among a symbol's atoms has
pub place-number : (b : GroundBase) (s : ℕ) (d : Symbol) (l : Literal) (place : ℕ) → slice_get b.vocabulary.symbols s
    ≡ Some d → s ≡ l.symbol → IsPlaceIn b.domains d l place → (n : ℕ) × (first_var b s + place ≡ suc n)
    × (slice_get (atoms_over b.vocabulary.symbols b.domains) n ≡ Some (atom_of l))
place-number b s d l place at is (inl h) =
    let r = predicate-variable b s place d l.args at h.plain h.tuple in
    (r.0, r.1, r.2 ∙ ap Some (atom-same l s None is h.none))
place-number b s d l place at is (inr h) =
    let r = function-variable b s h.i h.j h.ty d l.args h.x at h.valued h.tuple h.value in
    (r.0, (let e = r.1 in let m = h.number in omega (arith, e, m)), r.2 ∙ ap Some (atom-same l s (Some h.x) is h.some))

-- and where the symbols are numbered
module _ (domains : List (List Elem)) (symbols : List Symbol) (vars : List ℕ) (h : AreNumbered domains symbols vars)
    (l : Literal) (s d : Symbol) (at : slice_get symbols l.symbol ≡ Some s) (is : d ≡ get_or symbols l.symbol d) where
  abbrev base : GroundBase
  base = record { vocabulary = record { name = []; types = []; symbols = symbols }; domains = domains; known = [] }

  pub symbol-within : l.symbol < length symbols
  symbol-within = slice_get_within symbols l.symbol s at

  pub symbol-is : d ≡ s
  symbol-is = is ∙ get_or_from_slice_get symbols l.symbol s d at

  pub symbol-atoms-few : atoms_in domains d < 2 ^ 64
  symbol-atoms-few =
      let x = firsts-within domains symbols vars h l.symbol d symbol-within in
      let y : get_or symbols l.symbol d ≡ d = sym is in
      let z : first_of domains symbols l.symbol + atoms_in domains d < 2 ^ 64 =
      subst (λ (e : Symbol). first_of domains symbols l.symbol + atoms_in domains e < 2 ^ 64) y x in
      omega (arith, z)

  pub vars-within : l.symbol < length vars
  vars-within = let e = h.each in let x = symbol-within in omega (arith, e, x)

  module _ (place : ℕ) (here : IsPlaceIn domains d l place) where
    abbrev first : ℕ
    first = get_or vars l.symbol 0

    first-are : first ≡ first_of domains symbols l.symbol
    first-are = h.firsts l.symbol 0 symbol-within

    pub numbered : (n : ℕ) × (slice_get (atoms_over symbols domains) n ≡ Some (atom_of l)) × (first + place ≡ suc n)
    numbered =
        let r = place-number base l.symbol s l place at refl (subst (λ (e : Symbol). IsPlaceIn domains e l place)
        symbol-is here) in
        (r.0, r.2, ap (λ (k : ℕ). k + place) first-are ∙ r.1)

    pub number-fits : first + place < 2 ^ 64
    number-fits =
        let within : numbered.0 < length (atoms_over symbols domains) =
        slice_get_within (atoms_over symbols domains) numbered.0 (atom_of l) numbered.1 in
        let count : length (atoms_over symbols domains) ≡ sum_by (atoms_in domains) symbols = atoms-count base in
        let all : sum_by (atoms_in domains) (take (length symbols) symbols) ≡ sum_by (atoms_in domains) symbols =
        ap (sum_by (atoms_in domains)) (take-length symbols) in
        let few : 1 + sum_by (atoms_in domains) (take (length symbols) symbols) < 2 ^ 64 = h.few in
        let e : first + place ≡ suc numbered.0 = numbered.2 in
        omega (arith, within, count, all, few, e)

-- the product before a digit is added
pub product-fits : (domains : List (List Elem)) (types : List ℕ) (args : List Elem) (k place : ℕ)
    → LeadsOn domains types args k place → k < length types → place * length (domain_at domains (get_or types k 0))
    ≤ length (tuples_of domains types)
product-fits domains types args k place h lt =
    let long : k < length args = args-long domains types args k place h lt in
    let s : (x : Elem) × (x ≡ get_or args k x) = element-of args k long in
    let there : Contains (domain_at domains (get_or types k 0)) s.0 =
    element-there domains types args k place h lt s.0 s.1 in
    let at : slice_get (domain_at domains (get_or types k 0)) there.0 ≡ Some s.0 =
    slice_get-get_or (domain_at domains (get_or types k 0)) there.0 s.0 there.1 ∙ ap Some there.2 in
    let x = place-fits domains types args (k + 1) (place * length (domain_at domains (get_or types k 0)) + there.0)
    (leads-next domains types args k place h lt s.0 s.1 there.0 at) in
    omega (arith, x)
  where
    element-of : (xs : List Elem) (i : ℕ) → i < length xs → (x : Elem) × (x ≡ get_or xs i x)
    element-of [] i l = absurd (omega (arith, l))
    element-of (x ∷ xs) zero l = (x, refl)
    element-of (x ∷ xs) (suc i) l = element-of xs i (omega (arith, l))

-- the rows of a symbol's table have variables below 2^64
module _ (domains : List (List Elem)) (symbols : List Symbol) (vars : List ℕ) (h : AreNumbered domains symbols vars)
    (i : ℕ) (d : Symbol) (lt : i < length symbols) (is : d ≡ get_or symbols i d) where
  all-fit : get_or vars i 0 + atoms_in domains d < 2 ^ 64
  all-fit =
      let x = firsts-within domains symbols vars h i d lt in
      let y : first_of domains symbols i + atoms_in domains d < 2 ^ 64 =
      subst (λ (e : Symbol). first_of domains symbols i + atoms_in domains e < 2 ^ 64) (sym is) x in
      let z = h.firsts i 0 lt in
      omega (arith, y, z)

  pub relation-fits : d.value ≡ None → get_or vars i 0 + length (tuples_of domains d.args) < 2 ^ 64
  relation-fits e =
      let x : get_or vars i 0 + length (tuples_of domains d.args) * 1 < 2 ^ 64 =
      subst (λ (o : Option ℕ). get_or vars i 0 + length (tuples_of domains d.args) * value_count domains o
      < 2 ^ 64) e all-fit in
      let one : length (tuples_of domains d.args) * 1 ≡ length (tuples_of domains d.args) = omega arith in
      omega (arith, x, one)

  pub function-fits : (ty : ℕ) → d.value ≡ Some ty → get_or vars i 0 + length (tuples_of domains d.args) * length
      (domain_at domains ty) < 2 ^ 64
  function-fits ty e = subst (λ (o : Option ℕ). get_or vars i 0 + length (tuples_of domains d.args) * value_count
      domains o < 2 ^ 64) e all-fit

pos-left : (a b n : ℕ) → n < a * b → 0 < a
pos-left zero b n lt = absurd (let none : zero * b ≡ 0 = omega arith in omega (arith, lt, none))
pos-left (suc a) b n lt = omega arith

pos-right : (a b n : ℕ) → n < a * b → 0 < b
pos-right a zero n lt = absurd (let none : a * 0 ≡ 0 = omega arith in omega (arith, lt, none))
pos-right a (suc b) n lt = omega arith

-- a tuple read digit by digit from the first one on: `each` tuples begin as it does, among which it is the one at
-- `left`
module _ (domains : List (List Elem)) (types : List ℕ) (i each left : ℕ) (within : i < length types)
    (all : each ≡ length (tuples_of domains (drop i types))) (lt : left < each) (domain : List Elem)
    (is : domain ≡ domain_at domains (get_or types i 0)) where
  abbrev rest-tuples : List (List Elem)
  rest-tuples = tuples_of domains (drop (i + 1) types)

  types-split : drop i types ≡ get_or types i 0 ∷ drop (i + 1) types
  types-split = at_drop_more (λ (zs : List ℕ). zs) types i 0 within

  each-split : each ≡ length domain * length rest-tuples
  each-split =
      all ∙ ap (λ ts. length (tuples_of domains ts)) types-split
      ∙ length-tuples_over rest-tuples (domain_at domains (get_or types i 0))
      ∙ ap (λ (xs : List Elem). length xs * length rest-tuples) (sym is)

  left-below : left < length domain * length rest-tuples
  left-below = subst (λ n. left < n) each-split lt

  pub domain-there : 0 < length domain
  domain-there = pos-left (length domain) (length rest-tuples) left left-below

  rest-there : 0 < length rest-tuples
  rest-there = pos-right (length domain) (length rest-tuples) left left-below

  pub rest-count : each / length domain ≡ length rest-tuples
  rest-count =
      ap (λ n. n / length domain) (each-split ∙ turned (length domain) (length rest-tuples))
      ∙ div-mul-add (length rest-tuples) (length domain) 0 domain-there
    where
      turned : (a b : ℕ) → a * b ≡ b * a + 0
      turned a b = omega arith

  pub next-there : 0 < each / length domain
  next-there = subst (λ n. 0 < n) (sym rest-count) rest-there

  digit-within : left / length rest-tuples < length domain
  digit-within = div_below left (length rest-tuples) (length domain) rest-there left-below

  pub digit-below : left / (each / length domain) < length domain
  digit-below = subst (λ n. left / n < length domain) (sym rest-count) digit-within

  pub left-fits : left % (each / length domain) < each / length domain
  left-fits = mod_below left (each / length domain) next-there

  pub digit-leads : (x : Elem) → x ≡ get_or domain (left / (each / length domain)) x
      → get_or (tuples_of domains (drop i types)) left [] ≡ x ∷ get_or rest-tuples (left % (each / length domain)) []
  digit-leads x at =
      let p : ℕ = left / length rest-tuples in
      let q : ℕ = left % length rest-tuples in
      let ty : ℕ = get_or types i 0 in
      let tys : List ℕ = drop (i + 1) types in
      let xs : List Elem = get_or rest-tuples q [] in
      let there : slice_get domain p ≡ Some x = slice_get-get_or domain p x digit-within
      ∙ ap (λ n. Some (get_or domain (left / n) x)) (sym rest-count) ∙ ap Some (sym at) in
      let at_x : slice_get (domain_at domains ty) p ≡ Some x = ap (λ (ys : List Elem). slice_get ys p) (sym is)
      ∙ there in
      let at_xs : slice_get rest-tuples q ≡ Some xs = slice_get-get_or rest-tuples q []
      (mod_below left (length rest-tuples) rest-there) in
      let place : slice_get (tuples_of domains (ty ∷ tys)) left ≡ Some (x ∷ xs) =
      subst (λ n. slice_get (tuples_of domains (ty ∷ tys)) n ≡ Some (x ∷ xs))
      (div-add-mod' left (length rest-tuples)) (tuple-at domains ty tys p q x xs at_x at_xs) in
      get_or_from_slice_get (tuples_of domains (drop i types)) left (x ∷ xs) []
      (ap (λ ts. slice_get (tuples_of domains ts) left) types-split ∙ place)
      ∙ ap (λ n. x ∷ get_or rest-tuples (left % n) []) (sym rest-count)

  pub digit-added : (tuple longer whole : List Elem) (x : Elem) → x ≡ get_or domain (left / (each / length domain)) x
      → tuple ++ get_or (tuples_of domains (drop i types)) left [] ≡ whole → longer ≡ tuple ++ x ∷ []
      → longer ++ get_or rest-tuples (left % (each / length domain)) [] ≡ whole
  digit-added tuple longer whole x at before e =
      let rest : List Elem = get_or rest-tuples (left % (each / length domain)) [] in
      ap (λ (t : List Elem). t ++ rest) e ∙ append_assoc tuple (x ∷ []) rest
      ∙ ap (λ (t : List Elem). tuple ++ t) (sym (digit-leads x at)) ∙ before
