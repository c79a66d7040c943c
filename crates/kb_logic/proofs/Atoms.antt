-- The laws of atoms.
use Rattle.std.proofs.Common.{◌≡◌, ℕ, suc, ◌+◌, List, [], ◌∷◌, map, cond, ◌⊎◌, Bool, true, false, ◌==◌, Some, None}
use Rattle.std.proofs.Common.{refl, sym, ap, subst, ◌∙◌, arith, inl, inr}
use Rattle.std.specs.List.{Contains, filter, enumerate_from, slice_get}
use Rattle.std.proofs.lemmas.Bool.{cases_Bool, eqb-true}
use Rattle.std.proofs.lemmas.Bool.Decides.{Decides-int_eq}
use Rattle.std.proofs.lemmas.Slice.Eq.{bytes_eq-Decides}
use Rattle.kb_logic.specs.declared.elements.Elem.{Elem}
use Rattle.kb_logic.specs.declared.elements.Elem.TheVariants.{Named, Num}
use Rattle.kb_logic.specs.declared.vocabularies.Symbol.{Symbol}
use Rattle.kb_logic.specs.declared.structures.Table.{Table}
use Rattle.kb_logic.specs.Structures.{domain_at, tuples_of, EachWith, IsRelation, predicates_of}
use Rattle.kb_logic.specs.Denotations.{Denotation, named, number, minus_infinity, plus_infinity, undefined}
use Rattle.kb_logic.specs.Denotations.{denotation_of, same_value}
use Rattle.kb_logic.specs.Meaning.{rows_of, behind, is_end, has_row, values_of}
use Rattle.kb_logic.specs.Laws.{AtomIsMembership, AtomIsInItsTypes}
use Rattle.kb_logic.proofs.Assignments.{before}
use Rattle.kb_logic.proofs.Members.{first, later, none_in, member_cases, from_filter, in_pairs, from_pairs}

pub same_is : (a b : Denotation) → same_value a b ≡ true → a ≡ b
same_is (named a) (named b) h = ap named ((bytes_eq-Decides a b).0 h)
same_is (number a) (number b) h = ap number ((Decides-int_eq a b).0 h)
same_is minus_infinity minus_infinity h = refl
same_is plus_infinity plus_infinity h = refl
same_is undefined undefined h = refl
same_is a b h = cc

pub is_same : (a : Denotation) → same_value a a ≡ true
is_same (named n) = (bytes_eq-Decides n n).1 refl
is_same (number z) = (Decides-int_eq z z).1 refl
is_same minus_infinity = refl
is_same plus_infinity = refl
is_same undefined = refl

if_same : (b : Bool) (row : List Elem) (vs : List Denotation) → is_end (cond b (behind row vs) None) ≡ true
    → (b ≡ true) × (is_end (behind row vs) ≡ true)
if_same true row vs h = (refl, h)
if_same false row vs h = cc

row_is : (row : List Elem) (vs : List Denotation) → is_end (behind row vs) ≡ true → map denotation_of row ≡ vs
row_is [] [] h = refl
row_is (x ∷ row) [] h = cc
row_is [] (v ∷ vs) h = cc
row_is (x ∷ row) (v ∷ vs) h =
    let both = if_same (same_value (denotation_of x) v) row vs h in
    ap (λ d. d ∷ map denotation_of row) (same_is (denotation_of x) v both.0) ∙ ap (λ ds. v ∷ ds) (row_is row vs both.1)

is_row : (row : List Elem) → is_end (behind row (map denotation_of row)) ≡ true
is_row [] = refl
is_row (x ∷ row) = ap (λ b. is_end (cond b (behind row (map denotation_of row)) None)) (is_same (denotation_of x))
    ∙ is_row row

either_row : (b : Bool) (rs : List (List Elem)) (vs : List Denotation) → cond b true (has_row rs vs) ≡ true
    → (b ≡ true) ⊎ (has_row rs vs ≡ true)
either_row true rs vs h = inl refl
either_row false rs vs h = inr h

pub row_in : (rows : List (List Elem)) (vs : List Denotation) → has_row rows vs ≡ true
    → (row : List Elem) × Contains rows row × (map denotation_of row ≡ vs)
row_in [] vs h = cc
row_in (r ∷ rs) vs h = elim (either_row (is_end (behind r vs)) rs vs h) [
  | inl e ↦ (r, first r rs, row_is r vs e)
  | inr more ↦ let found = row_in rs vs more in (found.0, later r found.0 rs found.1, found.2)
]

yes_first : (b c : Bool) → b ≡ true → cond b true c ≡ true
yes_first true c h = refl
yes_first false c h = cc

yes_second : (b c : Bool) → c ≡ true → cond b true c ≡ true
yes_second true c h = refl
yes_second false c h = h

pub in_rows : (rows : List (List Elem)) (row : List Elem) → Contains rows row
    → has_row rows (map denotation_of row) ≡ true
in_rows [] row at = absurd (none_in row at)
in_rows (r ∷ rs) row at = elim (member_cases r row rs at) [
  | inl e ↦ yes_first (is_end (behind r (map denotation_of row))) (has_row rs (map denotation_of row))
      (subst (λ s. is_end (behind s (map denotation_of row)) ≡ true) (sym e) (is_row row))
  | inr more ↦ yes_second (is_end (behind r (map denotation_of row))) (has_row rs (map denotation_of row))
      (in_rows rs row more)
]

pub denotes_one : (x y : Elem) → denotation_of x ≡ denotation_of y → x ≡ y
denotes_one (Named a) (Named b) h = cc
denotes_one (Named a) (Num z) h = cc
denotes_one (Num y) (Named b) h = cc
denotes_one (Num y) (Num z) h = cc

denote_row : (a b : List Elem) → map denotation_of a ≡ map denotation_of b → a ≡ b
denote_row [] [] h = refl
denote_row [] (y ∷ b) h = cc
denote_row (x ∷ a) [] h = cc
denote_row (x ∷ a) (y ∷ b) h =
    let one : denotation_of x ≡ denotation_of y = cc in
    let rest : map denotation_of a ≡ map denotation_of b = cc in
    ap (λ z. z ∷ a) (denotes_one x y one) ∙ ap (λ c. y ∷ c) (denote_row a b rest)

-- a row passes the test exactly where it is among the rows
pub among : (rows : List (List Elem)) (row : List Elem) → has_row rows (map denotation_of row) ≡ true
    → Contains rows row
among rows row h = let r = row_in rows (map denotation_of row) h in subst (Contains rows) (denote_row r.0 row r.2) r.1

pub atom_is_membership : AtomIsMembership
atom_is_membership m n ts e = (
  λ h. row_in (rows_of n m.relations) (values_of m ts e) h,
  λ h. subst (λ vs. has_row (rows_of n m.relations) vs ≡ true) h.2 (in_rows (rows_of n m.relations) h.0 h.1),
)

pub numbered_at : (xs : List Symbol) (k n : ℕ) (s : Symbol) → Contains (enumerate_from k xs) (n, s)
    → (i : ℕ) × (n ≡ k + i) × (slice_get xs i ≡ Some s)
numbered_at [] k n s at = absurd (none_in (n, s) at)
numbered_at (x ∷ xs) k n s at = elim (member_cases (k, x) (n, s) (enumerate_from (k + 1) xs) at) [
  | inl e ↦ let number : k ≡ n = ap (λ (p : ℕ × Symbol). p.0) e in let symbol : x ≡ s =
      ap (λ (p : ℕ × Symbol). p.1) e in (0, omega (arith, number), ap Some symbol)
  | inr more ↦ let r = numbered_at xs (k + 1) n s more in (suc r.0, omega (arith, r.1), r.2)
]

-- the rows of a symbol in tables that fit the numbered symbols are over the symbol's types
relation_rows : (domains : List (List Elem)) (ps : List (ℕ × Symbol)) (ts : List Table) (n : ℕ) (types : List ℕ)
    → EachWith (IsRelation domains) ps ts
    → ((p : ℕ × Symbol) → Contains ps p → p.0 ≡ n → p.1.args ≡ types) → (row : List Elem) → Contains (rows_of n ts) row
    → Contains (tuples_of domains types) row
relation_rows domains [] [] n types each known row at = absurd (none_in row at)
relation_rows domains [] (t ∷ ts) n types each known row at = absurd each
relation_rows domains (p ∷ ps) [] n types each known row at = absurd each
relation_rows domains (p ∷ ps) (t ∷ ts) n types each known row at = elim (cases_Bool (t.symbol == n)) [
  | inl e ↦
      let here : Contains t.rows row = subst (λ b. Contains (cond b t.rows (rows_of n ts)) row) e at in
      let number : p.0 ≡ n = sym each.0.symbol ∙ eqb-true t.symbol n e in
      let chosen : Contains (filter each.0.rows.0 (tuples_of domains p.1.args)) row =
      subst (λ rows. Contains rows row) each.0.rows.1 here in
      subst (λ args. Contains (tuples_of domains args) row) (known p (first p ps) number)
      (from_filter each.0.rows.0 (tuples_of domains p.1.args) row chosen)
  | inr e ↦
      relation_rows domains ps ts n types each.1 (λ q in' is. known q (later p q ps in') is) row
      (subst (λ b. Contains (cond b t.rows (rows_of n ts)) row) e at)
]

pub tuple_elements : (domains : List (List Elem)) (types : List ℕ) (a : List Elem)
    → Contains (tuples_of domains types) a → EachWith (λ ty x. Contains (domain_at domains ty) x) types a
tuple_elements domains [] a at = elim (member_cases [] a [] at) [
  | inl e ↦ subst (EachWith (λ (ty : ℕ) (x : Elem). Contains (domain_at domains ty) x) []) e tt
  | inr more ↦ absurd
      (none_in a more)
]
tuple_elements domains (ty ∷ types) a at =
    let r = from_pairs before (tuples_of domains types) (domain_at domains ty) a at in
    subst (EachWith (λ (ty : ℕ) (x : Elem). Contains (domain_at domains ty) x) (ty ∷ types)) r.4
    (r.2, tuple_elements domains types r.1 r.3)

pub elements_tuple : (domains : List (List Elem)) (types : List ℕ) (a : List Elem)
    → EachWith (λ ty x. Contains (domain_at domains ty) x) types a → Contains (tuples_of domains types) a
elements_tuple domains [] [] h = first [] []
elements_tuple domains [] (x ∷ a) h = absurd h
elements_tuple domains (ty ∷ types) [] h = absurd h
elements_tuple domains (ty ∷ types) (x ∷ a) h = in_pairs before (tuples_of domains types) (domain_at domains ty) x a h.0
    (elements_tuple domains types a h.1)

denoted : (domains : List (List Elem)) (types : List ℕ) (row : List Elem)
    → EachWith (λ ty x. Contains (domain_at domains ty) x) types row
    → EachWith (λ ty d. (x : Elem) × Contains (domain_at domains ty) x × (denotation_of x ≡ d)) types
    (map denotation_of row)
denoted domains [] [] h = tt
denoted domains [] (x ∷ row) h = absurd h
denoted domains (ty ∷ types) [] h = absurd h
denoted domains (ty ∷ types) (x ∷ row) h = ((x, h.0, refl), denoted domains types row h.1)

pub some_same : (a b : Symbol) → Some a ≡ Some b → a ≡ b
some_same a b h = cc

pub atom_is_in_its_types : AtomIsInItsTypes
atom_is_in_its_types v m is n s symbol ts e h =
    let found = row_in (rows_of n m.relations) (values_of m ts e) h in
    let known : (p : ℕ × Symbol) → Contains (predicates_of v) p → p.0 ≡ n → p.1.args ≡ s.args = λ p at number.
    let r = numbered_at v.symbols 0 p.0 p.1 (from_filter _ (enumerate_from 0 v.symbols) p at) in
    let place : r.0 ≡ n = omega (arith, r.1, number) in
    let same : Some p.1 ≡ Some s = sym r.2 ∙ ap (slice_get v.symbols) place ∙ symbol in
    ap (λ (t : Symbol). t.args) (some_same p.1 s same) in
    let tuple = relation_rows m.domains (predicates_of v) m.relations n s.args is.relations known found.0 found.1 in
    subst (EachWith (λ ty d. (x : Elem) × Contains (domain_at m.domains ty) x × (denotation_of x ≡ d)) s.args) found.2
    (denoted m.domains s.args found.0 (tuple_elements m.domains s.args found.0 tuple))
