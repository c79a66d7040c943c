-- The rows with which a symbol is written are atoms that are known.
use Rattle.std.proofs.Common.{◌≡◌, ℕ, Bool, true, false, not, ◌&&◌, List, [], ◌∷◌, filter, Option, None, Some, refl}
use Rattle.std.proofs.Common.{sym, ap, subst, ◌∙◌, inl, inr, if◌then◌else◌}
use Rattle.std.specs.List.{list_any}
use Rattle.std.proofs.lemmas.Bool.{true≢false, and_parts}
use Rattle.kb_logic.specs.declared.elements.Elem.{Elem}
use Rattle.kb_logic.specs.declared.vocabularies.Symbol.{Symbol}
use Rattle.kb_logic.specs.Models.{GroundAtom, HasValueIn}
use Rattle.kb_logic.specs.Structures.{domain_at}
use Rattle.kb_logic.specs.KnownAtoms.{KnownAtoms}
use Rattle.kb_logic.proofs.Has.{Has, has_map, map_has, has_flat_map, flat_map_has, has_from, contains_from}
use Rattle.partial_structures.specs.KnownAtoms.{value_at, same_atom}
use Rattle.partial_structures.specs.Status.{is_yes, is_no}
use Rattle.partial_structures.specs.Consistency.{IsConsistent}
use Rattle.partial_structures.specs.declared.truths.Truth.TheVariants as truth
use Rattle.partial_structures.proofs.Sames.{atom_is, atom_itself, atom_by}
use Rattle.printed_texts.specs.Entries.{PlainRow, row_of, is_known_as, rows_at, atoms_at, function_atoms, is_some_row}
use Rattle.printed_texts.specs.Entries.{where_none, tuples_for, true_rows, false_rows}
use Rattle.printed_texts.proofs.Each.{any_has, has_any, kept_has, has_kept}

-- ---- what the lists of known atoms say

yes_if : (b : Bool) (c : Bool) → is_yes (if b then truth.Yes else (if c then truth.No else truth.Unknown)) ≡ b
yes_if true c = refl
yes_if false true = refl
yes_if false false = refl

no_if : (b : Bool) (c : Bool) → is_no (if b then truth.Yes else (if c then truth.No else truth.Unknown)) ≡ (not b && c)
no_if true c = refl
no_if false true = refl
no_if false false = refl

pub yes_listed : (k : KnownAtoms) (a : GroundAtom) → is_yes (value_at k a) ≡ list_any (same_atom a) k.true_atoms
yes_listed k a = yes_if (list_any (same_atom a) k.true_atoms) (list_any (same_atom a) k.false_atoms)

pub yes_true : (k : KnownAtoms) (a : GroundAtom) → is_yes (value_at k a) ≡ true → Has k.true_atoms a
yes_true k a h =
    let r = any_has (same_atom a) k.true_atoms (sym (yes_listed k a) ∙ h) in
    subst (λ b. Has k.true_atoms b) (atom_is a r.0 r.2) r.1

pub true_yes : (k : KnownAtoms) (a : GroundAtom) → Has k.true_atoms a → is_yes (value_at k a) ≡ true
true_yes k a m = yes_listed k a ∙ has_any (same_atom a) k.true_atoms a m (atom_itself a)

pub no_false : (k : KnownAtoms) (a : GroundAtom) → is_no (value_at k a) ≡ true → Has k.false_atoms a
no_false k a h =
    let parts = and_parts (not (list_any (same_atom a) k.true_atoms)) (list_any (same_atom a) k.false_atoms)
    (sym (no_if (list_any (same_atom a) k.true_atoms) (list_any (same_atom a) k.false_atoms)) ∙ h) in
    let r = any_has (same_atom a) k.false_atoms parts.1 in
    subst (λ b. Has k.false_atoms b) (atom_is a r.0 r.2) r.1

pub not_both : (k : KnownAtoms) → IsConsistent k → (a : GroundAtom) → Has k.true_atoms a → Has k.false_atoms a → ⊥
not_both k c a m n = c.apart a (contains_from k.true_atoms a m) (contains_from k.false_atoms a n)

pub no_listed : (k : KnownAtoms) → IsConsistent k → (a : GroundAtom)
    → is_no (value_at k a) ≡ list_any (same_atom a) k.false_atoms
no_listed k c a = no_if (list_any (same_atom a) k.true_atoms) (list_any (same_atom a) k.false_atoms)
    ∙ by (list_any (same_atom a) k.true_atoms) refl (list_any (same_atom a) k.false_atoms) refl
  where
    found : (atoms : List GroundAtom) → list_any (same_atom a) atoms ≡ true → Has atoms a
    found atoms e = let r = any_has (same_atom a) atoms e in subst (λ b. Has atoms b) (atom_is a r.0 r.2) r.1

    by : (x : Bool) → list_any (same_atom a) k.true_atoms ≡ x → (y : Bool) → list_any (same_atom a) k.false_atoms ≡ y
        → (not (list_any (same_atom a) k.true_atoms) && list_any (same_atom a) k.false_atoms)
        ≡ list_any (same_atom a) k.false_atoms
    by true e true f = absurd (not_both k c a (found k.true_atoms e) (found k.false_atoms f))
    by true e false f = rw (e, f) refl
    by false e y f = rw e refl

pub false_no : (k : KnownAtoms) → IsConsistent k → (a : GroundAtom) → Has k.false_atoms a → is_no (value_at k a) ≡ true
false_no k c a m = no_listed k c a ∙ has_any (same_atom a) k.false_atoms a m (atom_itself a)

-- one value at the same arguments
pub one_value : (k : KnownAtoms) → IsConsistent k → (a b : GroundAtom) → Has k.true_atoms a → Has k.true_atoms b
    → a.symbol ≡ b.symbol → a.args ≡ b.args → a ≡ b
one_value k c a b m n e f = c.single a b (contains_from k.true_atoms a m) (contains_from k.true_atoms b n) e f

-- ---- the atoms of a symbol

-- an atom of the symbol with this number, at these arguments
pub record IsAtomAt (k : KnownAtoms) (s : ℕ × Symbol) (tuple : List Elem) (a : GroundAtom) : Type 0 where
  pub symbol : a.symbol ≡ s.0
  pub args : a.args ≡ tuple
  pub value : HasValueIn k.domains s.1.value a.value

pub atom_at : (k : KnownAtoms) (s : ℕ × Symbol) (value : Option ℕ) → s.1.value ≡ value
    → (args : List Elem) (a : GroundAtom) → Has (atoms_at k.domains s.0 value args) a → IsAtomAt k s args a
atom_at k s None e args a (inl h) =
    record {
      symbol = ap (λ b. b.symbol) (sym h);
      args = ap (λ b. b.args) (sym h);
      value = rw e (subst (λ (b : GroundAtom). HasValueIn k.domains None b.value) h tt);
    }
atom_at k s None e args a (inr h) = absurd h
atom_at k s (Some ty) e args a h =
    let r = map_has (λ x. record { symbol = s.0; args = args; value = Some x }) (domain_at k.domains ty) a h in
    record {
      symbol = ap (λ b. b.symbol) (sym r.2);
      args = ap (λ b. b.args) (sym r.2);
      value = rw e (subst (λ (b : GroundAtom). HasValueIn k.domains (Some ty) b.value) r.2
          (contains_from (domain_at k.domains ty) r.0 r.1));
    }

pub at_atom : (k : KnownAtoms) (s : ℕ × Symbol) (value : Option ℕ) → s.1.value ≡ value
    → (args : List Elem) (a : GroundAtom) → IsAtomAt k s args a → Has (atoms_at k.domains s.0 value args) a
at_atom k s None e args a h = inl (atom_by _ a (sym h.symbol) (sym h.args) (no_value a.value (rw e at h.value)))
  where
    no_value : (o : Option Elem) → HasValueIn k.domains None o → None ≡ o
    no_value None w = refl
    no_value (Some x) w = absurd w
at_atom k s (Some ty) e args a h = by a.value refl (rw e at h.value)
  where
    by : (o : Option Elem) → a.value ≡ o → HasValueIn k.domains (Some ty) o
        → Has (atoms_at k.domains s.0 (Some ty) args) a
    by None f w = absurd w
    by (Some x) f w =
        subst (λ b. Has (function_atoms s.0 args (domain_at k.domains ty)) b)
        (atom_by (record { symbol = s.0; args = args; value = Some x }) a (sym h.symbol) (sym h.args) (sym f))
        (has_map (λ y. record { symbol = s.0; args = args; value = Some y }) (domain_at k.domains ty) x
        (has_from (domain_at k.domains ty) x w))

-- an atom that is known, and its row
pub record IsKnownRow (k : KnownAtoms) (s : ℕ × Symbol) (holds : Bool) (args : List Elem) (r : PlainRow) : Type 0 where
  pub atom : GroundAtom
  pub at : IsAtomAt k s args atom
  pub known : is_known_as holds k atom ≡ true
  pub row : row_of atom ≡ r

pub row_known : (k : KnownAtoms) (s : ℕ × Symbol) (holds : Bool) (args : List Elem) (r : PlainRow)
    → Has (rows_at holds k s args) r → IsKnownRow k s holds args r
row_known k s holds args r h =
    let m = map_has row_of (filter (is_known_as holds k) (atoms_at k.domains s.0 s.1.value args)) r h in
    let f = kept_has (is_known_as holds k) (atoms_at k.domains s.0 s.1.value args) m.0 m.1 in
    record { atom = m.0; at = atom_at k s s.1.value refl args m.0 f.0; known = f.1; row = m.2 }

pub known_row : (k : KnownAtoms) (s : ℕ × Symbol) (holds : Bool) (args : List Elem) (a : GroundAtom)
    → IsAtomAt k s args a → is_known_as holds k a ≡ true → Has (rows_at holds k s args) (row_of a)
known_row k s holds args a at known =
    has_map row_of (filter (is_known_as holds k) (atoms_at k.domains s.0 s.1.value args)) a
    (has_kept (is_known_as holds k) (atoms_at k.domains s.0 s.1.value args) a
    (at_atom k s s.1.value refl args a at) known)

-- ---- all rows of a symbol

pub record IsRowOf (k : KnownAtoms) (s : ℕ × Symbol) (holds : Bool) (r : PlainRow) : Type 0 where
  pub args : List Elem
  pub tuple : Has (tuples_for k s) args
  pub known : IsKnownRow k s holds args r

pub true_row : (k : KnownAtoms) (s : ℕ × Symbol) (r : PlainRow) → Has (true_rows k s) r → IsRowOf k s true r
true_row k s r h = let m = flat_map_has (rows_at true k s) (tuples_for k s) r h in
    record { args = m.0; tuple = m.1; known = row_known k s true m.0 r m.2 }

pub row_true : (k : KnownAtoms) (s : ℕ × Symbol) (args : List Elem) (a : GroundAtom) → Has (tuples_for k s) args
    → IsAtomAt k s args a → is_yes (value_at k a) ≡ true → Has (true_rows k s) (row_of a)
row_true k s args a t at known = has_flat_map (rows_at true k s) (tuples_for k s) args (row_of a) t
    (known_row k s true args a at known)

in_where_none : (xs ys : List PlainRow) (r : PlainRow) → Has (where_none xs ys) r → (xs ≡ []) × Has ys r
in_where_none [] ys r h = (refl, h)
in_where_none (x ∷ xs) ys r h = absurd h

where_none_in : (xs ys : List PlainRow) (r : PlainRow) → xs ≡ [] → Has ys r → Has (where_none xs ys) r
where_none_in xs ys r e h = rw e h

pub false_row : (k : KnownAtoms) (s : ℕ × Symbol) (r : PlainRow) → Has (false_rows k s) r → IsRowOf k s false r
false_row k s r h =
    let m = flat_map_has (λ t. where_none (rows_at true k s t) (rows_at false k s t)) (tuples_for k s) r h in
    let w = in_where_none (rows_at true k s m.0) (rows_at false k s m.0) r m.2 in
    record { args = m.0; tuple = m.1; known = row_known k s false m.0 r w.1 }

pub row_false : (k : KnownAtoms) (s : ℕ × Symbol) (args : List Elem) (a : GroundAtom) → Has (tuples_for k s) args
    → IsAtomAt k s args a → rows_at true k s args ≡ [] → is_no (value_at k a) ≡ true → Has (false_rows k s) (row_of a)
row_false k s args a t at none known =
    has_flat_map (λ u. where_none (rows_at true k s u) (rows_at false k s u)) (tuples_for k s) args (row_of a) t
    (where_none_in (rows_at true k s args) (rows_at false k s args) (row_of a) none
    (known_row k s false args a at known))

pub some_row : (rows : List PlainRow) → is_some_row rows ≡ true → (r : PlainRow) × Has rows r
some_row [] e = absurd (true≢false (sym e))
some_row (r ∷ rs) e = (r, inl refl)

pub no_row : (rows : List PlainRow) → is_some_row rows ≡ false → rows ≡ []
no_row [] e = refl
no_row (r ∷ rs) e = absurd (true≢false e)

pub row_some : (rows : List PlainRow) (r : PlainRow) → Has rows r → is_some_row rows ≡ true
row_some [] r h = absurd h
row_some (x ∷ rs) r h = refl
