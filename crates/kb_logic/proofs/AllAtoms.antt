-- Which atoms there are.
use Rattle.std.proofs.Common.{◌≡◌, ℕ, List, map, Bool, false, Option, None, Some, sym, ap, ◌∙◌, arith, slice_get}
use Rattle.std.proofs.Common.{is_some, refl, subst}
use Rattle.std.specs.List.{enumerate_from}
use Rattle.std.specs.Option.{option_map_or}
use Rattle.kb_logic.specs.declared.elements.Elem.{Elem}
use Rattle.kb_logic.specs.declared.vocabularies.Symbol.{Symbol}
use Rattle.kb_logic.specs.Structures.{domain_at, tuples_of}
use Rattle.kb_logic.specs.Models.{GroundAtom, HasValueIn, IsAtomOver}
use Rattle.kb_logic.specs.KnownAtoms.{atoms_with, atoms_over}
use Rattle.kb_logic.proofs.Has.{Has, has_from, contains_from, has_map, map_has, has_flat_map, flat_map_has}
use Rattle.kb_logic.proofs.Has.{has_enumerated, enumerated_has}

has_with : (domains : List (List Elem)) (i : ℕ) (ts : List (List Elem)) (ty : Option ℕ) (args : List Elem)
    (v : Option Elem) → Has ts args → HasValueIn domains ty v
    → Has (atoms_with domains i ts ty) (record { symbol = i; args = args; value = v })
has_with domains i ts None args None m h = has_map _ ts args m
has_with domains i ts None args (Some x) m h = absurd h
has_with domains i ts (Some ty) args None m h = absurd h
has_with domains i ts (Some ty) args (Some x) m h =
    has_flat_map (λ t. map (λ y. record { symbol = i; args = t; value = Some y }) (domain_at domains ty)) ts args _ m
    (has_map _ (domain_at domains ty) x (has_from (domain_at domains ty) x h))

-- an atom over the domains is one of the atoms
pub atom_listed : (symbols : List Symbol) (domains : List (List Elem)) (a : GroundAtom) → IsAtomOver symbols domains a
    → Has (atoms_over symbols domains) a
atom_listed symbols domains a is =
    has_flat_map (λ s. atoms_with domains s.0 (tuples_of domains s.1.args) s.1.value) (enumerate_from 0 symbols)
    (a.symbol, is.0) a
    (subst (λ n. Has (enumerate_from 0 symbols) (n, is.0)) (omega arith) (has_enumerated 0 a.symbol symbols is.0 is.1))
    (has_with domains a.symbol (tuples_of domains is.0.args) is.0.value a.args a.value
    (has_from (tuples_of domains is.0.args) a.args is.2) is.3)

-- whether a symbol is a function
abbrev pub is_function : List Symbol → ℕ → Bool
is_function symbols s = option_map_or (λ (d : Symbol). is_some d.value) (slice_get symbols s) false

with_kind : (domains : List (List Elem)) (i : ℕ) (ts : List (List Elem)) (ty : Option ℕ) (a : GroundAtom)
    → Has (atoms_with domains i ts ty) a → (a.symbol ≡ i) × (is_some ty ≡ is_some a.value)
with_kind domains i ts None a m = let r = map_has _ ts a m in
    (ap (λ b. b.symbol) (sym r.2), ap (λ b. is_some b.value) r.2)
with_kind domains i ts (Some ty) a m =
    let r = flat_map_has (λ t. map (λ y. record { symbol = i; args = t; value = Some y })
    (domain_at domains ty)) ts a m in
    let q = map_has _ (domain_at domains ty) a r.2 in
    (ap (λ b. b.symbol) (sym q.2), ap (λ b. is_some b.value) q.2)

-- an atom has a value exactly where its symbol is a function
pub atom_kind : (symbols : List Symbol) (domains : List (List Elem)) (a : GroundAtom)
    → Has (atoms_over symbols domains) a → is_function symbols a.symbol ≡ is_some a.value
atom_kind symbols domains a m =
    let r = flat_map_has (λ s. atoms_with domains s.0 (tuples_of domains s.1.args) s.1.value)
    (enumerate_from 0 symbols) a m in
    let at = enumerated_has 0 symbols r.0.0 r.0.1 r.1 in
    let kind = with_kind domains r.0.0 (tuples_of domains r.0.1.args) r.0.1.value a r.2 in
    let same : a.symbol ≡ at.0 = kind.0 ∙ at.1 ∙ omega arith in
    ap (is_function symbols) same ∙ ap (λ o. option_map_or (λ (d : Symbol). is_some d.value) o false) at.2 ∙ kind.1

with_over : (domains : List (List Elem)) (i : ℕ) (ts : List (List Elem)) (ty : Option ℕ) (a : GroundAtom)
    → Has (atoms_with domains i ts ty) a → (a.symbol ≡ i) × Has ts a.args × HasValueIn domains ty a.value
with_over domains i ts None a m =
    let r = map_has _ ts a m in
    subst (λ (b : GroundAtom). (b.symbol ≡ i) × Has ts b.args × HasValueIn domains None b.value) r.2 (refl, r.1, tt)
with_over domains i ts (Some ty) a m =
    let r = flat_map_has (λ t. map (λ y. record { symbol = i; args = t; value = Some y })
    (domain_at domains ty)) ts a m in
    let q = map_has _ (domain_at domains ty) a r.2 in
    subst (λ (b : GroundAtom). (b.symbol ≡ i) × Has ts b.args × HasValueIn domains (Some ty) b.value) q.2 (
      refl,
      r.1,
      contains_from (domain_at domains ty) q.0 q.1,
    )

-- one of the atoms is over the domains
pub listed_over : (symbols : List Symbol) (domains : List (List Elem)) (a : GroundAtom)
    → Has (atoms_over symbols domains) a → IsAtomOver symbols domains a
listed_over symbols domains a m =
    let r = flat_map_has (λ (s : ℕ × Symbol). atoms_with domains s.0 (tuples_of domains s.1.args) s.1.value)
    (enumerate_from 0 symbols) a m in
    let at = enumerated_has 0 symbols r.0.0 r.0.1 r.1 in
    let w = with_over domains r.0.0 (tuples_of domains r.0.1.args) r.0.1.value a r.2 in
    let same : a.symbol ≡ at.0 = w.0 ∙ at.1 ∙ omega arith in
    (r.0.1, ap (slice_get symbols) same ∙ at.2, contains_from (tuples_of domains r.0.1.args) a.args w.1, w.2)
