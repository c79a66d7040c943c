-- The literals of all atoms are literals over the knowledge base.
use Rattle.std.proofs.Common.{◌≡◌, ◌∙◌, ℕ, List, map, sym, ap, subst, inl, inr, arith, Option, Some, None}
use Rattle.std.proofs.Common.{slice_get, Bool, true, false}
use Rattle.std.specs.List.{AllByRecursion, Contains, enumerate_from}
use Rattle.kb_logic.specs.declared.elements.Elem.{Elem}
use Rattle.kb_logic.specs.declared.structures.Literal.{Literal}
use Rattle.kb_logic.specs.declared.vocabularies.Symbol.{Symbol}
use Rattle.kb_logic.specs.Bases.{Base}
use Rattle.kb_logic.specs.InForce.{literal_with, both_literals, literals_over}
use Rattle.kb_logic.specs.KnownAtoms.{atoms_with, atoms_over}
use Rattle.kb_logic.specs.Lists.{IsSublist}
use Rattle.kb_logic.specs.Models.{GroundAtom, HasValueIn}
use Rattle.kb_logic.specs.Structures.{domain_at, tuples_of}
use Rattle.kb_logic.proofs.Atoms.{numbered_at, tuple_elements}
use Rattle.kb_logic.proofs.Has.{Has, has_from, contains_from, map_has, flat_map_has}
use Rattle.kb_logic.proofs.Members.{in_all}
use Rattle.consult_text.specs.Literals.{IsLiteralOver}
use Rattle.consultant_session.proofs.FoundLemmas.{of_some}

abbrev atom_with : ℕ → Option Elem → List Elem → GroundAtom
atom_with i value t = record { symbol = i; args = t; value = value }

-- an atom of a symbol with some tuples
atom_parts : (domains : List (List Elem)) (i : ℕ) (ts : List (List Elem)) (value : Option ℕ) (a : GroundAtom)
    → Has (atoms_with domains i ts value) a
    → (a.symbol ≡ i) × Has ts a.args × HasValueIn domains value a.value
atom_parts domains i ts None a h =
    let r = map_has (λ (t : List Elem). atom_with i None t) ts a h in (
      sym (ap (λ (b : GroundAtom). b.symbol) r.2),
      subst (Has ts) (ap (λ (b : GroundAtom). b.args) r.2) r.1,
      subst (λ (o : Option Elem). HasValueIn domains None o) (ap (λ (b : GroundAtom). b.value) r.2) tt,
    )
atom_parts domains i ts (Some ty) a h =
    let r = flat_map_has
    (λ (t : List Elem). map (λ (x : Elem). atom_with i (Some x) t) (domain_at domains ty)) ts a h in
    let q = map_has (λ (x : Elem). atom_with i (Some x) r.0) (domain_at domains ty) a r.2 in (
      sym (ap (λ (b : GroundAtom). b.symbol) q.2),
      subst (Has ts) (ap (λ (b : GroundAtom). b.args) q.2) r.1,
      subst (λ (o : Option Elem). HasValueIn domains (Some ty) o) (ap (λ (b : GroundAtom). b.value) q.2)
          (contains_from (domain_at domains ty) q.0 q.1),
    )

-- either literal of an atom
atom_is : (a : GroundAtom) (l : Literal) → Has (both_literals a) l → (positive : Bool) × (literal_with positive a ≡ l)
atom_is a l (inl e) = (true, e)
atom_is a l (inr (inl e)) = (false, e)
atom_is a l (inr (inr h)) = absurd h

literal_over : (kb : Base) (l : Literal) → Contains (literals_over kb) l → IsLiteralOver kb l
literal_over kb l c =
    let symbols = kb.vocabulary.symbols in
    let domains = kb.known.domains in
    let r = flat_map_has both_literals (atoms_over symbols domains) l (has_from (literals_over kb) l c) in
    let s = flat_map_has
    (λ (s : ℕ × Symbol). atoms_with domains s.0 (tuples_of domains s.1.args) s.1.value) (enumerate_from 0 symbols)
    r.0 r.1 in
    let n = numbered_at symbols 0 s.0.0 s.0.1 (contains_from (enumerate_from 0 symbols) s.0 s.1) in
    let parts = atom_parts domains s.0.0 (tuples_of domains s.0.1.args) s.0.1.value r.0 s.2 in
    let is = atom_is r.0 l r.2 in
    let place : r.0.symbol ≡ n.0 = omega (arith, parts.0, n.1) in
    subst (IsLiteralOver kb) is.1 (record {
      symbol = s.0.1;
      declared = ap (slice_get symbols) place ∙ n.2;
      args = tuple_elements domains s.0.1.args r.0.args (contains_from (tuples_of domains s.0.1.args) r.0.args parts.1);
      value = parts.2;
    })

-- some of them are, too
pub some_over : (kb : Base) (ls : List Literal) → IsSublist ls (literals_over kb) → AllByRecursion (IsLiteralOver kb) ls
some_over kb ls some =
    of_some (IsLiteralOver kb) ls (literals_over kb) some
    (in_all (IsLiteralOver kb) (literals_over kb) (literal_over kb))
