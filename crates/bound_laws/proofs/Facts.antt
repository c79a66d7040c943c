-- A fact that is known of q keeps what is known within q.
use Rattle.std.proofs.Common.{◌≡◌, List, [], ◌∷◌, filter, Bool, true, false, ◌||◌, if◌then◌else◌, refl, sym, ap, ◌∙◌}
use Rattle.std.proofs.Common.{subst, ◌⊎◌, inl, inr}
use Rattle.std.specs.List.{list_any, Contains}
use Rattle.kb_logic.specs.Models.{GroundAtom, IsAtomOver}
use Rattle.kb_logic.specs.KnownAtoms.{KnownAtoms, atoms_over}
use Rattle.kb_logic.proofs.AllAtoms.{listed_over}
use Rattle.kb_logic.proofs.Has.{Has, has_from}
use Rattle.kb_logic.proofs.Members.{some_one, from_filter}
use Rattle.partial_structures.specs.KnownAtoms.{same_atom, is_rival, value_at, with_true, with_false}
use Rattle.partial_structures.specs.Consistency.{IsListed, KnowsMore}
use Rattle.partial_structures.specs.declared.truths.Truth.TheVariants.{Yes, No, Unknown}
use Rattle.partial_structures.proofs.Sames.{atom_is}
use Rattle.bound_laws.specs.Laws.{FactsStayWithin}

or_parts : (a b : Bool) → (a || b) ≡ true → (a ≡ true) ⊎ (b ≡ true)
or_parts true b h = inl refl
or_parts false b h = inr h

has_test : {X : Type 0} (test : X → Bool) (xs : List X) (x : X) → Has (filter test xs) x → test x ≡ true
has_test test [] x m = absurd m
has_test test (y ∷ xs) x m = by (has_test test xs x) (test y) refl m
  where
    by : (Has (filter test xs) x → test x ≡ true) → (b : Bool) → test y ≡ b
        → Has (if b then y ∷ filter test xs else filter test xs) x → test x ≡ true
    by go true e (inl s) = ap test (sym s) ∙ e
    by go true e (inr n) = go n
    by go false e n = go n

from_test : {X : Type 0} (test : X → Bool) (xs : List X) (x : X) → Contains (filter test xs) x → test x ≡ true
from_test test xs x at = has_test test xs x (has_from (filter test xs) x at)

yes_first : (t f : Bool) → (if t then Yes else (if f then No else Unknown)) ≡ Yes → t ≡ true
yes_first true f h = refl
yes_first false true h = absurd (cc)
yes_first false false h = absurd (cc)

no_second : (t f : Bool) → (if t then Yes else (if f then No else Unknown)) ≡ No → f ≡ true
no_second true f h = absurd (cc)
no_second false true h = refl
no_second false false h = absurd (cc)

pub listed_in : (xs : List GroundAtom) (a : GroundAtom) → list_any (same_atom a) xs ≡ true → Contains xs a
listed_in xs a h = let r = some_one (same_atom a) xs h in subst (Contains xs) (atom_is a r.0 r.2) r.1

pub is_true : (q : KnownAtoms) (a : GroundAtom) → value_at q a ≡ Yes → Contains q.true_atoms a
is_true q a h = listed_in q.true_atoms a (yes_first (list_any (same_atom a) q.true_atoms) (list_any (same_atom a)
    q.false_atoms) h)

pub is_false : (q : KnownAtoms) (a : GroundAtom) → value_at q a ≡ No → Contains q.false_atoms a
is_false q a h = listed_in q.false_atoms a (no_second (list_any (same_atom a) q.true_atoms) (list_any (same_atom a)
    q.false_atoms) h)

module _ (k q : KnownAtoms) (listed : IsListed q) (more : KnowsMore k q) where
  -- one of all atoms is one over the domains of q
  over : (test : GroundAtom → Bool) (b : GroundAtom) → Contains (filter test (atoms_over k.symbols k.domains)) b
      → IsAtomOver q.symbols q.domains b
  over test b at =
      subst (λ s. IsAtomOver s q.domains b) (sym more.symbols) (subst (λ d. IsAtomOver k.symbols d b) (sym more.domains)
      (listed_over k.symbols k.domains b (has_from (atoms_over k.symbols k.domains) b
      (from_filter test (atoms_over k.symbols k.domains) b at))))

  -- an atom that passes: the new one, or one that was known
  old_or_new : (xs ys : List GroundAtom) → ((b : GroundAtom) → Contains xs b → Contains ys b) → (P : GroundAtom → Bool)
      → ((b : GroundAtom) → P b ≡ true → Contains ys b) → (b : GroundAtom) → (P b || list_any (same_atom b) xs) ≡ true
      → Contains ys b
  old_or_new xs ys sub P new b h = elim (or_parts (P b) (list_any (same_atom b) xs) h) [
    | inl e ↦ new b e
    | inr e ↦ sub b (listed_in xs b e)
  ]

  true_within : (a : GroundAtom) → Contains q.true_atoms a → KnowsMore (with_true k a) q
  true_within a here =
      let T = λ (b : GroundAtom). same_atom a b || list_any (same_atom b) k.true_atoms in
      let F = λ (b : GroundAtom). is_rival a b || list_any (same_atom b) k.false_atoms in
      let atoms = atoms_over k.symbols k.domains in
      record {
        symbols = more.symbols;
        domains = more.domains;
        true_atoms = λ b at. old_or_new k.true_atoms q.true_atoms more.true_atoms (same_atom a)
            (λ c e. subst (Contains q.true_atoms) (sym (atom_is a c e)) here) b (from_test T atoms b at);
        false_atoms = λ b at. elim (or_parts (is_rival a b) (list_any (same_atom b) k.false_atoms) (from_test F atoms b
            at)) [
              | inl e ↦ listed.rivals a b here (over F b at) e
              | inr e ↦ more.false_atoms b (listed_in k.false_atoms b e)
            ];
      }

  false_within : (a : GroundAtom) → Contains q.false_atoms a → KnowsMore (with_false k a) q
  false_within a here =
      let F = λ (b : GroundAtom). same_atom a b || list_any (same_atom b) k.false_atoms in
      let atoms = atoms_over k.symbols k.domains in
      record {
        symbols = more.symbols;
        domains = more.domains;
        true_atoms = more.true_atoms;
        false_atoms = λ b at. old_or_new k.false_atoms q.false_atoms more.false_atoms (same_atom a)
            (λ c e. subst (Contains q.false_atoms) (sym (atom_is a c e)) here) b (from_test F atoms b at);
      }

pub facts_stay_within : FactsStayWithin
facts_stay_within k q a listed more = (
  λ h. true_within k q listed more a (is_true q a h),
  λ h. false_within k q listed more a (is_false q a h),
)
