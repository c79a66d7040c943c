-- Which structures extend the data of the worked examples.
use Rattle.std.proofs.Common.{◌≡◌, ℕ, List, [], ◌∷◌, ◌++◌, Bool, true, false, ◌&&◌, not, Option, None, Some, map, refl}
use Rattle.std.proofs.Common.{sym, ap, ◌∙◌, subst}
use Rattle.std.specs.List.{list_any, list_all, Contains, AllByRecursion}
use Rattle.std.proofs.lemmas.Bool.{true≢false, false_from_ne_true, and_parts, and_from}
use Rattle.kb_logic.specs.declared.elements.Elem.{Elem}
use Rattle.kb_logic.specs.declared.structures.Structure.{Structure}
use Rattle.kb_logic.specs.Denotations.{denotation_of}
use Rattle.kb_logic.specs.Meaning.{rows_of}
use Rattle.kb_logic.specs.Models.{GroundAtom, AtomHolds}
use Rattle.kb_logic.proofs.Members.{some_one, one_is_some}
use Rattle.partial_structures.specs.KnownAtoms.{KnownAtoms, same_row}
use Rattle.partial_structures.specs.Extension.{ExtendsData}
use Rattle.certain_truth.specs.Examples.{Extensions}
use Rattle.partial_structures.proofs.Sames.{row_is, row_itself}

abbrev has_row : List (List Elem) → List Elem → Bool
has_row rows xs = list_any (λ r. same_row r (map denotation_of xs)) rows

in_rows : (rows : List (List Elem)) (xs : List Elem) → has_row rows xs ≡ true → Contains rows xs
in_rows rows xs h = let r = some_one (λ r. same_row r (map denotation_of xs)) rows h in
    subst (Contains rows) (row_is r.0 xs r.2) r.1

has_rows : (rows : List (List Elem)) (xs : List Elem) → Contains rows xs → has_row rows xs ≡ true
has_rows rows xs at = one_is_some (λ r. same_row r (map denotation_of xs)) rows xs at (row_itself xs)

abbrev holds_at : Structure → ℕ → List Elem → Option Elem → Bool
holds_at m s xs None = has_row (rows_of s m.relations) xs
holds_at m s xs (Some x) = has_row (rows_of s m.functions) (xs ++ x ∷ [])

holds_by : (m : Structure) (s : ℕ) (xs : List Elem) (o : Option Elem) → holds_at m s xs o ≡ true
    → AtomHolds m (record { symbol = s; args = xs; value = o })
holds_by m s xs None h = in_rows (rows_of s m.relations) xs h
holds_by m s xs (Some x) h = in_rows (rows_of s m.functions) (xs ++ x ∷ []) h

by_holds : (m : Structure) (s : ℕ) (xs : List Elem) (o : Option Elem)
    → AtomHolds m (record { symbol = s; args = xs; value = o }) → holds_at m s xs o ≡ true
by_holds m s xs None h = has_rows (rows_of s m.relations) xs h
by_holds m s xs (Some x) h = has_rows (rows_of s m.functions) (xs ++ x ∷ []) h

abbrev is_held : Structure → GroundAtom → Bool
is_held m a = holds_at m a.symbol a.args a.value

held : (m : Structure) (a : GroundAtom) → is_held m a ≡ true → AtomHolds m a
held m a h = holds_by m a.symbol a.args a.value h

is_held_by : (m : Structure) (a : GroundAtom) → AtomHolds m a → is_held m a ≡ true
is_held_by m a h = by_holds m a.symbol a.args a.value h

all_held : (m : Structure) (as' : List GroundAtom) → list_all (is_held m) as' ≡ true → AllByRecursion (AtomHolds m) as'
all_held m [] h = tt
all_held m (a ∷ as') h = let both = and_parts (is_held m a) (list_all (is_held m) as') h in
    (held m a both.0, all_held m as' both.1)

all_tested : (m : Structure) (as' : List GroundAtom) → AllByRecursion (AtomHolds m) as'
    → list_all (is_held m) as' ≡ true
all_tested m [] h = refl
all_tested m (a ∷ as') h = and_from (is_held m a) (list_all (is_held m) as') (is_held_by m a h.0) (all_tested m as' h.1)

not_true : (b : Bool) → not b ≡ true → b ≡ true → ⊥
not_true true h e = true≢false (sym h)
not_true false h e = true≢false (sym e)

none_held : (m : Structure) (as' : List GroundAtom) → list_all (λ a. not (is_held m a)) as' ≡ true
    → AllByRecursion (λ a. AtomHolds m a → ⊥) as'
none_held m [] h = tt
none_held m (a ∷ as') h =
    let both = and_parts (not (is_held m a)) (list_all (λ a. not (is_held m a)) as') h in
    (λ e. not_true (is_held m a) both.0 (is_held_by m a e), none_held m as' both.1)

none_tested : (m : Structure) (as' : List GroundAtom) → AllByRecursion (λ a. AtomHolds m a → ⊥) as'
    → list_all (λ a. not (is_held m a)) as' ≡ true
none_tested m [] h = refl
none_tested m (a ∷ as') h =
    and_from (not (is_held m a)) (list_all (λ a. not (is_held m a)) as')
    (ap not (false_from_ne_true (is_held m a) (λ e. h.0 (held m a e)))) (none_tested m as' h.1)

abbrev is_extension : Structure → KnownAtoms → Bool
is_extension m k = list_all (is_held m) k.true_atoms && list_all (λ a. not (is_held m a)) k.false_atoms

extends_by : (m : Structure) (k : KnownAtoms) → m.domains ≡ k.domains → is_extension m k ≡ true → ExtendsData m k
extends_by m k d h =
    let both = and_parts (list_all (is_held m) k.true_atoms) (list_all (λ a. not (is_held m a)) k.false_atoms) h in
    record { domains = d; true_atoms = all_held m k.true_atoms both.0; false_atoms = none_held m k.false_atoms both.1 }

not_extended : (m : Structure) (k : KnownAtoms) → is_extension m k ≡ false → ExtendsData m k → ⊥
not_extended m k h e =
    true≢false (sym (and_from (list_all (is_held m) k.true_atoms) (list_all (λ a. not (is_held m a)) k.false_atoms)
    (all_tested m k.true_atoms e.true_atoms) (none_tested m k.false_atoms e.false_atoms)) ∙ h)

pub extensions : Extensions
extensions = (
  extends_by _ _ refl refl,
  extends_by _ _ refl refl,
  not_extended _ _ refl,
  not_extended _ _ refl,
  not_extended _ _ refl,
  not_extended _ _ refl,
)
