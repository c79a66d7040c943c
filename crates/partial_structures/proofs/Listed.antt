-- Which atoms there are, and what the lists of known atoms say.
use Rattle.std.proofs.Common.{◌≡◌, List, Bool, if◌then◌else◌, refl, ap, ◌∙◌, filter}
use Rattle.std.specs.List.{list_any}
use Rattle.kb_logic.specs.declared.elements.Elem.{Elem}
use Rattle.kb_logic.specs.declared.vocabularies.Symbol.{Symbol}
use Rattle.kb_logic.specs.Models.{GroundAtom}
use Rattle.partial_structures.specs.KnownAtoms.{atoms_over, same_atom, value_at}
use Rattle.partial_structures.specs.Status.{is_yes, is_no}
use Rattle.row_tries.specs.declared.truths.Truth.{Truth}
use Rattle.row_tries.specs.declared.truths.Truth.TheVariants as truth
use Rattle.kb_logic.proofs.Has.{Has, any_kept}
use Rattle.partial_structures.proofs.Sames.{atom_is, atom_itself}

-- the atom is listed exactly where its status is the list's
pub listed : (atoms : List GroundAtom) (P : GroundAtom → Bool) (a : GroundAtom) → Has atoms a
    → list_any (same_atom a) (filter P atoms) ≡ P a
listed atoms P a m = any_kept (same_atom a) P a (atom_is a) (atom_itself a) atoms m

back : (t : Truth) → (if is_yes t then truth.Yes else (if is_no t then truth.No else truth.Unknown)) ≡ t
back truth.Yes = refl
back truth.No = refl
back truth.Unknown = refl

-- what the two lists say of an atom is its status
pub value_is : (symbols : List Symbol) (domains : List (List Elem)) (status : GroundAtom → Truth) (a : GroundAtom)
    → Has (atoms_over symbols domains) a
    → value_at (record {
      symbols = symbols;
      domains = domains;
      true_atoms = filter (λ b. is_yes (status b))
          (atoms_over symbols domains);
      false_atoms = filter (λ b. is_no (status b)) (atoms_over symbols domains);
    }) a
    ≡ status a
value_is symbols domains status a m =
    ap (λ b. if b then truth.Yes else (if list_any (same_atom a)
    (filter (λ c. is_no (status c)) (atoms_over symbols domains)) then truth.No else truth.Unknown))
    (listed (atoms_over symbols domains) (λ c. is_yes (status c)) a m)
    ∙ ap (λ b. if is_yes (status a) then truth.Yes else (if b then truth.No else truth.Unknown))
    (listed (atoms_over symbols domains) (λ c. is_no (status c)) a m)
    ∙ back (status a)
