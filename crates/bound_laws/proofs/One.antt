-- There is at most one narrowed structure.
use Rattle.std.proofs.Common.{◌≡◌, List, [], ◌∷◌, filter, Bool, true, false, if◌then◌else◌, refl, sym, ap, ◌∙◌}
use Rattle.std.specs.List.{list_any, Contains}
use Rattle.std.proofs.lemmas.Bool.{true≢false}
use Rattle.kb_logic.specs.declared.elements.Elem.{Elem}
use Rattle.kb_logic.specs.declared.vocabularies.Symbol.{Symbol}
use Rattle.kb_logic.specs.Models.{GroundAtom}
use Rattle.kb_logic.specs.KnownAtoms.{KnownAtoms, atoms_over}
use Rattle.kb_logic.proofs.Members.{some_one, one_is_some}
use Rattle.partial_structures.specs.KnownAtoms.{same_atom}
use Rattle.partial_structures.specs.Consistency.{IsListed, KnowsMore}
use Rattle.bound_laws.specs.Laws.{OneNarrowed}

same_filter : {X : Type 0} (p q : X → Bool) → ((x : X) → p x ≡ q x) → (xs : List X) → filter p xs ≡ filter q xs
same_filter p q same [] = refl
same_filter p q same (x ∷ xs) = ap (λ b. if b then x ∷ filter p xs else filter p xs) (same x)
    ∙ ap (λ ys. if q x then x ∷ ys else ys) (same_filter p q same xs)

same_bool : (a b : Bool) → (a ≡ true → b ≡ true) → (b ≡ true → a ≡ true) → a ≡ b
same_bool true b h i = sym (h refl)
same_bool false true h i = absurd (true≢false (sym (i refl)))
same_bool false false h i = refl

within : (xs ys : List GroundAtom) → ((a : GroundAtom) → Contains xs a → Contains ys a) → (b : GroundAtom)
    → list_any (same_atom b) xs ≡ true → list_any (same_atom b) ys ≡ true
within xs ys sub b h = let r = some_one (same_atom b) xs h in one_is_some (same_atom b) ys r.0 (sub r.0 r.1) r.2

same_any : (xs ys : List GroundAtom) → ((a : GroundAtom) → Contains xs a → Contains ys a)
    → ((a : GroundAtom) → Contains ys a → Contains xs a) → (b : GroundAtom)
    → list_any (same_atom b) xs ≡ list_any (same_atom b) ys
same_any xs ys sub sup b = same_bool (list_any (same_atom b) xs) (list_any (same_atom b) ys) (within xs ys sub b)
    (within ys xs sup b)

by_parts : (k j : KnownAtoms) → k.symbols ≡ j.symbols → k.domains ≡ j.domains → k.true_atoms ≡ j.true_atoms
    → k.false_atoms ≡ j.false_atoms → k ≡ j
by_parts k j s d t f = made k.symbols j.symbols k.domains j.domains k.true_atoms j.true_atoms k.false_atoms
    j.false_atoms s d t f
  where
    of : List Symbol → List (List Elem) → List GroundAtom → List GroundAtom → KnownAtoms
    of a b c g = record { symbols = a; domains = b; true_atoms = c; false_atoms = g }

    made : (a a2 : List Symbol) (b b2 : List (List Elem)) (c c2 g g2 : List GroundAtom) → a ≡ a2 → b ≡ b2 → c ≡ c2
        → g ≡ g2
        → of a b c g ≡ of a2 b2 c2 g2
    made a a2 b b2 c c2 g g2 w x y z =
        ap (λ q. of q b c g) w ∙ ap (λ q. of a2 q c g) x ∙ ap (λ q. of a2 b2 q g) y ∙ ap (of a2 b2 c2) z

pub one_of_both : (k j : KnownAtoms) → IsListed k → IsListed j → KnowsMore k j → KnowsMore j k → k ≡ j
one_of_both k j lk lj up down =
    let atoms : atoms_over k.symbols k.domains ≡ atoms_over j.symbols j.domains =
    ap (λ s. atoms_over s k.domains) (sym up.symbols) ∙ ap (atoms_over j.symbols) (sym up.domains) in
    by_parts k j (sym up.symbols) (sym up.domains)
    (lk.true_listed ∙ same_filter (λ a. list_any (same_atom a) k.true_atoms) (λ a. list_any (same_atom a) j.true_atoms)
    (same_any k.true_atoms j.true_atoms up.true_atoms down.true_atoms) (atoms_over k.symbols k.domains)
    ∙ ap (filter (λ a. list_any (same_atom a) j.true_atoms)) atoms ∙ sym lj.true_listed)
    (lk.false_listed ∙ same_filter (λ a. list_any (same_atom a) k.false_atoms)
    (λ a. list_any (same_atom a) j.false_atoms)
    (same_any k.false_atoms j.false_atoms up.false_atoms down.false_atoms) (atoms_over k.symbols k.domains)
    ∙ ap (filter (λ a. list_any (same_atom a) j.false_atoms)) atoms ∙ sym lj.false_listed)

pub one_narrowed : OneNarrowed
one_narrowed t s k j nk nj =
    one_of_both k j nk.closed.listed nj.closed.listed (nk.least j nj.closed) (nj.least k nk.closed)
