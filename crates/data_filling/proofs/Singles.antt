-- A fact of one tuple says that its atom is true, or that it is false.
use Rattle.std.proofs.Common.{◌≡◌, ◌==◌, ℕ, Bool, true, false, not, ◌&&◌, List, [], ◌∷◌, map, Option, None, Some}
use Rattle.std.proofs.Common.{option_map, slice_get, refl, sym, ap, subst, ◌∙◌, Contains}
use Rattle.std.proofs.lemmas.Bool.{and_parts, and_from, eqb-true, eq-eqb}
use Rattle.kb_logic.specs.declared.elements.Elem.{Elem}
use Rattle.kb_logic.specs.declared.vocabularies.Symbol.{Symbol}
use Rattle.kb_logic.specs.Denotations.{denotation_of}
use Rattle.kb_logic.specs.Models.{GroundAtom, HasValueIn, IsAtomOver}
use Rattle.kb_logic.specs.Structures.{EachWith, domain_at}
use Rattle.kb_logic.proofs.Atoms.{elements_tuple}
use Rattle.kb_logic.proofs.Members.{first}
use Rattle.partial_structures.specs.KnownAtoms.{same_row, same_option, same_atom, is_rival, both_values}
use Rattle.partial_structures.proofs.Sames.{row_is, row_itself, atom_is, atom_itself, atom_by}
use Rattle.stage_definitions.specs.Elements.{one, same_element}
use Rattle.stage_definitions.specs.DataFacts.{Fact, are_in, is_about, are_opposed, same_value_of, says_true, says_false}
use Rattle.reading_laws.proofs.Same.{is_same, itself, same_value_is, value_itself}
use Rattle.data_filling.specs.Filling.{IsCellOver, IsFactOver, fact_with, atom_with}
use Rattle.data_filling.proofs.Lists.{both_ways, same_turned}

-- the elements are in these cells exactly where they are these elements
single_row : (ys xs : List Elem) → are_in ys (map (λ x. one x) xs) ≡ same_row ys (map denotation_of xs)
single_row [] [] = refl
single_row [] (x ∷ xs) = refl
single_row (y ∷ ys) [] = refl
single_row (y ∷ ys) (x ∷ xs) = ap (λ b. same_element y x && b) (single_row ys xs)

module _ (f : Fact) (xs : List Elem) where
  abbrev here : GroundAtom
  here = atom_with f xs

  abbrev fact : Fact
  fact = fact_with f xs

  -- the fact is about this atom, and its value is the atom's
  abbrev is_its : GroundAtom → Bool
  is_its b = is_about b fact && same_value_of f.value b.value

  its_is : (b : GroundAtom) → is_its b ≡ true → b ≡ here
  its_is b h =
      let outer = and_parts (is_about b fact) (same_value_of f.value b.value) h in
      let inner = and_parts (f.symbol == b.symbol) (are_in b.args (map (λ x. one x) xs)) outer.0 in
      atom_by b here (sym (eqb-true f.symbol b.symbol inner.0))
      (row_is b.args xs (sym (single_row b.args xs) ∙ inner.1)) (sym (same_value_is f.value b.value outer.1))

  here_its : is_its here ≡ true
  here_its =
      and_from (is_about here fact) (same_value_of f.value f.value)
      (and_from (f.symbol == f.symbol) (are_in xs (map (λ x. one x) xs)) (eq-eqb f.symbol f.symbol refl)
      (single_row xs xs ∙ row_itself xs)) (value_itself f.value)

  pub its_atom : (b : GroundAtom) → is_its b ≡ same_atom here b
  its_atom b =
      both_ways (is_its b) (same_atom here b)
      (λ h. subst (λ (c : GroundAtom). same_atom here c ≡ true) (sym (its_is b h)) (atom_itself here))
      (λ h. subst (λ (c : GroundAtom). is_its c ≡ true) (sym (atom_is here b h)) here_its)

  pub true_is : (b : GroundAtom) → f.holds ≡ true → says_true b fact ≡ same_atom here b
  true_is b h = ap (λ t. is_about b fact && (t && same_value_of f.value b.value)) h ∙ its_atom b

  pub true_is_not : (b : GroundAtom) → f.holds ≡ false → says_true b fact ≡ false
  true_is_not b h = ap (λ t. is_about b fact && (t && same_value_of f.value b.value)) h ∙ none (is_about b fact)
    where
      none : (a : Bool) → (a && false) ≡ false
      none true = refl
      none false = refl

  pub false_is : (b : GroundAtom) → f.holds ≡ false → says_false b fact ≡ same_atom here b
  false_is b h = ap (λ t. is_about b fact && are_opposed true t (same_value_of f.value b.value)) h ∙ its_atom b

  -- ---- other values of a function

  other : (domains : List (List Elem)) (v : Option ℕ) (o u : Option Elem) → HasValueIn domains v o
      → HasValueIn domains v u
      → not (same_value_of o u) ≡ (both_values o u && not (same_option u (option_map denotation_of o)))
  other domains None None None h k = refl
  other domains None None (Some y) h k = absurd k
  other domains None (Some x) u h k = absurd h
  other domains (Some t) None u h k = absurd h
  other domains (Some t) (Some x) None h k = absurd k
  other domains (Some t) (Some x) (Some y) h k = ap not (turned x y)
    where
      turned : (z w : Elem) → same_element z w ≡ same_element w z
      turned z w = both_ways (same_element z w) (same_element w z)
          (λ e. ap (λ q. same_element q z) (sym (is_same z w e)) ∙ itself z)
          (λ e. ap (λ q. same_element q w) (sym (is_same w z e)) ∙ itself w)

  regrouped : (a b c d : Bool) → (a ≡ true → c ≡ d) → ((a && b) && c) ≡ (a && (b && d))
  regrouped true true c d h = h refl
  regrouped true false c d h = refl
  regrouped false b c d h = refl

  module _ (symbols : List Symbol) (domains : List (List Elem)) (over : IsFactOver symbols domains fact) where
    pub rival_is : (b : GroundAtom) → f.holds ≡ true → IsAtomOver symbols domains b → says_false b fact
        ≡ is_rival here b
    rival_is b h atom =
        ap (λ t. is_about b fact && are_opposed true t (same_value_of f.value b.value)) h
        ∙ ap (λ r. ((f.symbol == b.symbol) && r) && not (same_value_of f.value b.value)) (single_row b.args xs)
        ∙ regrouped (f.symbol == b.symbol) (same_row b.args (map denotation_of xs))
        (not (same_value_of f.value b.value)) (both_values f.value b.value && not
        (same_option b.value (option_map denotation_of f.value)))
        (λ e. other domains over.declared.value f.value b.value over.value
        (subst (λ (d : Symbol). HasValueIn domains d.value b.value) (same_symbol e) atom.3))
        ∙ ap (λ e. e && (same_row b.args (map denotation_of xs) &&
        (both_values f.value b.value && not (same_option b.value (option_map denotation_of f.value)))))
        (same_turned f.symbol b.symbol)
      where
        same_symbol : (f.symbol == b.symbol) ≡ true → atom.0 ≡ over.declared
        same_symbol e =
            let at : slice_get symbols f.symbol ≡ Some atom.0 = ap (slice_get symbols) (eqb-true f.symbol b.symbol e)
            ∙ atom.1 in
            let is : Some atom.0 ≡ Some over.declared = sym at ∙ over.at in
            cc

    elements_over : (types : List ℕ) (ys : List Elem) → EachWith (IsCellOver domains) types (map (λ x. one x) ys)
        → EachWith (λ ty x. Contains (domain_at domains ty) x) types ys
    elements_over [] [] h = tt
    elements_over [] (y ∷ ys) h = h
    elements_over (t ∷ ts) [] h = h
    elements_over (t ∷ ts) (y ∷ ys) h = (h.0 y (first y []), elements_over ts ys h.1)

    pub atom_over : IsAtomOver symbols domains here
    atom_over = (
      over.declared,
      over.at,
      elements_tuple domains over.declared.args xs
          (elements_over over.declared.args xs over.args),
      over.value,
    )
