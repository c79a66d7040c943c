-- The tests of equality decide.
use Rattle.std.proofs.Common.{◌≡◌, ℕ, List, [], ◌∷◌, map, true, ◌&&◌, ◌==◌, Option, None, Some, refl, sym, ap, ◌∙◌}
use Rattle.std.proofs.Common.{option_map, ◌⊎◌, inl, inr}
use Rattle.std.proofs.lemmas.Bool.{eqb-true, eq-eqb, and_parts, and_from, cases_Bool, true≢false}
use Rattle.std.proofs.lemmas.Bool.Decides.{Decides-int_eq}
use Rattle.std.proofs.lemmas.Slice.Eq.{bytes_eq-Decides}
use Rattle.kb_logic.specs.declared.elements.Elem.{Elem}
use Rattle.kb_logic.specs.declared.elements.Elem.TheVariants.{Named, Num}
use Rattle.kb_logic.specs.Denotations.{denotation_of, same_value}
use Rattle.kb_logic.specs.Models.{GroundAtom}
use Rattle.partial_structures.specs.KnownAtoms.{same_row, same_option, same_atom}

pub same_element : (x y : Elem) → same_value (denotation_of x) (denotation_of y) ≡ true → x ≡ y
same_element (Named q) (Named r) h = ap Named ((bytes_eq-Decides q r).0 h)
same_element (Named q) (Num z) h = absurd (cc)
same_element (Num y) (Named r) h = absurd (cc)
same_element (Num y) (Num z) h = ap Num ((Decides-int_eq y z).0 h)

pub element_itself : (x : Elem) → same_value (denotation_of x) (denotation_of x) ≡ true
element_itself (Named q) = (bytes_eq-Decides q q).1 refl
element_itself (Num z) = (Decides-int_eq z z).1 refl

pub row_is : (xs ys : List Elem) → same_row xs (map denotation_of ys) ≡ true → xs ≡ ys
row_is [] [] h = refl
row_is [] (y ∷ ys) h = absurd (cc)
row_is (x ∷ xs) [] h = absurd (cc)
row_is (x ∷ xs) (y ∷ ys) h =
    let both = and_parts (same_value (denotation_of x) (denotation_of y)) (same_row xs (map denotation_of ys)) h in
    let first = same_element x y both.0 in
    let rest = row_is xs ys both.1 in
    cc

pub row_itself : (xs : List Elem) → same_row xs (map denotation_of xs) ≡ true
row_itself [] = refl
row_itself (x ∷ xs) = and_from (same_value (denotation_of x) (denotation_of x)) (same_row xs (map denotation_of xs))
    (element_itself x) (row_itself xs)

pub option_is : (o u : Option Elem) → same_option o (option_map denotation_of u) ≡ true → o ≡ u
option_is None None h = refl
option_is None (Some y) h = absurd (cc)
option_is (Some x) None h = absurd (cc)
option_is (Some x) (Some y) h = ap Some (same_element x y h)

pub option_itself : (o : Option Elem) → same_option o (option_map denotation_of o) ≡ true
option_itself None = refl
option_itself (Some x) = element_itself x

-- atoms are equal where their parts are
pub atom_by : (a b : GroundAtom) → a.symbol ≡ b.symbol → a.args ≡ b.args → a.value ≡ b.value → a ≡ b
atom_by a b s r v = λ i. record { symbol = s i; args = r i; value = v i }

pub atom_is : (a b : GroundAtom) → same_atom a b ≡ true → b ≡ a
atom_is a b h =
    let symbol = and_parts (b.symbol == a.symbol) (same_row b.args (map denotation_of a.args) && same_option b.value
    (option_map denotation_of a.value)) h in
    let rest = and_parts (same_row b.args (map denotation_of a.args))
    (same_option b.value (option_map denotation_of a.value)) symbol.1 in
    atom_by b a (eqb-true b.symbol a.symbol symbol.0) (row_is b.args a.args rest.0) (option_is b.value a.value rest.1)

pub atom_itself : (a : GroundAtom) → same_atom a a ≡ true
atom_itself a =
    and_from (a.symbol == a.symbol) (same_row a.args (map denotation_of a.args) && same_option a.value
    (option_map denotation_of a.value)) (eq-eqb a.symbol a.symbol refl)
    (and_from (same_row a.args (map denotation_of a.args)) (same_option a.value (option_map denotation_of a.value))
    (row_itself a.args) (option_itself a.value))

-- two rows are equal or not
pub row_cases : (r s : ℕ) (ys xs : List Elem) → ((r ≡ s) × (ys ≡ xs)) ⊎ ((r ≡ s) × (ys ≡ xs) → ⊥)
row_cases r s ys xs = elim (cases_Bool ((r == s) && same_row ys (map denotation_of xs))) [
  | inl h ↦ let both = and_parts (r == s) (same_row ys (map denotation_of xs)) h in
      inl (eqb-true r s both.0, row_is ys xs both.1)
  | inr h ↦ inr (λ e. true≢false (sym (and_from (r == s) (same_row ys (map denotation_of xs)) (eq-eqb r s e.0)
      (ap (λ zs. same_row zs (map denotation_of xs)) e.1 ∙ row_itself xs)) ∙ h))
]
