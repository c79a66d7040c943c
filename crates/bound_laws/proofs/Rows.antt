-- What is known of a function's atoms where its value is known.
use Rattle.std.proofs.Common.{◌≡◌, ℕ, List, map, Bool, true, false, ◌&&◌, ◌==◌, not, if◌then◌else◌, Option, None, Some}
use Rattle.std.proofs.Common.{refl, sym, ap, ◌∙◌, subst, slice_get}
use Rattle.std.specs.List.{list_any, Contains}
use Rattle.std.specs.Option.{option_map}
use Rattle.std.proofs.lemmas.Bool.{and_from, eq-eqb}
use Rattle.kb_logic.specs.declared.elements.Elem.{Elem}
use Rattle.kb_logic.specs.declared.vocabularies.Symbol.{Symbol}
use Rattle.kb_logic.specs.Structures.{domain_at, tuples_of}
use Rattle.kb_logic.specs.Denotations.{Denotation, denotation_of, same_value}
use Rattle.kb_logic.specs.Models.{GroundAtom, HasValueIn, IsAtomOver}
use Rattle.kb_logic.proofs.Members.{all_in, one_is_some}
use Rattle.kb_logic.proofs.Atoms.{same_is, tuple_elements}
use Rattle.kb_logic.proofs.Has.{has_from, contains_from}
use Rattle.partial_structures.specs.KnownAtoms.{KnownAtoms, is_atom, same_row, same_option, value_of_row, is_rival}
use Rattle.partial_structures.specs.KnownAtoms.{both_values}
use Rattle.partial_structures.specs.Applications.{given_value, applied_known, arguments_typed, result_typed}
use Rattle.partial_structures.specs.Applications.{value_typed}
use Rattle.partial_structures.specs.Consistency.{IsConsistent, IsListed}
use Rattle.partial_structures.specs.declared.truths.Truth.{Truth}
use Rattle.partial_structures.specs.declared.truths.Truth.TheVariants.{Yes, No, Unknown}
use Rattle.partial_structures.proofs.Sames.{row_itself, element_itself}
use Rattle.partial_structures.proofs.Walks.{given_found, stands, stands_is, typed_tuple}

-- an atom of the function with this value is known
abbrev pub KnownRow : KnownAtoms → ℕ → List Denotation → Denotation → Type 0
KnownRow k s vs w = value_of_row k s vs (Some w) ≡ Unknown → ⊥

true_known : (k : KnownAtoms) (s : ℕ) (vs : List Denotation) (w : Denotation)
    → list_any (is_atom s vs (Some w)) k.true_atoms ≡ true → KnownRow k s vs w
true_known k s vs w h e = by (value_of_row k s vs (Some w)) e
    (ap (λ b. if b then Yes else (if list_any (is_atom s vs (Some w)) k.false_atoms then No else Unknown)) h)
  where
    by : (t : Truth) → t ≡ Unknown → t ≡ Yes → ⊥
    by t a b = cc

false_known : (k : KnownAtoms) (s : ℕ) (vs : List Denotation) (w : Denotation)
    → list_any (is_atom s vs (Some w)) k.false_atoms ≡ true → KnownRow k s vs w
false_known k s vs w h e = by (list_any (is_atom s vs (Some w)) k.true_atoms)
    (sym (ap (λ b. if list_any (is_atom s vs (Some w)) k.true_atoms then Yes else (if b then No else Unknown)) h) ∙ e)
  where
    by : (t : Bool) → (if t then Yes else No) ≡ Unknown → ⊥
    by true e = cc
    by false e = cc

-- the value type has an element of this value
result_element : (k : KnownAtoms) (o : Option ℕ) (w : Denotation) → value_typed k o w ≡ true
    → (y : Elem) × HasValueIn k.domains o (Some y) × (denotation_of y ≡ w)
result_element k None w h = absurd (cc)
result_element k (Some ty) w h = let r = stands (domain_at k.domains ty) w h in (r.0, r.1, r.2)

rival_of : (a : GroundAtom) (s : ℕ) (x y : Elem) → a.value ≡ Some x
    → same_value (denotation_of y) (denotation_of x) ≡ false
    → is_rival a (record { symbol = a.symbol; args = a.args; value = Some y }) ≡ true
rival_of a s x y e differ =
    and_from (a.symbol == a.symbol) _ (eq-eqb a.symbol a.symbol refl)
    (and_from (same_row a.args (map denotation_of a.args)) _ (row_itself a.args)
    (subst (λ o. (both_values o (Some y) && not (same_option (Some y) (option_map denotation_of o))) ≡ true) (sym e)
    (ap not differ)))

is_that : (s : ℕ) (vs : List Denotation) (y : Elem) (w : Denotation) (a : GroundAtom) → a.symbol ≡ s
    → map denotation_of a.args ≡ vs → same_value (denotation_of y) w ≡ true → a.value ≡ Some y
    → is_atom s vs (Some w) a ≡ true
is_that s vs y w a e r h v =
    and_from (a.symbol == s) _ (eq-eqb a.symbol s e)
    (and_from (same_row a.args vs) _ (subst (λ us. same_row a.args us ≡ true) r (row_itself a.args))
    (subst (λ o. same_option o (Some w) ≡ true) (sym v) h))

same_values : (x y : Elem) (w : Denotation) → denotation_of y ≡ w
    → same_value (denotation_of y) (denotation_of x) ≡ true
    → same_value (denotation_of x) w ≡ true
same_values x y w e h =
    let is : denotation_of y ≡ denotation_of x = same_is (denotation_of y) (denotation_of x) h in
    subst (λ u. same_value (denotation_of x) u ≡ true) (sym is ∙ e) (element_itself x)

module _ (k : KnownAtoms) (whole : IsConsistent k) (listed : IsListed k) where
  value_row : (s : ℕ) (vs : List Denotation) (w : Denotation) (x : Elem) (a : GroundAtom) → Contains k.true_atoms a
      → a.symbol ≡ s → map denotation_of a.args ≡ vs → a.value ≡ Some x → (d : Symbol)
      → slice_get k.symbols a.symbol ≡ Some d
      → Contains (tuples_of k.domains d.args) a.args → (y : Elem) → HasValueIn k.domains d.value (Some y)
      → denotation_of y ≡ w → (same : Bool) → same_value (denotation_of y) (denotation_of x) ≡ same → KnownRow k s vs w
  value_row s vs w x a here e r v d at tuple y within is true h =
      true_known k s vs w (one_is_some (is_atom s vs (Some w)) k.true_atoms a here
      (is_that s vs x w a e r (same_values x y w is h) v))
  value_row s vs w x a here e r v d at tuple y within is false h =
      let b : GroundAtom = record { symbol = a.symbol; args = a.args; value = Some y } in
      false_known k s vs w (one_is_some (is_atom s vs (Some w)) k.false_atoms b
      (listed.rivals a b here (d, at, tuple, within) (rival_of a s x y v h))
      (is_that s vs y w b e r (subst (λ u. same_value (denotation_of y) u ≡ true) is (element_itself y)) refl))

  given_row : (s : ℕ) (vs : List Denotation) (w : Denotation) (x : Elem) → given_value s vs k.true_atoms ≡ Some x
      → result_typed k (slice_get k.symbols s) w ≡ true → KnownRow k s vs w
  given_row s vs w x e typed =
      let g = given_found s vs k.true_atoms x e in
      let here = contains_from k.true_atoms g.0 g.1 in
      let over = all_in _ k.true_atoms whole.over g.0 here in
      let at : slice_get k.symbols s ≡ Some over.0 = ap (slice_get k.symbols) (sym g.2) ∙ over.1 in
      let y = result_element k over.0.value w (subst (λ o. result_typed k o w ≡ true) at typed) in
      value_row s vs w x g.0 here g.2 g.3 g.4 over.0 over.1 over.2 y.0 y.1 y.2
      (same_value (denotation_of y.0) (denotation_of x)) refl

  pub known_row : (s : ℕ) (vs : List Denotation) (w d : Denotation) → applied_known k s (Some vs) ≡ Some d
      → result_typed k (slice_get k.symbols s) w ≡ true → KnownRow k s vs w
  known_row s vs w d e typed = by (given_value s vs k.true_atoms) refl e
    where
      by : (o : Option Elem) → given_value s vs k.true_atoms ≡ o → option_map denotation_of o ≡ Some d
          → KnownRow k s vs w
      by None h e = absurd (cc)
      by (Some x) h e = given_row s vs w x h typed

-- ---- an atom over the domains is applied within its types

pub args_typed : (k : KnownAtoms) (a : GroundAtom) → IsAtomOver k.symbols k.domains a
    → arguments_typed k (slice_get k.symbols a.symbol) (map denotation_of a.args) ≡ true
args_typed k a over = ap (λ o. arguments_typed k o (map denotation_of a.args)) over.1
    ∙ typed_tuple k.domains over.0.args a.args (tuple_elements k.domains over.0.args a.args over.2)

value_in : (k : KnownAtoms) (o : Option ℕ) (x : Elem) → HasValueIn k.domains o (Some x)
    → value_typed k o (denotation_of x) ≡ true
value_in k None x h = absurd h
value_in k (Some ty) x h = stands_is (domain_at k.domains ty) x (has_from (domain_at k.domains ty) x h)

pub result_of : (k : KnownAtoms) (a : GroundAtom) (x : Elem) → IsAtomOver k.symbols k.domains a → a.value ≡ Some x
    → result_typed k (slice_get k.symbols a.symbol) (denotation_of x) ≡ true
result_of k a x over e = ap (λ o. result_typed k o (denotation_of x)) over.1
    ∙ value_in k over.0.value x (subst (HasValueIn k.domains over.0.value) e over.3)

pub none_named : (o : Option Elem) → None ≡ option_map (λ x. Some (denotation_of x)) o
    → option_map denotation_of o ≡ None
none_named None h = refl
none_named (Some x) h = absurd (cc)

pub some_named : (u : Option Denotation) (o : Option Elem) → Some u ≡ option_map (λ x. Some (denotation_of x)) o
    → (x : Elem) × (o ≡ Some x) × (u ≡ Some (denotation_of x))
some_named u None h = absurd (cc)
some_named u (Some x) h = (x, refl, cc)
