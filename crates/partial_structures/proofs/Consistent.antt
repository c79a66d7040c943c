-- What a partial structure knows is consistent.
use Rattle.std.proofs.Common.{◌≡◌, ℕ, List, ◌∷◌, map, filter, reverse, Bool, true, false, not, ◌&&◌, ◌==◌, cond, Option}
use Rattle.std.proofs.Common.{None, Some, option_map, refl, sym, ap, ◌∙◌, subst, slice_get, inl, inr}
use Rattle.std.specs.List.{Contains, AllByRecursion, list_any}
use Rattle.std.proofs.lemmas.Bool.{cases_Bool, and_parts, eqb-true, true≢false}
use Rattle.kb_logic.specs.declared.elements.Elem.{Elem}
use Rattle.kb_logic.specs.declared.vocabularies.Symbol.{Symbol}
use Rattle.kb_logic.specs.Denotations.{denotation_of, same_value}
use Rattle.kb_logic.specs.Models.{GroundAtom, HasValueIn}
use Rattle.kb_logic.specs.Structures.{IsDistinct}
use Rattle.kb_logic.proofs.Atoms.{some_same}
use Rattle.kb_logic.proofs.Members.{in_all, from_filter}
use Rattle.partial_structures.specs.KnownAtoms.{IsAtomOver, atoms_over, same_row, same_option, same_atom, both_values}
use Rattle.partial_structures.specs.KnownAtoms.{is_rival}
use Rattle.partial_structures.specs.Consistency.{IsConsistent, IsListed}
use Rattle.partial_structures.specs.Flags.{is_closed}
use Rattle.row_tries.specs.Rows.{mark_of, label_of, same_optional_label}
use Rattle.partial_structures.specs.AtomRows.{status_of, value_status, settled, denied}
use Rattle.partial_structures.specs.Status.{is_yes, is_no, status, known_atoms}
use Rattle.row_tries.specs.Words.{words_in}
use Rattle.row_tries.specs.declared.rows.Label.{Label}
use Rattle.row_tries.specs.declared.truths.Truth.{Truth}
use Rattle.row_tries.specs.declared.truths.Truth.TheVariants.{Yes, No, Unknown}
use Rattle.partial_structures.specs.declared.partial.Partial.TheInside.{Inside}
use Rattle.kb_logic.proofs.Has.{has_from, contains_from, filter-same}
use Rattle.partial_structures.proofs.Listed.{listed}
use Rattle.row_tries.proofs.Nodes.{label_injective, same_label_is}
use Rattle.partial_structures.proofs.Sames.{atom_by, row_is, element_itself}
use Rattle.partial_structures.proofs.Statuses.{never_yes}
use Rattle.kb_logic.proofs.Tables.{passes_filter, has_filter}
use Rattle.kb_logic.proofs.AllAtoms.{atom_listed, listed_over}
use Rattle.partial_structures.proofs.Walks.{yes_label}

never_both : (t : Truth) → is_yes t ≡ true → is_no t ≡ true → ⊥
never_both Yes h i = cc
never_both No h i = cc
never_both Unknown h i = cc

yes_is : (t : Truth) → is_yes t ≡ true → t ≡ Yes
yes_is Yes h = refl
yes_is No h = cc
yes_is Unknown h = cc

same_optional_is : (l : Label) (o : Option Label) → same_optional_label l o ≡ true → o ≡ Some l
same_optional_is l None h = absurd cc
same_optional_is l (Some k) h = ap Some (sym (same_label_is l k h))

is_false : (b : Bool) → not b ≡ true → b ≡ false
is_false true h = cc
is_false false h = refl

same_label_there : (o : Option Label) (k l : Label) → o ≡ Some k → o ≡ Some l → k ≡ l
same_label_there o k l e f = cc

module _ (p : Inside) where
  over : (a : GroundAtom) → Contains (known_atoms p).true_atoms a → IsAtomOver p.symbols p.domains a
  over a at = listed_over p.symbols p.domains a (has_from (atoms_over p.symbols p.domains) a
      (from_filter (λ b. is_yes (status p b)) (atoms_over p.symbols p.domains) a at))

  true_yes : (a : GroundAtom) → Contains (known_atoms p).true_atoms a → is_yes (status p a) ≡ true
  true_yes a at = passes_filter (λ b. is_yes (status p b)) (atoms_over p.symbols p.domains) a
      (has_from (filter (λ b. is_yes (status p b)) (atoms_over p.symbols p.domains)) a at)

  false_no : (a : GroundAtom) → Contains (known_atoms p).false_atoms a → is_no (status p a) ≡ true
  false_no a at = passes_filter (λ b. is_no (status p b)) (atoms_over p.symbols p.domains) a
      (has_from (filter (λ b. is_no (status p b)) (atoms_over p.symbols p.domains)) a at)

  -- the label of a true atom's value stands at its arguments
  value_stands : (s : ℕ) (xs : List Elem) (o : Option Elem) (x : Elem) → o ≡ Some x
      → status_of (words_in p.rows.words) p.rows.nodes.entries (is_closed p.closed.items s) s xs o ≡ Yes
      → (l : Label) × ((mark_of (words_in p.rows.words) p.rows.nodes.entries s (reverse xs)).value ≡ Some l)
      × (label_of (words_in p.rows.words) x ≡ Some l)
  value_stands s xs o x e h =
      yes_label (mark_of (words_in p.rows.words) p.rows.nodes.entries s (reverse xs)).value
      (label_of (words_in p.rows.words) x)
      (settled (is_closed p.closed.items s) (denied (mark_of (words_in p.rows.words) p.rows.nodes.entries s
      (x ∷ reverse xs)).known))
      (subst (λ v. status_of (words_in p.rows.words) p.rows.nodes.entries (is_closed p.closed.items s) s xs
      v ≡ Yes) e h)
      (never_yes (is_closed p.closed.items s) (mark_of (words_in p.rows.words) p.rows.nodes.entries s
      (x ∷ reverse xs)).known)

  same_values : (s : ℕ) (xs : List Elem) (u w : Option Elem) (ty : Option ℕ) → HasValueIn p.domains ty u
      → HasValueIn p.domains ty w
      → status_of (words_in p.rows.words) p.rows.nodes.entries (is_closed p.closed.items s) s xs u ≡ Yes
      → status_of (words_in p.rows.words) p.rows.nodes.entries (is_closed p.closed.items s) s xs w ≡ Yes → u ≡ w
  same_values s xs None None None h i e f = refl
  same_values s xs None (Some y) None h i e f = absurd i
  same_values s xs (Some x) w None h i e f = absurd h
  same_values s xs None w (Some ty) h i e f = absurd h
  same_values s xs (Some x) None (Some ty) h i e f = absurd i
  same_values s xs (Some x) (Some y) (Some ty) h i e f =
      let u = value_stands s xs (Some x) x refl e in
      let w = value_stands s xs (Some y) y refl f in
      let same : w.0 ≡ u.0 = same_label_there (mark_of (words_in p.rows.words) p.rows.nodes.entries s
      (reverse xs)).value w.0 u.0 w.1 u.1 in
      ap Some (label_injective (words_in p.rows.words) x y u.0 u.2 (w.2 ∙ ap Some same))

  one_value : (a b : GroundAtom) → Contains (known_atoms p).true_atoms a → Contains (known_atoms p).true_atoms b
      → a.symbol ≡ b.symbol → a.args ≡ b.args → a ≡ b
  one_value a b at bt e f =
      let u = over a at in
      let w = over b bt in
      let same : w.0 ≡ u.0 = some_same w.0 u.0 (sym w.1 ∙ ap (slice_get p.symbols) (sym e) ∙ u.1) in
      let value : HasValueIn p.domains u.0.value b.value = subst
      (λ (d : Symbol). HasValueIn p.domains d.value b.value) same w.3 in
      let yes_ : status_of (words_in p.rows.words) p.rows.nodes.entries (is_closed p.closed.items a.symbol) a.symbol
      a.args b.value ≡ Yes =
      subst (λ xs. status_of (words_in p.rows.words) p.rows.nodes.entries (is_closed p.closed.items a.symbol) a.symbol
      xs b.value ≡ Yes) (sym f)
      (subst (λ s. status_of (words_in p.rows.words) p.rows.nodes.entries (is_closed p.closed.items s) s b.args b.value
      ≡ Yes) (sym e) (yes_is (status p b) (true_yes b bt))) in
      atom_by a b e f (same_values a.symbol a.args a.value b.value u.0.value u.3 value
      (yes_is (status p a) (true_yes a at)) yes_)

  pub known_is_consistent : IsConsistent (known_atoms p)
  known_is_consistent = record {
    over = in_all (IsAtomOver p.symbols p.domains) (known_atoms p).true_atoms over;
    single = one_value;
    apart = λ a at bt. never_both (status p a) (true_yes a at) (false_no a bt);
  }

  -- ---- how it is listed

  value_no : (v o : Option Label) (l : Label) (row : Truth) → v ≡ Some l → same_optional_label l o ≡ false
      → value_status v o row ≡ No
  value_no v o l row e h = ap (λ w. value_status w o row) e ∙ ap (λ b. cond b Yes No) h

  -- an element with the label of another one is the other one
  not_labelled : (x y : Elem) (l : Label) → label_of (words_in p.rows.words) x ≡ Some l
      → same_value (denotation_of y) (denotation_of x) ≡ false → same_optional_label l
      (label_of (words_in p.rows.words) y) ≡ false
  not_labelled x y l at other = elim (cases_Bool (same_optional_label l (label_of (words_in p.rows.words) y))) [
    | inl e ↦
        let same : x ≡ y = label_injective (words_in p.rows.words) x y l at
        (same_optional_is l (label_of (words_in p.rows.words) y) e) in
        absurd (true≢false (sym (ap (λ z. same_value (denotation_of y) (denotation_of z)) same ∙ element_itself y)
        ∙ other))
    | inr e ↦ e
  ]

  rival_value : (s : ℕ) (xs : List Elem) (u w : Option Elem) → both_values u w ≡ true
      → not (same_option w (option_map denotation_of u)) ≡ true
      → status_of (words_in p.rows.words) p.rows.nodes.entries (is_closed p.closed.items s) s xs u ≡ Yes
      → status_of (words_in p.rows.words) p.rows.nodes.entries (is_closed p.closed.items s) s xs w ≡ No
  rival_value s xs None w h other yes_ = absurd cc
  rival_value s xs (Some x) None h other yes_ = absurd cc
  rival_value s xs (Some x) (Some y) h other yes_ =
      let v = value_stands s xs (Some x) x refl yes_ in
      value_no (mark_of (words_in p.rows.words) p.rows.nodes.entries s (reverse xs)).value
      (label_of (words_in p.rows.words) y) v.0
      (settled (is_closed p.closed.items s) (denied (mark_of (words_in p.rows.words) p.rows.nodes.entries s
      (y ∷ reverse xs)).known)) v.1
      (not_labelled x y v.0 v.2 (is_false (same_value (denotation_of y) (denotation_of x)) other))

  rival_status : (a b : GroundAtom) → is_rival a b ≡ true → status p a ≡ Yes → status p b ≡ No
  rival_status a b h yes_ =
      let symbol = and_parts (b.symbol == a.symbol) (same_row b.args (map denotation_of a.args) &&
      (both_values a.value b.value && not (same_option b.value (option_map denotation_of a.value)))) h in
      let args = and_parts (same_row b.args (map denotation_of a.args))
      (both_values a.value b.value && not (same_option b.value (option_map denotation_of a.value))) symbol.1 in
      let values = and_parts (both_values a.value b.value) (not
      (same_option b.value (option_map denotation_of a.value))) args.1 in
      let same : b.symbol ≡ a.symbol = eqb-true b.symbol a.symbol symbol.0 in
      let here = rival_value a.symbol a.args a.value b.value values.0 values.1 yes_ in
      subst (λ s. status_of (words_in p.rows.words) p.rows.nodes.entries (is_closed p.closed.items s) s b.args b.value
      ≡ No) (sym same)
      (subst (λ xs. status_of (words_in p.rows.words) p.rows.nodes.entries (is_closed p.closed.items a.symbol) a.symbol
      xs b.value ≡ No) (sym (row_is b.args a.args args.0)) here)

  rivals_false : (a b : GroundAtom) → Contains (known_atoms p).true_atoms a → IsAtomOver p.symbols p.domains b
      → is_rival a b ≡ true → Contains (known_atoms p).false_atoms b
  rivals_false a b at over' h =
      let atoms = atoms_over p.symbols p.domains in
      let no_ : is_no (status p b) ≡ true = ap is_no (rival_status a b h (yes_is (status p a) (true_yes a at))) in
      contains_from (filter (λ c. is_no (status p c)) atoms) b (has_filter (λ c. is_no (status p c)) atoms b
      (atom_listed p.symbols p.domains b over') no_)

  in_order : (P : GroundAtom → Bool) → filter P (atoms_over p.symbols p.domains)
      ≡ filter (λ a. list_any (same_atom a) (filter P (atoms_over p.symbols p.domains)))
      (atoms_over p.symbols p.domains)
  in_order P = filter-same P (λ a. list_any (same_atom a) (filter P (atoms_over p.symbols p.domains)))
      (atoms_over p.symbols p.domains) (λ a m. sym (listed (atoms_over p.symbols p.domains) P a m))

  pub known_is_listed : AllByRecursion IsDistinct p.domains → IsListed (known_atoms p)
  known_is_listed distinct = record {
    distinct = distinct;
    false_over = in_all (IsAtomOver p.symbols p.domains) (known_atoms p).false_atoms
        (λ a at. listed_over p.symbols p.domains a (has_from (atoms_over p.symbols p.domains) a
        (from_filter (λ b. is_no (status p b)) (atoms_over p.symbols p.domains) a at)));
    true_listed = in_order (λ a. is_yes (status p a));
    false_listed = in_order (λ a. is_no (status p a));
    rivals = rivals_false;
  }
