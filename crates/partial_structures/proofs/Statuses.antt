-- What a change of the rows makes of the atoms.
use Rattle.std.proofs.Common.{◌≡◌, ℕ, suc, zero, ◌<◌, arith, length, slice_set, List, [], ◌∷◌, reverse, map, Bool, true}
use Rattle.std.proofs.Common.{false, ◌||◌, ◌&&◌, ◌==◌, not, Option, None, Some, if◌then◌else◌, refl, sym, ap, ◌∙◌, ◌⊎◌}
use Rattle.std.proofs.Common.{inl, inr, is_some, subst, option_map}
use Rattle.std.proofs.lemmas.Bool.{cases_Bool, true≢false, false_from_ne_true, and_from, and_parts, eqb-true, and_left}
use Rattle.std.proofs.lemmas.Bool.{and_right, eq-eqb}
use Rattle.std.proofs.lemmas.List.{reverse-reverse}
use Rattle.kb_logic.specs.declared.elements.Elem.{Elem}
use Rattle.kb_logic.specs.Denotations.{denotation_of, same_value}
use Rattle.kb_logic.specs.Models.{GroundAtom}
use Rattle.partial_structures.specs.KnownAtoms.{same_row, same_option, same_atom, both_values, is_rival}
use Rattle.row_tries.specs.Rows.{same_label, label_of, has_label, blank, child_by, node_of, mark_at, mark_of, Grows}
use Rattle.row_tries.specs.Rows.{Marks, same_optional_label}
use Rattle.partial_structures.specs.AtomRows.{row_of, MadeTrue, MadeFalse, settled, denied, value_status, status_of}
use Rattle.partial_structures.specs.Flags.{is_closed}
use Rattle.partial_structures.specs.Status.{is_yes, is_no}
use Rattle.row_tries.specs.declared.rows.Edge.{Edge}
use Rattle.row_tries.specs.declared.rows.Mark.{Mark}
use Rattle.row_tries.specs.declared.rows.Label.{Label}
use Rattle.row_tries.specs.declared.truths.Truth.{Truth}
use Rattle.row_tries.specs.declared.truths.Truth.TheVariants.{Yes, No, Unknown}
use Rattle.row_tries.proofs.Nodes.{same_label_is, label_injective}
use Rattle.row_tries.proofs.Growth.{same_label_refl}
use Rattle.row_tries.proofs.Changes.{grown_Marks}
use Rattle.partial_structures.proofs.Sames.{same_element, element_itself, row_is, row_itself, atom_by, atom_is}
use Rattle.partial_structures.proofs.Sames.{atom_itself, row_cases}

abbrev pub atom : ℕ → List Elem → Option Elem → GroundAtom
atom s xs v = record { symbol = s; args = xs; value = v }

-- b after a was made true
pub record TrueAfter (a b : GroundAtom) (old new : Truth) : Type 0 where
  pub yes_ : is_yes new ≡ (same_atom a b || is_yes old)
  pub no_ : is_no new ≡ (is_rival a b || is_no old)

-- b after a was made false
pub record FalseAfter (a b : GroundAtom) (old new : Truth) : Type 0 where
  pub yes_ : is_yes new ≡ is_yes old
  pub no_ : is_no new ≡ (same_atom a b || is_no old)

not_same : (a b : GroundAtom) → (b ≡ a → ⊥) → same_atom a b ≡ false
not_same a b ne = false_from_ne_true (same_atom a b) (λ e. ne (atom_is a b e))

no_rival_itself : (v : Option Elem) → (both_values v v && not (same_option v (option_map denotation_of v))) ≡ false
no_rival_itself None = refl
no_rival_itself (Some x) = ap not (element_itself x)

not_rival_itself : (a : GroundAtom) → is_rival a a ≡ false
not_rival_itself a =
    and_right (a.symbol == a.symbol) (same_row a.args (map denotation_of a.args) &&
    (both_values a.value a.value && not (same_option a.value (option_map denotation_of a.value))))
    (and_right (same_row a.args (map denotation_of a.args)) (both_values a.value a.value && not
    (same_option a.value (option_map denotation_of a.value))) (no_rival_itself a.value))

made_itself : (a b : GroundAtom) (old new : Truth) → b ≡ a → new ≡ Yes → is_no old ≡ false → TrueAfter a b old new
made_itself a b old new is yes_ no_ = record {
  yes_ = ap is_yes yes_ ∙ sym (ap (λ c. same_atom a c || is_yes old) is ∙ ap (λ t. t || is_yes old) (atom_itself a));
  no_ = ap is_no yes_ ∙ sym (ap (λ c. is_rival a c || is_no old) is
      ∙ ap (λ t. t || is_no old) (not_rival_itself a) ∙ no_);
}

made_rival : (a b : GroundAtom) (old new : Truth) → same_atom a b ≡ false → is_rival a b ≡ true → new ≡ No
    → is_yes old ≡ false → TrueAfter a b old new
made_rival a b old new same rival no_ yes_ = record {
  yes_ = ap is_yes no_ ∙ sym (ap (λ t. t || is_yes old) same ∙ yes_);
  no_ = ap is_no no_ ∙ sym (ap (λ t. t || is_no old) rival);
}

made_other : (a b : GroundAtom) (old new : Truth) → same_atom a b ≡ false → is_rival a b ≡ false → new ≡ old
    → TrueAfter a b old new
made_other a b old new same rival is = record {
  yes_ = ap is_yes is ∙ sym (ap (λ t. t || is_yes old) same);
  no_ = ap is_no is ∙ sym (ap (λ t. t || is_no old) rival);
}

denied_itself : (a b : GroundAtom) (old new : Truth) → b ≡ a → new ≡ No → is_yes old ≡ false → FalseAfter a b old new
denied_itself a b old new is no_ yes_ = record {
  yes_ = ap is_yes no_ ∙ sym yes_;
  no_ = ap is_no no_ ∙ sym (ap (λ c. same_atom a c || is_no old) is ∙ ap (λ t. t || is_no old) (atom_itself a));
}

denied_other : (a b : GroundAtom) (old new : Truth) → same_atom a b ≡ false → new ≡ old → FalseAfter a b old new
denied_other a b old new same is = record {
  yes_ = ap is_yes is;
  no_ = ap is_no is ∙ sym (ap (λ t. t || is_no old) same);
}

reverse_injective : (xs ys : List Elem) → reverse xs ≡ reverse ys → xs ≡ ys
reverse_injective xs ys e = sym (reverse-reverse xs) ∙ ap reverse e ∙ reverse-reverse ys

module _ (ws : List (List ℕ)) (es fs : List (Edge × Mark)) (s : ℕ) (row : List Elem) where
  -- a new value of a row leaves what is known of the rows
  known_same : (u : Option Label) → Marks ws es fs s row (record (mark_of ws es s row) { value = u })
      → (r : ℕ) (zs : List Elem) → (mark_of ws fs r zs).known ≡ (mark_of ws es r zs).known
  known_same u m r zs = elim (row_cases r s zs row) [
    | inl e ↦ ap (λ n. (mark_of ws fs n zs).known) e.0 ∙ ap (λ l. (mark_of ws fs s l).known) e.1
        ∙ ap (λ k. k.known) m.here
        ∙ sym (ap (λ n. (mark_of ws es n zs).known) e.0 ∙ ap (λ l. (mark_of ws es s l).known) e.1)
    | inr ne ↦ ap (λ k. k.known) (m.others r zs ne)
  ]

  -- what becomes known of a row leaves the values
  value_same : (t : Truth) → Marks ws es fs s row (record (mark_of ws es s row) { known = t })
      → (r : ℕ) (zs : List Elem) → (mark_of ws fs r zs).value ≡ (mark_of ws es r zs).value
  value_same t m r zs = elim (row_cases r s zs row) [
    | inl e ↦ ap (λ n. (mark_of ws fs n zs).value) e.0 ∙ ap (λ l. (mark_of ws fs s l).value) e.1
        ∙ ap (λ k. k.value) m.here
        ∙ sym (ap (λ n. (mark_of ws es n zs).value) e.0 ∙ ap (λ l. (mark_of ws es s l).value) e.1)
    | inr ne ↦ ap (λ k. k.value) (m.others r zs ne)
  ]

other_label : (ws : List (List ℕ)) (x y : Elem) (l : Label) (o : Option Label) → label_of ws x ≡ Some l
    → label_of ws y ≡ o → (y ≡ x → ⊥) → same_optional_label l o ≡ false
other_label ws x y l None is at ne = refl
other_label ws x y l (Some k) is at ne = false_from_ne_true (same_label l k)
    (λ e. ne (label_injective ws y x l (at ∙ ap Some (sym (same_label_is l k e))) is))

pub never_yes : (c : Bool) (t : Truth) → is_yes (settled c (denied t)) ≡ false
never_yes true Yes = refl
never_yes true No = refl
never_yes true Unknown = refl
never_yes false Yes = refl
never_yes false No = refl
never_yes false Unknown = refl

no_if_not : (b : Bool) → b ≡ false → (if b then Yes else No) ≡ No
no_if_not b e = ap (λ t. if t then Yes else No) e

yes_if : (b : Bool) → b ≡ true → (if b then Yes else No) ≡ Yes
yes_if b e = ap (λ t. if t then Yes else No) e

same_if_not_no : (b : Bool) → is_no (if b then Yes else No) ≡ false → b ≡ true
same_if_not_no true h = refl
same_if_not_no false h = absurd (true≢false h)

optional_is : (l : Label) (o : Option Label) (k : Label) → o ≡ Some k → same_optional_label l o ≡ true → l ≡ k
optional_is l o k is h = same_label_is l k (sym (ap (same_optional_label l) is) ∙ h)

-- a rival of what is not false is not true
rival_not_yes : (ws : List (List ℕ)) (x y : Elem) (l : Label) (v : Option Label) (row other : Truth)
    → label_of ws x ≡ Some l → (y ≡ x → ⊥)
    → is_no (value_status v (label_of ws x) other) ≡ false → is_yes row ≡ false
    → is_yes (value_status v (label_of ws y) row) ≡ false
rival_not_yes ws x y l None row other is ne clash plain = plain
rival_not_yes ws x y l (Some u) row other is ne clash plain =
    let same : u ≡ l = optional_is u (label_of ws x) l is (same_if_not_no (same_optional_label u (label_of ws x)) clash)
    in
    ap is_yes (no_if_not (same_optional_label u (label_of ws y)) (ap (λ k. same_optional_label k (label_of ws y)) same
    ∙ other_label ws x y l (label_of ws y) is refl ne))

rival_true : (s : ℕ) (xs : List Elem) (x y : Elem) → (y ≡ x → ⊥) → is_rival (atom s xs (Some x))
    (atom s xs (Some y)) ≡ true
rival_true s xs x y ne =
    and_from (s == s) (same_row xs (map denotation_of xs) && not (same_value (denotation_of y) (denotation_of x)))
    (eq-eqb s s refl)
    (and_from (same_row xs (map denotation_of xs)) (not (same_value (denotation_of y) (denotation_of x)))
    (row_itself xs)
    (ap not (false_from_ne_true (same_value (denotation_of y) (denotation_of x)) (λ e. ne (same_element y x e)))))

no_rival_value : (v w : Option Elem) (a b : GroundAtom) → (both_values a.value b.value ≡ false) → is_rival a b ≡ false
no_rival_value v w a b h =
    and_right (b.symbol == a.symbol) (same_row b.args (map denotation_of a.args) &&
    (both_values a.value b.value && not (same_option b.value (option_map denotation_of a.value))))
    (and_right (same_row b.args (map denotation_of a.args)) (both_values a.value b.value && not
    (same_option b.value (option_map denotation_of a.value)))
    (and_left (both_values a.value b.value) (not (same_option b.value (option_map denotation_of a.value))) h))

row_truth : (ws : List (List ℕ)) (es fs : List (Edge × Mark)) (c : Bool) (r : ℕ) (ys : List Elem)
    → (mark_of ws fs r (reverse ys)).known ≡ (mark_of ws es r (reverse ys)).known
    → status_of ws fs c r ys None ≡ status_of ws es c r ys None
row_truth ws es fs c r ys e = ap (settled c) e

value_truth : (ws : List (List ℕ)) (es fs : List (Edge × Mark)) (c : Bool) (r : ℕ) (ys : List Elem) (y : Elem)
    → (mark_of ws fs r (reverse ys)).value ≡ (mark_of ws es r (reverse ys)).value
    → (mark_of ws fs r (y ∷ reverse ys)).known ≡ (mark_of ws es r (y ∷ reverse ys)).known
    → status_of ws fs c r ys (Some y) ≡ status_of ws es c r ys (Some y)
value_truth ws es fs c r ys y e f =
    ap (λ v. value_status v (label_of ws y) (settled c (denied (mark_of ws fs r (y ∷ reverse ys)).known))) e
    ∙ ap (λ k. value_status (mark_of ws es r (reverse ys)).value (label_of ws y) (settled c (denied k))) f

-- a rival is of the same row
rival_row : (a b : GroundAtom) → is_rival a b ≡ true → (b.symbol ≡ a.symbol) × (b.args ≡ a.args)
rival_row a b h =
    let both = and_parts (b.symbol == a.symbol) (same_row b.args (map denotation_of a.args) &&
    (both_values a.value b.value && not (same_option b.value (option_map denotation_of a.value)))) h in
    let more = and_parts (same_row b.args (map denotation_of a.args))
    (both_values a.value b.value && not (same_option b.value (option_map denotation_of a.value))) both.1 in
    (eqb-true b.symbol a.symbol both.0, row_is b.args a.args more.0)

value_denied : (v l : Option Label) (other : Truth) → is_yes (value_status v l other) ≡ false → value_status v l No ≡ No
value_denied None l other h = refl
value_denied (Some u) l other h = no_if_not (same_optional_label u l) (not_if (same_optional_label u l) h)
  where
    not_if : (b : Bool) → is_yes (if b then Yes else No) ≡ false → b ≡ false
    not_if true e = e
    not_if false e = refl

-- the rows of two atoms are apart
row_apart : (function : ℕ → Bool) (s : ℕ) (xs : List Elem) (v : Option Elem) → function s ≡ is_some v
    → (r : ℕ) (ys : List Elem) (w : Option Elem) → function r ≡ is_some w → (atom r ys w ≡ atom s xs v → ⊥)
    → r ≡ s → row_of ys w ≡ row_of xs v → ⊥
row_apart function s xs None kind r ys None other ne e f = ne (atom_by (atom r ys None) (atom s xs None) e
    (reverse_injective ys xs f) refl)
row_apart function s xs None kind r ys (Some y) other ne e f = true≢false (sym other ∙ ap function e ∙ kind)
row_apart function s xs (Some x) kind r ys None other ne e f = true≢false (sym kind ∙ ap function (sym e) ∙ other)
row_apart function s xs (Some x) kind r ys (Some y) other ne e f =
    let first : y ≡ x = cc f in
    let rest : reverse ys ≡ reverse xs = cc f in
    ne (atom_by (atom r ys (Some y)) (atom s xs (Some x)) e (reverse_injective ys xs rest) (ap Some first))

module _ (ws : List (List ℕ)) (es fs : List (Edge × Mark)) (closed : ℕ → Bool) (function : ℕ → Bool) (s : ℕ)
    (xs : List Elem) where
  true_row_itself : MadeTrue ws es fs s xs None → is_no (status_of ws es (closed s) s xs None) ≡ false
      → (r : ℕ) (ys : List Elem) → (r ≡ s) × (ys ≡ xs)
      → TrueAfter (atom s xs None) (atom r ys None) (status_of ws es (closed r) r ys None)
      (status_of ws fs (closed r) r ys None)
  true_row_itself made clash r ys e =
      let is : atom r ys None ≡ atom s xs None = atom_by (atom r ys None) (atom s xs None) e.0 e.1 refl in
      made_itself (atom s xs None) (atom r ys None) _ _ is
      (ap (λ b. status_of ws fs (closed b.symbol) b.symbol b.args None) is
      ∙ ap (λ m. settled (closed s) m.known) made.here)
      (ap (λ b. is_no (status_of ws es (closed b.symbol) b.symbol b.args None)) is ∙ clash)

  true_row_other : MadeTrue ws es fs s xs None → (r : ℕ) (ys : List Elem) → ((r ≡ s) × (ys ≡ xs) → ⊥)
      → TrueAfter (atom s xs None) (atom r ys None) (status_of ws es (closed r) r ys None)
      (status_of ws fs (closed r) r ys None)
  true_row_other made r ys ne =
      made_other (atom s xs None) (atom r ys None) _ _ (not_same (atom s xs None) (atom r ys None)
      (λ e. ne (ap (λ b. b.symbol) e, ap (λ b. b.args) e)))
      (no_rival_value None None (atom s xs None) (atom r ys None) refl)
      (row_truth ws es fs (closed r) r ys (ap (λ m. m.known) (made.others r (reverse ys)
      (λ e. ne (e.0, reverse_injective ys xs e.1)))))

  true_row_value : MadeTrue ws es fs s xs None → function s ≡ false → (r : ℕ) (ys : List Elem) (y : Elem)
      → function r ≡ true
      → TrueAfter (atom s xs None) (atom r ys (Some y)) (status_of ws es (closed r) r ys (Some y))
      (status_of ws fs (closed r) r ys (Some y))
  true_row_value made predicate r ys y isf =
      made_other (atom s xs None) (atom r ys (Some y)) _ _ (not_same (atom s xs None) (atom r ys (Some y))
      (λ e. let w : Some y ≡ None = ap (λ b. b.value) e in cc w))
      (no_rival_value None (Some y) (atom s xs None) (atom r ys (Some y)) refl)
      (value_truth ws es fs (closed r) r ys y (value_same ws es fs s (reverse xs) Yes made r (reverse ys))
      (ap (λ m. m.known) (made.others r (y ∷ reverse ys) (λ e. true≢false (sym isf ∙ ap function e.0 ∙ predicate)))))

  true_value_row : (x : Elem) → MadeTrue ws es fs s xs (Some x) → (r : ℕ) (ys : List Elem)
      → TrueAfter (atom s xs (Some x)) (atom r ys None) (status_of ws es (closed r) r ys None)
      (status_of ws fs (closed r) r ys None)
  true_value_row x made r ys =
      made_other (atom s xs (Some x)) (atom r ys None) _ _ (not_same (atom s xs (Some x)) (atom r ys None)
      (λ e. let w : None ≡ Some x = ap (λ b. b.value) e in cc w))
      (no_rival_value (Some x) None (atom s xs (Some x)) (atom r ys None) refl)
      (row_truth ws es fs (closed r) r ys (known_same ws es fs s (reverse xs) (label_of ws x) made r (reverse ys)))

  true_value_here : (x : Elem) (l : Label) → MadeTrue ws es fs s xs (Some x) → label_of ws x ≡ Some l
      → is_no (status_of ws es (closed s) s xs (Some x)) ≡ false → (y : Elem) → Bool
      → ((y ≡ x) ⊎ (y ≡ x → ⊥)) → TrueAfter (atom s xs (Some x)) (atom s xs (Some y))
      (status_of ws es (closed s) s xs (Some y)) (status_of ws fs (closed s) s xs (Some y))
  true_value_here x l made is clash y b (inl e) =
      let same : atom s xs (Some y) ≡ atom s xs (Some x) = ap (λ z. atom s xs (Some z)) e in
      let set : (mark_of ws fs s (reverse xs)).value ≡ Some l = ap (λ m. m.value) made.here ∙ is in
      made_itself (atom s xs (Some x)) (atom s xs (Some y)) _ _ same
      (ap (λ z. status_of ws fs (closed s) s xs (Some z)) e
      ∙ ap (λ v. value_status v (label_of ws x) (settled (closed s) (denied (mark_of ws fs s (x ∷ reverse xs)).known)))
      set
      ∙ yes_if (same_optional_label l (label_of ws x)) (ap (same_optional_label l) is ∙ same_label_refl l))
      (ap (λ z. is_no (status_of ws es (closed s) s xs (Some z))) e ∙ clash)
  true_value_here x l made is clash y b (inr ne) =
      let set : (mark_of ws fs s (reverse xs)).value ≡ Some l = ap (λ m. m.value) made.here ∙ is in
      made_rival (atom s xs (Some x)) (atom s xs (Some y)) _ _
      (not_same (atom s xs (Some x)) (atom s xs (Some y)) (λ e. let w : Some y ≡ Some x =
      ap (λ b. b.value) e in ne (cc w)))
      (rival_true s xs x y ne)
      (ap (λ v. value_status v (label_of ws y) (settled (closed s) (denied (mark_of ws fs s (y ∷ reverse xs)).known)))
      set
      ∙ no_if_not (same_optional_label l (label_of ws y)) (other_label ws x y l (label_of ws y) is refl ne))
      (rival_not_yes ws x y l (mark_of ws es s (reverse xs)).value
      (settled (closed s) (denied (mark_of ws es s (y ∷ reverse xs)).known))
      (settled (closed s) (denied (mark_of ws es s (x ∷ reverse xs)).known))
      is ne clash (never_yes (closed s) (mark_of ws es s (y ∷ reverse xs)).known))

  element_cases : (y x : Elem) → (y ≡ x) ⊎ (y ≡ x → ⊥)
  element_cases y x = elim (cases_Bool (same_value (denotation_of y) (denotation_of x))) [
    | inl h ↦ inl (same_element y x h)
    | inr h ↦ inr (λ e. true≢false (sym (ap (λ z. same_value (denotation_of z) (denotation_of x)) e ∙ element_itself x)
        ∙ h))
  ]

  true_value_other : (x : Elem) → MadeTrue ws es fs s xs (Some x) → (r : ℕ) (ys : List Elem) (y : Elem)
      → ((r ≡ s) × (ys ≡ xs) → ⊥)
      → TrueAfter (atom s xs (Some x)) (atom r ys (Some y)) (status_of ws es (closed r) r ys (Some y))
      (status_of ws fs (closed r) r ys (Some y))
  true_value_other x made r ys y ne =
      made_other (atom s xs (Some x)) (atom r ys (Some y)) _ _ (not_same (atom s xs (Some x)) (atom r ys (Some y))
      (λ e. ne (ap (λ b. b.symbol) e, ap (λ b. b.args) e)))
      (false_from_ne_true (is_rival (atom s xs (Some x)) (atom r ys (Some y)))
      (λ e. ne (rival_row (atom s xs (Some x)) (atom r ys (Some y)) e)))
      (value_truth ws es fs (closed r) r ys y
      (ap (λ m. m.value) (made.others r (reverse ys) (λ e. ne (e.0, reverse_injective ys xs e.1))))
      (known_same ws es fs s (reverse xs) (label_of ws x) made r (y ∷ reverse ys)))

  true_value_value : (x : Elem) (l : Label) → MadeTrue ws es fs s xs (Some x) → label_of ws x ≡ Some l
      → is_no (status_of ws es (closed s) s xs (Some x)) ≡ false → (r : ℕ) (ys : List Elem) (y : Elem)
      → ((r ≡ s) × (ys ≡ xs)) ⊎ ((r ≡ s) × (ys ≡ xs) → ⊥)
      → TrueAfter (atom s xs (Some x)) (atom r ys (Some y)) (status_of ws es (closed r) r ys (Some y))
      (status_of ws fs (closed r) r ys (Some y))
  true_value_value x l made is clash r ys y (inl e) =
      subst (λ b. TrueAfter (atom s xs (Some x)) b (status_of ws es (closed b.symbol) b.symbol b.args b.value)
      (status_of ws fs (closed b.symbol) b.symbol b.args b.value))
      (sym (atom_by (atom r ys (Some y)) (atom s xs (Some y)) e.0 e.1 refl))
      (true_value_here x l made is clash y true (element_cases y x))
  true_value_value x l made is clash r ys y (inr ne) = true_value_other x made r ys y ne

  labelled : (o : Option Label) → is_some o ≡ true → (l : Label) × (o ≡ Some l)
  labelled None h = absurd (cc)
  labelled (Some l) h = (l, refl)

  -- every atom after an atom was made true
  pub true_after : (v : Option Elem) → MadeTrue ws es fs s xs v → is_no (status_of ws es (closed s) s xs v) ≡ false
      → function s ≡ is_some v → ((x : Elem) → v ≡ Some x → has_label ws x ≡ true)
      → (r : ℕ) (ys : List Elem) (w : Option Elem) → function r ≡ is_some w → TrueAfter (atom s xs v) (atom r ys w)
      (status_of ws es (closed r) r ys w) (status_of ws fs (closed r) r ys w)
  true_after None made clash kind label r ys None other = elim (row_cases r s ys xs)
      [ inl e ↦ true_row_itself made clash r ys e | inr ne ↦ true_row_other made r ys ne ]
  true_after None made clash kind label r ys (Some y) other = true_row_value made kind r ys y other
  true_after (Some x) made clash kind label r ys None other = true_value_row x made r ys
  true_after (Some x) made clash kind label r ys (Some y) other =
      let l = labelled (label_of ws x) (label x refl) in
      true_value_value x l.0 made l.1 clash r ys y (row_cases r s ys xs)

  false_itself : (v : Option Elem) → MadeFalse ws es fs s xs v → is_yes (status_of ws es (closed s) s xs v) ≡ false
      → status_of ws fs (closed s) s xs v ≡ No
  false_itself None made clash = ap (λ m. settled (closed s) m.known) made.here
  false_itself (Some x) made clash =
      ap (λ m. value_status (mark_of ws fs s (reverse xs)).value (label_of ws x) (settled (closed s) (denied m.known)))
      made.here
      ∙ ap (λ v. value_status v (label_of ws x) No) (value_same ws es fs s (x ∷ reverse xs) No made s (reverse xs))
      ∙ value_denied (mark_of ws es s (reverse xs)).value (label_of ws x)
      (settled (closed s) (denied (mark_of ws es s (x ∷ reverse xs)).known)) clash

  false_other : (v : Option Elem) → MadeFalse ws es fs s xs v → function s ≡ is_some v
      → (r : ℕ) (ys : List Elem) (w : Option Elem) → function r ≡ is_some w → (atom r ys w ≡ atom s xs v → ⊥)
      → status_of ws fs (closed r) r ys w ≡ status_of ws es (closed r) r ys w
  false_other v made kind r ys None other ne = row_truth ws es fs (closed r) r ys
      (ap (λ m. m.known) (made.others r (reverse ys) (λ e. row_apart function s xs v kind r ys None other ne e.0 e.1)))
  false_other v made kind r ys (Some y) other ne =
      value_truth ws es fs (closed r) r ys y (value_same ws es fs s (row_of xs v) No made r (reverse ys))
      (ap (λ m. m.known) (made.others r (y ∷ reverse ys) (λ e. row_apart function s xs v kind r ys
      (Some y) other ne e.0 e.1)))

  -- every atom after an atom was made false
  pub false_after : (v : Option Elem) → MadeFalse ws es fs s xs v → is_yes (status_of ws es (closed s) s xs v) ≡ false
      → function s ≡ is_some v
      → (r : ℕ) (ys : List Elem) (w : Option Elem) → function r ≡ is_some w → FalseAfter (atom s xs v) (atom r ys w)
      (status_of ws es (closed r) r ys w) (status_of ws fs (closed r) r ys w)
  false_after v made clash kind r ys w other = elim (cases_Bool (same_atom (atom s xs v) (atom r ys w))) [
    | inl h ↦
        let is = atom_is (atom s xs v) (atom r ys w) h in
        denied_itself (atom s xs v) (atom r ys w) _ _ is
        (ap (λ b. status_of ws fs (closed b.symbol) b.symbol b.args b.value) is ∙ false_itself v made clash)
        (ap (λ b. is_yes (status_of ws es (closed b.symbol) b.symbol b.args b.value)) is ∙ clash)
    | inr h ↦ denied_other (atom s xs v) (atom r ys w) _ _ h
        (false_other v made kind r ys w other (λ e. true≢false (sym (ap (same_atom (atom s xs v)) e
        ∙ atom_itself (atom s xs v)) ∙ h)))
  ]

-- rows with the same marks give the same status
pub same_marks : (ws : List (List ℕ)) (es fs : List (Edge × Mark)) (c : Bool)
    → ((s : ℕ) (xs : List Elem) → mark_of ws fs s xs ≡ mark_of ws es s xs) → (s : ℕ) (xs : List Elem) (v : Option Elem)
    → status_of ws fs c s xs v ≡ status_of ws es c s xs v
same_marks ws es fs c h s xs None = ap (λ m. settled c m.known) (h s (reverse xs))
same_marks ws es fs c h s xs (Some x) = value_truth ws es fs c s xs x (ap (λ m. m.value) (h s (reverse xs)))
    (ap (λ m. m.known) (h s (x ∷ reverse xs)))

-- what the rows of a tree that grew say of an atom is what they said
pub status_kept : (ws later : List (List ℕ)) (es fs : List (Edge × Mark)) (c : Bool) (s : ℕ) (xs : List Elem)
    (v : Option Elem) → later ≡ ws → Grows es fs → status_of later fs c s xs v ≡ status_of ws es c s xs v
status_kept ws later es fs c s xs v same grows = ap (λ w. status_of w fs c s xs v) same
    ∙ same_marks ws es fs c (grows.marks ws) s xs v

-- what is read at the node where a row ends in a tree that grew is what the rows said of the atom before
pub read_behind : (ws later : List (List ℕ)) (es fs : List (Edge × Mark)) (c : Bool) (s n : ℕ) (args : List Elem)
    (v : Option Elem) (known : Truth) → later ≡ ws → Grows es fs → node_of later fs s (reverse args) ≡ Some n
    → ((r : ℕ) (xs : List Elem) → node_of later fs r (reverse xs) ≡ Some n → known ≡ status_of later fs c r xs v)
    → known ≡ status_of ws es c s args v
read_behind ws later es fs c s n args v known same grows at read = read s args at
    ∙ status_kept ws later es fs c s args v same grows

no_child : (o : Option ℕ) (l : Option Label) → child_by [] o l ≡ None
no_child None l = refl
no_child (Some p) None = refl
no_child (Some p) (Some l) = refl

no_node : (ws : List (List ℕ)) (s : ℕ) (xs : List Elem) → node_of ws [] s xs ≡ None
no_node ws s [] = refl
no_node ws s (x ∷ xs) = no_child (node_of ws [] s xs) (label_of ws x)

no_mark : (ws : List (List ℕ)) (s : ℕ) (xs : List Elem) → mark_of ws [] s xs ≡ blank
no_mark ws s xs = ap (mark_at []) (no_node ws s xs)

-- without rows and flags nothing is known
pub empty_status : (ws : List (List ℕ)) (s : ℕ) (xs : List Elem) (v : Option Elem)
    → status_of ws [] false s xs v ≡ Unknown
empty_status ws s xs None = ap (λ m. settled false m.known) (no_mark ws s (reverse xs))
empty_status ws s xs (Some x) =
    ap (λ m. value_status m.value (label_of ws x) (settled false (denied (mark_of ws [] s (x ∷ reverse xs)).known)))
    (no_mark ws s (reverse xs))
    ∙ ap (λ m. settled false (denied m.known)) (no_mark ws s (x ∷ reverse xs))

-- b after the rest of symbol s was made false
pub record ClosedAfter (s : ℕ) (b : GroundAtom) (old new : Truth) : Type 0 where
  pub yes_ : is_yes new ≡ is_yes old
  pub no_ : is_no new ≡ (((b.symbol == s) && not (is_yes old)) || is_no old)

settled_yes : (c : Bool) (t : Truth) → is_yes (settled true t) ≡ is_yes (settled c t)
settled_yes true t = refl
settled_yes false Yes = refl
settled_yes false No = refl
settled_yes false Unknown = refl

settled_no : (c : Bool) (t : Truth) → is_no (settled true t) ≡ (not (is_yes (settled c t)) || is_no (settled c t))
settled_no true Yes = refl
settled_no true No = refl
settled_no true Unknown = refl
settled_no false Yes = refl
settled_no false No = refl
settled_no false Unknown = refl

known_no : (b : Bool) → is_no (if b then Yes else No) ≡ (not (is_yes (if b then Yes else No)) || is_no (if b then
    Yes else No))
known_no true = refl
known_no false = refl

value_yes : (c : Bool) (v l : Option Label) (t : Truth) → is_yes (value_status v l (settled true t))
    ≡ is_yes (value_status v l (settled c t))
value_yes c None l t = settled_yes c t
value_yes c (Some u) l t = refl

value_no : (c : Bool) (v l : Option Label) (t : Truth) → is_no (value_status v l (settled true t))
    ≡ (not (is_yes (value_status v l (settled c t))) || is_no (value_status v l (settled c t)))
value_no c None l t = settled_no c t
value_no c (Some u) l t = known_no (same_optional_label u l)

closing_yes : (ws : List (List ℕ)) (es : List (Edge × Mark)) (c : Bool) (s : ℕ) (xs : List Elem) (v : Option Elem)
    → is_yes (status_of ws es true s xs v) ≡ is_yes (status_of ws es c s xs v)
closing_yes ws es c s xs None = settled_yes c (mark_of ws es s (reverse xs)).known
closing_yes ws es c s xs (Some x) = value_yes c (mark_of ws es s (reverse xs)).value (label_of ws x)
    (denied (mark_of ws es s (x ∷ reverse xs)).known)

closing_no : (ws : List (List ℕ)) (es : List (Edge × Mark)) (c : Bool) (s : ℕ) (xs : List Elem) (v : Option Elem)
    → is_no (status_of ws es true s xs v) ≡ (not (is_yes (status_of ws es c s xs v)) || is_no
    (status_of ws es c s xs v))
closing_no ws es c s xs None = settled_no c (mark_of ws es s (reverse xs)).known
closing_no ws es c s xs (Some x) = value_no c (mark_of ws es s (reverse xs)).value (label_of ws x)
    (denied (mark_of ws es s (x ∷ reverse xs)).known)

flag_here : (closed : List Bool) (s : ℕ) → s < length closed → is_closed (slice_set closed s true) s ≡ true
flag_here [] s h = absurd (omega arith)
flag_here (c ∷ closed) zero h = refl
flag_here (c ∷ closed) (suc s) h = flag_here closed s (omega arith)

flag_other : (closed : List Bool) (s r : ℕ) → (r ≡ s → ⊥) → is_closed (slice_set closed s true) r ≡ is_closed closed r
flag_other [] s r ne = refl
flag_other (c ∷ closed) zero zero ne = absurd (ne refl)
flag_other (c ∷ closed) zero (suc r) ne = refl
flag_other (c ∷ closed) (suc s) zero ne = refl
flag_other (c ∷ closed) (suc s) (suc r) ne = flag_other closed s r (λ e. ne (ap suc e))

-- every atom after a flag was set
pub flag_after : (ws : List (List ℕ)) (es : List (Edge × Mark)) (closed : List Bool) (s : ℕ) → s < length closed
    → (b : GroundAtom)
    → ClosedAfter s b (status_of ws es (is_closed closed b.symbol) b.symbol b.args b.value)
    (status_of ws es (is_closed (slice_set closed s true) b.symbol) b.symbol b.args b.value)
flag_after ws es closed s within b = elim (cases_Bool (b.symbol == s)) [
  | inl h ↦
      let set : is_closed (slice_set closed s true) b.symbol ≡ true = ap (is_closed (slice_set closed s true))
      (eqb-true b.symbol s h) ∙ flag_here closed s within in
      record {
        yes_ = ap (λ f. is_yes (status_of ws es f b.symbol b.args b.value)) set
            ∙ closing_yes ws es (is_closed closed b.symbol) b.symbol b.args b.value;
        no_ = ap (λ f. is_no (status_of ws es f b.symbol b.args b.value)) set
            ∙ closing_no ws es (is_closed closed b.symbol) b.symbol b.args b.value
            ∙ ap (λ t. (t && not (is_yes (status_of ws es (is_closed closed b.symbol) b.symbol b.args b.value))) ||
            is_no (status_of ws es (is_closed closed b.symbol) b.symbol b.args b.value)) (sym h);
      }
  | inr h ↦
      let kept : is_closed (slice_set closed s true) b.symbol ≡ is_closed closed b.symbol =
      flag_other closed s b.symbol (λ e. true≢false (sym (eq-eqb b.symbol s e) ∙ h)) in
      record {
        yes_ = ap (λ f. is_yes (status_of ws es f b.symbol b.args b.value)) kept;
        no_ = ap (λ f. is_no (status_of ws es f b.symbol b.args b.value)) kept
            ∙ ap (λ t. (t && not (is_yes (status_of ws es (is_closed closed b.symbol) b.symbol b.args b.value))) ||
            is_no (status_of ws es (is_closed closed b.symbol) b.symbol b.args b.value)) (sym h);
      }
]

-- an atom was made true after the rows grew
pub grown_MadeTrue : (ws : List (List ℕ)) (es fs gs : List (Edge × Mark)) (s : ℕ) (args : List Elem)
    (v : Option Elem) → Grows es fs → MadeTrue ws fs gs s args v → MadeTrue ws es gs s args v
grown_MadeTrue ws es fs gs s args None grows m = grown_Marks ws es fs gs s (reverse args)
    (λ k. record k { known = Yes }) grows m
grown_MadeTrue ws es fs gs s args (Some x) grows m = grown_Marks ws es fs gs s (reverse args)
    (λ k. record k { value = label_of ws x }) grows m
