-- Where the arguments of an application lead, and what is known there.
use Rattle.std.proofs.Common.{◌≡◌, ℕ, List, [], ◌∷◌, map, fold, reverse, Bool, true, false, ◌&&◌, ◌||◌, ◌==◌}
use Rattle.std.proofs.Common.{if◌then◌else◌, Option, None, Some, is_some, refl, sym, ap, ◌∙◌, ◌⊎◌, inl, inr, filter}
use Rattle.std.proofs.Common.{subst, slice_get}
use Rattle.std.specs.List.{list_any, Contains}
use Rattle.std.specs.Option.{option_map, option_map_or, option_eq}
use Rattle.std.proofs.lemmas.Bool.{cases_Bool, true≢false, or_cases, or_left, or_right, and_parts, and_from, eqb-true}
use Rattle.std.proofs.lemmas.Bool.{eq-eqb, and_left, and_right, false_from_ne_true}
use Rattle.kb_logic.specs.declared.elements.Elem.{Elem}
use Rattle.kb_logic.specs.declared.elements.Elem.TheVariants.{Named, Num}
use Rattle.kb_logic.specs.declared.vocabularies.Symbol.{Symbol}
use Rattle.kb_logic.specs.Structures.{domain_at, tuples_of}
use Rattle.kb_logic.specs.Denotations.{Denotation, named, number, minus_infinity, plus_infinity, undefined}
use Rattle.kb_logic.specs.Denotations.{denotation_of, same_value}
use Rattle.kb_logic.specs.Models.{GroundAtom, HasValueIn}
use Rattle.kb_logic.proofs.Atoms.{same_is, tuple_elements}
use Rattle.partial_structures.specs.KnownAtoms.{IsAtomOver, atoms_over, same_row, same_option, value_of_row}
use Rattle.partial_structures.specs.Applications.{stands_in, are_typed, arguments_typed, given_value}
use Rattle.row_tries.specs.Rows.{child_by, node_of, label_of, mark_at, same_label, same_optional_label}
use Rattle.row_tries.specs.Words.{words_in}
use Rattle.row_tries.specs.Values.{value_label}
use Rattle.partial_structures.specs.Known.{Spot, known_in, status_in, rest_of, is_of_first, first_spot, start_of}
use Rattle.partial_structures.specs.Known.{stepped, spot_of, is_none_left, is_whole}
use Rattle.partial_structures.specs.declared.known.Known.{Known}
use Rattle.row_tries.specs.declared.truths.Truth.{Truth}
use Rattle.row_tries.specs.declared.truths.Truth.TheVariants.{Yes, No, Unknown}
use Rattle.partial_structures.specs.Applications.{result_typed, value_typed}
use Rattle.partial_structures.specs.KnownAtoms.{is_atom}
use Rattle.partial_structures.specs.AtomRows.{settled, denied, value_status}
use Rattle.partial_structures.specs.Flags.{is_closed}
use Rattle.partial_structures.specs.Status.{is_yes, is_no}
use Rattle.partial_structures.specs.Known.{is_function_of}
use Rattle.row_tries.specs.declared.rows.Label.{Label}
use Rattle.row_tries.proofs.Labels.{label_test}
use Rattle.row_tries.specs.contracts.rows.LabelPartialEq.TheImpl.{ghosts as label_equality}
use Rattle.kb_logic.specs.Structures.{EachWith}
use Rattle.kb_logic.proofs.Members.{from_filter}
use Rattle.row_tries.proofs.Nodes.{same_label_is, label_injective}
use Rattle.row_tries.proofs.Growth.{same_label_refl}
use Rattle.partial_structures.proofs.Sames.{row_itself, atom_by, element_itself}
use Rattle.partial_structures.proofs.Statuses.{never_yes}
use Rattle.kb_logic.proofs.Tables.{passes_filter}
use Rattle.partial_structures.proofs.Extensions.{kept_has}
use Rattle.kb_logic.proofs.AllAtoms.{atom_kind, atom_listed, listed_over}
use Rattle.kb_logic.proofs.Has.{Has, has_from, contains_from}
use Rattle.partial_structures.proofs.Contained.{longer_tuple}
use Rattle.partial_structures.proofs.Listed.{value_is}

-- ---- the atoms

-- ---- types

pub stands : (d : List Elem) (v : Denotation) → stands_in d v ≡ true → (x : Elem) × Contains d x × (denotation_of x ≡ v)
stands [] v h = cc
stands (y ∷ d) v h = elim (or_cases (same_value (denotation_of y) v) (stands_in d v) h) [
  | inl e ↦ (y, contains_from (y ∷ d) y (inl refl), same_is (denotation_of y) v e)
  | inr m ↦ let r = stands d v m in (r.0, contains_from (y ∷ d) r.0 (inr (has_from d r.0 r.1)), r.2)
]

pub stands_is : (d : List Elem) (x : Elem) → Has d x → stands_in d (denotation_of x) ≡ true
stands_is [] x m = absurd m
stands_is (y ∷ d) x (inl e) = or_left (same_value (denotation_of y) (denotation_of x)) (stands_in d (denotation_of x))
    (ap (λ z. same_value (denotation_of z) (denotation_of x)) e ∙ element_itself x)
stands_is (y ∷ d) x (inr m) = or_right (same_value (denotation_of y) (denotation_of x)) (stands_in d (denotation_of x))
    (stands_is d x m)

pub typed_tuple : (domains : List (List Elem)) (types : List ℕ) (xs : List Elem)
    → EachWith (λ ty x. Contains (domain_at domains ty) x) types xs
    → are_typed domains types (map denotation_of xs) ≡ true
typed_tuple domains [] [] h = refl
typed_tuple domains [] (x ∷ xs) h = absurd h
typed_tuple domains (ty ∷ types) [] h = absurd h
typed_tuple domains (ty ∷ types) (x ∷ xs) h =
    and_from (stands_in (domain_at domains ty) (denotation_of x)) (are_typed domains types (map denotation_of xs))
    (stands_is (domain_at domains ty) x (has_from (domain_at domains ty) x h.0)) (typed_tuple domains types xs h.1)

pub row_denotes : (xs : List Elem) (vs : List Denotation) → same_row xs vs ≡ true → map denotation_of xs ≡ vs
row_denotes [] [] h = refl
row_denotes [] (v ∷ vs) h = cc
row_denotes (x ∷ xs) [] h = cc
row_denotes (x ∷ xs) (v ∷ vs) h =
    let both = and_parts (same_value (denotation_of x) v) (same_row xs vs) h in
    ap (λ d. d ∷ map denotation_of xs) (same_is (denotation_of x) v both.0)
    ∙ ap (λ ds. v ∷ ds) (row_denotes xs vs both.1)

pub tuple_from : (domains : List (List Elem)) (types : List ℕ) (vs : List Denotation) → are_typed domains types vs
    ≡ true → (xs : List Elem) × Contains (tuples_of domains types) xs × (map denotation_of xs ≡ vs)
tuple_from domains [] [] h = ([], contains_from ([] ∷ []) [] (inl refl), refl)
tuple_from domains [] (v ∷ vs) h = cc
tuple_from domains (ty ∷ types) [] h = cc
tuple_from domains (ty ∷ types) (v ∷ vs) h =
    let both = and_parts (stands_in (domain_at domains ty) v) (are_typed domains types vs) h in
    let x = stands (domain_at domains ty) v both.0 in
    let r = tuple_from domains types vs both.1 in (
      x.0 ∷ r.0,
      longer_tuple domains ty types x.0 r.0 x.1 r.1,
      ap (λ d. d ∷ map denotation_of r.0) x.2
          ∙ ap (λ ds. v ∷ ds) r.2,
    )

-- ---- spots

whole_when : (b c : Bool) → (false && (b && c)) ≡ (c && false)
whole_when true true = refl
whole_when true false = refl
whole_when false true = refl
whole_when false false = refl

and_false : (c : Bool) → (c && false) ≡ false
and_false true = refl
and_false false = refl

and_true : (c : Bool) → c ≡ (c && true)
and_true true = refl
and_true false = refl

swapped : (a b c : Bool) → ((a && b) && c) ≡ (b && (a && c))
swapped true true c = refl
swapped true false c = refl
swapped false true c = refl
swapped false false c = refl

pub whole_typed : (s : Known) (p : Spot) (types : List ℕ) (vs : List Denotation) → p.types ≡ types
    → is_whole (fold (stepped s) p vs) ≡ (p.typed && are_typed s.domains.now types vs)
whole_typed s p [] [] h = ap (λ ts. is_none_left ts && p.typed) h ∙ and_true p.typed
whole_typed s p (ty ∷ types) [] h = ap (λ ts. is_none_left ts && p.typed) h ∙ sym (and_false p.typed)
whole_typed s p [] (v ∷ vs) h =
    whole_typed s (stepped s p v) [] vs (ap rest_of h)
    ∙ ap (λ ts. (is_of_first s.domains.now ts v && p.typed) && are_typed s.domains.now [] vs) h
    ∙ sym (and_false p.typed)
whole_typed s p (ty ∷ types) (v ∷ vs) h =
    whole_typed s (stepped s p v) types vs (ap rest_of h)
    ∙ ap (λ ts. (is_of_first s.domains.now ts v && p.typed) && are_typed s.domains.now types vs) h
    ∙ swapped (stands_in (domain_at s.domains.now ty) v) p.typed (are_typed s.domains.now types vs)

spot_whole : (s : Known) (node : Option ℕ) (o : Option Symbol) (vs : List Denotation)
    → is_whole (fold (stepped s) (first_spot node o) vs) ≡ arguments_typed (known_in s) o vs
spot_whole s node None vs = whole_typed s (first_spot node None) [] vs refl
spot_whole s node (Some d) vs = whole_typed s (first_spot node (Some d)) d.args vs refl

-- the spot is whole exactly where the arguments are typed
pub whole_is : (s : Known) (symbol : ℕ) (vs : List Denotation) → is_whole (spot_of s symbol vs) ≡ arguments_typed
    (known_in s) (slice_get s.symbols.now symbol) vs
whole_is s symbol vs = spot_whole s (node_of (words_in s.rows.now.words) s.rows.now.nodes.entries symbol [])
    (slice_get s.symbols.now symbol) vs

pub label_same : (ws : List (List ℕ)) (x : Elem) → value_label ws (denotation_of x) ≡ label_of ws x
label_same ws (Named q) = refl
label_same ws (Num z) = refl

walk : (s : Known) (symbol : ℕ) (p : Spot) (xs ys : List Elem)
    → p.node ≡ node_of (words_in s.rows.now.words) s.rows.now.nodes.entries symbol ys
    → (fold (stepped s) p (map denotation_of xs)).node ≡ node_of (words_in s.rows.now.words) s.rows.now.nodes.entries
    symbol (fold (λ r x. x ∷ r) ys xs)
walk s symbol p [] ys h = h
walk s symbol p (x ∷ xs) ys h =
    walk s symbol (stepped s p (denotation_of x)) xs (x ∷ ys)
    (ap (λ n. child_by s.rows.now.nodes.entries n (value_label (words_in s.rows.now.words) (denotation_of x))) h
    ∙ ap (child_by s.rows.now.nodes.entries (node_of (words_in s.rows.now.words) s.rows.now.nodes.entries symbol ys))
    (label_same (words_in s.rows.now.words) x))

start_node : (at : Option ℕ) (o : Option Symbol) → (first_spot at o).node ≡ at
start_node at None = refl
start_node at (Some d) = refl

-- the node of the spot is that of the arguments' row
pub spot_node : (s : Known) (symbol : ℕ) (xs : List Elem) → (spot_of s symbol (map denotation_of xs)).node
    ≡ node_of (words_in s.rows.now.words) s.rows.now.nodes.entries symbol (reverse xs)
spot_node s symbol xs =
    walk s symbol (start_of s symbol) xs [] (start_node (node_of (words_in s.rows.now.words) s.rows.now.nodes.entries
    symbol []) (slice_get s.symbols.now symbol))

-- ---- what is known there

pub record Declared (s : Known) (symbol : ℕ) (vs : List Denotation) : Type 0 where
  pub declared : Symbol
  pub at : slice_get s.symbols.now symbol ≡ Some declared
  pub xs : List Elem
  pub tuple : Contains (tuples_of s.domains.now declared.args) xs
  pub values : map denotation_of xs ≡ vs

typed_by : (s : Known) (symbol : ℕ) (o : Option Symbol) (vs : List Denotation) → slice_get s.symbols.now symbol ≡ o
    → arguments_typed (known_in s) o vs ≡ true → Declared s symbol vs
typed_by s symbol None vs e h = cc
typed_by s symbol (Some d) vs e h = let r = tuple_from s.domains.now d.args vs h in
    record { declared = d; at = e; xs = r.0; tuple = r.1; values = r.2 }

pub typed_at : (s : Known) (symbol : ℕ) (vs : List Denotation)
    → arguments_typed (known_in s) (slice_get s.symbols.now symbol) vs ≡ true → Declared s symbol vs
typed_at s symbol vs h = typed_by s symbol (slice_get s.symbols.now symbol) vs refl h

no_function : (o : Option ℕ) → is_some o ≡ false → o ≡ None
no_function None h = refl
no_function (Some ty) h = cc

pub predicate_row : (s : Known) (symbol : ℕ) (vs : List Denotation)
    → arguments_typed (known_in s) (slice_get s.symbols.now symbol) vs ≡ true
    → is_function_of s.symbols.now symbol ≡ false
    → value_of_row (known_in s) symbol vs None ≡ settled (is_closed s.closed.now symbol)
    (mark_at s.rows.now.nodes.entries (spot_of s symbol vs).node).known
predicate_row s symbol vs typed predicate =
    let d = typed_at s symbol vs typed in
    let none : d.declared.value ≡ None = no_function d.declared.value
    (sym (ap (λ o. option_map_or (λ (t : Symbol). is_some t.value) o false) d.at) ∙ predicate) in
    let a : GroundAtom = record { symbol = symbol; args = d.xs; value = None } in
    let over : IsAtomOver s.symbols.now s.domains.now a = (
      d.declared,
      d.at,
      d.tuple,
      subst (λ o. HasValueIn s.domains.now o None) (sym none) tt,
    ) in
    subst (λ us. value_of_row (known_in s) symbol us None ≡ settled (is_closed s.closed.now symbol)
    (mark_at s.rows.now.nodes.entries (spot_of s symbol us).node).known) d.values
    (value_is s.symbols.now s.domains.now (status_in s) a (atom_listed s.symbols.now s.domains.now a over)
    ∙ ap (λ n. settled (is_closed s.closed.now symbol) (mark_at s.rows.now.nodes.entries n).known)
    (sym (spot_node s symbol d.xs)))

any_false : (test : GroundAtom → Bool) (xs : List GroundAtom) → ((a : GroundAtom) → Has xs a → test a ≡ false)
    → list_any test xs ≡ false
any_false test [] h = refl
any_false test (x ∷ xs) h = ap (λ b. b || list_any test xs) (h x (inl refl)) ∙ any_false test xs (λ a m. h a (inr m))

filtered : (p : GroundAtom → Bool) (xs : List GroundAtom) (a : GroundAtom) → Has (filter p xs) a → Has xs a
filtered p xs a m = has_from xs a (from_filter p xs a (contains_from (filter p xs) a m))

with_value : (o : Option Elem) → is_some o ≡ true → same_option o None ≡ false
with_value None h = cc
with_value (Some x) h = refl

not_here : (s : Known) (symbol : ℕ) (vs : List Denotation) → is_function_of s.symbols.now symbol ≡ true
    → (a : GroundAtom) → Has (atoms_over s.symbols.now s.domains.now) a → is_atom symbol vs None a ≡ false
not_here s symbol vs function a m = elim (cases_Bool (a.symbol == symbol)) [
  | inl e ↦
      let some : is_some a.value ≡ true = sym (atom_kind s.symbols.now s.domains.now a m)
      ∙ ap (is_function_of s.symbols.now) (eqb-true a.symbol symbol e) ∙ function in
      and_right (a.symbol == symbol) (same_row a.args vs && same_option a.value None)
      (and_right (same_row a.args vs) (same_option a.value None) (with_value a.value some))
  | inr e ↦ and_left (a.symbol == symbol) (same_row a.args vs && same_option a.value None) e
]

pub function_row : (s : Known) (symbol : ℕ) (vs : List Denotation) → is_function_of s.symbols.now symbol ≡ true
    → value_of_row (known_in s) symbol vs None ≡ Unknown
function_row s symbol vs function =
    ap (λ b. if b then Yes else (if list_any (is_atom symbol vs None) (known_in s).false_atoms then No else Unknown))
    (any_false (is_atom symbol vs None) (known_in s).true_atoms (λ a m. not_here s symbol vs function a
    (filtered (λ b. is_yes (status_in s b)) (atoms_over s.symbols.now s.domains.now) a m)))
    ∙ ap (λ b. if b then No else Unknown)
    (any_false (is_atom symbol vs None) (known_in s).false_atoms
    (λ a m. not_here s symbol vs function a (filtered (λ b. is_no (status_in s b))
    (atoms_over s.symbols.now s.domains.now) a m)))

pub record Typed (s : Known) (symbol : ℕ) (v : Denotation) : Type 0 where
  pub declared : Symbol
  pub at : slice_get s.symbols.now symbol ≡ Some declared
  pub ty : ℕ
  pub value : declared.value ≡ Some ty
  pub element : Elem
  pub within : Contains (domain_at s.domains.now ty) element
  pub is : denotation_of element ≡ v

result_of : (s : Known) (symbol : ℕ) (d : Symbol) (o : Option ℕ) (v : Denotation) → slice_get s.symbols.now symbol
    ≡ Some d → d.value ≡ o → value_typed (known_in s) o v ≡ true → Typed s symbol v
result_of s symbol d None v at e h = cc
result_of s symbol d (Some ty) v at e h = let x = stands (domain_at s.domains.now ty) v h in
    record { declared = d; at = at; ty = ty; value = e; element = x.0; within = x.1; is = x.2 }

result_by : (s : Known) (symbol : ℕ) (o : Option Symbol) (v : Denotation) → slice_get s.symbols.now symbol ≡ o
    → result_typed (known_in s) o v ≡ true → Typed s symbol v
result_by s symbol None v e h = cc
result_by s symbol (Some d) v e h = result_of s symbol d d.value v e refl h

pub result_at : (s : Known) (symbol : ℕ) (v : Denotation) → result_typed (known_in s) (slice_get s.symbols.now symbol) v
    ≡ true → Typed s symbol v
result_at s symbol v h = result_by s symbol (slice_get s.symbols.now symbol) v refl h

same_declared : (o : Option Symbol) (c d : Symbol) → o ≡ Some c → o ≡ Some d → c ≡ d
same_declared o c d e f = cc

-- what the rows say of a value at a spot
abbrev pub status_at : Known → ℕ → Option ℕ → Option Label → Truth
status_at s symbol n l =
    value_status (mark_at s.rows.now.nodes.entries n).value l (settled (is_closed s.closed.now symbol)
    (denied (mark_at s.rows.now.nodes.entries (child_by s.rows.now.nodes.entries n l)).known))

pub atom_status : (s : Known) (symbol : ℕ) (xs : List Elem) (x : Elem)
    → status_in s (record { symbol = symbol; args = xs; value = Some x }) ≡ status_at s symbol
    (spot_of s symbol (map denotation_of xs)).node (value_label (words_in s.rows.now.words) (denotation_of x))
atom_status s symbol xs x =
    ap (status_at s symbol (node_of (words_in s.rows.now.words) s.rows.now.nodes.entries symbol (reverse xs)))
    (sym (label_same (words_in s.rows.now.words) x))
    ∙ ap (λ n. status_at s symbol n (value_label (words_in s.rows.now.words) (denotation_of x)))
    (sym (spot_node s symbol xs))

value_over : (s : Known) (symbol : ℕ) (vs : List Denotation) (v : Denotation) (d : Declared s symbol vs)
    (t : Typed s symbol v) → IsAtomOver s.symbols.now s.domains.now
    (record { symbol = symbol; args = d.xs; value = Some t.element })
value_over s symbol vs v d t =
    let same : d.declared ≡ t.declared = same_declared (slice_get s.symbols.now symbol) d.declared
    t.declared d.at t.at in
    let value : d.declared.value ≡ Some t.ty = ap (λ (c : Symbol). c.value) same ∙ t.value in
    (d.declared, d.at, d.tuple, subst (λ o. HasValueIn s.domains.now o (Some t.element)) (sym value) t.within)

pub value_row_known : (s : Known) (symbol : ℕ) (vs : List Denotation) (v : Denotation)
    → arguments_typed (known_in s) (slice_get s.symbols.now symbol) vs ≡ true
    → result_typed (known_in s) (slice_get s.symbols.now symbol) v ≡ true
    → value_of_row (known_in s) symbol vs (Some v) ≡ status_at s symbol (spot_of s symbol vs).node
    (value_label (words_in s.rows.now.words) v)
value_row_known s symbol vs v typed result =
    let d = typed_at s symbol vs typed in
    let t = result_at s symbol v result in
    let a : GroundAtom = record { symbol = symbol; args = d.xs; value = Some t.element } in
    subst (λ w. value_of_row (known_in s) symbol vs (Some w) ≡ status_at s symbol (spot_of s symbol vs).node
    (value_label (words_in s.rows.now.words) w)) t.is
    (subst (λ us. value_of_row (known_in s) symbol us (Some (denotation_of t.element)) ≡ status_at s symbol
    (spot_of s symbol us).node (value_label (words_in s.rows.now.words) (denotation_of t.element))) d.values
    (value_is s.symbols.now s.domains.now (status_in s) a (atom_listed s.symbols.now s.domains.now a
    (value_over s symbol vs v d t)) ∙ atom_status s symbol d.xs t.element))

-- ---- the value that is given

given_by : (t : Bool) (o p : Option Elem) (x : Elem) → (if t then o else p) ≡ Some x → ((t ≡ true) × (o ≡ Some x))
    ⊎ (p ≡ Some x)
given_by true o p x h = inl (refl, h)
given_by false o p x h = inr h

pub given_found : (s : ℕ) (vs : List Denotation) (atoms : List GroundAtom) (x : Elem) → given_value s vs atoms ≡ Some x
    → (a : GroundAtom) × Has atoms a × (a.symbol ≡ s) × (map denotation_of a.args ≡ vs) × (a.value ≡ Some x)
given_found s vs [] x h = cc
given_found s vs (a ∷ more) x h = elim (given_by ((a.symbol == s) && (same_row a.args vs && is_some a.value)) a.value
    (given_value s vs more) x h) [
      | inl e ↦
          let both = and_parts (a.symbol == s) (same_row a.args vs && is_some a.value) e.0 in
          let row = and_parts (same_row a.args vs) (is_some a.value) both.1 in
          (a, inl refl, eqb-true a.symbol s both.0, row_denotes a.args vs row.0, e.1)
      | inr e ↦ let r = given_found s vs more x e in (r.0, inr r.1, r.2, r.3, r.4)
    ]

given_test : (s : ℕ) (vs : List Denotation) (a : GroundAtom) (x : Elem) → a.symbol ≡ s → map denotation_of a.args ≡ vs
    → a.value ≡ Some x → ((a.symbol == s) && (same_row a.args vs && is_some a.value)) ≡ true
given_test s vs a x e r v =
    and_from (a.symbol == s) (same_row a.args vs && is_some a.value) (eq-eqb a.symbol s e)
    (and_from (same_row a.args vs) (is_some a.value) (subst (λ us. same_row a.args us ≡ true) r (row_itself a.args))
    (ap is_some v))

not_given : (t : Bool) (o p : Option Elem) → (if t then o else p) ≡ None → t ≡ true → o ≡ None
not_given true o p h e = h
not_given false o p h e = cc

later_none : (t : Bool) (o p : Option Elem) → (if t then o else p) ≡ None → is_some o ≡ true ⊎ (t ≡ false)
    → p ≡ None ⊎ (t ≡ true)
later_none true o p h e = inr refl
later_none false o p h e = inl h

-- where an atom gives a value, some value is given
pub given_some : (s : ℕ) (vs : List Denotation) (atoms : List GroundAtom) (a : GroundAtom) (x : Elem) → Has atoms a
    → a.symbol ≡ s → map denotation_of a.args ≡ vs → a.value ≡ Some x → (y : Elem) × (given_value s vs atoms ≡ Some y)
given_some s vs [] a x m e r v = absurd m
given_some s vs (b ∷ more) a x m e r v = by ((b.symbol == s) && (same_row b.args vs && is_some b.value)) refl b.value
    refl m (λ n. given_some s vs more a x n e r v)
  where
    by : (t : Bool) → ((b.symbol == s) && (same_row b.args vs && is_some b.value)) ≡ t → (o : Option Elem) → b.value ≡ o
        → Has (b ∷ more) a → (Has more a → (y : Elem) × (given_value s vs more ≡ Some y))
        → (y : Elem) × ((if t then b.value else given_value s vs more) ≡ Some y)
    by true f None g n go = absurd (true≢false (sym ((and_parts (same_row b.args vs) (is_some b.value)
        ((and_parts (b.symbol == s) (same_row b.args vs && is_some b.value) f).1)).1) ∙ ap is_some g))
    by true f (Some y) g n go = (y, g)
    by false f o g (inl same) go =
        absurd (true≢false (sym (given_test s vs b x (ap (λ (c : GroundAtom). c.symbol) same ∙ e)
        (ap (λ (c : GroundAtom). map denotation_of c.args) same ∙ r) (ap (λ (c : GroundAtom). c.value) same ∙ v))
        ∙ f))
    by false f o g (inr n) go = go n

some_or_none : {X : Type 0} (o : Option X) → ((x : X) → o ≡ Some x → ⊥) → o ≡ None
some_or_none None h = refl
some_or_none (Some x) h = absurd (h x refl)

-- nothing is given where the arguments are not typed, or the symbol has no value of the kind
pub given_untyped : (s : Known) (symbol : ℕ) (vs : List Denotation)
    → arguments_typed (known_in s) (slice_get s.symbols.now symbol) vs ≡ false
    → given_value symbol vs (known_in s).true_atoms ≡ None
given_untyped s symbol vs h = some_or_none (given_value symbol vs (known_in s).true_atoms) (λ x e.
    let g = given_found symbol vs (known_in s).true_atoms x e in
    let over = listed_over s.symbols.now s.domains.now g.0 (filtered (λ b. is_yes (status_in s b))
    (atoms_over s.symbols.now s.domains.now) g.0 g.1) in
    let at : slice_get s.symbols.now symbol ≡ Some over.0 = ap (slice_get s.symbols.now) (sym g.2) ∙ over.1 in
    let typed : are_typed s.domains.now over.0.args vs ≡ true =
    subst (λ us. are_typed s.domains.now over.0.args us ≡ true) g.3 (typed_tuple s.domains.now over.0.args g.0.args
    (tuple_elements s.domains.now over.0.args g.0.args over.2)) in
    true≢false (sym (ap (λ o. arguments_typed (known_in s) o vs) at ∙ typed) ∙ h))

-- an atom that gives the value has the status Yes there
pub record Gives (s : Known) (symbol : ℕ) (vs : List Denotation) (x : Elem) : Type 0 where
  pub status : status_at s symbol (spot_of s symbol vs).node (value_label (words_in s.rows.now.words) (denotation_of x))
      ≡ Yes
  pub result : result_typed (known_in s) (slice_get s.symbols.now symbol) (denotation_of x) ≡ true

yes_is : (t : Truth) → is_yes t ≡ true → t ≡ Yes
yes_is Yes h = refl
yes_is No h = cc
yes_is Unknown h = cc

in_type : (s : Known) (o : Option ℕ) (x : Elem) → HasValueIn s.domains.now o (Some x)
    → value_typed (known_in s) o (denotation_of x) ≡ true
in_type s None x h = absurd h
in_type s (Some ty) x h = stands_is (domain_at s.domains.now ty) x (has_from (domain_at s.domains.now ty) x h)

pub given_gives : (s : Known) (symbol : ℕ) (vs : List Denotation) (x : Elem)
    → given_value symbol vs (known_in s).true_atoms ≡ Some x → Gives s symbol vs x
given_gives s symbol vs x e =
    let g = given_found symbol vs (known_in s).true_atoms x e in
    let over = listed_over s.symbols.now s.domains.now g.0 (filtered (λ b. is_yes (status_in s b))
    (atoms_over s.symbols.now s.domains.now) g.0 g.1) in
    let at : slice_get s.symbols.now symbol ≡ Some over.0 = ap (slice_get s.symbols.now) (sym g.2) ∙ over.1 in
    let is : g.0 ≡ record { symbol = symbol; args = g.0.args; value = Some x } =
    atom_by g.0 (record { symbol = symbol; args = g.0.args; value = Some x }) g.2 refl g.4 in
    let yes_ : status_in s (record { symbol = symbol; args = g.0.args; value = Some x }) ≡ Yes =
    subst (λ b. status_in s b ≡ Yes) is (yes_is (status_in s g.0) (passes_filter (λ b. is_yes (status_in s b))
    (atoms_over s.symbols.now s.domains.now) g.0 g.1)) in
    record {
      status = subst (λ us. status_at s symbol (spot_of s symbol us).node (value_label (words_in s.rows.now.words)
          (denotation_of x)) ≡ Yes) g.3 (sym (atom_status s symbol g.0.args x) ∙ yes_);
      result = ap (λ o. result_typed (known_in s) o (denotation_of x)) at
          ∙ in_type s over.0.value x (subst (HasValueIn s.domains.now over.0.value) g.4 over.3);
    }

-- a typed value with the status Yes is given
pub gives_given : (s : Known) (symbol : ℕ) (vs : List Denotation) (v : Denotation)
    → arguments_typed (known_in s) (slice_get s.symbols.now symbol) vs ≡ true → (t : Typed s symbol v)
    → status_at s symbol (spot_of s symbol vs).node (value_label (words_in s.rows.now.words) v) ≡ Yes
    → (y : Elem) × (given_value symbol vs (known_in s).true_atoms ≡ Some y)
gives_given s symbol vs v typed t yes_ =
    let d = typed_at s symbol vs typed in
    let a : GroundAtom = record { symbol = symbol; args = d.xs; value = Some t.element } in
    let status : status_in s a ≡ Yes =
    atom_status s symbol d.xs t.element
    ∙ ap (λ us. status_at s symbol (spot_of s symbol us).node (value_label (words_in s.rows.now.words)
    (denotation_of t.element))) d.values
    ∙ ap (λ w. status_at s symbol (spot_of s symbol vs).node (value_label (words_in s.rows.now.words) w)) t.is ∙ yes_ in
    given_some symbol vs (known_in s).true_atoms a t.element
    (kept_has (λ b. is_yes (status_in s b)) (atoms_over s.symbols.now s.domains.now) a
    (atom_listed s.symbols.now s.domains.now a (value_over s symbol vs v d t)) (ap is_yes status)) refl
    d.values refl

-- the status Yes of a value at a spot says which label stands there
pub yes_label : (o l : Option Label) (t : Truth) → value_status o l t ≡ Yes → is_yes t ≡ false
    → (k : Label) × (o ≡ Some k) × (l ≡ Some k)
yes_label None l t h n = absurd (true≢false (sym (ap is_yes h) ∙ n))
yes_label (Some k) None t h n = cc
yes_label (Some k) (Some j) t h n = (k, refl, ap Some (sym (same_label_is k j (yes_if_true (same_label k j) h))))
  where
    yes_if_true : (b : Bool) → (if b then Yes else No) ≡ Yes → b ≡ true
    yes_if_true true e = refl
    yes_if_true false e = cc

pub label_yes : (s : Known) (symbol : ℕ) (n : Option ℕ) (l : Option Label) → status_at s symbol n l ≡ Yes
    → (k : Label) × ((mark_at s.rows.now.nodes.entries n).value ≡ Some k) × (l ≡ Some k)
label_yes s symbol n l h =
    yes_label (mark_at s.rows.now.nodes.entries n).value l (settled (is_closed s.closed.now symbol)
    (denied (mark_at s.rows.now.nodes.entries (child_by s.rows.now.nodes.entries n l)).known)) h
    (never_yes (is_closed s.closed.now symbol) (mark_at s.rows.now.nodes.entries
    (child_by s.rows.now.nodes.entries n l)).known)

pub status_label : (s : Known) (symbol : ℕ) (n : Option ℕ) (k : Label) → (mark_at s.rows.now.nodes.entries n).value
    ≡ Some k → status_at s symbol n (Some k) ≡ Yes
status_label s symbol n k h =
    ap (λ o. value_status o (Some k) (settled (is_closed s.closed.now symbol)
    (denied (mark_at s.rows.now.nodes.entries (child_by s.rows.now.nodes.entries n (Some k))).known))) h
    ∙ ap (λ b. if b then Yes else No) (same_label_refl k)

pub label_status : (s : Known) (symbol : ℕ) (n : Option ℕ) (k : Label) (l : Option Label)
    → (mark_at s.rows.now.nodes.entries n).value ≡ Some k → l ≡ Some k → status_at s symbol n l ≡ Yes
label_status s symbol n k l h e = ap (status_at s symbol n) e ∙ status_label s symbol n k h

other_than : (k : Label) (l : Option Label) → (l ≡ Some k → ⊥) → same_optional_label k l ≡ false
other_than k None ne = refl
other_than k (Some j) ne = false_from_ne_true (same_label k j) (λ e. ne (ap Some (sym (same_label_is k j e))))

pub label_other : (s : Known) (symbol : ℕ) (n : Option ℕ) (k : Label) (l : Option Label)
    → (mark_at s.rows.now.nodes.entries n).value ≡ Some k → (l ≡ Some k → ⊥) → status_at s symbol n l ≡ No
label_other s symbol n k l h ne =
    ap (λ o. value_status o l (settled (is_closed s.closed.now symbol)
    (denied (mark_at s.rows.now.nodes.entries (child_by s.rows.now.nodes.entries n l)).known))) h
    ∙ ap (λ b. if b then Yes else No) (other_than k l ne)

an_element : (ws : List (List ℕ)) (v : Denotation) (l : Label) → value_label ws v ≡ Some l
    → (x : Elem) × (denotation_of x ≡ v)
an_element ws (named q) l h = (Named q, refl)
an_element ws (number z) l h = (Num z, refl)
an_element ws minus_infinity l h = cc
an_element ws plus_infinity l h = cc
an_element ws undefined l h = cc

-- values with one label are equal
pub value_injective : (ws : List (List ℕ)) (u v : Denotation) (l : Label) → value_label ws u ≡ Some l
    → value_label ws v ≡ Some l → u ≡ v
value_injective ws u v l h i =
    let x = an_element ws u l h in
    let y = an_element ws v l i in
    let same : x.0 ≡ y.0 = label_injective ws x.0 y.0 l (sym (label_same ws x.0) ∙ ap (value_label ws) x.1 ∙ h)
    (sym (label_same ws y.0) ∙ ap (value_label ws) y.1 ∙ i) in
    sym x.1 ∙ ap denotation_of same ∙ y.1

same_label_at : (o : Option Label) (k l : Label) → o ≡ Some k → o ≡ Some l → k ≡ l
same_label_at o k l e f = cc

-- a value that is given has the label that stands at the spot
pub given_label : (s : Known) (symbol : ℕ) (vs : List Denotation) (x : Elem)
    → given_value symbol vs (known_in s).true_atoms ≡ Some x → (l : Label)
    × ((mark_at s.rows.now.nodes.entries (spot_of s symbol vs).node).value ≡ Some l)
    × (value_label (words_in s.rows.now.words) (denotation_of x) ≡ Some l)
given_label s symbol vs x e = label_yes s symbol (spot_of s symbol vs).node (value_label (words_in s.rows.now.words)
    (denotation_of x)) (given_gives s symbol vs x e).status

pub given_unmarked : (s : Known) (symbol : ℕ) (vs : List Denotation)
    → (mark_at s.rows.now.nodes.entries (spot_of s symbol vs).node).value ≡ None
    → given_value symbol vs (known_in s).true_atoms ≡ None
given_unmarked s symbol vs h = some_or_none (given_value symbol vs (known_in s).true_atoms) (λ x e. let g =
    given_label s symbol vs x e in let f : None ≡ Some g.0 = sym h ∙ g.1 in cc f)

pub given_unnamed : (s : Known) (symbol : ℕ) (vs : List Denotation) (l : Label)
    → (mark_at s.rows.now.nodes.entries (spot_of s symbol vs).node).value ≡ Some l
    → ((v : Denotation) → value_label (words_in s.rows.now.words) v ≡ Some l → ⊥)
    → given_value symbol vs (known_in s).true_atoms ≡ None
given_unnamed s symbol vs l h none = some_or_none (given_value symbol vs (known_in s).true_atoms) (λ x e.
    let g = given_label s symbol vs x e in
    none (denotation_of x) (g.2 ∙ ap Some (same_label_at (mark_at s.rows.now.nodes.entries
    (spot_of s symbol vs).node).value g.0 l g.1 h)))

pub given_outside : (s : Known) (symbol : ℕ) (vs : List Denotation) (l : Label) (v : Denotation)
    → (mark_at s.rows.now.nodes.entries (spot_of s symbol vs).node).value ≡ Some l
    → value_label (words_in s.rows.now.words) v ≡ Some l → result_typed (known_in s) (slice_get s.symbols.now symbol) v
    ≡ false → given_value symbol vs (known_in s).true_atoms ≡ None
given_outside s symbol vs l v h i out = some_or_none (given_value symbol vs (known_in s).true_atoms) (λ x e.
    let g = given_label s symbol vs x e in
    let same = value_injective (words_in s.rows.now.words) (denotation_of x) v l
    (g.2 ∙ ap Some (same_label_at (mark_at s.rows.now.nodes.entries (spot_of s symbol vs).node).value g.0 l g.1 h))
    i in
    true≢false (sym (given_gives s symbol vs x e).result ∙ ap (result_typed (known_in s)
    (slice_get s.symbols.now symbol)) same ∙ out))

pub given_there : (s : Known) (symbol : ℕ) (vs : List Denotation) (l : Label) (v : Denotation)
    → arguments_typed (known_in s) (slice_get s.symbols.now symbol) vs ≡ true
    → (mark_at s.rows.now.nodes.entries (spot_of s symbol vs).node).value ≡ Some l
    → value_label (words_in s.rows.now.words) v ≡ Some l → result_typed (known_in s)
    (slice_get s.symbols.now symbol) v ≡ true
    → option_map denotation_of (given_value symbol vs (known_in s).true_atoms) ≡ Some v
given_there s symbol vs l v typed h i result =
    let g = gives_given s symbol vs v typed (result_at s symbol v result)
    (ap (status_at s symbol (spot_of s symbol vs).node) i ∙ status_label s symbol (spot_of s symbol vs).node l h) in
    let r = given_label s symbol vs g.0 g.1 in
    ap (option_map denotation_of) g.1
    ∙ ap Some (value_injective (words_in s.rows.now.words) (denotation_of g.0) v l
    (r.2 ∙ ap Some (same_label_at (mark_at s.rows.now.nodes.entries (spot_of s symbol vs).node).value r.0 l r.1 h)) i)

-- equality of an optional label with a label, as the code tests it
abbrev pub option_label : Option Label → Label → Bool
option_label o l = option_eq label_equality.eq o (Some l)

pub option_equal : (o : Option Label) (l : Label) → option_label o l ≡ true → o ≡ Some l
option_equal None l h = cc
option_equal (Some k) l h = ap Some (same_label_is k l (sym (label_test k l) ∙ h))

pub equal_option : (o : Option Label) (l : Label) → o ≡ Some l → option_label o l ≡ true
equal_option o l e = ap (λ u. option_label u l) e ∙ label_test l l ∙ same_label_refl l
