-- What is left of a number of true atoms once the atoms of a structure are taken away.
use Rattle.std.proofs.Common.{◌≡◌, ◌∙◌, ◌≤◌, ◌<◌, ◌-◌, ◌+◌, ℕ, suc, arith, sym, ap, refl, subst, List, [], ◌∷◌, ◌++◌}
use Rattle.std.proofs.Common.{length, filter, Bool, true, false, cond, Option, Some, None, ◌⊎◌, inl, inr, get_or, drop}
use Rattle.std.specs.List.{flat_map, Contains}
use Rattle.std.specs.Option.{option_and_then}
use Rattle.std.proofs.lemmas.List.{at_drop_more}
use Rattle.kb_logic.specs.declared.elements.Elem.{Elem}
use Rattle.kb_logic.specs.declared.structures.Table.{Table}
use Rattle.kb_logic.specs.Structures.{IsDistinct}
use Rattle.kb_logic.specs.Models.{GroundAtom}
use Rattle.partial_structures.specs.AtomRows.{status_of}
use Rattle.partial_structures.specs.Flags.{is_closed}
use Rattle.partial_structures.specs.Status.{is_yes}
use Rattle.partial_structures.specs.Tally.{before_last, parts_of, parts_status, row_status, taken, left_after}
use Rattle.partial_structures.specs.Tally.{tables_left}
use Rattle.row_tries.specs.declared.rows.Edge.{Edge}
use Rattle.row_tries.specs.declared.rows.Mark.{Mark}
use Rattle.row_tries.specs.declared.truths.Truth.{Truth}
use Rattle.row_tries.specs.declared.truths.Truth.TheVariants.{Yes, No, Unknown}
use Rattle.kb_logic.proofs.Has.{Has, contains_from}

pub parts_are : (args : List Elem) (x : Elem) → parts_of (args ++ x ∷ []) ≡ Some (args, x)
parts_are [] x = refl
parts_are (y ∷ args) x = ap (before_last y) (parts_are args x)

pub next_table : (ws : List (List ℕ)) (es : List (Edge × Mark)) (closed : List Bool) (function : Bool)
    (tables : List Table) (i : ℕ) (t : Table) (left rest : ℕ) → i < length tables → t ≡ get_or tables i t
    → left_after (row_status ws es (is_closed closed t.symbol) function t.symbol) t.rows left ≡ Some rest
    → tables_left ws es closed function (drop (i + 1) tables) rest ≡ tables_left ws es closed function
    (drop i tables) left
next_table ws es closed function tables i t left rest h at e =
    sym (at_drop_more (λ ts. tables_left ws es closed function ts left) tables i t h
    ∙ ap (λ (u : Table). option_and_then (tables_left ws es closed function (drop (i + 1) tables))
    (left_after (row_status ws es (is_closed closed u.symbol) function u.symbol) u.rows left)) (sym at)
    ∙ ap (option_and_then (tables_left ws es closed function (drop (i + 1) tables))) e)

abbrev pub parts_atoms : ℕ → Option (List Elem × Elem) → List GroundAtom
parts_atoms s None = []
parts_atoms s (Some p) = record { symbol = s; args = p.0; value = Some p.1 } ∷ []

-- the atom of a row
abbrev pub row_atoms : Bool → ℕ → List Elem → List GroundAtom
row_atoms false s row = record { symbol = s; args = row; value = None } ∷ []
row_atoms true s row = parts_atoms s (parts_of row)

abbrev pub table_atoms : Bool → Table → List GroundAtom
table_atoms function t = flat_map (row_atoms function t.symbol) t.rows

-- the atoms of all rows
abbrev pub atoms_in : Bool → List Table → List GroundAtom
atoms_in function ts = flat_map (table_atoms function) ts

module _ {X : Type 0} (P : X → Truth) where
  left_by : (t : Truth) (n : ℕ) (xs ys : List X) → ((m : ℕ) → left_after P (xs ++ ys) m ≡ option_and_then
      (left_after P ys) (left_after P xs m))
      → option_and_then (left_after P (xs ++ ys)) (taken t n) ≡ option_and_then (left_after P ys)
      (option_and_then (left_after P xs) (taken t n))
  left_by Yes n xs ys h = h (n - 1)
  left_by No n xs ys h = refl
  left_by Unknown n xs ys h = h n

  pub left_after-append : (xs ys : List X) (n : ℕ) → left_after P (xs ++ ys) n ≡ option_and_then (left_after P ys)
      (left_after P xs n)
  left_after-append [] ys n = refl
  left_after-append (x ∷ xs) ys n = left_by (P x) n xs ys (left_after-append xs ys)

  -- no item is false
  abbrev pub NoneFalse : List X → Type 0
  NoneFalse xs = (x : X) → Has xs x → P x ≡ No → ⊥

  abbrev pub yes_count : List X → ℕ
  yes_count xs = length (filter (λ x. is_yes (P x)) xs)

  left_first : (t : Truth) (x : X) (xs : List X) (n m : ℕ) → P x ≡ t → option_and_then (left_after P xs)
      (taken t n) ≡ Some m
      → ((k : ℕ) → left_after P xs k ≡ Some m → NoneFalse xs × (m ≡ k - yes_count xs)) → NoneFalse (x ∷ xs)
      × (m ≡ n - length (cond (is_yes t) (x ∷ filter (λ y. is_yes (P y)) xs) (filter (λ y. is_yes (P y)) xs)))
  left_first Yes x xs n m is h go =
      let r = go (n - 1) h in (
        λ y at no_. elim at [
          | inl e ↦ absurd (let d : Yes ≡ No = sym is ∙ ap P e ∙ no_ in cc d)
          | inr more ↦ r.0 y more
              no_
        ],
        omega (arith, r.1),
      )
  left_first No x xs n m is h go = absurd (cc)
  left_first Unknown x xs n m is h go =
      let r = go n h in (
        λ y at no_. elim at [
          | inl e ↦ absurd (let d : Unknown ≡ No = sym is ∙ ap P e ∙ no_ in cc d)
          | inr more ↦ r.0 y
              more no_
        ],
        r.1,
      )

  some_same : (n m : ℕ) → Some n ≡ Some m → m ≡ n
  some_same n m e = cc

  pub left_is : (xs : List X) (n m : ℕ) → left_after P xs n ≡ Some m → NoneFalse xs × (m ≡ n - yes_count xs)
  left_is [] n m h = (λ y at. absurd at, some_same n m h ∙ omega arith)
  left_is (x ∷ xs) n m h = left_first (P x) x xs n m refl h (λ k. left_is xs k m)

  left_next : (t : Truth) (x : X) (xs : List X) (n : ℕ) → (t ≡ No → ⊥)
      → ((k : ℕ) → left_after P xs k ≡ Some (k - yes_count xs))
      → option_and_then (left_after P xs) (taken t n) ≡ Some (n - length
      (cond (is_yes t) (x ∷ filter (λ y. is_yes (P y)) xs) (filter (λ y. is_yes (P y)) xs)))
  left_next Yes x xs n h go = let less : (n - 1) - yes_count xs ≡ n - suc (yes_count xs) = omega arith in go (n - 1)
      ∙ ap Some less
  left_next No x xs n h go = absurd (h refl)
  left_next Unknown x xs n h go = go n

  pub is_left : (xs : List X) (n : ℕ) → NoneFalse xs → left_after P xs n ≡ Some (n - yes_count xs)
  is_left [] n h = ap Some (omega arith)
  is_left (x ∷ xs) n h = left_next (P x) x xs n (h x (inl refl)) (λ k. is_left xs k (λ y m. h y (inr m)))

module _ (ws : List (List ℕ)) (es : List (Edge × Mark)) (closed : List Bool) where
  abbrev of_atom : GroundAtom → Truth
  of_atom a = status_of ws es (is_closed closed a.symbol) a.symbol a.args a.value

  one_by : (t : Truth) (n : ℕ) → option_and_then (λ m. Some m) (taken t n) ≡ taken t n
  one_by Yes n = refl
  one_by No n = refl
  one_by Unknown n = refl

  parts_left : (s : ℕ) (o : Option (List Elem × Elem)) (n : ℕ) → taken (parts_status ws es (is_closed closed s) s o) n
      ≡ left_after of_atom (parts_atoms s o) n
  parts_left s None n = refl
  parts_left s (Some p) n = sym (one_by (of_atom (record { symbol = s; args = p.0; value = Some p.1 })) n)

  row_left : (function : Bool) (s : ℕ) (row : List Elem) (n : ℕ)
      → taken (row_status ws es (is_closed closed s) function s row) n ≡ left_after of_atom (row_atoms function s row) n
  row_left true s row n = parts_left s (parts_of row) n
  row_left false s row n = sym (one_by (of_atom (record { symbol = s; args = row; value = None })) n)

  and_then_same : {X Y : Type 0} (f g : X → Option Y) (o : Option X) → ((x : X) → f x ≡ g x) → option_and_then f o
      ≡ option_and_then g o
  and_then_same f g None h = refl
  and_then_same f g (Some x) h = h x

  rows_left : (function : Bool) (s : ℕ) (rows : List (List Elem)) (n : ℕ)
      → left_after (row_status ws es (is_closed closed s) function s) rows n ≡ left_after of_atom
      (flat_map (row_atoms function s) rows) n
  rows_left function s [] n = refl
  rows_left function s (row ∷ rows) n =
      and_then_same (left_after (row_status ws es (is_closed closed s) function s) rows)
      (left_after of_atom (flat_map (row_atoms function s) rows))
      (taken (row_status ws es (is_closed closed s) function s row) n) (rows_left function s rows)
      ∙ ap (option_and_then (left_after of_atom (flat_map (row_atoms function s) rows))) (row_left function s row n)
      ∙ sym (left_after-append of_atom (row_atoms function s row) (flat_map (row_atoms function s) rows) n)

  -- what the tables leave is what their atoms leave
  pub tables_leave : (function : Bool) (ts : List Table) (n : ℕ) → tables_left ws es closed function ts n
      ≡ left_after of_atom (atoms_in function ts) n
  tables_leave function [] n = refl
  tables_leave function (t ∷ ts) n =
      and_then_same (tables_left ws es closed function ts) (left_after of_atom (atoms_in function ts))
      (left_after (row_status ws es (is_closed closed t.symbol) function t.symbol) t.rows n)
      (tables_leave function ts)
      ∙ ap (option_and_then (left_after of_atom (atoms_in function ts))) (rows_left function t.symbol t.rows n)
      ∙ sym (left_after-append of_atom (table_atoms function t) (atoms_in function ts) n)

-- a list with one item taken out
pub record Without {X : Type 0} (ys : List X) (x : X) : Type 0 where
  pub rest : List X
  pub size : length ys ≡ suc (length rest)
  pub others : (y : X) → Has ys y → (y ≡ x) ⊎ Has rest y

pub without : {X : Type 0} (ys : List X) (x : X) → Has ys x → Without ys x
without [] x m = absurd m
without (y ∷ ys) x (inl e) = record {
  rest = ys;
  size = refl;
  others =
      λ z at. elim at [ inl f ↦ inl (sym f ∙ e) | inr more ↦ inr more ];
}
without (y ∷ ys) x (inr m) =
    let w = without ys x m in
    record {
      rest = y ∷ w.rest;
      size = ap suc w.size;
      others = λ z at. elim at [
        | inl f ↦ inr (inl f)
        | inr more ↦ elim (w.others z more)
            [ inl e ↦ inl e | inr r ↦ inr (inr r) ]
      ];
    }

left_in : {X : Type 0} (x : X) (xs ys : List X) (w : Without ys x) → (Contains xs x → ⊥)
    → ((y : X) → Has xs y → Has ys y) → (y : X) → Has xs y → Has w.rest y
left_in x xs ys w none sub y m = elim (w.others y (sub y m))
    [ inl e ↦ absurd (none (subst (Contains xs) e (contains_from xs y m))) | inr r ↦ r ]

-- distinct items of a list are no more than its items
pub at_most : {X : Type 0} (xs ys : List X) → IsDistinct xs → ((x : X) → Has xs x → Has ys x) → length xs ≤ length ys
at_most [] ys d sub = omega arith
at_most (x ∷ xs) ys d sub =
    let w = without ys x (sub x (inl refl)) in
    omega (arith, w.size, at_most xs w.rest d.1 (left_in x xs ys w d.0 (λ y m. sub y (inr m))))

-- and where they are as many, they are all of them
pub all_there : {X : Type 0} (xs ys : List X) → IsDistinct xs → ((x : X) → Has xs x → Has ys x) → length ys ≤ length xs
    → (y : X) → Has ys y → Has xs y
all_there [] [] d sub size y m = m
all_there [] (z ∷ ys) d sub size y m = absurd (omega (arith, size))
all_there (x ∷ xs) ys d sub size y m =
    let w = without ys x (sub x (inl refl)) in
    elim (w.others y m) [
      | inl e ↦ inl (sym e)
      | inr r ↦ inr (all_there xs w.rest d.1 (left_in x xs ys w d.0 (λ z at. sub z (inr at)))
          (omega (arith, w.size, size)) y r)
    ]
