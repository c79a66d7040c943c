-- One more node changes no row's mark.
use Rattle.std.proofs.Common.{◌≡◌, ℕ, suc, zero, ◌<◌, List, [], ◌∷◌, ◌++◌, length, Bool, true, false, ◌&&◌, ◌||◌, ◌==◌}
use Rattle.std.proofs.Common.{nat_lt, Option, None, Some, if◌then◌else◌, refl, sym, ap, ◌∙◌, arith, slice_get, ◌⊎◌, inl}
use Rattle.std.proofs.Common.{inr, length-append, subst}
use Rattle.std.specs.Option.{option_map, option_map_or}
use Rattle.std.specs.List.{list_all}
use Rattle.std.proofs.lemmas.Bool.{eqb-true, and_parts, true≢false, or_cases, false_from_ne_true, ltb-true, lt-ltb}
use Rattle.std.proofs.lemmas.Bool.{or_left, or_right, and_from, eq-eqb}
use Rattle.std.proofs.lemmas.Bool.Decides.{nat_tests, Decides-int_eq}
use Rattle.std.proofs.lemmas.List.Folds.{list_all-append}
use Rattle.std.proofs.lemmas.Option.{slice_get_within}
use Rattle.kb_logic.specs.declared.elements.Elem.{Elem}
use Rattle.indexmap.specs.IndexMap.{insert_entry}
use Rattle.row_tries.specs.Words.{place}
use Rattle.row_tries.specs.Rows.{same_label, same_edge, label_of, child_of, child_by, node_of, blank, mark_at}
use Rattle.row_tries.specs.Rows.{mark_of, is_symbol, is_tree, Grows}
use Rattle.row_tries.specs.declared.rows.Edge.{Edge}
use Rattle.row_tries.specs.declared.rows.Mark.{Mark}
use Rattle.row_tries.specs.declared.rows.Label.{Label}
use Rattle.row_tries.specs.declared.rows.Label.TheVariants.{Symbol, Word, Number}
use Rattle.row_tries.proofs.Places.{found, stays, new_place}
use Rattle.row_tries.proofs.Nodes.{child_by_is, label_no_symbol, same_label_is}

-- an item stays where it is as the list grows
get_front : {X : Type 0} (xs ys : List X) (n : ℕ) (x : X) → slice_get xs n ≡ Some x → slice_get (xs ++ ys) n ≡ Some x
get_front [] ys n x h = absurd (cc)
get_front (y ∷ xs) ys zero x h = h
get_front (y ∷ xs) ys (suc n) x h = get_front xs ys n x h

get_end : {X : Type 0} (xs : List X) (x : X) → slice_get (xs ++ x ∷ []) (length xs) ≡ Some x
get_end [] x = refl
get_end (y ∷ xs) x = get_end xs x

insert_by : {K X : Type 0} (eq : K → K → Bool) (t : K → Bool) (k : K) (v : X) (e : K × X) (es : List (K × X)) (b : Bool)
    → t e.0 ≡ b → eq k e.0 ≡ b
    → (if b then Some 0 else option_map (λ n. suc n) (place (λ (d : K × X). t d.0) es)) ≡ None
    → (place (λ (d : K × X). t d.0) es ≡ None → insert_entry eq es k v ≡ es ++ (k, v) ∷ [])
    → (if b then (e.0, v) ∷ es else e ∷ insert_entry eq es k v) ≡ e ∷ (es ++ (k, v) ∷ [])
insert_by eq t k v e es true h i none go = absurd (cc)
insert_by eq t k v e es false h i none go = ap (λ l. e ∷ l) (go (no_place (place (λ d. t d.0) es) none))
  where
    no_place : (o : Option ℕ) → option_map (λ n. suc n) o ≡ None → o ≡ None
    no_place None h = refl
    no_place (Some n) h = absurd (cc)

-- a new key goes last
pub insert_new : {K X : Type 0} (eq : K → K → Bool) (t : K → Bool) (k : K) (v : X) → ((e : K) → eq k e ≡ t e)
    → (es : List (K × X)) → place (λ (d : K × X). t d.0) es ≡ None → insert_entry eq es k v ≡ es ++ (k, v) ∷ []
insert_new eq t k v h [] none = refl
insert_new eq t k v h (e ∷ es) none =
    ap (λ b. if b then (e.0, v) ∷ es else e ∷ insert_entry eq es k v) (h e.0)
    ∙ insert_by eq t k v e es (t e.0) refl (h e.0) none (insert_new eq t k v h es)

-- a node is one of the nodes
pub record IsNode (es : List (Edge × Mark)) (n : ℕ) : Type 0 where
  pub item : Edge × Mark
  pub at : slice_get es n ≡ Some item

pub child_there : (es : List (Edge × Mark)) (p : ℕ) (l : Label) (n : ℕ) → child_of es p l ≡ Some n → IsNode es n
child_there es p l n h = let f = found (λ (e : Edge × Mark). same_edge p l e.0) es n h in
    record { item = f.item; at = f.at }

pub node_there : (ws : List (List ℕ)) (es : List (Edge × Mark)) (s : ℕ) (xs : List Elem) (n : ℕ) → node_of ws es s xs
    ≡ Some n → IsNode es n
node_there ws es s [] n h = child_there es 0 (Symbol s) n h
node_there ws es s (x ∷ xs) n h =
    let b = child_by_is es (node_of ws es s xs) (label_of ws x) n h in
    child_there es b.parent b.label n b.is

not_placed : (n : ℕ) (k : Label) (e : Edge) → (is_symbol e.label || nat_lt e.parent n) ≡ true → is_symbol k ≡ false
    → same_edge n k e ≡ false
not_placed n k e h plain = false_from_ne_true (same_edge n k e) (λ t.
    let both = and_parts (n == e.parent) (same_label k e.label) t in
    let at : n ≡ e.parent = eqb-true n e.parent both.0 in
    let is : k ≡ e.label = same_label_is k e.label both.1 in
    elim (or_cases (is_symbol e.label) (nat_lt e.parent n) h) [
      | inl y ↦ true≢false (sym y ∙ ap is_symbol (sym is) ∙ plain)
      | inr y ↦ let below : e.parent < n = ltb-true e.parent n y in omega (arith, below, at)
    ])

none_placed : (n : ℕ) (k : Label) (es : List (Edge × Mark)) → list_all
    (λ (e : Edge × Mark). is_symbol e.0.label || nat_lt e.0.parent n) es ≡ true → is_symbol k ≡ false
    → place (λ (e : Edge × Mark). same_edge n k e.0) es ≡ None
none_placed n k [] h plain = refl
none_placed n k (e ∷ es) h plain =
    let both = and_parts (is_symbol e.0.label || nat_lt e.0.parent n)
    (list_all (λ (d : Edge × Mark). is_symbol d.0.label || nat_lt d.0.parent n) es) h in
    ap (λ b. if b then Some 0 else option_map (λ m. suc m) (place (λ (d : Edge × Mark). same_edge n k d.0) es))
    (not_placed n k e.0 both.0 plain)
    ∙ ap (option_map (λ m. suc m)) (none_placed n k es both.1 plain)

still_placed : (n m : ℕ) (es : List (Edge × Mark)) → n < m → list_all
    (λ (e : Edge × Mark). is_symbol e.0.label || nat_lt e.0.parent n) es ≡ true
    → list_all (λ (e : Edge × Mark). is_symbol e.0.label || nat_lt e.0.parent m) es ≡ true
still_placed n m [] lt h = refl
still_placed n m (e ∷ es) lt h =
    let both = and_parts (is_symbol e.0.label || nat_lt e.0.parent n)
    (list_all (λ (d : Edge × Mark). is_symbol d.0.label || nat_lt d.0.parent n) es) h in
    let rest = still_placed n m es lt both.1 in
    let here : (is_symbol e.0.label || nat_lt e.0.parent m) ≡ true =
    elim (or_cases (is_symbol e.0.label) (nat_lt e.0.parent n) both.0) [
      | inl y ↦ or_left (is_symbol e.0.label) (nat_lt e.0.parent m) y
      | inr y ↦ or_right (is_symbol e.0.label) (nat_lt e.0.parent m) (let below : e.0.parent < n =
          ltb-true e.0.parent n y in lt-ltb e.0.parent m (omega (arith, below, lt)))
    ] in
    ap (λ b. b && list_all (λ (d : Edge × Mark). is_symbol d.0.label || nat_lt d.0.parent m) es) here ∙ rest

-- either the node that was there or the new one
either_new : (b : Bool) (o : Option ℕ) (n : ℕ) → o ≡ (if b then Some n else None) → (o ≡ None) ⊎ (o ≡ Some n)
either_new true o n h = inr h
either_new false o n h = inl h

module _ (es : List (Edge × Mark)) (p : ℕ) (l : Label) (tree : is_tree es ≡ true)
    (placed : (is_symbol l || nat_lt p (length es)) ≡ true) where
  abbrev pub grown : List (Edge × Mark)
  grown = es ++ (record { parent = p; label = l }, blank) ∷ []

  pub grown_nodes : (ws : List (List ℕ)) (s : ℕ) (xs : List Elem) (n : ℕ) → node_of ws es s xs ≡ Some n
      → node_of ws grown s xs ≡ Some n
  grown_nodes ws s [] n h = stays (λ (e : Edge × Mark). same_edge 0 (Symbol s) e.0) es _ n h
  grown_nodes ws s (x ∷ xs) n h =
      let b = child_by_is es (node_of ws es s xs) (label_of ws x) n h in
      let rest = grown_nodes ws s xs b.parent b.from in
      let there : child_of grown b.parent b.label ≡ Some n = stays (λ (e : Edge × Mark). same_edge b.parent b.label e.0)
      es (record { parent = p; label = l }, blank) n b.is in
      ap (λ o. child_by grown o (label_of ws x)) rest ∙ ap (child_by grown (Some b.parent)) b.by ∙ there

  childless : (k : Label) → is_symbol k ≡ false → child_of grown (length es) k ≡ None
  childless k plain =
      new_place (λ (e : Edge × Mark). same_edge (length es) k e.0) es (record { parent = p; label = l }, blank)
      (none_placed (length es) k es tree plain)
      ∙ ap (λ b. if b then Some (length es) else None) (not_placed (length es) k (record { parent = p; label = l })
      placed plain)

  child_new : (q : ℕ) (k : Label) → child_of es q k ≡ None → (child_of grown q k ≡ None)
      ⊎ (child_of grown q k ≡ Some (length es))
  child_new q k h = either_new (same_edge q k (record { parent = p; label = l })) (child_of grown q k) (length es)
      (new_place (λ (e : Edge × Mark). same_edge q k e.0) es (record { parent = p; label = l }, blank) h)

  below_new : (o : Option Label) → ((k : Label) → o ≡ Some k → is_symbol k ≡ false)
      → child_by grown (Some (length es)) o ≡ None
  below_new None plain = refl
  below_new (Some k) plain = childless k (plain k refl)

  step_new : (q : ℕ) (o : Option Label) → child_by es (Some q) o ≡ None → (child_by grown (Some q) o ≡ None)
      ⊎ (child_by grown (Some q) o ≡ Some (length es))
  step_new q None h = inl refl
  step_new q (Some k) h = child_new q k h

  more_new : (ws : List (List ℕ)) (s : ℕ) (x : Elem) (xs : List Elem) → node_of ws es s (x ∷ xs) ≡ None → (o : Option ℕ)
      → node_of ws es s xs ≡ o
      → (node_of ws es s xs ≡ None → (node_of ws grown s xs ≡ None) ⊎ (node_of ws grown s xs ≡ Some (length es)))
      → (node_of ws grown s (x ∷ xs) ≡ None) ⊎ (node_of ws grown s (x ∷ xs) ≡ Some (length es))
  more_new ws s x xs h None e go = elim (go e) [
    | inl none ↦ inl (ap (λ o. child_by grown o (label_of ws x)) none)
    | inr new ↦ inl (ap (λ o. child_by grown o (label_of ws x)) new ∙ below_new (label_of ws x) (label_no_symbol ws x))
  ]
  more_new ws s x xs h (Some q) e go =
      let same = ap (λ o. child_by grown o (label_of ws x)) (grown_nodes ws s xs q e) in
      let none : child_by es (Some q) (label_of ws x) ≡ None = sym (ap (λ o. child_by es o (label_of ws x)) e) ∙ h in
      elim (step_new q (label_of ws x) none) [ inl n ↦ inl (same ∙ n) | inr n ↦ inr (same ∙ n) ]

  node_new : (ws : List (List ℕ)) (s : ℕ) (xs : List Elem) → node_of ws es s xs ≡ None → (node_of ws grown s xs ≡ None)
      ⊎ (node_of ws grown s xs ≡ Some (length es))
  node_new ws s [] h = child_new 0 (Symbol s) h
  node_new ws s (x ∷ xs) h = more_new ws s x xs h (node_of ws es s xs) refl (node_new ws s xs)

  mark_there : (n : ℕ) → IsNode es n → mark_at grown (Some n) ≡ mark_at es (Some n)
  mark_there n i = ap (λ o. option_map_or (λ (e : Edge × Mark). e.1) o blank) (get_front es _ n i.item i.at ∙ sym i.at)

  mark_new : mark_at grown (Some (length es)) ≡ blank
  mark_new = ap (λ o. option_map_or (λ (e : Edge × Mark). e.1) o blank)
      (get_end es (record { parent = p; label = l }, blank))

  grown_marks : (ws : List (List ℕ)) (s : ℕ) (xs : List Elem) → mark_of ws grown s xs ≡ mark_of ws es s xs
  grown_marks ws s xs = by (node_of ws es s xs) refl
    where
      by : (o : Option ℕ) → node_of ws es s xs ≡ o → mark_of ws grown s xs ≡ mark_of ws es s xs
      by None e = elim (node_new ws s xs e) [
        | inl none ↦ ap (mark_at grown) none ∙ sym (ap (mark_at es) e)
        | inr new ↦ ap (mark_at grown) new ∙ mark_new ∙ sym (ap (mark_at es) e)
      ]
      by (Some n) e = ap (mark_at grown) (grown_nodes ws s xs n e) ∙ mark_there n (node_there ws es s xs n e)
          ∙ sym (ap (mark_at es) e)

  pub grown_Grows : Grows es grown
  grown_Grows = record { nodes = grown_nodes; marks = grown_marks }

  pub grown_tree : is_tree grown ≡ true
  grown_tree =
      let longer : length grown ≡ suc (length es) = length-append es _ ∙ omega arith in
      let wider : length es < length grown = omega (arith, longer) in
      let front = still_placed (length es) (length grown) es wider tree in
      let last = still_placed (length es) (length grown) ((record { parent = p; label = l }, blank) ∷ []) wider
      (ap (λ b. b && true) placed) in
      list_all-append (λ (e : Edge × Mark). is_symbol e.0.label || nat_lt e.0.parent (length grown)) es
      ((record { parent = p; label = l }, blank) ∷ [])
      ∙ ap (λ b. b && list_all (λ (e : Edge × Mark). is_symbol e.0.label || nat_lt e.0.parent (length grown))
      ((record { parent = p; label = l }, blank) ∷ [])) front ∙ last

pub same_label_refl : (l : Label) → same_label l l ≡ true
same_label_refl (Symbol a) = grind (arith, nat_tests)
same_label_refl (Word a) = grind (arith, nat_tests)
same_label_refl (Number z) = (Decides-int_eq z z).1 refl

same_edge_refl : (p : ℕ) (l : Label) → same_edge p l (record { parent = p; label = l }) ≡ true
same_edge_refl p l = and_from (p == p) (same_label l l) (eq-eqb p p refl) (same_label_refl l)

-- the new node is the child that was sought
pub grown_child : (es : List (Edge × Mark)) (p : ℕ) (l : Label) → child_of es p l ≡ None
    → child_of (es ++ (record { parent = p; label = l }, blank) ∷ []) p l ≡ Some (length es)
grown_child es p l none =
    new_place (λ (e : Edge × Mark). same_edge p l e.0) es (record { parent = p; label = l }, blank) none
    ∙ ap (λ b. if b then Some (length es) else None) (same_edge_refl p l)

-- what the insertion left is a tree
pub inserted_tree : (eq : Edge → Edge → Bool) (es new : List (Edge × Mark)) (p : ℕ) (l : Label)
    → new ≡ insert_entry eq es (record { parent = p; label = l }) blank
    → ((e : Edge) → eq (record { parent = p; label = l }) e ≡ same_edge p l e)
    → child_of es p l ≡ None → is_tree es ≡ true → (is_symbol l || nat_lt p (length es)) ≡ true → is_tree new ≡ true
inserted_tree eq es new p l ok test none tree placed =
    ap is_tree (ok ∙ insert_new eq (same_edge p l) (record { parent = p; label = l }) blank test es none)
    ∙ grown_tree es p l tree placed

pub inserted_child : (eq : Edge → Edge → Bool) (es new : List (Edge × Mark)) (p : ℕ) (l : Label) (n : ℕ)
    → new ≡ insert_entry eq es (record { parent = p; label = l }) blank
    → ((e : Edge) → eq (record { parent = p; label = l }) e ≡ same_edge p l e)
    → child_of es p l ≡ None → n ≡ length es → child_of new p l ≡ Some n
inserted_child eq es new p l n ok test none is =
    ap (λ fs. child_of fs p l) (ok ∙ insert_new eq (same_edge p l) (record { parent = p; label = l }) blank test es
    none) ∙ grown_child es p l none ∙ ap Some (sym is)

pub inserted_Grows : (eq : Edge → Edge → Bool) (es new : List (Edge × Mark)) (p : ℕ) (l : Label)
    → new ≡ insert_entry eq es (record { parent = p; label = l }) blank
    → ((e : Edge) → eq (record { parent = p; label = l }) e ≡ same_edge p l e)
    → child_of es p l ≡ None → is_tree es ≡ true → (is_symbol l || nat_lt p (length es)) ≡ true → Grows es new
inserted_Grows eq es new p l ok test none tree placed =
    subst (λ fs. Grows es fs) (sym (ok ∙ insert_new eq (same_edge p l) (record { parent = p; label = l }) blank test es
    none)) (grown_Grows es p l tree placed)

-- a row's node is below their number
pub node_within : (ws : List (List ℕ)) (es : List (Edge × Mark)) (s : ℕ) (xs : List Elem) (n : ℕ) → node_of ws es s xs
    ≡ Some n → n < length es
node_within ws es s xs n h = let there = node_there ws es s xs n h in slice_get_within es n there.item there.at
