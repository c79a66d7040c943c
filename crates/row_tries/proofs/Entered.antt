-- What the entry of an edge says of the tree.
use Rattle.std.proofs.Common.{◌≡◌, ℕ, suc, List, [], ◌∷◌, Bool, true, false, Option, None, Some, cond}
use Rattle.std.proofs.Common.{if◌then◌else◌, refl, sym, ap, ◌∙◌, position, is_some, slice_get, subst, ◌==◌}
use Rattle.std.specs.Option.{option_map}
use Rattle.std.specs.List.{IsDistinct, position_or_len}
use Rattle.std.specs.Map.{keys_of, lookup}
use Rattle.std.proofs.lemmas.Bool.{and_parts, eqb-true}
use Rattle.std.proofs.lemmas.Option.{slice_get-map}
use Rattle.indexmap.proofs.MapLemmas.{Found-position, some_index}
use Rattle.row_tries.specs.Words.{place}
use Rattle.row_tries.specs.Rows.{same_edge, same_label, child_of}
use Rattle.row_tries.specs.declared.rows.Edge.{Edge}
use Rattle.row_tries.specs.declared.rows.Mark.{Mark}
use Rattle.row_tries.specs.declared.rows.Label.{Label}
use Rattle.row_tries.proofs.Places.{found_place, own_place, place-map}
use Rattle.row_tries.proofs.Nodes.{same_label_is}

none_by : {X : Type 0} (b : Bool) (v : X) (o : Option X) (r : Option ℕ) → cond b (Some v) o ≡ None
    → (o ≡ None → r ≡ None) → (if b then Some 0 else option_map (λ n. suc n) r) ≡ None
none_by true v o r h go = absurd (cc)
none_by false v o r h go = ap (option_map (λ n. suc n)) (go h)

-- a key that has no value has no place
none_placed : {K X : Type 0} (t s : K → Bool) → ((k : K) → t k ≡ s k) → (es : List (K × X)) → lookup t es ≡ None
    → place (λ (e : K × X). s e.0) es ≡ None
none_placed t s h [] n = refl
none_placed t s h (e ∷ es) n =
    ap (λ b. if b then Some 0 else option_map (λ m. suc m) (place (λ d. s d.0) es)) (sym (h e.0))
    ∙ none_by (t e.0) e.1 (lookup t es) (place (λ d. s d.0) es) n (none_placed t s h es)

-- a key that has a value has a place
found_by : {K X : Type 0} (t : K → Bool) (es : List (K × X)) (n : ℕ) (o : Option ℕ) → position t (keys_of es) ≡ o
    → is_some o ≡ true → n ≡ position_or_len t (keys_of es) → position t (keys_of es) ≡ Some n
found_by t es n None e there is = absurd (cc)
found_by t es n (Some i) e there is = e ∙ ap Some (sym (is ∙ (Found-position t es i e).or_len))

module _ (eq : Edge → Edge → Bool) (es : List (Edge × Mark)) (p : ℕ) (l : Label)
    (test : (e : Edge) → eq (record { parent = p; label = l }) e ≡ same_edge p l e) where
  abbrev edge : Edge
  edge = record { parent = p; label = l }

  -- an edge that has an entry leads to the entry's index
  pub entered_child : (n : ℕ) → is_some (lookup (eq edge) es) ≡ true → n ≡ position_or_len (eq edge) (keys_of es)
      → child_of es p l ≡ Some n
  entered_child n there is =
      let at = found_by (eq edge) es n (position (eq edge) (keys_of es)) refl (some_index (eq edge) es ∙ there) is in
      sym (found_place (λ (e : Edge × Mark). e.0) (eq edge) (λ (e : Edge × Mark). same_edge p l e.0) es (Some n)
      (sym at) (λ e. test e.0))

  -- an edge that has none leads nowhere
  pub no_child : lookup (eq edge) es ≡ None → child_of es p l ≡ None
  no_child none = none_placed (eq edge) (same_edge p l) test es none

same_as : (p : ℕ) (l : Label) (x y : Edge) → same_edge p l x ≡ true → same_edge p l y ≡ true
    → same_edge x.parent x.label y ≡ true
same_as p l x y s t =
    let both = and_parts (p == x.parent) (same_label l x.label) s in
    subst (λ q. same_edge q x.label y ≡ true) (eqb-true p x.parent both.0)
    (subst (λ k. same_edge p k y ≡ true) (same_label_is l x.label both.1) t)

-- the edge that stands at a place leads there, where none stands twice
pub own_child : (eq : Edge → Edge → Bool) (es : List (Edge × Mark)) (p : ℕ) (l : Label) (n : ℕ) (e : Edge × Mark)
    → ((a b : Edge) → eq a b ≡ same_edge a.parent a.label b) → IsDistinct eq (keys_of es) → slice_get es n ≡ Some e
    → same_edge p l e.0 ≡ true → child_of es p l ≡ Some n
own_child eq es p l n e test distinct at passes =
    let key : slice_get (keys_of es) n ≡ Some e.0 = slice_get-map (λ (d : Edge × Mark). d.0) es n
    ∙ ap (option_map (λ (d : Edge × Mark). d.0)) at in
    sym (place-map (λ (d : Edge × Mark). d.0) (same_edge p l) (λ (d : Edge × Mark). same_edge p l d.0) (λ d. refl) es)
    ∙ own_place eq (same_edge p l) (λ x y s t. test x y ∙ same_as p l x y s t) (keys_of es) n e.0 distinct key passes
