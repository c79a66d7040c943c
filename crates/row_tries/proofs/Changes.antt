-- A new mark of one node.
use Rattle.std.proofs.Common.{◌≡◌, ℕ, suc, zero, ◌<◌, List, [], ◌∷◌, length, Bool, true, ◌&&◌, ◌||◌, nat_lt, Option}
use Rattle.std.proofs.Common.{None, Some, if◌then◌else◌, refl, sym, ap, ◌∙◌, arith, slice_get}
use Rattle.std.specs.Option.{option_map, option_map_or}
use Rattle.std.specs.List.{list_all}
use Rattle.kb_logic.specs.declared.elements.Elem.{Elem}
use Rattle.indexmap.specs.IndexMap.{set_value_at}
use Rattle.row_tries.specs.Words.{place}
use Rattle.row_tries.specs.Rows.{same_edge, label_of, child_by, node_of, blank, mark_at, mark_of, is_symbol}
use Rattle.row_tries.specs.Rows.{is_tree, Grows, Marks}
use Rattle.row_tries.specs.declared.rows.Edge.{Edge}
use Rattle.row_tries.specs.declared.rows.Mark.{Mark}
use Rattle.row_tries.specs.declared.rows.Label.{Label}
use Rattle.row_tries.specs.declared.rows.Label.TheVariants.{Symbol}
use Rattle.row_tries.proofs.Nodes.{node_injective}
use Rattle.row_tries.proofs.Growth.{node_within}

place-set : {K X : Type 0} (t : K → Bool) (es : List (K × X)) (n : ℕ) (m : X)
    → place (λ (e : K × X). t e.0) (set_value_at es n m) ≡ place (λ (e : K × X). t e.0) es
place-set t [] n m = refl
place-set t (e ∷ es) zero m = refl
place-set t (e ∷ es) (suc n) m = ap (λ o. if t e.0 then Some 0 else option_map (λ k. suc k) o) (place-set t es n m)

list_all-set : {K X : Type 0} (t : K → Bool) (es : List (K × X)) (n : ℕ) (m : X) → list_all (λ (e : K × X). t e.0)
    (set_value_at es n m) ≡ list_all (λ (e : K × X). t e.0) es
list_all-set t [] n m = refl
list_all-set t (e ∷ es) zero m = refl
list_all-set t (e ∷ es) (suc n) m = ap (λ b. t e.0 && b) (list_all-set t es n m)

length-set : {K X : Type 0} (es : List (K × X)) (n : ℕ) (m : X) → length (set_value_at es n m) ≡ length es
length-set [] n m = refl
length-set (e ∷ es) zero m = refl
length-set (e ∷ es) (suc n) m = ap suc (length-set es n m)

mark_here : (es : List (Edge × Mark)) (n : ℕ) (m : Mark) → n < length es → mark_at (set_value_at es n m) (Some n) ≡ m
mark_here [] n m h = absurd (omega arith)
mark_here (e ∷ es) zero m h = refl
mark_here (e ∷ es) (suc n) m h = mark_here es n m (omega arith)

get_other : {K X : Type 0} (es : List (K × X)) (n k : ℕ) (m : X) → (k ≡ n → ⊥) → slice_get (set_value_at es n m) k
    ≡ slice_get es k
get_other [] n k m ne = refl
get_other (e ∷ es) zero zero m ne = absurd (ne refl)
get_other (e ∷ es) zero (suc k) m ne = refl
get_other (e ∷ es) (suc n) zero m ne = refl
get_other (e ∷ es) (suc n) (suc k) m ne = get_other es n k m (λ e. ne (ap suc e))

child-set : (es : List (Edge × Mark)) (n : ℕ) (m : Mark) (o : Option ℕ) (l : Option Label)
    → child_by (set_value_at es n m) o l ≡ child_by es o l
child-set es n m None l = refl
child-set es n m (Some p) None = refl
child-set es n m (Some p) (Some l) = place-set (same_edge p l) es n m

pub node-set : (ws : List (List ℕ)) (es : List (Edge × Mark)) (n : ℕ) (m : Mark) (s : ℕ) (xs : List Elem)
    → node_of ws (set_value_at es n m) s xs ≡ node_of ws es s xs
node-set ws es n m s [] = place-set (same_edge 0 (Symbol s)) es n m
node-set ws es n m s (x ∷ xs) = child-set es n m (node_of ws (set_value_at es n m) s xs) (label_of ws x)
    ∙ ap (λ o. child_by es o (label_of ws x)) (node-set ws es n m s xs)

pub tree-set : (es : List (Edge × Mark)) (n : ℕ) (m : Mark) → is_tree es ≡ true → is_tree (set_value_at es n m) ≡ true
tree-set es n m h =
    ap (λ k. list_all (λ (e : Edge × Mark). is_symbol e.0.label || nat_lt e.0.parent k) (set_value_at es n m))
    (length-set es n m)
    ∙ list_all-set (λ (e : Edge). is_symbol e.label || nat_lt e.parent (length es)) es n m ∙ h

mark_other : (es : List (Edge × Mark)) (n : ℕ) (m : Mark) (o : Option ℕ) → (o ≡ Some n → ⊥)
    → mark_at (set_value_at es n m) o ≡ mark_at es o
mark_other es n m None ne = refl
mark_other es n m (Some k) ne = ap (λ o. option_map_or (λ (e : Edge × Mark). e.1) o blank)
    (get_other es n k m (λ e. ne (ap Some e)))

-- the row of the node has the new mark, and no other row has
pub set_Marks : (ws : List (List ℕ)) (es : List (Edge × Mark)) (s : ℕ) (xs : List Elem) (n : ℕ) (m : Mark)
    → node_of ws es s xs ≡ Some n → n < length es → Marks ws es (set_value_at es n m) s xs m
set_Marks ws es s xs n m at within = record {
  here = ap (mark_at (set_value_at es n m)) (node-set ws es n m s xs ∙ at) ∙ mark_here es n m within;
  others = λ r ys ne.
      ap (mark_at (set_value_at es n m)) (node-set ws es n m r ys)
      ∙ mark_other es n m (node_of ws es r ys) (λ e. ne (node_injective ws es r s ys xs n e at));
}

pub Grows-refl : (es : List (Edge × Mark)) → Grows es es
Grows-refl es = record { nodes = λ ws s xs n h. h; marks = λ ws s xs. refl }

pub Grows-trans : (es fs gs : List (Edge × Mark)) → Grows es fs → Grows fs gs → Grows es gs
Grows-trans es fs gs a b = record {
  nodes = λ ws s xs n h. b.nodes ws s xs n (a.nodes ws s xs n h);
  marks = λ ws s xs. b.marks ws s xs ∙ a.marks ws s xs;
}

-- a tree that grew, and then a new mark of one of its nodes
pub set_after : (ws later : List (List ℕ)) (es fs gs : List (Edge × Mark)) (s : ℕ) (xs ys : List Elem) (n : ℕ)
    (mark : Mark) (f : Mark → Mark)
    → later ≡ ws → Grows es fs → node_of later fs s ys ≡ Some n → ys ≡ xs → mark ≡ mark_at fs (Some n)
    → gs ≡ set_value_at fs n (f mark) → Marks ws es gs s xs (f (mark_of ws es s xs))
set_after ws later es fs gs s xs ys n mark f same grows at row is set =
    let here : node_of ws fs s xs ≡ Some n = ap (λ w. node_of w fs s xs) (sym same)
    ∙ ap (node_of later fs s) (sym row) ∙ at in
    let was : mark ≡ mark_of ws es s xs = is ∙ ap (mark_at fs) (sym here) ∙ grows.marks ws s xs in
    let marks = set_Marks ws fs s xs n (f mark) here (node_within ws fs s xs n here) in
    record {
      here = ap (λ hs. mark_of ws hs s xs) set ∙ marks.here ∙ ap f was;
      others = λ r zs ne. ap (λ hs. mark_of ws hs r zs) set ∙ marks.others r zs ne ∙ grows.marks ws r zs;
    }

-- a new mark after a tree grew is one of the tree before
pub grown_Marks : (ws : List (List ℕ)) (es fs gs : List (Edge × Mark)) (s : ℕ) (xs : List Elem) (f : Mark → Mark)
    → Grows es fs → Marks ws fs gs s xs (f (mark_of ws fs s xs)) → Marks ws es gs s xs (f (mark_of ws es s xs))
grown_Marks ws es fs gs s xs f grows m = record {
  here = m.here ∙ ap f (grows.marks ws s xs);
  others = λ r zs ne. m.others r zs ne ∙ grows.marks ws r zs;
}
