-- Rows and their nodes: a node is that of one row alone, and what new nodes and new marks change.
use Rattle.std.proofs.Common.{◌≡◌, ℕ, ℤ, List, [], ◌∷◌, true, false, ◌==◌, Option, None, Some, refl, sym, ap, ◌∙◌}
use Rattle.std.proofs.Common.{slice_get}
use Rattle.std.specs.Option.{option_map}
use Rattle.std.specs.Str.{bytes_eq}
use Rattle.std.proofs.lemmas.Bool.{eqb-true, and_parts, true≢false}
use Rattle.std.proofs.lemmas.Bool.Decides.{Decides-int_eq}
use Rattle.std.proofs.lemmas.Slice.Eq.{bytes_eq-Decides}
use Rattle.kb_logic.specs.declared.elements.Elem.{Elem}
use Rattle.kb_logic.specs.declared.elements.Elem.TheVariants.{Named, Num}
use Rattle.row_tries.specs.Words.{place}
use Rattle.row_tries.specs.Rows.{same_label, same_edge, label_of, child_of, child_by, node_of, is_symbol}
use Rattle.row_tries.specs.declared.rows.Edge.{Edge}
use Rattle.row_tries.specs.declared.rows.Mark.{Mark}
use Rattle.row_tries.specs.declared.rows.Label.{Label}
use Rattle.row_tries.specs.declared.rows.Label.TheVariants.{Symbol, Word, Number}
use Rattle.row_tries.proofs.Places.{found}

-- labels that the test calls equal are equal
pub same_label_is : (a b : Label) → same_label a b ≡ true → a ≡ b
same_label_is (Symbol a) (Symbol b) h = ap Symbol (eqb-true a b h)
same_label_is (Symbol a) (Word b) h = absurd (cc)
same_label_is (Symbol a) (Number b) h = absurd (cc)
same_label_is (Word a) (Symbol b) h = absurd (cc)
same_label_is (Word a) (Word b) h = ap Word (eqb-true a b h)
same_label_is (Word a) (Number b) h = absurd (cc)
same_label_is (Number a) (Symbol b) h = absurd (cc)
same_label_is (Number a) (Word b) h = absurd (cc)
same_label_is (Number a) (Number b) h = ap Number ((Decides-int_eq a b).0 h)

pub record Leads (es : List (Edge × Mark)) (p : ℕ) (l : Label) (n : ℕ) : Type 0 where
  pub item : Edge × Mark
  pub at : slice_get es n ≡ Some item
  pub parent : p ≡ item.0.parent
  pub label : l ≡ item.0.label

pub leads : (es : List (Edge × Mark)) (p : ℕ) (l : Label) (n : ℕ) → child_of es p l ≡ Some n → Leads es p l n
leads es p l n h =
    let f = found (λ (e : Edge × Mark). same_edge p l e.0) es n h in
    let both = and_parts (p == f.item.0.parent) (same_label l f.item.0.label) f.passes in
    record {
      item = f.item;
      at = f.at;
      parent = eqb-true p f.item.0.parent both.0;
      label =
          same_label_is l f.item.0.label both.1;
    }

-- a node has one edge to it
child_injective : (es : List (Edge × Mark)) (p q : ℕ) (l k : Label) (n : ℕ) → child_of es p l ≡ Some n
    → child_of es q k ≡ Some n → (p ≡ q) × (l ≡ k)
child_injective es p q l k n h i =
    let a = leads es p l n h in
    let b = leads es q k n i in
    let same : a.item ≡ b.item = cc (a.at, b.at) in
    (cc (a.parent, b.parent, same), cc (a.label, b.label, same))

number_injective : (ws : List (List ℕ)) (q r : List ℕ) (n : ℕ) → place (bytes_eq q) ws ≡ Some n → place (bytes_eq r) ws
    ≡ Some n → q ≡ r
number_injective ws q r n h i =
    let a = found (bytes_eq q) ws n h in
    let b = found (bytes_eq r) ws n i in
    let same : a.item ≡ b.item = cc (a.at, b.at) in
    let first : q ≡ a.item = (bytes_eq-Decides q a.item).0 a.passes in
    let second : r ≡ b.item = (bytes_eq-Decides r b.item).0 b.passes in
    cc (same, first, second)

words_injective : (ws : List (List ℕ)) (q r : List ℕ) (o u : Option ℕ) (l : Label) → place (bytes_eq q) ws ≡ o
    → place (bytes_eq r) ws ≡ u → option_map Word o ≡ Some l → option_map Word u ≡ Some l → q ≡ r
words_injective ws q r None u l e f h i = absurd (cc)
words_injective ws q r (Some n) None l e f h i = absurd (cc)
words_injective ws q r (Some n) (Some m) l e f h i =
    let same : m ≡ n = cc in
    number_injective ws q r n e (f ∙ ap Some same)

no_word : (o : Option ℕ) (l : Label) → option_map Word o ≡ Some l → is_symbol l ≡ false
no_word None l h = absurd (cc)
no_word (Some n) l h = let is : Word n ≡ l = cc in rw (← is) refl

-- an element's label is no symbol
pub label_no_symbol : (ws : List (List ℕ)) (x : Elem) (l : Label) → label_of ws x ≡ Some l → is_symbol l ≡ false
label_no_symbol ws (Named q) l h = no_word (place (bytes_eq q) ws) l h
label_no_symbol ws (Num z) l h = let is : Number z ≡ l = cc in rw (← is) refl

no_number : (o : Option ℕ) (z : ℤ) (l : Label) → option_map Word o ≡ Some l → Some (Number z) ≡ Some l → ⊥
no_number None z l h i = cc
no_number (Some n) z l h i = cc

-- elements with one label are equal
pub label_injective : (ws : List (List ℕ)) (x y : Elem) (l : Label) → label_of ws x ≡ Some l
    → label_of ws y ≡ Some l → x ≡ y
label_injective ws (Named q) (Named r) l h i = ap Named (words_injective ws q r (place (bytes_eq q) ws)
    (place (bytes_eq r) ws) l refl refl h i)
label_injective ws (Named q) (Num z) l h i = absurd (no_number (place (bytes_eq q) ws) z l h i)
label_injective ws (Num z) (Named q) l h i = absurd (no_number (place (bytes_eq q) ws) z l i h)
label_injective ws (Num y) (Num z) l h i = cc

pub record ChildBy (es : List (Edge × Mark)) (o : Option ℕ) (l : Option Label) (n : ℕ) : Type 0 where
  pub parent : ℕ
  pub label : Label
  pub from : o ≡ Some parent
  pub by : l ≡ Some label
  pub is : child_of es parent label ≡ Some n

pub child_by_is : (es : List (Edge × Mark)) (o : Option ℕ) (l : Option Label) (n : ℕ) → child_by es o l ≡ Some n
    → ChildBy es o l n
child_by_is es None l n h = absurd (cc)
child_by_is es (Some p) None n h = absurd (cc)
child_by_is es (Some p) (Some l) n h = record { parent = p; label = l; from = refl; by = refl; is = h }

-- a node is that of one row
pub node_injective : (ws : List (List ℕ)) (es : List (Edge × Mark)) (s r : ℕ) (xs ys : List Elem) (n : ℕ)
    → node_of ws es s xs ≡ Some n → node_of ws es r ys ≡ Some n → (s ≡ r) × (xs ≡ ys)
node_injective ws es s r [] [] n h i =
    let same = child_injective es 0 0 (Symbol s) (Symbol r) n h i in
    (cc (same.1), refl)
node_injective ws es s r [] (y ∷ ys) n h i =
    let b = child_by_is es (node_of ws es r ys) (label_of ws y) n i in
    let same = child_injective es 0 b.parent (Symbol s) b.label n h b.is in
    absurd (true≢false (ap is_symbol (same.1) ∙ label_no_symbol ws y b.label b.by))
node_injective ws es s r (x ∷ xs) [] n h i =
    let a = child_by_is es (node_of ws es s xs) (label_of ws x) n h in
    let same = child_injective es 0 a.parent (Symbol r) a.label n i a.is in
    absurd (true≢false (ap is_symbol (same.1) ∙ label_no_symbol ws x a.label a.by))
node_injective ws es s r (x ∷ xs) (y ∷ ys) n h i =
    let a = child_by_is es (node_of ws es s xs) (label_of ws x) n h in
    let b = child_by_is es (node_of ws es r ys) (label_of ws y) n i in
    let same = child_injective es a.parent b.parent a.label b.label n a.is b.is in
    let rest = node_injective ws es s r xs ys a.parent a.from (b.from ∙ ap Some (sym (same.0))) in
    let last = label_injective ws x y a.label a.by (b.by ∙ ap Some (sym (same.1))) in
    (rest.0, cc (rest.1, last))
