-- The innermost variable of a name, and the table that keeps it.
use Rattle.std.proofs.Common.{◌≡◌, ◌≤◌, ◌<◌, ◌^◌, ℕ, ◌+◌, Bool, true, false, List, [], ◌∷◌, ◌++◌, length, Option, None}
use Rattle.std.proofs.Common.{Some, if◌then◌else◌, cond, refl, ap, ◌∙◌, sym, subst, add-one, take, drop, arith, is_some}
use Rattle.std.proofs.Common.{suc, zero, nat_le, ◌⊎◌, inl, inr}
use Rattle.std.specs.List.{slice_get}
use Rattle.std.proofs.lemmas.Bool.Decides.{nat_tests}
use Rattle.std.proofs.lemmas.List.{map-append, take-append-le, length-append}
use Rattle.std.proofs.Math.Seq.{take-length}
use Rattle.std.proofs.lemmas.Option.{slice_get_within}
use Rattle.std.proofs.lemmas.Slice.Eq.{bytes_eq-Decides}
use Rattle.std.specs.Str.{bytes_eq}
use Rattle.indexmap.specs.IndexMap.{get_by}
use Rattle.stage_definitions.specs.Scopes.{Text, last_position, further}
use Rattle.formula_names.specs.Levels.{held, level_in, texts_in, IsScope}
use Rattle.formula_names.specs.declared.scopes.Binding.{Binding}
use Rattle.formula_names.specs.declared.scopes.Scope.TheInside.{Inside}

pub last_position-push : (w : Text) (xs : List Text) (x : Text)
    → last_position w (xs ++ x ∷ []) ≡ (if bytes_eq w x then Some (length xs) else last_position w xs)
last_position-push w [] x =
    elim (bytes_eq w x) as (λ b. further None b ≡ (if b then Some 0 else None)) [ true ↦ refl | false ↦ refl ]
last_position-push w (y ∷ ys) x =
    rw (last_position-push w ys x)
    (elim (bytes_eq w x) as (λ b. further (if b then Some (length ys) else last_position w ys) (bytes_eq w y)
    ≡ (if b then Some (length (y ∷ ys)) else further (last_position w ys) (bytes_eq w y)))
    [ true ↦ ap Some (add-one (length ys)) | false ↦ refl ])

same_text : (w q : Text) → bytes_eq w q ≡ true → w ≡ q
same_text w q e = (bytes_eq-Decides w q).0 e

same_itself : (w : Text) → bytes_eq w w ≡ true
same_itself w = (bytes_eq-Decides w w).1 refl

true_same : (w q : Text) → bytes_eq w q ≡ true → bytes_eq q w ≡ true
true_same w q e = subst (λ (v : Text). bytes_eq v w ≡ true) (same_text w q e) (same_itself w)

turned_by : (w q : Text) (a b : Bool) → bytes_eq w q ≡ a → bytes_eq q w ≡ b → a ≡ b
turned_by w q true true e f = refl
turned_by w q false false e f = refl
turned_by w q true false e f = let g = true_same w q e in absurd (let n : ⊥ = cc in n)
turned_by w q false true e f = let g = true_same q w f in absurd (let n : ⊥ = cc in n)

pub bytes_eq-turned : (w q : Text) → bytes_eq w q ≡ bytes_eq q w
bytes_eq-turned w q = turned_by w q (bytes_eq w q) (bytes_eq q w) refl refl

-- ---- entering

entered_by : (q w : Text) (old : Option (Option ℕ)) (xs : List Text) (n : ℕ) (b : Bool) → held old ≡ last_position q xs
    → n ≡ length xs
    → held (cond b (Some (Some n)) old) ≡ (if b then Some (length xs) else last_position q xs)
entered_by q w old xs n true e f = ap Some f
entered_by q w old xs n false e f = e

pub slice_get-front : {X : Type 0} (xs : List X) (y : X) (i : ℕ) (x : X) → slice_get (xs ++ y ∷ []) i ≡ Some x
    → (slice_get xs i ≡ Some x) ⊎ ((i ≡ length xs) × (x ≡ y))
slice_get-front [] y zero x e = inr (refl, cc)
slice_get-front [] y (suc i) x e = absurd (let n : ⊥ = cc in n)
slice_get-front (z ∷ xs) y zero x e = inl e
slice_get-front (z ∷ xs) y (suc i) x e = elim (slice_get-front xs y i x e) [
  | inl here ↦ inl here
  | inr there ↦ inr (ap suc there.0, there.1)
]

pub slice_get-more : {X : Type 0} (xs : List X) (y : X) (i : ℕ) (x : X) → slice_get xs i ≡ Some x
    → slice_get (xs ++ y ∷ []) i ≡ Some x
slice_get-more [] y i x e = absurd (let n : ⊥ = cc in n)
slice_get-more (z ∷ xs) y zero x e = e
slice_get-more (z ∷ xs) y (suc i) x e = slice_get-more xs y i x e

pub slice_get-last : {X : Type 0} (xs : List X) (y : X) → slice_get (xs ++ y ∷ []) (length xs) ≡ Some y
slice_get-last [] y = refl
slice_get-last (z ∷ xs) y = slice_get-last xs y

texts-push : (bs : List Binding) (b : Binding) → texts_in (bs ++ b ∷ []) ≡ texts_in bs ++ b.text.now ∷ []
texts-push bs b = map-append (λ (c : Binding). c.text.now) bs (b ∷ [])

length-texts : (bs : List Binding) → length (texts_in bs) ≡ length bs
length-texts [] = refl
length-texts (b ∷ bs) = ap suc (length-texts bs)

front_texts : (bs : List Binding) (b : Binding) (i : ℕ) → i ≤ length bs → take i (texts_in (bs ++ b ∷ []))
    ≡ take i (texts_in bs)
front_texts bs b i le =
    rw (texts-push bs b) (take-append-le i (texts_in bs) (b.text.now ∷ []) (rw (length-texts bs) le))

hidden_entered : (bs : List Binding) (b : Binding) → b.hidden ≡ last_position b.text.now (texts_in bs)
    → ((i : ℕ) → (c : Binding) → slice_get bs i ≡ Some c → c.hidden ≡ last_position c.text.now (take i (texts_in bs)))
    → (i : ℕ) → (c : Binding) → slice_get (bs ++ b ∷ []) i ≡ Some c → c.hidden ≡ last_position c.text.now
    (take i (texts_in (bs ++ b ∷ [])))
hidden_entered bs b h before i c e = elim (slice_get-front bs b i c e) [
  | inl here ↦
      let lt : i < length bs = slice_get_within bs i c here in
      rw (front_texts bs b i (omega arith)) (before i c here)
  | inr there ↦
      let le : i ≤ length bs = omega (arith, there.0) in
      let whole : take i (texts_in bs) ≡ texts_in bs = rw (there.0, ← length-texts bs) (take-length (texts_in bs)) in
      rw (front_texts bs b i le, whole, there.1) h
]

-- one more binding
pub entered : (s t : Inside) (b : Binding) (n : ℕ) → IsScope s → n ≡ length s.bindings.items
    → t.bindings.items ≡ s.bindings.items ++ b ∷ []
    → b.hidden ≡ level_in s.levels b.text.now
    → ((q : Text) → get_by (λ k. bytes_eq q k.now) t.levels.map ≡ cond (bytes_eq b.text.now q) (Some (Some n))
    (get_by (λ k. bytes_eq q k.now) s.levels.map))
    → n + 1 < 2 ^ 32
    → IsScope t
entered s t b n is at_end more hides after few = record {
  levels = λ q. rw (more, texts-push s.bindings.items b, last_position-push, after q, bytes_eq-turned b.text.now q)
      (entered_by q b.text.now (get_by (λ k. bytes_eq q k.now) s.levels.map) (texts_in s.bindings.items) n
      (bytes_eq q b.text.now)
      (is.levels q) (at_end ∙ sym (length-texts s.bindings.items)));
  hidden = rw more (hidden_entered s.bindings.items b (hides ∙ is.levels b.text.now) is.hidden);
  few = rw more (omega (arith, length-append s.bindings.items (b ∷ [])));
}

-- ---- leaving

left_by : (q : Text) (b : Binding) (old : Option (Option ℕ)) (xs : List Text) (e : Bool) → bytes_eq q b.text.now ≡ e
    → b.hidden ≡ last_position b.text.now xs
    → held old ≡ (if e then Some (length xs) else last_position q xs)
    → held (cond e (Some b.hidden) old) ≡ last_position q xs
left_by q b old xs true same h o = subst (λ (v : Text). b.hidden ≡ last_position v xs)
    (sym (same_text q b.text.now same)) h
left_by q b old xs false same h o = o

-- one binding less
pub left : (s t : Inside) (b : Binding) → IsScope s → s.bindings.items ≡ t.bindings.items ++ b ∷ []
    → ((q : Text) → get_by (λ k. bytes_eq q k.now) t.levels.map ≡ cond (bytes_eq b.text.now q) (Some b.hidden)
    (get_by (λ k. bytes_eq q k.now) s.levels.map))
    → IsScope t
left s t b is less after =
    let ts : List Binding = t.bindings.items in
    let old_hidden : (i : ℕ) → (c : Binding) → slice_get (ts ++ b ∷ []) i ≡ Some c → c.hidden ≡ last_position c.text.now
    (take i (texts_in (ts ++ b ∷ []))) =
    rw (← less) is.hidden in
    let whole : take (length ts) (texts_in (ts ++ b ∷ [])) ≡ texts_in ts =
    rw (front_texts ts b (length ts) (omega arith), ← length-texts ts) (take-length (texts_in ts)) in
    let last_hidden : b.hidden ≡ last_position b.text.now (texts_in ts) =
    rw whole at (old_hidden (length ts) b (slice_get-last ts b)) in
    record {
      levels = λ q. rw (after q, bytes_eq-turned b.text.now q)
          (left_by q b (get_by (λ k. bytes_eq q k.now) s.levels.map) (texts_in ts) (bytes_eq q b.text.now)
          refl last_hidden
          (is.levels q ∙ rw (less, texts-push ts b) (last_position-push q (texts_in ts) b.text.now)));
      hidden = λ i c e.
          let lt : i < length ts = slice_get_within ts i c e in
          rw (← front_texts ts b i (omega arith)) (old_hidden i c (slice_get-more ts b i c e));
      few = omega (arith, is.few, ap length less, length-append ts (b ∷ []));
    }

-- ---- whether a name is bound from some variable on

-- whether the innermost variable of a name stands at `k` or further in
data Stands (w : Text) (k : ℕ) (s : List Text) : Option ℕ → Type 0 where
  nowhere : is_some (last_position w (drop k s)) ≡ false → Stands w k s None
  before : (l : ℕ) → l < k → is_some (last_position w (drop k s)) ≡ false → Stands w k s (Some l)
  within : (l : ℕ) → k ≤ l → is_some (last_position w (drop k s)) ≡ true → Stands w k s (Some l)

stands_next : (w : Text) (k : ℕ) (y : Text) (ys : List Text) (o : Option ℕ) (b : Bool)
    → Stands w k ys o → Stands w (suc k) (y ∷ ys) (further o b)
stands_next w k y ys _ true (nowhere e) = before 0 (omega arith) e
stands_next w k y ys _ false (nowhere e) = nowhere e
stands_next w k y ys _ b (before l lt e) = before (l + 1) (omega arith) e
stands_next w k y ys _ b (within l le e) = within (l + 1) (omega arith) e

stands_at_all : (w : Text) (s : List Text) (o : Option ℕ) → last_position w s ≡ o → Stands w 0 s o
stands_at_all w s None e = nowhere (ap is_some e)
stands_at_all w s (Some l) e = within l (omega arith) (ap is_some e)

stands : (w : Text) (k : ℕ) (s : List Text) → Stands w k s (last_position w s)
stands w zero s = stands_at_all w s (last_position w s) refl
stands w (suc k) [] = nowhere refl
stands w (suc k) (y ∷ ys) = stands_next w k y ys (last_position w ys) (bytes_eq w y) (stands w k ys)

from_level : (w : Text) (k l : ℕ) (s : List Text) (o : Option ℕ) → Stands w k s o → Some l ≡ o
    → nat_le k l ≡ is_some (last_position w (drop k s))
from_level w k l s _ (nowhere e) is = absurd (let no : ⊥ = cc in no)
from_level w k l s _ (before m lt e) is = rw e (let same : m ≡ l = cc in grind (arith, nat_tests))
from_level w k l s _ (within m le e) is = rw e (let same : m ≡ l = cc in grind (arith, nat_tests))

from_nowhere : (w : Text) (k : ℕ) (s : List Text) (o : Option ℕ) → Stands w k s o → None ≡ o
    → false ≡ is_some (last_position w (drop k s))
from_nowhere w k s _ (nowhere e) is = sym e
from_nowhere w k s _ (before m lt e) is = absurd (let no : ⊥ = cc in no)
from_nowhere w k s _ (within m le e) is = absurd (let no : ⊥ = cc in no)

pub bound_at : (w : Text) (k l : ℕ) (s : List Text) → Some l ≡ last_position w s
    → nat_le k l ≡ is_some (last_position w (drop k s))
bound_at w k l s e = from_level w k l s (last_position w s) (stands w k s) e

pub bound_nowhere : (w : Text) (k : ℕ) (s : List Text) → None ≡ last_position w s
    → false ≡ is_some (last_position w (drop k s))
bound_nowhere w k s e = from_nowhere w k s (last_position w s) (stands w k s) e
