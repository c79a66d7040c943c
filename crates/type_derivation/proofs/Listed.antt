-- What is made, listed and noted of items, one after another.
use Rattle.std.proofs.Common.{◌≡◌, ◌<◌, ℕ, ◌+◌, List, [], ◌∷◌, ◌++◌, length, refl, ap, ◌∙◌, sym, zero, suc, add-one}
use Rattle.std.proofs.Common.{get_or, take, arith, map, fold, append_assoc}
use Rattle.std.specs.List.{flat_map}
use Rattle.std.proofs.lemmas.Grind.{fold-append, flat_map-append}
use Rattle.std.proofs.lemmas.List.{map-append}

taken_more : {X : Type 0} (items : List X) (i : ℕ) (x : X) → i < length items → x ≡ get_or items i x
    → take (suc i) items ≡ take i items ++ x ∷ []
taken_more [] i x lt e = absurd (let none : i < 0 = lt in omega arith)
taken_more (y ∷ items) zero x lt e = ap (λ (z : _). z ∷ []) (sym e)
taken_more (y ∷ items) (suc i) x lt e = ap (λ (zs : List _). y ∷ zs)
    (taken_more items i x (let more : suc i < suc (length items) = lt in omega arith) e)

taken : {X : Type 0} (items : List X) (i : ℕ) (x : X) → i < length items → x ≡ get_or items i x → take (i + 1) items
    ≡ take i items ++ x ∷ []
taken items i x lt e = ap (λ (k : ℕ). take k items) (add-one i) ∙ taken_more items i x lt e

nil_behind : {Y : Type 0} (ys : List Y) → ys ++ [] ≡ ys
nil_behind [] = refl
nil_behind (y ∷ ys) = ap (λ (zs : List _). y ∷ zs) (nil_behind ys)

-- one more item
module _ {X Y : Type 0} (view : X → Y) (items : List X) (i : ℕ) (x : X) (lt : i < length items)
    (is : x ≡ get_or items i x) where
  viewed : map view (take (i + 1) items) ≡ map view (take i items) ++ view x ∷ []
  viewed = ap (map view) (taken items i x lt is) ∙ map-append view (take i items) (x ∷ [])

  all_next : {Z : Type 0} (f : Y → List Z) → flat_map f (map view (take (i + 1) items))
      ≡ flat_map f (map view (take i items)) ++ f (view x)
  all_next f =
      ap (flat_map f) viewed ∙ flat_map-append f (map view (take i items)) (view x ∷ [])
      ∙ ap (λ (zs : List _). flat_map f (map view (take i items)) ++ zs) (nil_behind (f (view x)))

  pub made_next : {Z : Type 0} (make : Y → Z) (before after : List Z) (new : Z)
      → before ≡ map make (map view (take i items)) → new ≡ make (view x)
      → after ≡ before ++ new ∷ [] → after ≡ map make (map view (take (i + 1) items))
  made_next make before after new b n a =
      rw (a, b, n) (sym (ap (map make) viewed ∙ map-append make (map view (take i items)) (view x ∷ [])))

  pub listed_next : {Z : Type 0} (f : Y → Z) (start before after : List Z)
      → before ≡ start ++ map f (map view (take i items)) → after ≡ before ++ f (view x) ∷ []
      → after ≡ start ++ map f (map view (take (i + 1) items))
  listed_next f start before after b a =
      rw (a, b) (append_assoc start (map f (map view (take i items))) (f (view x) ∷ [])
      ∙ ap (λ (zs : List _). start ++ zs) (sym (ap (map f) viewed ∙ map-append f (map view (take i items))
      (view x ∷ []))))

  pub noted_next : {O U : Type 0} (noted : O → U → O) (us : Y → List U) (start before after : O)
      → before ≡ fold noted start (flat_map us (map view (take i items)))
      → after ≡ fold noted before (us (view x)) → after ≡ fold noted start (flat_map us (map view (take (i + 1) items)))
  noted_next noted us start before after b a =
      a ∙ ap (λ (o : _). fold noted o (us (view x))) b ∙ sym (fold-append noted start
      (flat_map us (map view (take i items))) (us (view x)))
      ∙ ap (fold noted start) (sym (all_next us))

-- two runs of notes are one
pub noted_both : {O U : Type 0} (noted : O → U → O) (start middle last : O) (us vs : List U)
    → middle ≡ fold noted start us → last ≡ fold noted middle vs
    → last ≡ fold noted start (us ++ vs)
noted_both noted start middle last us vs e f = f ∙ ap (λ (o : _). fold noted o vs) e
    ∙ sym (fold-append noted start us vs)
