-- The loops over the assignments of the first of a binder's variables, from what was found before.
use Rattle.std.proofs.Common.{◌≡◌, ℕ, ◌+◌, ◌<◌, ◌≤◌, List, [], ◌∷◌, ◌++◌, map, length, drop, get_or, fold, false}
use Rattle.std.proofs.Common.{Option, None, Some, refl, sym, ap, ◌∙◌, append_assoc, is_some}
use Rattle.std.specs.List.{AllByRecursion}
use Rattle.std.proofs.lemmas.List.{at_drop_more, at_drop_all, append-nil}
use Rattle.std.proofs.lemmas.List.Sums.{fold-append}
use Rattle.std.proofs.lemmas.List.Folds.{fold-map}
use Rattle.kb_logic.specs.declared.elements.Elem.{Elem}
use Rattle.kb_logic.specs.declared.vocabularies.Bound.{Bound}
use Rattle.kb_logic.specs.Structures.{choices}
use Rattle.kb_logic.proofs.Pairs.{pairs}
use Rattle.kb_logic.proofs.Assignments.{joined, choices-append}
use Rattle.plain_evaluation.proofs.Loops.{each_inside}

fold-pairs : {S A B C : Type 0} (f : S → C → S) (g : A → B → C) (more : List B) (xs : List A) (s : S)
    → fold f s (pairs g more xs) ≡ fold (λ t x. fold (λ u y. f u (g x y)) t more) s xs
fold-pairs f g more [] s = refl
fold-pairs f g more (x ∷ xs) s =
    fold-append f s (map (g x) more) (pairs g more xs)
    ∙ ap (λ t. fold f t (pairs g more xs)) (fold-map f (g x) s more)
    ∙ fold-pairs f g more xs (fold (λ u y. f u (g x y)) s more)

-- what the assignments that begin with a make of what was before
abbrev pub after_front : {S : Type 0} → (S → List Elem → S) → List (List Elem) → S → List Elem → S
after_front F rest s a = fold (λ t b. F t (a ++ b)) s rest

module _ (domains : List (List Elem)) (bounds these others : List Bound) (split : bounds ≡ these ++ others) where
  pub by_front : choices domains bounds ≡ pairs joined (choices domains others) (choices domains these)
  by_front = ap (choices domains) split ∙ choices-append domains these others

  pub fold_by_front : {S : Type 0} (F : S → List Elem → S) (s : S) → fold F s (choices domains bounds)
      ≡ fold (after_front F (choices domains others)) s (choices domains these)
  fold_by_front F s = ap (fold F s) by_front ∙ fold-pairs F joined (choices domains others) (choices domains these) s

  -- what holds under all assignments holds under those that begin with their assignment number i
  pub each_after : (Q : List Elem → Type 0) (e inner : List Elem) (i : ℕ) → i < length (choices domains these)
      → inner ≡ e ++ get_or (choices domains these) i []
      → AllByRecursion (λ a. Q (e ++ a)) (choices domains bounds) → AllByRecursion (λ b. Q (inner ++ b))
      (choices domains others)
  each_after Q e inner i h is all = each_inside (record { domains = domains; relations = []; functions = [] }) bounds
      these others split Q e inner i h is all

pub inner_fold : {S : Type 0} (G : S → List Elem → S) (rest : List (List Elem)) (e inner a : List Elem) (s : S)
    → inner ≡ e ++ a → fold (λ t b. G t (inner ++ b)) s rest ≡ after_front (λ t b. G t (e ++ b)) rest s a
inner_fold G rest e inner a s is = rw is (simp append_assoc)

-- one assignment of the first variables more
pub fold_next : {S : Type 0} (F : S → List Elem → S) (xs : List (List Elem)) (i : ℕ) (s t : S) → i < length xs
    → t ≡ F s (get_or xs i []) → fold F t (drop (i + 1) xs) ≡ fold F s (drop i xs)
fold_next F xs i s t h e = sym (at_drop_more (fold F s) xs i [] h ∙ ap (λ u. fold F u (drop (i + 1) xs)) (sym e))

pub fold_done : {S : Type 0} (F : S → List Elem → S) (xs : List (List Elem)) (i : ℕ) (s : S) → length xs ≤ i
    → fold F s (drop i xs) ≡ s
fold_done F xs i s h = at_drop_all (fold F s) xs i h

-- a state that no assignment changes
pub fold_stays : {S X : Type 0} (F : S → X → S) (xs : List X) (s : S) → ((x : X) → F s x ≡ s) → fold F s xs ≡ s
fold_stays F [] s h = refl
fold_stays F (x ∷ xs) s h = ap (λ t. fold F t xs) (h x) ∙ fold_stays F xs s h

pub fold_one : {S : Type 0} (G : S → List Elem → S) (e : List Elem) (s : S)
    → fold (λ t a. G t (e ++ a)) s ([] ∷ []) ≡ G s e
fold_one G e s = ap (G s) (append-nil e)

pub none_is : {X : Type 0} (o : Option X) → is_some o ≡ false → o ≡ None
none_is None h = refl
none_is (Some x) h = cc
