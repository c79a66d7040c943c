-- The last of those items of a list that pass a test.
use Rattle.std.proofs.Common.{◌≡◌, ◌∙◌, ℕ, ◌+◌, ◌<◌, Bool, true, cond, List, [], ◌∷◌, ◌++◌, length, take, drop, filter}
use Rattle.std.proofs.Common.{get_or, sym, ap}
use Rattle.std.proofs.lemmas.List.{take-append-drop, take_more, append-nil}
use Rattle.std.proofs.lemmas.List.Elements.{filter-append}

-- where an item passes and none behind it does, it is the last of those that do
pub last-passes : {A : Type 0} (test : A → Bool) (xs : List A) (k : ℕ) (x : A) → k < length xs → x ≡ get_or xs k x
    → test x ≡ true → filter test (drop (k + 1) xs) ≡ [] → filter test xs ≡ filter test (take k xs) ++ x ∷ []
last-passes {A} test xs k x below at passes none =
    let one : filter test (x ∷ []) ≡ x ∷ [] = ap (λ (b : Bool). cond b (x ∷ []) []) passes in
    let front : take (k + 1) xs ≡ take k xs ++ x ∷ [] =
    take_more xs k x below ∙ ap (λ (y : A). take k xs ++ y ∷ []) (sym at) in
    ap (filter test) (sym (take-append-drop (k + 1) xs))
    ∙ filter-append test (take (k + 1) xs) (drop (k + 1) xs)
    ∙ ap (λ (ys : List A). filter test (take (k + 1) xs) ++ ys) none
    ∙ append-nil (filter test (take (k + 1) xs))
    ∙ ap (filter test) front
    ∙ filter-append test (take k xs) (x ∷ [])
    ∙ ap (λ (ys : List A). filter test (take k xs) ++ ys) one
