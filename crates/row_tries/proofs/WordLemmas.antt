-- One more word.
use Rattle.std.proofs.Common.{◌≡◌, ℕ, List, [], ◌∷◌, ◌++◌, map, Bool, true, false, ◌||◌, if◌then◌else◌, refl, sym, ap}
use Rattle.std.proofs.Common.{◌∙◌}
use Rattle.std.proofs.Common.{Some, slice_get}
use Rattle.std.specs.List.{IsDistinct, list_any}
use Rattle.std.specs.Str.{bytes_eq}
use Rattle.std.proofs.lemmas.List.{map-append}
use Rattle.indexmap.specs.IndexSet.{insert_key}
use Rattle.std.proofs.lemmas.Slice.Eq.{bytes_eq-Decides}
use Rattle.row_tries.specs.Words.{place, with_word}
use Rattle.row_tries.proofs.Places.{own_place, place-map}

pub list_any-map : {X Y : Type 0} (f : X → Y) (p : Y → Bool) (q : X → Bool) → ((x : X) → q x ≡ p (f x)) → (xs : List X)
    → list_any p (map f xs) ≡ list_any q xs
list_any-map f p q h [] = refl
list_any-map f p q h (x ∷ xs) = ap (λ b. b || list_any p (map f xs)) (sym (h x))
    ∙ ap (λ b. q x || b) (list_any-map f p q h xs)

by_presence : {K : Type 0} (f : K → List ℕ) (k : K) (ks : List K) (q : List ℕ) (b : Bool) → f k ≡ q
    → list_any (bytes_eq q) (map f ks) ≡ b
    → map f (if b then ks else ks ++ k ∷ []) ≡ with_word (map f ks) q
by_presence f k ks q true is there = ap (λ b. if b then map f ks else map f ks ++ q ∷ []) (sym there)
by_presence f k ks q false is there = map-append f ks (k ∷ []) ∙ ap (λ w. map f ks ++ w ∷ []) is
    ∙ ap (λ b. if b then map f ks else map f ks ++ q ∷ []) (sym there)

pub added_word : {K : Type 0} (f : K → List ℕ) (eq : K → K → Bool) (k : K) (ks new : List K) (q : List ℕ)
    → new ≡ insert_key eq ks k → f k ≡ q → ((d : K) → eq k d ≡ bytes_eq (f k) (f d))
    → map f new ≡ with_word (map f ks) q
added_word f eq k ks new q keys is test =
    let same : list_any (bytes_eq q) (map f ks) ≡ list_any (eq k) ks = list_any-map f (bytes_eq q) (eq k) (λ d. test d
    ∙ ap (λ w. bytes_eq w (f d)) is) ks in
    ap (map f) keys ∙ by_presence f k ks q (list_any (eq k) ks) is same

pub present_word : {K : Type 0} (f : K → List ℕ) (t : K → Bool) (ks : List K) (q : List ℕ) (r : Bool)
    → r ≡ list_any t ks → r ≡ true → ((d : K) → t d ≡ bytes_eq q (f d)) → map f ks ≡ with_word (map f ks) q
present_word f t ks q r is yes_ test =
    let there : list_any (bytes_eq q) (map f ks) ≡ true = list_any-map f (bytes_eq q) t test ks ∙ sym is ∙ yes_ in
    ap (λ b. if b then map f ks else map f ks ++ q ∷ []) (sym there)

-- a word that stands at a place has its number, where none stands twice
pub own_word : {K : Type 0} (f : K → List ℕ) (eq : K → K → Bool) → ((a b : K) → eq a b ≡ bytes_eq (f a) (f b))
    → (ks : List K) (n : ℕ) (k : K) (q : List ℕ) → IsDistinct eq ks → slice_get ks n ≡ Some k
    → bytes_eq (f k) q ≡ true → place (bytes_eq q) (map f ks) ≡ Some n
own_word f eq h ks n k q distinct at passes =
    let is : f k ≡ q = (bytes_eq-Decides (f k) q).0 passes in
    place-map f (bytes_eq q) (λ a. bytes_eq q (f a)) (λ a. refl) ks
    ∙ own_place eq (λ a. bytes_eq q (f a)) (λ a b s t. h a b ∙ (bytes_eq-Decides (f a) (f b)).1
    (sym ((bytes_eq-Decides q (f a)).0 s) ∙ (bytes_eq-Decides q (f b)).0 t)) ks n k distinct at
    ((bytes_eq-Decides q (f k)).1 (sym is))
