-- Items in the order in which a pass goes through them.
use Rattle.std.proofs.Common.{◌≡◌, ℕ, ◌-◌, ◌+◌, ◌<◌, ◌≤◌, List, ◌∷◌, length, get_or, drop, reverse, Bool}
use Rattle.std.proofs.Common.{if◌then◌else◌, true, false, refl, sym, ap, ◌∙◌, subst, arith}
use Rattle.std.specs.List.{AllByRecursion, Contains}
use Rattle.std.proofs.lemmas.List.{drop_all, at_drop_more, get_or-reverse, length-reverse, reverse-reverse}
use Rattle.kb_logic.proofs.Members.{all_in, in_all}
use Rattle.quantifier_bounds.specs.Walks.{IsNth}

abbrev pub ordered : {X : Type 0} → Bool → List X → List X
ordered falling xs = if falling then reverse xs else xs

pub ordered_length : {X : Type 0} (falling : Bool) (xs : List X) → length (ordered falling xs) ≡ length xs
ordered_length true xs = length-reverse xs
ordered_length false xs = refl

pub nth_is : {X : Type 0} (falling : Bool) (xs : List X) (turn n : ℕ) (d : X) → turn < length xs
    → IsNth falling turn (length xs) n → get_or (ordered falling xs) turn d ≡ get_or xs n d
nth_is true xs turn n d lt is =
    let same : length xs - 1 - turn ≡ n = omega (arith, lt, is) in
    get_or-reverse xs turn d lt ∙ ap (λ i. get_or xs i d) same
nth_is false xs turn n d lt is = ap (λ i. get_or xs i d) (sym is)

in_reverse : {X : Type 0} (xs : List X) (x : X) → Contains (reverse xs) x → Contains xs x
in_reverse xs x at =
    let lt : at.0 < length xs = subst (λ n. at.0 < n) (length-reverse xs) at.1 in
    (length xs - 1 - at.0, omega (arith, lt), sym (get_or-reverse xs at.0 x lt) ∙ at.2)

pub ordered_all : {X : Type 0} (P : X → Type 0) (falling : Bool) (xs : List X) → AllByRecursion P xs
    → AllByRecursion P (ordered falling xs)
ordered_all P true xs h = in_all P (reverse xs) (λ x at. all_in P xs h x (in_reverse xs x at))
ordered_all P false xs h = h

pub all_ordered : {X : Type 0} (P : X → Type 0) (falling : Bool) (xs : List X) → AllByRecursion P (ordered falling xs)
    → AllByRecursion P xs
all_ordered P true xs h = subst (AllByRecursion P) (reverse-reverse xs) (ordered_all P true (reverse xs) h)
all_ordered P false xs h = h

-- the next item, and those after it
pub nth_drop : {X : Type 0} (falling : Bool) (xs : List X) (turn n : ℕ) (x : X) → turn < length xs
    → IsNth falling turn (length xs) n → x ≡ get_or xs n x
    → drop turn (ordered falling xs) ≡ x ∷ drop (turn + 1) (ordered falling xs)
nth_drop falling xs turn n x lt is at =
    let long : turn < length (ordered falling xs) = subst (λ m. turn < m) (sym (ordered_length falling xs)) lt in
    at_drop_more (λ us. us) (ordered falling xs) turn x long
    ∙ ap (λ y. y ∷ drop (turn + 1) (ordered falling xs)) (nth_is falling xs turn n x lt is ∙ sym at)

-- in the end nothing is left
pub all_taken : {X : Type 0} (P : X → Type 0) (falling : Bool) (xs : List X) (turn : ℕ) → length xs ≤ turn
    → AllByRecursion P (drop turn (ordered falling xs))
all_taken P falling xs turn past =
    let long : length (ordered falling xs) ≤ turn = subst (λ m. m ≤ turn) (sym (ordered_length falling xs)) past in
    subst (AllByRecursion P) (sym (drop_all turn (ordered falling xs) long)) tt
