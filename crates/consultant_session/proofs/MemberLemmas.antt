-- What a filter contains.
use Rattle.std.proofs.Common.{◌≡◌, ℕ, zero, suc, ◌<◌, List, [], ◌∷◌, length, get_or, sym, ◌∙◌, ap, subst, Bool, true}
use Rattle.std.proofs.Common.{false, cond, arith}
use Rattle.std.specs.List.{AllByRecursion, filter, Contains}
use Rattle.std.proofs.lemmas.List.Elements.{All-contains, All-from_recursion, filter_passes}

pub contains_later : {A : Type 0} (x y : A) (xs : List A) → Contains xs y → Contains (x ∷ xs) y
contains_later x y xs later = (suc later.0, omega (arith, later.1), later.2)

pub all_at : {A : Type 0} (P : A → Type 0) (xs : List A) (x : A) → AllByRecursion P xs → Contains xs x → P x
all_at P xs x all contains = All-contains P xs x (All-from_recursion P xs all) contains

contains_filter_at : {A : Type 0} (passes : A → Bool) (xs : List A) (x : A) (k : ℕ) → passes x ≡ true → k < length xs
    → get_or xs k x ≡ x → Contains (filter passes xs) x
contains_filter_at passes [] x k yes' inside is = absurd (omega arith)
contains_filter_at {A} passes (y ∷ xs) x zero passed inside is =
    let kept : passes y ≡ true = ap passes is ∙ passed in
    subst (λ (l : List A). Contains l x)
    (sym (ap (λ (b : Bool). cond b (y ∷ filter passes xs) (filter passes xs)) kept)) (0, omega arith, is)
contains_filter_at {A} passes (y ∷ xs) x (suc k) passed inside is =
    let later : Contains (filter passes xs) x = contains_filter_at passes xs x k passed (omega arith) is in
    elim (passes y) as (λ (b : Bool). Contains (cond b (y ∷ filter passes xs) (filter passes xs)) x) [
      | true ↦
          contains_later y x (filter passes xs) later
      | false ↦ later
    ]

pub contains_filter : {A : Type 0} (passes : A → Bool) (xs : List A) (x : A) → passes x ≡ true → Contains xs x
    → Contains (filter passes xs) x
contains_filter passes xs x passed contains = contains_filter_at passes xs x contains.0 passed contains.1 contains.2

pub filter_contains : {A : Type 0} (passes : A → Bool) (xs : List A) (x : A) → Contains (filter passes xs) x
    → passes x ≡ true
filter_contains passes xs x contains =
    All-contains (λ y. passes y ≡ true) (filter passes xs) x (filter_passes passes xs) contains
