-- Bodies in lists, one for each variable from a first one on.
use Rattle.std.specs.Prelude.{◌≡◌, ◌<◌, ◌+◌, ℕ, zero, suc, List, [], ◌∷◌, ◌++◌, map, length, Some, slice_get}
use Rattle.std.specs.List.{AllByRecursion}
use Rattle.std.specs.Global.{Vec}
use Rattle.def_ground.specs.declared.answers.Answer.{Answer}
use Rattle.def_ground.specs.Answers.{AnswerWithin}
use Rattle.def_ground.specs.Definitions.{bodies_of}

abbrev pub lists_of : Vec (Vec Answer) → List (List Answer)
lists_of v = map (λ (xs : Vec Answer). xs.items) v.items

-- each variable's list has the bodies of the instances with its head, in their order
abbrev pub HaveBodies : List (ℕ × Answer) → ℕ → List (List Answer) → Type 0
HaveBodies told first lists = (n : ℕ) → n < length lists → slice_get lists n ≡ Some (bodies_of (first + n) told)

-- the answers are over the first n variables
abbrev pub AreWithin : ℕ → List Answer → Type 0
AreWithin n xs = AllByRecursion (AnswerWithin n) xs

-- so are those of all lists
abbrev pub AllWithin : ℕ → List (List Answer) → Type 0
AllWithin n lists = AllByRecursion (AreWithin n) lists

-- so many numbers from n on
abbrev pub numbers_from : ℕ → ℕ → List ℕ
numbers_from n zero = []
numbers_from n (suc k) = numbers_from n k ++ (n + k) ∷ []
