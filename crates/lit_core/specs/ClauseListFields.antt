-- What the fields of a list of clauses keep.
use Rattle.std.specs.Prelude.{◌≡◌, ℕ, ◌≤◌, ◌-◌, ◌^◌, ◌<◌, List, [], ◌∷◌, length, take, drop}
use Rattle.lit_core.specs.declared.literals.Lit.{Lit}
use Rattle.lit_core.specs.declared.clause_lists.ClauseList.TheInside.{Inside}

-- the clauses that end at these places of the literals, the first of which begins at this one
abbrev pub clauses_from : List Lit → ℕ → List ℕ → List (List Lit)
clauses_from lits start [] = []
clauses_from lits start (end ∷ ends) = take (end - start) (drop start lits) ∷ clauses_from lits end ends

-- the places ascend, from one to another
abbrev pub Ascends : ℕ → List ℕ → ℕ → Type 0
Ascends start [] last = start ≡ last
Ascends start (end ∷ ends) last = (start ≤ end) × Ascends end ends last

abbrev pub state_of : Inside → List (List Lit)
state_of a = clauses_from a.lits.items 0 a.ends.items

-- each clause ends where the next one begins, and the last where the literals end
abbrev pub IsKept : Inside → Type 0
IsKept a = Ascends 0 a.ends.items (length a.lits.items)
