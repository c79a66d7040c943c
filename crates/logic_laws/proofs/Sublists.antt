-- What holds of all items of a list holds of all items of a list with some of them left out.
use Rattle.std.proofs.Common.{List, [], ◌∷◌, subst, sym, inl, inr}
use Rattle.std.specs.List.{AllByRecursion}
use Rattle.kb_logic.specs.Lists.{IsSublist}

pub all_of_some : {X : Type 0} (P : X → Type 0) (xs ys : List X) → IsSublist xs ys → AllByRecursion P ys
    → AllByRecursion P xs
all_of_some P [] ys among all = tt
all_of_some P (x ∷ xs) [] among all = absurd among
all_of_some P (x ∷ xs) (y ∷ ys) (inl both) all = (subst P (sym both.0) all.0, all_of_some P xs ys both.1 all.1)
all_of_some P (x ∷ xs) (y ∷ ys) (inr rest) all = all_of_some P (x ∷ xs) ys rest all.1
