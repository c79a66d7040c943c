-- What holds of the pieces of a file, by their numbers.
use Rattle.std.proofs.Common.{◌≡◌, ℕ, zero, suc, List, [], ◌∷◌, Some, map, slice_get, ap, subst}
use Rattle.std.specs.List.{AllByRecursion}
use Rattle.kb_logic.specs.Bases.{NamedTerm}
use Rattle.kb_logic.specs.Trees.{TermTree}
use Rattle.stage_definitions.specs.FileBases.{named_term}
use Rattle.stage_definitions.specs.TypedFiles.{TypedTermTree}

pub by_number : {X : Type 0} (P : X → Type 0) (xs : List X) (n : ℕ) (x : X) → AllByRecursion P xs
    → slice_get xs n ≡ Some x → P x
by_number P [] n x all e = absurd (cc)
by_number {X} P (y ∷ ys) zero x all e = let same : y ≡ x = cc in subst P same all.0
by_number P (y ∷ ys) (suc n) x all e = by_number P ys n x all.1 e

-- the terms of a file are those that may be asked for
pub asked_of : (P : TermTree → Type 0) (ts : List TypedTermTree)
    → AllByRecursion (λ (t : NamedTerm). P t.term) (map named_term ts)
    → AllByRecursion P (map (λ (t : TypedTermTree). t.term) ts)
asked_of P [] all = tt
asked_of P (t ∷ ts) all = (all.0, asked_of P ts all.1)

pub mapped : {X Y : Type 0} (f : X → Y) (xs : List X) (n : ℕ) (x : X) → slice_get xs n ≡ Some x
    → slice_get (map f xs) n ≡ Some (f x)
mapped f [] n x e = absurd (cc)
mapped {X} f (y ∷ ys) zero x e = let same : y ≡ x = cc in ap (λ z. Some (f z)) same
mapped f (y ∷ ys) (suc n) x e = mapped f ys n x e
