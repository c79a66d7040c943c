-- Bytes that move piece by piece.
use Rattle.std.proofs.Common.{◌≡◌, ℕ, ◌+◌, ◌≤◌, List, ◌++◌, length, take, drop, sym, ◌∙◌, ap, append_assoc, arith}
use Rattle.std.proofs.Common.{length-drop, take-append-drop, drop-drop}
use Rattle.std.proofs.Common.{Option, Some, None}
use Rattle.std.proofs.lemmas.List.{take_all, take_at}
use Rattle.kb_io.specs.Memory.{piece}

-- a further piece of the rest was written
pub written_more : (bytes front rest : List ℕ) (n m : ℕ) → bytes ≡ front ++ rest → length rest ≤ m + n
    → bytes ≡ (front ++ take n rest) ++ take m (drop n rest)
written_more bytes front rest n m is long =
    is ∙ ap (λ (l : List ℕ). front ++ l) (sym (take-append-drop n rest))
    ∙ sym (append_assoc front (take n rest) (drop n rest))
    ∙ ap (λ (l : List ℕ). (front ++ take n rest) ++ l)
    (sym (take_all m (drop n rest) (omega (arith, length-drop n rest))))

-- a piece is copied from the place at to the front of a buffer
pub piece_taken : (xs piece rest : List ℕ) (at n m : ℕ) → piece ≡ take m (drop at xs) → m ≡ n → length piece ≡ n
    → drop at xs ≡ take n (piece ++ rest) ++ drop (at + n) xs
piece_taken xs piece rest at n m is same size =
    sym (take-append-drop n (drop at xs))
    ∙ ap (λ (l : List ℕ). l ++ drop n (drop at xs))
    (sym (take_at piece rest n size ∙ is ∙ ap (λ (k : ℕ). take k (drop at xs)) same))
    ∙ ap (λ (l : List ℕ). take n (piece ++ rest) ++ l) (drop-drop n at xs)

-- a call moves nothing only where there is nothing to move
pub piece_none : (item : Option ℕ) (room : ℕ) → piece item room ≡ 0 → room ≡ 0
piece_none None room none = none
piece_none (Some most) room none = omega arith
