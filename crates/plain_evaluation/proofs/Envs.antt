-- What an environment has.
use Rattle.plain_evaluation.specs.Environments.{env_view, frame_view}
use Rattle.std.proofs.Common.{◌≡◌, ℕ, zero, suc, List, [], ◌∷◌, ◌++◌, length, Some, ◌+◌, ◌-◌, ◌≤◌, arith, rules}
use Rattle.std.proofs.Common.{length-append}
use Rattle.std.specs.Borrow.{Bor}
use Rattle.std.specs.List.{slice_get}
use Rattle.kb_logic.specs.declared.elements.Elem.{Elem}
use Rattle.plain_evaluation.specs.declared.environments.Env.{Env, Given, Bound, the_lemmas}
use Rattle.plain_evaluation.specs.declared.frames.Frame.{Frame}

pub env_view-Given : (s : Bor (List Elem)) → env_view (Given s) ≡ s.now
env_view-Given s = search (rules, the_lemmas)

pub env_view-Bound : (f : Frame) (r : Bor Env) → env_view (Bound f r) ≡ env_view r.now ++ frame_view f
env_view-Bound f r = search (rules, the_lemmas)

-- an element stays where it is as the list grows
pub get_front : {X : Type 0} (xs ys : List X) (n : ℕ) (x : X) → slice_get xs n ≡ Some x
    → slice_get (xs ++ ys) n ≡ Some x
get_front [] ys n x h = cc
get_front (y ∷ xs) ys zero x h = h
get_front (y ∷ xs) ys (suc n) x h = get_front xs ys n x h

-- a place past the end of the first list is one of the second
pub get_behind : {X : Type 0} (xs ys : List X) (n k : ℕ) (x : X) → n ≡ length xs + k → slice_get ys k ≡ Some x
    → slice_get (xs ++ ys) n ≡ Some x
get_behind [] ys n k x e h = let at : n ≡ k = omega arith in rw at h
get_behind (y ∷ xs) ys zero k x e h = absurd (omega arith)
get_behind (y ∷ xs) ys (suc n) k x e h = get_behind xs ys n k x (omega arith) h

pub past_both : {X : Type 0} (xs ys : List X) (n k l : ℕ) → n ≡ length xs + k → length ys ≡ l → l ≤ k
    → n ≡ length (xs ++ ys) + (k - l)
past_both xs ys n k l e f h = rw length-append (omega arith)
