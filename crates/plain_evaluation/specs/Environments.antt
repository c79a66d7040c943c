-- What the evaluator's environments stand for.
use Rattle.std.specs.Prelude.{◌≡◌, ℕ, ◌+◌, List, [], ◌++◌, length, slice_get, slice_index_or, Some, Result, Ok, Err}
use Rattle.std.specs.Borrow.{Bor}
use Rattle.kb_logic.specs.declared.elements.Elem.{Elem}
use Rattle.plain_evaluation.specs.declared.environments.Env.{Env, fold-Env}
use Rattle.plain_evaluation.specs.declared.environments.Env.TheOpen.{Env-F}
use Rattle.plain_evaluation.specs.declared.frames.Frame.{Frame}
use Rattle.kb_logic.specs.Structures.{choices}

-- the assignment that a frame has
abbrev pub frame_view : Frame → List Elem
frame_view f = slice_index_or (choices f.block.domains.now f.block.bounds.now) f.number []

abbrev pub env_step : Env-F (List Elem) → List Elem
env_step (Env-F.Given s) = s.now
env_step (Env-F.Bound f rest) = rest.now ++ frame_view f

-- the elements of the variables in scope, the outermost first
abbrev pub env_view : Env → List Elem
env_view = fold-Env (List Elem) env_step

-- the element at n, or how far n is past the end
abbrev pub IsFound : List Elem → ℕ → Result (Bor Elem) ℕ → Type 0
IsFound e n (Ok x) = slice_get e n ≡ Some x.now
IsFound e n (Err k) = n ≡ length e + k
