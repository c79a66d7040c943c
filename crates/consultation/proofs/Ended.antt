-- Lines and the newlines after them.
use Rattle.std.proofs.Common.{◌≡◌, ℕ, suc, ◌+◌, List, [], ◌∷◌, ◌++◌, take, refl, sym, ◌∙◌, ap, arith, append_assoc}
use Rattle.std.proofs.Common.{append-nil}
use Rattle.std.specs.List.{AllByRecursion}
use Rattle.kb_io.specs.Lines.{newlines, command_lines, ended}
use Rattle.kb_io.proofs.LineLemmas.{newlines-append, first_line}
use Rattle.consultation.specs.EndedLines.{ended_lines}

-- no line has a newline
abbrev pub AreWhole : List (List ℕ) → Type 0
AreWhole lines = AllByRecursion (λ line. newlines line ≡ 0) lines

pub whole_more : (front : List (List ℕ)) (line : List ℕ) → AreWhole front → newlines line ≡ 0
    → AreWhole (front ++ line ∷ [])
whole_more [] line whole none = (none, tt)
whole_more (first ∷ front) line whole none = (whole.0, whole_more front line whole.1 none)

pub ended_more : (front : List (List ℕ)) (line : List ℕ) → ended (front ++ line ∷ []) ≡ ended front ++ (line ++ 10 ∷ [])
ended_more [] line = refl
ended_more (first ∷ front) line = ap (λ (l : List ℕ). first ++ 10 ∷ l) (ended_more front line)
    ∙ sym (append_assoc first (10 ∷ ended front) (line ++ 10 ∷ []))

-- ended lines are the first lines
pub lines_after : (front : List (List ℕ)) (rest : List ℕ) → AreWhole front
    → command_lines (ended front ++ rest) ≡ front ++ command_lines rest
lines_after [] rest whole = refl
lines_after (line ∷ front) rest whole =
    ap command_lines (append_assoc line (10 ∷ ended front) rest) ∙ first_line line (ended front ++ rest) whole.0
    ∙ ap (λ (ls : List (List ℕ)). line ∷ ls) (lines_after front rest whole.1)

one_newline_more : (line rest : List ℕ) → newlines line ≡ 0 → newlines (line ++ 10 ∷ rest) ≡ suc (newlines rest)
one_newline_more line rest none =
    let here : newlines (10 ∷ rest) ≡ 1 + newlines rest = newlines-append (10 ∷ []) rest in
    omega (arith, newlines-append line (10 ∷ rest), here, none)

-- they are the first of those that newlines end
pub ended_after : (front : List (List ℕ)) (rest : List ℕ) → AreWhole front
    → ended_lines (ended front ++ rest) ≡ front ++ ended_lines rest
ended_after [] rest whole = refl
ended_after (line ∷ front) rest whole =
    let more : List ℕ = ended front ++ rest in
    ap ended_lines (append_assoc line (10 ∷ ended front) rest)
    ∙ ap (λ n. take n (command_lines (line ++ 10 ∷ more))) (one_newline_more line more whole.0)
    ∙ ap (take (suc (newlines more))) (first_line line more whole.0)
    ∙ ap (λ (ls : List (List ℕ)). line ∷ ls) (ended_after front rest whole.1)

none_ended : (rest : List ℕ) → newlines rest ≡ 0 → ended_lines rest ≡ []
none_ended rest none = ap (λ n. take n (command_lines rest)) none

-- where no newline follows, they are all of those that newlines end
pub ended_are : (front : List (List ℕ)) (rest : List ℕ) → AreWhole front → newlines rest ≡ 0
    → ended_lines (ended front ++ rest) ≡ front
ended_are front rest whole none = ended_after front rest whole
    ∙ ap (λ (ls : List (List ℕ)). front ++ ls) (none_ended rest none) ∙ append-nil front
