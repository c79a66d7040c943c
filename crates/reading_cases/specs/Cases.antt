-- How a case is cut, and which call it names.
use Rattle.std.specs.Prelude.{ℕ, ◌==◌, Bool, not, List, [], ◌∷◌, take, drop, Option, None, Some, codes, if◌then◌else◌}
use Rattle.std.specs.List.{prefix_len}
use Rattle.std.specs.Str.{bytes_eq}
use Rattle.reading_cases.specs.declared.calls.Call.{Call}
use Rattle.reading_cases.specs.declared.calls.Call.TheVariants as call

abbrev pub is_in_line : ℕ → Bool
is_in_line b = not (b == 10)

abbrev pub without_first : List ℕ → List ℕ
without_first [] = []
without_first (b ∷ bs) = bs

abbrev pub first_line : List ℕ → List ℕ
first_line case = take (prefix_len is_in_line case) case

-- what follows the first line's newline
abbrev pub further_lines : List ℕ → List ℕ
further_lines case = without_first (drop (prefix_len is_in_line case) case)

abbrev pub call_for : List ℕ → Option Call
call_for word =
    if bytes_eq word (codes "tokens") then Some call.Tokens
    else (if bytes_eq word (codes "count") then Some call.Count
    else (if bytes_eq word (codes "formula") then Some call.Formula
    else (if bytes_eq word (codes "term") then Some call.Term
    else (if bytes_eq word (codes "file") then Some call.File
    else (if bytes_eq word (codes "pick") then Some call.Pick
    else (if bytes_eq word (codes "pick T") then Some call.PickT
    else (if bytes_eq word (codes "pick U") then Some call.PickU
    else (if bytes_eq word (codes "names") then Some call.Names
    else (if bytes_eq word (codes "types") then Some call.Types
    else (if bytes_eq word (codes "data") then Some call.Data
    else None))))))))))
