-- A procedure, written in Lua: from its word to the brace that closes its first one.
use Rattle.std.specs.Prelude.{◌≡◌, ℕ, zero, suc, ◌+◌, ◌<◌, ◌≤◌, List, [], ◌∷◌, length, take, drop, Option, Some, None}
use Rattle.std.specs.Prelude.{Bool, false, ◌==◌, ◌||◌, if◌then◌else◌, codes, nat_eq}
use Rattle.std.specs.List.{prefix_len, starts_with}
use Rattle.std.specs.Str.{bytes_eq}
use Rattle.kb_text.specs.declared.procedure.Passage.{Passage}
use Rattle.kb_text.specs.declared.procedure.Passage.TheVariants.{Opening, Closing, Over, Unclosed}
use Rattle.kb_text.specs.declared.procedure.Step.{Step}
use Rattle.kb_text.specs.declared.procedure.Step.TheVariants.{Last, Stop, Next}
use Rattle.kb_text.specs.Bytes.{is_word_byte, is_line_byte}
use Rattle.kb_text.specs.Ends.{later_by, close_of, quoted_of}

-- so many bytes, and then up to the end that was found
abbrev pub passed : ℕ → Option ℕ → Passage
passed n None = Unclosed
passed n (Some m) = Over (m + n)

-- what stands at a place of a Lua text: a brace, a text in quotes or in [[ ]], a comment or another byte
abbrev pub passage_at : List ℕ → Passage
passage_at [] = Unclosed
passage_at (b ∷ bs) =
    if b == 123 then Opening
    else (if b == 125 then Closing
    else (if b == 34 || b == 39 then passed 1 (quoted_of false b bs)
    else (if starts_with nat_eq (b ∷ bs) (codes "[[") then passed 2 (close_of 93 93 (drop 2 (b ∷ bs)))
    else (if starts_with nat_eq (b ∷ bs) (codes "--[[") then passed 4 (close_of 93 93 (drop 4 (b ∷ bs)))
    else (if starts_with nat_eq (b ∷ bs) (codes "--") then Over (prefix_len is_line_byte bs + 1)
    else Over 1)))))

-- what a passage does where so many braces are open: the next count of open braces, and how many bytes are passed
abbrev pub step_of : ℕ → Passage → Step
step_of open_braces Opening = Next (suc open_braces) 1
step_of zero Closing = Next zero 1
step_of (suc zero) Closing = Last
step_of (suc (suc n)) Closing = Next (suc n) 1
step_of open_braces (Over n) = Next open_braces n
step_of open_braces Unclosed = Stop

-- how many bytes there are up to the brace that closes the first one, and with it
pub data ClosesAfter : ℕ → List ℕ → Option ℕ → Type 0 where
  last : {d : ℕ} {bytes : List ℕ} → step_of d (passage_at bytes) ≡ Last → ClosesAfter d bytes (Some 1)
  stops : {d : ℕ} {bytes : List ℕ} → step_of d (passage_at bytes) ≡ Stop → ClosesAfter d bytes None
  passes : {d : ℕ} {bytes : List ℕ} {r : Option ℕ} (e n : ℕ) → step_of d (passage_at bytes) ≡ Next e n
      → ClosesAfter e (drop n bytes) r → ClosesAfter d bytes (later_by n r)

-- the length of the word at the start
abbrev pub word_end : List ℕ → ℕ
word_end bytes = prefix_len is_word_byte bytes

abbrev pub is_procedure_word : Bool → List ℕ → Bool
is_procedure_word in_braces text = if in_braces then false else bytes_eq text (codes "procedure")

-- outside all braces the word procedure begins one
abbrev pub begins_procedure : Bool → List ℕ → Bool
begins_procedure in_braces bytes = is_procedure_word in_braces (take (word_end bytes) bytes)

-- the length of the procedure at the start, if it is closed
abbrev pub ProcedureEnds : List ℕ → Option ℕ → Type 0
ProcedureEnds bytes r = ClosesAfter 0 (drop (word_end bytes) bytes) r

-- what is passed is something, and lies within the text
abbrev pub FitsIn : ℕ → List ℕ → Step → Type 0
FitsIn open_braces bytes (Next next n) = (next ≤ suc open_braces) × (0 < n) × (n ≤ length bytes)
FitsIn open_braces bytes Last = 0 < length bytes
FitsIn open_braces bytes Stop = Unit {0}
