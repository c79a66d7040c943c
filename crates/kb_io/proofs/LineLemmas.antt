-- How bytes are cut into lines.
use Rattle.std.specs.Prelude.{◌≡◌, ℕ, ◌+◌, ◌<◌, List, [], ◌∷◌, ◌++◌, length, replicate, ◌==◌, Option, Some, None}
use Rattle.std.proofs.Common.{refl, sym, subst, ◌∙◌, ap, append_assoc, zero-add, mul-zero, length-append, arith, lit<}
use Rattle.std.proofs.Common.{true, false, cond, inl, inr}
use Rattle.std.proofs.lemmas.Bool.{cases_Bool, eqb-true}
use Rattle.std.proofs.lemmas.List.{append-nil, length-replicate}
use Rattle.std.proofs.lemmas.List.Sums.{sum_by-append}
use Rattle.std.proofs.lemmas.List.Folds.{sum_by-replicate}
use Rattle.std.specs.Io.KnownBytes.{Consumes, IsAtEnd}
use Rattle.kb_io.specs.Lines.{newlines, onto_first, command_lines, ended, AreCutAtNewlines, IsNextLine, longest_line}
use Rattle.kb_io.specs.Lines.{IsLong, let_go, BeginsLines, HasNoLines}

pub newlines-append : (xs ys : List ℕ) → newlines (xs ++ ys) ≡ newlines xs + newlines ys
newlines-append xs ys = sum_by-append (λ b. cond (b == 10) 1 0) xs ys

one_newline : (byte : ℕ) → (byte == 10) ≡ true → newlines (byte ∷ []) ≡ 1
one_newline byte is = rw is refl

no_newline : (byte : ℕ) → (byte == 10) ≡ false → newlines (byte ∷ []) ≡ 0
no_newline byte is = rw is refl

newline_here : (byte : ℕ) (bytes : List ℕ) → (byte == 10) ≡ true → newlines (byte ∷ bytes) ≡ 1 + newlines bytes
newline_here byte bytes is = newlines-append (byte ∷ []) bytes ∙ ap (λ n. n + newlines bytes) (one_newline byte is)

none_here : (byte : ℕ) (bytes : List ℕ) → (byte == 10) ≡ false → newlines (byte ∷ bytes) ≡ newlines bytes
none_here byte bytes is = newlines-append (byte ∷ []) bytes ∙ ap (λ n. n + newlines bytes) (no_newline byte is)
    ∙ zero-add (newlines bytes)

lines_after : (byte : ℕ) (bytes : List ℕ) → (byte == 10) ≡ false
    → command_lines (byte ∷ bytes) ≡ onto_first byte (command_lines bytes)
lines_after byte bytes is = rw is refl

-- a line that ends by a newline is the first line
pub first_line : (line rest : List ℕ) → newlines line ≡ 0
    → command_lines (line ++ 10 ∷ rest) ≡ line ∷ command_lines rest
first_line [] rest none = refl
first_line (byte ∷ line) rest none = elim (cases_Bool (byte == 10)) [
  | inl is ↦ absurd (omega (arith, newline_here byte line is, none))
  | inr is ↦ lines_after byte (line ++ 10 ∷ rest) is
      ∙ ap (onto_first byte) (first_line line rest (sym (none_here byte line is) ∙ none))
]

-- a last piece that is not empty is the last line
pub last_line : (byte : ℕ) (line : List ℕ) → newlines (byte ∷ line) ≡ 0
    → command_lines (byte ∷ line) ≡ (byte ∷ line) ∷ []
last_line byte [] none = elim (cases_Bool (byte == 10)) [
  | inl is ↦ absurd (omega (arith, newline_here byte [] is, none))
  | inr is ↦ lines_after byte [] is
]
last_line byte (next ∷ line) none = elim (cases_Bool (byte == 10)) [
  | inl is ↦ absurd (omega (arith, newline_here byte (next ∷ line) is, none))
  | inr is ↦ lines_after byte (next ∷ line) is
      ∙ ap (onto_first byte) (last_line next line (sym (none_here byte (next ∷ line) is) ∙ none))
]

only_line : (line : List ℕ) → newlines line ≡ 0 → 0 < length line → command_lines line ≡ line ∷ []
only_line [] none some = absurd (omega (arith, some))
only_line (byte ∷ line) none some = last_line byte line none

-- where nothing is ahead and nothing is left there is no line
pub no_line_begins : (ahead : List ℕ) (before now : Option (List ℕ)) → Consumes before now [] → IsAtEnd now → ahead ≡ []
    → HasNoLines ahead before
no_line_begins ahead None now took at_end none = tt
no_line_begins ahead (Some before) None took at_end none = absurd took
no_line_begins ahead (Some before) (Some now) took at_end none =
    ap command_lines (ap (λ (l : List ℕ). l ++ before) none ∙ took ∙ at_end)

-- the next line of what was ahead and taken is the first of the lines
pub next_line_begins : (ahead taken line rest : List ℕ) (before now : Option (List ℕ)) → Consumes before now taken
    → IsNextLine (ahead ++ taken) line rest now
    → BeginsLines ahead before line rest now
next_line_begins ahead taken line rest None now took next = tt
next_line_begins ahead taken line rest (Some before) None took next = absurd took
next_line_begins ahead taken line rest (Some before) (Some now) took next =
    let all : ahead ++ before ≡ (ahead ++ taken) ++ now = ap (λ (l : List ℕ). ahead ++ l) took
    ∙ sym (append_assoc ahead taken now) in
    elim next.1 [
      | inl ended ↦
          ap command_lines (all ∙ ap (λ (l : List ℕ). l ++ now) ended ∙ append_assoc line (10 ∷ rest) now)
          ∙ first_line line (rest ++ now) next.0
      | inr last ↦
          ap command_lines (all ∙ ap (λ (l : List ℕ). (ahead ++ taken) ++ l) last.3 ∙ append-nil (ahead ++ taken)
          ∙ last.0) ∙ only_line line next.0 last.1
          ∙ ap (λ (l : List ℕ). line ∷ command_lines l) (sym (ap (λ (l : List ℕ). l ++ now) last.2 ∙ last.3))
    ]

zeros_are_long : (n : ℕ) → longest_line < n → IsLong (replicate n 0)
zeros_are_long n long =
    let byte : ℕ = 0 in
    let size : length (replicate n byte) ≡ n = length-replicate n byte in
    (sum_by-replicate (λ b. cond (b == 10) 1 0) n 0 ∙ mul-zero n, omega (arith, size, long))

pub let_go_is_long : IsLong let_go
unfolding let_go
let_go_is_long = zeros_are_long (longest_line + 1) (lit< tt)

-- what goes on after a long beginning is long
pub long_more : (bytes piece : List ℕ) → IsLong bytes → newlines piece ≡ 0 → IsLong (bytes ++ piece)
long_more bytes piece long none = (
  newlines-append bytes piece ∙ ap (λ n. n + newlines piece) long.0
      ∙ zero-add (newlines piece) ∙ none,
  omega (arith, length-append bytes piece, long.1),
)

newline_lines : (byte : ℕ) (bytes : List ℕ) → (byte == 10) ≡ true
    → command_lines (byte ∷ bytes) ≡ [] ∷ command_lines bytes
newline_lines byte bytes is = rw is refl

cut_after : (byte : ℕ) (bytes : List ℕ) (lines : List (List ℕ)) → byte ≡ 10 → AreCutAtNewlines bytes lines
    → AreCutAtNewlines (byte ∷ bytes) ([] ∷ lines)
cut_after byte bytes lines is cut = record {
  whole = (refl, cut.whole);
  cut = elim cut.cut [
    | inl ended ↦ inl (λ i. is i ∷ ended i)
    | inr last ↦ inr ([] ∷ last.0, last.1, ap (λ (ls : List (List ℕ)). [] ∷ ls) last.2, last.3, λ i. is i ∷ last.4 i)
  ];
}

last_before : (byte : ℕ) (bytes line : List ℕ) (lines front : List (List ℕ)) (last : List ℕ)
    → line ∷ lines ≡ front ++ last ∷ [] → bytes ≡ ended front ++ last
    → (front' : List (List ℕ)) × (last' : List ℕ) × ((byte ∷ line) ∷ lines ≡ front' ++ last' ∷ [])
    × (0 < length last → 0 < length last') × (byte ∷ bytes ≡ ended front' ++ last')
last_before byte bytes line lines [] last is all =
    ([], byte ∷ last, ap (onto_first byte) is, λ some. omega arith, ap (λ (l : List ℕ). byte ∷ l) all)
last_before byte bytes line lines (first ∷ front) last is all =
    ((byte ∷ first) ∷ front, last, ap (onto_first byte) is, λ some. some, ap (λ (l : List ℕ). byte ∷ l) all)

not_nothing : (front : List (List ℕ)) (last : List ℕ) → [] ≡ front ++ last ∷ [] → ⊥
not_nothing [] last is = cc
not_nothing (first ∷ front) last is = cc

cut_before : (byte : ℕ) (bytes : List ℕ) (lines : List (List ℕ)) → (byte == 10) ≡ false → AreCutAtNewlines bytes lines
    → AreCutAtNewlines (byte ∷ bytes) (onto_first byte lines)
cut_before byte bytes [] is cut = record {
  whole = (no_newline byte is, tt);
  cut = elim cut.cut [
    | inl none ↦ inr ([], byte ∷ [], refl, lit< tt, ap (λ (l : List ℕ). byte ∷ l) none)
    | inr last ↦ absurd (not_nothing last.0 last.1 last.2)
  ];
}
cut_before byte bytes (line ∷ lines) is cut = record {
  whole = (none_here byte line is ∙ cut.whole.0, cut.whole.1);
  cut = elim cut.cut [
    | inl ended ↦ inl (ap (λ (l : List ℕ). byte ∷ l) ended)
    | inr last ↦ let before = last_before byte bytes line lines last.0 last.1 last.2 last.4 in
        inr (before.0, before.1, before.2, before.3 last.3, before.4)
  ];
}

-- the lines are the bytes, cut at the newlines
pub lines_are_cut : (bytes : List ℕ) → AreCutAtNewlines bytes (command_lines bytes)
lines_are_cut [] = record { whole = tt; cut = inl refl }
lines_are_cut (byte ∷ bytes) = elim (cases_Bool (byte == 10)) [
  | inl is ↦ subst (AreCutAtNewlines (byte ∷ bytes)) (sym (newline_lines byte bytes is))
      (cut_after byte bytes (command_lines bytes) (eqb-true byte 10 is) (lines_are_cut bytes))
  | inr is ↦ subst (AreCutAtNewlines (byte ∷ bytes)) (sym (lines_after byte bytes is))
      (cut_before byte bytes (command_lines bytes) is (lines_are_cut bytes))
]
