-- How a line is put together of the pieces that come.
use Rattle.std.proofs.Common.{◌≡◌, ℕ, ◌+◌, ◌-◌, ◌<◌, ◌≤◌, List, ◌∷◌, ◌++◌, length, take, drop, sym, ◌∙◌, ap, subst}
use Rattle.std.proofs.Common.{arith, inl, inr, Some, take-append-drop, drop-drop, zero-add, length-append, length-take}
use Rattle.std.proofs.lemmas.List.{drop-take}
use Rattle.kb_io.specs.Lines.{newlines, longest_line, let_go, IsLong, StandsFor}
use Rattle.kb_io.proofs.LineLemmas.{newlines-append, let_go_is_long, long_more}
use Rattle.kb_io.specs.Buffer.{begun, unread}
use Rattle.kb_io.specs.Finishes.{Finishes, FinishesLast, Cuts}
use Rattle.kb_io.specs.declared.lines.Next.{Next}
use Rattle.kb_io.specs.declared.lines.Next.TheVariants.{Line, LongLine, End}
use Rattle.kb_io.specs.declared.line_buffer.LineBuffer.{LineBuffer}
use Rattle.kb_io.specs.declared.line_buffer.Buffer.{Buffer}

-- a beginning that was let go stands for itself and what goes on
pub let_go_goes_on : (piece : List ℕ) → newlines piece ≡ 0 → StandsFor let_go (let_go ++ piece)
let_go_goes_on piece none = inr (let_go_is_long, long_more let_go piece let_go_is_long none)

-- a beginning that gets too long is let go
pub gets_too_long : (bytes piece : List ℕ) → newlines bytes ≡ 0 → newlines piece ≡ 0
    → longest_line < length bytes + length piece → StandsFor let_go (bytes ++ piece)
gets_too_long bytes piece none none' long =
    inr (
      let_go_is_long,
      (
        newlines-append bytes piece ∙ ap (λ n. n + newlines piece) none ∙ zero-add (newlines piece)
            ∙ none',
        omega (arith, length-append bytes piece, long),
      ),
    )

-- what is unread after n bytes and one more
pub unread_after : (xs : List ℕ) (from until n : ℕ) → n + 1 ≤ until - from
    → drop (n + 1) (take (until - from) (drop from xs)) ≡ take (until - (from + (n + 1))) (drop (from + (n + 1)) xs)
unread_after xs from until n le =
    let rest = until - (from + (n + 1)) in
    let size : until - from ≡ n + 1 + rest = omega (arith, le) in
    ap (λ m. drop (n + 1) (take m (drop from xs))) size ∙ drop-take (n + 1) rest (drop from xs)
    ∙ ap (take rest) (drop-drop (n + 1) from xs)

-- the bytes before a newline, the newline, and what follows
pub cut_at_newline : (bytes rest : List ℕ) (n : ℕ) → drop n bytes ≡ 10 ∷ drop (n + 1) bytes → drop (n + 1) bytes ≡ rest
    → bytes ≡ take n bytes ++ 10 ∷ rest
cut_at_newline bytes rest n here after = sym (take-append-drop n bytes)
    ∙ ap (λ (l : List ℕ). take n bytes ++ l) (here ∙ ap (λ (l : List ℕ). 10 ∷ l) after)

-- the line that ends within what is unread is answered
pub cuts_some : (next : Next) (old new : Buffer) (kept : LineBuffer) (piece : List ℕ) → Finishes next kept new.line
    → unread old ≡ piece ++ 10 ∷ unread new → newlines piece ≡ 0
    → StandsFor (begun kept) (begun old.line ++ piece) → Cuts (Some next) old new
cuts_some Line old new kept piece finished cut none (inl same) =
    (piece, cut, none, finished.0, finished.1 ∙ same, subst (λ (l : List ℕ). length l ≤ longest_line) same finished.2)
cuts_some Line old new kept piece finished cut none (inr long) = absurd (omega (arith, long.0.1, finished.2))
cuts_some LongLine old new kept piece finished cut none (inl same) =
    (piece, cut, none, finished.0, finished.1, subst IsLong same finished.2)
cuts_some LongLine old new kept piece finished cut none (inr long) = (piece, cut, none, finished.0, finished.1, long.1)
cuts_some End old new kept piece finished cut none stands = absurd finished

pub finishes_last : (next : Next) (old new : LineBuffer) → Finishes next old new → 0 < length (begun old)
    → FinishesLast next old new
finishes_last Line old new finished some = (finished, some)
finishes_last LongLine old new finished some = finished
finishes_last End old new finished some = absurd finished

pub let_go_is_some : 0 < length let_go
let_go_is_some = omega (arith, let_go_is_long.1)

-- what is unread is the bytes before its first newline, the newline, and what is unread then
pub unread_cut : (xs seen : List ℕ) (from until n : ℕ) → seen ≡ xs → n < length (take (until - from) (drop from seen))
    → drop n (take (until - from) (drop from seen)) ≡ 10 ∷ drop (n + 1) (take (until - from) (drop from seen))
    → take (until - from) (drop from xs) ≡ take n (take (until - from) (drop from xs)) ++ 10 ∷ take
    (until - (from + (n + 1))) (drop (from + (n + 1)) xs)
unread_cut xs seen from until n same within here =
    let P : List ℕ → Type 0 = λ l. take (until - from) (drop from l) ≡ take n (take (until - from) (drop from l))
    ++ 10 ∷ take (until - (from + (n + 1))) (drop (from + (n + 1)) l) in
    subst P same (cut_at_newline (take (until - from) (drop from seen)) _ n here
    (unread_after seen from until n (omega (arith, within, length-take (until - from) (drop from seen)))))
