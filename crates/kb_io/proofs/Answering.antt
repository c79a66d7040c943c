-- The answers of a line that is being read.
use Rattle.std.proofs.Common.{◌≡◌, ℕ, ◌+◌, ◌-◌, ◌<◌, ◌≤◌, max, List, [], ◌∷◌, ◌++◌, length, take, drop, refl, sym, ◌∙◌}
use Rattle.std.proofs.Common.{ap, subst, append_assoc, arith, inl, inr, Option, Some, None, Ok, Err, zero-add}
use Rattle.std.proofs.Common.{length-append}
use Rattle.std.proofs.lemmas.List.{append-nil}
use Rattle.std.specs.Io.KnownBytes.{Consumes, IsAtEnd}
use Rattle.kb_io.specs.Outside.{Rose}
use Rattle.kb_io.proofs.KnownBytes.{consumes_none, consumes_more, consumes_kept}
use Rattle.kb_io.specs.Lines.{newlines, longest_line, IsLong, StandsFor}
use Rattle.kb_io.proofs.LineLemmas.{newlines-append, let_go_is_long, long_more}
use Rattle.kb_io.specs.Pending.{GoesOn, NextLine, most_bytes}
use Rattle.kb_io.specs.Buffer.{begun, begun_at, answered, answered_at, unread, pending, IsSoundLine, IsUnderWay}
use Rattle.kb_io.specs.Buffer.{IsUnderWayAt}
use Rattle.kb_io.specs.Finishes.{Cuts, Refills, FinishesLast}
use Rattle.kb_io.specs.declared.lines.Next.{Next}
use Rattle.kb_io.specs.declared.lines.Next.TheVariants.{Line, LongLine, End}
use Rattle.kb_io.specs.declared.lines.LineError.{LineError}
use Rattle.kb_io.specs.declared.lines.LineError.TheVariants.{Fault, TooLong}
use Rattle.kb_io.specs.declared.line_buffer.Stage.{Stage}
use Rattle.kb_io.specs.declared.line_buffer.Stage.TheVariants.{Partial, Overlong, Complete}
use Rattle.kb_io.specs.declared.line_buffer.LineBuffer.{LineBuffer}
use Rattle.kb_io.specs.declared.line_buffer.Buffer.{Buffer}
use Rattle.kb_io.proofs.Reading.{Reads}

begun_at_whole : (stage : Stage) (bytes : List ℕ) → newlines bytes ≡ 0 → newlines (begun_at stage bytes) ≡ 0
begun_at_whole Partial bytes whole = whole
begun_at_whole Overlong bytes whole = let_go_is_long.0
begun_at_whole Complete bytes whole = refl

answered_at_none : (stage : Stage) (bytes : List ℕ) → IsUnderWayAt stage → answered_at stage bytes ≡ []
answered_at_none Partial bytes on = refl
answered_at_none Overlong bytes on = refl
answered_at_none Complete bytes on = absurd on

-- nothing is answered while a line is under way
pub answered_none : (line : LineBuffer) → IsUnderWay line → answered line ≡ []
answered_none line on = answered_at_none line.stage line.bytes.items on

-- nothing is unread where all was looked at
pub unread_none : (buffer : Buffer) → buffer.at ≡ buffer.end → unread buffer ≡ []
unread_none buffer at_end = let none : buffer.end - buffer.at ≡ 0 = omega (arith, at_end) in
    ap (λ n. take n (drop buffer.at buffer.chunk.items)) none

pub is_nothing : (xs : List ℕ) → length xs ≡ 0 → xs ≡ []
is_nothing [] none = refl
is_nothing (x ∷ xs) none = absurd (omega (arith, none))

-- at first nothing was taken
pub reads_none : (buffer : Buffer) (left : Option (List ℕ)) → IsSoundLine buffer.line → Reads buffer buffer left left
reads_none buffer left sound = record {
  bytes = [];
  line = begun buffer.line;
  consumed = consumes_none left;
  taken = omega arith;
  most = omega arith;
  ahead = append-nil _;
  stands = inl refl;
  whole = begun_at_whole buffer.line.stage buffer.line.bytes.items sound.whole;
}

stands_more : (kept kept' line piece : List ℕ) → newlines piece ≡ 0 → StandsFor kept line
    → StandsFor kept' (kept ++ piece) → StandsFor kept' (line ++ piece)
stands_more kept kept' line piece none (inl same) more = subst (λ (l : List ℕ). StandsFor kept' (l ++ piece)) same more
stands_more kept kept' line piece none (inr long) (inl more) =
    inr (subst IsLong (sym more) (long_more kept piece long.0 none), long_more line piece long.1 none)
stands_more kept kept' line piece none (inr long) (inr more) = inr (more.0, long_more line piece long.1 none)

-- all that was unread went to the line under way
pub reads_on : (initial old new : Buffer) (left left' : Option (List ℕ)) → Reads initial old left left'
    → Cuts None old new → new.taken ≡ old.taken → Reads initial new left left'
reads_on initial old new left left' reads cuts taken = record {
  bytes = reads.bytes;
  line = reads.line ++ unread old;
  consumed = reads.consumed;
  taken = taken ∙ reads.taken;
  most = subst (λ n. n ≤ max initial.taken most_bytes) (sym taken) reads.most;
  ahead = reads.ahead ∙ sym (append-nil _)
      ∙ ap (λ (l : List ℕ). (reads.line ++ unread old) ++ l) (sym (unread_none new cuts.1));
  stands = stands_more _ _ _ _ cuts.0 reads.stands cuts.3;
  whole = newlines-append reads.line (unread old) ∙ ap (λ n. n + newlines (unread old)) reads.whole
      ∙ zero-add _ ∙ cuts.0;
}

-- where all was looked at, the bytes ahead are the line under way
all_is_line : (initial now : Buffer) (left left' : Option (List ℕ)) (reads : Reads initial now left left')
    → now.at ≡ now.end → begun initial.line ++ unread initial ++ reads.bytes ≡ reads.line
all_is_line initial now left left' reads at_end = reads.ahead
    ∙ ap (λ (l : List ℕ). reads.line ++ l) (unread_none now at_end) ∙ append-nil reads.line

none_ahead : (initial now : Buffer) (left left' : Option (List ℕ)) (reads : Reads initial now left left')
    → now.at ≡ now.end → newlines (begun initial.line ++ unread initial ++ reads.bytes) ≡ 0
none_ahead initial now left left' reads at_end = ap newlines (all_is_line initial now left left' reads at_end)
    ∙ reads.whole

-- a source is read only where no newline is ahead
pub no_line_ahead : (initial now : Buffer) (left left' : Option (List ℕ)) → Reads initial now left left'
    → now.at ≡ now.end → 0 < newlines (begun initial.line ++ unread initial) → ⊥
no_line_ahead initial now left left' reads at_end some =
    let none : newlines (begun initial.line ++ unread initial ++ reads.bytes) ≡ 0 =
    none_ahead initial now left left' reads at_end in
    let all : newlines (begun initial.line ++ unread initial ++ reads.bytes)
    ≡ newlines (begun initial.line ++ unread initial) + newlines reads.bytes =
    newlines-append (begun initial.line ++ unread initial) reads.bytes in
    omega (arith, none, all, some)

-- a chunk was taken
pub reads_more : (initial old new : Buffer) (left left' left'' : Option (List ℕ)) (n before now : ℕ)
    → Reads initial old left left' → old.at ≡ old.end → new.line ≡ old.line
    → Refills (Ok n) old new left' left'' before now
    → Reads initial new left left''
reads_more initial old new left left' left'' n before now reads at_end same refills = record {
  bytes = reads.bytes ++ unread new;
  line = reads.line;
  consumed = consumes_more _ _ _ _ _ reads.consumed refills.0;
  taken = (let size = length-append reads.bytes (unread new) in omega (arith, size, reads.taken, refills.1, refills.2));
  most = omega (arith, refills.3);
  ahead = sym (append_assoc _ reads.bytes (unread new))
      ∙ ap (λ (l : List ℕ). l ++ unread new) (all_is_line initial old left left' reads at_end);
  stands = subst (λ (line : LineBuffer). StandsFor (begun line) reads.line) (sym same) reads.stands;
  whole = reads.whole;
}

ahead_cut : (all line unread piece rest begun : List ℕ) → all ≡ line ++ unread → unread ≡ piece ++ 10 ∷ rest
    → begun ≡ [] → all ≡ (line ++ piece) ++ 10 ∷ (begun ++ rest)
ahead_cut all line unread piece rest begun is cut none =
    is ∙ ap (λ (l : List ℕ). line ++ l) cut ∙ sym (append_assoc line piece (10 ∷ rest))
    ∙ ap (λ (l : List ℕ). (line ++ piece) ++ 10 ∷ (l ++ rest)) (sym none)

newlines_both : (line piece : List ℕ) → newlines line ≡ 0 → newlines piece ≡ 0 → newlines (line ++ piece) ≡ 0
newlines_both line piece none none' = newlines-append line piece ∙ ap (λ n. n + newlines piece) none
    ∙ zero-add _ ∙ none'

-- a line that is short enough is kept as it is
kept_as_is : (kept line piece : List ℕ) → StandsFor kept line → length (kept ++ piece) ≤ longest_line → kept ≡ line
kept_as_is kept line piece (inl same) short = same
kept_as_is kept line piece (inr long) short = absurd (omega (arith, long.0.1, short, length-append kept piece))

still_long : (kept line piece : List ℕ) → StandsFor kept line → newlines piece ≡ 0 → IsLong (kept ++ piece)
    → IsLong (line ++ piece)
still_long kept line piece (inl same) none long = subst (λ (l : List ℕ). IsLong (l ++ piece)) same long
still_long kept line piece (inr both) none long = long_more line piece both.1 none

-- the line ends within what is unread
pub answers_cut : (next : Next) (initial old new : Buffer) (left left' : Option (List ℕ)) (before now : ℕ)
    → Reads initial old left left' → Cuts (Some next) old new → new.taken ≡ old.taken → now ≡ before
    → NextLine (Ok next) (pending initial) (pending new) left left' before now
answers_cut Line initial old new left left' before now reads (piece, cut, none, begins, is, short) taken same =
    let whole : begun old.line ++ piece ≡ reads.line ++ piece =
    ap (λ (l : List ℕ). l ++ piece) (kept_as_is _ _ piece reads.stands short) in (
      same,
      record {
        bytes = reads.bytes;
        consumed = reads.consumed;
        count = taken ∙ reads.taken;
        within = subst (λ n. n ≤ max initial.taken most_bytes) (sym taken) reads.most;
        cut = (
          ap newlines (is ∙ whole) ∙ newlines_both reads.line piece reads.whole none,
          inl (ahead_cut _ _ _ _ _ _ reads.ahead cut begins
              ∙ ap (λ (l : List ℕ). l ++ 10 ∷ (begun new.line ++ unread new)) (sym (is ∙ whole))),
        );
      },
      subst (λ (l : List ℕ). length l ≤ longest_line) (sym is) short,
    )
answers_cut LongLine initial old new left left' before now reads (piece, cut, none, begins, is, long) taken same = (
  same,
  (
    reads.line ++ piece,
    record {
      bytes = reads.bytes;
      consumed = reads.consumed;
      count = taken ∙ reads.taken;
      within = subst (λ n. n ≤ max initial.taken most_bytes) (sym taken) reads.most;
      cut = (newlines_both reads.line piece reads.whole none, inl (ahead_cut _ _ _ _ _ _ reads.ahead cut begins));
    },
    (still_long _ _ piece reads.stands none long).1,
  ),
  is,
)
answers_cut End initial old new left left' before now reads cuts taken same = absurd cuts

-- what stands ahead after nothing was given out
still_ahead : (initial old new : Buffer) (left left' : Option (List ℕ)) (reads : Reads initial old left left')
    → old.at ≡ old.end → new.at ≡ new.end → new.line ≡ old.line
    → StandsFor (begun new.line ++ unread new) (begun initial.line ++ unread initial ++ reads.bytes)
still_ahead initial old new left left' reads at_end at_end' same =
    let kept : begun old.line ≡ begun new.line ++ unread new = ap begun (sym same) ∙ sym (append-nil _)
    ∙ ap (λ (l : List ℕ). begun new.line ++ l) (sym (unread_none new at_end')) in
    subst (λ (l : List ℕ). StandsFor l (begun initial.line ++ unread initial ++ reads.bytes)) kept
    (subst (λ (l : List ℕ). StandsFor (begun old.line) l) (sym (all_is_line initial old left left' reads at_end))
    reads.stands)

-- the line that was under way is under way still
goes_on : (initial old new : Buffer) (left left' : Option (List ℕ)) (reads : Reads initial old left left')
    → old.at ≡ old.end → new.at ≡ new.end → IsUnderWay old.line → new.line ≡ old.line
    → GoesOn reads.bytes (pending initial) (pending new)
goes_on initial old new left left' reads at_end at_end' on same = record {
  whole = none_ahead initial old left left' reads at_end;
  ahead = still_ahead initial old new left left' reads at_end at_end' same;
  line = ap answered same ∙ answered_none old.line on;
}

-- the source gave nothing
pub answers_err : (e : LineError) (initial old new : Buffer) (left left' left'' : Option (List ℕ)) (before mid now : ℕ)
    → Reads initial old left left' → old.at ≡ old.end → IsUnderWay old.line
    → new.line ≡ old.line → Refills (Err e) old new left' left'' mid now → mid ≡ before
    → NextLine (Err e) (pending initial) (pending new) left left'' before now
answers_err Fault initial old new left left' left'' before mid now reads at_end on same refills counted = (
  omega (arith, refills.4, counted),
  subst (λ n. Rose n now) counted refills.5,
  record {
    bytes = reads.bytes;
    consumed = consumes_kept _ _ _ _ reads.consumed refills.1;
    count = refills.2 ∙ reads.taken;
    within = omega (arith, refills.3);
    line = goes_on initial old new left left' reads at_end refills.0 on same;
  },
)
answers_err TooLong initial old new left left' left'' before mid now reads at_end on same refills counted = (
  refills.6 ∙ counted,
  record {
    bytes = reads.bytes;
    beyond = refills.0;
    consumed = consumes_more _ _ _ _ _ reads.consumed refills.2;
    count = refills.3 ∙ ap (λ n. n + length refills.0) reads.taken;
    all = refills.4;
    few = refills.5;
    line = goes_on initial old new left left' reads at_end refills.1 on same;
  },
)

nothing_before : (xs ys : List ℕ) → xs ++ ys ≡ [] → (xs ≡ []) × (ys ≡ [])
nothing_before xs ys none =
    let size : length xs + length ys ≡ 0 = sym (length-append xs ys) ∙ ap length none in
    (is_nothing xs (omega (arith, size)), is_nothing ys (omega (arith, size)))

-- nothing is kept of nothing alone
nothing_stands : (line : List ℕ) → StandsFor [] line → line ≡ []
nothing_stands line (inl same) = sym same
nothing_stands line (inr long) = absurd (omega (arith, long.0.1))

-- what the input ended with
pub answers_end : (next : Next) (initial old : Buffer) (line : LineBuffer) (left left' : Option (List ℕ))
    (before now : ℕ) → Reads initial old left left' → unread old ≡ [] → IsAtEnd left' → now ≡ before
    → IsUnderWay old.line → FinishesLast next old.line line
    → NextLine (Ok next) (pending initial) (pending (record old { line = line })) left left' before now
answers_end Line initial old line left left' before now reads none at_end same on finishes =
    let finished = finishes.0 in
    let short : length (begun old.line ++ []) ≤ longest_line =
    subst (λ (l : List ℕ). length l ≤ longest_line) (sym (append-nil _)) finished.2 in
    let whole : answered line ≡ reads.line = finished.1 ∙ kept_as_is _ _ [] reads.stands short in (
      same,
      record {
        bytes = reads.bytes;
        consumed = reads.consumed;
        count = reads.taken;
        within = reads.most;
        cut = (
          ap newlines whole ∙ reads.whole,
          inr (
            reads.ahead ∙ ap (λ (l : List ℕ). reads.line ++ l) none ∙ append-nil _ ∙ sym whole,
            subst (λ (l : List ℕ). 0 < length l) (sym finished.1) finishes.1,
            ap (λ (l : List ℕ). l ++ unread old) finished.0 ∙ none,
            at_end,
          ),
        );
      },
      subst (λ (l : List ℕ). length l ≤ longest_line) (sym finished.1) finished.2,
    )
answers_end LongLine initial old line left left' before now reads none at_end same on finishes =
    let long : IsLong reads.line =
    subst IsLong (append-nil _)
    (still_long _ _ [] reads.stands refl (subst IsLong (sym (append-nil _)) finishes.2)) in (
      same,
      (
        reads.line,
        record {
          bytes = reads.bytes;
          consumed = reads.consumed;
          count = reads.taken;
          within = reads.most;
          cut = (
            reads.whole,
            inr (
              reads.ahead ∙ ap (λ (l : List ℕ). reads.line ++ l) none ∙ append-nil _,
              omega (arith, long.1),
              ap (λ (l : List ℕ). l ++ unread old) finishes.0 ∙ none,
              at_end,
            ),
          );
        },
        long.1,
      ),
      finishes.1,
    )
answers_end End initial old line left left' before now reads none at_end same on finishes =
    let nothing : reads.line ≡ [] =
    nothing_stands reads.line (subst (λ (l : List ℕ). StandsFor l reads.line) finishes.0 reads.stands) in
    let all = nothing_before (begun initial.line ++ unread initial) reads.bytes (reads.ahead
    ∙ ap (λ (l : List ℕ). reads.line ++ l) none ∙ append-nil _ ∙ nothing) in
    let ahead : begun line ++ unread old ≡ [] = ap (λ (k : LineBuffer). begun k ++ unread old) finishes.1
    ∙ ap (λ (l : List ℕ). l ++ unread old) finishes.0 ∙ none in
    let given : answered line ≡ [] = ap answered finishes.1 ∙ answered_none old.line on in
    let taken : old.taken ≡ initial.taken = omega (arith, reads.taken, ap length all.1) in (
      same,
      record {
        consumed = subst (Consumes left left') all.1 reads.consumed;
        at_end = at_end;
        ahead = all.0;
        state = rw (taken, ahead, given) refl;
      },
    )
