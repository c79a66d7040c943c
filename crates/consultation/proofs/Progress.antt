-- How far the lines of a script were taken.
use Rattle.std.proofs.Common.{◌≡◌, ℕ, ◌+◌, ◌-◌, ◌<◌, ◌≤◌, ◌⊎◌, List, [], ◌∷◌, ◌++◌, length, take, drop, refl, sym, ◌∙◌}
use Rattle.std.proofs.Common.{ap, arith, append_assoc, length-append, append-nil, take-append-drop, Bool, true, false}
use Rattle.std.proofs.Common.{cond, Option, Some, None, Ok, Err, inl, inr}
use Rattle.std.proofs.lemmas.List.{take-append-le}
use Rattle.std.proofs.Math.Seq.{take-append-add}
use Rattle.std.specs.Prelude.{nat_le}
use Rattle.std.proofs.lemmas.Bool.Decides.{leb_tells}
use Rattle.std.specs.Io.KnownBytes.{Consumes}
use Rattle.kb_io.specs.Lines.{newlines, command_lines, ended, IsNextLine}
use Rattle.kb_io.proofs.LineLemmas.{newlines-append, last_line}
use Rattle.kb_io.specs.Pending.{Pending, TakesLine, NextLine, most_bytes}
use Rattle.kb_io.specs.declared.lines.LineError.TheVariants as line_error
use Rattle.kb_io.specs.declared.lines.Next.TheVariants as next
use Rattle.consultation.specs.Streams.{IfObservable}
use Rattle.consultation.specs.EndedLines.{ended_lines, HaveEnded}
use Rattle.consultation.specs.Answering.{lines_within}
use Rattle.consultation.proofs.Ended.{AreWhole, whole_more, ended_more, lines_after, ended_after, ended_are}

-- a newline ended each of the lines, and the rest is ahead and left
abbrev pub IsUnderWay : List ℕ → List ℕ → List (List ℕ) → Pending → Type 0
IsUnderWay script left front p = AreWhole front × (script ≡ ended front ++ (p.ahead ++ left))
    × (p.taken ≡ length (ended front ++ p.ahead))

-- the last line ended with the script
abbrev pub IsOver : List ℕ → List ℕ → List (List ℕ) → Pending → Type 0
IsOver script left front p = (p.ahead ≡ []) × (left ≡ []) × (command_lines script ≡ front) × (p.taken ≡ length script)

-- these lines were given of the script
abbrev pub Given : Option (List ℕ) → Option (List ℕ) → List (List ℕ) → Pending → Type 0
Given None left front p = Unit {0}
Given (Some script) None front p = ⊥
Given (Some script) (Some left) front p = IsUnderWay script left front p ⊎ IsOver script left front p

pub none_given : (script : Option (List ℕ)) → Given script script [] (record { taken = 0; ahead = []; line = [] })
none_given None = tt
none_given (Some script) = inl (tt, refl, refl)

one_line : (line : List ℕ) → newlines line ≡ 0 → 0 < length line → command_lines line ≡ line ∷ []
one_line [] none some = absurd (omega (arith, some))
one_line (byte ∷ line) none some = last_line byte line none

regroup : (a line ahead left : List ℕ)
    → a ++ ((line ++ 10 ∷ ahead) ++ left) ≡ (a ++ (line ++ 10 ∷ [])) ++ (ahead ++ left)
regroup a line ahead left = simp append_assoc

-- what is left goes on with the bytes that were taken
taken_next : (script a ahead bytes left left' : List ℕ) → script ≡ a ++ (ahead ++ left) → left ≡ bytes ++ left'
    → script ≡ a ++ ((ahead ++ bytes) ++ left')
taken_next script a ahead bytes left left' is took = is
    ∙ ap (λ (l : List ℕ). a ++ l) (ap (λ (l : List ℕ). ahead ++ l) took ∙ sym (append_assoc ahead bytes left'))

under_way_more : (script left left' bytes line : List ℕ) (front : List (List ℕ)) (p p' : Pending)
    → IsUnderWay script left front p → left ≡ bytes ++ left' → p'.taken ≡ p.taken + length bytes
    → IsNextLine (p.ahead ++ bytes) line p'.ahead (Some left') → IsUnderWay script left' (front ++ line ∷ []) p'
    ⊎ IsOver script left' (front ++ line ∷ []) p'
under_way_more script left left' bytes line front p p' under took count next =
    let all : script ≡ ended front ++ ((p.ahead ++ bytes) ++ left') =
    taken_next script (ended front) p.ahead bytes left left' under.1 took in
    let size : length (ended front ++ p.ahead) ≡ length (ended front) + length p.ahead =
    length-append (ended front) p.ahead in
    let both : length (p.ahead ++ bytes) ≡ length p.ahead + length bytes = length-append p.ahead bytes in
    elim next.1 [
      | inl ends ↦
          inl (
            whole_more front line under.0 next.0,
            all ∙ ap (λ (l : List ℕ). ended front ++ (l ++ left')) ends ∙ regroup (ended front) line p'.ahead left'
                ∙ ap (λ (l : List ℕ). l ++ (p'.ahead ++ left')) (sym (ended_more front line)),
            omega (
              arith,
              count,
              under.2,
              size,
              both,
              ap length ends,
              length-append line (10 ∷ p'.ahead),
              length-append (ended (front ++ line ∷ [])) p'.ahead,
              ap length (ended_more front line),
              length-append (ended front) (line ++ 10 ∷ []),
              length-append line (10 ∷ []),
            ),
          )
      | inr last ↦
          let whole : script ≡ ended front ++ line = all
          ∙ ap (λ (l : List ℕ). ended front ++ l) (ap (λ (l : List ℕ). (p.ahead ++ bytes) ++ l) last.3
          ∙ append-nil (p.ahead ++ bytes) ∙ last.0) in
          inr (
            last.2,
            last.3,
            ap command_lines whole ∙ lines_after front line under.0
                ∙ ap (λ (ls : List (List ℕ)). front ++ ls) (one_line line next.0 last.1),
            omega (
              arith,
              count,
              under.2,
              size,
              both,
              ap length last.0,
              ap length whole,
              length-append
                  (ended front) line,
            ),
          )
    ]

over_no_more : (script left left' bytes line : List ℕ) (front : List (List ℕ)) (p p' : Pending)
    → IsOver script left front p → left ≡ bytes ++ left' → IsNextLine (p.ahead ++ bytes) line p'.ahead (Some left') → ⊥
over_no_more script left left' bytes line front p p' over took next =
    let none : length (p.ahead ++ bytes) ≡ 0 =
    omega (
      arith,
      length-append p.ahead bytes,
      ap length over.0,
      ap length over.1,
      ap length took,
      length-append bytes left',
    ) in
    elim next.1 [
      | inl ends ↦ omega (arith, none, ap length ends, length-append line (10 ∷ p'.ahead))
      | inr last ↦ omega (arith, none, ap length last.0, last.1)
    ]

-- one line more
pub line_given : (script left left' : Option (List ℕ)) (front : List (List ℕ)) (line : List ℕ) (p p' : Pending)
    → Given script left front p → TakesLine line p p' left left' → Given script left' (front ++ line ∷ []) p'
line_given None left left' front line p p' so_far takes = tt
line_given (Some script) None left' front line p p' so_far takes = absurd so_far
line_given (Some script) (Some left) None front line p p' so_far takes = absurd takes.consumed
line_given (Some script) (Some left) (Some left') front line p p' so_far takes = elim so_far [
  | inl under ↦ under_way_more script left left' takes.bytes line front p p' under takes.consumed takes.count takes.cut
  | inr over ↦ absurd (over_no_more script left left' takes.bytes line front p p' over takes.consumed takes.cut)
]

-- the lines that were not given are ahead and left
lines_left : (script left : List ℕ) (front : List (List ℕ)) (p : Pending)
    → IsUnderWay script left front p ⊎ IsOver script left front p
    → command_lines script ≡ front ++ command_lines (p.ahead ++ left)
lines_left script left front p (inl under) = ap command_lines under.1 ∙ lines_after front (p.ahead ++ left) under.0
lines_left script left front p (inr over) =
    let none : p.ahead ++ left ≡ [] = ap (λ (l : List ℕ). l ++ left) over.0 ∙ over.1 in
    over.2 ∙ sym (append-nil front) ∙ ap (λ (l : List ℕ). front ++ command_lines l) (sym none)

all_within : (script : List ℕ) → nat_le (length script) most_bytes ≡ true → lines_within script ≡ command_lines script
all_within script short = ap (λ (b : Bool). cond b (command_lines script) (ended_lines (take most_bytes script))) short

some_ended : (script : List ℕ) → nat_le (length script) most_bytes ≡ false
    → lines_within script ≡ ended_lines (take most_bytes script)
some_ended script long = ap (λ (b : Bool). cond b (command_lines script) (ended_lines (take most_bytes script))) long

-- in a script beyond its limit, those that were given end within the bytes that may be taken
given_ended : (script left : List ℕ) (front : List (List ℕ)) (p : Pending) → IsUnderWay script left front p
    → p.taken ≤ most_bytes
    → (rest : List (List ℕ)) × (ended_lines (take most_bytes script) ≡ front ++ rest)
given_ended script left front p under within =
    let more : List ℕ = p.ahead ++ left in
    let room : ℕ = most_bytes - length (ended front) in
    let whole_size : length (ended front) + room ≡ most_bytes =
    omega (arith, under.2, within, length-append (ended front) p.ahead) in
    let cut : take most_bytes script ≡ ended front ++ take room more =
    ap (take most_bytes) under.1 ∙ ap (λ n. take n (ended front ++ more)) (sym whole_size)
    ∙ take-append-add (ended front) more room in
    (ended_lines (take room more), ap ended_lines cut ∙ ended_after front (take room more) under.0)

-- the lines that were given are the first of those within the limit
given_within : (script left : List ℕ) (front : List (List ℕ)) (p : Pending)
    → IsUnderWay script left front p ⊎ IsOver script left front p → p.taken ≤ most_bytes
    → (rest : List (List ℕ)) × (lines_within script ≡ front ++ rest)
given_within script left front p so_far within = elim (leb_tells (length script) most_bytes) [
  | inl short ↦ (command_lines (p.ahead ++ left), all_within script short.0 ∙ lines_left script left front p so_far)
  | inr long ↦ elim so_far [
    | inl under ↦ let ended = given_ended script left front p under within in
        (ended.0, some_ended script long.0 ∙ ended.1)
    | inr over ↦ absurd (omega (arith, over.3, within, long.1))
  ]
]

pub some_given : (script left : Option (List ℕ)) (front : List (List ℕ)) (p : Pending) → Given script left front p
    → p.taken ≤ most_bytes
    → IfObservable script (λ bytes. (rest : List (List ℕ)) × (lines_within bytes ≡ front ++ rest))
some_given None left front p so_far within = tt
some_given (Some script) None front p so_far within = absurd so_far
some_given (Some script) (Some left) front p so_far within = given_within script left front p so_far within

-- the line that is taken next is one of them
pub next_given : (script left left' : Option (List ℕ)) (front : List (List ℕ)) (line : List ℕ) (p p' : Pending)
    → Given script left front p → p.taken ≤ most_bytes → TakesLine line p p' left left'
    → IfObservable script (λ bytes. (rest : List (List ℕ)) × (lines_within bytes ≡ front ++ line ∷ rest))
next_given None left left' front line p p' so_far within takes = tt
next_given (Some script) left left' front line p p' so_far within takes =
    let later = some_given (Some script) left' (front ++ line ∷ []) p'
    (line_given (Some script) left left' front line p p' so_far takes) (omega (arith, within, takes.within)) in
    (later.0, later.1 ∙ append_assoc front (line ∷ []) later.0)

size_given : (script left : List ℕ) (front : List (List ℕ)) (p : Pending)
    → IsUnderWay script left front p ⊎ IsOver script left front p → p.ahead ≡ [] → left ≡ [] → length script ≡ p.taken
size_given script left front p (inl under) none at_end =
    omega (
      arith,
      ap length under.1,
      under.2,
      length-append (ended front) (p.ahead ++ left),
      length-append p.ahead left,
      length-append (ended front) p.ahead,
      ap length none,
      ap length at_end,
    )
size_given script left front p (inr over) none at_end = sym over.3

-- all lines were given
pub all_given : (script left left' : Option (List ℕ)) (front : List (List ℕ)) (p p' : Pending) (before now : ℕ)
    → Given script left front p → p.taken ≤ most_bytes
    → NextLine (Ok next.End) p p' left left' before now
    → IfObservable script (λ bytes. (length bytes ≤ most_bytes) × (command_lines bytes ≡ front))
all_given None left left' front p p' before now so_far within next = tt
all_given (Some script) None left' front p p' before now so_far within next = absurd so_far
all_given (Some script) (Some left) None front p p' before now so_far within next = absurd next.1.consumed
all_given (Some script) (Some left) (Some left') front p p' before now so_far within next =
    let at_end : left ≡ [] = next.1.consumed ∙ next.1.at_end in
    let none : p.ahead ++ left ≡ [] = ap (λ (l : List ℕ). l ++ left) next.1.ahead ∙ at_end in (
      omega (arith, size_given script left front p so_far next.1.ahead at_end, within),
      lines_left script left front p so_far ∙ ap (λ (l : List ℕ). front ++ command_lines l) none ∙ append-nil front,
    )

no_more : (bytes left left' : List ℕ) → left ≡ [] → left ≡ bytes ++ left' → left' ≡ []
no_more [] left left' none took = sym took ∙ none
no_more (byte ∷ bytes) left left' none took = absurd (omega (arith, ap length none, ap length took))

-- the lines are those that ended within the bytes taken
pub record EndedWithin (script : List ℕ) (left : Option (List ℕ)) (lines : List (List ℕ)) : Type 0 where
  pub taken : List ℕ
  pub consumed : Consumes (Some script) left taken
  pub within : length taken ≤ most_bytes
  pub ended : HaveEnded lines taken left

-- after a failing read the lines that ended were given
pub ended_given : (script left left' : Option (List ℕ)) (front : List (List ℕ)) (p p' : Pending) (before now : ℕ)
    → Given script left front p → p.taken ≤ most_bytes
    → NextLine (Err line_error.Fault) p p' left left' before now
    → IfObservable script (λ bytes. EndedWithin bytes left' front)
ended_given None left left' front p p' before now so_far within next = tt
ended_given (Some script) None left' front p p' before now so_far within next = absurd so_far
ended_given (Some script) (Some left) None front p p' before now so_far within next = absurd next.2.consumed
ended_given (Some script) (Some left) (Some left') front p p' before now so_far within next = elim so_far [
  | inl under ↦
      let bytes = next.2.bytes in
      let begun : List ℕ = p.ahead ++ bytes in
      record {
        taken = ended front ++ begun;
        consumed = taken_next script (ended front) p.ahead bytes left left' under.1 next.2.consumed
            ∙ sym (append_assoc (ended front) begun left');
        within = omega (
          arith,
          within,
          under.2,
          next.2.count,
          next.2.within,
          length-append (ended front) begun,
          length-append p.ahead bytes,
          length-append (ended front) p.ahead,
        );
        ended = inl (sym (ended_are front begun under.0 next.2.line.whole));
      }
  | inr over ↦
      let none : left' ≡ [] = no_more next.2.bytes left left' over.1 next.2.consumed in
      record {
        taken = script;
        consumed = sym (append-nil script) ∙ ap (λ (l : List ℕ). script ++ l) (sym none);
        within = omega (arith, over.3, within);
        ended = inr (none, sym over.2);
      }
]

-- the bytes begun hold no newline, so the lines of the allowed bytes are those before them
allowed_lines : (front : List (List ℕ)) (begun beyond more script : List ℕ) → AreWhole front
    → script ≡ ended front ++ (begun ++ more) → length (ended front) + length begun + length beyond ≡ most_bytes + 1
    → length beyond ≤ 1 → length (ended front) ≤ most_bytes → newlines begun ≡ 0
    → front ≡ ended_lines (take most_bytes script)
allowed_lines front begun beyond more script whole all sizes few short none =
    let room : ℕ = most_bytes - length (ended front) in
    let whole_size : length (ended front) + room ≡ most_bytes = omega arith in
    let fits : room ≤ length begun = omega arith in
    let cut : take most_bytes script ≡ ended front ++ take room begun =
    ap (take most_bytes) all ∙ ap (λ n. take n (ended front ++ (begun ++ more))) (sym whole_size)
    ∙ take-append-add (ended front) (begun ++ more) room
    ∙ ap (λ (l : List ℕ). ended front ++ l) (take-append-le room begun more fits) in
    let no_newline : newlines (take room begun) ≡ 0 =
    omega (
      arith,
      newlines-append (take room begun) (drop room begun),
      ap newlines
          (take-append-drop room begun),
      none,
    ) in
    sym (ap ended_lines cut ∙ ended_are front (take room begun) whole no_newline)

-- where too many bytes were offered, the lines that ended within the allowed ones were given
pub ended_within : (script left left' : Option (List ℕ)) (front : List (List ℕ)) (p p' : Pending) (before now : ℕ)
    → Given script left front p → p.taken ≤ most_bytes
    → NextLine (Err line_error.TooLong) p p' left left' before now
    → IfObservable script (λ bytes. (most_bytes < length bytes) × (front ≡ ended_lines (take most_bytes bytes)))
ended_within None left left' front p p' before now so_far within next = tt
ended_within (Some script) None left' front p p' before now so_far within next = absurd so_far
ended_within (Some script) (Some left) None front p p' before now so_far within next = absurd next.1.consumed
ended_within (Some script) (Some left) (Some left') front p p' before now so_far within next = elim so_far [
  | inl under ↦
      let bytes = next.1.bytes in
      let beyond = next.1.beyond in
      let begun : List ℕ = p.ahead ++ bytes in
      let more : List ℕ = beyond ++ left' in
      let took : left ≡ bytes ++ more = next.1.consumed ∙ append_assoc bytes beyond left' in
      let all : script ≡ ended front ++ (begun ++ more) =
      taken_next script (ended front) p.ahead bytes left more under.1 took in
      let sizes : length (ended front) + length begun + length beyond ≡ most_bytes + 1 =
      omega (
        arith,
        under.2,
        next.1.count,
        next.1.all,
        length-append p.ahead bytes,
        length-append
            (ended front) p.ahead,
      ) in
      let long : most_bytes < length script =
      omega (
        arith,
        ap length all,
        length-append (ended front) (begun ++ more),
        length-append begun more,
        length-append beyond left',
        sizes,
      ) in
      let short : length (ended front) ≤ most_bytes =
      omega (arith, under.2, within, length-append (ended front) p.ahead) in
      (long, allowed_lines front begun beyond more script under.0 all sizes next.1.few short next.1.line.whole)
  | inr over ↦ absurd (omega (
    arith,
    over.3,
    within,
    next.1.count,
    next.1.all,
    ap length over.1,
    ap length next.1.consumed,
    length-append
        (next.1.bytes ++ next.1.beyond) left',
    length-append next.1.bytes next.1.beyond,
  ))
]
