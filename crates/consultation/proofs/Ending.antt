-- How the answers to the commands go on and end.
use Rattle.std.proofs.Common.{◌≡◌, ℕ, ◌+◌, ◌-◌, ◌<◌, ◌≤◌, ◌++◌, List, ◌∷◌, [], length, refl, sym, ◌∙◌, ap, subst, arith}
use Rattle.std.proofs.Common.{length-append, Bool, true, false, Option, Some, None, Ok, Err, inl, inr}
use Rattle.kb_io.specs.Outside.{Rose}
use Rattle.kb_io.specs.Pending.{Pending, TakesLine, most_bytes}
use Rattle.kb_logic.specs.Bases.{Base}
use Rattle.consult_base.specs.Opened.{base_of}
use Rattle.consult_text.specs.States.{State, first_state}
use Rattle.consultation.specs.Answering.{AnswersCommands}
use Rattle.consultation.specs.Answers.{AnswersTo, IsPrintedInPart, IsStatedInPart}
use Rattle.consultation.specs.Streams.{IfObservable, Streams, held_by, IsWithoutFault}
use Rattle.consultation.specs.Turns.{ConsultantState, IsJustOpened, Turns}
use Rattle.consultation.specs.declared.stop.Stop.{Stop}
use Rattle.consultation.specs.declared.stop.Stop.TheVariants as stop
use Rattle.consultation.proofs.Answered.{answers_none, answers_more}
use Rattle.consultation.proofs.Progress.{Given, EndedWithin, none_given, line_given, some_given, next_given, all_given}
use Rattle.consultation.proofs.Progress.{ended_given, ended_within}

-- the lines that were given are answered
pub record IsSoFar (logs : Bool) (kb : Base) (first s : State) (number : ℕ) (p : Pending)
    (before now : Streams) : Type 0 where
  pub within : p.taken ≤ most_bytes
  pub faults : IsWithoutFault before now
  pub lines : List (List ℕ)
  pub count : number ≡ length lines
  pub room : number + length p.ahead ≤ p.taken
  pub answered : AnswersTo logs kb first lines s (held_by before) (held_by now)
  pub given : Given before.script now.script lines p

begins : (logs : Bool) (kb : Base) (first : State) (before : Streams)
    → IsSoFar logs kb first first 0 (record { taken = 0; ahead = []; line = [] }) before before
begins logs kb first before = record {
  within = omega arith;
  faults = record { script = refl; out = refl; log = refl };
  lines = [];
  count = refl;
  room = omega arith;
  answered = answers_none logs kb first (held_by before);
  given = none_given before.script;
}

-- a consultant that was just opened begins so
pub began : (c : ConsultantState) (before : Streams) → IsJustOpened c
    → IsSoFar c.logs (base_of c.kb) (first_state c.state.budget) c.state c.number c.lines before before
began c before is =
    let kb : Base = base_of c.kb in
    let first : State = first_state c.state.budget in
    subst (λ (s : State). IsSoFar c.logs kb first s c.number c.lines before before) (sym is.state)
    (subst (λ (n : ℕ). IsSoFar c.logs kb first first n c.lines before before) (sym is.number)
    (subst (λ (p : Pending). IsSoFar c.logs kb first first 0 p before before) (sym is.lines)
    (begins c.logs kb first before)))

no_fault : (before mid now : Streams) → IsWithoutFault before mid → IsWithoutFault mid now → IsWithoutFault before now
no_fault before mid now first second = record {
  script = second.script ∙ first.script;
  out = second.out ∙ first.out;
  log = second.log ∙ first.log;
}

-- each line has a byte, or a newline after it
takes_room : (line : List ℕ) (number : ℕ) (p p' : Pending) (left left' : Option (List ℕ))
    → number + length p.ahead ≤ p.taken → TakesLine line p p' left left' → number + 1 + length p'.ahead ≤ p'.taken
takes_room line number p p' left left' room takes =
    let both = length-append p.ahead takes.bytes in
    elim takes.cut.1 [
      | inl ends ↦ omega (arith, room, takes.count, both, ap length ends, length-append line (10 ∷ p'.ahead))
      | inr last ↦ omega (arith, room, takes.count, both, ap length last.0, last.1, ap length last.2)
    ]

-- a line more
pub goes_on : (logs logs' : Bool) (kb kb' : Base) (first s t : State) (number number' : ℕ) (p p' : Pending)
    (before mid now : Streams) → logs' ≡ logs → kb' ≡ kb → number' ≡ number + 1
    → IsSoFar logs kb first s number p before mid → Turns (Ok true) logs' kb' (number + 1) s t p p' mid now
    → IsSoFar logs kb first t number' p' before now
goes_on logs logs' kb kb' first s t number number' p p' before mid now same_logs same_kb counted so_far turned =
    let at_kb = subst (λ (k : Base). Turns (Ok true) logs' k (number + 1) s t p p' mid now) same_kb turned in
    let turn = subst (λ (b : Bool). Turns (Ok true) b kb (number + 1) s t p p' mid now) same_logs at_kb in
    let line = turn.1.0 in
    let takes = turn.1.1 in
    let room = takes_room line number p p' mid.script now.script so_far.room takes in
    record {
      within = omega (arith, so_far.within, takes.within);
      faults = no_fault before mid now so_far.faults turn.0;
      lines = so_far.lines ++ line ∷ [];
      count = omega (arith, counted, so_far.count, length-append so_far.lines (line ∷ []));
      room = omega (arith, counted, room);
      answered = answers_more logs kb first (number + 1) so_far.lines line s t (held_by before) (held_by mid)
          (held_by now) (omega (arith, so_far.count)) so_far.answered turn.1.2;
      given = line_given before.script mid.script now.script so_far.lines line p p' so_far.given takes;
    }

map_told : (o : Option (List ℕ)) (P Q : List ℕ → Type 0) → ((bytes : List ℕ) → P bytes → Q bytes) → IfObservable o P
    → IfObservable o Q
map_told None P Q f is = tt
map_told (Some bytes) P Q f is = f bytes is

module _ (logs : Bool) (kb : Base) (first s : State) (number : ℕ) (p p' : Pending) (before mid now : Streams)
    (so_far : IsSoFar logs kb first s number p before mid) where
  -- what was answered so far, where nothing was written since
  still : held_by now ≡ held_by mid → AnswersTo logs kb first so_far.lines s (held_by before) (held_by now)
  still same = subst (AnswersTo logs kb first so_far.lines s (held_by before)) (sym same) so_far.answered

  -- and on lines that are these
  still_on : (lines : List (List ℕ)) → held_by now ≡ held_by mid → so_far.lines ≡ lines
      → AnswersTo logs kb first lines s (held_by before) (held_by now)
  still_on lines same are =
      subst (λ (ls : List (List ℕ)). AnswersTo logs kb first ls s (held_by before) (held_by now)) are (still same)

  -- no line is left
  done : (t : State) → Turns (Ok false) logs kb (number + 1) s t p p' mid now
      → AnswersCommands logs (Ok tt) kb first before now
  done t turn = (
    (
      record {
        script = turn.ends.0 ∙ so_far.faults.script;
        out = turn.out_faults ∙ so_far.faults.out;
        log = turn.log_faults ∙ so_far.faults.log;
      },
      turn.ends.1.at_end,
    ),
    map_told before.script _ _ (λ bytes given. (given.0, (s, still_on _ turn.held (sym given.1))))
        (all_given before.script mid.script now.script so_far.lines p p' mid.script_faults now.script_faults
        so_far.given so_far.within turn.ends),
  )

  -- the answers end early
  early : (why : Stop) (t : State) → Turns (Err why) logs kb (number + 1) s t p p' mid now
      → AnswersCommands logs (Err why) kb first before now
  early stop.ReadFault t turn = (
    (
      subst (λ n. Rose n now.script_faults) so_far.faults.script turn.ends.1,
      turn.out_faults ∙ so_far.faults.out,
      turn.log_faults ∙ so_far.faults.log,
    ),
    map_told before.script _ _ (λ bytes (given : EndedWithin bytes now.script so_far.lines). record {
      taken = given.taken;
      consumed = given.consumed;
      within = given.within;
      lines = so_far.lines;
      ended = given.ended;
      answered = (s, still turn.held);
    }) (ended_given before.script mid.script now.script so_far.lines p p' mid.script_faults now.script_faults
        so_far.given so_far.within turn.ends),
  )
  early stop.WriteFault t turn = (
    (
      turn.0.0 ∙ so_far.faults.script,
      subst (λ n. Rose n now.out_faults) so_far.faults.out turn.0.1,
      turn.0.2 ∙ so_far.faults.log,
    ),
    map_told before.script _ _ (λ bytes given. record {
      front = so_far.lines;
      line = turn.1.0;
      rest = given.0;
      parts = given.1;
      state = s;
      mid = held_by mid;
      answered = so_far.answered;
      begun = subst (λ n. IsPrintedInPart logs kb n s turn.1.0 (held_by mid) (held_by now))
          (ap (λ n. n + 1) so_far.count) turn.1.2;
    }) (next_given before.script mid.script now.script so_far.lines turn.1.0 p p' so_far.given so_far.within turn.1.1),
  )
  early stop.LogFault t turn = (
    (
      turn.0.0,
      turn.0.1 ∙ so_far.faults.script,
      turn.0.2 ∙ so_far.faults.out,
      subst (λ n. Rose n now.log_faults) so_far.faults.log turn.0.3,
    ),
    map_told before.script _ _ (λ bytes given. record {
      front = so_far.lines;
      line = turn.1.0;
      rest = given.0;
      parts = given.1;
      state = s;
      mid = held_by mid;
      answered = so_far.answered;
      begun = subst (λ n. IsStatedInPart kb n s turn.1.0 (held_by mid) (held_by now))
          (ap (λ n. n + 1) so_far.count) turn.1.2;
    }) (next_given before.script mid.script now.script so_far.lines turn.1.0 p p' so_far.given so_far.within turn.1.1),
  )
  early stop.Memory t turn = (
    no_fault before mid now so_far.faults turn.0,
    map_told before.script _ _ (λ bytes given. record {
      front = so_far.lines;
      rest = given.0;
      parts = given.1;
      answered = (s, still turn.1);
    }) (some_given before.script mid.script so_far.lines p so_far.given so_far.within),
  )
  early stop.ScriptTooLong t turn = (
    record {
      script = turn.ends.0 ∙ so_far.faults.script;
      out = turn.out_faults ∙ so_far.faults.out;
      log = turn.log_faults ∙ so_far.faults.log;
    },
    map_told before.script _ _ (λ bytes given. (given.0, (s, still_on _ turn.held given.1)))
        (ended_within before.script mid.script now.script so_far.lines p p' mid.script_faults now.script_faults
        so_far.given so_far.within turn.ends),
  )

-- no line is left
pub ends_done : (logs logs' : Bool) (kb kb' : Base) (first s t : State) (number : ℕ) (p p' : Pending)
    (before mid now : Streams) → logs' ≡ logs → kb' ≡ kb → IsSoFar logs kb first s number p before mid
    → Turns (Ok false) logs' kb' (number + 1) s t p p' mid now → AnswersCommands logs (Ok tt) kb first before now
ends_done logs logs' kb kb' first s t number p p' before mid now same_logs same_kb so_far turned =
    let at_kb = subst (λ (k : Base). Turns (Ok false) logs' k (number + 1) s t p p' mid now) same_kb turned in
    done logs kb first s number p p' before mid now so_far t
    (subst (λ (b : Bool). Turns (Ok false) b kb (number + 1) s t p p' mid now) same_logs at_kb)

-- the answers end early
pub ends_early : (why : Stop) (logs logs' : Bool) (kb kb' : Base) (first s t : State) (number : ℕ) (p p' : Pending)
    (before mid now : Streams) → logs' ≡ logs → kb' ≡ kb → IsSoFar logs kb first s number p before mid
    → Turns (Err why) logs' kb' (number + 1) s t p p' mid now → AnswersCommands logs (Err why) kb first before now
ends_early why logs logs' kb kb' first s t number p p' before mid now same_logs same_kb so_far turned =
    let at_kb = subst (λ (k : Base). Turns (Err why) logs' k (number + 1) s t p p' mid now) same_kb turned in
    early logs kb first s number p p' before mid now so_far why t
    (subst (λ (b : Bool). Turns (Err why) b kb (number + 1) s t p p' mid now) same_logs at_kb)

-- a line that is taken leaves less to take
pub takes_some : (line : List ℕ) (p p' : Pending) (left left' : Option (List ℕ)) → p.taken ≤ most_bytes
    → TakesLine line p p' left left' → most_bytes + length p'.ahead - p'.taken < most_bytes + length p.ahead - p.taken
takes_some line p p' left left' within takes =
    let both = length-append p.ahead takes.bytes in
    elim takes.cut.1 [
      | inl ends ↦ omega (
        arith,
        within,
        takes.count,
        takes.within,
        both,
        ap length ends,
        length-append line
            (10 ∷ p'.ahead),
      )
      | inr last ↦ omega (arith, within, takes.count, takes.within, both, ap length last.0, last.1, ap length last.2)
    ]
