use Rattle.std.proofs.Common.{◌∙◌, refl, sym, subst}
use Rattle.kb_io.specs.Buffer.{IsUnderWay}
use Rattle.std.proofs.lemmas.Result.{err_from_is_err_and}
use Rattle.kb_io.proofs.Answering.{reads_none, reads_on, reads_more, no_line_ahead, answers_cut, answers_err}
use Rattle.kb_io.proofs.Answering.{answers_end, is_nothing}
use Rattle.kb_io.proofs.line_buffer.Buffer.next.Goals as goal

pub loop-next-init : goal.loop-next-init
loop-next-init g c = record {
  sound = c.requires;
  reads = reads_none c.args.self.now _ c.requires.line;
  faults = refl;
  still = λ _. refl;
}

pub returns-in-Some-clause-next : goal.returns-in-Some-clause-next
returns-in-Some-clause-next g c =
    let before = c.loop-next.invariant in
    answers_cut c.in-Some.next _ c.loop-next.self _ _ _ _ _ before.reads c.in-Some.ensures.answer
    c.in-Some.ensures.taken before.faults

pub returns-in_err-refill-clause-next : goal.returns-in_err-refill-clause-next
returns-in_err-refill-clause-next g c =
    let before = c.loop-next.invariant in
    let cut = c.in_default.ensures in
    let reads = reads_on _ c.loop-next.self c.cut.new.self _ _ before.reads cut.answer cut.taken in
    let p = err_from_is_err_and c.from_residual.result c.from_residual.ensures.1 in
    rw (p.1, p.2) (answers_err _ _ c.cut.new.self _ _ _ _ _ _ _ reads cut.answer.1 cut.answer.2
    c.in_err-refill.ensures.line c.in_err-refill.ensures.answer before.faults)

pub returns-in_err-refill-clause-still : goal.returns-in_err-refill-clause-still
returns-in_err-refill-clause-still g c =
    let before = c.loop-next.invariant in
    let cut = c.in_default.ensures in
    let reads = reads_on _ c.loop-next.self c.cut.new.self _ _ before.reads cut.answer cut.taken in
    λ some. absurd (no_line_ahead _ c.cut.new.self _ _ reads cut.answer.1 some)

pub returns-then-branch-eq0-clause-next : goal.returns-then-branch-eq0-clause-next
returns-then-branch-eq0-clause-next g c =
    let before = c.loop-next.invariant in
    let cut = c.in_default.ensures in
    let refill = c.in_ok-refill.ensures in
    let reads = reads_on _ c.loop-next.self c.cut.new.self _ _ before.reads cut.answer cut.taken in
    let more = reads_more _ c.cut.new.self c.refill.new.self _ _ _ _ _ _ reads cut.answer.1 refill.line refill.answer in
    answers_end c.finish_last.result _ c.refill.new.self c.finish_last.new.self _ _ _ _ more
    (is_nothing _ (refill.answer.1 ∙ c.if-branch-eq0.true)) (refill.answer.4 c.if-branch-eq0.true) (refill.answer.5
    ∙ before.faults)
    (subst IsUnderWay (sym refill.line) cut.answer.2)
    c.finish_last.ensures.answer

pub returns-then-branch-eq0-clause-still : goal.returns-then-branch-eq0-clause-still
returns-then-branch-eq0-clause-still g c =
    let before = c.loop-next.invariant in
    let cut = c.in_default.ensures in
    let reads = reads_on _ c.loop-next.self c.cut.new.self _ _ before.reads cut.answer cut.taken in
    λ some. absurd (no_line_ahead _ c.cut.new.self _ _ reads cut.answer.1 some)

pub loop-next-preserved : goal.loop-next-preserved
loop-next-preserved g c =
    let before = c.loop-next.invariant in
    let cut = c.in_default.ensures in
    let refill = c.in_ok-refill.ensures in
    let reads = reads_on _ c.loop-next.self c.cut.new.self _ _ before.reads cut.answer cut.taken in
    record {
      sound = refill.sound;
      reads = reads_more _ c.cut.new.self c.refill.new.self _ _ _ _ _ _ reads cut.answer.1 refill.line refill.answer;
      faults = refill.answer.5 ∙ before.faults;
      still = λ some. absurd (no_line_ahead _ c.cut.new.self _ _ reads cut.answer.1 some);
    }
