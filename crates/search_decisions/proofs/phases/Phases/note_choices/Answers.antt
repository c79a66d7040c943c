use Rattle.std.proofs.Common.{◌≡◌, ◌≤◌, ◌<◌, [], All, Any, length, get_or, subst, true, rules}
use Rattle.search_decisions.specs.Phases.{Notes}
use Rattle.search_decisions.proofs.PhaseFacts.{notes-choice, notes-no_choice}
use Rattle.search_decisions.proofs.phases.Phases.note_choices.Goals as goal
use Rattle.search_decisions.proofs.phases.Phases.note_choices.Goals.{then-is_choice, else-is_choice}

pub loop-place-preserved : goal.loop-place-preserved
loop-place-preserved c =
    let p = c.args.problem.now in
    let place = c.loop-place.place in
    let later : c.args.from ≤ place = search rules in
    let stands : place < length p.clauses = search rules in
    elim c.if-is_choice.branch [
      | then-is_choice w ↦
          let atoms : All (λ l. (l.positive ≡ true) × (l.var.0 ≤ length p.atoms)) (get_or p.clauses place []) =
          search rules in
          let noted = subst (λ ls. Notes (λ v k. Any (λ l. l.var.0 ≡ v) ls × (k ≡ place)) c.loop-place.self
          w.note_choice.new.self) c.clause-clause.ensures w.note_choice.ensures.notes in
          rw w.self-is (record {
            same = search rules;
            notes = notes-choice p c.args.from place later stands atoms
                c.loop-place.invariant.notes noted;
          })
      | else-is_choice w ↦
          let none : All (λ l. (l.positive ≡ true) × (l.var.0 ≤ length p.atoms)) (get_or p.clauses place []) → ⊥ =
          search rules in
          rw w.self-is (record {
            same = search rules;
            notes = notes-no_choice p c.args.from place none
                c.loop-place.invariant.notes;
          })
    ]
