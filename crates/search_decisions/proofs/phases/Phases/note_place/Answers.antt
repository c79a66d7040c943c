use Rattle.std.proofs.Common.{◌≡◌, ◌<◌, None, length, refl, rules}
use Rattle.search_decisions.specs.Phases.{choice_of}
use Rattle.search_decisions.proofs.PhaseFacts.{notes-set}
use Rattle.search_decisions.proofs.phases.Phases.note_place.Goals as goal

pub returns-then-number-len-clause-notes : goal.returns-then-number-len-clause-notes
returns-then-number-len-clause-notes c =
    let none : choice_of c.args.self.now c.args.var.0 ≡ None = search rules in
    let lt : c.args.var.0 < length c.args.self.now.choices.items = search rules in
    notes-set c.args.self.now c.args.var.0 c.args.place _ none lt refl
