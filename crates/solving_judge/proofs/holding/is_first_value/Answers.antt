use Rattle.std.proofs.Common.{refl, sym, ap, ◌∙◌, subst}
use Rattle.std.specs.Option.{option_map}
use Rattle.lit_core.specs.Literals.{valuation}
use Rattle.ground_core.specs.Meaning.{term_value}
use Rattle.solving_judge.specs.Sayings.{problem_said, IsFirstValue}
use Rattle.solving_judge.specs.Totals.{denoted}
use Rattle.solving_judge.proofs.TermFacts.{no-first}
use Rattle.solving_judge.proofs.holding.is_first_value.Goals as goal

pub returns-in-None-None : goal.returns-in-None-None
returns-in-None-None c = λ atoms.
    let v = valuation c.args.values.now in
    let p = problem_said atoms c.args.said.now in
    let none = no-first (term_value v) p.terms (ap (option_map denoted) (sym c.in-None-None.is-0)
    ∙ c.total_at.ensures atoms) in
    (λ _. subst (IsFirstValue p v) (sym c.in-None-None.is-1) none, λ _. refl)
