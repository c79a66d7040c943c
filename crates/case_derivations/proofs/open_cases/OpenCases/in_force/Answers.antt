use Rattle.std.proofs.Common.{rules, ◌∙◌, ◌++◌, ap, map}
use Rattle.std.proofs.lemmas.List.{take_all}
use Rattle.case_derivations.specs.declared.open_cases.Case.{Case}
use Rattle.case_derivations.proofs.Standing.{in-force-reversed}
use Rattle.case_derivations.proofs.open_cases.OpenCases.in_force.Goals as goal

pub returns : goal.returns
returns c =
    let items = c.self.inside.list.items in
    rw (← c.self.view_is) (search rules ∙ ap (λ xs. c.args.lits.now ++ map (λ (k : Case). k.lit) xs)
    (take_all c.loop-case.case-index items (search rules)) ∙ in-force-reversed c.args.lits.now items)
