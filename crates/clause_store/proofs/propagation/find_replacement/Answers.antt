use Rattle.std.proofs.Common.{arith}
use Rattle.std.proofs.lemmas.Grind.{elements}
use Rattle.std.proofs.Common.{◌≡◌, ◌⊎◌, ◌++◌, ℕ, Bool, Option, None, Some, List, false, sym, subst}
use Rattle.std.proofs.lemmas.List.Elements.{All-append}
use Rattle.lit_core.specs.declared.literals.Lit.{Lit}
use Rattle.lit_core.specs.Literals.{value_in}
use Rattle.clause_base.proofs.ListFacts.{slice_get-append_left}
use Rattle.clause_store.specs.Visits.{ReplacesAt}
use Rattle.clause_store.proofs.propagation.find_replacement.Goals as goal

-- where nothing was found from a place on, what is found before it is what is found at all
round : (a : List (Option Bool)) (before after : List Lit) (other : Lit) (o : Option ℕ) → ReplacesAt a after other None
    → ReplacesAt a before other o → ReplacesAt a (before ++ after) other o
round a before after other None none h = All-append (λ m. (m ≡ other) ⊎ (value_in a m ≡ Some false)) before after h none
round a before after other (Some place) none h = (h.0, slice_get-append_left before after place h.0 h.1, h.2, h.3)

pub returns-in-None : goal.returns-in-None
returns-in-None c =
    let a = c.args.assignment.now in
    let both = round a c.split_at.result.0.now c.split_at.result.1.now c.args.other c.find_in-in-None.result
    c.in-None.ensures c.find_in-in-None.ensures in
    subst (λ (xs : List Lit). ReplacesAt a xs c.args.other c.find_in-in-None.result)
    (sym c.split_at.ensures.by_index.0) both

pub overflow_add-result : goal.overflow_add-result
overflow_add-result c = grind (arith, elements)

pub returns-in-Some : goal.returns-in-Some
returns-in-Some c = grind (arith, elements)
