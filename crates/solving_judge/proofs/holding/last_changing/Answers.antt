use Rattle.std.proofs.Common.{◌≡◌, refl, sym, ap, ◌∙◌, subst, length, not, true, slice_get, IfSome, List}
use Rattle.std.proofs.Common.{FitsSigned}
use Rattle.std.proofs.Common.{w64, to_z, of_z, rules, ℤ, Bool}
use Rattle.std.specs.Bool.{then_some}
use Rattle.std.proofs.lemmas.Bool.{not-true}
use Rattle.std.proofs.lemmas.Int.{to_z-of_z}
use Rattle.kb_logic.specs.declared.elements.ExtInt.TheVariants.{Num}
use Rattle.kb_logic.specs.declared.syntax.Cmp.TheVariants as cmp
use Rattle.kb_logic.specs.Denotations.{compared, number}
use Rattle.lit_core.specs.declared.literals.Lit.{Lit}
use Rattle.lit_core.specs.Literals.{valuation}
use Rattle.ground_core.specs.declared.parts.GroundTerm.{GroundTerm}
use Rattle.ground_core.specs.Meaning.{term_value}
use Rattle.ground_core.specs.Growth.{with_bound, with_exclusion}
use Rattle.ground_core.specs.Growing.{with_retired}
use Rattle.solving_judge.specs.declared.additions.Event.TheVariants.{Bound, Exclusion, Retired}
use Rattle.solving_judge.specs.Sayings.{changed, problem_said}
use Rattle.solving_judge.proofs.SuitFacts.{if-named, if-so, turned, bound-made, bound-back, exclusion-made}
use Rattle.solving_judge.proofs.SuitFacts.{exclusion-back, retired-made, retired-back}
use Rattle.solving_judge.proofs.holding.last_changing.Goals as goal

-- the term is below the number
abbrev IsUnder : List Bool → ℤ → GroundTerm → Type 0
IsUnder values z t = compared cmp.Lt (term_value (valuation values) t) (number z) ≡ true

pub returns-in-Bound-clause-last : goal.returns-in-Bound-clause-last
returns-in-Bound-clause-last c = λ given p len atoms terms is s.
    let values = c.args.values.now in
    let term = c.in-Bound.term in
    let below = c.in-Bound.below in
    let fits : FitsSigned w64 below = search rules in
    let right = c.is_term_below.ensures given in
    let turn : IfSome (slice_get (problem_said given c.args.said.now).terms term)
    (IsUnder values (to_z w64 (of_z w64 below))) ≡ IfSome (slice_get p.terms term) (IsUnder values below) =
    ap (λ z. IfSome (slice_get (problem_said given c.args.said.now).terms term) (IsUnder values z))
    (to_z-of_z w64 below fits)
    ∙ ap (λ ts. IfSome (slice_get ts term) (IsUnder values below)) (sym terms) in
    turned values (changed p) c.args.event.now (Bound term below) c.selected.result c.selected.result c.in-Bound.is refl
    (if-named values p (with_bound p term (Num below)) c.args.last
    (λ k. valuation values k ≡ true → c.is_term_below.result ≡ true) c.selected.result is c.selected.ensures refl
    (λ lt h. bound-made values p term (Num below) s lt (λ on. subst (λ (t : Type 0). t) turn (right.0 (h on))))
    (λ t on. right.1 (subst (λ (t : Type 0). t) (sym turn) ((bound-back values p term (Num below) t).1 on))))

pub returns-in-Exclusion-clause-last : goal.returns-in-Exclusion-clause-last
returns-in-Exclusion-clause-last c = λ given p len atoms terms is s.
    let values = c.args.values.now in
    let other = c.in-Exclusion.other in
    let right = c.differs.ensures p (ap length atoms ∙ len) in
    turned values (changed p) c.args.event.now (Exclusion other) c.selected-in-Exclusion.result
    c.selected-in-Exclusion.result c.in-Exclusion.is refl
    (if-named values p (with_exclusion p other) c.args.last (λ k. valuation values k ≡ true → c.differs.result ≡ true)
    c.selected-in-Exclusion.result is c.selected-in-Exclusion.ensures refl
    (λ lt h. exclusion-made values p other s lt (λ on. right.0 (h on)))
    (λ t on. right.1 ((exclusion-back values p other t).1 on)))

pub returns-in-Retired-clause-last : goal.returns-in-Retired-clause-last
returns-in-Retired-clause-last c = λ given p len atoms terms is s.
    let values = c.args.values.now in
    let var = c.in-Retired.var in
    let l : Lit = record { var = record { 0 = var }; positive = true } in
    turned values (changed p) c.args.event.now (Retired var) c.then_some.result
    (then_some (not c.is_set.result) c.args.last) c.in-Retired.is c.then_some.ensures
    (if-so values (with_retired p l) c.args.last (not c.is_set.result) is
    (λ t. retired-made values p l s (sym c.is_set.ensures ∙ not-true c.is_set.result t))
    (λ t. ap not (c.is_set.ensures ∙ (retired-back values p l t).1)))
