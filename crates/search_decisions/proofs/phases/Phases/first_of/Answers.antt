use Rattle.std.proofs.Common.{◌≡◌, ℕ, ◌≤◌, ◌<◌, All, Any, inr, ⊎_elim, get_or, length, refl, subst, sym, ◌∙◌, take}
use Rattle.std.proofs.Common.{arith, rules}
use Rattle.std.proofs.lemmas.List.{get_or_default, take_all}
use Rattle.std.proofs.lemmas.List.Elements.{All-more}
use Rattle.lit_core.specs.declared.literals.Lit.{Lit}
use Rattle.lit_core.specs.declared.literals.Var.{Var}
use Rattle.search_decisions.specs.Phases.{IsOpen, times_seen}
use Rattle.search_decisions.proofs.phases.Phases.first_of.Goals as goal
use Rattle.search_decisions.proofs.phases.Phases.first_of.Goals.{then-is_better, else-is_better}

pub loop-lit-preserved : goal.loop-lit-preserved
loop-lit-preserved c =
    let i = c.loop-lit.lit-index in
    let s = c.args.self.now in
    let lt : i < length c.args.clause.now = search rules in
    let d : Lit = c.lit-item.result in
    let x : Lit = c.lit.result in
    let same : get_or c.args.clause.now i d ≡ x = sym (c.lit.ensures.value ∙ c.lit-item.is) in
    let NoLess : ℕ → Lit → Type 0 = λ v m. IsOpen c.args.assignment.now m.var.0
    → times_seen s v ≤ times_seen s m.var.0 in
    elim c.if-is_better.branch [
      | then-is_better w ↦
          let better : IsOpen c.args.assignment.now x.var.0 × (times_seen s x.var.0 ≤ times_seen s c.loop-lit.first.0) =
          c.is_better.ensures.better w.if-is_better.true in
          let less : times_seen s x.var.0 ≤ times_seen s c.loop-lit.first.0 = better.1 in
          rw w.first-is (record {
            among = inr (i, x, lt, sym (get_or_default c.args.clause.now i d x lt) ∙ same, refl);
            least = All-more (NoLess x.var.0) c.args.clause.now i d lt (λ k e below is. let more =
                c.loop-lit.invariant.least k e below is in omega (arith, less, more))
                (subst (NoLess x.var.0) (sym same) (λ _. omega arith));
            open_or = inr better.0;
          })
      | else-is_better w ↦
          rw w.first-is (record {
            among = c.loop-lit.invariant.among;
            least = All-more (NoLess c.loop-lit.first.0) c.args.clause.now i d lt c.loop-lit.invariant.least
                (subst (NoLess c.loop-lit.first.0) (sym same) (c.is_better.ensures.not w.if-is_better.false));
            open_or = c.loop-lit.invariant.open_or;
          })
    ]

pub returns-clause-least : goal.returns-clause-least
returns-clause-least c = λ has.
    let whole : take c.loop-lit.lit-index c.args.clause.now ≡ c.args.clause.now =
    take_all c.loop-lit.lit-index c.args.clause.now (search rules) in
    record {
      among = ⊎_elim (λ same. subst (λ (v : Var). Any (λ l. l.var.0 ≡ v.0) c.args.clause.now) (sym same) has)
          (λ among. among) c.loop-lit.invariant.among;
      least = subst (λ ls. All (λ m. IsOpen c.args.assignment.now m.var.0
          → times_seen c.args.self.now c.loop-lit.first.0 ≤ times_seen c.args.self.now m.var.0) ls) whole
          c.loop-lit.invariant.least;
    }
