use Rattle.std.proofs.Common.{◌≡◌, ◌<◌, length, take, ap, ◌∙◌, arith, false, sym}
use Rattle.std.proofs.lemmas.Bool.{both_ways}
use Rattle.std.proofs.lemmas.List.{take_all}
use Rattle.std.proofs.lemmas.List.Elements.{All-more, All-same}
use Rattle.lit_core.specs.declared.literals.Lit.{Lit}
use Rattle.lit_core.specs.Literals.{negated}
use Rattle.clause_store.specs.TrailLaws.{IsFixed}
use Rattle.solving_call_tests.proofs.use_of_store.may_push.Goals as goal

abbrev some_literal : Lit
some_literal = record { var = record { 0 = 0 }; positive = false }

pub loop-lit-preserved : goal.loop-lit-preserved
loop-lit-preserved c =
    let s = c.args.store.now in
    let xs = c.args.lits.now in
    let i = c.loop-lit.lit-index in
    let len : c.len.result ≡ length s.trail.values = c.len.ensures ∙ ap length c.assignment.ensures.value in (
      All-more (λ (l : Lit). l.var.0 < length s.trail.values) xs i some_literal c.loop-lit-test.true
          c.loop-lit.invariant.0 (omega arith),
      All-more (λ (l : Lit). IsFixed s.trail (negated l) → ⊥) xs i some_literal c.loop-lit-test.true
          c.loop-lit.invariant.1 (λ f. both_ways c.is_opposed.result c.if-is_opposed.false (c.is_opposed.ensures f)),
    )

pub returns-clause-in_range : goal.returns-clause-in_range
returns-clause-in_range c t = All-same (λ (l : Lit). l.var.0 < length c.args.store.now.trail.values) c.args.lits.now
    (take c.loop-lit.lit-index c.args.lits.now) (sym (take_all c.loop-lit.lit-index c.args.lits.now
    c.loop-lit-test.false)) c.loop-lit.invariant.0

pub returns-clause-unopposed : goal.returns-clause-unopposed
returns-clause-unopposed c t = All-same (λ (l : Lit). IsFixed c.args.store.now.trail (negated l) → ⊥) c.args.lits.now
    (take c.loop-lit.lit-index c.args.lits.now) (sym (take_all c.loop-lit.lit-index c.args.lits.now
    c.loop-lit-test.false)) c.loop-lit.invariant.1
