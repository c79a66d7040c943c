use Rattle.std.proofs.Common.{◌≡◌, ℕ, Bool, List, [], sym, subst}
use Rattle.std.specs.Bool.{OnFalse}
use Rattle.lit_core.specs.declared.literals.Lit.{Lit}
use Rattle.conflict_analysis.specs.declared.refutations.Refuted.{Refuted}
use Rattle.conflict_analysis.specs.Resolvents.{IsOfStep}
use Rattle.conflict_analysis.specs.Tracing.{IsTracing}
use Rattle.conflict_analysis.proofs.Traced.{tracing-start, traced}
use Rattle.conflict_analysis.proofs.refutations.trace.Goals as goal

pub absorb-requires : goal.absorb-requires
absorb-requires c = record {
  clause = subst (λ (p : ℕ). IsOfStep c.args.store.now p c.args.clause)
      (sym c.new-resolvent.ensures.top_is) c.requires.clause;
}

pub loop-lits-init : goal.loop-lits-init
loop-lits-init c =
    subst (λ (ls : List Lit). IsTracing c.args.store.now c.args.end c.absorb.new.self ls) (sym c.new-lits.ensures.items)
    (tracing-start c.args.store.now c.requires.laws c.args.end c.args.clause c.new-resolvent.result c.absorb.new.self
    c.requires.clause c.new-resolvent.ensures c.in_ok-absorb.ensures.ok)

pub returns : goal.returns
returns c =
    let a : Refuted = record { lits = c.trace_last.new.decisions; hints = c.into_hints.result } in
    let none : c.trace_last.new.resolvent.upper ≡ [] = subst
    (λ (b : Bool). OnFalse b (c.trace_last.new.resolvent.upper ≡ [])) c.if-branch.false
    c.in_ok-trace_last.ensures.done in
    traced c.args.store.now c.requires.laws c.args.end c.trace_last.new.resolvent a c.in_ok-trace_last.ensures.tracing
    none c.into_hints.ensures
