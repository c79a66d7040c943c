use Rattle.std.proofs.Common.{◌⊎◌, Bool, Option, Some, List, sym, ap, ◌∙◌, subst}
use Rattle.std.proofs.lemmas.List.Elements.{All-weaker}
use Rattle.std.proofs.lemmas.Option.{slice_get-get_or}
use Rattle.lit_core.specs.declared.literals.Lit.{Lit}
use Rattle.lit_core.specs.Truth.{IsFalsified, IsUnitAt}
use Rattle.ground_core.specs.declared.parts.AggCon.{AggCon}
use Rattle.aggregate_propagators.specs.Implied.{Follows}
use Rattle.sum_ledger.specs.Asking.{IsImpliedAt}
use Rattle.sum_ledger.proofs.ledger.Ledger.ask_one.Goals as goal

pub returns-clause-all : goal.returns-clause-all
returns-clause-all c =
    let s : AggCon = c.index-sums-place.result in
    let xs = c.assignment-values.result.now in
    All-weaker (Follows xs s) (IsImpliedAt c.args.sums.now c.args.store.now.trail.values c.args.place)
    (λ cl f. record {
      acts = subst (λ (ys : List (Option Bool)). IsFalsified ys cl ⊎ ((l : Lit) × IsUnitAt ys cl l))
          c.assignment-values.ensures.value f.acts;
      sum = s;
      there = slice_get-get_or c.args.sums.now c.args.place s c.if-place-sums.false
          ∙ ap Some (sym c.index-sums-place.is);
      by = record { holds = f.holds; variables = f.variables };
    }) c.in_ok-clauses.clauses c.in_ok-clauses.ensures.each
