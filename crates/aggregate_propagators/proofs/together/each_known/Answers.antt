use Rattle.std.proofs.Common.{◌≡◌, ◌↔◌, ◌∷◌, [], true, false, List, sym, ◌∙◌}
use Rattle.std.proofs.lemmas.Result.{IfOk-weaker}
use Rattle.lit_core.specs.declared.literals.Lit.{Lit}
use Rattle.ground_core.specs.declared.parts.AggCon.{AggCon}
use Rattle.ground_core.specs.Intervals.{contradicts, IsQuiet}
use Rattle.aggregate_propagators.specs.Implied.{assigned, AreOpen, Follows}
use Rattle.aggregate_propagators.specs.Thresholds.{constraint_of}
use Rattle.aggregate_propagators.proofs.Deciding.{apart, quiet-open}
use Rattle.aggregate_propagators.proofs.Followed.{follows-alone, follows-now, not-alone, open-quiet}
use Rattle.aggregate_propagators.proofs.Looks.{wrong-now}
use Rattle.aggregate_propagators.proofs.together.each_known.Goals as goal
use Rattle.std.proofs.Common.{All}

pub returns-then-not-is_wrong-clause-none : goal.returns-then-not-is_wrong-clause-none
returns-then-not-is_wrong-clause-none c =
    let a = assigned c.args.values.now in
    let con : AggCon = constraint_of c.args.end.of c.args.parts.now in
    let fine : contradicts a con ≡ false = sym (wrong-now a c.args.parts.now c.args.end c.requires.end)
    ∙ (sym c.is_wrong.ensures ∙ c.if-not-is_wrong.true) in
    IfOk-weaker c.each_decided.result (λ cls. (cls ≡ []) ↔ AreOpen a con) (λ cls. (cls ≡ []) ↔ IsQuiet a con)
    (λ cls h. (λ e. open-quiet a con fine (h.0 e), λ q. h.1 (quiet-open a con q))) c.each_decided.ensures.none

module _ (c : goal.Joined-clause) where
  abbrev con : AggCon
  con = constraint_of c.args.end.of c.args.parts.now

  abbrev cl : List Lit
  cl = c.in_ok-clause.clause

  now-wrong : contradicts (assigned c.args.values.now) con ≡ true
  now-wrong = sym (wrong-now (assigned c.args.values.now) c.args.parts.now c.args.end c.requires.end)
      ∙ (sym c.is_wrong.ensures ∙ c.if-not-is_wrong.false)

pub returns-clause-each : goal.returns-clause-each
returns-clause-each c =
    let xs = c.args.values.now in
    IfOk-weaker c.alone.result (λ cls. cls ≡ cl c ∷ []) (All (Follows xs (con c)))
    (λ cls e. follows-alone xs (con c) (cl c) cls e
    (follows-now xs (con c) (cl c) c.in_ok-clause.ensures (now-wrong c)))
    c.alone.ensures

pub returns-clause-none : goal.returns-clause-none
returns-clause-none c =
    let a = assigned c.args.values.now in
    IfOk-weaker c.alone.result (λ cls. cls ≡ cl c ∷ []) (λ cls. (cls ≡ []) ↔ IsQuiet a (con c))
    (λ cls e. not-alone (IsQuiet a (con c)) (cl c) cls e (λ q. apart (contradicts a (con c)) (now-wrong c) q.fine))
    c.alone.ensures
