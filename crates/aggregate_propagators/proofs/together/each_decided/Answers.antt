use Rattle.std.proofs.Common.{◌≡◌, ◌+◌, ◌≤◌, int_lt, ℕ, Bool, pos, None, Some, All, List, [], ◌∷◌}
use Rattle.std.proofs.Common.{◌++◌, true, false, take, get_or, sym, ap, ◌∙◌, subst, arith}
use Rattle.std.proofs.lemmas.List.{take_all}
use Rattle.std.proofs.lemmas.List.Elements.{All-push}
use Rattle.lit_core.specs.declared.literals.Lit.{Lit}
use Rattle.ground_core.specs.declared.parts.Part.{Part}
use Rattle.ground_core.specs.declared.parts.AggCon.{AggCon}
use Rattle.ground_core.specs.Intervals.{known_of, IsOpenAt}
use Rattle.aggregate_propagators.specs.declared.movers.Mover.{Mover}
use Rattle.aggregate_propagators.specs.declared.single.End.{End}
use Rattle.aggregate_propagators.specs.Implied.{assigned, under, Follows}
use Rattle.aggregate_propagators.specs.Looking.{mover}
use Rattle.aggregate_propagators.specs.Spared.{short_clause_of}
use Rattle.aggregate_propagators.specs.Thresholds.{amount_of, constraint_of}
use Rattle.aggregate_propagators.proofs.Followed.{back-low, back-movers, count-within, decided-clause, follows-decided}
use Rattle.aggregate_propagators.proofs.Followed.{front-low, front-movers, none-here, none-more, some-more}
use Rattle.aggregate_propagators.proofs.ListFacts.{no_part}
use Rattle.aggregate_propagators.proofs.Moves.{count-more, count-same, one-if}
use Rattle.aggregate_propagators.proofs.Singles.{result-open}
use Rattle.aggregate_propagators.proofs.together.each_decided.Goals as goal

pub loop-part-preserved-in_default : goal.loop-part-preserved-in_default
loop-part-preserved-in_default c =
    let a = assigned c.args.values.now in
    let e : End = c.args.end in
    let ps : List Part = c.args.parts.now in
    let i : ℕ = c.loop-part.part-index in
    let con : AggCon = constraint_of e.of ps in
    let p : Part = get_or ps i no_part in
    let m : Mover = mover a e.high e.of.kind (amount_of e.of.least) p in
    let more = count-more e.high e.of.kind (amount_of e.of.least) a ps i no_part c.loop-part-test.true in
    let one : c.counted-count.result ≡ c.loop-part.count + one-if (int_lt (pos 0) m.by) =
    c.counted-count.ensures
    ∙ ap (λ (n : Mover). c.loop-part.count + one-if (int_lt (pos 0) n.by)) c.mover_of.ensures.value
    in (
      c.loop-part.invariant.0,
      none-more (λ (q : Part). IsOpenAt a con q.lit) ps i no_part c.loop-part-test.true c.loop-part.clauses
          c.loop-part.invariant.1 c.in_default.ensures.none,
      one ∙ (ap (λ n. n + one-if (int_lt (pos 0) m.by)) c.loop-part.invariant.2 ∙ sym more),
      at-most (int_lt (pos 0) m.by) c.loop-part.count i c.counted-count.result one c.loop-part.invariant.3,
    )
  where
    at-most : (t : Bool) (n i k : ℕ) → k ≡ n + one-if t → n ≤ i → k ≤ i + 1
    at-most true n i k e h = omega (arith, e, h)
    at-most false n i k e h = omega (arith, e, h)

pub split_at-requires : goal.split_at-requires
split_at-requires c =
    let a = assigned c.args.values.now in
    let p : Part = get_or c.args.parts.now c.loop-part.part-index no_part in
    count-within a c.args.end c.args.parts.now c.loop-part.part-index no_part c.loop-part-test.true
    (none-here a c.in-Some.lit p.lit c.in-Some.ensures.var c.in-Some.ensures.some.0.unassigned) c.loop-part.count
    c.loop-part.invariant.2 c.as_slice.result.now (c.as_slice.ensures.value ∙ c.in_ok-movers.ensures)

pub clause_at-requires-clause-before : goal.clause_at-requires-clause-before
clause_at-requires-clause-before c =
    let a = assigned c.args.values.now in
    let p : Part = get_or c.args.parts.now c.loop-part.part-index no_part in
    front-low a c.args.end c.args.parts.now c.loop-part.part-index no_part c.loop-part-test.true
    (none-here a c.in-Some.lit p.lit c.in-Some.ensures.var c.in-Some.ensures.some.0.unassigned) c.loop-part.count
    c.loop-part.invariant.2 c.as_slice.result.now (c.as_slice.ensures.value ∙ c.in_ok-movers.ensures)
    c.split_at.result.0.now c.split_at.ensures.front

pub clause_at-requires-clause-after : goal.clause_at-requires-clause-after
clause_at-requires-clause-after c =
    let a = assigned c.args.values.now in
    let p : Part = get_or c.args.parts.now c.loop-part.part-index no_part in
    back-low a c.args.end c.args.parts.now c.loop-part.part-index no_part c.loop-part-test.true
    (none-here a c.in-Some.lit p.lit c.in-Some.ensures.var c.in-Some.ensures.some.0.unassigned) c.loop-part.count
    c.loop-part.invariant.2 c.as_slice.result.now (c.as_slice.ensures.value ∙ c.in_ok-movers.ensures)
    c.split_at.result.1.now c.split_at.ensures.back

pub loop-part-preserved : goal.loop-part-preserved
loop-part-preserved c =
    let xs = c.args.values.now in
    let a = assigned xs in
    let e : End = c.args.end in
    let ps : List Part = c.args.parts.now in
    let i : ℕ = c.loop-part.part-index in
    let lt = c.loop-part-test.true in
    let p : Part = get_or ps i no_part in
    let con : AggCon = constraint_of e.of ps in
    let l : Lit = c.in-Some.lit in
    let none : known_of a p.lit ≡ None = none-here a l p.lit c.in-Some.ensures.var
    c.in-Some.ensures.some.0.unassigned in
    let is = c.as_slice.ensures.value ∙ c.in_ok-movers.ensures in
    let le = c.loop-part.invariant.3 in
    let cl : List Lit = c.in_ok-clause.clause in
    let clause : cl ≡ short_clause_of (under a (Some l)) con =
    decided-clause a ps e c.moved_end-moved.result i no_part c.requires.end c.requires.once lt none
    c.moved_end-moved.ensures.of c.moved_end-moved.ensures.high l c.value_under.result c.split_at.result.0.now
    c.split_at.result.1.now c.mover_of-own.result cl c.in-Some.ensures.var c.value_under.ensures
    c.moved_end-moved.ensures.sum
    (c.split_at.ensures.front ∙ front-movers a e ps i no_part lt none c.loop-part.count c.loop-part.invariant.2
    c.as_slice.result.now is) c.mover_of-own.ensures.value
    (c.split_at.ensures.back ∙ back-movers a e ps i no_part lt none c.loop-part.count c.loop-part.invariant.2
    c.as_slice.result.now is) c.in_ok-clause.ensures in
    let pushed : c.push.new.self ≡ c.loop-part.clauses ++ cl ∷ [] = c.in_ok-push.ensures.ok
    ∙ ap (λ (z : List Lit). c.loop-part.clauses ++ z ∷ []) c.as_slice-in-loop-part.ensures in (
      subst (All (Follows xs con)) (sym pushed)
          (All-push (Follows xs con) c.loop-part.clauses cl c.loop-part.invariant.0
          (follows-decided xs con l cl clause c.in-Some.ensures.some.0)),
      some-more (λ (q : Part). IsOpenAt a con q.lit) ps i no_part lt c.loop-part.clauses cl c.push.new.self pushed
          c.in-Some.ensures.some.1,
      c.loop-part.invariant.2
          ∙ sym (count-same e.high e.of.kind (amount_of e.of.least) a ps i no_part lt none),
      omega (arith, le),
    )

pub returns-clause-none : goal.returns-clause-none
returns-clause-none c =
    let a = assigned c.args.values.now in
    let con : AggCon = constraint_of c.args.end.of c.args.parts.now in
    let O : Part → Type 0 = λ (p : Part). IsOpenAt a con p.lit in
    let all : take c.loop-part.part-index c.args.parts.now ≡ c.args.parts.now =
    take_all c.loop-part.part-index c.args.parts.now (omega (arith, c.loop-part-test.false)) in (
      λ f. (result-open a con c.args.end.high c.requires.end.out, subst (All O) all (c.loop-part.invariant.1.0 f)),
      λ h. c.loop-part.invariant.1.1 (subst (All O) (sym all) h.1),
    )
