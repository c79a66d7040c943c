use Rattle.std.proofs.Common.{◌≡◌, ◌<◌, ◌≤◌, ◌++◌, List, [], true, false, length, get_or, fold, IfOk, OnOk, Some, None}
use Rattle.std.proofs.Common.{ℤ, pos, w64, to_z, of_z, sym, ap, subst, ◌∙◌, arith, rules}
use Rattle.kb_logic.specs.declared.elements.Elem.{Elem}
use Rattle.plain_evaluation.specs.Environments.{env_view}
use Rattle.kb_logic.specs.Structures.{choices}
use Rattle.kb_logic.specs.Trees.{numbered}
use Rattle.kb_logic.specs.declared.syntax.AggKind.TheVariants as kind
use Rattle.kb_logic.specs.Views.{formula_view, term_view}
use Rattle.def_ground.specs.Answers.{GroundResult, Makes}
use Rattle.term_values.specs.Rows.{rows_of_term}
use Rattle.def_ground.specs.Forms.{Parts, close_parts, form_of, sums_of, no_parts_yet}
use Rattle.def_ground.specs.Linear.{Linear, compared_at}
use Rattle.def_ground.specs.LinearViews.{linear_view}
use Rattle.def_ground.specs.Thresholds.{compared_with_rows}
use Rattle.plain_evaluation.proofs.Folds.{after_front, each_after, fold_by_front, fold_done, fold_next, inner_fold}
use Rattle.kb_logic.proofs.Shapes.{formula_view-All, formula_view-Any}
use Rattle.ground_walk.specs.Groundable.{IsGroundable}
use Rattle.ground_walk.specs.Steps.{MakesParts, open_parts, part_step}
use Rattle.ground_walk.specs.Weighing.{InstanceFits, weight_view, weighed_step}
use Rattle.ground_walk.proofs.AggregateSteps.{term_view-Agg, formula_view-Compare, formula_view-Number, none-within}
use Rattle.ground_walk.proofs.AggregateSteps.{unweighed, at-once, left-extreme-is, right-extreme-is}
use Rattle.ground_walk.proofs.LeafSteps.{rows-in}
use Rattle.ground_walk.proofs.FormSteps.{universal-is, existential-is, parts-made, made-open, settled-stays, settled-at}
use Rattle.ground_walk.proofs.forms.+form.Goals as goal

pub form-returns-in-All-clause-made : goal.form-returns-in-All-clause-made
form-returns-in-All-clause-made t c =
    let b = c.args.scope.base.now in
    let e = env_view c.args.scope.env.now in
    let f = formula_view c.deref-in-All-2.result.now in
    rw (c.in-All.is, formula_view-All, ← c.deref-in-All.ensures.value, ← c.deref-in-All-2.ensures)
    (subst (λ (g : GroundResult). IfOk c.quantified.result (λ a. Makes g a c.quantified.new.problem))
    (universal-is b c.deref-in-All.result.now f e c.args.problem.now) c.quantified.ensures.made)

pub form-returns-in-Any-clause-made : goal.form-returns-in-Any-clause-made
form-returns-in-Any-clause-made t c =
    let b = c.args.scope.base.now in
    let e = env_view c.args.scope.env.now in
    let f = formula_view c.deref-in-Any-2.result.now in
    rw (c.in-Any.is, formula_view-Any, ← c.deref-in-Any.ensures.value, ← c.deref-in-Any-2.ensures)
    (subst (λ (g : GroundResult). IfOk c.quantified-in-Any.result (λ a. Makes g a c.quantified-in-Any.new.problem))
    (existential-is b c.deref-in-Any.result.now f e c.args.problem.now) c.quantified-in-Any.ensures.made)

pub instances-instances-requires : goal.instances-instances-requires
instances-instances-requires t c =
    let b = c.args.scope.base.now in
    let e = env_view c.args.scope.env.now in
    let f = formula_view c.args.binder.formula.now in
    let these = c.split_in.result.0.bounds.now in
    let others = c.split_in.result.1.now in
    let cs = choices b.domains these in
    let i = c.loop-number.number in
    let inner = env_view c.extend-inner.result in
    let count : c.split_in.result.0.count ≡ length cs = rw c.domains.ensures at c.split_in.ensures.count in
    let within : i < length cs = rw (← count) c.loop-number-test.true in
    let is : inner ≡ e ++ get_or cs i [] = rw (c.split_in.ensures.domains, c.domains.ensures)
    at c.extend-inner.ensures in (
      omega (arith, c.split_in.ensures.fewer),
      (
        c.requires.given,
        (
          omega (arith, c.requires.room, c.loop-number.invariant.vars),
          (
            each_after b.domains c.args.binder.bounds.now these others c.split_in.ensures.parts
                (IsGroundable b f) e inner i within is c.requires.fits,
            c.loop-number.invariant.lits,
          ),
        ),
      ),
    )

pub instances-returns-then-branch-clause-made : goal.instances-returns-then-branch-clause-made
instances-returns-then-branch-clause-made t c =
    let b = c.args.scope.base.now in
    let all = c.args.all in
    let sign = c.args.sign in
    let e = env_view c.args.scope.env.now in
    let f = formula_view c.args.binder.formula.now in
    let these = c.split_in.result.0.bounds.now in
    let others = c.split_in.result.1.now in
    let cs = choices b.domains these in
    let rest = choices b.domains others in
    let i = c.loop-number.number in
    let inner = env_view c.extend-inner.result in
    let count : c.split_in.result.0.count ≡ length cs = rw c.domains.ensures at c.split_in.ensures.count in
    let within : i < length cs = rw (← count) c.loop-number-test.true in
    let is : inner ≡ e ++ get_or cs i [] = rw (c.split_in.ensures.domains, c.domains.ensures)
    at c.extend-inner.ensures in
    let G = λ (r : Parts) (a : List Elem). part_step b all sign f r a in
    let F = λ (r : Parts) (a : List Elem). G r (e ++ a) in
    let s = open_parts c.loop-number.lits.items c.loop-number.problem in
    let d = fold (λ (r : Parts) (x : List Elem). G r (inner ++ x)) s rest in
    let made : MakesParts d c.in_ok-instances.field-0 c.instances.new.lits.items c.instances.new.problem =
    c.in_ok-instances.ensures.made in
    let settled : d.settled ≡ true = sym made.0 ∙ c.if-branch.true in
    let first = open_parts c.args.lits.now.items c.args.problem.now in
    let whole : fold F first (choices b.domains c.args.binder.bounds.now) ≡ d =
    fold_by_front b.domains c.args.binder.bounds.now these others c.split_in.ensures.parts F first
    ∙ sym c.loop-number.invariant.same
    ∙ settled-at F rest cs i s d within (inner_fold G rest e inner (get_or cs i []) s is)
    (λ x. settled-stays b all sign f d (e ++ x) settled) in (
      sym (ap (λ (r : Parts). r.settled) whole ∙ settled),
      made.1 ∙ sym (ap (λ (r : Parts). r.lits) whole),
      made.2 ∙ sym (ap (λ (r : Parts). r.problem) whole),
    )

pub instances-loop-number-preserved : goal.instances-loop-number-preserved
instances-loop-number-preserved t c =
    let b = c.args.scope.base.now in
    let all = c.args.all in
    let sign = c.args.sign in
    let e = env_view c.args.scope.env.now in
    let f = formula_view c.args.binder.formula.now in
    let these = c.split_in.result.0.bounds.now in
    let others = c.split_in.result.1.now in
    let cs = choices b.domains these in
    let rest = choices b.domains others in
    let i = c.loop-number.number in
    let inner = env_view c.extend-inner.result in
    let count : c.split_in.result.0.count ≡ length cs = rw c.domains.ensures at c.split_in.ensures.count in
    let within : i < length cs = rw (← count) c.loop-number-test.true in
    let is : inner ≡ e ++ get_or cs i [] = rw (c.split_in.ensures.domains, c.domains.ensures)
    at c.extend-inner.ensures in
    let G = λ (r : Parts) (a : List Elem). part_step b all sign f r a in
    let F = λ (r : Parts) (a : List Elem). G r (e ++ a) in
    let s = open_parts c.loop-number.lits.items c.loop-number.problem in
    let d = fold (λ (r : Parts) (x : List Elem). G r (inner ++ x)) s rest in
    let lits = c.instances.new.lits.items in
    let q = c.instances.new.problem in
    let made : MakesParts d c.in_ok-instances.field-0 lits q = c.in_ok-instances.ensures.made in
    let opened : open_parts lits q ≡ d = parts-made d false lits q (sym c.if-branch.false ∙ made.0, made.1, made.2) in
    record {
      same = fold_next (after_front F rest) cs i s (open_parts lits q) within (opened
          ∙ inner_fold G rest e inner (get_or cs i []) s is)
          ∙ c.loop-number.invariant.same;
      vars = omega (arith, c.loop-number.invariant.vars, c.in_ok-instances.ensures.grows.vars);
      lits = c.in_ok-instances.ensures.grows.within;
    }

pub instances-returns-clause-made : goal.instances-returns-clause-made
instances-returns-clause-made t c =
    let b = c.args.scope.base.now in
    let e = env_view c.args.scope.env.now in
    let f = formula_view c.args.binder.formula.now in
    let these = c.split_in.result.0.bounds.now in
    let others = c.split_in.result.1.now in
    let cs = choices b.domains these in
    let rest = choices b.domains others in
    let i = c.loop-number.number in
    let count : c.split_in.result.0.count ≡ length cs = rw c.domains.ensures at c.split_in.ensures.count in
    let past : length cs ≤ i = rw (← count) c.loop-number-test.false in
    let F = λ (r : Parts) (a : List Elem). part_step b c.args.all c.args.sign f r (e ++ a) in
    let s = open_parts c.loop-number.lits.items c.loop-number.problem in
    let first = open_parts c.args.lits.now.items c.args.problem.now in
    made-open (fold F first (choices b.domains c.args.binder.bounds.now)) c.loop-number.lits.items c.loop-number.problem
    (fold_by_front b.domains c.args.binder.bounds.now these others c.split_in.ensures.parts F first
    ∙ sym c.loop-number.invariant.same
    ∙ fold_done (after_front F rest) cs i s past)

pub quantified-returns-clause-made : goal.quantified-returns-clause-made
quantified-returns-clause-made t c =
    let b = c.args.scope.base.now in
    let e = env_view c.args.scope.env.now in
    let f = formula_view c.args.binder.formula.now in
    let d = fold (λ (r : Parts) (x : List Elem). part_step b c.args.all true f r (e ++ x))
    (open_parts [] c.args.problem.now)
    (choices b.domains c.args.binder.bounds.now) in
    let made : MakesParts d c.in_ok-settled.settled c.instances.new.lits.items c.instances.new.problem =
    rw c.new-lits.ensures.items at c.in_ok-settled.ensures.made in
    subst (λ (r : Parts). IfOk c.close.result (λ a. Makes (close_parts c.args.all r) a c.close.new.problem))
    (parts-made d c.in_ok-settled.settled c.instances.new.lits.items c.instances.new.problem made) c.close.ensures.made

pub add_aggregates-returns-in-Agg-clause-made : goal.add_aggregates-returns-in-Agg-clause-made
add_aggregates-returns-in-Agg-clause-made t c =
    let b = c.args.scope.base.now in
    let e = env_view c.args.scope.env.now in
    let f = formula_view c.deref-in-Agg-3.result.now in
    let w = Some (term_view c.deref-in-Agg.result.now) in
    let cs = choices b.domains c.deref-in-Agg-2.result.now in
    let kept : to_z w64 (of_z w64 c.args.factor) ≡ c.args.factor = search rules in
    rw (
      c.in-Agg.is,
      term_view-Agg,
      ← c.deref-in-Agg.ensures,
      ← c.deref-in-Agg-2.ensures.value,
      ← c.deref-in-Agg-3.ensures,
    )
    (subst (λ (z : ℤ). OnOk c.add_instances.result
    (linear_view c.add_instances.new.linear c.add_instances.new.problem
    ≡ fold (λ (st : Linear) (a : List Elem). weighed_step b c.in-Agg.kind z f w st (e ++ a))
    (linear_view c.args.linear.now c.args.problem.now) cs)) kept c.add_instances.ensures.made)

pub add_instances-form-requires : goal.add_instances-form-requires
add_instances-form-requires t c =
    let b = c.args.scope.base.now in
    let fits = at-once b.domains c.args.binder.bounds.now
    (InstanceFits b (formula_view c.args.binder.formula.now) (weight_view c.args.weights)) (env_view c.args.scope.env.now)
    (sym c.is_empty.ensures ∙ c.if-is_empty.true) c.requires.fits in
    (omega arith, (c.requires.given, (c.requires.room, fits.0)))

pub add_instances-add_instances-requires : goal.add_instances-add_instances-requires
add_instances-add_instances-requires t c =
    let b = c.args.scope.base.now in
    let e = env_view c.args.scope.env.now in
    let these = c.split_in.result.0.bounds.now in
    let others = c.split_in.result.1.now in
    let cs = choices b.domains these in
    let i = c.loop-number.number in
    let inner = env_view c.extend-inner.result in
    let count : c.split_in.result.0.count ≡ length cs = rw c.domains.ensures at c.split_in.ensures.count in
    let within : i < length cs = rw (← count) c.loop-number-test.true in
    let is : inner ≡ e ++ get_or cs i [] = rw (c.split_in.ensures.domains, c.domains.ensures)
    at c.extend-inner.ensures in (
      omega (arith, c.split_in.ensures.fewer),
      (
        c.requires.given,
        (
          omega (arith, c.requires.room, c.loop-number.invariant.vars),
          (
            each_after b.domains c.args.binder.bounds.now these others c.split_in.ensures.parts
                (InstanceFits b (formula_view c.args.binder.formula.now) (weight_view c.args.weights)) e inner i within is
                c.requires.fits,
            c.loop-number.invariant.parts,
          ),
        ),
      ),
    )

pub add_instances-loop-number-preserved : goal.add_instances-loop-number-preserved
add_instances-loop-number-preserved t c =
    let b = c.args.scope.base.now in
    let e = env_view c.args.scope.env.now in
    let these = c.split_in.result.0.bounds.now in
    let others = c.split_in.result.1.now in
    let cs = choices b.domains these in
    let rest = choices b.domains others in
    let i = c.loop-number.number in
    let inner = env_view c.extend-inner.result in
    let count : c.split_in.result.0.count ≡ length cs = rw c.domains.ensures at c.split_in.ensures.count in
    let within : i < length cs = rw (← count) c.loop-number-test.true in
    let is : inner ≡ e ++ get_or cs i [] = rw (c.split_in.ensures.domains, c.domains.ensures)
    at c.extend-inner.ensures in
    let G = λ (st : Linear) (a : List Elem). weighed_step b c.args.weights.kind c.args.weights.factor
    (formula_view c.args.binder.formula.now) (weight_view c.args.weights) st a in
    let F = λ (st : Linear) (a : List Elem). G st (e ++ a) in
    let s = linear_view c.loop-number.linear c.loop-number.problem in
    let made = c.in_ok-add_instances.ensures.made in
    let grows = c.in_ok-add_instances.ensures.grows in
    record {
      same = fold_next (after_front F rest) cs i s
          (linear_view c.add_instances.new.linear c.add_instances.new.problem) within
          (made ∙ inner_fold G rest e inner (get_or cs i []) s is)
          ∙ c.loop-number.invariant.same;
      vars = omega (arith, c.loop-number.invariant.vars, grows.vars);
      parts = grows.within;
    }

pub add_instances-returns-clause-made : goal.add_instances-returns-clause-made
add_instances-returns-clause-made t c =
    let b = c.args.scope.base.now in
    let e = env_view c.args.scope.env.now in
    let these = c.split_in.result.0.bounds.now in
    let others = c.split_in.result.1.now in
    let cs = choices b.domains these in
    let rest = choices b.domains others in
    let i = c.loop-number.number in
    let count : c.split_in.result.0.count ≡ length cs = rw c.domains.ensures at c.split_in.ensures.count in
    let past : length cs ≤ i = rw (← count) c.loop-number-test.false in
    let F = λ (st : Linear) (a : List Elem). weighed_step b c.args.weights.kind c.args.weights.factor
    (formula_view c.args.binder.formula.now) (weight_view c.args.weights) st (e ++ a) in
    let s = linear_view c.loop-number.linear c.loop-number.problem in
    sym
    (fold_by_front b.domains c.args.binder.bounds.now these others c.split_in.ensures.parts F
    (linear_view c.args.linear.now c.args.problem.now)
    ∙ sym c.loop-number.invariant.same ∙ fold_done (after_front F rest) cs i s past)

pub compare_count-add_instances-requires : goal.compare_count-add_instances-requires
compare_count-add_instances-requires t c =
    let b = c.args.scope.base.now in (
      omega arith,
      (
        c.requires.given,
        (
          c.requires.room,
          (
            unweighed b (formula_view c.args.binder.formula.now) (env_view c.args.scope.env.now)
                (choices b.domains c.args.binder.bounds.now) c.requires.fits,
            none-within c.new-counted.result c.new-counted.ensures c.args.problem.now,
          ),
        ),
      ),
    )

pub compare_count-returns-clause-made : goal.compare_count-returns-clause-made
compare_count-returns-clause-made t c =
    let b = c.args.scope.base.now in
    let e = env_view c.args.scope.env.now in
    let f = formula_view c.args.binder.formula.now in
    let cs = choices b.domains c.args.binder.bounds.now in
    let F = λ (st : Linear) (a : List Elem). weighed_step b kind.Count (pos 1) f None st (e ++ a) in
    let q = c.compared_at.new.problem in
    let n = c.args.number in
    let kept : to_z w64 (of_z w64 n) ≡ n = search rules in
    subst (λ (st : Linear). IfOk c.compared_at.result (λ a. Makes (compared_at kind.Count c.args.cmp st n) a q))
    (c.in_ok-add_instances.ensures.made ∙ ap (λ (st : Linear). fold F st cs) (c.new-counted.ensures c.args.problem.now))
    (subst (λ (z : ℤ). IfOk c.compared_at.result (λ a. Makes (compared_at kind.Count c.args.cmp
    (linear_view c.add_instances.new.linear c.add_instances.new.problem) z) a q)) kept c.compared_at.ensures.made)

pub compare_extreme-compared_with_rows-requires-clause-rows :
    goal.compare_extreme-compared_with_rows-requires-clause-rows
compare_extreme-compared_with_rows-requires-clause-rows t c =
    rw c.in_ok-rows.ensures
    (rows-in c.args.scope.base.now (term_view c.args.other.now) (env_view c.args.scope.env.now) c.aggregates_of.new.problem
    c.requires.given (omega (arith, c.requires.room, c.in_ok-linear.ensures.grows.vars)))

pub compare_sums-compare_sides-requires-clause-left : goal.compare_sums-compare_sides-requires-clause-left
compare_sums-compare_sides-requires-clause-left t c =
    rw c.in_ok-left_rows.ensures
    (rows-in c.args.scope.base.now (term_view c.args.left.now) (env_view c.args.scope.env.now) c.add_aggregates.new.problem
    c.requires.given (omega (arith, c.requires.room, c.in_ok-add_aggregates.ensures.grows.vars)))

pub compare_sums-compare_sides-requires-clause-right : goal.compare_sums-compare_sides-requires-clause-right
compare_sums-compare_sides-requires-clause-right t c =
    rw c.in_ok-right_rows.ensures
    (rows-in c.args.scope.base.now (term_view c.args.right.now) (env_view c.args.scope.env.now) c.add_aggregates.new.problem
    c.requires.given (omega (arith, c.requires.room, c.in_ok-add_aggregates.ensures.grows.vars)))

pub aggregates_of-add_aggregates-requires : goal.aggregates_of-add_aggregates-requires
aggregates_of-add_aggregates-requires t c = (
  omega arith,
  (
    c.requires.given,
    (c.requires.room, (c.requires.fits, none-within c.new-linear.result c.new-linear.ensures c.args.problem.now)),
  ),
)

pub aggregates_of-returns-clause-made : goal.aggregates_of-returns-clause-made
aggregates_of-returns-clause-made t c =
    c.in_ok-add_aggregates.ensures.made
    ∙ ap (sums_of c.args.scope.base.now (pos 1) (term_view c.args.term.now) (env_view c.args.scope.env.now))
    (c.new-linear.ensures c.args.problem.now)

pub form-returns-in-LeftExtreme-clause-made : goal.form-returns-in-LeftExtreme-clause-made
form-returns-in-LeftExtreme-clause-made t c =
    rw (c.in-Compare.is, formula_view-Compare)
    (subst (λ (g : GroundResult). IfOk c.compare_extreme.result (λ a. Makes g a c.compare_extreme.new.problem))
    (left-extreme-is c.args.scope.base.now c.in-Compare.cmp (term_view c.in-Compare.left) (term_view c.in-Compare.right)
    (env_view c.args.scope.env.now) c.args.problem.now c.in-LeftExtreme.kind (sym c.in-LeftExtreme.is ∙ c.sides_of.ensures))
    c.compare_extreme.ensures.made)

pub form-returns-in-RightExtreme-clause-made : goal.form-returns-in-RightExtreme-clause-made
form-returns-in-RightExtreme-clause-made t c =
    let b = c.args.scope.base.now in
    let e = env_view c.args.scope.env.now in
    let p = c.args.problem.now in
    let x = term_view c.in-Compare.left in
    let y = term_view c.in-Compare.right in
    let k = c.in-RightExtreme.kind in
    let q = c.compare_extreme-in-RightExtreme.new.problem in
    rw (c.in-Compare.is, formula_view-Compare)
    (subst (λ (g : GroundResult). IfOk c.compare_extreme-in-RightExtreme.result (λ a. Makes g a q))
    (ap (λ c'. compared_with_rows k c' (sums_of b (pos 1) y e (no_parts_yet p)) (rows_of_term b x e))
    c.flipped-cmp.ensures
    ∙ right-extreme-is b c.in-Compare.cmp x y e p k (sym c.in-RightExtreme.is ∙ c.sides_of.ensures))
    c.compare_extreme-in-RightExtreme.ensures.made)

pub form-returns-in-Number-clause-made : goal.form-returns-in-Number-clause-made
form-returns-in-Number-clause-made t c =
    let b = c.args.scope.base.now in
    let f = formula_view c.deref-in-Number-2.result.now in
    let bs = c.deref-in-Number.result.now in
    let kept : to_z w64 (of_z w64 c.in-Number.number) ≡ c.in-Number.number = search rules in
    rw (
      c.in-Number.is,
      formula_view-Number,
      ← c.deref-in-Number.ensures.value,
      ← c.deref-in-Number-2.ensures,
    )
    (subst (λ (z : ℤ). IfOk c.compare_count.result (λ a. Makes (form_of b (numbered c.in-Number.cmp z bs f)
    (env_view c.args.scope.env.now) c.args.problem.now) a c.compare_count.new.problem)) kept c.compare_count.ensures.made)
