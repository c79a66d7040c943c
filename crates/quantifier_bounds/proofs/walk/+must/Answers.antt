use Rattle.std.proofs.Common.{◌∙◌, subst, sym, ap, refl, drop, ◌≡◌, ◌<◌, map, not, true, false, ◌+◌, ◌++◌, []}
use Rattle.std.proofs.Common.{slice_index_or, get_or, length, arith, Err, ◌≤◌}
use Rattle.std.specs.List.{AllByRecursion}
use Rattle.std.proofs.lemmas.List.{at_drop_more}
use Rattle.std.proofs.lemmas.Result.{err_from_is_err_and}
use Rattle.kb_logic.specs.Structures.{choices}
use Rattle.kb_logic.specs.Trees.{atom, equivalence, implication, universal, existential, terms_of}
use Rattle.kb_logic.proofs.Shapes.{formula_view-All, formula_view-Any}
use Rattle.plain_evaluation.proofs.Folds.{by_front, each_after}
use Rattle.bound_laws.specs.Closures.{Obeys, IsNotLost, AtomHas}
use Rattle.quantifier_bounds.specs.Steps.{IsStep, Narrows}
use Rattle.quantifier_bounds.specs.Walks.{Follows, IsNth}
use Rattle.quantifier_bounds.proofs.Steps.{two_steps, two_fault, fault_by, after_test, done, SoFar}
use Rattle.quantifier_bounds.proofs.Links.{left_asked, right_asked, right_is_asked, left_is_no, implied_joins}
use Rattle.quantifier_bounds.proofs.Links.{right_follows, left_follows}
use Rattle.quantifier_bounds.proofs.Made.{nothing}
use Rattle.quantifier_bounds.proofs.Links.{alike_joins}
use Rattle.quantifier_bounds.proofs.Lones.{lone_none, lone_one, lone_many, all_wanted}
use Rattle.quantifier_bounds.proofs.Shapes.{formula_view-Atom, formula_view-Iff}
use Rattle.kb_logic.specs.Trees.{formulas_of}
use Rattle.kb_logic.specs.Views.{formula_view, term_view}
use Rattle.kb_logic.specs.KnownAtoms.{KnownAtoms}
use Rattle.std.proofs.Common.{None}
use Rattle.plain_evaluation.specs.Environments.{env_view}
use Rattle.quantifier_bounds.specs.Fits.{Fits, AllFit}
use Rattle.std.specs.Option.{option_map}
use Rattle.kb_logic.specs.declared.syntax.Formula.TheVariants.{True}
use Rattle.quantifier_bounds.proofs.Turns.{parts_all, parts_last, split, Instances, Block, Blocks, block_start}
use Rattle.quantifier_bounds.proofs.Orders.{ordered, ordered_length, nth_is, all_taken}
use Rattle.quantifier_bounds.proofs.Turns.{block_turn, block_fault}
use Rattle.quantifier_bounds.proofs.Lasts.{lost_turn, first_turn, none_of, same_default, OneLeft}
use Rattle.quantifier_bounds.proofs.walk.+must.Goals as goal

pub last-loop-at-preserved-then-is_lost : goal.last-loop-at-preserved-then-is_lost
last-loop-at-preserved-then-is_lost t c =
    let k = c.args.known.now in
    let v = c.args.v in
    let e = env_view c.args.env.now in
    let fs = c.args.formulas.now in
    let x = c.index-formulas-at.result in
    let next = formulas_of (map formula_view (drop (c.loop-at.at + 1) fs)) in
    let rest = formulas_of (map formula_view (drop c.loop-at.at fs)) in
    let is = split fs c.loop-at.at x c.loop-at-test.true c.index-formulas-at.is in
    record {
      fits = (subst (λ r. AllFit k.symbols k.domains r e) is c.loop-at.invariant.fits).1;
      within = c.loop-at.invariant.within;
      lone = c.loop-at.invariant.lone;
      left = lost_turn k v (formulas_of (map formula_view fs)) rest next
          (option_map (λ i. formula_view (slice_index_or fs i True)) c.loop-at.lone) (formula_view x) e is
          (sym c.is_lost.ensures ∙ c.if-is_lost.true) c.loop-at.invariant.left;
    }

pub last-loop-at-preserved : goal.last-loop-at-preserved
last-loop-at-preserved t c =
    let k = c.args.known.now in
    let v = c.args.v in
    let e = env_view c.args.env.now in
    let fs = c.args.formulas.now in
    let x = c.index-formulas-at.result in
    let next = formulas_of (map formula_view (drop (c.loop-at.at + 1) fs)) in
    let rest = formulas_of (map formula_view (drop c.loop-at.at fs)) in
    let is = split fs c.loop-at.at x c.loop-at-test.true c.index-formulas-at.is in
    let same : x ≡ slice_index_or fs c.loop-at.at True = c.index-formulas-at.is
    ∙ same_default fs c.loop-at.at x True c.loop-at-test.true in
    let all = subst (λ r. AllFit k.symbols k.domains r e) is c.loop-at.invariant.fits in
    record {
      fits = all.1;
      within = c.loop-at-test.true;
      lone = subst (λ y. Fits k.symbols k.domains (formula_view y) e) same all.0;
      left = subst (λ y. OneLeft k v (formulas_of (map formula_view fs)) next (formula_view y) e) same
          (first_turn k v (formulas_of (map formula_view fs)) rest next
          (option_map (λ i. formula_view (slice_index_or fs i True)) c.loop-at.lone) (formula_view x) e
          (none_of (λ i. formula_view (slice_index_or fs i True)) c.loop-at.lone
          (sym c.is_some.ensures ∙ c.if-is_some.false)) is
          (sym c.is_lost.ensures ∙ c.if-is_lost.false) c.loop-at.invariant.left);
    }

pub implied-returns-then-is_no : goal.implied-returns-then-is_no
implied-returns-then-is_no t c =
    let f = formula_view c.args.left.now in
    let g = formula_view c.args.right.now in
    let e = env_view c.args.env.now in
    let k = c.args.known.now in
    nothing k (λ q. Obeys q c.args.v (implication f g) e)
    (left_is_no f g e k c.consistency.ensures.consistent c.consistency.ensures.listed c.args.v c.is_no.result
    c.left_truth-told.result c.left_truth-told.ensures c.is_no.ensures c.if-is_no.true)

pub implied-returns-in_err-first : goal.implied-returns-in_err-first
implied-returns-in_err-first t c =
    let f = formula_view c.args.left.now in
    let g = formula_view c.args.right.now in
    let e = env_view c.args.env.now in
    let k = c.args.known.now in
    let v = c.args.v in
    let asked = c.is_yes.result in
    let W = λ (q : KnownAtoms). Obeys q v (implication f g) e in
    let B = λ (q : KnownAtoms). asked ≡ true → Obeys q v g e in
    let so = right_is_asked f g e k v asked c.left_truth-told.result c.left_truth-told.ensures c.is_yes.ensures in
    let p = err_from_is_err_and c.from_residual.result c.from_residual.ensures.1 in
    subst (λ r. Narrows k c.when.new.known r W) (sym (p.1 ∙ ap Err p.2))
    (fault_by k c.when.new.known c.when.new.known c.in_err-first.field-0.0 B W
    (right_asked f g e k v asked so) c.in_err-first.ensures)

pub implied-returns-in_err-second : goal.implied-returns-in_err-second
implied-returns-in_err-second t c =
    let f = formula_view c.args.left.now in
    let g = formula_view c.args.right.now in
    let e = env_view c.args.env.now in
    let k = c.args.known.now in
    let v = c.args.v in
    let now = c.when.new.known in
    let asked = c.is_yes.result in
    let again = c.is_asked-asked.result in
    let W = λ (q : KnownAtoms). Obeys q v (implication f g) e in
    let B = λ (q : KnownAtoms). asked ≡ true → Obeys q v g e in
    let A = λ (q : KnownAtoms). again ≡ true → Obeys q (not v) f e in
    let so = right_is_asked f g e k v asked c.left_truth-told.result c.left_truth-told.ensures c.is_yes.ensures in
    let p = err_from_is_err_and c.from_residual-in_err-second.result c.from_residual-in_err-second.ensures.1 in
    subst (λ r. Narrows k c.when-2.new.known r W) (sym (p.1 ∙ ap Err p.2))
    (two_fault k now c.in_ok-first.first W B A (right_asked f g e k v asked so)
    (left_asked f g e now v again c.is_asked-asked.ensures) c.in_ok-first.ensures
    c.when-2.new.known c.when-2.new.known c.in_err-second.field-0.0 c.in_err-second.ensures)

pub implied-returns : goal.implied-returns
implied-returns t c =
    let f = formula_view c.args.left.now in
    let g = formula_view c.args.right.now in
    let e = env_view c.args.env.now in
    let k = c.args.known.now in
    let now = c.when.new.known in
    let v = c.args.v in
    let asked = c.is_yes.result in
    let again = c.is_asked-asked.result in
    let W = λ (q : KnownAtoms). Obeys q v (implication f g) e in
    let B = λ (q : KnownAtoms). asked ≡ true → Obeys q v g e in
    let A = λ (q : KnownAtoms). again ≡ true → Obeys q (not v) f e in
    let so = right_is_asked f g e k v asked c.left_truth-told.result c.left_truth-told.ensures c.is_yes.ensures in
    subst (λ b. IsStep k c.when-2.new.known b W) (sym c.either.ensures)
    (two_steps k now c.in_ok-first.first W B A (right_asked f g e k v asked so)
    (left_asked f g e now v again c.is_asked-asked.ensures) c.in_ok-first.ensures c.when-2.new.known
    c.in_ok-second.second
    (implied_joins f g e k now v again asked c.is_asked-asked.ensures so)
    c.in_ok-second.ensures)

pub alike-returns-in_err-first : goal.alike-returns-in_err-first
alike-returns-in_err-first t c =
    let f = formula_view c.args.left.now in
    let g = formula_view c.args.right.now in
    let e = env_view c.args.env.now in
    let k = c.args.known.now in
    let v = c.args.v in
    let other = c.certainty-other.result in
    let W = λ (q : KnownAtoms). Obeys q v (equivalence f g) e in
    let A = λ (q : KnownAtoms). Follows q other v (not v) g e in
    let p = err_from_is_err_and c.from_residual.result c.from_residual.ensures.1 in
    subst (λ r. Narrows k c.follow.new.known r W) (sym (p.1 ∙ ap Err p.2))
    (fault_by k c.follow.new.known c.follow.new.known c.in_err-first.field-0.0 A W
    (right_follows f g e k v other c.certainty-other.ensures) c.in_err-first.ensures)

pub alike-returns-in_err-second : goal.alike-returns-in_err-second
alike-returns-in_err-second t c =
    let f = formula_view c.args.left.now in
    let g = formula_view c.args.right.now in
    let e = env_view c.args.env.now in
    let k = c.args.known.now in
    let now = c.follow.new.known in
    let v = c.args.v in
    let other = c.certainty-other.result in
    let again = c.certainty-other-2.result in
    let W = λ (q : KnownAtoms). Obeys q v (equivalence f g) e in
    let A = λ (q : KnownAtoms). Follows q other v (not v) g e in
    let B = λ (q : KnownAtoms). Follows q again v (not v) f e in
    let p = err_from_is_err_and c.from_residual-in_err-second.result c.from_residual-in_err-second.ensures.1 in
    subst (λ r. Narrows k c.follow-2.new.known r W) (sym (p.1 ∙ ap Err p.2))
    (two_fault k now c.in_ok-first.first W A B (right_follows f g e k v other c.certainty-other.ensures)
    (left_follows f g e now v again c.certainty-other-2.ensures) c.in_ok-first.ensures
    c.follow-2.new.known c.follow-2.new.known c.in_err-second.field-0.0 c.in_err-second.ensures)

pub alike-returns : goal.alike-returns
alike-returns t c =
    let f = formula_view c.args.left.now in
    let g = formula_view c.args.right.now in
    let e = env_view c.args.env.now in
    let k = c.args.known.now in
    let now = c.follow.new.known in
    let v = c.args.v in
    let other = c.certainty-other.result in
    let again = c.certainty-other-2.result in
    let W = λ (q : KnownAtoms). Obeys q v (equivalence f g) e in
    let A = λ (q : KnownAtoms). Follows q other v (not v) g e in
    let B = λ (q : KnownAtoms). Follows q again v (not v) f e in
    subst (λ b. IsStep k c.follow-2.new.known b W) (sym c.either.ensures)
    (two_steps k now c.in_ok-first.first W A B (right_follows f g e k v other c.certainty-other.ensures)
    (left_follows f g e now v again c.certainty-other-2.ensures) c.in_ok-first.ensures c.follow-2.new.known
    c.in_ok-second.second
    (alike_joins f g e k now v other again c.certainty-other.ensures c.certainty-other-2.ensures)
    c.in_ok-second.ensures)

pub all_instances-returns : goal.all_instances-returns
all_instances-returns t c =
    all_wanted c.args.known.now c.args.v (formula_view c.args.formula.now) (env_view c.args.env.now)
    (λ d. choices d c.args.bounds.now) c.each.new.known c.each.result c.args.setting.domains.now c.requires.domains
    c.each.ensures

pub lone-returns-in-None : goal.lone-returns-in-None
lone-returns-in-None t c =
    lone_none c.args.known.now c.args.v (formula_view c.args.formula.now) (env_view c.args.env.now)
    (λ d. choices d c.args.bounds.now) (sym c.left_in.ensures ∙ c.in-None.is)

pub lone-returns-in-One : goal.lone-returns-in-One
lone-returns-in-One t c =
    lone_one c.args.known.now c.args.v (formula_view c.args.formula.now) (env_view c.args.env.now)
    (λ d. choices d c.args.bounds.now) c.each.new.known c.each.result c.args.setting.domains.now c.requires.domains
    (sym c.left_in.ensures ∙ c.in-One.is) c.each.ensures

pub lone-returns-in-Many : goal.lone-returns-in-Many
lone-returns-in-Many t c =
    lone_many c.args.known.now c.args.v (formula_view c.args.formula.now) (env_view c.args.env.now)
    (λ d. choices d c.args.bounds.now) (sym c.left_in.ensures ∙ c.in-Many.is)

pub each-loop-turn-init : goal.each-loop-turn-init
each-loop-turn-init t c =
    let d = c.args.setting.domains.now in
    record {
      domains = c.requires.domains;
      fits = c.requires.fits;
      so_far = block_start c.args.want.left_only c.args.want.value (formula_view c.args.formula.now)
          (env_view c.args.env.now) c.args.setting.falling
          c.args.known.now (choices d c.args.bounds.now) (choices d c.split_in.result.1.now)
          (choices d c.split_in.result.0.bounds.now)
          (by_front d c.args.bounds.now c.split_in.result.0.bounds.now c.split_in.result.1.now
          c.split_in.ensures.parts);
    }

pub each-each-requires : goal.each-each-requires
each-each-requires t c =
    let d = c.args.setting.domains.now in
    let k = c.loop-turn.known in
    let e = env_view c.args.env.now in
    let these = c.split_in.result.0.bounds.now in
    let others = c.split_in.result.1.now in
    let all = choices d these in
    let n = c.nth.result in
    let inner = env_view c.extend-inner.result in
    let within : n < length all = subst (λ m. n < m) c.split_in.ensures.count c.nth.ensures.within in
    let is : inner ≡ e ++ get_or all n [] =
    c.extend-inner.ensures ∙ ap (λ x. e ++ get_or (choices x these) n []) c.split_in.ensures.domains in (
      omega (arith, c.split_in.ensures.fewer),
      (
        c.loop-turn.invariant.domains,
        each_after d c.args.bounds.now these others c.split_in.ensures.parts
            (Fits k.symbols k.domains (formula_view c.args.formula.now)) e inner n within is
            c.loop-turn.invariant.fits,
      ),
    )

pub each-returns-in_err-more : goal.each-returns-in_err-more
each-returns-in_err-more t c =
    let d = c.args.setting.domains.now in
    let first = c.args.known.now in
    let now = c.loop-turn.known in
    let e = env_view c.args.env.now in
    let f = formula_view c.args.formula.now in
    let these = c.split_in.result.0.bounds.now in
    let others = choices d c.split_in.result.1.now in
    let all = choices d these in
    let falling = c.args.setting.falling in
    let list = ordered falling all in
    let i = c.loop-turn.turn in
    let n = c.nth.result in
    let inner = env_view c.extend-inner.result in
    let within : i < length all = subst (λ m. i < m) c.split_in.ensures.count c.loop-turn-test.true in
    let long : i < length list = subst (λ m. i < m) (sym (ordered_length falling all)) within in
    let is : inner ≡ e ++ get_or list i [] =
    c.extend-inner.ensures ∙ ap (λ x. e ++ get_or (choices x these) n []) c.split_in.ensures.domains
    ∙ ap (λ a. e ++ a) (sym (nth_is falling all i n [] within
    (subst (λ m. IsNth falling i m n) c.split_in.ensures.count c.nth.ensures.nth))) in
    let left = c.args.want.left_only in
    let v = c.args.want.value in
    let p = err_from_is_err_and c.from_residual.result c.from_residual.ensures.1 in
    subst (λ r. Narrows first c.each.new.known r (Instances left v f e first (choices d c.args.bounds.now)))
    (sym (p.1 ∙ ap Err p.2))
    (block_fault left v f e first now c.loop-turn.changed (choices d c.args.bounds.now) others (drop i list)
    (drop (i + 1) list) (get_or list i []) inner (at_drop_more (λ us. us) list i [] long) is
    c.consistency.ensures.consistent c.loop-turn.invariant.so_far c.each.new.known c.each.new.known
    c.in_err-more.field-0.0 c.in_err-more.ensures)

pub each-loop-turn-preserved : goal.each-loop-turn-preserved
each-loop-turn-preserved t c =
    let d = c.args.setting.domains.now in
    let first = c.args.known.now in
    let now = c.loop-turn.known in
    let then' = c.each.new.known in
    let e = env_view c.args.env.now in
    let f = formula_view c.args.formula.now in
    let these = c.split_in.result.0.bounds.now in
    let others = choices d c.split_in.result.1.now in
    let all = choices d these in
    let falling = c.args.setting.falling in
    let list = ordered falling all in
    let i = c.loop-turn.turn in
    let n = c.nth.result in
    let inner = env_view c.extend-inner.result in
    let within : i < length all = subst (λ m. i < m) c.split_in.ensures.count c.loop-turn-test.true in
    let long : i < length list = subst (λ m. i < m) (sym (ordered_length falling all)) within in
    let is : inner ≡ e ++ get_or list i [] =
    c.extend-inner.ensures ∙ ap (λ x. e ++ get_or (choices x these) n []) c.split_in.ensures.domains
    ∙ ap (λ a. e ++ a) (sym (nth_is falling all i n [] within
    (subst (λ m. IsNth falling i m n) c.split_in.ensures.count c.nth.ensures.nth))) in
    let left = c.args.want.left_only in
    let v = c.args.want.value in
    let bounds = choices d c.args.bounds.now in
    let step = c.in_ok-more.ensures in
    record {
      domains = c.loop-turn.invariant.domains ∙ sym step.more.domains;
      fits = subst (λ x. AllByRecursion (λ a. Fits then'.symbols x f (e ++ a)) bounds) (sym step.more.domains)
          (subst (λ s. AllByRecursion (λ a. Fits s now.domains f (e ++ a)) bounds) (sym step.more.symbols)
          c.loop-turn.invariant.fits);
      so_far = subst (λ b. SoFar first then' b (Instances left v f e first bounds)
          (Blocks left v f e first others (drop (i + 1) list))) (sym c.either-changed.ensures)
          (block_turn left v f e first now c.loop-turn.changed bounds others (drop i list)
          (drop (i + 1) list) (get_or list i []) inner (at_drop_more (λ us. us) list i [] long) is
          c.consistency.ensures.consistent c.loop-turn.invariant.so_far then' c.in_ok-more.more step);
    }

pub each-returns : goal.each-returns
each-returns t c =
    let d = c.args.setting.domains.now in
    let first = c.args.known.now in
    let now = c.loop-turn.known in
    let e = env_view c.args.env.now in
    let f = formula_view c.args.formula.now in
    let others = choices d c.split_in.result.1.now in
    let all = choices d c.split_in.result.0.bounds.now in
    let falling = c.args.setting.falling in
    let i = c.loop-turn.turn in
    let left = c.args.want.left_only in
    let v = c.args.want.value in
    let past : length all ≤ i = subst (λ m. m ≤ i) c.split_in.ensures.count c.loop-turn-test.false in
    done first now c.loop-turn.changed (Instances left v f e first (choices d c.args.bounds.now))
    (Blocks left v f e first others (drop i (ordered falling all))) c.loop-turn.invariant.so_far
    (all_taken (Block left v f e first others now) falling all i past)

pub must-atom_must-requires : goal.must-atom_must-requires
must-atom_must-requires t c =
    let k = c.args.known.now in
    let e = env_view c.args.env.now in
    let ts = terms_of (map term_view c.deref-in-Atom.result.now) in
    let is : formula_view c.args.formula.now ≡ atom c.in-Atom.symbol ts =
    ap formula_view c.in-Atom.is ∙ formula_view-Atom c.in-Atom.symbol c.in-Atom.args
    ∙ ap (λ us. atom c.in-Atom.symbol (terms_of (map term_view us))) (sym c.deref-in-Atom.ensures.value) in
    let fits : Fits k.symbols k.domains (atom c.in-Atom.symbol ts) e =
    subst (λ f. Fits k.symbols k.domains f e) is c.requires.fits in
    fits k c.consistency.ensures.consistent refl refl

pub must-returns-in_ok-not_lost-in-Atom : goal.must-returns-in_ok-not_lost-in-Atom
must-returns-in_ok-not_lost-in-Atom t c =
    let k = c.args.known.now in
    let e = env_view c.args.env.now in
    let v = c.args.v in
    let s = c.in-Atom.symbol in
    let ts = terms_of (map term_view c.deref-in-Atom.result.now) in
    let is : formula_view c.args.formula.now ≡ atom s ts =
    ap formula_view c.in-Atom.is ∙ formula_view-Atom s c.in-Atom.args
    ∙ ap (λ us. atom s (terms_of (map term_view us))) (sym c.deref-in-Atom.ensures.value) in
    let test : IsStep k k c.in_ok-not_lost-in-Atom.field-0 (λ q. IsNotLost q v (atom s ts) e) =
    subst (λ f. IsStep k k c.in_ok-not_lost-in-Atom.field-0 (λ q. IsNotLost q v f e)) is
    c.in_ok-not_lost-in-Atom.ensures in
    subst (λ f. Narrows k c.atom_must.new.known c.atom_must.result (λ q. Obeys q v f e)) (sym is)
    (after_test k c.atom_must.new.known c.in_ok-not_lost-in-Atom.field-0 c.atom_must.result
    (λ q. IsNotLost q v (atom s ts) e) (λ q. AtomHas q v s ts None e) test c.atom_must.ensures)

pub must-returns-in-Iff : goal.must-returns-in-Iff
must-returns-in-Iff t c =
    let k = c.args.known.now in
    let e = env_view c.args.env.now in
    let is : formula_view c.args.formula.now ≡ equivalence (formula_view c.deref-in-Iff.result.now)
    (formula_view c.deref-in-Iff-2.result.now) =
    ap formula_view c.in-Iff.is ∙ formula_view-Iff c.in-Iff.left c.in-Iff.right
    ∙ ap (λ f. equivalence (formula_view f) (formula_view c.in-Iff.right.value)) (sym c.deref-in-Iff.ensures)
    ∙ ap (λ g. equivalence (formula_view c.deref-in-Iff.result.now) (formula_view g)) (sym c.deref-in-Iff-2.ensures) in
    subst (λ f. Narrows k c.alike.new.known c.alike.result (λ q. Obeys q c.args.v f e)) (sym is) c.alike.ensures

pub must-returns-then-v : goal.must-returns-then-v
must-returns-then-v t c =
    let k = c.args.known.now in
    let e = env_view c.args.env.now in
    let these = c.deref-then-v.result.now in
    let inner = c.deref-then-v-2.result.now in
    let is : formula_view c.args.formula.now ≡ universal these (formula_view inner) =
    ap formula_view c.in-All.is ∙ formula_view-All c.in-All.bounds c.in-All.inner
    ∙ ap (λ b. universal b (formula_view c.in-All.inner.value)) (sym c.deref-then-v.ensures.value)
    ∙ ap (λ g. universal these (formula_view g)) (sym c.deref-then-v-2.ensures) in
    subst (λ w. Narrows k c.all_instances.new.known c.all_instances.result
    (λ q. Obeys q w (formula_view c.args.formula.now) e))
    (sym c.if-v.true) (subst (λ f. Narrows k c.all_instances.new.known c.all_instances.result (λ q. Obeys q true f
    e)) (sym is)
    c.all_instances.ensures)

pub must-returns-else-v : goal.must-returns-else-v
must-returns-else-v t c =
    let k = c.args.known.now in
    let e = env_view c.args.env.now in
    let these = c.deref-else-v.result.now in
    let inner = c.deref-else-v-2.result.now in
    let is : formula_view c.args.formula.now ≡ universal these (formula_view inner) =
    ap formula_view c.in-All.is ∙ formula_view-All c.in-All.bounds c.in-All.inner
    ∙ ap (λ b. universal b (formula_view c.in-All.inner.value)) (sym c.deref-else-v.ensures.value)
    ∙ ap (λ g. universal these (formula_view g)) (sym c.deref-else-v-2.ensures) in
    subst (λ w. Narrows k c.lone.new.known c.lone.result (λ q. Obeys q w (formula_view c.args.formula.now) e))
    (sym c.if-v.false) (subst (λ f. Narrows k c.lone.new.known c.lone.result (λ q. Obeys q false f e)) (sym is)
    c.lone.ensures)

pub must-returns-then-v-2 : goal.must-returns-then-v-2
must-returns-then-v-2 t c =
    let k = c.args.known.now in
    let e = env_view c.args.env.now in
    let these = c.deref-then-v-2-2.result.now in
    let inner = c.deref-then-v-2-3.result.now in
    let is : formula_view c.args.formula.now ≡ existential these (formula_view inner) =
    ap formula_view c.in-Any.is ∙ formula_view-Any c.in-Any.bounds c.in-Any.inner
    ∙ ap (λ b. existential b (formula_view c.in-Any.inner.value)) (sym c.deref-then-v-2-2.ensures.value)
    ∙ ap (λ g. existential these (formula_view g)) (sym c.deref-then-v-2-3.ensures) in
    subst (λ w. Narrows k c.lone-then-v-2.new.known c.lone-then-v-2.result
    (λ q. Obeys q w (formula_view c.args.formula.now) e))
    (sym c.if-v-2.true) (subst (λ f. Narrows k c.lone-then-v-2.new.known c.lone-then-v-2.result (λ q. Obeys q true f
    e)) (sym is)
    c.lone-then-v-2.ensures)

pub must-returns-else-v-2 : goal.must-returns-else-v-2
must-returns-else-v-2 t c =
    let k = c.args.known.now in
    let e = env_view c.args.env.now in
    let these = c.deref-else-v-2-2.result.now in
    let inner = c.deref-else-v-2-3.result.now in
    let is : formula_view c.args.formula.now ≡ existential these (formula_view inner) =
    ap formula_view c.in-Any.is ∙ formula_view-Any c.in-Any.bounds c.in-Any.inner
    ∙ ap (λ b. existential b (formula_view c.in-Any.inner.value)) (sym c.deref-else-v-2-2.ensures.value)
    ∙ ap (λ g. existential these (formula_view g)) (sym c.deref-else-v-2-3.ensures) in
    subst (λ w. Narrows k c.all_instances-else-v-2.new.known c.all_instances-else-v-2.result
    (λ q. Obeys q w (formula_view c.args.formula.now) e))
    (sym c.if-v-2.false) (subst (λ f. Narrows k c.all_instances-else-v-2.new.known c.all_instances-else-v-2.result
    (λ q. Obeys q false f e)) (sym is)
    c.all_instances-else-v-2.ensures)

pub parts-returns-then-conjunction-v : goal.parts-returns-then-conjunction-v
parts-returns-then-conjunction-v t c =
    parts_all c.args.known.now c.all.new.known c.all.result (formulas_of (map formula_view c.args.formulas.now))
    (env_view c.args.env.now) c.args.conjunction c.args.v c.if-conjunction-v.true c.all.ensures

pub parts-returns-else-conjunction-v : goal.parts-returns-else-conjunction-v
parts-returns-else-conjunction-v t c =
    parts_last c.args.known.now c.last.new.known c.last.result (formulas_of (map formula_view c.args.formulas.now))
    (env_view c.args.env.now) c.args.conjunction c.args.v c.if-conjunction-v.false c.last.ensures
