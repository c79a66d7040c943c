use Rattle.std.proofs.Common.{◌≡◌, ◌∙◌, ◌*◌, length, sym, ap}
use Rattle.kb_logic.specs.Structures.{choices}
use Rattle.kb_logic.specs.Weights.{application_count, occurrences, term_occurrences}
use Rattle.kb_logic.specs.Views.{formula_view, term_view}
use Rattle.kb_logic.proofs.ViewsOf.{formula_view-Number, term_view-Agg}
use Rattle.stage_definitions.specs.SizesStage.{capped}
use Rattle.size_stage.proofs.Capping.{under_binder, one_more, three_parts, compared, weighted}
use Rattle.size_stage.proofs.Fair.{formula_fair, term_fair}
use Rattle.size_stage.proofs.Steps.{formula_view-All, formula_view-Any, formula_view-Compare}
use Rattle.size_stage.proofs.occurrences.+occurrences.Goals as goal

pub formula-returns-in-All : goal.formula-returns-in-All
formula-returns-in-All t c =
    let v = c.args.vocab.now in
    let d = c.args.domains.now in
    let f = formula_view c.deref-in-All.result.now in
    let l = length (choices d c.deref-in-All-2.result.now) in
    rw (c.in-All.is, formula_view-All, ← c.deref-in-All.ensures, ← c.deref-in-All-2.ensures.value)
    (one_more c.args.n c.formula-in-All.result c.plus-in-All.result (occurrences v d f (c.args.n * l))
    (under_binder (occurrences v d f) (formula_fair v d f) c.args.n l c.assignments.result c.times-in-All.result
    c.formula-in-All.result c.assignments.ensures c.times-in-All.ensures c.formula-in-All.ensures)
    c.plus-in-All.ensures)

pub formula-returns-in-Any : goal.formula-returns-in-Any
formula-returns-in-Any t c =
    let v = c.args.vocab.now in
    let d = c.args.domains.now in
    let f = formula_view c.deref-in-Any.result.now in
    let l = length (choices d c.deref-in-Any-2.result.now) in
    rw (c.in-Any.is, formula_view-Any, ← c.deref-in-Any.ensures, ← c.deref-in-Any-2.ensures.value)
    (one_more c.args.n c.formula-in-Any.result c.plus-in-Any.result (occurrences v d f (c.args.n * l))
    (under_binder (occurrences v d f) (formula_fair v d f) c.args.n l c.assignments-in-Any.result c.times-in-Any.result
    c.formula-in-Any.result c.assignments-in-Any.ensures c.times-in-Any.ensures c.formula-in-Any.ensures)
    c.plus-in-Any.ensures)

pub formula-returns-in-Number : goal.formula-returns-in-Number
formula-returns-in-Number t c =
    let v = c.args.vocab.now in
    let d = c.args.domains.now in
    let f = formula_view c.deref-in-Number.result.now in
    let l = length (choices d c.deref-in-Number-2.result.now) in
    rw (c.in-Number.is, formula_view-Number, ← c.deref-in-Number.ensures, ← c.deref-in-Number-2.ensures.value)
    (one_more c.args.n c.formula-in-Number.result c.plus-in-Number.result (occurrences v d f (c.args.n * l))
    (under_binder (occurrences v d f) (formula_fair v d f) c.args.n l c.assignments-in-Number.result
    c.times-in-Number.result c.formula-in-Number.result c.assignments-in-Number.ensures c.times-in-Number.ensures
    c.formula-in-Number.ensures)
    c.plus-in-Number.ensures)

pub term-returns-in-Agg : goal.term-returns-in-Agg
term-returns-in-Agg t c =
    let v = c.args.vocab.now in
    let d = c.args.domains.now in
    let f = formula_view c.deref-in-Agg-3.result.now in
    let w = term_view c.deref-in-Agg-4.result.now in
    let n = c.args.n in
    let l = length (choices d c.deref-in-Agg.result.now) in
    let one : c.deref-in-Agg-2.result.now ≡ c.deref-in-Agg-4.result.now = c.deref-in-Agg-2.ensures
    ∙ sym c.deref-in-Agg-4.ensures in
    let weight = c.in_term.ensures ∙ ap (λ x. capped (application_count v d (term_view x))) one in
    rw (
      c.in-Agg.is,
      term_view-Agg,
      ← c.deref-in-Agg.ensures.value,
      ← c.deref-in-Agg-3.ensures,
      ← c.deref-in-Agg-4.ensures,
    )
    (three_parts (n * l * application_count v d w) (occurrences v d f (n * l)) (term_occurrences v d w (n * l))
    c.plus-own.result c.plus.result c.times.result c.formula.result c.term.result 0
    (weighted c.times-inner.result n l c.assignments.result (application_count v d w) c.in_term.result c.times.result
    c.assignments.ensures c.times-inner.ensures weight c.times.ensures)
    (under_binder (occurrences v d f) (formula_fair v d f) n l c.assignments.result c.times-inner.result
    c.formula.result c.assignments.ensures c.times-inner.ensures c.formula.ensures)
    (under_binder (term_occurrences v d w) (term_fair v d w) n l c.assignments.result c.times-inner.result c.term.result
    c.assignments.ensures c.times-inner.ensures c.term.ensures)
    c.plus-own.ensures c.plus.ensures)

pub formula-returns-in-Compare : goal.formula-returns-in-Compare
formula-returns-in-Compare t c =
    let v = c.args.vocab.now in
    let d = c.args.domains.now in
    let n = c.args.n in
    let a = term_view c.in-Compare.left in
    let b = term_view c.in-Compare.right in
    rw (c.in-Compare.is, formula_view-Compare)
    (three_parts (n * (application_count v d a * application_count v d b)) (term_occurrences v d a n)
    (term_occurrences v d b n) c.plus-first.result c.plus-in-Compare.result c.times-own.result c.term.result
    c.term-in-Compare.result 0
    (compared n (application_count v d a) (application_count v d b) c.in_term.result c.in_term-in-Compare.result
    c.times-in-Compare.result c.times-own.result c.in_term.ensures c.in_term-in-Compare.ensures
    c.times-in-Compare.ensures c.times-own.ensures)
    c.term.ensures c.term-in-Compare.ensures c.plus-first.ensures c.plus-in-Compare.ensures)
