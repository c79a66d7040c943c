use Rattle.std.proofs.Common.{◌≡◌, List, Some, false, true, ap, map, sym, subst, ◌∙◌, rules}
use Rattle.std.proofs.lemmas.Result.{on_ok_weaker}
use Rattle.std.specs.List.{AllByRecursion}
use Rattle.row_tries.specs.Lent.{lent_view}
use Rattle.stage_definitions.specs.DataFacts.{Fact}
use Rattle.structure_entries.specs.EntryViews.{row_view, subject_view}
use Rattle.data_filling.specs.Filling.{Adds, IsFactOver, IsOpenTo}
use Rattle.data_filling.proofs.RowsOver.{nothing_said, single_said, unfit}
use Rattle.data_filling.proofs.Steps.{adds_nothing}
use Rattle.data_filling.proofs.rows.add_one.Goals as goal

pub returns-in_default : goal.returns-in_default
returns-in_default c =
    subst (λ (fs : List Fact). Adds c.args.partial.now c.args.partial.now fs)
    (sym (nothing_said c.args.holds (subject_view c.args.subject) (row_view c.args.row.now)
    (sym c.symbol_of.ensures ∙ c.in_default.is))) (adds_nothing c.args.partial.now)

pub returns-then-not-fits_in : goal.returns-then-not-fits_in
returns-then-not-fits_in c =
    let no : c.fits_in.result ≡ false = search rules in
    subst (λ (fs : List Fact). Adds c.args.partial.now c.args.partial.now fs)
    (sym (unfit c.args.holds (subject_view c.args.subject) (row_view c.args.row.now) (sym c.fits_in.ensures ∙ no)))
    (adds_nothing c.args.partial.now)

pub add_single-requires-clause-over : goal.add_single-requires-clause-over
add_single-requires-clause-over c =
    let r = row_view c.args.row.now in
    let fits : c.fits_in.result ≡ true = search rules in
    let yes : c.in_ok-set_args.field-0 ≡ true = search rules in
    let xs = map lent_view c.deref.result.now in
    let is = single_said c.args.holds (subject_view c.args.subject) c.in-Some.symbol r xs
    (sym c.symbol_of.ensures ∙ c.in-Some.is) (sym c.fits_in.ensures ∙ fits)
    (c.in_ok-set_args.ensures yes ∙ ap (λ ys. Some (map lent_view ys)) (sym c.deref.ensures.value)) in
    (subst (λ (fs : List Fact). AllByRecursion (IsFactOver c.args.partial.now.symbols c.args.partial.now.domains) fs) is
    c.requires.over).0

pub add_single-requires-clause-open_to : goal.add_single-requires-clause-open_to
add_single-requires-clause-open_to c =
    let r = row_view c.args.row.now in
    let fits : c.fits_in.result ≡ true = search rules in
    let yes : c.in_ok-set_args.field-0 ≡ true = search rules in
    let xs = map lent_view c.deref.result.now in
    let is = single_said c.args.holds (subject_view c.args.subject) c.in-Some.symbol r xs
    (sym c.symbol_of.ensures ∙ c.in-Some.is) (sym c.fits_in.ensures ∙ fits)
    (c.in_ok-set_args.ensures yes ∙ ap (λ ys. Some (map lent_view ys)) (sym c.deref.ensures.value)) in
    subst (λ (fs : List Fact). IsOpenTo c.args.partial.now fs) is c.requires.open_to

pub returns-then-branch : goal.returns-then-branch
returns-then-branch c =
    let r = row_view c.args.row.now in
    let fits : c.fits_in.result ≡ true = search rules in
    let yes : c.in_ok-set_args.field-0 ≡ true = search rules in
    let xs = map lent_view c.deref.result.now in
    let is = single_said c.args.holds (subject_view c.args.subject) c.in-Some.symbol r xs
    (sym c.symbol_of.ensures ∙ c.in-Some.is) (sym c.fits_in.ensures ∙ fits)
    (c.in_ok-set_args.ensures yes ∙ ap (λ ys. Some (map lent_view ys)) (sym c.deref.ensures.value)) in
    on_ok_weaker c.add_single.result
    (λ a. subst (λ (fs : List Fact). Adds c.args.partial.now c.add_single.new.partial fs) (sym is) a)
    c.add_single.ensures
