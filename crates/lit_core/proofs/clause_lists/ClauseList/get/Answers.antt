use Rattle.std.proofs.Common.{◌≡◌, ◌≤◌, ◌<◌, ◌-◌, ℕ, Some, List, [], ◌∷◌, length, take, drop, refl, sym, ap, ◌∙◌, arith}
use Rattle.std.proofs.Common.{slice_get}
use Rattle.std.specs.Prelude.{slice_index_or}
use Rattle.std.proofs.lemmas.Option.{slice_get_read}
use Rattle.lit_core.specs.declared.literals.Lit.{Lit}
use Rattle.lit_core.specs.declared.clause_lists.ClauseList.TheInside.{Inside}
use Rattle.lit_core.specs.ClauseListFields.{clauses_from, Ascends}
use Rattle.lit_core.proofs.ClauseListFacts.{bounds, clause-at, length-clauses}
use Rattle.lit_core.proofs.clause_lists.ClauseList.get.Goals as goal

pub returns-then-place-len : goal.returns-then-place-len
returns-then-place-len c =
    let size : length c.args.self.now ≡ length c.self.inside.ends.items = sym (ap length c.self.view_is)
    ∙ length-clauses c.self.inside.lits.items 0 c.self.inside.ends.items in
    omega (arith, c.if-place-len.true, c.len.ensures, c.self.inside.ends.ok.0, size)

module _ (a : Inside) (place end from : ℕ) (kept : Ascends 0 a.ends.items (length a.lits.items))
    (at : slice_get a.ends.items place ≡ Some end) (starts : from ≡ slice_index_or (0 ∷ a.ends.items) place 0) where
  ends : (from ≤ end) × (end ≤ length a.lits.items)
  ends =
      let both = bounds 0 a.ends.items (length a.lits.items) place end kept at in
      (omega (arith, both.0, starts), both.1)

  held : slice_get (clauses_from a.lits.items 0 a.ends.items) place ≡ Some (take (end - from) (drop from a.lits.items))
  held = clause-at a.lits.items 0 a.ends.items place end at
      ∙ ap (λ s. Some (take (end - s) (drop s a.lits.items))) (sym starts)

module _ (c : goal.After-deref-2) where
  at : slice_get c.self.inside.ends.items c.args.place ≡ Some c.index.result.now
  at = slice_get_read c.self.inside.ends.items (length c.self.inside.ends.items) c.args.place c.index.result.now refl
      (omega (arith, c.if-place-len.false, c.len.ensures, c.self.inside.ends.ok.0)) c.index.ensures

  within : (c.start_of-start.result ≤ c.index.result.now) × (c.index.result.now ≤ length c.self.inside.lits.items)
  within = ends c.self.inside c.args.place c.index.result.now c.start_of-start.result c.self.invariant at
      (c.start_of-start.ensures ∙ ap (λ (xs : List ℕ). slice_index_or (0 ∷ xs) c.args.place 0) c.deref.ensures.value)

pub offset_bounds-deref-start : goal.offset_bounds-deref-start
offset_bounds-deref-start c =
    let both = within c in
    let len = c.self.inside.lits.ok.0 in
    omega (arith, both.0, both.1, len)

pub slice_bounds-result-count : goal.slice_bounds-result-count
slice_bounds-result-count c = (within c).0

pub slice_bounds-result-start : goal.slice_bounds-result-start
slice_bounds-result-start c = omega (arith, (within c).0)

pub slice_bounds-result-end : goal.slice_bounds-result-end
slice_bounds-result-end c =
    let same : length c.deref-2.result.now ≡ length c.self.inside.lits.items = ap length c.deref-2.ensures.value in
    omega (arith, (within c).0, (within c).1, same)

pub returns : goal.returns
returns c =
    let at : slice_get c.self.inside.ends.items c.args.place ≡ Some c.index.result.now =
    slice_get_read c.self.inside.ends.items (length c.self.inside.ends.items) c.args.place c.index.result.now refl
    (omega (arith, c.if-place-len.false, c.len.ensures, c.self.inside.ends.ok.0)) c.index.ensures in
    ap (λ (cs : List (List Lit)). slice_get cs c.args.place) (sym c.self.view_is)
    ∙ held c.self.inside c.args.place c.index.result.now c.start_of-start.result c.self.invariant at
    (c.start_of-start.ensures ∙ ap (λ (xs : List ℕ). slice_index_or (0 ∷ xs) c.args.place 0) c.deref.ensures.value)
    ∙ ap (λ (lits : List Lit). Some (take (c.index.result.now - c.start_of-start.result)
    (drop c.start_of-start.result lits))) (sym c.deref-2.ensures.value)
