use Rattle.std.proofs.Common.{◌≡◌, ◌≤◌, ℕ, List, ◌∷◌, length, take, refl, sym, ap, ◌∙◌, arith, subst}
use Rattle.std.specs.Prelude.{slice_index_or}
use Rattle.std.proofs.lemmas.List.{take_all}
use Rattle.lit_core.specs.declared.literals.Lit.{Lit}
use Rattle.lit_core.specs.declared.clause_lists.ClauseList.TheInside.{Inside}
use Rattle.lit_core.specs.ClauseListFields.{clauses_from, Ascends}
use Rattle.lit_core.proofs.ClauseListFacts.{ascends-cut, clauses-cut, length-clauses, length-cut}
use Rattle.lit_core.proofs.clause_lists.ClauseList.truncate.Goals as goal

module _ (c : goal.After-truncate-then-len) where
  abbrev a : Inside
  a = c.self.inside

  few : c.args.len ≤ length a.ends.items
  few = omega (arith, c.if-len.true, c.len.ensures, a.ends.ok.0)

  end : c.start_of-end.result ≡ slice_index_or (0 ∷ a.ends.items) c.args.len 0
  end = c.start_of-end.ensures ∙ ap (λ (xs : List ℕ). slice_index_or (0 ∷ xs) c.args.len 0) c.deref.ensures.value

  lits : c.truncate-then-len.new.self.items ≡ take (slice_index_or (0 ∷ a.ends.items) c.args.len 0) a.lits.items
  lits = c.truncate-then-len.ensures.items ∙ ap (λ n. take n a.lits.items) end

pub invariant_of-self : goal.invariant_of-self
invariant_of-self c =
    let cut = ascends-cut 0 (a c).ends.items (length (a c).lits.items) c.args.len c.self.invariant (few c) in
    let len : length c.truncate-then-len.new.self.items ≡ slice_index_or (0 ∷ (a c).ends.items) c.args.len 0 =
    ap length (lits c) ∙ length-cut (a c).lits.items (a c).ends.items c.args.len c.self.invariant (few c) in
    rw (c.truncate.ensures.items, len) cut

pub returns-then-len : goal.returns-then-len
returns-then-len c =
    ap (λ xs. clauses_from xs 0 c.truncate.new.self.items) (lits c)
    ∙ ap (clauses_from (take (slice_index_or (0 ∷ (a c).ends.items) c.args.len 0) (a c).lits.items) 0)
    c.truncate.ensures.items
    ∙ clauses-cut (a c).lits.items 0 (a c).ends.items c.args.len c.self.invariant (few c)
    ∙ ap (take c.args.len) c.self.view_is

pub returns-else-len : goal.returns-else-len
returns-else-len c =
    let size : length c.args.self.now ≡ length c.self.inside.ends.items = sym (ap length c.self.view_is)
    ∙ length-clauses c.self.inside.lits.items 0 c.self.inside.ends.items in
    sym (take_all c.args.len c.args.self.now (omega (
      arith,
      c.if-len.false,
      c.len.ensures,
      c.self.inside.ends.ok.0,
      size,
    )))
