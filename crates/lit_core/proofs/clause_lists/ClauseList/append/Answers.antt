use Rattle.std.proofs.Common.{◌≡◌, ◌+◌, ◌≤◌, ◌<◌, ◌^◌, ◌++◌, ℕ, List, All, length, map, refl, sym, ap, ◌∙◌, arith}
use Rattle.std.proofs.Common.{subst}
use Rattle.lit_core.specs.declared.literals.Lit.{Lit}
use Rattle.lit_core.specs.declared.clause_lists.ClauseList.TheInside.{Inside}
use Rattle.lit_core.specs.ClauseListFields.{clauses_from}
use Rattle.lit_core.proofs.ClauseListFacts.{all-within, ascends-append, clauses-append, clauses-same, kept-same}
use Rattle.lit_core.proofs.clause_lists.ClauseList.append.Goals as goal

pub add_ends-requires-clause-small : goal.add_ends-requires-clause-small
add_ends-requires-clause-small c =
    let a : Inside = c.more.inside in
    let within : All (λ e. e ≤ length a.lits.items) c.deref.result.now =
    subst (All (λ e. e ≤ length a.lits.items)) (sym c.deref.ensures.value) (all-within 0 a.ends.items
    (length a.lits.items) c.more.invariant) in
    λ k d lt. omega (
      arith,
      within k d lt,
      c.if-len.false,
      c.if-before-len.false,
      c.len.ensures,
      c.len-else-len.ensures,
      c.len-2.ensures,
      c.len-before.ensures,
      a.lits.ok.0,
    )

module _ (c : goal.After-add_ends) where
  abbrev a : Inside
  a = c.self.inside

  abbrev b : Inside
  b = c.more.inside

  lits : c.extend_from_slice.new.self.items ≡ a.lits.items ++ b.lits.items
  lits = c.in_ok-extend_from_slice.ensures.items ∙ ap (λ (xs : List Lit). a.lits.items ++ xs) c.as_slice.ensures.value

  ends : c.add_ends.new.ends.items ≡ a.ends.items ++ map (λ e. length a.lits.items + e) b.ends.items
  ends = c.add_ends.ensures ∙ ap (λ (xs : List ℕ). c.reserve.new.self.items
      ++ map (λ e. c.len-before.result + e) xs) c.deref.ensures.value
      ∙ ap (λ (xs : List ℕ). xs ++ map (λ e. c.len-before.result + e) b.ends.items) c.reserve.ensures.items
      ∙ ap (λ n. a.ends.items ++ map (λ e. n + e) b.ends.items) (c.len-before.ensures ∙ a.lits.ok.0)

pub invariant_of-self-2 : goal.invariant_of-self-2
invariant_of-self-2 c =
    let a : Inside = c.self.inside in
    let b : Inside = c.more.inside in
    kept-same c.extend_from_slice.new.self.items (a.lits.items ++ b.lits.items) c.add_ends.new.ends.items
    (a.ends.items ++ map (λ e. length a.lits.items + e) b.ends.items) (lits c) (ends c)
    (ascends-append a.lits.items b.lits.items a.ends.items b.ends.items c.self.invariant c.more.invariant)

pub returns-clause-ok : goal.returns-clause-ok
returns-clause-ok c =
    let a : Inside = c.self.inside in
    let b : Inside = c.more.inside in
    clauses-same c.extend_from_slice.new.self.items (a.lits.items ++ b.lits.items) c.add_ends.new.ends.items
    (a.ends.items ++ map (λ e. length a.lits.items + e) b.ends.items) (lits c) (ends c)
    ∙ clauses-append a.lits.items b.lits.items a.ends.items b.ends.items c.self.invariant
    ∙ ap (λ cs. cs ++ clauses_from b.lits.items 0 b.ends.items) c.self.view_is
    ∙ ap (λ cs. c.args.self.now ++ cs) c.more.view_is
