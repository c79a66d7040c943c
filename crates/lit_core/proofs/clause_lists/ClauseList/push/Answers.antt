use Rattle.std.proofs.Common.{◌≡◌, ◌+◌, ◌++◌, ◌∷◌, [], ℕ, List, length, refl, sym, ap, ◌∙◌, arith}
use Rattle.lit_core.specs.declared.literals.Lit.{Lit}
use Rattle.lit_core.specs.declared.clause_lists.ClauseList.TheInside.{Inside}
use Rattle.lit_core.specs.ClauseListFields.{clauses_from}
use Rattle.lit_core.proofs.ClauseListFacts.{ascends-push, clauses-push, clauses-same, kept-same}
use Rattle.lit_core.proofs.clause_lists.ClauseList.push.Goals as goal

module _ (c : goal.After-push_reserved) where
  size : c.len-before.result + length c.args.lits.now ≡ length c.self.inside.lits.items + length c.args.lits.now
  size = ap (λ n. n + length c.args.lits.now) (c.len-before.ensures ∙ c.self.inside.lits.ok.0)

  lits : c.add_lits.new.arena.items ≡ c.self.inside.lits.items ++ c.args.lits.now
  lits = c.in-Ok.ensures.ok

  ends : c.push_reserved.new.self.items ≡ c.self.inside.ends.items
      ++ (c.len-before.result + length c.args.lits.now) ∷ []
  ends = c.push_reserved.ensures.items
      ∙ ap (λ (xs : List ℕ). xs ++ (c.len-before.result + length c.args.lits.now) ∷ []) c.reserve.ensures.items

pub invariant_of-self-in-Ok : goal.invariant_of-self-in-Ok
invariant_of-self-in-Ok c =
    let a : Inside = c.self.inside in
    let more : List Lit = c.args.lits.now in
    let end : ℕ = c.len-before.result + length more in
    kept-same c.add_lits.new.arena.items (a.lits.items ++ more) c.push_reserved.new.self.items
    (a.ends.items ++ end ∷ [])
    (lits c) (ends c) (ascends-push a.lits.items more a.ends.items end c.self.invariant (size c))

pub returns-in-Ok-clause-ok : goal.returns-in-Ok-clause-ok
returns-in-Ok-clause-ok c =
    let a : Inside = c.self.inside in
    let more : List Lit = c.args.lits.now in
    let end : ℕ = c.len-before.result + length more in
    clauses-same c.add_lits.new.arena.items (a.lits.items ++ more) c.push_reserved.new.self.items
    (a.ends.items ++ end ∷ []) (lits c) (ends c)
    ∙ clauses-push a.lits.items more a.ends.items end c.self.invariant (size c)
    ∙ ap (λ cs. cs ++ more ∷ []) c.self.view_is
