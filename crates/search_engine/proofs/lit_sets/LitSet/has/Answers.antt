use Rattle.std.proofs.Common.{Bool, sym, subst, Contains}
use Rattle.std.specs.Prelude.{IsTrue}
use Rattle.std.proofs.lemmas.Cmp.{nat_cmp_total}
use Rattle.std.proofs.lemmas.Map.Lookups.{exact_unsigned}
use Rattle.std.proofs.lemmas.Map.Views.{btree_set_contains_iff}
use Rattle.search_engine.specs.LitSets.{numbers_of}
use Rattle.search_engine.proofs.lit_sets.LitSet.has.Goals as goal

pub returns-then-lit : goal.returns-then-lit
returns-then-lit c =
    let iff = btree_set_contains_iff nat_cmp_total exact_unsigned c.args.self.now.positive c.args.lit.var.0 in
    subst (λ (b : Bool). (IsTrue c.contains.result → Contains (numbers_of c.args.self.now b) c.args.lit.var.0)
    × (Contains (numbers_of c.args.self.now b) c.args.lit.var.0 → IsTrue c.contains.result)) (sym c.if-lit.true)
    ((λ e. iff.0 (subst IsTrue c.contains.ensures e)), (λ has. subst IsTrue (sym c.contains.ensures) (iff.1 has)))

pub returns-else-lit : goal.returns-else-lit
returns-else-lit c =
    let iff = btree_set_contains_iff nat_cmp_total exact_unsigned c.args.self.now.negative c.args.lit.var.0 in
    subst (λ (b : Bool). (IsTrue c.contains-else-lit.result → Contains (numbers_of c.args.self.now b) c.args.lit.var.0)
    × (Contains (numbers_of c.args.self.now b) c.args.lit.var.0 → IsTrue c.contains-else-lit.result))
    (sym c.if-lit.false) (
      (λ e. iff.0 (subst IsTrue c.contains-else-lit.ensures e)),
      (λ has. subst IsTrue (sym c.contains-else-lit.ensures) (iff.1 has)),
    )
