use Rattle.std.proofs.Common.{sym, subst}
use Rattle.std.specs.Prelude.{IsTrue}
use Rattle.std.proofs.lemmas.Cmp.{nat_cmp_total}
use Rattle.std.proofs.lemmas.Map.Lookups.{exact_unsigned}
use Rattle.std.proofs.lemmas.Map.Views.{btree_set_contains_iff}
use Rattle.conflict_analysis.proofs.place_sets.is_far.Goals as goal

pub returns : goal.returns
returns c =
    let iff = btree_set_contains_iff nat_cmp_total exact_unsigned c.args.far.now c.args.place in
    (λ e. iff.0 (subst IsTrue c.contains.ensures e), λ has. subst IsTrue (sym c.contains.ensures) (iff.1 has))
