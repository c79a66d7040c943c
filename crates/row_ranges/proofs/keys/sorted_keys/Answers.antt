use Rattle.std.proofs.Common.{◌≡◌, map, sym, subst}
use Rattle.std.specs.List.{Contains}
use Rattle.std.specs.Option.{IfSome}
use Rattle.std.proofs.lemmas.List.Sorted.{Contains-permutation, IsNonDecreasingBy-from_sort}
use Rattle.row_ranges.specs.Keys.{key_of}
use Rattle.row_ranges.proofs.Searching.{contains-map}
use Rattle.row_ranges.proofs.keys.sorted_keys.Goals as goal

pub returns-clause-keys : goal.returns-clause-keys
returns-clause-keys c = λ i at.
    let f = key_of c.args.domains.now c.args.types.now c.args.own.now in
    let made : c.in-Some.keys.items ≡ map f c.args.rows.now =
    subst (λ o. IfSome o (λ ks. ks.items ≡ map f c.args.rows.now)) c.in-Some.is c.in_ok-keys.ensures in
    Contains-permutation c.in-Some.keys.items c.sort.new.self.items (f i) c.in_ok-sort.ensures.permutation
    (subst (λ ks. Contains ks (f i)) (sym made) (contains-map f c.args.rows.now i at))

pub returns-clause-rising : goal.returns-clause-rising
returns-clause-rising c =
    IsNonDecreasingBy-from_sort (λ x. x) c.sort.new.self.items c.in_ok-sort.ensures.sorted
