use Rattle.std.proofs.Common.{◌≡◌, refl, sym, subst, cond, Some, is_some, int_eq, w64, ◌++◌, ◌∷◌, []}
use Rattle.std.proofs.lemmas.Int.{to_z-of_z}
use Rattle.indexmap.specs.IndexMap.{get_by}
use Rattle.kb_logic.specs.declared.elements.Elem.TheVariants.{Num}
use Rattle.term_values.specs.DomainIndexes.{IsIndexOf}
use Rattle.term_values.specs.declared.domain_index.DomainIndex.{DomainIndex}
use Rattle.term_values.proofs.IndexLemmas.{number_added, added_again, elem_number}
use Rattle.term_values.proofs.domain_index.DomainIndex.add_number.Goals as goal

pub returns-in_ok-insert : goal.returns-in_ok-insert
returns-in_ok-insert c = λ x xs e is at.
    let old = c.args.self.now.numbers in
    let new = c.insert.new.self in
    let same = to_z-of_z w64 c.args.n c.ranges.n in
    let index : DomainIndex = record { names = c.args.self.now.names; numbers = new } in
    subst (λ y. IsIndexOf index (xs ++ y ∷ [])) (sym (elem_number x c.args.n e))
    (number_added c.args.self.now index c.args.place xs is at
    c.args.n c.contains_key.result
    (subst (λ n. c.contains_key.result ≡ is_some (get_by (int_eq n) old)) same c.contains_key.ensures)
    c.if-not-contains_key.true refl
    (λ z. subst (λ n. get_by (int_eq z) new ≡ cond (int_eq n z) (Some c.args.place) (get_by (int_eq z) old)) same
    (c.in_ok-insert.ensures.updates.0 z)))

pub returns-else-not-contains_key : goal.returns-else-not-contains_key
returns-else-not-contains_key c = λ x xs e is at.
    let same = to_z-of_z w64 c.args.n c.ranges.n in
    subst (λ y. IsIndexOf c.args.self.now (xs ++ y ∷ [])) (sym (elem_number x c.args.n e))
    (added_again c.args.self.now c.args.self.now c.args.place xs is at (Num c.args.n) c.contains_key.result
    (subst (λ n. c.contains_key.result ≡ is_some (get_by (int_eq n) c.args.self.now.numbers)) same
    c.contains_key.ensures)
    c.if-not-contains_key.false)
