use Rattle.std.proofs.Common.{refl, sym, subst, ◌++◌, ◌∷◌, []}
use Rattle.std.proofs.lemmas.Map.Text.{hash_map_updates_str}
use Rattle.kb_logic.specs.declared.elements.Elem.TheVariants.{Named}
use Rattle.term_values.specs.DomainIndexes.{IsIndexOf}
use Rattle.term_values.specs.declared.domain_index.DomainIndex.{DomainIndex}
use Rattle.term_values.proofs.IndexLemmas.{name_added, added_again, elem_named}
use Rattle.term_values.proofs.domain_index.DomainIndex.add_name.Goals as goal

pub returns-in_ok-insert : goal.returns-in_ok-insert
returns-in_ok-insert c = λ x xs e is at.
    let index : DomainIndex = record { names = c.insert.new.self; numbers = c.args.self.now.numbers } in
    subst (λ y. IsIndexOf index (xs ++ y ∷ [])) (sym (elem_named x c.args.name.now e))
    (name_added c.args.self.now index c.args.place xs is at
    c.args.name.now c.contains_key.result c.contains_key.ensures c.if-not-contains_key.true refl
    (hash_map_updates_str c.args.name.now c.args.self.now.names c.insert.new.self _ c.in_ok-insert.ensures.updates))

pub returns-else-not-contains_key : goal.returns-else-not-contains_key
returns-else-not-contains_key c = λ x xs e is at.
    subst (λ y. IsIndexOf c.args.self.now (xs ++ y ∷ [])) (sym (elem_named x c.args.name.now e))
    (added_again c.args.self.now c.args.self.now c.args.place xs is at (Named c.args.name.now) c.contains_key.result
    c.contains_key.ensures c.if-not-contains_key.false)
