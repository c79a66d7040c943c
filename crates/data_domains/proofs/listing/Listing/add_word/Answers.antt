use Rattle.std.proofs.Common.{arith}
use Rattle.std.proofs.lemmas.Grind.{common_steps}
use Rattle.std.proofs.Common.{◌≡◌, ◌∙◌, true, false, Bor, List, ℕ, ◌++◌, ◌∷◌, [], ap, refl, sym, rules}
use Rattle.std.specs.Str.{bytes_eq}
use Rattle.kb_logic.specs.declared.elements.Elem.TheVariants as elem
use Rattle.data_domains.proofs.Aheads.{new_element, old_element}
use Rattle.data_domains.proofs.Keys.{list_any-map}
use Rattle.data_domains.proofs.listing.Listing.add_word.Goals as goal

pub returns-then-contains-clause-elems : goal.returns-then-contains-clause-elems
returns-then-contains-clause-elems c =
    let s = c.args.self.now in
    let w = c.args.word.now in
    let found : c.contains.result ≡ true = search rules in
    let listed = sym (c.requires.listing.words w)
    ∙ list_any-map (λ (v : Bor (List ℕ)). v.now) (bytes_eq w) (λ (v : Bor (List ℕ)). bytes_eq w v.now) (λ x. refl)
    s.words.keys ∙ sym c.contains.ensures ∙ found in
    sym (old_element s.elems (elem.Named w) listed)

pub returns-clause-elems : goal.returns-clause-elems
returns-clause-elems c =
    let s = c.args.self.now in
    let w = c.args.word.now in
    let missing : c.contains.result ≡ false = search rules in
    let unlisted = sym (c.requires.listing.words w)
    ∙ list_any-map (λ (v : Bor (List ℕ)). v.now) (bytes_eq w) (λ (v : Bor (List ℕ)). bytes_eq w v.now) (λ x. refl)
    s.words.keys ∙ sym c.contains.ensures ∙ missing in
    c.in_ok-push.ensures.ok ∙ ap (λ x. s.elems ++ elem.Named x ∷ []) c.in_ok-new.ensures
    ∙ new_element s.elems (elem.Named w) unlisted

pub returns-clause-listing : goal.returns-clause-listing
returns-clause-listing c = grind (arith, common_steps)
