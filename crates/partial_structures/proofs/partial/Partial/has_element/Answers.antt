use Rattle.row_tries.specs.Words.{words_in}
use Rattle.std.proofs.Common.{◌∙◌, ap, subst, sym}
use Rattle.std.specs.Prelude.{Contains, MatchBool}
use Rattle.kb_logic.specs.Structures.{domain_at}
use Rattle.partial_structures.specs.Elements.{labels_in, has_label_of}
use Rattle.partial_structures.proofs.ElementLemmas.{tells_membership}
use Rattle.partial_structures.proofs.partial.Partial.has_element.Goals as goal

pub returns : goal.returns
returns c =
    let p = c.self.inside in
    let x = c.args.elem.now in
    let tells = tells_membership (words_in p.rows.words) p.domains (labels_in p.elements) c.self.invariant.words
    c.self.invariant.elements c.args.ty x in
    subst (λ k. MatchBool c.contains.result (Contains (domain_at k.domains c.args.ty) x)
    (Contains (domain_at k.domains c.args.ty) x → ⊥)) c.self.view_is
    (subst (λ b. MatchBool b (Contains (domain_at p.domains c.args.ty) x) (Contains (domain_at p.domains c.args.ty) x
    → ⊥)) (sym (c.contains.ensures ∙ ap (has_label_of (labels_in p.elements) c.args.ty) c.label.ensures)) tells)
