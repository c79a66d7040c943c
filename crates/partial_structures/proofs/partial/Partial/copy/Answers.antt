use Rattle.std.proofs.Common.{◌≡◌, ◌∙◌, length, subst, sym, ap, rules, refl}
use Rattle.std.specs.List.{AllByRecursion}
use Rattle.kb_logic.specs.Structures.{IsDistinct}
use Rattle.partial_structures.specs.Elements.{labels_in, HasElements}
use Rattle.row_tries.specs.Words.{words_in, words_of}
use Rattle.partial_structures.specs.Status.{known_atoms}
use Rattle.partial_structures.proofs.Views.{copied, same_count}
use Rattle.partial_structures.proofs.partial.Partial.copy.Goals as goal

pub invariant_of-result : goal.invariant_of-result
invariant_of-result c =
    let p = c.self.inside in
    let domains : c.domains.inside.items.items ≡ p.domains = c.domains.view_is ∙ c.in_ok-domains.ensures in
    let closed : c.in_ok-from_slice.field-0.items ≡ p.closed.items = search rules in
    let words = ap words_in c.in_ok-rows.ensures.words ∙ c.in_ok-words.ensures ∙ ap words_of c.in_ok-domains.ensures
    ∙ sym c.self.invariant.words in
    let q = record p {
      symbols = c.in_ok-copy.field-0;
      domains = c.domains.inside.items.items;
      closed =
          c.in_ok-from_slice.field-0;
      rows = c.in_ok-rows.rows;
      elements = c.in_ok-elements.elements;
    } in
    record {
      distinct = subst (AllByRecursion IsDistinct) (sym domains) c.self.invariant.distinct;
      flags = ap length closed ∙ c.self.invariant.flags ∙ ap length (sym c.in_ok-copy.ensures);
      words = words ∙ c.self.invariant.words ∙ ap words_of (sym domains);
      elements = subst (λ ds. HasElements (words_in c.in_ok-rows.rows.words) ds (labels_in c.in_ok-elements.elements))
          (c.as_slice.ensures ∙ sym c.domains.view_is) c.in_ok-elements.ensures;
      counted = same_count p q (known_atoms p) c.self.invariant.counted
          (copied p q (known_atoms p) refl c.in_ok-copy.ensures domains closed words c.in_ok-rows.ensures.nodes) refl;
    }

pub returns : goal.returns
returns c =
    let p = c.self.inside in
    let domains : c.domains.inside.items.items ≡ p.domains = c.domains.view_is ∙ c.in_ok-domains.ensures in
    let closed : c.in_ok-from_slice.field-0.items ≡ p.closed.items = search rules in
    let words = ap words_in c.in_ok-rows.ensures.words ∙ c.in_ok-words.ensures ∙ ap words_of c.in_ok-domains.ensures
    ∙ sym c.self.invariant.words in
    copied p (record p {
      symbols = c.in_ok-copy.field-0;
      domains = c.domains.inside.items.items;
      closed =
          c.in_ok-from_slice.field-0;
      rows = c.in_ok-rows.rows;
      elements = c.in_ok-elements.elements;
    }) c.args.self.now
    c.self.view_is
    c.in_ok-copy.ensures domains closed words c.in_ok-rows.ensures.nodes
