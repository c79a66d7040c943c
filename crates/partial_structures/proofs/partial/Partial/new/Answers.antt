use Rattle.std.proofs.Common.{◌≡◌, ◌∙◌, length, sym, ap, subst, rules}
use Rattle.partial_structures.specs.KnownAtoms.{KnownAtoms, nothing_known}
use Rattle.partial_structures.specs.Elements.{labels_in, HasElements}
use Rattle.row_tries.specs.Words.{words_in}
use Rattle.partial_structures.proofs.Views.{nothing, all_down}
use Rattle.partial_structures.proofs.partial.Partial.new.Goals as goal

pub invariant_of-result : goal.invariant_of-result
invariant_of-result c =
    let none = nothing (record {
      symbols = c.in_ok-symbols.symbols;
      domains = c.args.domains;
      closed =
          c.in_ok-closed.closed;
      rows = c.new-rows.result;
      elements = c.in_ok-elements.elements;
      count = 0;
    })
    c.new-rows.ensures.nodes
    (all_down c.in_ok-closed.closed.items _ (c.in_ok-closed.ensures.items_if_clones_equal (λ y h. h))) in
    let flags : length c.in_ok-closed.closed.items ≡ length c.in_ok-symbols.symbols = search rules in
    record {
      distinct = c.requires.distinct;
      flags = flags;
      words = ap words_in c.new-rows.ensures.words ∙ c.in_ok-words.ensures;
      elements = subst (λ ds. HasElements (words_in c.new-rows.result.words) ds (labels_in c.in_ok-elements.elements))
          c.as_slice.ensures c.in_ok-elements.ensures;
      counted = sym (ap (λ (k : KnownAtoms). length k.true_atoms) none);
    }

pub returns : goal.returns
returns c =
    nothing (record {
      symbols = c.in_ok-symbols.symbols;
      domains = c.args.domains;
      closed = c.in_ok-closed.closed;
      rows = c.new-rows.result;
      elements = c.in_ok-elements.elements;
      count = 0;
    }) c.new-rows.ensures.nodes
    (all_down c.in_ok-closed.closed.items _ (c.in_ok-closed.ensures.items_if_clones_equal (λ y h. h)))
    ∙ ap (λ s. nothing_known s c.args.domains) c.in_ok-symbols.ensures
