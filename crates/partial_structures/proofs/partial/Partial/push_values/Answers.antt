use Rattle.std.proofs.Common.{◌≡◌, ◌++◌, ◌∙◌, ap, sym, [], Some, None, slice_get}
use Rattle.std.specs.Option.{option_copied}
use Rattle.std.proofs.lemmas.Result.{on_ok_weaker}
use Rattle.partial_structures.specs.KnownAtoms.{KnownAtoms}
use Rattle.partial_structures.specs.Flags.{is_closed}
use Rattle.partial_structures.specs.Ordered.{beyond}
use Rattle.row_tries.specs.Rows.{node_of}
use Rattle.row_tries.specs.Words.{words_in}
use Rattle.std.proofs.lemmas.List.{append-nil}
use Rattle.partial_structures.proofs.Ordering.{all_known, none_known}
use Rattle.partial_structures.proofs.partial.Partial.push_values.Goals as goal

pub returns-in-Some : goal.returns-in-Some
returns-in-Some c =
    let s = c.lent-s.result in
    let d = c.in-Some.declared.now in
    let n = c.args.symbol in
    let ws = words_in s.rows.now.words in
    let es = s.rows.now.nodes.entries in
    let at : slice_get s.symbols.now n ≡ Some d =
    ap (λ (k : KnownAtoms). slice_get k.symbols n) (c.lent-s.ensures ∙ sym c.self.view_is) ∙ sym c.get.ensures
    ∙ ap option_copied c.in-Some.is in
    on_ok_weaker c.push_beyond.result (λ e. e
    ∙ ap (λ l. c.args.out.now.items ++ l) (
    ap (λ f. beyond ws es f s.domains.now c.root.result c.as_slice.result.now d.value) c.flag.ensures
    ∙ ap (λ i. beyond ws es (is_closed s.closed.now n) s.domains.now i c.as_slice.result.now d.value) c.root.ensures
    ∙ ap (λ ts. beyond ws es (is_closed s.closed.now n) s.domains.now (node_of ws es n []) ts d.value)
    c.as_slice.ensures
    ∙ all_known s c.args.self.now n d c.lent-s.ensures at)) c.push_beyond.ensures

pub returns-in-None : goal.returns-in-None
returns-in-None c =
    let s = c.lent-s.result in
    let at : slice_get s.symbols.now c.args.symbol ≡ None =
    ap (λ (k : KnownAtoms). slice_get k.symbols c.args.symbol) (c.lent-s.ensures ∙ sym c.self.view_is)
    ∙ sym c.get.ensures ∙ ap option_copied c.in-None.is in
    sym (ap (λ l. c.args.out.now.items ++ l) (none_known s c.args.self.now c.args.symbol c.lent-s.ensures at)
    ∙ append-nil c.args.out.now.items)
