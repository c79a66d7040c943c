use Rattle.std.proofs.Common.{◌∙◌, sym, ap, length, ◌<◌, subst, get_or}
use Rattle.std.proofs.lemmas.Option.{get_or_from_slice_get}
use Rattle.term_values.specs.GroundBases.{first_var}
use Rattle.term_values.proofs.CountLemmas.{first_vars_length, first_var_at}
use Rattle.term_values.proofs.ground_data.GroundData.first_var.Goals as goal

pub bounds-as_slice-symbol : goal.bounds-as_slice-symbol
bounds-as_slice-symbol c =
    let i = c.self.inside in
    let symbols = i.vocabulary.now.symbols in
    let size = ap length (c.as_slice.ensures.value ∙ c.self.invariant.firsts)
    ∙ first_vars_length i.domains.now symbols (length symbols) in
    let inside : c.args.symbol < length symbols =
    subst (λ b. c.args.symbol < length b.vocabulary.symbols) (sym c.self.view_is) c.requires in
    subst (λ n. c.args.symbol < n) (sym size) inside

pub returns : goal.returns
returns c =
    let i = c.self.inside in
    let symbols = i.vocabulary.now.symbols in
    let inside : c.args.symbol < length symbols =
    subst (λ b. c.args.symbol < length b.vocabulary.symbols) (sym c.self.view_is) c.requires in
    let at = first_var_at i.domains.now symbols (length symbols) c.args.symbol inside in
    let read = get_or_from_slice_get _ c.args.symbol _ 0 at in
    ap (λ l. get_or l c.args.symbol 0) (c.as_slice.ensures.value ∙ c.self.invariant.firsts)
    ∙ (read ∙ ap (λ b. first_var b c.args.symbol) c.self.view_is)
