use Rattle.std.proofs.Common.{◌≡◌, ◌++◌, ◌∙◌, length, sym, ap}
use Rattle.std.proofs.lemmas.Bool.{eqb-true}
use Rattle.kb_logic.specs.Structures.{choices}
use Rattle.kb_logic.specs.Views.{rule_view}
use Rattle.quantifier_bounds.proofs.Fixed.{no_choices}
use Rattle.quantifier_bounds.proofs.derivation.has_no_instance.Goals as goal

pub returns : goal.returns
returns c =
    let k = c.args.known.now in
    let vars = (rule_view c.args.rule.now).vars in
    let these = c.split_in.result.0.bounds.now in
    let others = c.split_in.result.1.now in
    let slice : c.as_slice.result.now ≡ k.domains = c.as_slice.ensures ∙ c.domains.ensures.domains in
    let count : c.split_in.result.0.count ≡ length (choices k.domains these) =
    c.split_in.ensures.count ∙ ap (λ d. length (choices d these)) slice in
    let parts : vars ≡ these ++ others = sym c.as_slice-bounds.ensures ∙ c.split_in.ensures.parts in
    λ none. no_choices k.domains vars these others parts (sym count ∙ eqb-true c.split_in.result.0.count 0 none)
