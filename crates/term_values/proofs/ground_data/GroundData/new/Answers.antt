use Rattle.std.proofs.Common.{◌∙◌, sym, ap, length, ◌≡◌, ◌<◌, subst}
use Rattle.std.specs.List.{sum_by}
use Rattle.std.proofs.lemmas.List.{length-map}
use Rattle.kb_logic.specs.KnownAtoms.{atoms_over}
use Rattle.partial_structures.specs.KnownAtoms.{value_at}
use Rattle.term_values.specs.GroundBases.{atoms_in}
use Rattle.term_values.specs.KnownBases.{known_truth, base_of_data}
use Rattle.term_values.specs.VariableTables.{first_vars}
use Rattle.term_values.proofs.Places.{atoms-count}
use Rattle.term_values.proofs.ground_data.GroundData.new.Goals as goal

pub invariant_of-result : goal.invariant_of-result
invariant_of-result c =
    let v = c.args.vocabulary.now in
    let k = c.args.partial.now in
    let d = c.as_slice-domains.result.now in
    let domains = c.as_slice-domains.ensures ∙ c.domains.ensures.domains in
    let symbols = c.as_slice.ensures in
    let all : length c.in_ok-known.known.items ≡ sum_by (atoms_in d) v.symbols =
    ap length c.in_ok-known.ensures
    ∙ (length-map (atoms_over k.symbols k.domains) (λ a. known_truth (value_at k a))
    ∙ (ap (λ ss. length (atoms_over ss k.domains)) c.requires.symbols
    ∙ (atoms-count (base_of_data v k) ∙ ap (λ e. sum_by (atoms_in e) v.symbols) (sym domains)))) in
    record {
      firsts = c.in_ok-firsts.ensures.firsts ∙ ap (λ ss. first_vars d ss (length ss)) symbols;
      indexes = c.in_ok-indexes.ensures;
      known = all;
      few = subst (λ n. n < 9223372036854775808) (ap (sum_by (atoms_in d)) symbols
          ∙ sym all) c.in_ok-firsts.ensures.few;
    }
