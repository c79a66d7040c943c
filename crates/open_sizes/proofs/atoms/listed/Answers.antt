use Rattle.std.proofs.Common.{◌≡◌, ◌<◌, ◌≤◌, ◌+◌, ◌++◌, ℕ, map, length, get_or, refl, sym, ap, ◌∙◌, subst}
use Rattle.std.specs.List.{sum_by, enumerate_from}
use Rattle.kb_logic.specs.declared.vocabularies.Symbol.{Symbol}
use Rattle.partial_structures.specs.KnownAtoms.{KnownAtoms, atoms_of, value_at}
use Rattle.partial_structures.specs.declared.truths.Truth.{Truth}
use Rattle.quantifier_bounds.specs.Steps.{unknown_atoms}
use Rattle.stage_definitions.specs.SizesStage.{capped}
use Rattle.size_stage.proofs.Capping.{stays}
use Rattle.open_sizes.specs.Atoms.{open_in_symbol}
use Rattle.open_sizes.specs.OpenWeights.{where_open}
use Rattle.open_sizes.proofs.Unknown.{sum_first, sum_next, sum_done, by_symbols, symbol_at, as_many, get_here}
use Rattle.open_sizes.proofs.Unknown.{of_truths}
use Rattle.open_sizes.proofs.Unknown.{some_at}
use Rattle.open_sizes.proofs.atoms.listed.Goals as goal

pub loop-symbol-init : goal.loop-symbol-init
loop-symbol-init c =
    let k : KnownAtoms = c.args.known.now in (
      sum_first (sum_by (λ (p : ℕ × Symbol). open_in_symbol k p.0 p.1) (enumerate_from 0 k.symbols)) (unknown_atoms k)
          (sym (by_symbols k)),
      refl,
    )

pub loop-symbol-preserved : goal.loop-symbol-preserved
loop-symbol-preserved c =
    let k : KnownAtoms = c.args.known.now in
    let ss = k.symbols in
    let i : ℕ = c.loop-symbol.symbol in
    let end : c.len-symbol-end.result ≡ length ss = c.len-symbol-end.ensures ∙ ap length c.symbols.ensures in
    let within : i < length ss = subst (λ n. i < n) end c.loop-symbol-test.true in
    let d : Symbol = (some_at ss i within).0 in
    let h = λ (t : Truth). where_open t 1 in
    let truths : c.as_slice.result.now ≡ map (value_at k) (atoms_of k i) =
    c.as_slice.ensures.value ∙ c.in_ok-push_values.ensures
    ∙ ap (λ ts. ts ++ map (value_at k) (atoms_of k i)) c.clear.ensures.items in
    let part : c.unknown_among.result ≡ capped (open_in_symbol k i (get_or ss i d)) =
    c.unknown_among.ensures ∙ ap (λ ts. capped (sum_by h ts)) truths
    ∙ ap capped (of_truths k i (get_or ss i d) (get_here ss i d within)) in (
      sum_next (λ (p : ℕ × Symbol). open_in_symbol k p.0 p.1) (enumerate_from 0 ss) i (i, get_or ss i d) (i, d)
          c.loop-symbol.count c.plus-count.result c.unknown_among.result (unknown_atoms k)
          (subst (λ n. i < n) (as_many ss) within) (symbol_at ss i d within)
          c.plus-count.ensures part c.loop-symbol.invariant.0,
      stays c.plus-count.result (c.loop-symbol.count + c.unknown_among.result) c.plus-count.ensures,
    )

pub returns : goal.returns
returns c =
    let k : KnownAtoms = c.args.known.now in
    let ss = k.symbols in
    let i : ℕ = c.loop-symbol.symbol in
    let end : c.len-symbol-end.result ≡ length ss = c.len-symbol-end.ensures ∙ ap length c.symbols.ensures in
    let past : length ss ≤ i = subst (λ n. n ≤ i) end c.loop-symbol-test.false in
    sum_done (λ (p : ℕ × Symbol). open_in_symbol k p.0 p.1) (enumerate_from 0 ss) i c.loop-symbol.count
    (unknown_atoms k) (subst (λ n. n ≤ i) (as_many ss) past) c.loop-symbol.invariant.1 c.loop-symbol.invariant.0
