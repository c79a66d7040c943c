use Rattle.std.proofs.Common.{◌<◌, ◌≤◌, ◌+◌, ℕ, get_or, refl, sym, subst}
use Rattle.std.specs.List.{sum_by, enumerate_from}
use Rattle.kb_logic.specs.declared.vocabularies.Symbol.{Symbol}
use Rattle.partial_structures.specs.Known.{known_in}
use Rattle.quantifier_bounds.specs.Steps.{unknown_atoms}
use Rattle.size_stage.proofs.Capping.{stays}
use Rattle.open_sizes.specs.Atoms.{open_in_symbol}
use Rattle.open_sizes.proofs.Unknown.{sum_first, sum_next, sum_done, by_symbols, symbol_at, as_many, get_here}
use Rattle.open_sizes.proofs.atoms.unknown_in.Goals as goal

pub loop-at-init : goal.loop-at-init
loop-at-init c =
    let k = known_in c.args.s in (
      sum_first (sum_by (λ (p : ℕ × Symbol). open_in_symbol k p.0 p.1) (enumerate_from 0 c.args.s.symbols.now))
          (unknown_atoms k) (sym (by_symbols k)),
      refl,
    )

pub in_symbol-requires : goal.in_symbol-requires
in_symbol-requires c = get_here c.args.s.symbols.now c.loop-at.at c.index-s-at.result c.loop-at-test.true

pub loop-at-preserved : goal.loop-at-preserved
loop-at-preserved c =
    let k = known_in c.args.s in
    let ss = c.args.s.symbols.now in
    let i = c.loop-at.at in
    let d = c.index-s-at.result in (
      sum_next (λ (p : ℕ × Symbol). open_in_symbol k p.0 p.1) (enumerate_from 0 ss) i (i, get_or ss i d) (i, d)
          c.loop-at.count c.plus-count.result c.in_symbol.result (unknown_atoms k)
          (subst (λ n. i < n) (as_many ss) c.loop-at-test.true) (symbol_at ss i d c.loop-at-test.true)
          c.plus-count.ensures c.in_symbol.ensures c.loop-at.invariant.0,
      stays c.plus-count.result (c.loop-at.count + c.in_symbol.result) c.plus-count.ensures,
    )

pub returns : goal.returns
returns c =
    let k = known_in c.args.s in
    let ss = c.args.s.symbols.now in
    sum_done (λ (p : ℕ × Symbol). open_in_symbol k p.0 p.1) (enumerate_from 0 ss) c.loop-at.at c.loop-at.count
    (unknown_atoms k) (subst (λ n. n ≤ c.loop-at.at) (as_many ss) c.loop-at-test.false) c.loop-at.invariant.1
    c.loop-at.invariant.0
