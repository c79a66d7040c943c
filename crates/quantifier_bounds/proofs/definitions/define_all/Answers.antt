use Rattle.std.proofs.Common.{◌≡◌, ◌≤◌, ◌^◌, ◌+◌, ◌∙◌, ℕ, get_or, sym, ap, subst, map, length, slice_get, Some, Err}
use Rattle.std.proofs.lemmas.Result.{err_from_is_err_and}
use Rattle.kb_logic.specs.declared.vocabularies.Symbol.{Symbol}
use Rattle.kb_logic.specs.Views.{rule_view}
use Rattle.kb_logic.specs.KnownAtoms.{KnownAtoms}
use Rattle.bound_laws.specs.Closures.{ObeysDefinition}
use Rattle.quantifier_bounds.specs.Rules.{definition_of, SymbolDerives}
use Rattle.quantifier_bounds.specs.Steps.{Narrows}
use Rattle.quantifier_bounds.proofs.Steps.{SoFar, done}
use Rattle.quantifier_bounds.proofs.Values.{From, from_end, get_here, symbols_turn, symbols_fault}
use Rattle.quantifier_bounds.proofs.Defined.{same_rules, definition_start}
use Rattle.quantifier_bounds.proofs.definitions.define_all.Goals as goal

pub loop-at-init : goal.loop-at-init
loop-at-init c = record {
  symbols = c.requires.symbols;
  domains = c.requires.domains;
  few = c.requires.few;
  fits = c.requires.fits;
  so_far = definition_start c.args.known.now (definition_of c.args.rules.now) c.args.setting.symbols.now
      c.requires.symbols;
}

pub define_symbol-requires-clause-there : goal.define_symbol-requires-clause-there
define_symbol-requires-clause-there c =
    subst (λ ss. slice_get ss c.loop-at.at ≡ Some (get_or c.args.setting.symbols.now c.loop-at.at
    c.index-setting-at.result)) c.loop-at.invariant.symbols
    (get_here c.args.setting.symbols.now c.loop-at.at c.index-setting-at.result c.loop-at-test.true)

pub returns-in_err-more : goal.returns-in_err-more
returns-in_err-more c =
    let d = definition_of c.args.rules.now in
    let P = λ (s : ℕ) (declared : Symbol) (q : KnownAtoms). SymbolDerives q d s declared in
    let W = λ (q : KnownAtoms). ObeysDefinition q d in
    let p = err_from_is_err_and c.from_residual.result c.from_residual.ensures.1 in
    subst (λ r. Narrows c.args.known.now c.define_symbol.new.known r W) (sym (p.1 ∙ ap Err p.2))
    (symbols_fault P W c.args.known.now c.loop-at.known c.loop-at.changed c.args.setting.symbols.now
    c.loop-at.at (get_or c.args.setting.symbols.now c.loop-at.at c.index-setting-at.result)
    (get_here c.args.setting.symbols.now c.loop-at.at c.index-setting-at.result c.loop-at-test.true)
    c.loop-at.invariant.so_far c.define_symbol.new.known c.define_symbol.new.known c.in_err-more.field-0.0
    c.in_err-more.ensures)

pub loop-at-preserved : goal.loop-at-preserved
loop-at-preserved c =
    let d = definition_of c.args.rules.now in
    let P = λ (s : ℕ) (declared : Symbol) (q : KnownAtoms). SymbolDerives q d s declared in
    let W = λ (q : KnownAtoms). ObeysDefinition q d in
    let step = c.in_ok-more.ensures in
    let ss = c.args.setting.symbols.now in
    let at = c.loop-at.at in
    record {
      symbols = c.loop-at.invariant.symbols ∙ sym step.more.symbols;
      domains = c.loop-at.invariant.domains ∙ sym step.more.domains;
      few = subst (λ xs. length xs ≤ 2 ^ 32) (sym step.more.symbols) c.loop-at.invariant.few;
      fits = same_rules c.loop-at.known c.define_symbol.new.known (map rule_view c.args.rules.now) step.more.symbols
          step.more.domains c.loop-at.invariant.fits;
      so_far = subst (λ b. SoFar c.args.known.now c.define_symbol.new.known b W (From P ss (at + 1)))
          (sym c.either-changed.ensures)
          (symbols_turn P W c.args.known.now c.loop-at.known c.loop-at.changed ss at
          (get_or ss at c.index-setting-at.result) (get_here ss at c.index-setting-at.result c.loop-at-test.true)
          c.loop-at.invariant.so_far c.define_symbol.new.known c.in_ok-more.more step);
    }

pub returns : goal.returns
returns c =
    let d = definition_of c.args.rules.now in
    let P = λ (s : ℕ) (declared : Symbol) (q : KnownAtoms). SymbolDerives q d s declared in
    done c.args.known.now c.loop-at.known c.loop-at.changed (λ q. ObeysDefinition q d)
    (From P c.args.setting.symbols.now c.loop-at.at) c.loop-at.invariant.so_far
    (from_end P c.args.setting.symbols.now c.loop-at.at c.loop-at.known c.loop-at-test.false)
