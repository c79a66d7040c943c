use Rattle.std.proofs.Common.{◌≤◌, ◌^◌, ◌+◌, ◌∙◌, get_or, sym, ap, subst, length, Err}
use Rattle.std.proofs.lemmas.Result.{err_from_is_err_and}
use Rattle.kb_logic.specs.KnownAtoms.{KnownAtoms}
use Rattle.bound_laws.specs.Closures.{ObeysFunctions}
use Rattle.quantifier_bounds.specs.Steps.{Narrows}
use Rattle.quantifier_bounds.specs.Walks.{SymbolHas}
use Rattle.quantifier_bounds.proofs.Steps.{SoFar, done}
use Rattle.std.proofs.Common.{ℕ}
use Rattle.kb_logic.specs.declared.vocabularies.Symbol.{Symbol}
use Rattle.quantifier_bounds.proofs.Values.{From, from_end, get_here, symbols_turn, symbols_fault}
use Rattle.quantifier_bounds.proofs.functions.functions_must.Goals as goal

pub returns-in_err-more : goal.returns-in_err-more
returns-in_err-more c =
    let P = λ (s : ℕ) (d : Symbol) (q : KnownAtoms). SymbolHas q s d in
    let p = err_from_is_err_and c.from_residual.result c.from_residual.ensures.1 in
    subst (λ r. Narrows c.args.known.now c.symbol_must.new.known r ObeysFunctions) (sym (p.1 ∙ ap Err p.2))
    (symbols_fault P ObeysFunctions c.args.known.now c.loop-at.known c.loop-at.changed c.args.setting.symbols.now
    c.loop-at.at (get_or c.args.setting.symbols.now c.loop-at.at c.index-setting-at.result)
    (get_here c.args.setting.symbols.now c.loop-at.at c.index-setting-at.result c.loop-at-test.true)
    c.loop-at.invariant.so_far c.symbol_must.new.known c.symbol_must.new.known c.in_err-more.field-0.0
    c.in_err-more.ensures)

pub loop-at-preserved : goal.loop-at-preserved
loop-at-preserved c =
    let P = λ (s : ℕ) (d : Symbol) (q : KnownAtoms). SymbolHas q s d in
    let step = c.in_ok-more.ensures in
    let ss = c.args.setting.symbols.now in
    let at = c.loop-at.at in
    record {
      symbols = c.loop-at.invariant.symbols ∙ sym step.more.symbols;
      domains = c.loop-at.invariant.domains ∙ sym step.more.domains;
      few = subst (λ xs. length xs ≤ 2 ^ 32) (sym step.more.symbols) c.loop-at.invariant.few;
      so_far = subst (λ b. SoFar c.args.known.now c.symbol_must.new.known b ObeysFunctions (From P ss (at + 1)))
          (sym c.either-changed.ensures)
          (symbols_turn P ObeysFunctions c.args.known.now c.loop-at.known c.loop-at.changed ss at
          (get_or ss at c.index-setting-at.result) (get_here ss at c.index-setting-at.result c.loop-at-test.true)
          c.loop-at.invariant.so_far c.symbol_must.new.known c.in_ok-more.more step);
    }

pub returns : goal.returns
returns c =
    let P = λ (s : ℕ) (d : Symbol) (q : KnownAtoms). SymbolHas q s d in
    done c.args.known.now c.loop-at.known c.loop-at.changed ObeysFunctions
    (From P c.args.setting.symbols.now c.loop-at.at) c.loop-at.invariant.so_far
    (from_end P c.args.setting.symbols.now c.loop-at.at c.loop-at.known c.loop-at-test.false)
