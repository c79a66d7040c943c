use Rattle.std.proofs.Common.{◌∙◌, ◌+◌, ◌∷◌, ◌++◌, [], List, All, take, sym, subst}
use Rattle.std.proofs.lemmas.List.Elements.{All-push}
use Rattle.kb_logic.specs.Structures.{EachWith}
use Rattle.lit_core.specs.declared.literals.Lit.{Lit}
use Rattle.lit_core.specs.Literals.{negated}
use Rattle.ground_core.specs.Problems.{AreLitsOf}
use Rattle.atom_numbers.proofs.LiteralFacts.{each-next}
use Rattle.derivation_log.specs.Steps.{Cites}
use Rattle.log_checker.specs.Cases.{IsRefuted}
use Rattle.derived_claims.specs.declared.forcing.Forcing.{Forcing}
use Rattle.derived_claims.specs.Following.{IsForcing, IsOfLiteral}
use Rattle.derived_claims.proofs.Adding.{derived-twice, forcings-kept}
use Rattle.derived_claims.proofs.Claiming.{is-forcing, next-atom, next-forced, next-lits}
use Rattle.derived_claims.proofs.forcings.forcings.Goals as goal

pub lit_of-lit-requires : goal.lit_of-lit-requires
lit_of-lit-requires c =
    next-atom c.args.numbers.now c.args.checker.now c.loop-literal.checker c.args.text.now.items
    c.loop-literal.text.items c.loop-literal.invariant.derived c.args.lits.now.items c.args.literals.now
    c.loop-literal.literal-index c.literal-item.result c.loop-literal-test.true c.literal-item.is c.requires.forced

-- what was pushed is the negation of the literal, behind the choices' literals
pub derive_with-requires-clause-literals : goal.derive_with-requires-clause-literals
derive_with-requires-clause-literals c =
    subst (λ (ls : List Lit). AreLitsOf c.loop-literal.checker.state.vars (ls ++ c.negated.result ∷ []))
    (sym c.loop-literal.invariant.lits)
    (subst (λ (l : Lit). AreLitsOf c.loop-literal.checker.state.vars (c.args.lits.now.items ++ l ∷ []))
    (sym c.negated.ensures)
    (next-lits c.args.numbers.now c.args.checker.now c.loop-literal.checker c.args.text.now.items
    c.loop-literal.text.items c.loop-literal.invariant.derived c.args.lits.now.items c.args.literals.now
    c.loop-literal.literal-index c.literal-item.result c.loop-literal-test.true c.literal-item.is c.requires.forced
    c.requires.atoms c.lit_of-lit.result c.lit_of-lit.ensures.number))

pub derive_with-requires-clause-refuted : goal.derive_with-requires-clause-refuted
derive_with-requires-clause-refuted c =
    let forced = next-forced c.args.numbers.now c.args.checker.now c.loop-literal.checker c.args.text.now.items
    c.loop-literal.text.items c.loop-literal.invariant.derived c.args.lits.now.items c.args.literals.now
    c.loop-literal.literal-index c.literal-item.result c.loop-literal-test.true c.literal-item.is c.requires.forced
    c.lit_of-lit.result c.lit_of-lit.ensures.number in
    subst (λ (ls : List Lit). IsRefuted c.loop-literal.checker (ls ++ c.negated.result ∷ []))
    (sym c.loop-literal.invariant.lits)
    (subst (λ (l : Lit). IsRefuted c.loop-literal.checker (c.args.lits.now.items ++ l ∷ [])) (sym c.negated.ensures)
    forced.refuted)

pub loop-literal-preserved : goal.loop-literal-preserved
loop-literal-preserved c =
    let forced = next-forced c.args.numbers.now c.args.checker.now c.loop-literal.checker c.args.text.now.items
    c.loop-literal.text.items c.loop-literal.invariant.derived c.args.lits.now.items c.args.literals.now
    c.loop-literal.literal-index c.literal-item.result c.loop-literal-test.true c.literal-item.is c.requires.forced
    c.lit_of-lit.result c.lit_of-lit.ensures.number in
    let found : Forcing = record { lit = c.lit_of-lit.result; clause = c.in_ok-clause.clause } in
    record {
      lits = c.in_ok-clause.ensures.kept ∙ c.loop-literal.invariant.lits;
      derived = derived-twice c.args.checker.now c.loop-literal.checker c.derive_with.new.checker
          c.args.text.now.items c.loop-literal.text.items c.derive_with.new.text.items c.loop-literal.invariant.derived
          c.in_ok-clause.ensures.derives;
      each = subst (λ (fs : List Forcing). EachWith (IsOfLiteral c.args.numbers.now)
          (take (c.loop-literal.literal-index + 1) c.args.literals.now) fs) (sym c.in_ok-push.ensures.items)
          (each-next (IsOfLiteral c.args.numbers.now) c.args.literals.now c.loop-literal.found.items
          c.loop-literal.literal-index c.literal-item.result found c.loop-literal-test.true c.literal-item.is
          c.lit_of-lit.ensures.number c.loop-literal.invariant.each);
      cites = subst (All (IsForcing c.derive_with.new.checker c.args.lits.now.items)) (sym c.in_ok-push.ensures.items)
          (All-push (IsForcing c.derive_with.new.checker c.args.lits.now.items) c.loop-literal.found.items found
          (forcings-kept c.loop-literal.checker c.derive_with.new.checker c.loop-literal.text.items
          c.derive_with.new.text.items c.in_ok-clause.ensures.derives c.args.lits.now.items c.loop-literal.found.items
          c.loop-literal.invariant.cites)
          (is-forcing c.loop-literal.checker c.derive_with.new.checker c.loop-literal.text.items
          c.derive_with.new.text.items c.args.lits.now.items c.lit_of-lit.result c.in_ok-clause.clause
          c.in_ok-clause.ensures.derives forced c.lit_of-lit.ensures.written c.in_ok-clause.ensures.number
          (subst (λ (ls : List Lit). Cites c.derive_with.new.checker.state (ls ++ negated c.lit_of-lit.result ∷ [])
          (λ m. ⊥) c.in_ok-clause.clause) c.loop-literal.invariant.lits
          (subst (λ (l : Lit). Cites c.derive_with.new.checker.state (c.loop-literal.lits.items ++ l ∷ []) (λ m. ⊥)
          c.in_ok-clause.clause) c.negated.ensures c.in_ok-clause.ensures.cites))));
    }
