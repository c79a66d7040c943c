use Rattle.std.proofs.Common.{◌≡◌, ◌∷◌, ◌++◌, [], List, All, sym, ap, ◌∙◌, subst}
use Rattle.std.proofs.lemmas.List.Elements.{All-push}
use Rattle.lit_core.specs.declared.literals.Lit.{Lit}
use Rattle.ground_core.specs.Meaning.{RefutesAll}
use Rattle.clause_learning.specs.declared.keeper.Keeper.{Keeper}
use Rattle.clause_learning.specs.Keeping.{IsNewRefusal}
use Rattle.clause_learning.proofs.keeper.Keeper.keep.Goals as goal

pub returns-in-Ok-clause-keeper : goal.returns-in-Ok-clause-keeper
returns-in-Ok-clause-keeper c =
    let a : Keeper = c.args.self.now in
    let new = subst (IsNewRefusal a) c.in-Unsat.is c.requires.new in
    let cores : c.keep.new.self.cores.items ≡ a.index.cores.items ++ c.in-Unsat.core ∷ [] = c.in-Ok.ensures.ok
    ∙ ap (λ (ls : List Lit). a.index.cores.items ++ ls ∷ []) c.as_slice.ensures in
    record {
      resting = c.requires.keeper.resting;
      terms = c.requires.keeper.terms;
      few = c.requires.keeper.few;
      selectors = c.requires.keeper.selectors;
      indexed = c.keep.ensures.indexed;
      refuted = subst (λ (cs : List (List Lit)). All (RefutesAll a.engine.problem) cs) (sym cores)
          (All-push (RefutesAll a.engine.problem) a.index.cores.items c.in-Unsat.core c.requires.keeper.refuted new.0);
      counted = c.requires.keeper.counted;
      live = c.requires.keeper.live;
    }
