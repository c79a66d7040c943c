use Rattle.std.proofs.Common.{◌≡◌, ◌++◌, ◌∷◌, [], List, length, sym, ap, ◌∙◌, subst, arith}
use Rattle.lit_core.specs.declared.literals.Lit.{Lit}
use Rattle.lit_core.specs.Literals.{negated}
use Rattle.ground_core.specs.Problems.{ProblemState}
use Rattle.ground_core.specs.Solving.{AreUnretired}
use Rattle.ground_core.proofs.CoreFacts.{still-shown}
use Rattle.ground_core.proofs.CallFacts.{keeps-twice}
use Rattle.model_search.specs.Models.{IsRefuted}
use Rattle.support_explainer.proofs.DeletionFacts.{counts-after, counts-wider}
use Rattle.support_explainer.proofs.explaining.supported.Goals as goal

pub irreducible-requires-clause-unretired : goal.irreducible-requires-clause-unretired
irreducible-requires-clause-unretired g c =
    let whole = ap (λ (l : List Lit). l ++ c.negated.result ∷ []) (c.from_vec-items.ensures ∙ c.in-Ok.ensures.items)
    ∙ ap (λ (k : Lit). c.args.assume.now ++ k ∷ []) c.negated.ensures in
    subst (AreUnretired (g.S.Solve.state c.model_of.new.s).problem) (sym whole)
    (subst (λ (p : ProblemState). AreUnretired p (c.args.assume.now ++ negated c.args.target ∷ []))
    (sym c.model_of.ensures.stays.problem) c.requires.all_unretired)

pub irreducible-requires-clause-refuted : goal.irreducible-requires-clause-refuted
irreducible-requires-clause-refuted g c =
    let whole = ap (λ (l : List Lit). l ++ c.negated.result ∷ []) (c.from_vec-items.ensures ∙ c.in-Ok.ensures.items)
    ∙ ap (λ (k : Lit). c.args.assume.now ++ k ∷ []) c.negated.ensures in
    subst (IsRefuted (g.S.Solve.state c.model_of.new.s).problem (g.S.Solve.state c.model_of.new.s).cores) (sym whole)
    (subst (λ (p : ProblemState). IsRefuted p (g.S.Solve.state c.model_of.new.s).cores
    (c.args.assume.now ++ negated c.args.target ∷ [])) (sym c.model_of.ensures.stays.problem) (
      c.requires.refuted.0,
      still-shown (g.S.Solve.state c.args.s.now).cores (g.S.Solve.state c.model_of.new.s).cores
          (c.args.assume.now ++ negated c.args.target ∷ []) c.model_of.ensures.keeps.cores c.requires.refuted.1,
    ))

pub returns-in-Ok-irreducible-clause-keeps : goal.returns-in-Ok-irreducible-clause-keeps
returns-in-Ok-irreducible-clause-keeps g c = keeps-twice (g.S.Solve.state c.args.s.now)
    (g.S.Solve.state c.model_of.new.s) (g.S.Solve.state c.irreducible.new.s) c.args.budget.now c.model_of.new.budget
    c.irreducible.new.budget c.model_of.ensures.keeps c.irreducible.ensures.keeps

pub returns-in-Ok-irreducible-clause-counts : goal.returns-in-Ok-irreducible-clause-counts
returns-in-Ok-irreducible-clause-counts g c =
    let same : length c.from_vec-items.result ≡ length c.args.assume.now = ap (λ (l : List Lit). length l)
    (c.from_vec-items.ensures ∙ c.in-Ok.ensures.items) in
    counts-after (length c.args.assume.now) (g.S.Solve.state c.args.s.now) (g.S.Solve.state c.model_of.new.s)
    (g.S.Solve.state c.irreducible.new.s) c.args.budget.now c.model_of.new.budget c.irreducible.new.budget
    c.model_of.ensures.stays.free c.model_of.ensures.counts
    (counts-wider (g.S.Solve.state c.model_of.new.s).free (length c.from_vec-items.result) (length c.args.assume.now)
    (g.S.Solve.state c.model_of.new.s) (g.S.Solve.state c.irreducible.new.s) c.model_of.new.budget
    c.irreducible.new.budget (omega (arith, same)) c.irreducible.ensures.counts)

pub returns-in-Ok-Some-clause-keeps : goal.returns-in-Ok-Some-clause-keeps
returns-in-Ok-Some-clause-keeps g c = keeps-twice (g.S.Solve.state c.args.s.now) (g.S.Solve.state c.model_of.new.s)
    (g.S.Solve.state c.irreducible.new.s) c.args.budget.now c.model_of.new.budget c.irreducible.new.budget
    c.model_of.ensures.keeps c.irreducible.ensures.keeps

pub returns-in-Ok-Some-clause-counts : goal.returns-in-Ok-Some-clause-counts
returns-in-Ok-Some-clause-counts g c =
    let same : length c.from_vec-items.result ≡ length c.args.assume.now = ap (λ (l : List Lit). length l)
    (c.from_vec-items.ensures ∙ c.in-Ok.ensures.items) in
    counts-after (length c.args.assume.now) (g.S.Solve.state c.args.s.now) (g.S.Solve.state c.model_of.new.s)
    (g.S.Solve.state c.irreducible.new.s) c.args.budget.now c.model_of.new.budget c.irreducible.new.budget
    c.model_of.ensures.stays.free c.model_of.ensures.counts
    (counts-wider (g.S.Solve.state c.model_of.new.s).free (length c.from_vec-items.result) (length c.args.assume.now)
    (g.S.Solve.state c.model_of.new.s) (g.S.Solve.state c.irreducible.new.s) c.model_of.new.budget
    c.irreducible.new.budget (omega (arith, same)) c.irreducible.ensures.counts)
