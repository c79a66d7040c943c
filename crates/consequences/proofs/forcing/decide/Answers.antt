use Rattle.std.proofs.Common.{◌≡◌, ◌++◌, ◌∷◌, [], sym, subst}
use Rattle.indexmap.proofs.SearchLemmas.{on_ok_of}
use Rattle.ground_core.specs.Solving.{SolveState}
use Rattle.consequences.specs.Forced.{Decides}
use Rattle.consequences.specs.declared.kept.Kept.{Kept}
use Rattle.consequences.specs.Indexed.{AreHashed, IsIndexed, IsSetOf}
use Rattle.consequences.proofs.ForcingFacts.{decides-itself}
use Rattle.consequences.proofs.forcing.decide.Goals as goal

pub returns-then-is_assumed-clause-decides : goal.returns-then-is_assumed-clause-decides
returns-then-is_assumed-clause-decides g c =
    let s : SolveState = g.S.Solve.state c.args.s.now in
    let f = c.args.findings.now in
    let h = c.keep_itself.new.self in
    on_ok_of c.keep_itself.result
    (λ x. (k : Kept) × (h.kept ≡ f.kept ++ k ∷ []) × (k.lit ≡ c.args.lit) × (k.support ≡ c.args.lit ∷ []))
    (λ x. h.found ≡ f.found)
    (Decides s.problem c.args.assume.now c.args.lit s.cores f.kept h.kept f.found h.found)
    (λ x one same. decides-itself s.problem c.args.assume.now f.assumed.keys c.args.lit s.cores
    f.kept h.kept f.found h.found c.requires.hashed.assumed (c.is_assumed.ensures.0 c.if-is_assumed.true) one same)
    c.keep_itself.ensures.kept c.keep_itself.ensures.found

pub returns-then-is_assumed-clause-hashed : goal.returns-then-is_assumed-clause-hashed
returns-then-is_assumed-clause-hashed g c =
    let h = c.keep_itself.new.self in
    on_ok_of c.keep_itself.result (λ x. IsIndexed h.lits.keys h.kept) (λ x. h.assumed ≡ c.args.findings.now.assumed)
    (AreHashed h c.args.assume.now)
    (λ x kept same. record {
      kept = kept;
      assumed = subst (λ set. IsSetOf set.keys c.args.assume.now) (sym same) c.requires.hashed.assumed;
    })
    c.keep_itself.ensures.indexed c.keep_itself.ensures.assumed

pub returns-in-Ok-clause-hashed : goal.returns-in-Ok-clause-hashed
returns-in-Ok-clause-hashed g c = record {
  kept = c.in-Ok.ensures.indexed;
  assumed = subst (λ set. IsSetOf set.keys c.args.assume.now) (sym c.in-Ok.ensures.assumed) c.requires.hashed.assumed;
}
