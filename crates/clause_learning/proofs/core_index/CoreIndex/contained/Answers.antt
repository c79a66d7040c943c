use Rattle.std.proofs.Common.{◌≡◌, ◌<◌, false, true, List, length, sym, ◌∙◌, subst, arith}
use Rattle.std.proofs.lemmas.Option.{slice_get_within}
use Rattle.lit_core.specs.declared.literals.Lit.{Lit}
use Rattle.search_engine.specs.LitSets.{IsSetOf}
use Rattle.clause_learning.proofs.CoreIndexFacts.{none-contained, core-contained, read-is}
use Rattle.clause_learning.proofs.core_index.CoreIndex.contained.Goals as goal

pub returns-in-None : goal.returns-in-None
returns-in-None c = none-contained c.args.self.now c.args.lits.now c.in_ok-set.set (λ yes. let x : false ≡ true =
    sym c.if-self.false ∙ yes in cc) c.requires.indexed c.in_ok-set.ensures c.in-None.ensures.none

pub index-requires : goal.index-requires
index-requires c =
    let lt : c.in-Some.place < length c.args.self.now.cores.items =
    slice_get_within c.args.self.now.cores.items c.in-Some.place c.in-Some.ensures.some.0
    c.in-Some.ensures.some.1 in
    omega (arith, lt, c.args.self.now.cores.ok.0)

pub returns : goal.returns
returns c =
    let w = c.in-Some.ensures.some in
    let read : c.index.result.now ≡ w.0 = read-is c.args.self.now.cores.items c.in-Some.place c.index.result.now w.0
    c.index.ensures w.1 in
    let made : IsSetOf w.0 c.in_ok-core-in-Some.core = subst (λ (ls : List Lit). IsSetOf ls c.in_ok-core-in-Some.core)
    (c.as_slice.ensures ∙ read) c.in_ok-core-in-Some.ensures in (
      c.in_ok-chosen-in-Some.ensures.sublist,
      core-contained c.args.self.now.cores.items c.args.lits.now w.0
          c.in_ok-chosen-in-Some.field-0 c.in_ok-set.set c.in_ok-core-in-Some.core c.in-Some.place c.in_ok-set.ensures
          made w.1 w.2 c.in_ok-chosen-in-Some.ensures,
    )
