use Rattle.std.proofs.Common.{◌≡◌, ◌≤◌, ◌+◌, ◌-◌, Some, List, length, take, drop, refl, sym, ap, ◌∙◌, arith, slice_get}
use Rattle.std.proofs.lemmas.Option.{slice_get_read}
use Rattle.std.proofs.lemmas.List.{length-map}
use Rattle.lit_core.specs.declared.literals.Lit.{Lit}
use Rattle.clause_base.specs.ClauseDbState.{ClauseDbState}
use Rattle.clause_base.specs.ClauseDbFields.{clause_of, part_of}
use Rattle.clause_base.specs.declared.clause_db.Entry.{Entry}
use Rattle.clause_base.specs.declared.clause_db.ClauseDb.TheInside.{Inside}
use Rattle.clause_base.proofs.ArenaFacts.{held-at, part-is}
use Rattle.clause_base.proofs.clause_db.ClauseDb.get.Goals as goal

pub slice_bounds-result-end : goal.slice_bounds-result-end
slice_bounds-result-end c =
    let a : Inside = c.self.inside in
    let e : Entry = c.index-entry.result.now in
    let len : length a.entries.items ≡ length c.args.self.now.clauses =
    sym (length-map a.entries.items (clause_of a.lits.items))
    ∙ ap (λ (s : ClauseDbState). length s.clauses) c.self.view_is in
    let at : slice_get a.entries.items c.args.id ≡ Some e = slice_get_read a.entries.items (length a.entries.items)
    c.args.id e refl (omega arith) c.index-entry.ensures in
    let le : e.start + (e.size - 1) ≤ length a.lits.items = c.self.invariant.within c.args.id e at (e.size - 1)
    (omega arith) in
    let same : length c.deref.result.now ≡ length a.lits.items = ap length c.deref.ensures.value in
    omega arith

pub returns-clause-clause : goal.returns-clause-clause
returns-clause-clause c =
    let a : Inside = c.self.inside in
    let e : Entry = c.index-entry.result.now in
    let len : length a.entries.items ≡ length c.args.self.now.clauses =
    sym (length-map a.entries.items (clause_of a.lits.items))
    ∙ ap (λ (s : ClauseDbState). length s.clauses) c.self.view_is in
    let at : slice_get a.entries.items c.args.id ≡ Some e = slice_get_read a.entries.items (length a.entries.items)
    c.args.id e refl (omega arith) c.index-entry.ensures in
    let is : part_of a.lits.items e.start e.size ≡ Some (take (e.start + (e.size - 1) - e.start)
    (drop e.start a.lits.items)) = part-is a.lits.items e.start e.size (e.start + (e.size - 1) - e.start)
    (λ z. c.if-entry-eq0.false z) (omega arith) in
    ap (λ (s : ClauseDbState). slice_get s.clauses c.args.id) (sym c.self.view_is)
    ∙ held-at a.lits.items a.entries.items c.args.id e at ∙ ap Some is
    ∙ ap (λ (xs : List Lit). Some (Some (take (e.start + (e.size - 1) - e.start) (drop e.start xs))))
    (sym c.deref.ensures.value)
