use Rattle.std.proofs.Common.{◌≡◌, ℕ, ◌<◌, ◌/◌, Some, List, Option, length, refl, sym, ap, ◌∙◌, arith, slice_get}
use Rattle.std.proofs.Common.{get_or}
use Rattle.std.specs.Vec.{with_item}
use Rattle.std.proofs.lemmas.Option.{slice_get_read}
use Rattle.std.proofs.lemmas.List.{length-map}
use Rattle.std.proofs.Math.Seq.{map-set_same}
use Rattle.lit_core.specs.declared.literals.Lit.{Lit}
use Rattle.clause_base.specs.ClauseDbState.{ClauseDbState}
use Rattle.clause_base.specs.ClauseDbFields.{clause_of, spare_of, state_of}
use Rattle.clause_base.specs.declared.clause_db.Entry.{Entry}
use Rattle.clause_base.specs.declared.clause_db.ClauseDb.TheInside.{Inside}
use Rattle.clause_base.proofs.ArenaFacts.{kept-place, same-part, room-more}
use Rattle.clause_base.proofs.clause_db.ClauseDb.set_place.Goals as goal

entry-at : (a : Inside) (s : ClauseDbState) → state_of a ≡ s → (node : ℕ) → node / 2 < length s.clauses → (e : Entry)
    → e ≡ get_or a.entries.items (node / 2) e → slice_get a.entries.items (node / 2) ≡ Some e
entry-at a s is node lt e read =
    let len : length a.entries.items ≡ length s.clauses = sym (length-map a.entries.items (clause_of a.lits.items))
    ∙ ap (λ (x : ClauseDbState). length x.clauses) is in
    slice_get_read a.entries.items (length a.entries.items) (node / 2) e refl (omega arith) read

pub invariant_of-self : goal.invariant_of-self
invariant_of-self c =
    let a : Inside = c.self.inside in
    let e : Entry = c.index-entry.result.now in
    let f : Entry = c.moved.result in
    let b : Inside = record {
      lits = a.lits;
      entries = with_item a.entries (c.args.node / 2) f;
      buffer = a.buffer;
      spare = a.spare;
      live = a.live;
    } in
    let at = entry-at a c.args.self.now c.self.view_is c.args.node (omega arith) e c.index-entry.ensures in
    kept-place a b (c.args.node / 2) e f c.self.invariant at c.moved.ensures.0 c.moved.ensures.1
    (λ i g is lt near there. absurd (c.if-entry-eq0.false (sym c.moved.ensures.1 ∙ is))) refl refl refl refl
    (λ n is. let r = c.self.invariant.room n is in room-more a b n r (omega arith) (omega arith) (omega arith)
    (omega arith) (omega arith))

pub returns : goal.returns
returns c =
    let a : Inside = c.self.inside in
    let e : Entry = c.index-entry.result.now in
    let f : Entry = c.moved.result in
    let at : f ≡ f = refl in
    let same : clause_of a.lits.items f ≡ clause_of a.lits.items (get_or a.entries.items (c.args.node / 2) e) =
    same-part a.lits.items e f c.moved.ensures.0 c.moved.ensures.1
    ∙ ap (clause_of a.lits.items) c.index-entry.ensures in
    ap (λ (xs : List (Option (List Lit))). record { clauses = xs; spare = spare_of a.spare })
    (map-set_same (clause_of a.lits.items) a.entries.items (c.args.node / 2) f e same) ∙ c.self.view_is
