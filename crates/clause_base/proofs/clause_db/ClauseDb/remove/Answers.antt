use Rattle.std.proofs.Common.{◌≡◌, ℕ, suc, ◌≤◌, Some, None, List, Option, length, map, set, refl, sym, ap, ◌∙◌, arith}
use Rattle.std.proofs.Common.{slice_get, subst}
use Rattle.std.specs.Vec.{with_item}
use Rattle.std.proofs.lemmas.Option.{slice_get_read}
use Rattle.std.proofs.lemmas.List.{length-map, map-set}
use Rattle.lit_core.specs.declared.literals.Lit.{Lit}
use Rattle.clause_base.specs.ClauseDbState.{ClauseDbState}
use Rattle.clause_base.specs.ClauseDbFields.{AreRemoved, EndsAt, EndsBy, HaveSkips, IsOrdered, clause_of, spare_of}
use Rattle.clause_base.specs.declared.clause_db.Entry.{Entry}
use Rattle.clause_base.specs.declared.clause_db.ClauseDb.TheInside.{Inside}
use Rattle.clause_base.proofs.ArenaFacts.{Narrows, all-end, clauses-cut, kept-set, narrows-ordered, room-less}
use Rattle.clause_base.proofs.ArenaFacts.{skips-set}
use Rattle.clause_base.proofs.clause_db.ClauseDb.remove.Goals as goal

module _ (c : goal.After-truncate) where
  abbrev a : Inside
  a = c.self.inside

  abbrev e : Entry
  e = c.index-entry.result.now

  abbrev f : Entry
  f = record { start = e.start; size = 0; first = 0; second = e.second }

  abbrev now : List Entry
  now = set a.entries.items c.args.id f

  at : slice_get a.entries.items c.args.id ≡ Some e
  at =
      let len : length a.entries.items ≡ length c.args.self.now.clauses =
      sym (length-map a.entries.items (clause_of a.lits.items))
      ∙ ap (λ (s : ClauseDbState). length s.clauses) c.self.view_is in
      slice_get_read a.entries.items (length a.entries.items) c.args.id e refl (omega (arith, c.requires))
      c.index-entry.ensures

  narrow : Narrows e f
  narrow = record { start = refl; size = λ n is. absurd (let z : 0 ≡ suc n = is in omega arith) }

  skips : HaveSkips now
  skips = skips-set a.entries.items c.args.id e f at c.self.invariant.skips (λ gone. refl)
      (λ i g gone lt near there. absurd (omega (arith, lt, near)))

  live : c.live_of-self-inside.result ≤ length now
  live = subst (λ (xs : List Entry). c.live_of-self-inside.result ≤ length xs) c.as_slice.ensures.value
      c.live_of-self-inside.ensures.within

  removed : AreRemoved now c.live_of-self-inside.result
  removed = subst (λ (xs : List Entry). AreRemoved xs c.live_of-self-inside.result) c.as_slice.ensures.value
      c.live_of-self-inside.ensures.removed

  end : EndsAt now c.live_of-self-inside.result c.end_of-end.result
  end = subst (λ (xs : List Entry). EndsAt xs c.live_of-self-inside.result c.end_of-end.result)
      c.as_slice-2.ensures.value c.end_of-end.ensures

  ordered : IsOrdered now
  ordered = narrows-ordered a.entries.items c.args.id e f at narrow c.self.invariant.ordered

  ends : (i : ℕ) (g : Entry) → slice_get now i ≡ Some g → EndsBy g c.end_of-end.result
  ends = all-end now c.live_of-self-inside.result c.end_of-end.result ordered live removed end

pub invariant_of-self : goal.invariant_of-self
invariant_of-self c =
    let b : Inside = record {
      lits = c.truncate.new.self;
      entries = with_item c.self.inside.entries c.args.id (f c);
      buffer = c.self.inside.buffer;
      spare = c.self.inside.spare;
      live = c.live_of-self-inside.result;
    } in
    kept-set c.self.inside b c.args.id c.end_of-end.result (e c) (f c) c.self.invariant (at c)
    (narrow c) c.truncate.ensures.items refl (live c) (removed c)
    (skips c) (ends c) c.self.invariant.empty
    (λ n is. let r = c.self.invariant.room n is in room-less c.self.inside b n r refl refl refl
    (omega (arith, c.truncate.ensures.len)) c.truncate.ensures.capacity)

pub returns : goal.returns
returns c =
    let a : Inside = c.self.inside in
    let make : List (Option (List Lit)) → ClauseDbState = λ xs. record { clauses = xs; spare = spare_of a.spare } in
    ap (λ (ls : List Lit). make (map (clause_of ls) (now c))) c.truncate.ensures.items ∙
    ap make (clauses-cut a.lits.items c.end_of-end.result (now c) (ends c)) ∙
    ap make (map-set (clause_of a.lits.items) a.entries.items c.args.id (f c)) ∙
    ap (λ (s : ClauseDbState). record { clauses = set s.clauses c.args.id None; spare = s.spare }) c.self.view_is
