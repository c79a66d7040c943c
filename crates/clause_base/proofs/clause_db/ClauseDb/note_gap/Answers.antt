use Rattle.std.proofs.Common.{◌≡◌, ℕ, ◌<◌, ◌≤◌, ◌-◌, Some, List, Option, length, refl, sym, ap, ◌∙◌, arith}
use Rattle.std.proofs.Common.{get_or, slice_get}
use Rattle.std.specs.Vec.{with_item}
use Rattle.std.proofs.lemmas.Option.{slice_get_read}
use Rattle.std.proofs.Math.Seq.{map-set_same}
use Rattle.lit_core.specs.declared.literals.Lit.{Lit}
use Rattle.clause_base.specs.ClauseDbFields.{IsSkip, clause_of, spare_of}
use Rattle.clause_base.specs.declared.clause_db.Entry.{Entry}
use Rattle.clause_base.specs.declared.clause_db.ClauseDb.TheInside.{Inside}
use Rattle.clause_base.proofs.ArenaFacts.{kept-place, room-more}
use Rattle.clause_base.proofs.clause_db.ClauseDb.note_gap.Goals as goal

module _ (c : goal.After-self-1) where
  abbrev a : Inside
  a = c.self.inside

  abbrev last : ℕ
  last = c.len-last.result - 1

  abbrev e : Entry
  e = c.index-entry.result.now

  abbrev f : Entry
  f = record { start = e.start; size = e.size; first = c.min-skip.result; second = e.second }

  len : length a.entries.items ≡ c.len-last.result
  len = sym (c.len-last.ensures ∙ a.entries.ok.0)

  live : a.live < length a.entries.items
  live =
      let le : a.live ≤ length a.entries.items = c.self.invariant.live in
      let other : c.len.result ≡ length a.entries.items = c.len.ensures ∙ a.entries.ok.0 in
      omega (arith, c.if-self-len.false)

  at : slice_get a.entries.items last ≡ Some e
  at = slice_get_read a.entries.items (length a.entries.items) last e refl (omega (arith, live, len))
      c.index-entry.ensures

  skip : IsSkip a.entries.items last f
  skip i g gone lt near there = c.self.invariant.removed i g (omega (arith, live, len, c.min-skip.ensures)) there

pub invariant_of-self : goal.invariant_of-self
invariant_of-self c =
    let b : Inside = record {
      lits = c.self.inside.lits;
      entries = with_item c.self.inside.entries (last c) (f c);
      buffer = c.self.inside.buffer;
      spare = c.self.inside.spare;
      live = c.self.inside.live;
    } in
    kept-place c.self.inside b (last c) (e c) (f c) c.self.invariant (at c) refl refl (skip c) refl refl refl refl
    (λ n is. let r = c.self.invariant.room n is in room-more c.self.inside b n r (omega arith) (omega arith)
    (omega arith) (omega arith) (omega arith))

pub returns : goal.returns
returns c =
    let a : Inside = c.self.inside in
    let same : clause_of a.lits.items (f c) ≡ clause_of a.lits.items (get_or a.entries.items (last c) (e c)) =
    ap (clause_of a.lits.items) c.index-entry.ensures in
    ap (λ (xs : List (Option (List Lit))). record { clauses = xs; spare = spare_of a.spare })
    (map-set_same (clause_of a.lits.items) a.entries.items (last c) (f c) (e c) same) ∙ c.self.view_is
