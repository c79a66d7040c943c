use Rattle.std.proofs.Common.{◌≡◌, ◌+◌, ◌-◌, ◌++◌, ◌∷◌, [], Some, None, List, Option, map, refl, ap, ◌∙◌}
use Rattle.std.proofs.Common.{length, length-append, arith}
use Rattle.lit_core.specs.declared.literals.Lit.{Lit}
use Rattle.clause_base.specs.ClauseDbState.{ClauseDbState}
use Rattle.clause_base.specs.ClauseDbFields.{clause_of}
use Rattle.clause_base.specs.declared.clause_db.Entry.{Entry}
use Rattle.clause_base.specs.declared.clause_db.ClauseDb.TheInside.{Inside}
use Rattle.clause_base.proofs.ArenaFacts.{clauses-push, kept-push}
use Rattle.clause_base.proofs.clause_db.ClauseDb.push.Goals as goal

module _ (c : goal.After-self-2-1) where
  abbrev a : Inside
  a = c.self.inside

  abbrev more : List Lit
  more = c.append_once.ensures.once.0

  abbrev e : Entry
  e = record { start = c.len-start.result; size = c.len.result - c.len-start.result + 1; first = 0; second = 0 }

  start : c.len-start.result ≡ length a.lits.items
  start = c.len-start.ensures ∙ a.lits.ok.0

  size : c.len.result - c.len-start.result + 1 ≡ length more + 1
  size =
      let after : c.len.result ≡ length (a.lits.items ++ more) = c.len.ensures ∙ (c.append_once.new.arena.ok.0
      ∙ ap length c.append_once.ensures.once.2) in
      let all : length (a.lits.items ++ more) ≡ length a.lits.items + length more = length-append a.lits.items more in
      omega (arith, after, all, start)

pub invariant_of-self : goal.invariant_of-self
invariant_of-self c =
    let b : Inside = record {
      lits = c.append_once.new.arena;
      entries = c.push_reserved.new.self;
      buffer = c.append_once.new.buffer;
      spare = None;
      live = c.len-self-inside.result;
    } in
    kept-push (a c) b (more c) (e c) c.self.invariant c.append_once.ensures.once.2 c.push_reserved.ensures.items
    c.append_once.ensures.empty refl (c.len-self-inside.ensures ∙ c.push_reserved.new.self.ok.0) (start c) (size c)

pub returns : goal.returns
returns c =
    let make : List Lit → List Entry → ClauseDbState = λ xs es. record { clauses = map (clause_of xs) es; spare = 0 } in
    let xs : List Lit = (a c).lits.items ++ more c in
    let pushed = clauses-push (a c).lits.items (more c) (a c).entries.items (e c) c.self.invariant.within (start c)
    (size c) in
    let fields : make c.append_once.new.arena.items c.push_reserved.new.self.items ≡ make xs ((a c).entries.items
    ++ e c ∷ []) = ap (λ ys. make ys c.push_reserved.new.self.items) c.append_once.ensures.once.2
    ∙ ap (make xs) c.push_reserved.ensures.items in (
      more c,
      c.append_once.ensures.once.1,
      fields ∙ ap (λ (ys : List (Option (List Lit))). record { clauses = ys; spare = 0 }) pushed
          ∙ ap (λ (s : ClauseDbState). record { clauses = s.clauses ++ Some (more c) ∷ []; spare = 0 })
          (c.self.view_is ∙ c.note_gap.ensures),
    )
