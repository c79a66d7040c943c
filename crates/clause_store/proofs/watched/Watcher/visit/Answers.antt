use Rattle.std.proofs.Common.{◌≡◌, ℕ, ◌<◌, ◌≤◌, length, List, Contains, ◌∷◌, sym, subst, refl, arith, ⊎_elim}
use Rattle.std.proofs.lemmas.List.Elements.{Contains-append_right}
use Rattle.lit_core.proofs.LiteralFacts.{Contains-head}
use Rattle.clause_base.specs.StoreState.{IsHeld}
use Rattle.clause_store.specs.Watching.{store_of}
use Rattle.clause_store.proofs.NodeFacts.{same-node}
use Rattle.clause_store.proofs.ImplyFacts.{passes-node}
use Rattle.clause_base.proofs.PropagateFacts.{propagates-refl}
use Rattle.clause_store.proofs.watched.Watcher.visit.Goals as goal

pub look-requires-clause-listed : goal.look-requires-clause-listed
look-requires-clause-listed c =
    let w = c.requires.at in
    subst (λ (xs : List ℕ). Contains xs c.args.node) (sym w.2)
    (Contains-append_right w.0 (c.args.node ∷ w.1) c.args.node (Contains-head c.args.node w.1))

pub seek-requires-clause-id : goal.seek-requires-clause-id
seek-requires-clause-id c =
    let e = c.args.self.now in
    let lt : c.clause_of.result < e.checked = (c.in-Unsatisfied.ensures.1 c.clause_of.result c.clause_of.ensures).0 in
    let all : e.checked ≤ length e.held.clauses = c.requires.watcher.checked in
    omega arith

pub place-requires : goal.place-requires
place-requires c =
    let e = c.args.self.now in
    let lt : c.clause_of.result < e.checked = (c.in-Unsatisfied.ensures.1 c.clause_of.result c.clause_of.ensures).0 in
    let all : e.checked ≤ length e.held.clauses = c.requires.watcher.checked in
    ⊎_elim (λ a. omega arith) (λ a. omega arith) c.clause_of.ensures

pub move_watch-requires-clause-moved : goal.move_watch-requires-clause-moved
move_watch-requires-clause-moved c =
    let l = c.in-Unsatisfied.ensures.1 c.clause_of.result c.clause_of.ensures in
    let f = c.in-Literal.ensures in
    record {
      id = c.clause_of.result;
      of = c.clause_of.ensures;
      checked = l.0;
      clause = f.0;
      other = c.in-Unsatisfied.other;
      loose = l.1 f.0 f.1;
      member = f.2;
      distinct = f.3;
      unfalse = f.4;
    }

pub imply-requires-clause-last : goal.imply-requires-clause-last
imply-requires-clause-last c =
    let l = c.in-Unsatisfied.ensures.1 c.clause_of.result c.clause_of.ensures in
    let f = c.in-Unit.ensures in
    record {
      id = c.clause_of.result;
      of = c.clause_of.ensures;
      checked = l.0;
      clause = f.1.0;
      loose = l.1 f.1.0 f.1.1;
      unassigned = f.0;
      others = f.1.2;
    }

pub returns-in-Satisfied-clause-same : goal.returns-in-Satisfied-clause-same
returns-in-Satisfied-clause-same c = propagates-refl (store_of c.args.self.now)

pub returns-in-Satisfied-clause-visit : goal.returns-in-Satisfied-clause-visit
returns-in-Satisfied-clause-visit c = (
  passes-node c.args.self.now c.args.self.now c.args.node c.args.falsified
      c.args.before refl,
  c.in-Satisfied.ensures,
)

pub unlist-requires-clause-removed : goal.unlist-requires-clause-removed
unlist-requires-clause-removed c id d of held = c.in-Deleted.ensures d (subst (λ (n : ℕ).
    IsHeld (store_of c.args.self.now) n d) (same-node c.args.node id c.clause_of.result of c.clause_of.ensures) held)

pub returns-in-Conflict-clause-same : goal.returns-in-Conflict-clause-same
returns-in-Conflict-clause-same c = propagates-refl (store_of c.args.self.now)

pub returns-in-Conflict-clause-visit : goal.returns-in-Conflict-clause-visit
returns-in-Conflict-clause-visit c id of =
    let l = c.in-Unsatisfied.ensures.1 c.clause_of.result c.clause_of.ensures in
    let f = c.in-Conflict.ensures in
    let same : c.clause_of.result ≡ id = same-node c.args.node c.clause_of.result id c.clause_of.ensures of in (
      f.0,
      subst (λ (n : ℕ). IsHeld (store_of c.args.self.now) n f.0) same f.1,
      ⊎_elim (λ t. absurd ((l.1 f.0 f.1).untrue t)) (λ x. x) f.2,
    )
