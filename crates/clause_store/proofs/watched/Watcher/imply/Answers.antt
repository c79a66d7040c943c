use Rattle.std.proofs.Common.{◌≡◌}
use Rattle.clause_store.proofs.NodeFacts.{same-node}
use Rattle.clause_store.proofs.ImplyFacts.{imply-watcher, imply-same, imply-keeps, imply-done}
use Rattle.clause_store.proofs.watched.Watcher.imply.Goals as goal

pub returns-clause-watcher : goal.returns-clause-watcher
returns-clause-watcher c =
    let m = c.requires.last in
    let id : c.clause_of.result ≡ m.id = same-node c.args.node c.clause_of.result m.id c.clause_of.ensures m.of in
    rw (c.assign.ensures.step, id) (imply-watcher c.args.self.now c.requires.watcher c.args.node c.args.falsified
    c.requires.falsified c.args.other m)

pub returns-clause-same : goal.returns-clause-same
returns-clause-same c =
    let m = c.requires.last in
    let id : c.clause_of.result ≡ m.id = same-node c.args.node c.clause_of.result m.id c.clause_of.ensures m.of in
    rw (c.assign.ensures.step, id) (imply-same c.args.self.now c.requires.watcher c.args.node c.args.falsified
    c.requires.falsified c.args.other m)

pub returns-clause-keeps : goal.returns-clause-keeps
returns-clause-keeps c =
    let m = c.requires.last in
    let id : c.clause_of.result ≡ m.id = same-node c.args.node c.clause_of.result m.id c.clause_of.ensures m.of in
    rw (c.assign.ensures.step, id) (imply-keeps c.args.self.now c.requires.watcher c.args.node c.args.falsified
    c.requires.falsified c.args.other m)

pub returns-clause-done : goal.returns-clause-done
returns-clause-done c =
    let m = c.requires.last in
    let id : c.clause_of.result ≡ m.id = same-node c.args.node c.clause_of.result m.id c.clause_of.ensures m.of in
    rw (c.assign.ensures.step, id) (imply-done c.args.self.now c.requires.watcher c.args.node c.args.falsified
    c.requires.falsified c.args.other m c.args.before)
