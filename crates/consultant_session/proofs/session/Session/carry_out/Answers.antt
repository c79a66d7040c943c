use Rattle.std.proofs.Common.{◌≡◌, Ok, rules, refl, sym, ap, subst}
use Rattle.clause_learning.specs.GoingOn.{prefix-itself, prefix-same}
use Rattle.ground_core.specs.Solving.{SolveState}
use Rattle.consult_base.specs.Opened.{base_of}
use Rattle.consult_text.specs.declared.commands.Command.{Command}
use Rattle.consult_text.specs.declared.commands.Command.TheVariants as command
use Rattle.consultant_session.specs.Commands.{IsNotRefused}
use Rattle.consultant_session.specs.Sessions.{Replies}
use Rattle.session_queries.specs.Solvers.{IsSolverOf}
use Rattle.consultant_session.proofs.ReplyLemmas.{change-replies, query-replies, not-forced, on-err, on-ok}
use Rattle.consultant_session.proofs.SolverLemmas.{forgotten-solver}
use Rattle.consultant_session.proofs.session.Session.carry_out.Goals as goal

pub returns-in-Assert : goal.returns-in-Assert
returns-in-Assert g c =
    let is : c.args.command.now ≡ (command.Assert c.in-Assert.literal) = search rules in
    subst (λ (d : Command). Replies (base_of c.args.self.now.kb) d c.assert.result c.args.self.now c.assert.new.self)
    (sym is)
    (change-replies (base_of c.args.self.now.kb) (command.Assert c.in-Assert.literal) c.assert.result c.args.self.now
    c.assert.new.self
    (λ q. q) c.assert.ensures.right c.assert.ensures.after c.assert.ensures.kept (on-err c.assert.result tt)
    c.assert.ensures.kb
    (ap (λ (s : SolveState). s.learnt) c.assert.ensures.solver) (ap (λ (s : SolveState). s.cores)
    c.assert.ensures.solver)
    (subst (IsSolverOf (base_of c.args.self.now.kb)) (sym c.assert.ensures.solver) c.known.ensures.solver)
    (prefix-same c.args.self.now.supports c.assert.new.self.supports c.assert.ensures.supports))

pub returns-in-Retract : goal.returns-in-Retract
returns-in-Retract g c =
    let is : c.args.command.now ≡ (command.Retract c.in-Retract.literal) = search rules in
    subst (λ (d : Command). Replies (base_of c.args.self.now.kb) d (Ok c.retract.result) c.args.self.now
    c.retract.new.self) (sym is)
    (change-replies (base_of c.args.self.now.kb) (command.Retract c.in-Retract.literal) (Ok c.retract.result)
    c.args.self.now c.retract.new.self
    (λ q. q) c.retract.ensures.right c.retract.ensures.after tt tt c.retract.ensures.kb
    (ap (λ (s : SolveState). s.learnt) c.retract.ensures.solver) (ap (λ (s : SolveState). s.cores)
    c.retract.ensures.solver)
    (subst (IsSolverOf (base_of c.args.self.now.kb)) (sym c.retract.ensures.solver) c.known.ensures.solver)
    c.retract.ensures.supports)

pub returns-in-Reset : goal.returns-in-Reset
returns-in-Reset g c =
    let is : c.args.command.now ≡ command.Reset = search rules in
    subst (λ (d : Command). Replies (base_of c.args.self.now.kb) d (Ok c.reset.result) c.args.self.now
    c.reset.new.self) (sym is)
    (change-replies (base_of c.args.self.now.kb) command.Reset (Ok c.reset.result) c.args.self.now c.reset.new.self
    (λ q. q) c.reset.ensures.right c.reset.ensures.after tt tt c.reset.ensures.kb
    (ap (λ (s : SolveState). s.learnt) c.reset.ensures.solver) (ap (λ (s : SolveState). s.cores) c.reset.ensures.solver)
    (subst (IsSolverOf (base_of c.args.self.now.kb)) (sym c.reset.ensures.solver) c.known.ensures.solver)
    c.reset.ensures.supports)

pub returns-in-Budget : goal.returns-in-Budget
returns-in-Budget g c =
    let is : c.args.command.now ≡ (command.Budget c.in-Budget.budget) = search rules in
    subst (λ (d : Command). Replies (base_of c.args.self.now.kb) d (Ok c.limit.result) c.args.self.now
    c.limit.new.self) (sym is)
    (change-replies (base_of c.args.self.now.kb) (command.Budget c.in-Budget.budget) (Ok c.limit.result)
    c.args.self.now c.limit.new.self
    (λ q. q) c.limit.ensures.right c.limit.ensures.after tt tt c.limit.ensures.kb
    (ap (λ (s : SolveState). s.learnt) c.limit.ensures.solver) (ap (λ (s : SolveState). s.cores) c.limit.ensures.solver)
    (subst (IsSolverOf (base_of c.args.self.now.kb)) (sym c.limit.ensures.solver) c.known.ensures.solver)
    (prefix-same c.args.self.now.supports c.limit.new.self.supports c.limit.ensures.supports))

pub returns-in-Forget : goal.returns-in-Forget
returns-in-Forget g c =
    let is : c.args.command.now ≡ command.Forget = search rules in
    subst (λ (d : Command). Replies (base_of c.args.self.now.kb) d (Ok c.forget.result) c.args.self.now
    c.forget.new.self) (sym is)
    (change-replies (base_of c.args.self.now.kb) command.Forget (Ok c.forget.result) c.args.self.now c.forget.new.self
    (λ q. q) c.forget.ensures.right c.forget.ensures.after tt tt c.forget.ensures.kb
    (ap (λ (s : SolveState). s.learnt) c.forget.ensures.solver) (ap (λ (s : SolveState). s.cores)
    c.forget.ensures.solver)
    (subst (IsSolverOf (base_of c.args.self.now.kb)) (sym c.forget.ensures.solver) (forgotten-solver (base_of
    c.args.self.now.kb) c.args.self.now.solver c.known.ensures.solver))
    c.forget.ensures.supports)

pub returns-in-Choices : goal.returns-in-Choices
returns-in-Choices g c =
    let is : c.args.command.now ≡ command.Choices = search rules in
    subst (λ (d : Command). Replies (base_of c.args.self.now.kb) d c.list_choices.result c.args.self.now
    c.args.self.now) (sym is)
    (change-replies (base_of c.args.self.now.kb) command.Choices c.list_choices.result c.args.self.now c.args.self.now
    (λ q. q) c.list_choices.ensures (on-ok c.list_choices.result refl) (on-err c.list_choices.result refl)
    (on-err c.list_choices.result tt) refl refl refl c.known.ensures.solver (prefix-itself c.args.self.now.supports))

pub returns-in-Model : goal.returns-in-Model
returns-in-Model g c =
    let is : c.args.command.now ≡ command.Model = search rules in
    subst (λ (d : Command). Replies (base_of c.args.self.now.kb) d c.model.result c.args.self.now c.model.new.self)
    (sym is)
    (query-replies (base_of c.args.self.now.kb) command.Model c.model.result c.args.self.now c.model.new.self tt
    (subst (λ (d : Command). IsNotRefused (base_of c.args.self.now.kb) c.args.self.now.state c.args.self.now.solver d)
    is c.requires.open) c.model.ensures.right c.model.ensures.state c.model.ensures.kb
    c.model.ensures.searches c.model.ensures.refuted (prefix-same c.args.self.now.supports c.model.new.self.supports
    c.model.ensures.supports)
    (not-forced (base_of c.args.self.now.kb) command.Model c.args.self.now.state c.args.self.now.state.choices
    c.model.new.self.supports c.model.result (λ e. cc) c.model.ensures.right) tt)

pub returns-in-Models : goal.returns-in-Models
returns-in-Models g c =
    let is : c.args.command.now ≡ (command.Models c.in-Models.most) = search rules in
    subst (λ (d : Command). Replies (base_of c.args.self.now.kb) d c.models.result c.args.self.now c.models.new.self)
    (sym is)
    (query-replies (base_of c.args.self.now.kb) (command.Models c.in-Models.most) c.models.result c.args.self.now
    c.models.new.self tt
    (subst (λ (d : Command). IsNotRefused (base_of c.args.self.now.kb) c.args.self.now.state c.args.self.now.solver d)
    is c.requires.open) c.models.ensures.right c.models.ensures.state c.models.ensures.kb
    c.models.ensures.searches c.models.ensures.refuted (prefix-same c.args.self.now.supports
    c.models.new.self.supports c.models.ensures.supports)
    (not-forced (base_of c.args.self.now.kb) (command.Models c.in-Models.most) c.args.self.now.state
    c.args.self.now.state.choices c.models.new.self.supports c.models.result (λ e. cc) c.models.ensures.right) tt)

pub returns-in-Minimize : goal.returns-in-Minimize
returns-in-Minimize g c =
    let is : c.args.command.now ≡ (command.Minimize c.in-Minimize.term) = search rules in
    subst (λ (d : Command). Replies (base_of c.args.self.now.kb) d c.minimize.result c.args.self.now
    c.minimize.new.self) (sym is)
    (query-replies (base_of c.args.self.now.kb) (command.Minimize c.in-Minimize.term) c.minimize.result
    c.args.self.now c.minimize.new.self tt
    (subst (λ (d : Command). IsNotRefused (base_of c.args.self.now.kb) c.args.self.now.state c.args.self.now.solver d)
    is c.requires.open) c.minimize.ensures.right c.minimize.ensures.state c.minimize.ensures.kb
    c.minimize.ensures.searches c.minimize.ensures.refuted (prefix-same c.args.self.now.supports
    c.minimize.new.self.supports c.minimize.ensures.supports)
    (not-forced (base_of c.args.self.now.kb) (command.Minimize c.in-Minimize.term) c.args.self.now.state
    c.args.self.now.state.choices c.minimize.new.self.supports c.minimize.result (λ e. cc) c.minimize.ensures.right) tt)

pub returns-in-Explain : goal.returns-in-Explain
returns-in-Explain g c =
    let is : c.args.command.now ≡ (command.Explain c.in-Explain.literal) = search rules in
    subst (λ (d : Command). Replies (base_of c.args.self.now.kb) d c.explain.result c.args.self.now
    c.explain.new.self) (sym is)
    (query-replies (base_of c.args.self.now.kb) (command.Explain c.in-Explain.literal) c.explain.result
    c.args.self.now c.explain.new.self tt
    (subst (λ (d : Command). IsNotRefused (base_of c.args.self.now.kb) c.args.self.now.state c.args.self.now.solver d)
    is c.requires.open) c.explain.ensures.right c.explain.ensures.state c.explain.ensures.kb
    c.explain.ensures.searches c.explain.ensures.refuted (prefix-same c.args.self.now.supports
    c.explain.new.self.supports c.explain.ensures.supports)
    (not-forced (base_of c.args.self.now.kb) (command.Explain c.in-Explain.literal) c.args.self.now.state
    c.args.self.now.state.choices c.explain.new.self.supports c.explain.result (λ e. cc) c.explain.ensures.right) tt)

pub returns-in-Propagate : goal.returns-in-Propagate
returns-in-Propagate g c =
    let is : c.args.command.now ≡ command.Propagate = search rules in
    subst (λ (d : Command). Replies (base_of c.args.self.now.kb) d c.propagate.result c.args.self.now
    c.propagate.new.self) (sym is)
    (query-replies (base_of c.args.self.now.kb) command.Propagate c.propagate.result c.args.self.now
    c.propagate.new.self tt
    (subst (λ (d : Command). IsNotRefused (base_of c.args.self.now.kb) c.args.self.now.state c.args.self.now.solver d)
    is c.requires.open) c.propagate.ensures.right c.propagate.ensures.state c.propagate.ensures.kb
    c.propagate.ensures.searches c.propagate.ensures.refuted c.propagate.ensures.supports
    c.propagate.ensures.covers c.propagate.ensures.propagates)

pub returns-in-Why : goal.returns-in-Why
returns-in-Why g c =
    let is : c.args.command.now ≡ command.Why = search rules in
    subst (λ (d : Command). Replies (base_of c.args.self.now.kb) d c.why.result c.args.self.now c.why.new.self) (sym is)
    (query-replies (base_of c.args.self.now.kb) command.Why c.why.result c.args.self.now c.why.new.self tt
    (subst (λ (d : Command). IsNotRefused (base_of c.args.self.now.kb) c.args.self.now.state c.args.self.now.solver d)
    is c.requires.open) c.why.ensures.right c.why.ensures.state c.why.ensures.kb
    c.why.ensures.searches c.why.ensures.refuted (prefix-same c.args.self.now.supports c.why.new.self.supports
    c.why.ensures.supports)
    (not-forced (base_of c.args.self.now.kb) command.Why c.args.self.now.state c.args.self.now.state.choices
    c.why.new.self.supports c.why.result (λ e. cc) c.why.ensures.right) tt)
