use Rattle.std.proofs.Common.{◌∙◌, ℕ, List, ◌++◌, ap}
use Rattle.consult_base.specs.Opened.{base_of}
use Rattle.consultation.proofs.Stated.{claims-for, goes-on-parts, over-for, problem-for, right-for, right-under, stated}
use Rattle.consultation.proofs.statements.derived_statement.Goals as goal

pub derived_claims-requires-clause-over : goal.derived_claims-requires-clause-over
derived_claims-requires-clause-over c =
    over-for c.args.session.now.kb c.kb.result.now c.kb.ensures c.args.session.now.state.choices
    c.as_slice-choices.result.now (c.as_slice-choices.ensures ∙ c.choices.ensures) c.known.ensures.choices

pub derived_claims-requires-clause-right : goal.derived_claims-requires-clause-right
derived_claims-requires-clause-right c =
    right-for c.args.session.now.kb c.kb.result.now c.kb.ensures c.args.session.now.state.choices
    c.as_slice-choices.result.now (c.as_slice-choices.ensures ∙ c.choices.ensures) c.args.command.now c.args.reply.now
    (right-under (base_of c.args.session.now.kb) c.args.session.now.state c.args.command.now c.args.reply.now
    c.requires.right)

pub derived_claims-requires-clause-problem : goal.derived_claims-requires-clause-problem
derived_claims-requires-clause-problem c =
    problem-for c.args.session.now.kb c.kb.result.now c.kb.ensures c.args.checker.now c.marked.new.checker
    c.in_ok-bytes.bytes.items c.in_ok-bytes.ensures.steps c.requires.problem

pub returns-clause-statement : goal.returns-clause-statement
returns-clause-statement c =
    stated (base_of c.args.session.now.kb) c.args.session.now.state c.args.number c.args.command.now c.args.reply.now
    c.in_ok-bytes.bytes.items c.in_ok-claims.claims.items c.extend_from_slice.new.self.items
    c.in_ok-bytes.ensures.mark
    (claims-for c.args.session.now.kb c.kb.result.now c.kb.ensures c.args.session.now.state.choices
    c.as_slice-choices.result.now (c.as_slice-choices.ensures ∙ c.choices.ensures) c.args.command.now c.args.reply.now
    c.in_ok-claims.claims.items c.in_ok-claims.ensures.claims)
    (c.in_ok-extend_from_slice.ensures.items
    ∙ ap (λ (l : List ℕ). c.in_ok-bytes.bytes.items ++ l) c.deref.ensures.value)

pub returns-clause-steps : goal.returns-clause-steps
returns-clause-steps c =
    goes-on-parts c.args.checker.now c.marked.new.checker c.derived_claims.new.checker c.in_ok-bytes.bytes.items
    c.in_ok-claims.claims.items c.extend_from_slice.new.self.items c.in_ok-bytes.ensures.steps
    c.in_ok-claims.ensures.goes_on
    (c.in_ok-extend_from_slice.ensures.items
    ∙ ap (λ (l : List ℕ). c.in_ok-bytes.bytes.items ++ l) c.deref.ensures.value)
