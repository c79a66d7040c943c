use Rattle.std.proofs.Common.{sym, subst}
use Rattle.consult_base.specs.Opened.{base_of}
use Rattle.consultation.specs.Accepted.{IsBefore}
use Rattle.consultation.specs.Turns.{ConsultantState}
use Rattle.consultation.proofs.Accepting.{problem-before}
use Rattle.consultation.proofs.consultant.Consultant.state.Goals as goal

pub write_statement-requires-clause-problem : goal.write_statement-requires-clause-problem
write_statement-requires-clause-problem g c =
    let before = subst (λ (s : ConsultantState). IsBefore (base_of s.kb) s.number s.checker) (sym c.self.view_is)
    c.requires.line in
    problem-before (base_of c.self.inside.session.kb) c.self.inside.number c.self.inside.checker c.in-Some.checker
    c.in-Some.is before
