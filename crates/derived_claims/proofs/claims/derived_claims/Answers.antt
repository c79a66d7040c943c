use Rattle.std.proofs.Common.{sym, subst}
use Rattle.consult_base.specs.Opened.{base_of}
use Rattle.kb_logic.specs.Structures.{EachWith}
use Rattle.term_values.specs.GroundBases.{GroundBase}
use Rattle.atom_numbers.specs.Numbers.{HasNumber}
use Rattle.ground_task.specs.Choices.{AreOver}
use Rattle.derived_claims.specs.Following.{Follows}
use Rattle.derived_claims.proofs.Answering.{follows, of-log}
use Rattle.derived_claims.proofs.claims.derived_claims.Goals as goal

pub lits_of-requires : goal.lits_of-requires
lits_of-requires c =
    subst (λ (b : GroundBase). AreOver b c.args.choices.now) (sym c.in_ok-numbers.ensures.numbers) c.requires.over

pub statement_with-requires-clause-atoms : goal.statement_with-requires-clause-atoms
statement_with-requires-clause-atoms c =
    of-log (base_of c.args.kb.now) c.in_ok-numbers.ensures.theory c.args.checker.now c.requires.problem
    c.args.choices.now c.in_ok-lits.lits.items
    (subst (λ (b : GroundBase). EachWith (HasNumber b) c.args.choices.now c.in_ok-lits.lits.items)
    c.in_ok-numbers.ensures.numbers c.in_ok-lits.ensures.each)
    c.is_kept.ensures c.in_ok-lits.ensures.written

pub statement_with-requires-clause-follows : goal.statement_with-requires-clause-follows
statement_with-requires-clause-follows c =
    subst (λ (b : GroundBase). Follows b c.args.checker.now c.in_ok-lits.lits.items c.args.command.now c.args.reply.now)
    (sym c.in_ok-numbers.ensures.numbers)
    (follows (base_of c.args.kb.now) c.in_ok-numbers.ensures.theory c.args.checker.now c.requires.problem
    c.args.choices.now c.in_ok-lits.lits.items
    (subst (λ (b : GroundBase). EachWith (HasNumber b) c.args.choices.now c.in_ok-lits.lits.items)
    c.in_ok-numbers.ensures.numbers c.in_ok-lits.ensures.each)
    c.args.command.now c.args.reply.now c.requires.right)
