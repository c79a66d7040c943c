use Rattle.std.proofs.lemmas.Result.{IfOk-weaker}
use Rattle.fo_reader.proofs.InFile.{one_vocabulary, one_theory, one_structure, one_term, one_procedure}
use Rattle.fo_reader.proofs.file.add.Goals as goal

pub returns-in-Vocabulary : goal.returns-in-Vocabulary
returns-in-Vocabulary c = IfOk-weaker c.push.result _ _ (λ u e. one_vocabulary c.args.kb.now c.in-Vocabulary.found
    c.push.new.self c.args.next c.in-Vocabulary.is e) c.push.ensures.ok

pub returns-in-Theory : goal.returns-in-Theory
returns-in-Theory c = IfOk-weaker c.push-in-Theory.result _ _
    (λ u e. one_theory c.args.kb.now c.in-Theory.found c.push-in-Theory.new.self c.args.next c.in-Theory.is e)
    c.push-in-Theory.ensures.ok

pub returns-in-Structure : goal.returns-in-Structure
returns-in-Structure c = IfOk-weaker c.push-in-Structure.result _ _
    (λ u e. one_structure c.args.kb.now c.in-Structure.found c.push-in-Structure.new.self c.args.next c.in-Structure.is
    e) c.push-in-Structure.ensures.ok

pub returns-in-Term : goal.returns-in-Term
returns-in-Term c = IfOk-weaker c.push-in-Term.result _ _ (λ u e. one_term c.args.kb.now c.in-Term.found
    c.push-in-Term.new.self c.args.next c.in-Term.is e) c.push-in-Term.ensures.ok

pub returns-in-Procedure : goal.returns-in-Procedure
returns-in-Procedure c = one_procedure c.args.kb.now c.in-Procedure._place c.args.next c.in-Procedure.is
