use Rattle.std.proofs.Common.{◌≡◌, Some, refl, sym, ap, ◌∙◌, subst}
use Rattle.std.specs.Bool.{beq, then_some}
use Rattle.kb_logic.specs.declared.syntax.Cmp.TheVariants as cmp
use Rattle.kb_logic.specs.Denotations.{compared}
use Rattle.lit_core.specs.Literals.{by_sign, literal_value, valuation}
use Rattle.lit_core.specs.Truth.{IsSatisfied}
use Rattle.ground_core.specs.Meaning.{joined, parts_value, denotation_of_bound}
use Rattle.ground_core.specs.Growth.{with_clause, with_gate, with_same, with_sum}
use Rattle.solving_judge.specs.declared.problems.Said.TheVariants.{Clause, Gate, Same, Sum, Term}
use Rattle.solving_judge.specs.Sayings.{saying, term_of}
use Rattle.solving_judge.proofs.SuitFacts.{if-named, if-so, turned, beq-sign, clause-made, clause-back, gate-made}
use Rattle.solving_judge.proofs.SuitFacts.{gate-back, same-made, same-back, sum-made, sum-back, term-made}
use Rattle.solving_judge.proofs.holding.last_saying.Goals as goal

pub returns-in-Clause-clause-last : goal.returns-in-Clause-clause-last
returns-in-Clause-clause-last c = λ p is none s.
    let values = c.args.values.now in
    let ls = c.in-Clause.lits.items in
    turned values (saying p) c.args.said.now (Clause c.in-Clause.lits) c.then_some.result
    (then_some c.satisfies.result c.args.last) c.in-Clause.is c.then_some.ensures
    (if-so values (with_clause p ls) c.args.last c.satisfies.result is
    (λ t. clause-made values p ls s (subst (IsSatisfied (valuation values)) c.deref.ensures.value
    (c.satisfies.ensures.any.0 t)))
    (λ t. c.satisfies.ensures.any.1 (subst (IsSatisfied (valuation values)) (sym c.deref.ensures.value)
    (clause-back values p ls t).1)))

pub returns-in-Gate-clause-last : goal.returns-in-Gate-clause-last
returns-in-Gate-clause-last c = λ p is none s.
    let values = c.args.values.now in
    let ls = c.in-Gate.parts.items in
    let all = c.in-Gate.all in
    let value : c.joined_value.result ≡ joined all (valuation values) ls = c.joined_value.ensures
    ∙ ap (joined all (valuation values)) c.deref-in-Gate.ensures.value in
    turned values (saying p) c.args.said.now (Gate all c.in-Gate.parts) c.defined.result c.defined.result c.in-Gate.is
    refl
    (if-named values p (with_gate p all ls) c.args.last (λ k. valuation values k ≡ c.joined_value.result)
    c.defined.result is c.defined.ensures refl
    (λ lt h. gate-made values p all ls s lt (h ∙ value))
    (λ t. (gate-back values p all ls t).1 ∙ sym value))

pub returns-in-Same-clause-last : goal.returns-in-Same-clause-last
returns-in-Same-clause-last c = λ p is none s.
    let values = c.args.values.now in
    let a = c.in-Same.a in
    let b = c.in-Same.b in
    let value : beq c.is_true.result c.is_true-in-Same.result ≡ by_sign (literal_value (valuation values) a)
    (literal_value (valuation values) b) = beq-sign c.is_true.result c.is_true-in-Same.result
    ∙ ap (λ x. by_sign x c.is_true-in-Same.result) c.is_true.ensures
    ∙ ap (by_sign (literal_value (valuation values) a)) c.is_true-in-Same.ensures in
    turned values (saying p) c.args.said.now (Same a b) c.defined-in-Same.result c.defined-in-Same.result c.in-Same.is
    refl
    (if-named values p (with_same p a b) c.args.last (λ k. valuation values k ≡ beq c.is_true.result
    c.is_true-in-Same.result) c.defined-in-Same.result is c.defined-in-Same.ensures refl
    (λ lt h. same-made values p a b s lt (h ∙ value))
    (λ t. (same-back values p a b t).1 ∙ sym value))

pub returns-in-Sum-clause-last : goal.returns-in-Sum-clause-last
returns-in-Sum-clause-last c = λ p is none s.
    let values = c.args.values.now in
    let v = valuation values in
    let k = c.in-Sum.kind in
    let ps = c.in-Sum.parts.items in
    let least = denotation_of_bound c.in-Sum.least in
    let value : c.is_at_least.result ≡ compared cmp.Ge (parts_value v k ps) least = c.is_at_least.ensures
    ∙ ap (λ d. compared cmp.Ge d least) (c.parts_total-total.ensures.value
    ∙ ap (parts_value v k) c.deref-in-Sum.ensures.value) in
    turned values (saying p) c.args.said.now (Sum k c.in-Sum.least c.in-Sum.parts) c.defined-in-Sum.result
    c.defined-in-Sum.result c.in-Sum.is refl
    (if-named values p (with_sum p k ps c.in-Sum.least) c.args.last (λ n. v n ≡ c.is_at_least.result)
    c.defined-in-Sum.result is c.defined-in-Sum.ensures refl
    (λ lt h. sum-made values p k ps c.in-Sum.least s lt (h ∙ value))
    (λ t. (sum-back values p k ps c.in-Sum.least t).1 ∙ sym value))

pub returns-in-Term-clause-last : goal.returns-in-Term-clause-last
returns-in-Term-clause-last c = λ p is none s.
    turned c.args.values.now (saying p) c.args.said.now (Term c.in-Term.field-0 c.in-Term.field-1 c.in-Term.field-2)
    (Some c.args.last) (Some c.args.last) c.in-Term.is refl
    (term-made c.args.values.now p (term_of c.in-Term.field-0 c.in-Term.field-1 c.in-Term.field-2.items) none s, is)
