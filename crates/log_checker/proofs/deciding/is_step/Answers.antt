use Rattle.std.proofs.Common.{◌≡◌, ◌∙◌, ◌↔◌, IsTrue, IfOk, sym, subst}
use Rattle.derivation_log.specs.declared.entries.Entry.TheVariants as entry
use Rattle.derivation_log.specs.Steps.{LogStep}
use Rattle.log_checker.specs.States.{state_view}
use Rattle.log_checker.proofs.deciding.is_step.Goals as goal

pub returns-in-Learnt-clause-decides : goal.returns-in-Learnt-clause-decides
returns-in-Learnt-clause-decides c =
    let e0 = c.as_slice.ensures in
    let e1 = c.as_slice-in-Learnt.ensures in
    let one : entry.Learnt (c.as_slice.result.now) (c.as_slice-in-Learnt.result.now)
    ≡ entry.Learnt c.in-Learnt.lits c.in-Learnt.hints = cc in
    let is : entry.Learnt (c.as_slice.result.now) (c.as_slice-in-Learnt.result.now) ≡ c.args.e.now =
    one ∙ sym c.in-Learnt.is in
    subst (λ x. IfOk c.is_learnt.result (λ b. IsTrue b ↔ LogStep c.args.p.now (state_view c.args.st.now) x)) is
    c.is_learnt.ensures.decides

pub returns-in-Sum-clause-decides : goal.returns-in-Sum-clause-decides
returns-in-Sum-clause-decides c =
    let e0 = c.as_slice-in-Sum.ensures in
    let one : entry.Sum c.in-Sum.n c.as_slice-in-Sum.result.now ≡ entry.Sum c.in-Sum.n c.in-Sum.lits = cc in
    let is : entry.Sum c.in-Sum.n c.as_slice-in-Sum.result.now ≡ c.args.e.now = one ∙ sym c.in-Sum.is in
    subst (λ x. IfOk c.is_sum.result (λ b. IsTrue b ↔ LogStep c.args.p.now (state_view c.args.st.now) x)) is
    c.is_sum.ensures.decides

pub returns-in-Inconsistent-clause-decides : goal.returns-in-Inconsistent-clause-decides
returns-in-Inconsistent-clause-decides c =
    let e0 = c.as_slice-in-Inconsistent.ensures in
    let one : entry.Inconsistent c.as_slice-in-Inconsistent.result.now c.in-Inconsistent.c
    ≡ entry.Inconsistent c.in-Inconsistent.lits c.in-Inconsistent.c = cc in
    let is : entry.Inconsistent c.as_slice-in-Inconsistent.result.now c.in-Inconsistent.c ≡ c.args.e.now =
    one ∙ sym c.in-Inconsistent.is in
    subst (λ x. IfOk c.is_inconsistent.result (λ b. IsTrue b ↔ LogStep c.args.p.now (state_view c.args.st.now) x)) is
    c.is_inconsistent.ensures.decides

pub returns-in-Forced-clause-decides : goal.returns-in-Forced-clause-decides
returns-in-Forced-clause-decides c =
    let e0 = c.as_slice-in-Forced.ensures in
    let one : entry.Forced c.in-Forced.l c.as_slice-in-Forced.result.now c.in-Forced.c
    ≡ entry.Forced c.in-Forced.l c.in-Forced.lits c.in-Forced.c = cc in
    let is : entry.Forced c.in-Forced.l c.as_slice-in-Forced.result.now c.in-Forced.c ≡ c.args.e.now =
    one ∙ sym c.in-Forced.is in
    subst (λ x. IfOk c.is_forced.result (λ b. IsTrue b ↔ LogStep c.args.p.now (state_view c.args.st.now) x)) is
    c.is_forced.ensures.decides

pub returns-in-Least-clause-decides : goal.returns-in-Least-clause-decides
returns-in-Least-clause-decides c =
    let e0 = c.as_slice-in-Least.ensures in
    let one : entry.Least c.in-Least.t c.in-Least.k c.as_slice-in-Least.result.now c.in-Least.c
    ≡ entry.Least c.in-Least.t c.in-Least.k c.in-Least.lits c.in-Least.c = cc in
    let is : entry.Least c.in-Least.t c.in-Least.k c.as_slice-in-Least.result.now c.in-Least.c ≡ c.args.e.now =
    one ∙ sym c.in-Least.is in
    subst (λ x. IfOk c.is_least.result (λ b. IsTrue b ↔ LogStep c.args.p.now (state_view c.args.st.now) x)) is
    c.is_least.ensures.decides
