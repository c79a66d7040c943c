use Rattle.std.proofs.Common.{map, sym, subst}
use Rattle.kb_logic.specs.Trees.{terms_of}
use Rattle.kb_logic.specs.Views.{term_view, rule_view}
use Rattle.plain_evaluation.specs.Environments.{env_view}
use Rattle.term_values.specs.RowArithmetic.{TupleRowsFit}
use Rattle.definition_walk.proofs.HeadValues.{tuple-fits, args-row, plain-head, valued-head, own-if, only-one}
use Rattle.definition_walk.proofs.heads.head_var.Goals as goal

pub tuple_rows-requires : goal.tuple_rows-requires
tuple_rows-requires c =
    let b = c.args.base.now in
    let e = env_view c.args.env.now in
    subst (λ ts. TupleRowsFit b (terms_of (map term_view ts)) e) (sym c.as_slice.ensures)
    (tuple-fits b e (map term_view c.args.rule.now.args) c.requires.head.args)

pub values-requires : goal.values-requires
values-requires c =
    only-one c.in_ok-args.args _
    (args-row c.args.base.now (env_view c.args.env.now) c.as_slice.result.now c.args.rule.now.args c.in_ok-args.args
    c.in_ok-args.ensures c.as_slice.ensures c.requires.head.args)

pub returns-in-None-clause-var : goal.returns-in-None-clause-var
returns-in-None-clause-var c =
    plain-head c.args.base.now (env_view c.args.env.now) c.args.rule.now c.as_slice.result.now c.in_ok-args.args
    c.values.result.now c.in_ok-args.ensures c.as_slice.ensures c.requires.head c.values.ensures c.variable_at.result
    c.in-None.is c.variable_at.ensures

pub returns-in-None-clause-own : goal.returns-in-None-clause-own
returns-in-None-clause-own c =
    own-if c.args.base.now (rule_view c.args.rule.now) (env_view c.args.env.now) c.variable_at.result c.requires.head
    (returns-in-None-clause-var c)

pub values-requires-in-Some : goal.values-requires-in-Some
values-requires-in-Some c =
    only-one c.in_ok-args.args _
    (args-row c.args.base.now (env_view c.args.env.now) c.as_slice.result.now c.args.rule.now.args c.in_ok-args.args
    c.in_ok-args.ensures c.as_slice.ensures c.requires.head.args)

pub returns-clause-var : goal.returns-clause-var
returns-clause-var c =
    valued-head c.args.base.now (env_view c.args.env.now) c.args.rule.now c.as_slice.result.now c.in_ok-args.args
    c.values-in-Some.result.now c.in_ok-args.ensures c.as_slice.ensures c.requires.head c.values-in-Some.ensures
    c.in-Some.term c.in_ok-value-in-Some.value c.value-in-Some.result c.value_variable.result c.in-Some.is
    c.in_ok-value-in-Some.ensures c.value-in-Some.ensures c.value_variable.ensures

pub returns-clause-own : goal.returns-clause-own
returns-clause-own c =
    own-if c.args.base.now (rule_view c.args.rule.now) (env_view c.args.env.now) c.value_variable.result
    c.requires.head (returns-clause-var c)
