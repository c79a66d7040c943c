-- The tree that a named term, formula or rule is.
use Rattle.std.specs.Prelude.{Bool, List, map, option_map}
use Rattle.stage_definitions.specs.NamedTrees as tree
use Rattle.stage_definitions.specs.NamedTrees.{terms_of, summands_of, formulas_of}
use Rattle.stage_definitions.specs.declared.named.NamedVar.{NamedVar}
use Rattle.stage_definitions.specs.declared.named.NamedRule.{NamedRule}
use Rattle.stage_definitions.specs.declared.named.NamedDefinition.{NamedDefinition}
use Rattle.stage_definitions.specs.declared.named.NamedFormula.{NamedFormula, fold-NamedFormula}
use Rattle.stage_definitions.specs.declared.named.NamedNode.{NamedNode, fold-NamedNode}
use Rattle.stage_definitions.specs.declared.named.NamedSigned.{NamedSigned, fold-NamedSigned}
use Rattle.stage_definitions.specs.declared.named.NamedTerm.{NamedTerm, fold-NamedTerm}
use Rattle.stage_definitions.specs.declared.named.NamedFormula.TheOpen.{NamedFormula-F, NamedNode-F, NamedSigned-F}
use Rattle.stage_definitions.specs.declared.named.NamedFormula.TheOpen.{NamedTerm-F}

abbrev pub var_view : NamedVar → tree.NamedVar
var_view v = record { name = v.name; place = v.place; ty = v.ty }

abbrev pub formula_step : NamedFormula-F tree.NamedFormula tree.NamedNode (Bool × tree.NamedTerm) tree.NamedTerm
    → tree.NamedFormula
formula_step (NamedFormula-F.Truth b) = tree.truth b
formula_step (NamedFormula-F.Atom s ts) = tree.atom s (terms_of ts.items)
formula_step (NamedFormula-F.Compare c a b) = tree.comparison c a b
formula_step (NamedFormula-F.Not f) = tree.negation f.value
formula_step (NamedFormula-F.And fs) = tree.conjunction (formulas_of fs.items)
formula_step (NamedFormula-F.Or fs) = tree.disjunction (formulas_of fs.items)
formula_step (NamedFormula-F.Implies f g) = tree.implication f.value g.value
formula_step (NamedFormula-F.Iff f g) = tree.equivalence f.value g.value
formula_step (NamedFormula-F.All vs f) = tree.universal (map var_view vs) f.value
formula_step (NamedFormula-F.Any vs f) = tree.existential (map var_view vs) f.value
formula_step (NamedFormula-F.Number c n vs f) = tree.numbered c n (map var_view vs) f.value

abbrev pub node_step : NamedNode-F tree.NamedFormula tree.NamedNode (Bool × tree.NamedTerm) tree.NamedTerm
    → tree.NamedNode
node_step (NamedNode-F.Var n) = tree.variable n
node_step (NamedNode-F.Int n) = tree.integer n
node_step (NamedNode-F.Made t i) = tree.constructed t i
node_step (NamedNode-F.Apply s ts) = tree.application s (terms_of ts.items)
node_step (NamedNode-F.Sum ss) = tree.summation (summands_of ss.items)
node_step (NamedNode-F.Product ts) = tree.product (terms_of ts.items)
node_step (NamedNode-F.Agg k vs f t) = tree.aggregate k (map var_view vs) f.value t.value

abbrev pub signed_step : NamedSigned-F tree.NamedFormula tree.NamedNode (Bool × tree.NamedTerm) tree.NamedTerm
    → Bool × tree.NamedTerm
signed_step s = (s.minus, s.term)

abbrev pub term_step : NamedTerm-F tree.NamedFormula tree.NamedNode (Bool × tree.NamedTerm) tree.NamedTerm
    → tree.NamedTerm
term_step t = tree.at t.place t.node

-- the tree of a formula
abbrev pub formula_view : NamedFormula → tree.NamedFormula
formula_view = fold-NamedFormula tree.NamedFormula tree.NamedNode (Bool × tree.NamedTerm) tree.NamedTerm formula_step
    node_step signed_step term_step

abbrev pub node_view : NamedNode → tree.NamedNode
node_view = fold-NamedNode tree.NamedFormula tree.NamedNode (Bool × tree.NamedTerm) tree.NamedTerm formula_step
    node_step signed_step term_step

abbrev pub signed_view : NamedSigned → Bool × tree.NamedTerm
signed_view = fold-NamedSigned tree.NamedFormula tree.NamedNode (Bool × tree.NamedTerm) tree.NamedTerm formula_step
    node_step signed_step term_step

-- the tree of a term
abbrev pub term_view : NamedTerm → tree.NamedTerm
term_view = fold-NamedTerm tree.NamedFormula tree.NamedNode (Bool × tree.NamedTerm) tree.NamedTerm formula_step
    node_step signed_step term_step

-- the tree of a rule
abbrev pub rule_view : NamedRule → tree.NamedRule
rule_view r = record {
  vars = map var_view r.vars;
  symbol = r.symbol;
  args = map term_view r.args;
  value = option_map term_view r.value;
  has_body = r.has_body;
  body = formula_view r.body;
}

-- the trees of a definition's rules
abbrev pub definition_view : NamedDefinition → List tree.NamedRule
definition_view d = map rule_view d.rules
