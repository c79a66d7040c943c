-- What can be grounded can be narrowed.
use Rattle.std.proofs.Common.{List, [], ◌∷◌, Option, None, Some}
use Rattle.std.specs.List.{AllByRecursion}
use Rattle.std.specs.Option.{IfSome}
use Rattle.kb_logic.specs.declared.elements.Elem.{Elem}
use Rattle.kb_logic.specs.declared.vocabularies.Vocabulary.{Vocabulary}
use Rattle.kb_logic.specs.Bases.{Base}
use Rattle.kb_logic.specs.Trees.{TermTree, variable, integer, constructed, application, summation, product, aggregate}
use Rattle.kb_logic.specs.Trees.{RuleTree, DefinitionTree}
use Rattle.bound_laws.specs.Heads.{IsHeadTerm, HasPlainHead}
use Rattle.bound_laws.specs.Laws.{IsTypedBase}
use Rattle.def_ground.specs.Groundings.{IsGroundTheory}
use Rattle.def_ground.specs.Rules as rules
use Rattle.def_ground.specs.Rules.{IsTypedRule, IsTypedDefinition}

plain : (t : TermTree) → rules.IsHeadTerm t → IsHeadTerm t
plain (variable n) h = tt
plain (integer z) h = tt
plain (constructed ty n) h = tt
plain (application s ts) h = absurd h
plain (summation ss) h = h
plain (product ts) h = absurd h
plain (aggregate k bs f t) h = absurd h

all_plain : (ts : List TermTree) → AllByRecursion rules.IsHeadTerm ts → AllByRecursion IsHeadTerm ts
all_plain [] h = tt
all_plain (t ∷ ts) h = (plain t h.0, all_plain ts h.1)

value_plain : (o : Option TermTree) → IfSome o rules.IsHeadTerm → IfSome o IsHeadTerm
value_plain None h = h
value_plain (Some t) h = plain t h

rules_plain : (v : Vocabulary) (domains : List (List Elem)) (rs : List RuleTree)
    → AllByRecursion (IsTypedRule v domains) rs → AllByRecursion HasPlainHead rs
rules_plain v domains [] h = tt
rules_plain v domains (r ∷ rs) h = (
  record { args = all_plain r.args h.0.args; value = value_plain r.value h.0.value },
  rules_plain v domains rs h.1,
)

-- the heads of rules are plain
pub heads_plain : (v : Vocabulary) (domains : List (List Elem)) (ds : List DefinitionTree)
    → AllByRecursion (IsTypedDefinition v domains) ds
    → AllByRecursion (λ (d : DefinitionTree). AllByRecursion HasPlainHead d.rules) ds
heads_plain v domains [] h = tt
heads_plain v domains (d ∷ ds) h = (rules_plain v domains d.rules h.0, heads_plain v domains ds h.1)

pub typed_base : (base : Base) → IsGroundTheory base → IsTypedBase base
typed_base base is = record {
  symbols = is.known.symbols;
  domains = is.known.domains;
  false_over = is.known.false_over;
  sentences = is.typed;
  heads = heads_plain base.vocabulary base.known.domains base.theory.definitions is.definitions;
}
