-- A whole rule, from its head and what stands behind it.
use Rattle.std.proofs.Common.{◌≡◌, ◌∙◌, ℕ, Bool, true, false, List, ◌∷◌, ◌++◌, length, Option, None, Some}
use Rattle.std.proofs.Common.{ap, fold, refl}
use Rattle.std.specs.List.{flat_map}
use Rattle.std.proofs.lemmas.List.{append_assoc, length-map}
use Rattle.kb_text.specs.declared.fault.KbFault.{KbFault}
use Rattle.grammar.specs.Trees.{App, Formula, Term}
use Rattle.grammar.specs.BlockTrees.{Binding, value_head, rule}
use Rattle.stage_definitions.specs.NamedTrees.{NamedRule}
use Rattle.stage_definitions.specs.Names.{Names}
use Rattle.stage_definitions.specs.NamesStage.{name_noted}
use Rattle.stage_definitions.specs.Numbering.{named_rule, value_equation, valued_body}
use Rattle.stage_definitions.specs.Numbering.{valued_rule}
use Rattle.stage_definitions.specs.Scopes.{Text}
use Rattle.stage_definitions.specs.Uses.{Context, Use, app_name, arguments_in, head_use, in_scope}
use Rattle.stage_definitions.specs.Uses.{is_simple, rule_scope, uses_in_rule, value_scope}
use Rattle.stage_definitions.specs.Uses.{written_body}
use Rattle.formula_names.specs.Steps.{IsStep, context_of, names_known}
use Rattle.formula_names.specs.declared.resolver.Resolver.{Resolver}
use Rattle.formula_names.proofs.ChainEnds.{noted_twice}
use Rattle.rule_names.specs.Bodies.{IsRuled, joined, under, uses_behind, valued}
use Rattle.rule_names.specs.Heads.{HeadTree, argument_uses, named_head, named_lists, uses_in_head}
use Rattle.rule_names.specs.Heads.{uses_of_lists}

pub joined-is : (names : Names) (scope : List Text) (v : ℕ) (t : Term) (body : Option Formula)
    → joined names scope (value_equation names scope v t) body ≡ valued_body names scope v t body
joined-is names scope v t None = refl
joined-is names scope v t (Some f) = refl

as_many : (names : Names) (bs : List Binding) → length (rule_scope bs) ≡ length (named_lists names bs)
as_many names bs = rw (length-map, length-map) refl

valued_by : (names : Names) (bs : List Binding) (a : App) (p : ℕ) (t : Term) (body : Option Formula) (simple : Bool)
    → valued names (rule_scope bs) (named_head names bs (value_head a p t)) (app_name a) t body simple
    ≡ valued_rule names (rule_scope bs) (named_lists names bs) a t body simple
valued_by names bs a p t body true = refl
valued_by names bs a p t body false = rw (as_many names bs) refl

-- what was noted in the three parts of a rule
in_parts : (N : Option KbFault → Use → Option KbFault) (start middle after : Option KbFault) (lists : List Use)
    (hu : Use) (args rest : List Use)
    → middle ≡ fold N start (lists ++ hu ∷ args) → after ≡ fold N middle rest
    → after ≡ fold N start (lists ++ hu ∷ (args ++ rest))
in_parts N start middle after lists hu args rest e f =
    noted_twice N start middle after (lists ++ hu ∷ args) rest e f
    ∙ ap (fold N start) (append_assoc lists (hu ∷ args) rest)

abbrev where_defined : List Text → List Text → Context
where_defined scope defined = record { scope = scope; defined = defined }

-- the walk goes on from b with the names that the definition defines
pub with_value : {made : HeadTree} {rule_made : NamedRule} (a b begun c : Resolver) (bs : List Binding) (h : App)
    (p : ℕ) (t : Term) (body : Option (ℕ × Option Formula)) (dot : ℕ)
    → IsStep a b made (named_head (names_known a) bs (value_head h p t)) (rule_scope bs) (uses_of_lists bs
    ++ uses_in_head (in_scope (rule_scope bs)) (value_head h p t))
    → IsStep begun c rule_made (valued (names_known begun) begun.scope made (app_name h) t (written_body body)
    (is_simple (names_known begun) begun.scope t)) (value_scope begun.scope (is_simple (names_known begun)
    begun.scope t)) (uses_behind (under (value_scope begun.scope (is_simple (names_known begun) begun.scope t))
    (context_of begun)) t (written_body body))
    → begun.known.table ≡ b.known.table → begun.scope ≡ b.scope → begun.earliest.first ≡ b.earliest.first
    → IsRuled a c rule_made (named_rule (names_known a) (rule bs (value_head h p t) body dot))
    (uses_in_rule (names_known a) begun.known.defined.now (rule bs (value_head h p t) body dot))
with_value a b begun c bs h p t body dot one two table scope first =
    let names : names_known begun ≡ names_known a = rw (table, one.known) refl in
    let there : begun.scope ≡ rule_scope bs = scope ∙ one.scope in
    let simple : Bool = is_simple (names_known a) (rule_scope bs) t in
    record {
      tree = two.tree ∙ rw (one.tree, names, there) (valued_by (names_known a) bs h p t (written_body body) simple);
      noted = in_parts (name_noted (names_known a)) a.earliest.first b.earliest.first c.earliest.first
          (uses_of_lists bs) (head_use (rule_scope bs) (value_head h p t))
          (flat_map (argument_uses (in_scope (rule_scope bs))) (arguments_in h))
          (uses_behind (where_defined (value_scope (rule_scope bs) simple) begun.known.defined.now) t (written_body body)) one.noted (rw (names, there, first) at two.noted);
    }
