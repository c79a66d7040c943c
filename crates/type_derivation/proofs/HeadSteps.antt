-- The terms of a head: its arguments, and then its value.
use Rattle.std.proofs.Common.{◌≡◌, ℕ, List, [], ◌∷◌, ◌++◌, Option, option_to_list, refl, ap, ◌∙◌, sym, append_assoc}
use Rattle.std.specs.List.{flat_map}
use Rattle.std.proofs.lemmas.Grind.{flat_map-append}
use Rattle.kb_logic.specs.Trees as tree
use Rattle.stage_definitions.specs.NamedTrees.{NamedTerm, terms_of, NamedRule, head_terms}
use Rattle.stage_definitions.specs.TermPlaces.{each_begins, term_begins}
use Rattle.type_derivation.specs.ListedTrees.{left_terms, listed_terms, listed_args, listed_value, left_value}
use Rattle.type_derivation.specs.ListedTrees.{listed_head, left_head}
use Rattle.type_derivation.specs.TreeLists.{IsBuilt}
use Rattle.type_derivation.proofs.RuleOrder.{args_built}

each_begin : (us : List NamedTerm) → each_begins (terms_of us) ≡ flat_map term_begins us
each_begin [] = refl
each_begin (u ∷ us) = ap (λ (ps : List ℕ). term_begins u ++ ps) (each_begin us)

begun : (r : NamedRule) (places between after : List ℕ) → between ≡ places ++ each_begins (terms_of r.args)
    → after ≡ between ++ flat_map term_begins (option_to_list r.value)
    → after ≡ places ++ flat_map term_begins (head_terms r)
begun r places between after a b =
    b ∙ ap (λ (ps : List ℕ). ps ++ flat_map term_begins (option_to_list r.value))
    (a ∙ ap (λ (ps : List ℕ). places ++ ps) (each_begin r.args))
    ∙ append_assoc places (flat_map term_begins r.args) (flat_map term_begins (option_to_list r.value))
    ∙ ap (λ (ps : List ℕ). places ++ ps) (sym (flat_map-append term_begins r.args (option_to_list r.value)))

-- both parts of a head
pub head_built : (r : NamedRule) (start ts us places between after : List ℕ) (args : List tree.TermTree)
    (value : Option tree.TermTree)
    → IsBuilt (tree.terms_of args) ts between (listed_terms start (terms_of r.args))
    (left_terms start (terms_of r.args)) (places ++ each_begins (terms_of r.args))
    → IsBuilt value us after (listed_value ts r.value) (left_value ts r.value)
    (between ++ flat_map term_begins (option_to_list r.value))
    → IsBuilt (args, value) us after (listed_head start r) (left_head start r)
    (places ++ flat_map term_begins (head_terms r))
head_built r start ts us places between after args value a b = record {
  tree = ap (λ (xs : List tree.TermTree). (xs, value)) (args_built start r.args args a.tree)
      ∙ ap (λ (o : Option tree.TermTree). (listed_args start r.args, o))
      (b.tree ∙ ap (λ (xs : List ℕ). listed_value xs r.value) a.types);
  types = b.types ∙ ap (λ (xs : List ℕ). left_value xs r.value) a.types;
  places = begun r places between after a.places b.places;
}
