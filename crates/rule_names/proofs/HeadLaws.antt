-- The lists of variables before a head, and the arguments of a head.
use Rattle.std.proofs.Common.{◌≡◌, ◌∙◌, ◌+◌, ◌<◌, ℕ, List, [], ◌∷◌, ◌++◌, add-one, ap, append-nil, get_or, length}
use Rattle.std.proofs.Common.{map, refl, take}
use Rattle.std.proofs.Math.Seq.{take-suc}
use Rattle.std.specs.List.{flat_map}
use Rattle.std.proofs.lemmas.Grind.{flat_map-append}
use Rattle.std.proofs.lemmas.List.{append_assoc, map-append}
use Rattle.grammar.specs.Trees as raw
use Rattle.grammar.specs.BlockTrees.{Binding, Head}
use Rattle.grammar.specs.BlockView.{binding_view}
use Rattle.grammar.specs.View.{terms_of}
use Rattle.grammar.specs.declared.raw_blocks.RawBinder.{RawBinder}
use Rattle.stage_definitions.specs.NamedTrees.{NamedTerm, NamedVar}
use Rattle.stage_definitions.specs.Names.{Names}
use Rattle.stage_definitions.specs.NamesStage.{name_noted}
use Rattle.stage_definitions.specs.Numbering.{head_arguments, named_term, named_var}
use Rattle.stage_definitions.specs.Scopes.{Text}
use Rattle.stage_definitions.specs.Uses.{Context, Use, arguments_in, head_app, head_use, in_scope, rule_scope}
use Rattle.stage_definitions.specs.Uses.{rule_vars}
use Rattle.stage_definitions.specs.Uses.{terms_in, uses_of_vars, var_text, vars_bound}
use Rattle.formula_names.specs.Steps.{IsStep, context_of, names_known}
use Rattle.formula_names.specs.declared.resolver.Resolver.{Resolver}
use Rattle.formula_names.proofs.Operands.{argument_named}
use Rattle.formula_names.proofs.ChainEnds.{noted_twice}
use Rattle.formula_names.proofs.StepLaws.{both, same_names}
use Rattle.rule_names.specs.Heads.{HeadTree, argument_uses, named_head, named_lists, symbol_at, uses_in_head}
use Rattle.rule_names.specs.Heads.{uses_of_lists}

-- ---- lists of variables

vars_more : (ds : List Binding) (d : Binding) → rule_vars (ds ++ d ∷ []) ≡ rule_vars ds ++ vars_bound d
vars_more ds d =
    flat_map-append vars_bound ds (d ∷ []) ∙ ap (λ (vs : List raw.Var). rule_vars ds ++ vs) (append-nil (vars_bound d))

uses_more : (ds : List Binding) (d : Binding) → uses_of_lists (ds ++ d ∷ []) ≡ uses_of_lists ds ++ uses_of_vars []
    (vars_bound d)
uses_more ds d =
    flat_map-append (λ (b : Binding). uses_of_vars [] (vars_bound b)) ds (d ∷ [])
    ∙ ap (λ (us : List Use). uses_of_lists ds ++ us) (append-nil (uses_of_vars [] (vars_bound d)))

-- one list more
pub list_more : {first second : List NamedVar} (a b c : Resolver)
    (before : List NamedVar) (ds : List Binding) (d : Binding) (more : List Binding)
    → IsStep a b first (before ++ named_lists (names_known a) ds) (a.scope ++ rule_scope ds) (uses_of_lists ds)
    → IsStep b c second (first ++ map (named_var (names_known b)) (vars_bound d)) (b.scope ++ map var_text
    (vars_bound d)) (uses_of_vars [] (vars_bound d))
    → more ≡ ds ++ d ∷ []
    → IsStep a c second (before ++ named_lists (names_known a) more) (a.scope ++ rule_scope more) (uses_of_lists more)
list_more a b c before ds d more one two is =
    both a b c one two
    (two.tree ∙ rw (is, vars_more, map-append, same_names a b one.known, one.tree) (append_assoc before
    (named_lists (names_known a) ds) (map (named_var (names_known a)) (vars_bound d))))
    (rw (is, vars_more, map-append, one.scope) (append_assoc a.scope (rule_scope ds) (map var_text (vars_bound d))))
    (rw is (uses_more ds d))

-- the same by the raw lists
pub list_turn : {first second : List NamedVar} (a b c : Resolver) (before : List NamedVar) (more : List RawBinder)
    (i : ℕ) (x : RawBinder)
    → IsStep a b first (before ++ named_lists (names_known a) (map binding_view (take i more)))
    (a.scope ++ rule_scope (map binding_view (take i more))) (uses_of_lists (map binding_view (take i more)))
    → IsStep b c second (first ++ map (named_var (names_known b)) (vars_bound (binding_view x))) (b.scope ++ map var_text
    (vars_bound (binding_view x))) (uses_of_vars [] (vars_bound (binding_view x)))
    → i < length more → x ≡ get_or more i x
    → IsStep a c second (before ++ named_lists (names_known a) (map binding_view (take (i + 1) more)))
    (a.scope ++ rule_scope (map binding_view (take (i + 1) more)))
    (uses_of_lists (map binding_view (take (i + 1) more)))
list_turn a b c before more i x one two lt is =
    let took : take (i + 1) more ≡ take i more ++ x ∷ [] = rw add-one (take-suc more i x lt ∙ rw (← is) refl) in
    list_more a b c before (map binding_view (take i more)) (binding_view x) _ one two
    (rw took (map-append binding_view (take i more) (x ∷ [])))

-- ---- arguments

-- the uses in a further argument
abbrev pub tail_uses : Context → ℕ × raw.Term → List Use
tail_uses c x = argument_uses c x.1

terms_in-is : (t : raw.Term) (xs : List (ℕ × raw.Term)) → terms_in (terms_of t xs) ≡ t ∷ map
    (λ (x : ℕ × raw.Term). x.1) xs
terms_in-is t [] = refl
terms_in-is t (x ∷ xs) = ap (λ (ts : List raw.Term). t ∷ ts) (terms_in-is x.1 xs)

named_tails : (n : Names) (s : List Text) (xs : List (ℕ × raw.Term)) → map (named_term n s)
    (map (λ (x : ℕ × raw.Term). x.1) xs) ≡ map (argument_named n s) xs
named_tails n s [] = refl
named_tails n s (x ∷ xs) = ap (λ (ts : List NamedTerm). named_term n s x.1 ∷ ts) (named_tails n s xs)

used_tails : (c : Context) (xs : List (ℕ × raw.Term)) → flat_map (argument_uses c)
    (map (λ (x : ℕ × raw.Term). x.1) xs) ≡ flat_map (tail_uses c) xs
used_tails c [] = refl
used_tails c (x ∷ xs) = ap (λ (us : List Use). argument_uses c x.1 ++ us) (used_tails c xs)

pub arguments_named : (n : Names) (s : List Text) (w : raw.Name) (p : ℕ) (t : raw.Term) (xs : List (ℕ × raw.Term))
    (q : ℕ)
    → head_arguments n s (raw.apply w p (terms_of t xs) q) ≡ named_term n s t ∷ map (argument_named n s) xs
arguments_named n s w p t xs q = rw (terms_in-is t xs) (ap (λ (ts : List NamedTerm). named_term n s t ∷ ts)
    (named_tails n s xs))

pub arguments_used : (c : Context) (w : raw.Name) (p : ℕ) (t : raw.Term) (xs : List (ℕ × raw.Term)) (q : ℕ)
    → flat_map (argument_uses c) (arguments_in (raw.apply w p (terms_of t xs) q))
    ≡ argument_uses c t ++ flat_map (tail_uses c) xs
arguments_used c w p t xs q = rw (terms_in-is t xs) (ap (λ (us : List Use). argument_uses c t ++ us) (used_tails c xs))

-- ---- a head

abbrev pub the_head : List NamedVar → ℕ → List NamedTerm → HeadTree
the_head vars symbol args = record { vars = vars; symbol = symbol; args = args }

pub headed : {vars : List NamedVar} {symbol : ℕ} {args : List NamedTerm} (a b c d : Resolver) (bs : List Binding)
    (h : Head)
    → a.scope ≡ [] → a.known.defined.now ≡ []
    → IsStep a b vars (named_lists (names_known a) bs) (a.scope ++ rule_scope bs) (uses_of_lists bs)
    → IsStep b c symbol (symbol_at (names_known b) b.scope h) b.scope (head_use b.scope h ∷ [])
    → IsStep c d args (head_arguments (names_known c) c.scope (head_app h)) c.scope
    (flat_map (argument_uses (context_of c)) (arguments_in (head_app h)))
    → IsStep a d (the_head vars symbol args) (named_head (names_known a) bs h)
    (rule_scope bs) (uses_of_lists bs ++ uses_in_head (in_scope (rule_scope bs)) h)
headed a b c d bs h alone outside one two three =
    let inner : b.scope ≡ rule_scope bs = one.scope ∙ rw alone refl in
    let there : c.scope ≡ rule_scope bs = two.scope ∙ inner in
    let known : c.known ≡ a.known = two.known ∙ one.known in
    let context : context_of c ≡ in_scope (rule_scope bs) = rw (there, known, outside) refl in
    let hu : Use = head_use (rule_scope bs) h in
    let us : List Use = flat_map (argument_uses (in_scope (rule_scope bs))) (arguments_in (head_app h)) in
    record {
      tree = rw (one.tree, two.tree, three.tree, same_names a b one.known, same_names a c known, inner, there) refl;
      known = three.known ∙ known;
      scope = three.scope ∙ there;
      noted = noted_twice (name_noted (names_known a)) a.earliest.first b.earliest.first d.earliest.first
          (uses_of_lists bs) (hu ∷ us) one.noted
          (noted_twice (name_noted (names_known a)) b.earliest.first c.earliest.first d.earliest.first (hu ∷ []) us
          (rw (same_names a b one.known, inner) at two.noted)
          (rw (same_names a c known, context) at three.noted));
    }
