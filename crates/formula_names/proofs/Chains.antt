-- Chains of the grammar as lists.
use Rattle.std.proofs.Common.{◌≡◌, ℕ, ◌+◌, List, [], ◌∷◌, ◌++◌, length, Option, None, Some, fold, refl, ap, ◌∙◌, sym}
use Rattle.std.proofs.Common.{map, append-nil, append_assoc, drop, add-one, subst}
use Rattle.std.specs.List.{flat_map}
use Rattle.std.proofs.lemmas.Grind.{fold-append}
use Rattle.std.proofs.Math.Seq.{drop-append_seam, drop-length}
use Rattle.grammar.specs.Trees as raw
use Rattle.grammar.specs.View.{links_of, or_of, and_of, term_of, product_of, terms_of, vars_of, vars_more}
use Rattle.grammar.specs.View.{var_tail_view}
use Rattle.grammar.specs.declared.raw.RawVarTail.{RawVarTail}
use Rattle.grammar.specs.declared.terminal.Adding.{Adding}
use Rattle.stage_definitions.specs.Scopes.{Text}
use Rattle.stage_definitions.specs.Names.{Names}
use Rattle.stage_definitions.specs.NamesStage.{name_noted}
use Rattle.kb_text.specs.declared.fault.KbFault.{KbFault}
use Rattle.stage_definitions.specs.Uses.{Context, Use, bound, position_uses, uses_of_vars, var_name, var_text, var_type}
use Rattle.stage_definitions.specs.Uses.{within, terms_count, vars_in, uses_in_links, uses_in_or, uses_in_and}
use Rattle.stage_definitions.specs.Uses.{uses_in_unary, uses_in_term, uses_in_operands, uses_in_product}
use Rattle.stage_definitions.specs.Uses.{uses_in_factors}
use Rattle.stage_definitions.specs.Uses.{uses_in_factor, uses_in_terms}
use Rattle.stage_definitions.specs.Standings.{in_product, in_sum}
use Rattle.stage_definitions.specs.declared.standings.Standing.{Standing}
use Rattle.stage_definitions.specs.declared.standings.Standing.TheVariants.{Elsewhere}
use Rattle.stage_definitions.specs.NamedTrees as named
use Rattle.stage_definitions.specs.Numbering.{named_links, named_or, disjuncts, named_and, conjuncts, named_unary}
use Rattle.stage_definitions.specs.Numbering.{named_term, summands, named_product, factors, named_factor, named_terms}
use Rattle.stage_definitions.specs.Numbering.{is_minus}
use Rattle.formula_names.specs.PartStandings.{factors_stand, operands_stand}
use Rattle.formula_names.specs.Tails.{tail_var}

pub terms_counted : (x : raw.Term) (xs : List (ℕ × raw.Term)) → terms_count (terms_of x xs) ≡ length xs + 1
terms_counted x [] = refl
terms_counted x (y ∷ ys) = ap (λ (n : ℕ). n + 1) (terms_counted y.1 ys) ∙ ap (λ (n : ℕ). n + 1) (add-one (length ys))

-- ---- variables

more_in : (v : raw.Var) (o : Option ℕ) (vs : raw.Vars) → vars_in (vars_more v o vs) ≡ v ∷ vars_in vs
more_in v None vs = refl
more_in v (Some p) vs = refl

pub vars_in-is : (v : raw.Var) (more : List RawVarTail) → vars_in (vars_of v (map var_tail_view more))
    ≡ v ∷ map tail_var more
vars_in-is v [] = refl
vars_in-is v (x ∷ xs) = more_in v x.comma (vars_of (tail_var x) (map var_tail_view xs))
    ∙ ap (λ (vs : List raw.Var). v ∷ vs) (vars_in-is (tail_var x) xs)

-- ---- uses

pub uses_in_links-is : (s : Context) (o : raw.Or) (xs : List (ℕ × raw.Or)) → uses_in_links s (links_of o xs)
    ≡ uses_in_or s o ++ flat_map (λ (x : ℕ × raw.Or). uses_in_or s x.1) xs
uses_in_links-is s o [] = sym (append-nil (uses_in_or s o))
uses_in_links-is s o (x ∷ xs) = ap (λ (us : List Use). uses_in_or s o ++ us) (uses_in_links-is s x.1 xs)

pub uses_in_or-is : (s : Context) (a : raw.And) (xs : List (ℕ × raw.And)) → uses_in_or s (or_of a xs) ≡ uses_in_and s a
    ++ flat_map (λ (x : ℕ × raw.And). uses_in_and s x.1) xs
uses_in_or-is s a [] = sym (append-nil (uses_in_and s a))
uses_in_or-is s a (x ∷ xs) = ap (λ (us : List Use). uses_in_and s a ++ us) (uses_in_or-is s x.1 xs)

pub uses_in_and-is : (s : Context) (u : raw.Unary) (xs : List (ℕ × raw.Unary)) → uses_in_and s (and_of u xs)
    ≡ uses_in_unary s u ++ flat_map (λ (x : ℕ × raw.Unary). uses_in_unary s x.1) xs
uses_in_and-is s u [] = sym (append-nil (uses_in_unary s u))
uses_in_and-is s u (x ∷ xs) = ap (λ (us : List Use). uses_in_unary s u ++ us) (uses_in_and-is s x.1 xs)

uses_in_operands-is : (k : Standing) (s : Context) (p : raw.Product) (xs : List (Adding × ℕ × raw.Product))
    → uses_in_operands k s (term_of p xs) ≡ uses_in_product k s p ++ flat_map (λ (x : Adding × ℕ × raw.Product).
    uses_in_product k s x.2) xs
uses_in_operands-is k s p [] = sym (append-nil (uses_in_product k s p))
uses_in_operands-is k s p (x ∷ xs) =
    ap (λ (us : List Use). uses_in_product k s p ++ us) (uses_in_operands-is k s x.2 xs)

summed : (k : Standing) (s : Context) (p : raw.Product) (xs : List (Adding × ℕ × raw.Product))
    → uses_in_term k s (term_of p xs) ≡ uses_in_product (operands_stand k (term_of p xs)) s p
    ++ flat_map (λ (x : Adding × ℕ × raw.Product). uses_in_product (operands_stand k (term_of p xs)) s x.2) xs
summed k s p [] = sym (append-nil (uses_in_product k s p))
summed k s p (x ∷ xs) =
    ap (λ (us : List Use). uses_in_product (in_sum k) s p ++ us) (uses_in_operands-is (in_sum k) s x.2 xs)

-- the operands of a term that stands as k stand as i
pub uses_in_term-is : (k i : Standing) (s : Context) (p : raw.Product) (xs : List (Adding × ℕ × raw.Product))
    → i ≡ operands_stand k (term_of p xs)
    → uses_in_term k s (term_of p xs) ≡ uses_in_product i s p ++ flat_map (λ (x : Adding × ℕ × raw.Product).
    uses_in_product i s x.2) xs
uses_in_term-is k i s p xs e =
    subst (λ (j : Standing). uses_in_term k s (term_of p xs) ≡ uses_in_product j s p
    ++ flat_map (λ (x : Adding × ℕ × raw.Product). uses_in_product j s x.2) xs) (sym e) (summed k s p xs)

uses_in_factors-is : (k : Standing) (s : Context) (f : raw.Factor) (xs : List (ℕ × raw.Factor))
    → uses_in_factors k s (product_of f xs) ≡ uses_in_factor k s f ++ flat_map
    (λ (x : ℕ × raw.Factor). uses_in_factor k s x.1) xs
uses_in_factors-is k s f [] = sym (append-nil (uses_in_factor k s f))
uses_in_factors-is k s f (x ∷ xs) =
    ap (λ (us : List Use). uses_in_factor k s f ++ us) (uses_in_factors-is k s x.1 xs)

multiplied : (k : Standing) (s : Context) (f : raw.Factor) (xs : List (ℕ × raw.Factor))
    → uses_in_product k s (product_of f xs) ≡ uses_in_factor (factors_stand k (product_of f xs)) s f
    ++ flat_map (λ (x : ℕ × raw.Factor). uses_in_factor (factors_stand k (product_of f xs)) s x.1) xs
multiplied k s f [] = sym (append-nil (uses_in_factor k s f))
multiplied k s f (x ∷ xs) =
    let j = in_product k (product_of f (x ∷ xs)) in
    ap (λ (us : List Use). uses_in_factor j s f ++ us) (uses_in_factors-is j s x.1 xs)

-- the factors of a product that stands as k stand as i
pub uses_in_product-is : (k i : Standing) (s : Context) (f : raw.Factor) (xs : List (ℕ × raw.Factor))
    → i ≡ factors_stand k (product_of f xs)
    → uses_in_product k s (product_of f xs) ≡ uses_in_factor i s f ++ flat_map
    (λ (x : ℕ × raw.Factor). uses_in_factor i s x.1) xs
uses_in_product-is k i s f xs e =
    subst (λ (j : Standing). uses_in_product k s (product_of f xs) ≡ uses_in_factor j s f
    ++ flat_map (λ (x : ℕ × raw.Factor). uses_in_factor j s x.1) xs) (sym e) (multiplied k s f xs)

pub uses_in_terms-is : (s : Context) (t : raw.Term) (xs : List (ℕ × raw.Term)) → uses_in_terms s (terms_of t xs)
    ≡ uses_in_term Elsewhere s t ++ flat_map (λ (x : ℕ × raw.Term). uses_in_term Elsewhere s x.1) xs
uses_in_terms-is s t [] = sym (append-nil (uses_in_term Elsewhere s t))
uses_in_terms-is s t (x ∷ xs) =
    ap (λ (us : List Use). uses_in_term Elsewhere s t ++ us) (uses_in_terms-is s x.1 xs)

-- ---- trees

pub named_links-is : (n : Names) (s : List Text) (o : raw.Or) (xs : List (ℕ × raw.Or)) → named_links n s (links_of o xs)
    ≡ named_or n s o ∷ map (λ (x : ℕ × raw.Or). named_or n s x.1) xs
named_links-is n s o [] = refl
named_links-is n s o (x ∷ xs) = ap (λ (fs : List named.NamedFormula). named_or n s o ∷ fs) (named_links-is n s x.1 xs)

pub disjuncts-is : (n : Names) (s : List Text) (a : raw.And) (xs : List (ℕ × raw.And)) → disjuncts n s (or_of a xs)
    ≡ named.formulas_of (named_and n s a ∷ map (λ (x : ℕ × raw.And). named_and n s x.1) xs)
disjuncts-is n s a [] = refl
disjuncts-is n s a (x ∷ xs) = ap (named.more_formulas (named_and n s a)) (disjuncts-is n s x.1 xs)

pub conjuncts-is : (n : Names) (s : List Text) (u : raw.Unary) (xs : List (ℕ × raw.Unary)) → conjuncts n s (and_of u xs)
    ≡ named.formulas_of (named_unary n s u ∷ map (λ (x : ℕ × raw.Unary). named_unary n s x.1) xs)
conjuncts-is n s u [] = refl
conjuncts-is n s u (x ∷ xs) = ap (named.more_formulas (named_unary n s u)) (conjuncts-is n s x.1 xs)

pub summands-is : (n : Names) (s : List Text) (a : Adding) (p : raw.Product) (xs : List (Adding × ℕ × raw.Product))
    → summands n s a (term_of p xs) ≡ named.summands_of ((is_minus a, named_product n s p) ∷ map
    (λ (x : Adding × ℕ × raw.Product). (is_minus x.0, named_product n s x.2)) xs)
summands-is n s a p [] = refl
summands-is n s a p (x ∷ xs) = ap (named.more_summands (is_minus a) (named_product n s p)) (summands-is n s x.0 x.2 xs)

pub factors-is : (n : Names) (s : List Text) (f : raw.Factor) (xs : List (ℕ × raw.Factor))
    → factors n s (product_of f xs) ≡ named.terms_of (named_factor n s f ∷ map
    (λ (x : ℕ × raw.Factor). named_factor n s x.1) xs)
factors-is n s f [] = refl
factors-is n s f (x ∷ xs) = ap (named.more_terms (named_factor n s f)) (factors-is n s x.1 xs)

pub named_terms-is : (n : Names) (s : List Text) (t : raw.Term) (xs : List (ℕ × raw.Term))
    → named_terms n s (terms_of t xs) ≡ named.terms_of (named_term n s t ∷ map
    (λ (x : ℕ × raw.Term). named_term n s x.1) xs)
named_terms-is n s t [] = refl
named_terms-is n s t (x ∷ xs) = ap (named.more_terms (named_term n s t)) (named_terms-is n s x.1 xs)

-- ---- a list of variables: the first one, and then the further ones

pub binders_vars : {X : Type 0} (f : raw.Var → X) (v : raw.Var) (vs : raw.Vars) (more : List RawVarTail)
    (old first after : List X)
    → vs ≡ vars_of v (map var_tail_view more) → first ≡ old ++ f v ∷ [] → after ≡ first ++ map f (map tail_var more)
    → after ≡ old ++ map f (vars_in vs)
binders_vars f v vs more old first after is one e =
    rw (is, vars_in-is v more) (e ∙ rw one (append_assoc old (f v ∷ []) (map f (map tail_var more))))

pub binders_scope : (v : raw.Var) (vs : raw.Vars) (more : List RawVarTail) (scope one after : List Text)
    → vs ≡ vars_of v (map var_tail_view more) → one ≡ scope ++ var_text v ∷ []
    → after ≡ one ++ map var_text (map tail_var more)
    → after ≡ within scope vs
binders_scope v vs more scope one after is e f =
    rw (is, vars_in-is v more) (f ∙ rw e (append_assoc scope (var_text v ∷ []) (map var_text (map tail_var more))))

pub binders_noted : (n : Names) (v : raw.Var) (vs : raw.Vars) (more : List RawVarTail) (scope one : List Text)
    (start middle after : Option KbFault)
    → vs ≡ vars_of v (map var_tail_view more) → one ≡ scope ++ var_text v ∷ []
    → middle ≡ fold (name_noted n) start (bound (drop (length scope) scope) (var_name v) ∷ position_uses (var_type v))
    → after ≡ fold (name_noted n) middle (uses_of_vars (drop (length scope) one) (map tail_var more))
    → after ≡ fold (name_noted n) start (uses_of_vars [] (vars_in vs))
binders_noted n v vs more scope one start middle after is e f g =
    let none : drop (length scope) scope ≡ [] = drop-length scope in
    let front : drop (length scope) (scope ++ var_text v ∷ []) ≡ var_text v ∷ [] =
    drop-append_seam scope (var_text v ∷ []) in
    rw (is, vars_in-is v more)
    (g ∙ rw (e, front, f, none) (sym (fold-append (name_noted n) start
    (bound [] (var_name v) ∷ position_uses (var_type v)) (uses_of_vars (var_text v ∷ []) (map tail_var more)))))
