-- What a loop over the further operands of a chain comes to.
use Rattle.std.proofs.Common.{◌≡◌, ◌≤◌, ◌<◌, ℕ, Bool, List, [], ◌∷◌, ◌++◌, length, Option, fold, refl, ap, ◌∙◌, sym}
use Rattle.std.proofs.Common.{map, take, arith, false}
use Rattle.std.specs.List.{flat_map}
use Rattle.std.specs.Prelude.{Result, Ok, Err, OnOk}
use Rattle.std.proofs.lemmas.Grind.{fold-append}
use Rattle.std.proofs.lemmas.List.{append_assoc, take_all}
use Rattle.kb_text.specs.declared.fault.KbFault.{KbFault}
use Rattle.grammar.specs.declared.terminal.Adding.{Adding}
use Rattle.grammar.specs.Trees as raw
use Rattle.grammar.specs.View.{or_of, and_of, term_of, product_of}
use Rattle.stage_definitions.specs.Scopes.{Text}
use Rattle.stage_definitions.specs.Names.{Names}
use Rattle.stage_definitions.specs.Uses.{Use}
use Rattle.stage_definitions.specs.NamedTrees as tree
use Rattle.stage_definitions.specs.Numbering.{named_or, named_and, named_unary, named_term, named_product}
use Rattle.stage_definitions.specs.Numbering.{named_factor}
use Rattle.formula_names.proofs.Operands.{disjunct_named, conjunct_named, summand_named, factor_named}
use Rattle.formula_names.proofs.Chains.{disjuncts-is, conjuncts-is, summands-is, factors-is}

-- ---- the operands that were pushed, and what was noted

pub pushed : {X Y Z : Type 0} (F : Y → Z) (V : X → Y) (items start : List Z) (first : Z) (more whole : List X) (i : ℕ)
    → items ≡ start ++ map F (map V (take i more)) → start ≡ first ∷ [] → length more ≤ i → more ≡ whole
    → items ≡ first ∷ map F (map V whole)
pushed F V items start first more whole i e one le is =
    let all : take i more ≡ more = take_all i more le in
    e ∙ rw (all, one, is) refl

-- the same where some stand before them
pub pushed_more : {X Y Z : Type 0} (F : Y → Z) (V : X → Y) (items start old : List Z) (first : Z)
    (more whole : List X) (i : ℕ)
    → items ≡ start ++ map F (map V (take i more)) → start ≡ old ++ first ∷ [] → length more ≤ i → more ≡ whole
    → items ≡ old ++ first ∷ map F (map V whole)
pushed_more F V items start old first more whole i e one le is =
    let all : take i more ≡ more = take_all i more le in
    e ∙ rw (all, one, is) (append_assoc old (first ∷ []) (map F (map V whole)))

pub noted_all : {X Y : Type 0} (N : Option KbFault → Use → Option KbFault) (G : Y → List Use) (V : X → Y)
    (start middle after : Option KbFault)
    (first : List Use) (more whole : List X) (i : ℕ)
    → middle ≡ fold N start first → after ≡ fold N middle (flat_map G (map V (take i more))) → length more ≤ i
    → more ≡ whole
    → after ≡ fold N start (first ++ flat_map G (map V whole))
noted_all N G V start middle after first more whole i e f le is =
    let all : take i more ≡ more = take_all i more le in
    f ∙ rw (all, is, e) (sym (fold-append N start first (flat_map G (map V whole))))

-- what was noted of two parts, one after the other
pub noted_twice : (N : Option KbFault → Use → Option KbFault) (start middle after : Option KbFault)
    (first second : List Use)
    → middle ≡ fold N start first → after ≡ fold N middle second → after ≡ fold N start (first ++ second)
noted_twice N start middle after first second e f = f ∙ rw e (sym (fold-append N start first second))

-- ---- the trees

or_tree : {X : Type 0} (n : Names) (s : List Text) (a : raw.And) (V : X → ℕ × raw.And) (whole : List X)
    (fs : List tree.NamedFormula)
    → 0 < length whole → fs ≡ named_and n s a ∷ map (disjunct_named n s) (map V whole)
    → tree.disjunction (tree.formulas_of fs) ≡ named_or n s (or_of a (map V whole))
or_tree n s a V [] fs some e = absurd (omega arith)
or_tree n s a V (y ∷ ys) fs some e =
    rw e (ap (λ (gs : tree.NamedFormulas). tree.disjunction (tree.more_formulas (named_and n s a) gs))
    (sym (disjuncts-is n s (V y).1 (map V ys))))

pub or_built : {X : Type 0} (n : Names) (s : List Text) (a : raw.And) (V : X → ℕ × raw.And)
    (items start : List tree.NamedFormula) (more whole : List X) (i : ℕ)
    → items ≡ start ++ map (disjunct_named n s) (map V (take i more)) → start ≡ named_and n s a ∷ []
    → length more ≤ i → more ≡ whole → 0 < length whole
    → tree.disjunction (tree.formulas_of items) ≡ named_or n s (or_of a (map V whole))
or_built n s a V items start more whole i e one le is some =
    or_tree n s a V whole items some (pushed (disjunct_named n s) V items start _ more whole i e one le is)

and_tree : {X : Type 0} (n : Names) (s : List Text) (u : raw.Unary) (V : X → ℕ × raw.Unary) (whole : List X)
    (fs : List tree.NamedFormula)
    → 0 < length whole → fs ≡ named_unary n s u ∷ map (conjunct_named n s) (map V whole)
    → tree.conjunction (tree.formulas_of fs) ≡ named_and n s (and_of u (map V whole))
and_tree n s u V [] fs some e = absurd (omega arith)
and_tree n s u V (y ∷ ys) fs some e =
    rw e (ap (λ (gs : tree.NamedFormulas). tree.conjunction (tree.more_formulas (named_unary n s u) gs))
    (sym (conjuncts-is n s (V y).1 (map V ys))))

pub and_built : {X : Type 0} (n : Names) (s : List Text) (a : raw.Unary) (V : X → ℕ × raw.Unary)
    (items start : List tree.NamedFormula) (more whole : List X) (i : ℕ)
    → items ≡ start ++ map (conjunct_named n s) (map V (take i more)) → start ≡ named_unary n s a ∷ []
    → length more ≤ i → more ≡ whole → 0 < length whole
    → tree.conjunction (tree.formulas_of items) ≡ named_and n s (and_of a (map V whole))
and_built n s a V items start more whole i e one le is some =
    and_tree n s a V whole items some (pushed (conjunct_named n s) V items start _ more whole i e one le is)

sum_tree : {X : Type 0} (n : Names) (s : List Text) (p : raw.Product) (V : X → Adding × ℕ × raw.Product)
    (whole : List X) (place : ℕ) (ss : List (Bool × tree.NamedTerm))
    → 0 < length whole → place ≡ tree.place_of (named_product n s p)
    → ss ≡ (false, named_product n s p) ∷ map (summand_named n s) (map V whole)
    → tree.at place (tree.summation (tree.summands_of ss)) ≡ named_term n s (term_of p (map V whole))
sum_tree n s p V [] place ss some at e = absurd (omega arith)
sum_tree n s p V (y ∷ ys) place ss some at e =
    rw (e, at) (ap (λ (ts : tree.NamedSummands). tree.at (tree.place_of (named_product n s p))
    (tree.summation (tree.more_summands false (named_product n s p) ts)))
    (sym (summands-is n s (V y).0 (V y).2 (map V ys))))

pub sum_built : {X : Type 0} (n : Names) (s : List Text) (a : raw.Product) (V : X → Adding × ℕ × raw.Product) (place :
    ℕ)
    (items start : List (Bool × tree.NamedTerm)) (more whole : List X) (i : ℕ)
    → items ≡ start ++ map (summand_named n s) (map V (take i more)) → start ≡ (false, named_product n s a) ∷ []
    → length more ≤ i → more ≡ whole → 0 < length whole → place ≡ tree.place_of (named_product n s a)
    → tree.at place (tree.summation (tree.summands_of items)) ≡ named_term n s (term_of a (map V whole))
sum_built n s a V place items start more whole i e one le is some at =
    sum_tree n s a V whole place items some at (pushed (summand_named n s) V items start _ more whole i e one le is)

product_tree : {X : Type 0} (n : Names) (s : List Text) (f : raw.Factor) (V : X → ℕ × raw.Factor) (whole : List X)
    (place : ℕ) (ts : List tree.NamedTerm)
    → 0 < length whole → place ≡ tree.place_of (named_factor n s f)
    → ts ≡ named_factor n s f ∷ map (factor_named n s) (map V whole)
    → tree.at place (tree.product (tree.terms_of ts)) ≡ named_product n s (product_of f (map V whole))
product_tree n s f V [] place ts some at e = absurd (omega arith)
product_tree n s f V (y ∷ ys) place ts some at e =
    rw (e, at) (ap (λ (us : tree.NamedTerms). tree.at (tree.place_of (named_factor n s f))
    (tree.product (tree.more_terms (named_factor n s f) us))) (sym (factors-is n s (V y).1 (map V ys))))

pub product_built : {X : Type 0} (n : Names) (s : List Text) (a : raw.Factor) (V : X → ℕ × raw.Factor) (place : ℕ)
    (items start : List tree.NamedTerm) (more whole : List X) (i : ℕ)
    → items ≡ start ++ map (factor_named n s) (map V (take i more)) → start ≡ named_factor n s a ∷ []
    → length more ≤ i → more ≡ whole → 0 < length whole → place ≡ tree.place_of (named_factor n s a)
    → tree.at place (tree.product (tree.terms_of items)) ≡ named_product n s (product_of a (map V whole))
product_built n s a V place items start more whole i e one le is some at =
    product_tree n s a V whole place items some at (pushed (factor_named n s) V items start _ more whole i e one le is)

-- ---- aggregates

pub opened_noted : (N : Option KbFault → Use → Option KbFault) (start a b c : Option KbFault) (u : Use)
    (vs us : List Use)
    → a ≡ N start u → b ≡ fold N a vs → c ≡ fold N b us → c ≡ fold N start (u ∷ (vs ++ us))
opened_noted N start a b c u vs us e f g = g ∙ rw (f, e) (sym (fold-append N (N start u) vs us))

-- ---- a plain fact at either result

pub always_on_ok : {T E : Type 0} (r : Result T E) (P : Type 0) → P → OnOk r P
always_on_ok (Ok x) P p = p
always_on_ok (Err e) P p = tt

-- one outcome for another
pub on_ok_map : {T E : Type 0} (r : Result T E) (P Q : Type 0) → OnOk r P → (P → Q) → OnOk r Q
on_ok_map (Ok x) P Q p f = f p
on_ok_map (Err e) P Q p f = tt
