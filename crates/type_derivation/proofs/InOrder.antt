-- The types of the typed trees are those that are found, in the order in which the variables are bound.
use Rattle.std.proofs.Common.{◌≡◌, ℕ, pos, ◌+◌, suc, Bool, true, false, List, [], ◌∷◌, ◌++◌, length, map, Option, refl}
use Rattle.std.proofs.Common.{ap, ◌∙◌, sym, append_assoc, append-nil, length-append}
use Rattle.kb_logic.specs.declared.syntax.Cmp.{Cmp}
use Rattle.kb_logic.specs.declared.vocabularies.Bound.{Bound}
use Rattle.kb_logic.specs.declared.vocabularies.TypeDecl.{TypeDecl}
use Rattle.kb_logic.specs.declared.vocabularies.Vocabulary.{Vocabulary}
use Rattle.kb_logic.specs.Trees as tree
use Rattle.stage_definitions.specs.Demands.{Binding, Part, scope, Parts, parts_of, binding_of, is_order, order_demands}
use Rattle.stage_definitions.specs.Demands.{comparison_demands, argument_demands, later_types, number_demand}
use Rattle.stage_definitions.specs.Demands.{formula_parts, formulas_parts, term_parts, node_parts, arguments_parts}
use Rattle.stage_definitions.specs.Demands.{factors_parts, summands_parts}
use Rattle.stage_definitions.specs.NamedTrees.{NamedVar, NamedTerm, at, NamedNode, variable, integer, constructed}
use Rattle.stage_definitions.specs.NamedTrees.{application, summation, product, aggregate, NamedTerms, no_terms}
use Rattle.stage_definitions.specs.NamedTrees.{more_terms, NamedSummands, no_summands, more_summands, NamedFormula}
use Rattle.stage_definitions.specs.NamedTrees.{truth}
use Rattle.stage_definitions.specs.NamedTrees.{atom, comparison, negation, conjunction, disjunction, implication}
use Rattle.stage_definitions.specs.NamedTrees.{equivalence, universal, existential, numbered, NamedFormulas}
use Rattle.stage_definitions.specs.NamedTrees.{no_formulas}
use Rattle.stage_definitions.specs.NamedTrees.{more_formulas}
use Rattle.stage_definitions.specs.TypedTrees.{found_by_places, found_by_sides, chosen, types_by_places, typed_from}
use Rattle.stage_definitions.specs.TypedTrees.{inside, typed_vars, aggregate_parts, integer_of, typed_formula}
use Rattle.stage_definitions.specs.TypedTrees.{typed_formulas, typed_term, typed_node, typed_terms, typed_summands}
use Rattle.stage_definitions.specs.Typing.{settled_bindings, places_in, sides_in, by_places, part_by_places, by_sides}
use Rattle.stage_definitions.specs.Typing.{part_by_sides, type_found, within}
use Rattle.type_constraints.specs.ChosenTypes.{types_at, types_among}
use Rattle.type_derivation.specs.ListedTrees.{listed_vars, left_vars, left_formula}
use Rattle.type_derivation.specs.ListedTrees.{left_formulas, left_term, left_node, left_terms, left_summands}
use Rattle.type_derivation.specs.ListedTrees.{listed_formula, listed_formulas, listed_term, listed_node, listed_terms}
use Rattle.type_derivation.specs.ListedTrees.{listed_summands}

two : {X Y Z : Type 0} (make : X → Y → Z) (a b : X) (c d : Y) → a ≡ b → c ≡ d → make a c ≡ make b d
two make a b c d e f = ap (λ (x : _). make x c) e ∙ ap (make b) f

three : {X Y V Z : Type 0} (make : X → Y → V → Z) (a b : X) (c d : Y) (e f : V) → a ≡ b → c ≡ d → e ≡ f
    → make a c e ≡ make b d f
three make a b c d e f g h i = ap (λ (x : _). make x c e) g ∙ two (make b) c d e f h i

-- ---- a list of variables, of which the first has the number n: first settled by the types P, then by Q

settled_types : (types : List TypeDecl) (ps : Parts) (n : ℕ) (xs : List NamedVar)
    → map (λ (b : Binding). type_found b.finding) (settled_bindings types n (map binding_of xs) (λ m. places_in m ps))
    ≡ types_by_places types ps n xs
settled_types types ps n [] = refl
settled_types types ps n (x ∷ xs) = ap (λ (os : List (Option ℕ)). type_found (found_by_places types ps n x) ∷ os)
    (settled_types types ps (n + 1) xs)

by_places-length : (types : List TypeDecl) (ps : Parts) (n : ℕ) (xs : List NamedVar) → length (map binding_of xs)
    ≡ length (types_by_places types ps n xs)
by_places-length types ps n [] = refl
by_places-length types ps n (x ∷ xs) = ap suc (by_places-length types ps (n + 1) xs)

-- the types that are found of them
abbrev types_found : List TypeDecl → ℕ → List NamedVar → (ℕ → List ℕ) → (ℕ → List ℕ) → List ℕ
types_found types n xs P Q = map (λ b. chosen b.finding) (settled_bindings types n
    (settled_bindings types n (map binding_of xs) P) Q)

front_vars : (types : List TypeDecl) (in_scope : List (Option ℕ)) (ps : Parts) (n : ℕ) (xs : List NamedVar)
    (rest : List ℕ)
    → listed_vars (types_found types n xs (λ m. places_in m ps)
    (λ m. sides_in in_scope m (by_places types (length in_scope) ps)) ++ rest) xs
    ≡ typed_from types in_scope ps n xs
front_vars types in_scope ps n [] rest = refl
front_vars types in_scope ps n (x ∷ xs) rest =
    ap (λ (bs : List Bound). record { name = x.name; ty = chosen (found_by_sides types in_scope ps n x) } ∷ bs)
    (front_vars types in_scope ps (n + 1) xs rest)

behind_vars : (types : List TypeDecl) (n : ℕ) (xs : List NamedVar) (P Q : ℕ → List ℕ) (rest : List ℕ)
    → left_vars (types_found types n xs P Q ++ rest) xs ≡ rest
behind_vars types n [] P Q rest = refl
behind_vars types n (x ∷ xs) P Q rest = behind_vars types (n + 1) xs P Q rest

module _ (v : Vocabulary) where
  -- the types that are found in parts
  abbrev pub found_in : List (Option ℕ) → List Part → List ℕ
  found_in around ps = types_among (by_sides v.types around (by_places v.types (length around) (parts_of ps)))

  found-append : (around : List (Option ℕ)) (ps qs : List Part) → found_in around (ps ++ qs) ≡ found_in around ps
      ++ found_in around qs
  found-append around [] qs = refl
  found-append around (p ∷ ps) qs =
      ap (λ (ts : List ℕ). types_at (part_by_sides v.types around (part_by_places v.types (length around) p)) ++ ts)
      (found-append around ps qs)
      ∙ sym (append_assoc (types_at (part_by_sides v.types around (part_by_places v.types (length around) p)))
      (found_in around ps) (found_in around qs))

  pub split : (around : List (Option ℕ)) (ps qs : List Part) (rest : List ℕ)
      → found_in around (ps ++ qs) ++ rest ≡ found_in around ps ++ (found_in around qs ++ rest)
  split around ps qs rest =
      ap (λ (ts : List ℕ). ts ++ rest) (found-append around ps qs) ∙ append_assoc (found_in around ps)
      (found_in around qs) rest

  -- parts without variables
  pub split_none : (around : List (Option ℕ)) (ps qs : List Part) (rest : List ℕ) → found_in around ps ≡ []
      → found_in around (ps ++ qs) ++ rest ≡ found_in around qs ++ rest
  split_none around ps qs rest e = split around ps qs rest ∙ ap (λ (ts : List ℕ). ts ++ (found_in around qs ++ rest)) e

  no_order : (around : List (Option ℕ)) (b : Bool) (x y : NamedTerm)
      → found_in around (order_demands v.symbols b x y) ≡ []
  no_order around true x y = refl
  no_order around false x y = refl

  no_comparison : (around : List (Option ℕ)) (c : Cmp) (x y : NamedTerm)
      → found_in around (comparison_demands v.symbols c x y) ≡ []
  no_comparison around c x y = no_order around (is_order c) x y

  no_argument : (around : List (Option ℕ)) (b : Bool) (x : NamedTerm) (ts : List ℕ)
      → found_in around (argument_demands v.symbols b x ts) ≡ []
  no_argument around b x [] = refl
  no_argument around b x (t ∷ ts) = refl

  split_comparison : (around : List (Option ℕ)) (c : Cmp) (x y : NamedTerm) (rest : List ℕ)
      → found_in around (comparison_demands v.symbols c x y ++ (term_parts v.symbols x ++ term_parts v.symbols y))
      ++ rest
      ≡ found_in around (term_parts v.symbols x) ++ (found_in around (term_parts v.symbols y) ++ rest)
  split_comparison around c x y rest =
      split_none around (comparison_demands v.symbols c x y) (term_parts v.symbols x ++ term_parts v.symbols y) rest
      (no_comparison around c x y)
      ∙ split around (term_parts v.symbols x) (term_parts v.symbols y) rest

  split_argument : (around : List (Option ℕ)) (b : Bool) (ts : List ℕ) (u : NamedTerm) (us : NamedTerms) (rest : List ℕ)
      → found_in around (argument_demands v.symbols b u ts ++ (term_parts v.symbols u ++ arguments_parts v.symbols b
      (later_types ts) us)) ++ rest
      ≡ found_in around (term_parts v.symbols u) ++ (found_in around
      (arguments_parts v.symbols b (later_types ts) us) ++ rest)
  split_argument around b ts u us rest =
      split_none around (argument_demands v.symbols b u ts) (term_parts v.symbols u ++ arguments_parts v.symbols b
      (later_types ts) us) rest (no_argument around b u ts)
      ∙ split around (term_parts v.symbols u) (arguments_parts v.symbols b (later_types ts) us) rest

  -- ---- a list of variables and what stands in its scope

  -- the types that are found of the variables, by the other sides at last
  abbrev types_here : List (Option ℕ) → List NamedVar → List Part → List ℕ
  types_here around xs ps =
      types_found v.types (length around) xs (λ m. places_in m (parts_of ps))
      (λ m. sides_in (inside v.types around xs ps) m (by_places v.types (length (inside v.types around xs ps))
      (parts_of ps)))

  split_scope : (around : List (Option ℕ)) (xs : List NamedVar) (ps : List Part) (rest : List ℕ)
      → found_in around (scope (map binding_of xs) (parts_of ps) ∷ []) ++ rest ≡ types_here around xs ps ++
      (found_in (inside v.types around xs ps) ps ++ rest)
  split_scope around xs ps rest =
      let placed : List Binding = settled_bindings v.types (length around) (map binding_of xs)
      (λ m. places_in m (parts_of ps)) in
      let found : List (Option ℕ) → ℕ → List ℕ = λ w n.
      map (λ b. chosen b.finding) (settled_bindings v.types (length around) placed
      (λ m. sides_in w m (by_places v.types n (parts_of ps))))
      ++ types_among (by_sides v.types w (by_places v.types n (parts_of ps))) in
      let known : within around placed ≡ inside v.types around xs ps = ap (λ (os : List (Option ℕ)). around ++ os)
      (settled_types v.types (parts_of ps) (length around) xs) in
      let count : length around + length (map binding_of xs) ≡ length (inside v.types around xs ps) =
      ap (λ k. length around + k) (by_places-length v.types (parts_of ps) (length around) xs)
      ∙ sym (length-append around (types_by_places v.types (parts_of ps) (length around) xs)) in
      let both : found (within around placed) (length around + length (map binding_of xs))
      ≡ found (inside v.types around xs ps) (length (inside v.types around xs ps)) =
      ap (λ w. found w (length around + length (map binding_of xs))) known
      ∙ ap (found (inside v.types around xs ps)) count in
      ap (λ (ts : List ℕ). ts ++ rest) (append-nil (found (within around placed)
      (length around + length (map binding_of xs))) ∙ both)
      ∙ append_assoc (types_here around xs ps) (found_in (inside v.types around xs ps) ps) rest

  -- what is left after the variables
  pub scope_left : (around : List (Option ℕ)) (xs : List NamedVar) (ps : List Part) (rest : List ℕ)
      → left_vars (found_in around (scope (map binding_of xs) (parts_of ps) ∷ []) ++ rest) xs
      ≡ found_in (inside v.types around xs ps) ps ++ rest
  scope_left around xs ps rest =
      ap (λ (ts : List ℕ). left_vars ts xs) (split_scope around xs ps rest)
      ∙ behind_vars v.types (length around) xs _ _ (found_in (inside v.types around xs ps) ps ++ rest)

  pub scope_vars : (around : List (Option ℕ)) (xs : List NamedVar) (ps : List Part) (rest : List ℕ)
      → listed_vars (found_in around (scope (map binding_of xs) (parts_of ps) ∷ []) ++ rest) xs
      ≡ typed_vars v.types around xs ps
  scope_vars around xs ps rest =
      ap (λ (ts : List ℕ). listed_vars ts xs) (split_scope around xs ps rest)
      ∙ front_vars v.types (inside v.types around xs ps) (parts_of ps) (length around) xs
      (found_in (inside v.types around xs ps) ps ++ rest)

  -- ---- what is left after a tree

  mutual
    pub left-formula : (around : List (Option ℕ)) (f : NamedFormula) (rest : List ℕ)
        → left_formula (found_in around (formula_parts v.symbols f) ++ rest) f ≡ rest
    left-formula around (truth b) rest = refl
    left-formula around (atom s us) rest = left-arguments around false _ us rest
    left-formula around (comparison c x y) rest =
        ap (λ (ts : List ℕ). left_term (left_term ts x) y) (split_comparison around c x y rest)
        ∙ ap (λ (ts : List ℕ). left_term ts y) (left-term around x (found_in around (term_parts v.symbols y) ++ rest))
        ∙ left-term around y rest
    left-formula around (negation f) rest = left-formula around f rest
    left-formula around (conjunction fs) rest = left-formulas around fs rest
    left-formula around (disjunction fs) rest = left-formulas around fs rest
    left-formula around (implication f g) rest =
        ap (λ (ts : List ℕ). left_formula (left_formula ts f) g) (split around (formula_parts v.symbols f)
        (formula_parts v.symbols g) rest)
        ∙ ap (λ (ts : List ℕ). left_formula ts g) (left-formula around f
        (found_in around (formula_parts v.symbols g) ++ rest)) ∙ left-formula around g rest
    left-formula around (equivalence f g) rest =
        ap (λ (ts : List ℕ). left_formula (left_formula ts f) g) (split around (formula_parts v.symbols f)
        (formula_parts v.symbols g) rest)
        ∙ ap (λ (ts : List ℕ). left_formula ts g) (left-formula around f
        (found_in around (formula_parts v.symbols g) ++ rest)) ∙ left-formula around g rest
    left-formula around (universal xs f) rest =
        ap (λ (ts : List ℕ). left_formula ts f) (scope_left around xs (formula_parts v.symbols f) rest)
        ∙ left-formula (inside v.types around xs (formula_parts v.symbols f)) f rest
    left-formula around (existential xs f) rest =
        ap (λ (ts : List ℕ). left_formula ts f) (scope_left around xs (formula_parts v.symbols f) rest)
        ∙ left-formula (inside v.types around xs (formula_parts v.symbols f)) f rest
    left-formula around (numbered c n xs f) rest =
        ap (λ (ts : List ℕ). left_formula ts f) (scope_left around xs (formula_parts v.symbols f) rest)
        ∙ left-formula (inside v.types around xs (formula_parts v.symbols f)) f rest

    left-formulas : (around : List (Option ℕ)) (fs : NamedFormulas) (rest : List ℕ)
        → left_formulas (found_in around (formulas_parts v.symbols fs) ++ rest) fs ≡ rest
    left-formulas around no_formulas rest = refl
    left-formulas around (more_formulas f fs) rest =
        ap (λ (ts : List ℕ). left_formulas (left_formula ts f) fs) (split around (formula_parts v.symbols f)
        (formulas_parts v.symbols fs) rest)
        ∙ ap (λ (ts : List ℕ). left_formulas ts fs) (left-formula around f
        (found_in around (formulas_parts v.symbols fs) ++ rest)) ∙ left-formulas around fs rest

    pub left-term : (around : List (Option ℕ)) (u : NamedTerm) (rest : List ℕ)
        → left_term (found_in around (term_parts v.symbols u) ++ rest) u ≡ rest
    left-term around (at p x) rest = left-node around x rest

    left-node : (around : List (Option ℕ)) (x : NamedNode) (rest : List ℕ)
        → left_node (found_in around (node_parts v.symbols x) ++ rest) x ≡ rest
    left-node around (variable n) rest = refl
    left-node around (integer i) rest = refl
    left-node around (constructed t i) rest = refl
    left-node around (application s us) rest = left-arguments around true _ us rest
    left-node around (summation ss) rest = left-summands around ss rest
    left-node around (product us) rest = left-factors around us rest
    left-node around (aggregate how xs f w) rest =
        ap (λ (ts : List ℕ). left_term (left_formula ts f) w) (scope_left around xs
        (aggregate_parts v.symbols f w) rest)
        ∙ ap (λ (ts : List ℕ). left_term (left_formula ts f) w) (split
        (inside v.types around xs (aggregate_parts v.symbols f w)) (formula_parts v.symbols f)
        (number_demand v.symbols w ∷ term_parts v.symbols w) rest)
        ∙ ap (λ (ts : List ℕ). left_term ts w) (left-formula (inside v.types around xs (aggregate_parts v.symbols f w))
        f (found_in (inside v.types around xs (aggregate_parts v.symbols f w)) (term_parts v.symbols w) ++ rest))
        ∙ left-term (inside v.types around xs (aggregate_parts v.symbols f w)) w rest

    pub left-arguments : (around : List (Option ℕ)) (b : Bool) (args : List ℕ) (us : NamedTerms) (rest : List ℕ)
        → left_terms (found_in around (arguments_parts v.symbols b args us) ++ rest) us ≡ rest
    left-arguments around b args no_terms rest = refl
    left-arguments around b args (more_terms u us) rest =
        ap (λ (ts : List ℕ). left_terms (left_term ts u) us) (split_argument around b args u us rest)
        ∙ ap (λ (ts : List ℕ). left_terms ts us) (left-term around u
        (found_in around (arguments_parts v.symbols b (later_types args) us) ++ rest))
        ∙ left-arguments around b (later_types args) us rest

    left-factors : (around : List (Option ℕ)) (us : NamedTerms) (rest : List ℕ)
        → left_terms (found_in around (factors_parts v.symbols us) ++ rest) us ≡ rest
    left-factors around no_terms rest = refl
    left-factors around (more_terms u us) rest =
        ap (λ (ts : List ℕ). left_terms (left_term ts u) us) (split around (term_parts v.symbols u)
        (factors_parts v.symbols us) rest)
        ∙ ap (λ (ts : List ℕ). left_terms ts us) (left-term around u
        (found_in around (factors_parts v.symbols us) ++ rest)) ∙ left-factors around us rest

    left-summands : (around : List (Option ℕ)) (ss : NamedSummands) (rest : List ℕ)
        → left_summands (found_in around (summands_parts v.symbols ss) ++ rest) ss ≡ rest
    left-summands around no_summands rest = refl
    left-summands around (more_summands m u ss) rest =
        ap (λ (ts : List ℕ). left_summands (left_term ts u) ss) (split around (term_parts v.symbols u)
        (summands_parts v.symbols ss) rest)
        ∙ ap (λ (ts : List ℕ). left_summands ts ss) (left-term around u (found_in around (summands_parts v.symbols ss)
        ++ rest)) ∙ left-summands around ss rest

  -- ---- trees

  mutual
    pub tree-formula : (around : List (Option ℕ)) (f : NamedFormula) (rest : List ℕ)
        → listed_formula (found_in around (formula_parts v.symbols f) ++ rest) f ≡ typed_formula v around f
    tree-formula around (truth b) rest = refl
    tree-formula around (atom s us) rest = ap (tree.atom s) (tree-arguments around false _ us rest)
    tree-formula around (comparison c x y) rest =
        ap (λ (ts : List ℕ). tree.comparison c (listed_term ts x) (listed_term (left_term ts x) y))
        (split_comparison around c x y rest)
        ∙ two (tree.comparison c) _ _ _ _ (tree-term around x (found_in around (term_parts v.symbols y) ++ rest))
        (ap (λ (ts : List ℕ). listed_term ts y) (left-term around x (found_in around (term_parts v.symbols y) ++ rest))
        ∙ tree-term around y rest)
    tree-formula around (negation f) rest = ap tree.negation (tree-formula around f rest)
    tree-formula around (conjunction fs) rest = ap tree.conjunction (tree-formulas around fs rest)
    tree-formula around (disjunction fs) rest = ap tree.disjunction (tree-formulas around fs rest)
    tree-formula around (implication f g) rest =
        ap (λ (ts : List ℕ). tree.implication (listed_formula ts f) (listed_formula (left_formula ts f) g))
        (split around (formula_parts v.symbols f) (formula_parts v.symbols g) rest)
        ∙ two tree.implication _ _ _ _ (tree-formula around f (found_in around (formula_parts v.symbols g) ++ rest))
        (ap (λ (ts : List ℕ). listed_formula ts g) (left-formula around f
        (found_in around (formula_parts v.symbols g) ++ rest)) ∙ tree-formula around g rest)
    tree-formula around (equivalence f g) rest =
        ap (λ (ts : List ℕ). tree.equivalence (listed_formula ts f) (listed_formula (left_formula ts f) g))
        (split around (formula_parts v.symbols f) (formula_parts v.symbols g) rest)
        ∙ two tree.equivalence _ _ _ _ (tree-formula around f (found_in around (formula_parts v.symbols g) ++ rest))
        (ap (λ (ts : List ℕ). listed_formula ts g) (left-formula around f
        (found_in around (formula_parts v.symbols g) ++ rest)) ∙ tree-formula around g rest)
    tree-formula around (universal xs f) rest =
        two tree.universal _ _ _ _ (scope_vars around xs (formula_parts v.symbols f) rest)
        (ap (λ (ts : List ℕ). listed_formula ts f) (scope_left around xs (formula_parts v.symbols f) rest)
        ∙ tree-formula (inside v.types around xs (formula_parts v.symbols f)) f rest)
    tree-formula around (existential xs f) rest =
        two tree.existential _ _ _ _ (scope_vars around xs (formula_parts v.symbols f) rest)
        (ap (λ (ts : List ℕ). listed_formula ts f) (scope_left around xs (formula_parts v.symbols f) rest)
        ∙ tree-formula (inside v.types around xs (formula_parts v.symbols f)) f rest)
    tree-formula around (numbered c n xs f) rest =
        two (tree.numbered c (pos (integer_of n))) _ _ _ _ (scope_vars around xs (formula_parts v.symbols f) rest)
        (ap (λ (ts : List ℕ). listed_formula ts f) (scope_left around xs (formula_parts v.symbols f) rest)
        ∙ tree-formula (inside v.types around xs (formula_parts v.symbols f)) f rest)

    tree-formulas : (around : List (Option ℕ)) (fs : NamedFormulas) (rest : List ℕ)
        → listed_formulas (found_in around (formulas_parts v.symbols fs) ++ rest) fs ≡ typed_formulas v around fs
    tree-formulas around no_formulas rest = refl
    tree-formulas around (more_formulas f fs) rest =
        ap (λ (ts : List ℕ). tree.more_formulas (listed_formula ts f) (listed_formulas (left_formula ts f) fs))
        (split around (formula_parts v.symbols f) (formulas_parts v.symbols fs) rest)
        ∙ two tree.more_formulas _ _ _ _ (tree-formula around f (found_in around (formulas_parts v.symbols fs) ++ rest))
        (ap (λ (ts : List ℕ). listed_formulas ts fs) (left-formula around f
        (found_in around (formulas_parts v.symbols fs) ++ rest)) ∙ tree-formulas around fs rest)

    pub tree-term : (around : List (Option ℕ)) (u : NamedTerm) (rest : List ℕ)
        → listed_term (found_in around (term_parts v.symbols u) ++ rest) u ≡ typed_term v around u
    tree-term around (at p x) rest = tree-node around x rest

    tree-node : (around : List (Option ℕ)) (x : NamedNode) (rest : List ℕ)
        → listed_node (found_in around (node_parts v.symbols x) ++ rest) x ≡ typed_node v around x
    tree-node around (variable n) rest = refl
    tree-node around (integer i) rest = refl
    tree-node around (constructed t i) rest = refl
    tree-node around (application s us) rest = ap (tree.application s) (tree-arguments around true _ us rest)
    tree-node around (summation ss) rest = ap tree.summation (tree-summands around ss rest)
    tree-node around (product us) rest = ap tree.product (tree-factors around us rest)
    tree-node around (aggregate how xs f w) rest =
        let inner : List (Option ℕ) = inside v.types around xs (aggregate_parts v.symbols f w) in
        let taken : left_vars (found_in around (scope (map binding_of xs) (parts_of (aggregate_parts v.symbols f w)) ∷
        []) ++ rest) xs
        ≡ found_in inner (formula_parts v.symbols f) ++ (found_in inner (term_parts v.symbols w) ++ rest) =
        scope_left around xs (aggregate_parts v.symbols f w) rest ∙ split inner (formula_parts v.symbols f)
        (number_demand v.symbols w ∷ term_parts v.symbols w) rest in
        three (tree.aggregate how) _ _ _ _ _ _ (scope_vars around xs (aggregate_parts v.symbols f w) rest)
        (ap (λ (ts : List ℕ). listed_formula ts f) taken ∙ tree-formula inner f
        (found_in inner (term_parts v.symbols w) ++ rest))
        (ap (λ (ts : List ℕ). listed_term (left_formula ts f) w) taken
        ∙ ap (λ (ts : List ℕ). listed_term ts w) (left-formula inner f
        (found_in inner (term_parts v.symbols w) ++ rest)) ∙ tree-term inner w rest)

    pub tree-arguments : (around : List (Option ℕ)) (b : Bool) (args : List ℕ) (us : NamedTerms) (rest : List ℕ)
        → listed_terms (found_in around (arguments_parts v.symbols b args us) ++ rest) us ≡ typed_terms v around us
    tree-arguments around b args no_terms rest = refl
    tree-arguments around b args (more_terms u us) rest =
        ap (λ (ts : List ℕ). tree.more_terms (listed_term ts u) (listed_terms (left_term ts u) us))
        (split_argument around b args u us rest)
        ∙ two tree.more_terms _ _ _ _ (tree-term around u (found_in around
        (arguments_parts v.symbols b (later_types args) us) ++ rest))
        (ap (λ (ts : List ℕ). listed_terms ts us) (left-term around u
        (found_in around (arguments_parts v.symbols b (later_types args) us) ++ rest))
        ∙ tree-arguments around b (later_types args) us rest)

    tree-factors : (around : List (Option ℕ)) (us : NamedTerms) (rest : List ℕ)
        → listed_terms (found_in around (factors_parts v.symbols us) ++ rest) us ≡ typed_terms v around us
    tree-factors around no_terms rest = refl
    tree-factors around (more_terms u us) rest =
        ap (λ (ts : List ℕ). tree.more_terms (listed_term ts u) (listed_terms (left_term ts u) us))
        (split around (term_parts v.symbols u) (factors_parts v.symbols us) rest)
        ∙ two tree.more_terms _ _ _ _ (tree-term around u (found_in around (factors_parts v.symbols us) ++ rest))
        (ap (λ (ts : List ℕ). listed_terms ts us) (left-term around u
        (found_in around (factors_parts v.symbols us) ++ rest)) ∙ tree-factors around us rest)

    tree-summands : (around : List (Option ℕ)) (ss : NamedSummands) (rest : List ℕ)
        → listed_summands (found_in around (summands_parts v.symbols ss) ++ rest) ss ≡ typed_summands v around ss
    tree-summands around no_summands rest = refl
    tree-summands around (more_summands m u ss) rest =
        ap (λ (ts : List ℕ). tree.more_summands m (listed_term ts u) (listed_summands (left_term ts u) ss))
        (split around (term_parts v.symbols u) (summands_parts v.symbols ss) rest)
        ∙ two (tree.more_summands m) _ _ _ _ (tree-term around u
        (found_in around (summands_parts v.symbols ss) ++ rest))
        (ap (λ (ts : List ℕ). listed_summands ts ss) (left-term around u (found_in around (summands_parts v.symbols ss)
        ++ rest)) ∙ tree-summands around ss rest)
