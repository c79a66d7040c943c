-- What is certain of a term or a formula where only some atoms are known: Kleene's strong three-valued logic, under the
-- elements e that are assigned to the variables in scope, the outermost first.
use Rattle.std.specs.Prelude.{ℕ, suc, ℤ, pos, List, [], ◌∷◌, ◌++◌, Bool, if◌then◌else◌, Option, None, Some, option_map}
use Rattle.std.specs.Prelude.{slice_get}
use Rattle.kb_logic.specs.declared.elements.Elem.{Elem}
use Rattle.kb_logic.specs.declared.syntax.Cmp.{Cmp}
use Rattle.kb_logic.specs.declared.syntax.Cmp.TheVariants as cmp
use Rattle.kb_logic.specs.Trees.{TermTree, variable, integer, constructed, application, summation, product, aggregate}
use Rattle.kb_logic.specs.Trees.{TermTrees, no_terms, more_terms, SummandTrees, no_summands, more_summands, FormulaTree}
use Rattle.kb_logic.specs.Trees.{verum, falsum, atom, comparison, negation, conjunction, disjunction, implication}
use Rattle.kb_logic.specs.Trees.{equivalence, universal, existential, numbered, FormulaTrees, no_formulas}
use Rattle.kb_logic.specs.Trees.{more_formulas}
use Rattle.kb_logic.specs.Structures.{domain_at, choices}
use Rattle.kb_logic.specs.Denotations.{Denotation, number, compared, as_number, aggregate_value}
use Rattle.kb_logic.specs.Meaning.{element_value, summand_plus, number_value, product_from}
use Rattle.partial_structures.specs.KnownAtoms.{KnownAtoms}
use Rattle.partial_structures.specs.Applications.{applied_known, atom_certain, value_certain}
use Rattle.partial_structures.specs.declared.truths.Truth.{Truth}
use Rattle.partial_structures.specs.declared.truths.Truth.TheVariants as truth

abbrev pub truth_if : Bool → Truth
truth_if b = if b then truth.Yes else truth.No

abbrev pub not_certain : Truth → Truth
not_certain truth.Yes = truth.No
not_certain truth.No = truth.Yes
not_certain truth.Unknown = truth.Unknown

-- false where either is false, and true where both are true
abbrev pub both_certain : Truth → Truth → Truth
both_certain truth.Yes b = b
both_certain truth.No b = truth.No
both_certain truth.Unknown truth.No = truth.No
both_certain truth.Unknown _ = truth.Unknown

-- true where either is true, and false where both are false
abbrev pub either_certain : Truth → Truth → Truth
either_certain truth.Yes b = truth.Yes
either_certain truth.No b = b
either_certain truth.Unknown truth.Yes = truth.Yes
either_certain truth.Unknown _ = truth.Unknown

-- whether they are alike, where both are certain
abbrev pub alike_certain : Truth → Truth → Truth
alike_certain truth.Yes b = b
alike_certain truth.No b = not_certain b
alike_certain truth.Unknown b = truth.Unknown

-- the conjunction of P over a list
abbrev pub all_certain : {X : Type 0} → (X → Truth) → List X → Truth
all_certain P [] = truth.Yes
all_certain P (x ∷ xs) = both_certain (P x) (all_certain P xs)

-- the disjunction of P over a list
abbrev pub any_certain : {X : Type 0} → (X → Truth) → List X → Truth
any_certain P [] = truth.No
any_certain P (x ∷ xs) = either_certain (P x) (any_certain P xs)

abbrev pub counted : Truth → Option ℕ → Option ℕ
counted truth.Yes n = option_map (λ m. suc m) n
counted truth.No n = n
counted truth.Unknown n = None

-- how often P is true in a list, where it is certain at each item
abbrev pub known_count : {X : Type 0} → (X → Truth) → List X → Option ℕ
known_count P [] = Some 0
known_count P (x ∷ xs) = counted (P x) (known_count P xs)

abbrev pub known_cons : Option Denotation → Option (List Denotation) → Option (List Denotation)
known_cons None vs = None
known_cons (Some v) vs = option_map (λ ws. v ∷ ws) vs

abbrev pub chosen : Truth → Option Denotation → Option (List Denotation) → Option (List Denotation)
chosen truth.Yes v vs = known_cons v vs
chosen truth.No v vs = vs
chosen truth.Unknown v vs = None

-- the values of V where P is true, if P is certain at each item and each value that is needed is known
abbrev pub known_weights : {X : Type 0} → (X → Truth) → (X → Option Denotation) → List X → Option (List Denotation)
known_weights P V [] = Some []
known_weights P V (x ∷ xs) = chosen (P x) (V x) (known_weights P V xs)

-- a comparison of known values
abbrev pub compared_known : Cmp → Option Denotation → Option Denotation → Truth
compared_known c None v = truth.Unknown
compared_known c (Some u) None = truth.Unknown
compared_known c (Some u) (Some v) = truth_if (compared c u v)

-- what is certain, or else what comes second
abbrev pub or_else : Truth → Truth → Truth
or_else truth.Yes b = truth.Yes
or_else truth.No b = truth.No
or_else truth.Unknown b = b

-- a comparison of u and v, where left and right are what is certain of it as an equation of an application with a known
-- value: such an equation may be certain where the application's value is not known
abbrev pub comparison_certain : Cmp → Truth → Truth → Option Denotation → Option Denotation → Truth
comparison_certain cmp.Eq left right u v = or_else left (or_else right (compared_known cmp.Eq u v))
comparison_certain cmp.Ne left right u v = compared_known cmp.Ne u v
comparison_certain cmp.Lt left right u v = compared_known cmp.Lt u v
comparison_certain cmp.Gt left right u v = compared_known cmp.Gt u v
comparison_certain cmp.Le left right u v = compared_known cmp.Le u v
comparison_certain cmp.Ge left right u v = compared_known cmp.Ge u v

abbrev pub known_truth : Cmp → ℤ → Option ℕ → Truth
known_truth c n None = truth.Unknown
known_truth c n (Some m) = truth_if (compared c (number (pos m)) (number n))

abbrev mutual
  -- the value of a term, where it is known
  pub known_value : KnownAtoms → TermTree → List Elem → Option Denotation
  known_value k (variable n) e = Some (element_value (slice_get e n))
  known_value k (integer z) e = Some (number z)
  known_value k (constructed ty n) e = Some (element_value (slice_get (domain_at k.domains ty) n))
  known_value k (application s ts) e = applied_known k s (known_values k ts e)
  known_value k (summation ss) e = option_map number_value (known_sum k ss e)
  known_value k (product ts) e = option_map (λ vs. number_value (product_from (pos 1) vs)) (known_values k ts e)
  known_value k (aggregate kind bs f t) e =
      option_map (aggregate_value kind) (known_weights (λ a. certain_truth k f (e ++ a))
      (λ a. option_map as_number (known_value k t (e ++ a))) (choices k.domains bs))

  -- the values of terms, where all are known
  pub known_values : KnownAtoms → TermTrees → List Elem → Option (List Denotation)
  known_values k no_terms e = Some []
  known_values k (more_terms t ts) e = known_cons (known_value k t e) (known_values k ts e)

  -- the sum of the operands, where all are known
  pub known_sum : KnownAtoms → SummandTrees → List Elem → Option (Option ℤ)
  known_sum k no_summands e = Some (Some (pos 0))
  known_sum k (more_summands minus t ss) e = elim (known_value k t e)
      [ None ↦ None | Some v ↦ option_map (summand_plus minus v) (known_sum k ss e) ]

  -- what is certain of `t = v` for a term t and a value v, where t is a function's application with known arguments
  pub equation_certain : KnownAtoms → TermTree → Option Denotation → List Elem → Truth
  equation_certain k (variable n) v e = truth.Unknown
  equation_certain k (integer z) v e = truth.Unknown
  equation_certain k (constructed ty n) v e = truth.Unknown
  equation_certain k (application s ts) v e = value_certain k s (known_values k ts e) v
  equation_certain k (summation ss) v e = truth.Unknown
  equation_certain k (product ts) v e = truth.Unknown
  equation_certain k (aggregate kind bs f t) v e = truth.Unknown

  -- what is certain of a formula
  pub certain_truth : KnownAtoms → FormulaTree → List Elem → Truth
  certain_truth k verum e = truth.Yes
  certain_truth k falsum e = truth.No
  certain_truth k (atom s ts) e = atom_certain k s (known_values k ts e)
  certain_truth k (comparison c a b) e =
      comparison_certain c (equation_certain k a (known_value k b e) e) (equation_certain k b (known_value k a e) e)
      (known_value k a e) (known_value k b e)
  certain_truth k (negation f) e = not_certain (certain_truth k f e)
  certain_truth k (conjunction fs) e = all_parts k fs e
  certain_truth k (disjunction fs) e = any_part k fs e
  certain_truth k (implication f g) e = either_certain (not_certain (certain_truth k f e)) (certain_truth k g e)
  certain_truth k (equivalence f g) e = alike_certain (certain_truth k f e) (certain_truth k g e)
  certain_truth k (universal bs f) e = all_certain (λ a. certain_truth k f (e ++ a)) (choices k.domains bs)
  certain_truth k (existential bs f) e = any_certain (λ a. certain_truth k f (e ++ a)) (choices k.domains bs)
  certain_truth k (numbered c n bs f) e = known_truth c n (known_count (λ a. certain_truth k f (e ++ a))
      (choices k.domains bs))

  pub all_parts : KnownAtoms → FormulaTrees → List Elem → Truth
  all_parts k no_formulas e = truth.Yes
  all_parts k (more_formulas f fs) e = both_certain (certain_truth k f e) (all_parts k fs e)

  pub any_part : KnownAtoms → FormulaTrees → List Elem → Truth
  any_part k no_formulas e = truth.No
  any_part k (more_formulas f fs) e = either_certain (certain_truth k f e) (any_part k fs e)
