-- The connectives and counts of certain truth, as folds.
use Rattle.std.proofs.Common.{◌≡◌, ℕ, suc, ◌+◌, ◌-◌, ◌^◌, ◌≤◌, min, List, [], ◌∷◌, fold, Bool, true, false, Option}
use Rattle.std.proofs.Common.{None, Some, refl, sym, ap, ◌∙◌, arith, ℤ, to_z, of_z, w64, FitsSigned}
use Rattle.std.specs.Option.{option_map}
use Rattle.kb_logic.specs.declared.elements.Elem.{Elem}
use Rattle.kb_logic.specs.declared.syntax.AggKind.{AggKind}
use Rattle.kb_logic.specs.Denotations.{Denotation, number, compared, aggregate_value}
use Rattle.kb_logic.specs.Values.{count_up_to}
use Rattle.kb_logic.specs.declared.syntax.Cmp.{Cmp}
use Rattle.plain_evaluation.proofs.Counts.{number_is}
use Rattle.kb_logic.specs.Arithmetic.{start, combined}
use Rattle.kb_logic.specs.Trees.{FormulaTree, FormulaTrees, more_formulas, no_formulas}
use Rattle.kb_logic.proofs.Aggregates.{aggregate_is_fold}
use Rattle.partial_structures.specs.KnownAtoms.{KnownAtoms}
use Rattle.certain_truth.specs.KnownArithmetic.{gathered}
use Rattle.certain_truth.specs.Certainty.{both_certain, either_certain, all_certain, any_certain, counted, known_count}
use Rattle.certain_truth.specs.Certainty.{known_cons, chosen, known_weights, certain_truth, truth_if, known_truth}
use Rattle.certain_truth.specs.Evaluation.{joined, settles, parts_of, tallied}
use Rattle.partial_structures.specs.declared.truths.Truth.{Truth}
use Rattle.partial_structures.specs.declared.truths.Truth.TheVariants.{Yes, No, Unknown}

pub joined_assoc : (all : Bool) (a b c : Truth) → joined all (joined all a b) c ≡ joined all a (joined all b c)
joined_assoc true Yes b c = refl
joined_assoc true No b c = refl
joined_assoc true Unknown Yes c = refl
joined_assoc true Unknown No c = refl
joined_assoc true Unknown Unknown Yes = refl
joined_assoc true Unknown Unknown No = refl
joined_assoc true Unknown Unknown Unknown = refl
joined_assoc false Yes b c = refl
joined_assoc false No b c = refl
joined_assoc false Unknown Yes c = refl
joined_assoc false Unknown No c = refl
joined_assoc false Unknown Unknown Yes = refl
joined_assoc false Unknown Unknown No = refl
joined_assoc false Unknown Unknown Unknown = refl

pub joined_unit : (all : Bool) (a : Truth) → joined all a (truth_if all) ≡ a
joined_unit true Yes = refl
joined_unit true No = refl
joined_unit true Unknown = refl
joined_unit false Yes = refl
joined_unit false No = refl
joined_unit false Unknown = refl

pub unit_joined : (all : Bool) (a : Truth) → joined all (truth_if all) a ≡ a
unit_joined true a = refl
unit_joined false a = refl

pub settled_stays : (all : Bool) (a b : Truth) → settles all a ≡ true → joined all a b ≡ a
settled_stays true Yes b h = cc
settled_stays true No b h = refl
settled_stays true Unknown b h = cc
settled_stays false Yes b h = refl
settled_stays false No b h = cc
settled_stays false Unknown b h = cc

pub parts_none : (all : Bool) (k : KnownAtoms) (e : List Elem) → parts_of all k no_formulas e ≡ truth_if all
parts_none true k e = refl
parts_none false k e = refl

pub parts_more : (all : Bool) (k : KnownAtoms) (f : FormulaTree) (fs : FormulaTrees) (e : List Elem)
    → parts_of all k (more_formulas f fs) e ≡ joined all (certain_truth k f e) (parts_of all k fs e)
parts_more true k f fs e = refl
parts_more false k f fs e = refl

module _ {X : Type 0} (P : X → Truth) where
  pub fold_both : (xs : List X) (t : Truth) → fold (λ u x. both_certain u (P x)) t xs ≡ both_certain t
      (all_certain P xs)
  fold_both [] t = sym (joined_unit true t)
  fold_both (x ∷ xs) t = fold_both xs (both_certain t (P x)) ∙ joined_assoc true t (P x) (all_certain P xs)

  pub fold_either : (xs : List X) (t : Truth) → fold (λ u x. either_certain u (P x)) t xs ≡ either_certain t
      (any_certain P xs)
  fold_either [] t = sym (joined_unit false t)
  fold_either (x ∷ xs) t = fold_either xs (either_certain t (P x)) ∙ joined_assoc false t (P x) (any_certain P xs)

  -- a count with one before
  abbrev more_than : ℕ → Option ℕ → Option ℕ
  more_than n o = option_map (λ m. min (2 ^ 64 - 1) (n + m)) o

  lost : (xs : List X) → fold (λ n x. tallied n (P x)) None xs ≡ None
  lost [] = refl
  lost (x ∷ xs) = lost xs

  one_more : (n : ℕ) (o : Option ℕ) → more_than (min (2 ^ 64 - 1) (n + 1)) o ≡ more_than n (option_map (λ m. suc m) o)
  one_more n None = refl
  one_more n (Some m) = ap Some (omega arith)

  tally_by : (t : Truth) (n : ℕ) (xs : List X) → ((m : ℕ) → m ≤ 2 ^ 64 - 1 → fold (λ u x. tallied u (P x)) (Some m) xs
      ≡ more_than m (known_count P xs)) → n ≤ 2 ^ 64 - 1
      → fold (λ u x. tallied u (P x)) (tallied (Some n) t) xs ≡ more_than n (counted t (known_count P xs))
  tally_by Yes n xs go h = go (min (2 ^ 64 - 1) (n + 1)) (omega arith) ∙ one_more n (known_count P xs)
  tally_by No n xs go h = go n h
  tally_by Unknown n xs go h = lost xs

  no_more : (n : ℕ) → n ≤ 2 ^ 64 - 1 → Some n ≡ more_than n (Some 0)
  no_more n h = ap Some (omega (arith, h))

  pub fold_tallied : (xs : List X) (n : ℕ) → n ≤ 2 ^ 64 - 1 → fold (λ u x. tallied u (P x)) (Some n) xs ≡ more_than n
      (known_count P xs)
  fold_tallied [] n h = no_more n h
  fold_tallied (x ∷ xs) n h = tally_by (P x) n xs (λ m. fold_tallied xs m) h

  module _ (kind : AggKind) (V : X → Option Denotation) where
    not_gathered : (xs : List X) → fold (λ d x. gathered kind d (P x) (V x)) None xs ≡ None
    not_gathered [] = refl
    not_gathered (x ∷ xs) = not_gathered xs

    gather_cons : (d v : Denotation) (o : Option (List Denotation))
        → option_map (fold (combined kind) (combined kind d v)) o ≡ option_map (fold (combined kind) d)
        (known_cons (Some v) o)
    gather_cons d v None = refl
    gather_cons d v (Some vs) = refl

    gather_by : (t : Truth) (w : Option Denotation) (d : Denotation) (xs : List X)
        → ((c : Denotation) → fold (λ u x. gathered kind u (P x) (V x)) (Some c) xs ≡ option_map
        (fold (combined kind) c) (known_weights P V xs))
        → fold (λ u x. gathered kind u (P x) (V x)) (gathered kind (Some d) t w) xs ≡ option_map
        (fold (combined kind) d) (chosen t w (known_weights P V xs))
    gather_by Yes None d xs go = not_gathered xs
    gather_by Yes (Some v) d xs go = go (combined kind d v) ∙ gather_cons d v (known_weights P V xs)
    gather_by No w d xs go = go d
    gather_by Unknown w d xs go = not_gathered xs

    fold_gathered : (xs : List X) (d : Denotation) → fold (λ u x. gathered kind u (P x) (V x)) (Some d) xs ≡ option_map
        (fold (combined kind) d) (known_weights P V xs)
    fold_gathered [] d = refl
    fold_gathered (x ∷ xs) d = gather_by (P x) (V x) d xs (fold_gathered xs)

    same_map : (o : Option (List Denotation)) → option_map (fold (combined kind) (start kind)) o ≡ option_map
        (aggregate_value kind) o
    same_map None = refl
    same_map (Some vs) = ap Some (sym (aggregate_is_fold kind vs))

    pub fold_aggregate : (xs : List X) → fold (λ u x. gathered kind u (P x) (V x)) (Some (start kind)) xs ≡ option_map
        (aggregate_value kind) (known_weights P V xs)
    fold_aggregate xs = fold_gathered xs (start kind) ∙ same_map (known_weights P V xs)

none_counted : (c : Cmp) (z : ℤ) (o : Option ℕ) → None ≡ option_map (λ m. min (2 ^ 64 - 1) (0 + m)) o
    → Unknown ≡ known_truth c z o
none_counted c z None h = refl
none_counted c z (Some m) h = cc

pub number_uncertain : {X : Type 0} (c : Cmp) (z : ℤ) (P : X → Truth) (xs : List X)
    → None ≡ fold (λ n x. tallied n (P x)) (Some 0) xs → Unknown ≡ known_truth c z (known_count P xs)
number_uncertain c z P xs h = none_counted c z (known_count P xs) (h ∙ fold_tallied P xs 0 (omega arith))

some_counted : (r : Truth) (b : Bool) (c : Cmp) (v : Denotation) (count : ℕ) (z : ℤ) (o : Option ℕ) → r ≡ truth_if b
    → b ≡ compared c v (number (to_z w64 (of_z w64 z))) → v ≡ count_up_to count
    → Some count ≡ option_map (λ m. min (2 ^ 64 - 1) (0 + m)) o → FitsSigned w64 z → r ≡ known_truth c z o
some_counted r b c v count z None e f g h fits = cc
some_counted r b c v count z (Some m) e f g h fits =
    let same : count ≡ min (2 ^ 64 - 1) (0 + m) = cc in
    let plain : 0 + m ≡ m = omega arith in
    e ∙ ap truth_if (number_is b c v count m z f g (same ∙ ap (min (2 ^ 64 - 1)) plain) fits)

pub number_certain : {X : Type 0} (r : Truth) (b : Bool) (c : Cmp) (v : Denotation) (count : ℕ) (z : ℤ) (P : X → Truth)
    (xs : List X) → r ≡ truth_if b → b ≡ compared c v (number (to_z w64 (of_z w64 z))) → v ≡ count_up_to count
    → Some count ≡ fold (λ n x. tallied n (P x)) (Some 0) xs → FitsSigned w64 z → r ≡ known_truth c z (known_count P xs)
number_certain r b c v count z P xs e f g h fits = some_counted r b c v count z (known_count P xs) e f g
    (h ∙ fold_tallied P xs 0 (omega arith)) fits
