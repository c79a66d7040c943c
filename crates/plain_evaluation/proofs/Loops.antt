-- The loops over the assignments of the first of a binder's variables.
use Rattle.std.proofs.Common.{◌≡◌, ℕ, ◌<◌, List, [], ◌∷◌, ◌++◌, length, get_or, Bool, cond, sym, ap, ◌∙◌, append_assoc}
use Rattle.std.specs.List.{list_all, list_any, count_by, sum_by, flat_map, fold, AllByRecursion}
use Rattle.std.proofs.lemmas.List.Sums.{fold-append}
use Rattle.kb_logic.specs.declared.elements.Elem.{Elem}
use Rattle.kb_logic.specs.declared.vocabularies.Bound.{Bound}
use Rattle.kb_logic.specs.declared.syntax.AggKind.{AggKind}
use Rattle.kb_logic.specs.declared.structures.Structure.{Structure}
use Rattle.kb_logic.specs.Denotations.{Denotation}
use Rattle.kb_logic.specs.Meaning.{assignments, values_where}
use Rattle.kb_logic.specs.Arithmetic.{FoldFits, combined}
use Rattle.kb_logic.proofs.Pairs.{pairs, list_all-pairs, list_any-pairs, sum_by-pairs, kept-pairs, all-pairs}
use Rattle.kb_logic.proofs.Assignments.{joined, choices-append}

-- whether P holds of each assignment that begins with a
abbrev pub all_after : Structure → List Bound → (List Elem → Bool) → List Elem → Bool
all_after m bs P a = list_all (λ b. P (a ++ b)) (assignments m bs)

-- whether P holds of some assignment that begins with a
abbrev pub any_after : Structure → List Bound → (List Elem → Bool) → List Elem → Bool
any_after m bs P a = list_any (λ b. P (a ++ b)) (assignments m bs)

-- of how many assignments that begin with a it holds
abbrev pub count_after : Structure → List Bound → (List Elem → Bool) → List Elem → ℕ
count_after m bs P a = count_by (λ b. P (a ++ b)) (assignments m bs)

-- the values of the chosen assignments that begin with a
abbrev pub values_after : Structure → List Bound → (List Elem → Bool) → (List Elem → Denotation) → List Elem
    → List Denotation
values_after m bs P V a = values_where (λ b. P (a ++ b)) (λ b. V (a ++ b)) (assignments m bs)

module _ (m : Structure) (bounds these others : List Bound) (split : bounds ≡ these ++ others) where
  parts : assignments m bounds ≡ pairs joined (assignments m others) (assignments m these)
  parts = ap (assignments m) split ∙ choices-append m.domains these others

  pub all_by_front : (P : List Elem → Bool) → list_all P (assignments m bounds) ≡ list_all (all_after m others P)
      (assignments m these)
  all_by_front P = ap (list_all P) parts ∙ list_all-pairs P joined (assignments m others) (assignments m these)

  pub any_by_front : (P : List Elem → Bool) → list_any P (assignments m bounds) ≡ list_any (any_after m others P)
      (assignments m these)
  any_by_front P = ap (list_any P) parts ∙ list_any-pairs P joined (assignments m others) (assignments m these)

  pub count_by_front : (P : List Elem → Bool) → count_by P (assignments m bounds) ≡ sum_by (count_after m others P)
      (assignments m these)
  count_by_front P = ap (count_by P) parts ∙ sum_by-pairs (λ a. cond (P a) 1 0) joined (assignments m others)
      (assignments m these)

  pub values_by_front : (P : List Elem → Bool) (V : List Elem → Denotation) → values_where P V (assignments m bounds)
      ≡ flat_map (values_after m others P V) (assignments m these)
  values_by_front P V = ap (values_where P V) parts ∙ kept-pairs P V joined (assignments m others) (assignments m these)

  -- what holds under all assignments holds under those that begin with their assignment number i
  pub each_inside : (Q : List Elem → Type 0) (e inner : List Elem) (i : ℕ) → i < length (assignments m these)
      → inner ≡ e ++ get_or (assignments m these) i []
      → AllByRecursion (λ a. Q (e ++ a)) (assignments m bounds) → AllByRecursion (λ b. Q (inner ++ b))
      (assignments m others)
  each_inside Q e inner i h is all =
      rw is (simp append_assoc (all-pairs (λ a. Q (e ++ a)) joined (assignments m others) (assignments m these) i [] h
      (rw parts at all)))

module _ (m : Structure) (others : List Bound) (P : List Elem → Bool) (e inner a : List Elem)
    (is : inner ≡ e ++ a) where
  pub inner_all : list_all (λ b. P (inner ++ b)) (assignments m others) ≡ all_after m others (λ b. P (e ++ b)) a
  inner_all = rw is (simp append_assoc)

  pub inner_any : list_any (λ b. P (inner ++ b)) (assignments m others) ≡ any_after m others (λ b. P (e ++ b)) a
  inner_any = rw is (simp append_assoc)

  pub inner_count : count_by (λ b. P (inner ++ b)) (assignments m others) ≡ count_after m others (λ b. P (e ++ b)) a
  inner_count = rw is (simp append_assoc)

  pub inner_values : (V : List Elem → Denotation) → values_where (λ b. P (inner ++ b)) (λ b. V (inner ++ b))
      (assignments m others) ≡ values_after m others (λ b. P (e ++ b)) (λ b. V (e ++ b)) a
  inner_values V = rw is (simp append_assoc)

pub FoldFits-append : (k : AggKind) (a : Denotation) (xs ys : List Denotation) → FoldFits k a (xs ++ ys)
    → FoldFits k a xs × FoldFits k (fold (combined k) a xs) ys
FoldFits-append k a [] ys h = (tt, h)
FoldFits-append k a (x ∷ xs) ys h = let rest = FoldFits-append k (combined k a x) xs ys h.1 in ((h.0, rest.0), rest.1)

module _ (k : AggKind) (t r : Denotation) (part rest all : List Denotation) (is : all ≡ part ++ rest)
    (after : r ≡ fold (combined k) t part) where
  pub fold_next : fold (combined k) r rest ≡ fold (combined k) t all
  fold_next = rw (after, is) (sym (fold-append (combined k) t part rest))

  pub fits_next : FoldFits k t all → FoldFits k r rest
  fits_next h = rw after ((FoldFits-append k t part rest (rw is at h)).1)

pub fits_part : (k : AggKind) (t : Denotation) (part rest all : List Denotation) → all ≡ part ++ rest → FoldFits k t all
    → FoldFits k t part
fits_part k t part rest all is h = (FoldFits-append k t part rest (rw is at h)).0
