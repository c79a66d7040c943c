-- Aggregates over the assignments of the first of a binder's variables, from what was found before.
use Rattle.std.proofs.Common.{◌≡◌, ℕ, ◌+◌, ◌<◌, List, [], ◌∷◌, ◌++◌, map, drop, get_or, fold, length, Option, subst}
use Rattle.std.proofs.Common.{append_assoc}
use Rattle.std.proofs.lemmas.List.{at_drop_more}
use Rattle.std.proofs.lemmas.List.Folds.{fold-map}
use Rattle.kb_logic.specs.declared.elements.Elem.{Elem}
use Rattle.kb_logic.specs.declared.syntax.AggKind.{AggKind}
use Rattle.kb_logic.specs.Denotations.{Denotation}
use Rattle.kb_logic.proofs.Pairs.{pairs}
use Rattle.kb_logic.proofs.Assignments.{joined}
use Rattle.partial_structures.specs.declared.truths.Truth.{Truth}
use Rattle.plain_evaluation.proofs.Folds.{after_front}
use Rattle.certain_truth.specs.KnownArithmetic.{gathered, GatheredFits}

module _ {X : Type 0} (kind : AggKind) (P : X → Truth) (V : X → Option Denotation) where
  gathered-append : (acc : Option Denotation) (xs ys : List X) → GatheredFits kind P V acc (xs ++ ys)
      → GatheredFits kind P V acc xs × GatheredFits kind P V (fold (λ d x. gathered kind d (P x) (V x)) acc xs) ys
  gathered-append acc [] ys h = (tt, h)
  gathered-append acc (x ∷ xs) ys h = let rest = gathered-append (gathered kind acc (P x) (V x)) xs ys h.1 in
      ((h.0, rest.0), rest.1)

gathered-map : {X Y : Type 0} (kind : AggKind) (P : X → Truth) (V : X → Option Denotation) (h : Y → X)
    (acc : Option Denotation) (ys : List Y) → GatheredFits kind P V acc (map h ys) → GatheredFits kind (λ y. P (h y))
    (λ y. V (h y)) acc ys
gathered-map kind P V h acc [] f = tt
gathered-map kind P V h acc (y ∷ ys) f = (f.0, gathered-map kind P V h (gathered kind acc (P (h y)) (V (h y))) ys f.1)

-- what fits over all assignments fits over those that begin with their assignment number i, and after them
pub gathered_front : (kind : AggKind) (P : List Elem → Truth) (V : List Elem → Option Denotation)
    (rest cs : List (List Elem)) (i : ℕ) (acc : Option Denotation) → i < length cs
    → GatheredFits kind P V acc (pairs joined rest (drop i cs))
    → GatheredFits kind (λ b. P (get_or cs i [] ++ b)) (λ b. V (get_or cs i [] ++ b)) acc rest
    × GatheredFits kind P V (after_front (λ d b. gathered kind d (P b) (V b)) rest acc (get_or cs i []))
    (pairs joined rest (drop (i + 1) cs))
gathered_front kind P V rest cs i acc h fits =
    let a = get_or cs i [] in
    let split = gathered-append kind P V acc (map (joined a) rest) (pairs joined rest (drop (i + 1) cs))
    (subst (GatheredFits kind P V acc) (at_drop_more (pairs joined rest) cs i [] h) fits) in (
      gathered-map kind P V (joined a) acc rest split.0,
      subst (λ d. GatheredFits kind P V d (pairs joined rest (drop (i + 1) cs)))
          (fold-map (λ d b. gathered kind d (P b) (V b)) (joined a) acc rest) split.1,
    )

-- the same for an environment that has the assignment
pub gathered_inside : (kind : AggKind) (T : List Elem → Truth) (W : List Elem → Option Denotation)
    (rest : List (List Elem)) (e inner a : List Elem) (acc : Option Denotation) → inner ≡ e ++ a
    → GatheredFits kind (λ b. T (e ++ (a ++ b))) (λ b. W (e ++ (a ++ b))) acc rest
    → GatheredFits kind (λ b. T (inner ++ b)) (λ b. W (inner ++ b)) acc rest
gathered_inside kind T W rest e inner a acc is h = rw is (simp append_assoc h)
