-- Counts that stop at the greatest number, made part by part.
use Rattle.std.proofs.Common.{◌≡◌, ℕ, ◌+◌, ◌*◌, false, if◌then◌else◌, List, [], ◌∷◌, ◌++◌, fold}
use Rattle.std.proofs.Common.{length, is_some, ap, ◌∙◌, subst, arith}
use Rattle.std.specs.List.{sum_by}
use Rattle.std.proofs.lemmas.List.Sums.{sum_by-cons}
use Rattle.kb_logic.specs.declared.elements.Elem.{Elem}
use Rattle.kb_logic.specs.declared.vocabularies.Bound.{Bound}
use Rattle.kb_logic.specs.declared.vocabularies.Vocabulary.{Vocabulary}
use Rattle.kb_logic.specs.declared.syntax.AggKind.{AggKind}
use Rattle.kb_logic.specs.KnownAtoms.{KnownAtoms}
use Rattle.kb_logic.specs.Structures.{choices}
use Rattle.kb_logic.specs.Trees.{TermTree, aggregate, FormulaTree}
use Rattle.kb_logic.specs.Weights.{application_count}
use Rattle.stage_definitions.specs.SizesStage.{capped}
use Rattle.certain_truth.specs.Certainty.{known_value}
use Rattle.size_stage.proofs.Capping.{again, times_same}
use Rattle.open_sizes.specs.OpenWeights.{open_occurrences, open_in_term}

-- a count that grows by one number for each item, and stops at each step
pub stopped_sum : {X : Type 0} (h : X → ℕ) (xs : List X) (c d : ℕ) → c ≡ capped d
    → fold (λ n x. capped (n + h x)) c xs ≡ capped (d + sum_by h xs)
stopped_sum h [] c d e = omega (arith, e)
stopped_sum h (x ∷ xs) c d e =
    let one : capped (c + h x) ≡ capped (d + h x) = omega (arith, e) in
    let sum = sum_by-cons h x xs in
    let same : d + h x + sum_by h xs ≡ d + sum_by h (x ∷ xs) = omega (arith, sum) in
    stopped_sum h xs (capped (c + h x)) (d + h x) one ∙ ap capped same

pub product : (a b x y own : ℕ) → x ≡ capped a → y ≡ capped b → own ≡ capped (x * y) → own ≡ capped (a * b)
product a b x y own hx hy h = h ∙ times_same x a y b (ap capped hx ∙ again a) (ap capped hy ∙ again b)

-- ---- what an aggregate counts whose value is not known

pub open_aggregate : (v : Vocabulary) (k : KnownAtoms) (g : TermTree) (e : List Elem)
    → is_some (known_value k g e) ≡ false → (c : AggKind) (bs : List Bound) (f : FormulaTree) (t : TermTree)
    → g ≡ aggregate c bs f t → open_in_term v k g e
    ≡ length (choices k.domains bs) * application_count v k.domains t
    + sum_by (λ a. open_occurrences v k f (e ++ a) + open_in_term v k t (e ++ a)) (choices k.domains bs)
open_aggregate v k g e hidden c bs f t same =
    let unknown : is_some (known_value k (aggregate c bs f t) e) ≡ false =
    subst (λ x. is_some (known_value k x e) ≡ false) same hidden in
    ap (λ x. open_in_term v k x e) same
    ∙ ap (λ b. if b then 0 else length (choices k.domains bs) * application_count v k.domains t
    + sum_by (λ a. open_occurrences v k f (e ++ a) + open_in_term v k t (e ++ a)) (choices k.domains bs)) unknown
