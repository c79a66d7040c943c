-- The terms of a problem of which lines say something, and what they come to.
use Rattle.std.proofs.Common.{◌≡◌, ℕ, suc, ◌+◌, ◌<◌, ◌≤◌, Bool, true, false, List, []}
use Rattle.std.proofs.Common.{zero, ◌-◌, ℤ, Vec, Global, ◌∷◌, ◌++◌, if◌then◌else◌, length, fold, drop, map, filter}
use Rattle.std.proofs.Common.{get_or, slice_get}
use Rattle.std.proofs.Common.{Some, None, refl, sym, ap, ◌∙◌, arith}
use Rattle.std.specs.Option.{option_map}
use Rattle.std.proofs.lemmas.Int.{ints}
use Rattle.std.proofs.lemmas.List.{append-nil, append_assoc, drop_more}
use Rattle.kb_logic.specs.declared.structures.Literal.{Literal}
use Rattle.kb_logic.specs.declared.syntax.AggKind.{AggKind}
use Rattle.kb_logic.specs.declared.syntax.AggKind.TheVariants as kind
use Rattle.kb_logic.specs.Arithmetic.{start, combined}
use Rattle.kb_logic.specs.Denotations.{Denotation, number}
use Rattle.kb_logic.proofs.Aggregates.{aggregate_is_fold}
use Rattle.lit_core.specs.Literals.{literal_value}
use Rattle.ground_core.specs.declared.parts.Part.{Part}
use Rattle.ground_core.specs.Problems.{ProblemState}
use Rattle.ground_core.specs.Meaning.{parts_value, weights_of}
use Rattle.ground_core.specs.Growth.{empty_problem, with_clause, with_gate, with_same, with_sum, with_term}
use Rattle.solving_judge.specs.declared.problems.Said.{Said}
use Rattle.solving_judge.specs.declared.problems.Said.TheVariants.{Clause, Gate, Same, Sum, Term}
use Rattle.solving_judge.specs.declared.totals.Total.{Total}
use Rattle.solving_judge.specs.declared.totals.Total.TheVariants as total
use Rattle.solving_judge.specs.Sayings.{saying, problem_said, term_of, terms_of}
use Rattle.solving_judge.specs.Totals.{IsOf}

terms-after : (p : ProblemState) (said : List Said) → (fold saying p said).terms ≡ p.terms ++ terms_of said
terms-after p [] = sym (append-nil p.terms)
terms-after p (Clause lits ∷ more) = terms-after (with_clause p lits.items) more
terms-after p (Gate all parts ∷ more) = terms-after (with_gate p all parts.items) more
terms-after p (Same a b ∷ more) = terms-after (with_same p a b) more
terms-after p (Sum kind least parts ∷ more) = terms-after (with_sum p kind parts.items least) more
terms-after p (Term kind base parts ∷ more) =
    terms-after (with_term p (term_of kind base parts.items)) more
    ∙ append_assoc p.terms (term_of kind base parts.items ∷ []) (terms_of more)

pub terms-said : (atoms : List Literal) (said : List Said) → (problem_said atoms said).terms ≡ terms_of said
terms-said atoms said = terms-after (empty_problem atoms) said

-- one part more
module _ (v : ℕ → Bool) (k : AggKind) where
  picked : (t : Bool) (p : Part) (ps : List Part) (d : Denotation)
      → fold (combined k) d (map (λ (q : Part). number q.weight) (if t then p ∷ ps else ps))
      ≡ fold (combined k) (if t then combined k d (number p.weight) else d) (map (λ (q : Part). number q.weight) ps)
  picked true p ps d = refl
  picked false p ps d = refl

  pub weight-next : (ps : List Part) (i : ℕ) (p0 : Part) (d : Denotation) → i < length ps
      → fold (combined k) d (weights_of v (drop i ps)) ≡ fold (combined k)
      (if literal_value v (get_or ps i p0).lit then combined k d (number (get_or ps i p0).weight) else d)
      (weights_of v (drop (i + 1) ps))
  weight-next ps i p0 d lt =
      let p : Part = get_or ps i p0 in
      ap (λ (qs : List Part). fold (combined k) d (weights_of v qs)) (drop_more ps i p0 lt)
      ∙ picked (literal_value v p.lit) p (filter (λ (q : Part). literal_value v q.lit) (drop (i + 1) ps)) d

  pub weights-first : (ps : List Part) → fold (combined k) (start k) (weights_of v ps) ≡ parts_value v k ps
  weights-first ps = sym (aggregate_is_fold k (weights_of v ps))

-- such a total is one within wider bounds
pub wider : (k : AggKind) (m n : ℕ) (t : Total) → m ≤ n → IsOf k m t → IsOf k n t
wider k m n (total.Num z) le h = (omega (arith, ints, le, h.0), omega (arith, ints, le, h.1))
wider kind.Count m n total.NegInf le h = h
wider kind.Count m n total.PosInf le h = h
wider kind.Sum m n total.NegInf le h = h
wider kind.Sum m n total.PosInf le h = h
wider kind.Min m n total.NegInf le h = h
wider kind.Min m n total.PosInf le h = h
wider kind.Max m n total.NegInf le h = h
wider kind.Max m n total.PosInf le h = h

-- looking for a term among the rest
module _ (said : List Said) (i n : ℕ) (it : Said) (k : AggKind) (base : ℤ) (parts : Vec Part Global)
    (lt : i < length said) (at : it ≡ get_or said i it) (is : it ≡ Term k base parts) where
  rest-is : drop i said ≡ Term k base parts ∷ drop (i + 1) said
  rest-is = drop_more said i it lt ∙ ap (λ (x : Said). x ∷ drop (i + 1) said) (sym at ∙ is)

  pub found : n ≡ 0 → Some (term_of k base parts.items) ≡ slice_get (terms_of (drop i said)) n
  found none = ap (λ (j : ℕ). slice_get (term_of k base parts.items ∷ terms_of (drop (i + 1) said)) j) (sym none)
      ∙ ap (λ (xs : List Said). slice_get (terms_of xs) n) (sym rest-is)

  pub passed : (n ≡ 0 → ⊥) → slice_get (terms_of (drop i said)) n ≡ slice_get (terms_of (drop (i + 1) said)) (n - 1)
  passed some = ap (λ (xs : List Said). slice_get (terms_of xs) n) rest-is ∙ later n some
    where
      later : (m : ℕ) → (m ≡ 0 → ⊥) → slice_get (term_of k base parts.items ∷ terms_of (drop (i + 1) said)) m
          ≡ slice_get (terms_of (drop (i + 1) said)) (m - 1)
      later zero h = absurd (h refl)
      later (suc m) h = ap (slice_get (terms_of (drop (i + 1) said))) (omega arith)

-- where nothing comes first there is nothing
pub no-first : {A B : Type 0} (f : A → B) (xs : List A) → None ≡ option_map f (slice_get xs 0) → xs ≡ []
no-first f [] e = refl
no-first f (x ∷ xs) e = cc
