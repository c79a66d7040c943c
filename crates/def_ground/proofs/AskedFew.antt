-- How many variables the terms that may be asked for add.
use Rattle.std.proofs.Common.{◌≡◌, ℕ, suc, ◌+◌, ◌*◌, ◌≤◌, ◌-ℤ◌, Bool, true, false, List, [], ◌∷◌}
use Rattle.std.proofs.Common.{map, length, if◌then◌else◌, Option, Some, None, pos, refl, ap, arith}
use Rattle.std.specs.List.{sum_by, AllByRecursion}
use Rattle.std.proofs.lemmas.List.{length-append, length-map}
use Rattle.std.proofs.lemmas.List.Sums.{sum_by-cons}
use Rattle.std.proofs.lemmas.Nat.{mul-le}
use Rattle.kb_logic.specs.declared.syntax.AggKind.{AggKind}
use Rattle.kb_logic.specs.Bases.{NamedTerm}
use Rattle.kb_logic.specs.Domains.{AreDomainsOf}
use Rattle.kb_logic.specs.Typing.{IsIntegerIn, TermIsTyped}
use Rattle.kb_logic.specs.Denotations.{Denotation}
use Rattle.kb_logic.specs.Meaning.{signed_of}
use Rattle.kb_logic.specs.Trees.{TermTree, variable, integer, constructed, application, summation, product, aggregate}
use Rattle.kb_logic.specs.Trees.{SummandTrees, no_summands, more_summands}
use Rattle.kb_logic.specs.Weights.{application_count, summands_count, term_occurrences, asked_occurrences}
use Rattle.lit_core.specs.declared.literals.Lit.{Lit}
use Rattle.ground_core.specs.Problems.{ProblemState}
use Rattle.term_values.specs.GroundBases.{GroundBase}
use Rattle.term_values.specs.Rows.{rows_of_term}
use Rattle.term_values.proofs.ArgumentTypes.{IsTypedTerm, AreTypedSummands}
use Rattle.term_values.proofs.FewRows.{term-few}
use Rattle.term_values.proofs.TypedLaws.{typed-term}
use Rattle.def_ground.specs.AskedTerms.{Summand, summands_in, alone, summands_of_term, is_rowless, other_weights}
use Rattle.def_ground.specs.AskedTerms.{number_of, weigh_all, parts_of_summands, base_of_summands, asked_sum, asked_by}
use Rattle.def_ground.specs.AskedTerms.{with_asked, with_all_asked}
use Rattle.def_ground.specs.Counting.{extreme_of}
use Rattle.def_ground.specs.Forms.{no_parts_yet}
use Rattle.def_ground.specs.Linear.{Linear}
use Rattle.def_ground.proofs.AskedLaws.{others, has_rowless}
use Rattle.def_ground.proofs.FewLaws.{sums-vars}
pub use Rattle.def_ground.proofs.SplitTerms.{neither}
use Rattle.def_ground.proofs.WeighedRows.{weigh-all-vars}

others-fewer : (minus : Bool) (rs : List (List Lit × Denotation)) → is_rowless rs ≡ false
    → suc (length (other_weights minus rs)) ≡ length rs
others-fewer minus [] h = absurd cc
others-fewer minus (r ∷ rs) h = ap suc (length-map rs (λ q. (q.0, signed_of minus (number_of q.1 -ℤ number_of r.1))))

product-more : (k o : ℕ) → k + (o + 1) ≤ suc k * (o + 1)
product-more k o = let h = mul-le k 1 k (o + 1) (omega arith) (omega arith) in omega (arith, h)

module _ (b : GroundBase) (given : AreDomainsOf b.vocabulary b.domains) where
  summand-few : (minus : Bool) (t : TermTree) (ss : List Summand) (n : ℕ) → IsTypedTerm b.vocabulary b.domains [] t
      → (has_rowless ss ≡ false → length (others ss) + 1 ≤ n)
      → has_rowless (record { minus = minus; rows = rows_of_term b t [] } ∷ ss) ≡ false
      → length (others (record { minus = minus; rows = rows_of_term b t [] } ∷ ss)) + 1
      ≤ application_count b.vocabulary b.domains t * n
  summand-few minus t ss n typed few h =
      let rs = rows_of_term b t [] in
      let both = neither (is_rowless rs) (has_rowless ss) h in
      let own = length (other_weights minus rs) in
      let more = length (others ss) in
      let size : suc own ≡ length rs = others-fewer minus rs both.0 in
      let rows = term-few b [] [] tt t typed in
      let all = mul-le (suc own) (more + 1) (application_count b.vocabulary b.domains t) n (omega (arith, size, rows))
      (few both.1) in
      let sum = product-more own more in
      let joined = length-append (other_weights minus rs) (others ss) in
      omega (arith, all, sum, joined)

  sum-few : (ss : SummandTrees) → AreTypedSummands b.vocabulary b.domains [] ss
      → has_rowless (summands_in b ss) ≡ false
      → length (others (summands_in b ss)) + 1 ≤ summands_count b.vocabulary b.domains ss
  sum-few no_summands typed h = omega arith
  sum-few (more_summands minus t ss) typed h =
      summand-few minus t (summands_in b ss) (summands_count b.vocabulary b.domains ss) typed.0 (sum-few ss typed.1) h

  alone-few : (t : TermTree) → IsTypedTerm b.vocabulary b.domains [] t → has_rowless (alone b t) ≡ false
      → length (others (alone b t)) + 1 ≤ application_count b.vocabulary b.domains t
  alone-few t typed h =
      let few = summand-few false t [] 1 typed (λ k. omega arith) h in omega (arith, few)

  summands-few : (t : TermTree) → IsTypedTerm b.vocabulary b.domains [] t
      → has_rowless (summands_of_term b t) ≡ false
      → length (others (summands_of_term b t)) + 1 ≤ application_count b.vocabulary b.domains t
  summands-few (variable n) typed h = alone-few (variable n) typed h
  summands-few (integer z) typed h = alone-few (integer z) typed h
  summands-few (constructed ty n) typed h = alone-few (constructed ty n) typed h
  summands-few (application s ts) typed h = alone-few (application s ts) typed h
  summands-few (summation ss) typed h = sum-few ss typed h
  summands-few (product ts) typed h = alone-few (product ts) typed h
  summands-few (aggregate k bs f t) typed h = alone-few (aggregate k bs f t) typed h

  rows-vars : (t : TermTree) (p : ProblemState) → IsTypedTerm b.vocabulary b.domains [] t
      → (parts_of_summands (summands_of_term b t) p).problem.vars ≤ p.vars + application_count b.vocabulary b.domains t
  rows-vars t p typed = by_case (has_rowless (summands_of_term b t)) refl
    where
      by_case : (c : Bool) → has_rowless (summands_of_term b t) ≡ c
          → (if c then record { parts = []; problem = p }
          else weigh_all (others (summands_of_term b t)) (record { parts = []; problem = p })).problem.vars
          ≤ p.vars + application_count b.vocabulary b.domains t
      by_case true e = omega arith
      by_case false e =
          let few = summands-few t typed e in
          let more = weigh-all-vars (others (summands_of_term b t)) (record { parts = []; problem = p }) in
          omega (arith, few, more)

  asked-vars : (t : NamedTerm) (p : ProblemState) (o : Option AggKind)
      → TermIsTyped b.vocabulary (IsIntegerIn b.domains) t.term []
      → (asked_by o b p t).vars ≤ p.vars + 4 * asked_occurrences b.vocabulary b.domains t.term
  asked-vars t p (Some k) typed =
      let few = sums-vars b given t.term [] [] (pos 1) (no_parts_yet p) tt typed in omega (arith, few)
  asked-vars t p None typed =
      let ss = summands_of_term b t.term in
      let st = parts_of_summands ss p in
      let start : Linear = record { base = base_of_summands ss; parts = st.parts; problem = st.problem } in
      let rows = rows-vars t.term p (typed-term b.vocabulary b.domains given t.term [] typed) in
      let few : (asked_sum b t.term p).problem.vars
      ≤ st.problem.vars + 4 * term_occurrences b.vocabulary b.domains t.term 1 =
      sums-vars b given t.term [] [] (pos 1) start tt typed in
      omega (arith, rows, few)

  pub all-asked-vars : (ts : List NamedTerm) (p : ProblemState)
      → AllByRecursion (λ t. TermIsTyped b.vocabulary (IsIntegerIn b.domains) t.term []) ts
      → (with_all_asked b ts p).vars
      ≤ p.vars + 4 * sum_by (asked_occurrences b.vocabulary b.domains) (map (λ (t : NamedTerm). t.term) ts)
  all-asked-vars [] p typed = omega arith
  all-asked-vars (t ∷ ts) p typed =
      let one = asked-vars t p (extreme_of t.term) typed.0 in
      let rest = all-asked-vars ts (with_asked b p t) typed.1 in
      let sum = sum_by-cons (asked_occurrences b.vocabulary b.domains) t.term (map (λ (u : NamedTerm). u.term) ts) in
      omega (arith, one, rest, sum)
