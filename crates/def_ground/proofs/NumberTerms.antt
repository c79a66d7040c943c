-- The rows of a well typed number have numbers.
use Rattle.std.proofs.Common.{◌≡◌, ℕ, ◌<◌, ℤ, pos, ◌+ℤ◌, ◌*ℤ◌, List, [], ◌∷◌, ◌++◌, map, length}
use Rattle.std.proofs.Common.{Option, Some, None, option_map, slice_get, refl, sym, ap, subst, ◌∙◌}
use Rattle.std.proofs.Common.{arith}
use Rattle.std.specs.Option.{unwrap_or}
use Rattle.std.specs.List.{Contains, AllByRecursion}
use Rattle.std.proofs.lemmas.List.{length-map}
use Rattle.kb_logic.specs.declared.elements.Elem.{Elem}
use Rattle.kb_logic.specs.declared.elements.Elem.TheVariants.{Named, Num}
use Rattle.kb_logic.specs.declared.vocabularies.Parent.{Parent}
use Rattle.kb_logic.specs.declared.vocabularies.Parent.TheVariants.{Root, Int, Nat, Of}
use Rattle.kb_logic.specs.declared.vocabularies.TypeDecl.{TypeDecl}
use Rattle.kb_logic.specs.declared.vocabularies.Vocabulary.{Vocabulary}
use Rattle.kb_logic.specs.Trees.{TermTree, variable, integer, constructed, application, summation, product, aggregate}
use Rattle.kb_logic.specs.Trees.{TermTrees, no_terms, more_terms, SummandTrees, no_summands, more_summands}
use Rattle.kb_logic.specs.Structures.{domain_at}
use Rattle.kb_logic.specs.Denotations.{Denotation, number, denotation_of}
use Rattle.kb_logic.specs.Meaning.{number_value, product_from, signed_of, summand_plus}
use Rattle.kb_logic.specs.Bounds.{value_type_of, HasTypes}
use Rattle.kb_logic.specs.Domains.{IsUnder, IsDomainOf, AreDomainsOf}
use Rattle.kb_logic.specs.Typing.{IsBelow, itself, under, IsNumberParent, IsNumberType, IsNumeric, element_of, sort_of}
use Rattle.kb_logic.specs.Typing.{IsIntegerIn, TermIsTyped, FactorsAreTyped, OperandsAreTyped}
use Rattle.kb_logic.proofs.Members.{all_in}
use Rattle.lit_core.specs.declared.literals.Lit.{Lit}
use Rattle.term_values.specs.GroundBases.{GroundBase}
use Rattle.term_values.specs.GroundTerms.{TermHasNoCounting}
use Rattle.term_values.specs.Rows.{rows_of_term, rows_of_terms, rows_of_sum}
use Rattle.term_values.proofs.FewRows.{all-flat, all-mapped, IsIn, of-type}
use Rattle.term_values.proofs.StructureLaws.{each-at}
use Rattle.term_values.proofs.TypedLaws.{typed-term, ground-term}
use Rattle.def_ground.specs.GroundForms.{IsNumberRow, IsNumberTerm}
use Rattle.def_ground.proofs.SideValues.{IsNumberValue}

-- ---- the elements of a number type are numbers

abbrev IsNum : Elem → Type 0
IsNum x = (z : ℤ) × (x ≡ Num z)

under-number : (domains : List (List Elem)) (p : Parent) (x : Elem) → IsNumberParent p → IsUnder domains p x → IsNum x
under-number domains Root x h u = absurd h
under-number domains Int x h u = u
under-number domains Nat x h u = (pos u.0, u.1)
under-number domains (Of t) x h u = absurd h

module _ (v : Vocabulary) (domains : List (List Elem)) (given : AreDomainsOf v domains) where
  domain-of : (t : ℕ) (d : TypeDecl) → slice_get v.types t ≡ Some d → IsDomainOf domains d (domain_at domains t)
  domain-of t d at =
      let found = each-at (IsDomainOf domains) v.types domains t d given at in
      subst (λ o. IsDomainOf domains d (unwrap_or o [])) (sym found.1) found.2

  below-in : (t u : ℕ) (x : Elem) → IsBelow v t u → Contains (domain_at domains t) x → Contains (domain_at domains u) x
  below-in t u x (itself w) at = at
  below-in t u x (under a p c d declared parent below) at =
      let above = all_in (IsUnder domains d.parent) (domain_at domains a) (domain-of a d declared).parent x at in
      below-in p c x below (subst (λ q. IsUnder domains q x) parent above)

  number-element : (t : ℕ) (x : Elem) → IsNumberType v t → Contains (domain_at domains t) x → IsNum x
  number-element t x h at =
      let top = below-in t h.0 x h.1 at in
      let d = h.2.0 in
      under-number domains d.parent x h.2.2
      (all_in (IsUnder domains d.parent) (domain_at domains h.0) (domain-of h.0 d h.2.1).parent x top)

some-name : (names : List (List ℕ)) (n : ℕ) → n < length names → names ≡ [] → ⊥
some-name [] n h e = absurd (omega (arith, h))
some-name (q ∷ names) n h e = absurd cc

-- ---- rows

abbrev IsSumRow : List Lit × Option ℤ → Type 0
IsSumRow r = (z : ℤ) × (r.1 ≡ Some z)

abbrev AreNumbersRow : List Lit × List Denotation → Type 0
AreNumbersRow r = AllByRecursion IsNumberValue r.1

product-number : (ds : List Denotation) (w : ℤ) → AllByRecursion IsNumberValue ds
    → (z : ℤ) × (product_from w ds ≡ Some z)
product-number [] w h = (w, refl)
product-number (d ∷ ds) w h =
    let rest = product-number ds (w *ℤ h.0.0) h.1 in (rest.0, ap (λ y. product_from w (y ∷ ds)) h.0.1 ∙ rest.1)

module _ (b : GroundBase) (given : AreDomainsOf b.vocabulary b.domains) (scope : List ℕ) (e : List Elem)
    (types : HasTypes b.domains scope e) where
  in-numbers : (ty : ℕ) (rs : List (List Lit × Denotation)) → IsNumberType b.vocabulary ty
      → AllByRecursion (IsIn b.domains ty) rs → AllByRecursion IsNumberRow rs
  in-numbers ty [] h k = tt
  in-numbers ty (r ∷ rs) h k =
      let x = k.0 in
      let z = number-element b.vocabulary b.domains given ty x.0 h x.1 in
      ((z.0, x.2 ∙ ap denotation_of z.1), in-numbers ty rs h k.1)

  applied-numbers : (s : ℕ) (ts : TermTrees) (o : Option ℕ) → value_type_of b.vocabulary s ≡ o
      → IsNumeric b.vocabulary (option_map element_of o)
      → TermIsTyped b.vocabulary (IsIntegerIn b.domains) (application s ts) scope
      → AllByRecursion IsNumberRow (rows_of_term b (application s ts) e)
  applied-numbers s ts None is h typed = absurd h
  applied-numbers s ts (Some ty) is h typed =
      let t = application s ts in
      in-numbers ty (rows_of_term b t e) h
      (of-type b scope e types ty t (ty, is, λ x at. at) (typed-term b.vocabulary b.domains given t scope typed))

  mutual
    pub number-rows : (t : TermTree) → TermIsTyped b.vocabulary (IsIntegerIn b.domains) t scope
        → IsNumeric b.vocabulary (sort_of b.vocabulary t scope) → AllByRecursion IsNumberRow (rows_of_term b t e)
    number-rows (variable n) typed numeric =
        let is = subst (λ o. IsNumeric b.vocabulary (option_map element_of o)) typed.1 numeric in
        in-numbers typed.0 (rows_of_term b (variable n) e) is
        (of-type b scope e types typed.0 (variable n) (typed.0, typed.1, λ x at. at) tt)
    number-rows (integer z) typed numeric = ((z, refl), tt)
    number-rows (constructed ty n) typed numeric =
        let d = typed.0 in
        let domain = domain-of b.vocabulary b.domains given ty d typed.1 in
        let names : domain_at b.domains ty ≡ map Named d.made = domain.names (some-name d.made n typed.2) in
        let size = ap length names ∙ length-map d.made Named in
        let inside = typed.2 in
        in-numbers ty (rows_of_term b (constructed ty n) e) numeric
        (of-type b scope e types ty (constructed ty n) (omega (arith, size, inside), λ x at. at) tt)
    number-rows (application s ts) typed numeric =
        applied-numbers s ts (value_type_of b.vocabulary s) refl numeric typed
    number-rows (summation ss) typed numeric =
        all-mapped IsSumRow IsNumberRow (λ r. (r.0, number_value r.1)) (λ r h. (h.0, ap number_value h.1))
        (rows_of_sum b ss e) (sum-rows ss typed)
    number-rows (product ts) typed numeric =
        all-mapped AreNumbersRow IsNumberRow (λ r. (r.0, number_value (product_from (pos 1) r.1)))
        (λ r h. let z = product-number r.1 (pos 1) h in (z.0, ap number_value z.1)) (rows_of_terms b ts e)
        (factor-rows ts typed)
    number-rows (aggregate k bs f t) typed numeric = ((pos 0, refl), tt)

    sum-rows : (ss : SummandTrees) → OperandsAreTyped b.vocabulary (IsIntegerIn b.domains) ss scope
        → AllByRecursion IsSumRow (rows_of_sum b ss e)
    sum-rows no_summands typed = ((pos 0, refl), tt)
    sum-rows (more_summands minus t ss) typed =
        let rest = sum-rows ss typed.2 in
        all-flat IsNumberRow IsSumRow
        (λ (x : List Lit × Denotation). map (λ y. (x.0 ++ y.0, summand_plus minus x.1 y.1)) (rows_of_sum b ss e))
        (λ x h. all-mapped IsSumRow IsSumRow (λ y. (x.0 ++ y.0, summand_plus minus x.1 y.1))
        (λ y k. (
          signed_of minus h.0 +ℤ k.0,
          ap (λ d. summand_plus minus d y.1) h.1
              ∙ ap (summand_plus minus (number h.0)) k.1,
        )) (rows_of_sum b ss e) rest)
        (rows_of_term b t e) (number-rows t typed.0 typed.1)

    factor-rows : (ts : TermTrees) → FactorsAreTyped b.vocabulary (IsIntegerIn b.domains) ts scope
        → AllByRecursion AreNumbersRow (rows_of_terms b ts e)
    factor-rows no_terms typed = (tt, tt)
    factor-rows (more_terms t ts) typed =
        let rest = factor-rows ts typed.2 in
        all-flat IsNumberRow AreNumbersRow
        (λ (x : List Lit × Denotation). map (λ y. (x.0 ++ y.0, x.1 ∷ y.1)) (rows_of_terms b ts e))
        (λ x h. all-mapped AreNumbersRow AreNumbersRow (λ y. (x.0 ++ y.0, x.1 ∷ y.1)) (λ y k. (h, k))
        (rows_of_terms b ts e) rest) (rows_of_term b t e) (number-rows t typed.0 typed.1)

  -- a well typed number without aggregates
  pub number-term-is : (t : TermTree) → TermIsTyped b.vocabulary (IsIntegerIn b.domains) t scope
      → IsNumeric b.vocabulary (sort_of b.vocabulary t scope) → TermHasNoCounting t → IsNumberTerm b t e
  number-term-is t typed numeric none = record {
    term = ground-term b (IsIntegerIn b.domains) t scope typed none;
    rows = number-rows t typed numeric;
  }
