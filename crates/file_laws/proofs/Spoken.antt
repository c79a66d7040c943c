-- Typed trees that can be spoken, put together from parts that can.
use Rattle.std.proofs.Common.{◌≡◌, ◌≢◌, ◌<◌, ◌^◌, ℕ, pos, true, false, List, [], ◌∷◌, ◌++◌, length}
use Rattle.std.proofs.Common.{refl}
use Rattle.std.specs.Prelude.{⊤}
use Rattle.std.specs.List.{AllByRecursion}
use Rattle.kb_logic.specs.declared.syntax.AggKind.{AggKind}
use Rattle.kb_logic.specs.declared.syntax.AggKind.TheVariants as kind
use Rattle.kb_logic.specs.declared.syntax.Cmp.{Cmp}
use Rattle.kb_logic.specs.declared.vocabularies.Bound.{Bound}
use Rattle.kb_logic.specs.declared.vocabularies.Vocabulary.{Vocabulary}
use Rattle.kb_logic.specs.Trees as tree
use Rattle.kb_logic.specs.Trees.{TermTree, TermTrees, SummandTrees, FormulaTree, FormulaTrees}
use Rattle.kb_logic.specs.Typing.{HaveTypes}
use Rattle.printed_texts.specs.Names.{IsName}
use Rattle.stage_definitions.specs.Names.{Names, meaning_of}
use Rattle.stage_definitions.specs.Numbering.{type_number}
use Rattle.stage_definitions.specs.Scopes.{Text}
use Rattle.stage_definitions.specs.TypedTrees.{integer_of}
use Rattle.printed_texts.specs.Formulas.{Fm, Tm, IsFm, AreFms, IsTm, AreTms, AreOthers, AreSummands, AreFactors}
use Rattle.printed_texts.specs.Formulas.{AreBinders, CountsBy}
use Rattle.printed_texts.specs.FormulaPrints.{type_word, bound_names}
use Rattle.printed_texts.specs.Speaking.{sign_of, speak_bounds, speak_fm, speak_more, speak_tm, speak_tms, speak_others}
use Rattle.printed_texts.specs.Speaking.{speak_summands, speak_factors, SaidBounds, Said, SaidAll, SaidTerm, SaidTerms}
use Rattle.printed_texts.specs.Speaking.{SaidSummands}

-- some, and not none
abbrev pub HasFormula : FormulaTrees → Type 0
HasFormula tree.no_formulas = ⊥
HasFormula (tree.more_formulas f fs) = ⊤

abbrev pub HasTerm : TermTrees → Type 0
HasTerm tree.no_terms = ⊥
HasTerm (tree.more_terms t ts) = ⊤

abbrev pub HasSummand : SummandTrees → Type 0
HasSummand tree.no_summands = ⊥
HasSummand (tree.more_summands m t ss) = ⊤

-- the names of variables can be written
abbrev pub AreNamed : List Bound → Type 0
AreNamed bs = AllByRecursion (λ b. IsName b.name) bs

-- an aggregate with a weight of its own
abbrev pub IsWeighed : AggKind → Type 0
IsWeighed kind.Count = ⊥
IsWeighed kind.Sum = ⊤
IsWeighed kind.Min = ⊤
IsWeighed kind.Max = ⊤

module _ (v : Vocabulary) (names : Names) where
  -- ---- trees that can be spoken

  abbrev pub IsSpokenHere : List Text → FormulaTree → Type 0
  IsSpokenHere scope f = Said v names scope f × IsFm (speak_fm v scope f)

  abbrev pub AreSpokenHere : List Text → FormulaTrees → Type 0
  AreSpokenHere scope tree.no_formulas = ⊤
  AreSpokenHere scope (tree.more_formulas f fs) = IsSpokenHere scope f × AreSpokenHere scope fs

  abbrev pub TermIsSpoken : List Text → TermTree → Type 0
  TermIsSpoken scope t = SaidTerm v names scope t × IsTm (speak_tm v scope t)

  abbrev pub TermsAreSpoken : List Text → TermTrees → Type 0
  TermsAreSpoken scope tree.no_terms = ⊤
  TermsAreSpoken scope (tree.more_terms t ts) = TermIsSpoken scope t × TermsAreSpoken scope ts

  abbrev pub SummandsAreSpoken : List Text → SummandTrees → Type 0
  SummandsAreSpoken scope tree.no_summands = ⊤
  SummandsAreSpoken scope (tree.more_summands m t ss) = TermIsSpoken scope t × SummandsAreSpoken scope ss

  -- ---- lists

  module _ (scope : List Text) where
    said_all : (fs : FormulaTrees) → AreSpokenHere scope fs → SaidAll v names scope fs
    said_all tree.no_formulas h = tt
    said_all (tree.more_formulas f fs) h = (h.0.0, said_all fs h.1)

    are_fms : (x : Fm) (fs : FormulaTrees) → IsFm x → AreSpokenHere scope fs → AreFms (speak_more v scope x fs)
    are_fms x tree.no_formulas k h = k
    are_fms x (tree.more_formulas f fs) k h = (k, are_fms (speak_fm v scope f) fs h.0.1 h.1)

    pub said_terms : (ts : TermTrees) → TermsAreSpoken scope ts → SaidTerms v names scope ts
    said_terms tree.no_terms h = tt
    said_terms (tree.more_terms t ts) h = (h.0.0, said_terms ts h.1)

    are_others : (ts : TermTrees) → TermsAreSpoken scope ts → AreOthers (speak_others v scope ts)
    are_others tree.no_terms h = tt
    are_others (tree.more_terms t ts) h = (h.0.1, are_others ts h.1)

    pub are_tms : (ts : TermTrees) → TermsAreSpoken scope ts → AreTms (speak_tms v scope ts)
    are_tms tree.no_terms h = tt
    are_tms (tree.more_terms t ts) h = (h.0.1, are_others ts h.1)

    are_factors : (x : Tm) (ts : TermTrees) → IsTm x → TermsAreSpoken scope ts → AreFactors (speak_factors v scope x ts)
    are_factors x tree.no_terms k h = k
    are_factors x (tree.more_terms t ts) k h = (k, are_factors (speak_tm v scope t) ts h.0.1 h.1)

    said_summands : (ss : SummandTrees) → SummandsAreSpoken scope ss → SaidSummands v names scope ss
    said_summands tree.no_summands h = tt
    said_summands (tree.more_summands m t ss) h = (h.0.0, said_summands ss h.1)

    are_summands : (ss : SummandTrees) → SummandsAreSpoken scope ss → AreSummands (speak_summands v scope ss)
    are_summands tree.no_summands h = tt
    are_summands (tree.more_summands m t ss) h = (h.0.1, are_summands ss h.1)

    -- ---- connectives and arithmetic

    pub both_spoken : (f : FormulaTree) (fs : FormulaTrees) → IsSpokenHere scope f → AreSpokenHere scope fs
        → HasFormula fs
        → IsSpokenHere scope (tree.conjunction (tree.more_formulas f fs))
    both_spoken f tree.no_formulas h k some = absurd some
    both_spoken f (tree.more_formulas g gs) h k some =
        ((h.0, k.0.0, said_all gs k.1), (h.1, are_fms (speak_fm v scope g) gs k.0.1 k.1))

    pub one_spoken : (f : FormulaTree) (fs : FormulaTrees) → IsSpokenHere scope f → AreSpokenHere scope fs
        → HasFormula fs
        → IsSpokenHere scope (tree.disjunction (tree.more_formulas f fs))
    one_spoken f tree.no_formulas h k some = absurd some
    one_spoken f (tree.more_formulas g gs) h k some =
        ((h.0, k.0.0, said_all gs k.1), (h.1, are_fms (speak_fm v scope g) gs k.0.1 k.1))

    pub product_spoken : (t : TermTree) (ts : TermTrees) → TermIsSpoken scope t → TermsAreSpoken scope ts → HasTerm ts
        → TermIsSpoken scope (tree.product (tree.more_terms t ts))
    product_spoken t tree.no_terms h k some = absurd some
    product_spoken t (tree.more_terms u us) h k some =
        ((h.0, k.0.0, said_terms us k.1), (h.1, are_factors (speak_tm v scope u) us k.0.1 k.1))

    pub sum_spoken : (t : TermTree) (ss : SummandTrees) → TermIsSpoken scope t → SummandsAreSpoken scope ss
        → HasSummand ss
        → TermIsSpoken scope (tree.summation (tree.more_summands false t ss))
    sum_spoken t tree.no_summands h k some = absurd some
    sum_spoken t (tree.more_summands m u ss) h k some =
        ((h.0, (k.0.0, said_summands ss k.1)), (tt, h.1, (k.0.1, are_summands ss k.1)))

    pub negative_spoken : (t : TermTree) → TermIsSpoken scope t
        → TermIsSpoken scope (tree.summation (tree.more_summands true t tree.no_summands))
    negative_spoken t h = ((h.0, tt), (tt, h.1, tt))

  -- ---- variables, where the name of each type means the type and can be written

  module _ (again : (t : ℕ) → t < length v.types → type_number (meaning_of names (type_word v t)) ≡ t)
      (written : (t : ℕ) → t < length v.types → IsName (type_word v t)) where
    said_bounds : (bs : List Bound) → HaveTypes v bs → SaidBounds v names bs
    said_bounds [] h = tt
    said_bounds (b ∷ bs) h = (again b.ty h.0, said_bounds bs h.1)

    are_binders : (b : Bound) (bs : List Bound) → AreNamed (b ∷ bs) → HaveTypes v (b ∷ bs)
        → AreBinders (speak_bounds v b bs)
    are_binders b [] n h = (n.0, written b.ty h.0)
    are_binders b (d ∷ ds) n h = ((n.0, written b.ty h.0), are_binders d ds n.1 h.1)

    module _ (scope : List Text) where
      pub every_spoken : (bs : List Bound) (f : FormulaTree) → bs ≢ [] → AreNamed bs → HaveTypes v bs
          → IsSpokenHere (scope ++ bound_names bs) f → IsSpokenHere scope (tree.universal bs f)
      every_spoken [] f some n h k = absurd (some refl)
      every_spoken (b ∷ bs) f some n h k = ((said_bounds (b ∷ bs) h, k.0), (are_binders b bs n h, k.1))

      pub some_spoken : (bs : List Bound) (f : FormulaTree) → bs ≢ [] → AreNamed bs → HaveTypes v bs
          → IsSpokenHere (scope ++ bound_names bs) f → IsSpokenHere scope (tree.existential bs f)
      some_spoken [] f some n h k = absurd (some refl)
      some_spoken (b ∷ bs) f some n h k = ((said_bounds (b ∷ bs) h, k.0), (are_binders b bs n h, k.1))

      pub so_many_spoken : (c : Cmp) (n : ℕ) (bs : List Bound) (f : FormulaTree) → CountsBy (sign_of c)
          → (integer_of n ≡ n) → n < 2 ^ 63 → bs ≢ [] → AreNamed bs → HaveTypes v bs
          → IsSpokenHere (scope ++ bound_names bs) f → IsSpokenHere scope (tree.numbered c (pos n) bs f)
      so_many_spoken c n [] f counts same small some w h k = absurd (some refl)
      so_many_spoken c n (b ∷ bs) f counts same small some w h k =
          ((same, said_bounds (b ∷ bs) h, k.0), (counts, small, are_binders b bs w h, k.1))

      pub count_spoken : (bs : List Bound) (f : FormulaTree) → bs ≢ [] → AreNamed bs → HaveTypes v bs
          → IsSpokenHere (scope ++ bound_names bs) f
          → TermIsSpoken scope (tree.aggregate kind.Count bs f (tree.integer (pos (integer_of 1))))
      count_spoken [] f some n h k = absurd (some refl)
      count_spoken (b ∷ bs) f some n h k =
          ((refl, said_bounds (b ∷ bs) h, k.0, refl), (are_binders b bs n h, k.1))

      pub aggregate_spoken : (how : AggKind) (bs : List Bound) (f : FormulaTree) (t : TermTree)
          → IsWeighed how → bs ≢ []
          → AreNamed bs → HaveTypes v bs → IsSpokenHere (scope ++ bound_names bs) f
          → TermIsSpoken (scope ++ bound_names bs) t → TermIsSpoken scope (tree.aggregate how bs f t)
      aggregate_spoken how [] f t w some n h k g = absurd (some refl)
      aggregate_spoken kind.Count (b ∷ bs) f t w some n h k g = absurd w
      aggregate_spoken kind.Sum (b ∷ bs) f t w some n h k g =
          ((tt, said_bounds (b ∷ bs) h, k.0, g.0), (are_binders b bs n h, k.1, g.1))
      aggregate_spoken kind.Min (b ∷ bs) f t w some n h k g =
          ((tt, said_bounds (b ∷ bs) h, k.0, g.0), (are_binders b bs n h, k.1, g.1))
      aggregate_spoken kind.Max (b ∷ bs) f t w some n h k g =
          ((tt, said_bounds (b ∷ bs) h, k.0, g.0), (are_binders b bs n h, k.1, g.1))
