-- The texts of formulas and terms.
use Rattle.std.specs.Prelude.{ℕ, List, [], ◌++◌, Bool, true, false, if◌then◌else◌, codes}
use Rattle.std.specs.Fmt.{decimal}
use Rattle.kb_text.specs.Tokens.{is_word_of, unsupported_chain_words, unsupported_call_words}
use Rattle.printed_texts.specs.Texts.{truth_text}
use Rattle.printed_texts.specs.Formulas.{Binder, binder, Binders, one_binder, more_binders, Fm, truth, atom, comparison}
use Rattle.printed_texts.specs.Formulas.{negation, conjunction, disjunction, implication, equivalence, universal}
use Rattle.printed_texts.specs.Formulas.{existential, numbered, Fms, one_fm, more_fms, Tm, application, integer}
use Rattle.printed_texts.specs.Formulas.{summation, product, count, aggregate, Tms, no_tms, some_tms, Others, no_others}
use Rattle.printed_texts.specs.Formulas.{more_others, Summands, no_summands, more_summands, Factors, one_factor}
use Rattle.printed_texts.specs.Formulas.{more_factors, cmp_text, aggregate_word, add_text}

-- with a space on both sides
abbrev pub spaced_text : List ℕ → List ℕ
spaced_text text = codes " " ++ (text ++ codes " ")

abbrev pub opened_text : List (List ℕ) → List ℕ → List ℕ → List ℕ
opened_text words text n = if is_word_of words n then codes " " ++ text else text

abbrev pub binder_text : Binder → List ℕ
binder_text (binder n ty) = n ++ (opened_text unsupported_chain_words (codes "[") n ++ (ty ++ codes "]"))

abbrev pub binders_text : Binders → List ℕ
binders_text (one_binder x) = binder_text x
binders_text (more_binders x xs) = binder_text x ++ (codes " " ++ binders_text xs)

abbrev pub minus_text : Bool → List ℕ
minus_text true = codes "-"
minus_text false = []

abbrev mutual
  pub fm_text : Fm → List ℕ
  fm_text (truth b) = truth_text b
  fm_text (atom n ts) = n ++ tms_text n ts
  fm_text (comparison c x y) = codes "(" ++ (tm_text x ++ (spaced_text (cmp_text c) ++ (tm_text y ++ codes ")")))
  fm_text (negation f) = codes "(~" ++ (fm_text f ++ codes ")")
  fm_text (conjunction f fs) = codes "(" ++ (fm_text f ++ (codes " & " ++ (fms_text (codes "&") fs ++ codes ")")))
  fm_text (disjunction f fs) = codes "(" ++ (fm_text f ++ (codes " | " ++ (fms_text (codes "|") fs ++ codes ")")))
  fm_text (implication f g) = codes "(" ++ (fm_text f ++ (codes " => " ++ (fm_text g ++ codes ")")))
  fm_text (equivalence f g) = codes "(" ++ (fm_text f ++ (codes " <=> " ++ (fm_text g ++ codes ")")))
  fm_text (universal vs f) = codes "(!" ++ (binders_text vs ++ (codes ": " ++ (fm_text f ++ codes ")")))
  fm_text (existential vs f) = codes "(?" ++ (binders_text vs ++ (codes ": " ++ (fm_text f ++ codes ")")))
  fm_text (numbered c n vs f) =
      codes "(?" ++ (cmp_text c
      ++ (decimal n ++ (codes " " ++ (binders_text vs ++ (codes ": " ++ (fm_text f ++ codes ")"))))))

  pub fms_text : List ℕ → Fms → List ℕ
  fms_text text (one_fm f) = fm_text f
  fms_text text (more_fms f fs) = fm_text f ++ (spaced_text text ++ fms_text text fs)

  pub tm_text : Tm → List ℕ
  tm_text (application n ts) = n ++ tms_text n ts
  tm_text (integer n) = decimal n
  tm_text (summation m x ss) = codes "(" ++ (minus_text m ++ (tm_text x ++ (summands_text ss ++ codes ")")))
  tm_text (product x fs) = codes "(" ++ (tm_text x ++ (codes " * " ++ (factors_text fs ++ codes ")")))
  tm_text (count vs f) = codes "#{" ++ (binders_text vs ++ (codes ": " ++ (fm_text f ++ codes "}")))
  tm_text (aggregate a vs f x) =
      aggregate_word a ++ (codes "{"
      ++ (binders_text vs ++ (codes ": " ++ (fm_text f ++ (codes ": " ++ (tm_text x ++ codes "}"))))))

  pub tms_text : List ℕ → Tms → List ℕ
  tms_text n no_tms = []
  tms_text n (some_tms x xs) = opened_text unsupported_call_words (codes "(") n
      ++ (tm_text x ++ (others_text xs ++ codes ")"))

  pub others_text : Others → List ℕ
  others_text no_others = []
  others_text (more_others x xs) = codes "," ++ (tm_text x ++ others_text xs)

  pub summands_text : Summands → List ℕ
  summands_text no_summands = []
  summands_text (more_summands m x ss) = spaced_text (add_text m) ++ (tm_text x ++ summands_text ss)

  pub factors_text : Factors → List ℕ
  factors_text (one_factor x) = tm_text x
  factors_text (more_factors x xs) = tm_text x ++ (codes " * " ++ factors_text xs)
