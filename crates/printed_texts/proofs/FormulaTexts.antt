-- The parts of a formula make its text.
use Rattle.std.proofs.Common.{◌≡◌, ℕ, Bool, true, false, List, [], ◌++◌, refl, sym, ◌∙◌, append_assoc}
use Rattle.std.specs.Prelude.{codes}
use Rattle.std.proofs.lemmas.List.{append-nil}
use Rattle.kb_text.specs.Tokens.{is_word_of}
use Rattle.printed_texts.specs.Written.{Part, text_with, text_of}
use Rattle.printed_texts.specs.Formulas.{Binder, binder, Binders, one_binder, more_binders, Fm, truth, atom, comparison}
use Rattle.printed_texts.specs.Formulas.{negation, conjunction, disjunction, implication, equivalence, universal}
use Rattle.printed_texts.specs.Formulas.{existential, numbered, Fms, one_fm, more_fms, Tm, application, integer}
use Rattle.printed_texts.specs.Formulas.{summation, product, count, aggregate, Tms, no_tms, some_tms, Others, no_others}
use Rattle.printed_texts.specs.Formulas.{more_others, Summands, no_summands, more_summands, Factors, one_factor}
use Rattle.printed_texts.specs.Formulas.{more_factors, opened, write_binder, write_binders, write_fm, write_fms}
use Rattle.printed_texts.specs.Formulas.{write_tm, write_tms, write_others, write_summands, write_factors}
use Rattle.printed_texts.specs.FormulaTexts.{opened_text, binder_text, binders_text, fm_text, fms_text, tm_text}
use Rattle.printed_texts.specs.FormulaTexts.{tms_text, others_text, summands_text, factors_text}

opened_written : (words : List (List ℕ)) (text n : List ℕ) (rest : List Part) (z : List ℕ)
    → text_with (opened words text n rest) z ≡ opened_text words text n ++ text_with rest z
opened_written words text n rest z = by_word (is_word_of words n) refl
  where
    by_word : (b : Bool) → is_word_of words n ≡ b
        → text_with (opened words text n rest) z ≡ opened_text words text n ++ text_with rest z
    by_word true e = rw e refl
    by_word false e = rw e refl

binder_written : (x : Binder) (rest : List Part) (z : List ℕ)
    → text_with (write_binder x rest) z ≡ binder_text x ++ text_with rest z
binder_written (binder n ty) rest z = simp (append_assoc, opened_written)

binders_written : (xs : Binders) (rest : List Part) (z : List ℕ)
    → text_with (write_binders xs rest) z ≡ binders_text xs ++ text_with rest z
binders_written (one_binder x) rest z = binder_written x rest z
binders_written (more_binders x xs) rest z = simp (append_assoc, binder_written, binders_written xs)

mutual
  fm_written : (f : Fm) (rest : List Part) (z : List ℕ) → text_with (write_fm f rest) z ≡ fm_text f ++ text_with rest z
  fm_written (truth b) rest z = refl
  fm_written (atom n ts) rest z = simp (append_assoc, tms_written n ts)
  fm_written (comparison c x y) rest z = simp (append_assoc, tm_written x, tm_written y)
  fm_written (negation f) rest z = simp (append_assoc, fm_written f)
  fm_written (conjunction f fs) rest z = simp (append_assoc, fm_written f, fms_written (codes "&") fs)
  fm_written (disjunction f fs) rest z = simp (append_assoc, fm_written f, fms_written (codes "|") fs)
  fm_written (implication f g) rest z = simp (append_assoc, fm_written f, fm_written g)
  fm_written (equivalence f g) rest z = simp (append_assoc, fm_written f, fm_written g)
  fm_written (universal vs f) rest z = simp (append_assoc, binders_written, fm_written f)
  fm_written (existential vs f) rest z = simp (append_assoc, binders_written, fm_written f)
  fm_written (numbered c n vs f) rest z = simp (append_assoc, binders_written, fm_written f)

  fms_written : (text : List ℕ) (fs : Fms) (rest : List Part) (z : List ℕ)
      → text_with (write_fms text fs rest) z ≡ fms_text text fs ++ text_with rest z
  fms_written text (one_fm f) rest z = fm_written f rest z
  fms_written text (more_fms f fs) rest z = simp (append_assoc, fm_written f, fms_written text fs)

  tm_written : (x : Tm) (rest : List Part) (z : List ℕ) → text_with (write_tm x rest) z ≡ tm_text x ++ text_with rest z
  tm_written (application n ts) rest z = simp (append_assoc, tms_written n ts)
  tm_written (integer n) rest z = refl
  tm_written (summation true x ss) rest z = simp (append_assoc, tm_written x, summands_written ss)
  tm_written (summation false x ss) rest z = simp (append_assoc, tm_written x, summands_written ss)
  tm_written (product x fs) rest z = simp (append_assoc, tm_written x, factors_written fs)
  tm_written (count vs f) rest z = simp (append_assoc, binders_written, fm_written f)
  tm_written (aggregate a vs f x) rest z = simp (append_assoc, binders_written, fm_written f, tm_written x)

  tms_written : (n : List ℕ) (ts : Tms) (rest : List Part) (z : List ℕ)
      → text_with (write_tms n ts rest) z ≡ tms_text n ts ++ text_with rest z
  tms_written n no_tms rest z = refl
  tms_written n (some_tms x xs) rest z = simp (append_assoc, opened_written, tm_written x, others_written xs)

  others_written : (xs : Others) (rest : List Part) (z : List ℕ)
      → text_with (write_others xs rest) z ≡ others_text xs ++ text_with rest z
  others_written no_others rest z = refl
  others_written (more_others x xs) rest z = simp (append_assoc, tm_written x, others_written xs)

  summands_written : (ss : Summands) (rest : List Part) (z : List ℕ)
      → text_with (write_summands ss rest) z ≡ summands_text ss ++ text_with rest z
  summands_written no_summands rest z = refl
  summands_written (more_summands m x ss) rest z = simp (append_assoc, tm_written x, summands_written ss)

  factors_written : (fs : Factors) (rest : List Part) (z : List ℕ)
      → text_with (write_factors fs rest) z ≡ factors_text fs ++ text_with rest z
  factors_written (one_factor x) rest z = tm_written x rest z
  factors_written (more_factors x xs) rest z = simp (append_assoc, tm_written x, factors_written xs)

pub formula_written : (f : Fm) → fm_text f ≡ text_of (write_fm f [])
formula_written f = sym (fm_written f [] [] ∙ append-nil (fm_text f))
