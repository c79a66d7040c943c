-- The parts of a formula that is written are apart.
use Rattle.std.proofs.Common.{◌≡◌, ℕ, Bool, true, false, List, ◌∷◌, ◌++◌, refl, subst, arith}
use Rattle.std.specs.Prelude.{not, if◌then◌else◌, codes}
use Rattle.std.specs.Fmt.{decimal}
use Rattle.std.proofs.lemmas.Bool.{and_from}
use Rattle.kb_text.specs.declared.token.Kind.TheVariants.{Word}
use Rattle.kb_text.specs.Bytes.{class_of, is_pair}
use Rattle.kb_text.specs.Tokens.{is_unsupported, is_word_of, unsupported_chain_words, unsupported_call_words}
use Rattle.grammar.specs.declared.terminal.Comparison.{Comparison}
use Rattle.grammar.specs.declared.terminal.Comparison.TheVariants as cmp
use Rattle.grammar.specs.declared.terminal.Aggregation.{Aggregation}
use Rattle.grammar.specs.declared.terminal.Aggregation.TheVariants as how
use Rattle.printed_texts.specs.Written.{Part, piece, text_with, goes_on, is_word, is_number, word_stands}
use Rattle.printed_texts.specs.Written.{number_stands, sign_stands, are_apart}
use Rattle.printed_texts.proofs.Numbers.{written}
use Rattle.printed_texts.specs.Parts.{sign, space}
use Rattle.printed_texts.specs.Texts.{truth_text}
use Rattle.printed_texts.specs.Names.{IsName}
use Rattle.printed_texts.specs.Formulas.{Binder, binder, Binders, one_binder, more_binders, Fm, truth, atom, comparison}
use Rattle.printed_texts.specs.Formulas.{negation, conjunction, disjunction, implication, equivalence, universal}
use Rattle.printed_texts.specs.Formulas.{existential, numbered, Fms, one_fm, more_fms, Tm, application, integer}
use Rattle.printed_texts.specs.Formulas.{summation, product, count, aggregate, Tms, no_tms, some_tms, Others, no_others}
use Rattle.printed_texts.specs.Formulas.{more_others, Summands, no_summands, more_summands, Factors, one_factor}
use Rattle.printed_texts.specs.Formulas.{more_factors, cmp_text, aggregate_word, between, opened, write_binder}
use Rattle.printed_texts.specs.Formulas.{write_binders, add_text, write_fm, write_fms, write_tm, write_tms}
use Rattle.printed_texts.specs.Formulas.{write_others, write_summands, write_factors, IsBinder, AreBinders, IsFm}
use Rattle.printed_texts.specs.Formulas.{AreFms, IsTm, AreTms, AreOthers, AreSummands, AreFactors}
use Rattle.printed_texts.proofs.Apart.{Closes, name_stands, integer_stands, before_word, before_number, no_procedure}
use Rattle.printed_texts.proofs.Apart.{not_false, truth_stands}

-- ---- a name before a bracket

-- one of these words before another bracket
otherwise : (x y : Bool) → (if x then false else (if y then false else false)) ≡ false
otherwise true y = refl
otherwise false true = refl
otherwise false false = refl

before_round : (n behind : List ℕ) → IsName n → is_word_of unsupported_call_words n ≡ false
    → word_stands n (40 ∷ behind) ≡ true
unfolding class_of
before_round n behind h other =
    let read : is_unsupported n (40 ∷ behind) ≡ false =
    rw (h.read, other) (otherwise (is_word_of unsupported_chain_words n) false) in
    and_from (is_word n) _ h.word
    (and_from (not (is_unsupported n (40 ∷ behind))) _ (not_false _ read) (not_false _ (no_procedure n h)))

before_square : (n behind : List ℕ) → IsName n → is_word_of unsupported_chain_words n ≡ false
    → word_stands n (91 ∷ behind) ≡ true
unfolding class_of
before_square n behind h other =
    let read : is_unsupported n (91 ∷ behind) ≡ false =
    rw (h.read, other) (otherwise false (is_word_of unsupported_call_words n)) in
    and_from (is_word n) _ h.word
    (and_from (not (is_unsupported n (91 ∷ behind))) _ (not_false _ read) (not_false _ (no_procedure n h)))

-- a name and its opening bracket
round_apart : (n : List ℕ) (rest : List Part) (behind : List ℕ) → IsName n → are_apart rest behind ≡ true
    → are_apart (piece Word n ∷ opened unsupported_call_words (codes "(") n rest) behind ≡ true
unfolding class_of
round_apart n rest behind h apart = by_word (is_word_of unsupported_call_words n) refl
  where
    by_word : (b : Bool) → is_word_of unsupported_call_words n ≡ b
        → are_apart (piece Word n ∷ opened unsupported_call_words (codes "(") n rest) behind ≡ true
    by_word true e =
        let same : space ∷ sign (codes "(") ∷ rest ≡ opened unsupported_call_words (codes "(") n rest = rw e refl in
        subst (λ (xs : List Part). are_apart (piece Word n ∷ xs) behind ≡ true) same
        (and_from (word_stands n (32 ∷ 40 ∷ text_with rest behind)) _
        (name_stands n (32 ∷ 40 ∷ text_with rest behind) h refl) apart)
    by_word false e =
        let same : sign (codes "(") ∷ rest ≡ opened unsupported_call_words (codes "(") n rest = rw e refl in
        subst (λ (xs : List Part). are_apart (piece Word n ∷ xs) behind ≡ true) same
        (and_from (word_stands n (40 ∷ text_with rest behind)) _ (before_round n (text_with rest behind) h e) apart)

square_apart : (n : List ℕ) (rest : List Part) (behind : List ℕ) → IsName n → are_apart rest behind ≡ true
    → are_apart (piece Word n ∷ opened unsupported_chain_words (codes "[") n rest) behind ≡ true
unfolding class_of
square_apart n rest behind h apart = by_word (is_word_of unsupported_chain_words n) refl
  where
    by_word : (b : Bool) → is_word_of unsupported_chain_words n ≡ b
        → are_apart (piece Word n ∷ opened unsupported_chain_words (codes "[") n rest) behind ≡ true
    by_word true e =
        let same : space ∷ sign (codes "[") ∷ rest ≡ opened unsupported_chain_words (codes "[") n rest = rw e refl in
        subst (λ (xs : List Part). are_apart (piece Word n ∷ xs) behind ≡ true) same
        (and_from (word_stands n (32 ∷ 91 ∷ text_with rest behind)) _
        (name_stands n (32 ∷ 91 ∷ text_with rest behind) h refl) apart)
    by_word false e =
        let same : sign (codes "[") ∷ rest ≡ opened unsupported_chain_words (codes "[") n rest = rw e refl in
        subst (λ (xs : List Part). are_apart (piece Word n ∷ xs) behind ≡ true) same
        (and_from (word_stands n (91 ∷ text_with rest behind)) _
        (before_square n (text_with rest behind) h e) apart)

-- ---- variables and signs

binder_apart : (x : Binder) → IsBinder x → (rest : List Part) (behind : List ℕ) → are_apart rest behind ≡ true
    → are_apart (write_binder x rest) behind ≡ true
unfolding class_of
binder_apart (binder n ty) h rest behind apart =
    square_apart n (piece Word ty ∷ sign (codes "]") ∷ rest) behind h.0
    (and_from (word_stands ty (93 ∷ text_with rest behind)) _
    (name_stands ty (93 ∷ text_with rest behind) h.1 refl) apart)

binders_apart : (xs : Binders) → AreBinders xs → (rest : List Part) (behind : List ℕ) → are_apart rest behind ≡ true
    → are_apart (write_binders xs rest) behind ≡ true
unfolding class_of
binders_apart (one_binder x) h rest behind apart = binder_apart x h rest behind apart
binders_apart (more_binders x xs) h rest behind apart =
    binder_apart x h.0 (space ∷ write_binders xs rest) behind (binders_apart xs h.1 rest behind apart)

cmp_stands : (c : Comparison) (bs : List ℕ) → sign_stands (cmp_text c) (32 ∷ bs) ≡ true
unfolding class_of
cmp_stands cmp.Equal bs = refl
cmp_stands cmp.NotEqual bs = refl
cmp_stands cmp.Less bs = refl
cmp_stands cmp.Greater bs = refl
cmp_stands cmp.AtMost bs = refl
cmp_stands cmp.AtLeast bs = refl

cmp_apart : (c : Comparison) (rest : List Part) (behind : List ℕ) → are_apart rest behind ≡ true
    → are_apart (between (cmp_text c) rest) behind ≡ true
unfolding class_of
cmp_apart c rest behind apart = and_from (sign_stands (cmp_text c) (32 ∷ text_with rest behind)) _
    (cmp_stands c (text_with rest behind)) apart

cmp_number : (c : Comparison) (n bs : List ℕ) → is_number n ≡ true → sign_stands (cmp_text c) (n ++ bs) ≡ true
unfolding class_of
cmp_number cmp.Equal n bs e = before_number 61 n bs e
cmp_number cmp.NotEqual n bs e = refl
cmp_number cmp.Less n bs e = before_number 60 n bs e
cmp_number cmp.Greater n bs e = before_number 62 n bs e
cmp_number cmp.AtMost n bs e = refl
cmp_number cmp.AtLeast n bs e = refl

add_apart : (m : Bool) (rest : List Part) (behind : List ℕ) → are_apart rest behind ≡ true
    → are_apart (between (add_text m) rest) behind ≡ true
unfolding class_of
add_apart true rest behind apart = apart
add_apart false rest behind apart = apart

add_closes : (m : Bool) (rest : List Part) (behind : List ℕ) → Closes (text_with (between (add_text m) rest) behind)
unfolding class_of
add_closes m rest behind = refl

aggregate_stands : (a : Aggregation) (bs : List ℕ) → word_stands (aggregate_word a) (123 ∷ bs) ≡ true
unfolding class_of
aggregate_stands how.Sum bs = refl
aggregate_stands how.Min bs = refl
aggregate_stands how.Max bs = refl

-- ---- after ~ and -

fm_front : (f : Fm) → IsFm f → (rest : List Part) (behind : List ℕ)
    → not (goes_on (is_pair 126) (text_with (write_fm f rest) behind)) ≡ true
fm_front (truth true) h rest behind = refl
fm_front (truth false) h rest behind = refl
fm_front (atom n ts) h rest behind = before_word 126 n (text_with (write_tms n ts rest) behind) h.0.word
fm_front (comparison c x y) h rest behind = refl
fm_front (negation f) h rest behind = refl
fm_front (conjunction f fs) h rest behind = refl
fm_front (disjunction f fs) h rest behind = refl
fm_front (implication f g) h rest behind = refl
fm_front (equivalence f g) h rest behind = refl
fm_front (universal vs f) h rest behind = refl
fm_front (existential vs f) h rest behind = refl
fm_front (numbered c n vs f) h rest behind = refl

tm_front : (x : Tm) → IsTm x → (rest : List Part) (behind : List ℕ)
    → not (goes_on (is_pair 45) (text_with (write_tm x rest) behind)) ≡ true
tm_front (application n ts) h rest behind = before_word 45 n (text_with (write_tms n ts rest) behind) h.0.word
tm_front (integer n) h rest behind =
    before_number 45 (decimal n) (text_with rest behind) (written n (omega arith)).number
tm_front (summation m x ss) h rest behind = refl
tm_front (product x fs) h rest behind = refl
tm_front (count vs f) h rest behind = refl
tm_front (aggregate how.Sum vs f x) h rest behind = refl
tm_front (aggregate how.Min vs f x) h rest behind = refl
tm_front (aggregate how.Max vs f x) h rest behind = refl

-- ---- formulas and terms

summands_close : (ss : Summands) (rest : List Part) (behind : List ℕ) → Closes (text_with rest behind)
    → Closes (text_with (write_summands ss rest) behind)
unfolding class_of
summands_close no_summands rest behind shut = shut
summands_close (more_summands m x ss) rest behind shut = refl

others_close : (xs : Others) (rest : List Part) (behind : List ℕ) → Closes (text_with rest behind)
    → Closes (text_with (write_others xs rest) behind)
unfolding class_of
others_close no_others rest behind shut = shut
others_close (more_others x xs) rest behind shut = refl

mutual
  unfolding class_of

  pub fm_parted : (f : Fm) → IsFm f → (rest : List Part) (behind : List ℕ) → Closes (text_with rest behind)
      → are_apart rest behind ≡ true → are_apart (write_fm f rest) behind ≡ true
  fm_parted (truth b) h rest behind shut apart = and_from (word_stands (truth_text b) (text_with rest behind)) _
      (truth_stands b (text_with rest behind) shut) apart
  fm_parted (atom n ts) h rest behind shut apart = tms_parted n h.0 ts h.1 rest behind shut apart
  fm_parted (comparison c x y) h rest behind shut apart =
      tm_parted x h.0 (between (cmp_text c) (write_tm y (sign (codes ")") ∷ rest))) behind refl
      (cmp_apart c (write_tm y (sign (codes ")") ∷ rest)) behind
      (tm_parted y h.1 (sign (codes ")") ∷ rest) behind refl apart))
  fm_parted (negation f) h rest behind shut apart =
      and_from (not (goes_on (is_pair 126) (text_with (write_fm f (sign (codes ")") ∷ rest)) behind))) _
      (fm_front f h (sign (codes ")") ∷ rest) behind)
      (fm_parted f h (sign (codes ")") ∷ rest) behind refl apart)
  fm_parted (conjunction f fs) h rest behind shut apart =
      fm_parted f h.0 (between (codes "&") (write_fms (codes "&") fs (sign (codes ")") ∷ rest))) behind refl
      (ands_parted fs h.1 (sign (codes ")") ∷ rest) behind refl apart)
  fm_parted (disjunction f fs) h rest behind shut apart =
      fm_parted f h.0 (between (codes "|") (write_fms (codes "|") fs (sign (codes ")") ∷ rest))) behind refl
      (ors_parted fs h.1 (sign (codes ")") ∷ rest) behind refl apart)
  fm_parted (implication f g) h rest behind shut apart =
      fm_parted f h.0 (between (codes "=>") (write_fm g (sign (codes ")") ∷ rest))) behind refl
      (fm_parted g h.1 (sign (codes ")") ∷ rest) behind refl apart)
  fm_parted (equivalence f g) h rest behind shut apart =
      fm_parted f h.0 (between (codes "<=>") (write_fm g (sign (codes ")") ∷ rest))) behind refl
      (fm_parted g h.1 (sign (codes ")") ∷ rest) behind refl apart)
  fm_parted (universal vs f) h rest behind shut apart =
      binders_apart vs h.0 (sign (codes ":") ∷ space ∷ write_fm f (sign (codes ")") ∷ rest)) behind
      (fm_parted f h.1 (sign (codes ")") ∷ rest) behind refl apart)
  fm_parted (existential vs f) h rest behind shut apart =
      binders_apart vs h.0 (sign (codes ":") ∷ space ∷ write_fm f (sign (codes ")") ∷ rest)) behind
      (fm_parted f h.1 (sign (codes ")") ∷ rest) behind refl apart)
  fm_parted (numbered c n vs f) h rest behind shut apart =
      let inside : List Part = write_binders vs (sign (codes ":") ∷ space ∷ write_fm f (sign (codes ")") ∷ rest)) in
      let number = (written n (omega arith)).number in
      and_from (sign_stands (cmp_text c) (decimal n ++ (32 ∷ text_with inside behind))) _
      (cmp_number c (decimal n) (32 ∷ text_with inside behind) number)
      (and_from (number_stands (decimal n) (32 ∷ text_with inside behind)) _
      (integer_stands n (32 ∷ text_with inside behind) h.1 refl)
      (binders_apart vs h.2 (sign (codes ":") ∷ space ∷ write_fm f (sign (codes ")") ∷ rest)) behind
      (fm_parted f h.3 (sign (codes ")") ∷ rest) behind refl apart)))

  ands_parted : (fs : Fms) → AreFms fs → (rest : List Part) (behind : List ℕ) → Closes (text_with rest behind)
      → are_apart rest behind ≡ true → are_apart (write_fms (codes "&") fs rest) behind ≡ true
  ands_parted (one_fm f) h rest behind shut apart = fm_parted f h rest behind shut apart
  ands_parted (more_fms f fs) h rest behind shut apart =
      fm_parted f h.0 (between (codes "&") (write_fms (codes "&") fs rest)) behind refl
      (ands_parted fs h.1 rest behind shut apart)

  ors_parted : (fs : Fms) → AreFms fs → (rest : List Part) (behind : List ℕ) → Closes (text_with rest behind)
      → are_apart rest behind ≡ true → are_apart (write_fms (codes "|") fs rest) behind ≡ true
  ors_parted (one_fm f) h rest behind shut apart = fm_parted f h rest behind shut apart
  ors_parted (more_fms f fs) h rest behind shut apart =
      fm_parted f h.0 (between (codes "|") (write_fms (codes "|") fs rest)) behind refl
      (ors_parted fs h.1 rest behind shut apart)

  tm_parted : (x : Tm) → IsTm x → (rest : List Part) (behind : List ℕ) → Closes (text_with rest behind)
      → are_apart rest behind ≡ true → are_apart (write_tm x rest) behind ≡ true
  tm_parted (application n ts) h rest behind shut apart = tms_parted n h.0 ts h.1 rest behind shut apart
  tm_parted (integer n) h rest behind shut apart = and_from (number_stands (decimal n) (text_with rest behind)) _
      (integer_stands n (text_with rest behind) h shut) apart
  tm_parted (summation true x ss) h rest behind shut apart =
      let more = write_summands ss (sign (codes ")") ∷ rest) in
      and_from (not (goes_on (is_pair 45) (text_with (write_tm x more) behind))) _ (tm_front x h.1 more behind)
      (tm_parted x h.1 more behind (summands_close ss (sign (codes ")") ∷ rest) behind refl)
      (summands_parted ss h.2 (sign (codes ")") ∷ rest) behind refl apart))
  tm_parted (summation false x ss) h rest behind shut apart =
      let more = write_summands ss (sign (codes ")") ∷ rest) in
      tm_parted x h.1 more behind (summands_close ss (sign (codes ")") ∷ rest) behind refl)
      (summands_parted ss h.2 (sign (codes ")") ∷ rest) behind refl apart)
  tm_parted (product x fs) h rest behind shut apart =
      tm_parted x h.0 (between (codes "*") (write_factors fs (sign (codes ")") ∷ rest))) behind refl
      (factors_parted fs h.1 (sign (codes ")") ∷ rest) behind refl apart)
  tm_parted (count vs f) h rest behind shut apart =
      binders_apart vs h.0 (sign (codes ":") ∷ space ∷ write_fm f (sign (codes "}") ∷ rest)) behind
      (fm_parted f h.1 (sign (codes "}") ∷ rest) behind refl apart)
  tm_parted (aggregate a vs f x) h rest behind shut apart =
      let inside : List Part =
      write_binders vs (sign (codes ":") ∷ space ∷ write_fm f
      (sign (codes ":") ∷ space ∷ write_tm x (sign (codes "}") ∷ rest))) in
      and_from (word_stands (aggregate_word a) (123 ∷ text_with inside behind)) _
      (aggregate_stands a (text_with inside behind))
      (binders_apart vs h.0 (sign (codes ":") ∷ space ∷ write_fm f
      (sign (codes ":") ∷ space ∷ write_tm x (sign (codes "}") ∷ rest))) behind
      (fm_parted f h.1 (sign (codes ":") ∷ space ∷ write_tm x (sign (codes "}") ∷ rest)) behind refl
      (tm_parted x h.2 (sign (codes "}") ∷ rest) behind refl apart)))

  tms_parted : (n : List ℕ) → IsName n → (ts : Tms) → AreTms ts → (rest : List Part) (behind : List ℕ)
      → Closes (text_with rest behind) → are_apart rest behind ≡ true
      → are_apart (piece Word n ∷ write_tms n ts rest) behind ≡ true
  tms_parted n name no_tms h rest behind shut apart =
      and_from (word_stands n (text_with rest behind)) _ (name_stands n (text_with rest behind) name shut) apart
  tms_parted n name (some_tms x xs) h rest behind shut apart =
      let more = write_others xs (sign (codes ")") ∷ rest) in
      round_apart n (write_tm x more) behind name
      (tm_parted x h.0 more behind (others_close xs (sign (codes ")") ∷ rest) behind refl)
      (others_parted xs h.1 (sign (codes ")") ∷ rest) behind refl apart))

  others_parted : (xs : Others) → AreOthers xs → (rest : List Part) (behind : List ℕ) → Closes (text_with rest behind)
      → are_apart rest behind ≡ true → are_apart (write_others xs rest) behind ≡ true
  others_parted no_others h rest behind shut apart = apart
  others_parted (more_others x xs) h rest behind shut apart =
      tm_parted x h.0 (write_others xs rest) behind (others_close xs rest behind shut)
      (others_parted xs h.1 rest behind shut apart)

  summands_parted : (ss : Summands) → AreSummands ss → (rest : List Part) (behind : List ℕ)
      → Closes (text_with rest behind) → are_apart rest behind ≡ true → are_apart (write_summands ss rest) behind ≡ true
  summands_parted no_summands h rest behind shut apart = apart
  summands_parted (more_summands m x ss) h rest behind shut apart =
      add_apart m (write_tm x (write_summands ss rest)) behind
      (tm_parted x h.0 (write_summands ss rest) behind (summands_close ss rest behind shut)
      (summands_parted ss h.1 rest behind shut apart))

  factors_parted : (fs : Factors) → AreFactors fs → (rest : List Part) (behind : List ℕ)
      → Closes (text_with rest behind) → are_apart rest behind ≡ true → are_apart (write_factors fs rest) behind ≡ true
  factors_parted (one_factor x) h rest behind shut apart = tm_parted x h rest behind shut apart
  factors_parted (more_factors x xs) h rest behind shut apart =
      tm_parted x h.0 (between (codes "*") (write_factors xs rest)) behind refl
      (factors_parted xs h.1 rest behind shut apart)
