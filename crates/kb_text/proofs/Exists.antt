-- Each text has an answer.
use Rattle.std.proofs.Common.{◌≡◌, ℕ, zero, suc, ◌+◌, ◌<◌, Bool, true, false, List, [], ◌∷◌, length, take, drop, Option}
use Rattle.std.proofs.Common.{Some, None, Ok, Err, refl, sym, inl, inr, arith, eqb, length-drop}
use Rattle.std.specs.List.{prefix_len}
use Rattle.std.proofs.lemmas.Bool.{cases_Bool, eqb-true}
use Rattle.kb_text.specs.declared.bytes.Class.{Class}
use Rattle.kb_text.specs.declared.bytes.Class.TheVariants.{Space, Letter, Digit, Mark, Slash, Refused, Unknown}
use Rattle.kb_text.specs.declared.fault.K.{K}
use Rattle.kb_text.specs.declared.fault.K.TheVariants.{Syntax, Unsupported}
use Rattle.kb_text.specs.declared.procedure.Step.{Step}
use Rattle.kb_text.specs.declared.procedure.Step.TheVariants.{Last, Stop, Next}
use Rattle.kb_text.specs.declared.token.Kind.{Kind}
use Rattle.kb_text.specs.declared.token.Kind.TheVariants.{Word, Int, Sign, Procedure}
use Rattle.kb_text.specs.Bytes.{class_of, is_pair, is_triple, is_digit_byte}
use Rattle.kb_text.specs.Ends.{later_by, close_of}
use Rattle.kb_text.specs.Depth.{Around, outermost, after_token}
use Rattle.kb_text.specs.Pieces.{Piece, Blank, LineComment, BlockComment, SignText, IsGap, IsLongest}
use Rattle.kb_text.specs.Procedures.{passage_at, step_of, FitsIn, ClosesAfter, last, stops, passes, begins_procedure}
use Rattle.kb_text.specs.Procedures.{word_end}
use Rattle.kb_text.specs.Tokens.{IsTokenAt, NoTokenAt, lexeme, Outcome, refusal_of, TokensFrom, nothing, gap, token}
use Rattle.kb_text.specs.Tokens.{token_before, refused, stuck}
use Rattle.kb_text.proofs.Exact.{only}
use Rattle.kb_text.proofs.Fronts.{piece_length, token_length}
use Rattle.kb_text.proofs.Passages.{step_fits}
use Rattle.kb_text.proofs.Pieces.{word_opened, digits_found, blank_found, refused_found, unknown_found, one_sign}
use Rattle.kb_text.proofs.Pieces.{two_sign, three_sign, line_longest, block_longest, unclosed, lone_slash}

-- ---- procedures

Ends : ℕ → List ℕ → Type 0
Ends d bytes = (r : Option ℕ) × ClosesAfter d bytes r

ends_step : (d : ℕ) (bytes : List ℕ) → ((e : ℕ) (rest : List ℕ) → length rest < length bytes → Ends e rest) → (s : Step)
    → step_of d (passage_at bytes) ≡ s → Ends d bytes
unfolding Ends
ends_step d bytes again Last e = (Some 1, last e)
ends_step d bytes again Stop e = (None, stops e)
ends_step d bytes again (Next next n) e =
    let fits : FitsIn d bytes (Next next n) = rw e at (step_fits d bytes) in
    let rest = again next (drop n bytes) (omega (arith, fits.1, fits.2, length-drop n bytes)) in
    (later_by n rest.0, passes next n e rest.1)

ends_by : (fuel d : ℕ) (bytes : List ℕ) → length bytes < fuel → Ends d bytes
ends_by zero d bytes few = absurd (omega arith)
ends_by (suc fuel) d bytes few = ends_step d bytes (λ e rest shorter. ends_by fuel e rest (omega (arith, few, shorter)))
    (step_of d (passage_at bytes)) refl

-- ---- the start

data Front (in_braces : Bool) (bytes : List ℕ) : Type 0 where
  front_gap : (x : Piece) (n : ℕ) → IsGap x → IsLongest bytes x n → Front in_braces bytes
  front_token : (k : Kind) (n : ℕ) → IsTokenAt in_braces bytes k n → Front in_braces bytes
  front_none : (c : K) → NoTokenAt in_braces bytes c → Front in_braces bytes

module _ (in_braces : Bool) (b : ℕ) (bs : List ℕ) where
  word_front : class_of b ≡ Letter → Front in_braces (b ∷ bs)
  unfolding Ends
  word_front e =
      elim (cases_Bool (begins_procedure in_braces (b ∷ bs))) [
        | inl begins ↦
            let bytes = drop (word_end (b ∷ bs)) (b ∷ bs) in
            let end = ends_by (suc (length bytes)) 0 bytes (omega arith) in
            by_end begins end.0 end.1
        | inr plain ↦ front_token Word (word_end (b ∷ bs)) (word_opened (b ∷ bs) e, plain)
      ]
    where
      by_end : begins_procedure in_braces (b ∷ bs) ≡ true → (r : Option ℕ)
          → ClosesAfter 0 (drop (word_end (b ∷ bs)) (b ∷ bs)) r → Front in_braces (b ∷ bs)
      by_end begins (Some m) end = front_token Procedure (word_end (b ∷ bs) + m) (begins, (m, end, refl))
      by_end begins None end = front_none Syntax (inr (begins, end, refl))

sign_front : (b : ℕ) (bs : List ℕ) → class_of b ≡ Mark → (n : ℕ) × IsLongest (b ∷ bs) SignText n
sign_front b [] e = (1, one_sign (b ∷ []) e (λ lt. absurd (omega arith)) (λ lt. absurd (omega arith)))
sign_front b (c ∷ []) e =
    elim (cases_Bool (is_pair b c)) [
      | inl pair ↦ (2, two_sign (b ∷ c ∷ []) e (omega arith) pair (λ lt. absurd (omega arith)))
      | inr none ↦ (1, one_sign (b ∷ c ∷ []) e (λ lt. none) (λ lt. absurd (omega arith)))
    ]
sign_front b (c ∷ d ∷ ds) e =
    elim (cases_Bool (is_triple b c d)) [
      | inl triple ↦ (3, three_sign (b ∷ c ∷ d ∷ ds) e (omega arith) triple)
      | inr no_triple ↦ elim (cases_Bool (is_pair b c)) [
        | inl pair ↦ (2, two_sign (b ∷ c ∷ d ∷ ds) e (omega arith) pair (λ lt. no_triple))
        | inr none ↦ (1, one_sign (b ∷ c ∷ d ∷ ds) e (λ lt. none) (λ lt. no_triple))
      ]
    ]

slash_front : (in_braces : Bool) (b : ℕ) (bs : List ℕ) → class_of b ≡ Slash → Front in_braces (b ∷ bs)
slash_front in_braces b [] e = front_none Unsupported (inl (lone_slash (b ∷ []) e (λ lt f. omega arith)
    (λ lt f. omega arith)))
slash_front in_braces b (c ∷ bs) e =
    elim (cases_Bool (eqb c 47)) [
      | inl line ↦ front_gap LineComment _ tt (line_longest (b ∷ c ∷ bs) e (omega arith) (eqb-true c 47 line))
      | inr no_line ↦ elim (cases_Bool (eqb c 42)) [
        | inl block ↦ by_close (eqb-true c 42 block) (close_of 42 47 bs) refl
        | inr no_block ↦ front_none Unsupported (inl (lone_slash (b ∷ c ∷ bs) e (λ lt f. differs c 47 no_line f)
            (λ lt f. differs c 42 no_block f)))
      ]
    ]
  where
    differs : (x y : ℕ) → eqb x y ≡ false → x ≡ y → ⊥
    differs x y apart f = grind (arith, apart, f)

    by_close : c ≡ 42 → (o : Option ℕ) → close_of 42 47 bs ≡ o → Front in_braces (b ∷ c ∷ bs)
    by_close star (Some n) found = front_gap BlockComment (n + 2) tt
        (block_longest (b ∷ c ∷ bs) n e (omega arith) star found)
    by_close star None found = front_none Syntax (inl (unclosed (b ∷ c ∷ bs) e (omega arith) star found))

front_of : (in_braces : Bool) (b : ℕ) (bs : List ℕ) (c : Class) → class_of b ≡ c → Front in_braces (b ∷ bs)
front_of in_braces b bs Space e = front_gap Blank 1 tt (blank_found (b ∷ bs) (omega arith) e)
front_of in_braces b bs Letter e = word_front in_braces b bs e
front_of in_braces b bs Digit e = front_token Int (prefix_len is_digit_byte (b ∷ bs))
    (digits_found (b ∷ bs) (omega arith) e)
front_of in_braces b bs Mark e = let sign = sign_front b bs e in front_token Sign sign.0 sign.1
front_of in_braces b bs Slash e = slash_front in_braces b bs e
front_of in_braces b bs Refused e = front_none Unsupported (inl (refused_found (b ∷ bs) (omega arith) e))
front_of in_braces b bs Unknown e = front_none Syntax (inl (unknown_found (b ∷ bs) (omega arith) e))

-- ---- the text

Answer : Around → ℕ → List ℕ → Type 0
Answer s p bytes = (r : Outcome) × TokensFrom s p bytes r

with_token : (s : Around) (p : ℕ) (bytes : List ℕ) (k : Kind) (n : ℕ) → IsTokenAt s.layer.in_braces bytes k n
    → refusal_of s k (take n bytes) (drop n bytes) ≡ None → Answer (after_token s k (take n bytes)) (p + n)
    (drop n bytes) → Answer s p bytes
unfolding Answer
with_token s p bytes k n h fits (Ok ts, rest) = (Ok (lexeme bytes p k n ∷ ts), token n k h fits rest)
with_token s p bytes k n h fits (Err f, rest) = (Err f, token_before n k h fits rest)

module _ (b : ℕ) (bs : List ℕ) (s : Around) (p : ℕ) (again : (s : Around) (p : ℕ) (rest : List ℕ)
    → length rest < length (b ∷ bs) → Answer s p rest) where
  by_refusal : (k : Kind) (n : ℕ) → IsTokenAt s.layer.in_braces (b ∷ bs) k n → (o : Option K)
      → refusal_of s k (take n (b ∷ bs)) (drop n (b ∷ bs)) ≡ o → Answer s p (b ∷ bs)
  unfolding Answer
  by_refusal k n h None fits = with_token s p (b ∷ bs) k n h fits (again (after_token s k (take n (b ∷ bs))) (p + n)
      (drop n (b ∷ bs)) (omega (arith, token_length s.layer.in_braces (b ∷ bs) k n h, length-drop n (b ∷ bs))))
  by_refusal k n h (Some c) why = (Err (record { cause = c; place = p }), refused n k h why)

  by_front : Front s.layer.in_braces (b ∷ bs) → Answer s p (b ∷ bs)
  unfolding Answer
  by_front (front_gap x n g l) =
      let rest = again s (p + n) (drop n (b ∷ bs)) (omega (arith, piece_length (b ∷ bs) x n l, length-drop n (b ∷ bs)))
      in
      (rest.0, gap g l rest.1)
  by_front (front_token k n h) = by_refusal k n h (refusal_of s k (take n (b ∷ bs)) (drop n (b ∷ bs))) refl
  by_front (front_none c none) = (Err (record { cause = c; place = p }), stuck none)

answer_by : (fuel : ℕ) (s : Around) (p : ℕ) (bytes : List ℕ) → length bytes < fuel → Answer s p bytes
unfolding Answer
answer_by zero s p bytes few = absurd (omega arith)
answer_by (suc fuel) s p [] few = (Ok [], nothing)
answer_by (suc fuel) s p (b ∷ bs) few = by_front b bs s p (λ s' p' rest shorter. answer_by fuel s' p' rest
    (omega (arith, few, shorter))) (front_of s.layer.in_braces b bs (class_of b) refl)

-- one answer, and no other
pub exactly_one : (src : List ℕ) → (r : Outcome) × TokensFrom outermost 0 src r
    × ((t : Outcome) → TokensFrom outermost 0 src t → t ≡ r)
unfolding Answer
exactly_one src =
    let answer = answer_by (suc (length src)) outermost 0 src (omega arith) in
    (answer.0, answer.1, λ t h. sym (only answer.1 t h))
