-- Spans rise, each text is spelled as its kind asks, and no token is too deep.
use Rattle.std.proofs.Common.{◌≡◌, ℕ, zero, suc, ◌+◌, ◌-◌, ◌<◌, ◌≤◌, ◌^◌, Bool, false, List, ◌∷◌, length, take, drop}
use Rattle.std.proofs.Common.{Option, Some, None, refl, ap, inl, inr, arith, leb, length-drop}
use Rattle.std.specs.Prelude.{All, IfOk, slice_range, nat_lt, if◌then◌else◌}
use Rattle.std.proofs.lemmas.Bool.{cases_Bool}
use Rattle.std.proofs.lemmas.List.{drop-drop}
use Rattle.kb_text.specs.declared.fault.K.{K}
use Rattle.kb_text.specs.declared.token.Kind.{Kind}
use Rattle.kb_text.specs.declared.token.Kind.TheVariants.{Word, Int, Sign, Procedure}
use Rattle.kb_text.specs.declared.fault.K.TheVariants.{TooDeep}
use Rattle.kb_text.specs.Depth.{Around, outermost, depth_of}
use Rattle.kb_text.specs.Tokens.{AreShallow, IsTokenAt, IsSpelled, IsSpellingOf, Lexeme, lexeme, Outcome, SpansRise}
use Rattle.kb_text.specs.Tokens.{TokensFrom, nothing, gap, token, token_before, refused, stuck, decimal, is_too_large}
use Rattle.kb_text.specs.Tokens.{own_refusal_of, first_refusal, refusal_of}
use Rattle.kb_text.proofs.Fronts.{token_length, token_within}

-- ---- spans

module _ (src : List ℕ) where
  step_within : (p n : ℕ) (bytes : List ℕ) → bytes ≡ drop p src → p ≤ length src → n ≤ length bytes → p + n ≤ length src
  step_within p n bytes e le fits = let same : length bytes ≡ length (drop p src) = ap length e in
      omega (arith, length-drop p src)

  step_drops : (p n : ℕ) (bytes : List ℕ) → bytes ≡ drop p src → drop n bytes ≡ drop (p + n) src
  step_drops p n bytes e = rw e (drop-drop n p src)

  text_of_span : (p n : ℕ) (bytes : List ℕ) → bytes ≡ drop p src → take n bytes ≡ slice_range src p (p + n)
  text_of_span p n bytes e = let count : n ≡ (p + n) - p = omega arith in rw (e, ← count) refl

  spans_rise : {s : Around} {p : ℕ} {bytes : List ℕ} {r : Outcome} → TokensFrom s p bytes r → bytes ≡ drop p src
      → p ≤ length src → (from : ℕ) → from ≤ p → IfOk r (SpansRise from src)
  spans_rise nothing e le from behind = tt
  spans_rise (gap {p = p} {n = n} {bytes = bytes} g l rest) e le from behind = spans_rise rest (step_drops p n bytes e)
      (step_within p n bytes e le l.within) from (omega arith)
  spans_rise (token {s = s} {p = p} {bytes = bytes} n k l fits rest) e le from behind =
      let within = step_within p n bytes e le (token_within s.layer.in_braces bytes k n l) in (
        behind,
        omega (arith, token_length s.layer.in_braces bytes k n l),
        within,
        text_of_span p n bytes e,
        spans_rise rest (step_drops p n bytes e) within (p + n) (omega arith),
      )
  spans_rise (token_before n k l fits rest) e le from behind = tt
  spans_rise (refused n k l why) e le from behind = tt
  spans_rise (stuck none) e le from behind = tt

  pub spans_from : {r : Outcome} → TokensFrom outermost 0 src r → IfOk r (SpansRise 0 src)
  spans_from h = spans_rise h refl (omega arith) 0 (omega arith)

-- ---- spelling

pub token_spells : (in_braces : Bool) (bytes : List ℕ) (k : Kind) (n : ℕ) → IsTokenAt in_braces bytes k n
    → IsSpellingOf k (take n bytes)
token_spells in_braces bytes Word n h = h.0.piece
token_spells in_braces bytes Int n h = h.piece
token_spells in_braces bytes Sign n h = h.piece
token_spells in_braces bytes Procedure n h = tt

-- nothing refuses it, so it does not for its own sake
own_is_none : (own later : Option K) → first_refusal own later ≡ None → own ≡ None
own_is_none None later e = refl
own_is_none (Some c) later e = absurd (cc)

in_range : (text behind : List ℕ) → own_refusal_of Int text behind ≡ None → decimal text < 2 ^ 63
in_range text behind e =
    elim (cases_Bool (is_too_large text)) [
      | inl large ↦ absurd (let f = rw large at e in cc)
      | inr fits ↦ below (decimal text) fits
    ]
  where
    below : (n : ℕ) → leb (2 ^ 63) n ≡ false → n < 2 ^ 63
    below n fits = grind (arith, fits)

pub token_spelled : (s : Around) (p : ℕ) (bytes : List ℕ) (k : Kind) (n : ℕ) → IsTokenAt s.layer.in_braces bytes k n
    → refusal_of s k (take n bytes) (drop n bytes) ≡ None → IsSpelled (lexeme bytes p k n)
token_spelled s p bytes k n is fits =
    let range : k ≡ Int → decimal (take n bytes) < 2 ^ 63 = λ e. in_range (take n bytes) (drop n bytes) (let own =
    own_is_none (own_refusal_of k (take n bytes) (drop n bytes)) _ fits in rw e at own) in
    (token_spells s.layer.in_braces bytes k n is, range)

all_more : (t : Lexeme) (ts : List Lexeme) → IsSpelled t → All IsSpelled ts → All IsSpelled (t ∷ ts)
all_more t ts first rest zero d lt = first
all_more t ts first rest (suc k) d lt = rest k d (omega arith)

pub spelled_from : {s : Around} {p : ℕ} {bytes : List ℕ} {r : Outcome} → TokensFrom s p bytes r → IfOk r (All IsSpelled)
spelled_from nothing = λ k d lt. absurd (omega arith)
spelled_from (gap g l rest) = spelled_from rest
spelled_from (token {s = s} {p = p} {bytes = bytes} {ts = ts} n k l fits rest) =
    all_more (lexeme bytes p k n) ts (token_spelled s p bytes k n l fits) (spelled_from rest)
spelled_from (token_before n k l fits rest) = tt
spelled_from (refused n k l why) = tt
spelled_from (stuck none) = tt

-- ---- depth

not_deep : (own : Option K) (d : ℕ) → first_refusal own (if nat_lt 200 d then Some TooDeep else None) ≡ None → d ≤ 200
not_deep (Some c) d e = absurd (cc)
not_deep None d e =
    elim (cases_Bool (nat_lt 200 d)) [
      | inl deep ↦ absurd (let f = rw deep at e in cc)
      | inr fits ↦ grind (arith, fits)
    ]

pub shallow_from : {s : Around} {p : ℕ} {bytes : List ℕ} {r : Outcome} → TokensFrom s p bytes r → IfOk r (AreShallow s)
shallow_from nothing = tt
shallow_from (gap g l rest) = shallow_from rest
shallow_from (token {s = s} {bytes = bytes} n k l fits rest) =
    (not_deep (own_refusal_of k (take n bytes) (drop n bytes)) (depth_of s) fits, shallow_from rest)
shallow_from (token_before n k l fits rest) = tt
shallow_from (refused n k l why) = tt
shallow_from (stuck none) = tt
