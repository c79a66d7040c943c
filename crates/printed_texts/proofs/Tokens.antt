-- The tokens of what is written are those of its parts.
use Rattle.std.proofs.Common.{◌≡◌, ℕ, ◌+◌, ◌≤◌, Bool, true, false, List, [], ◌∷◌, ◌++◌, length, take, drop, None, Ok}
use Rattle.std.proofs.Common.{Err, refl, ap, arith, codes, length-append}
use Rattle.std.specs.Prelude.{not, nat_lt}
use Rattle.std.specs.Str.{bytes_eq}
use Rattle.std.proofs.lemmas.Bool.{and_parts}
use Rattle.std.proofs.lemmas.List.{append-nil}
use Rattle.kb_text.specs.declared.token.Kind.{Kind}
use Rattle.kb_text.specs.declared.token.Kind.TheVariants.{Word, Int, Sign, Procedure}
use Rattle.kb_text.specs.declared.fault.K.TheVariants.{TooDeep}
use Rattle.kb_text.specs.Bytes.{class_of, is_word_byte, is_digit_byte}
use Rattle.kb_text.specs.Depth.{Around, outermost, depth_of, after_token}
use Rattle.kb_text.specs.Procedures.{begins_procedure}
use Rattle.kb_text.specs.Tokens.{Lexeme, lexeme, IsTokenAt, TokensFrom, AreShallow, nothing, gap as over, token}
use Rattle.kb_text.specs.Tokens.{token_before, refused, Outcome, own_refusal_of, refusal_of, is_unsupported}
use Rattle.kb_text.specs.Tokens.{is_too_large}
use Rattle.kb_text.proofs.Pieces.{blank_found}
use Rattle.printed_texts.specs.Written.{Part, gap, piece, text_of, text_with, lexemes_at, goes_on, stands, are_apart}
use Rattle.printed_texts.specs.Written.{after_all, with_first, outcome_at, is_word, is_number, is_space_class}
use Rattle.printed_texts.proofs.Fronts.{not_true, is_space, word_run, word_longest, number_longest, sign_longest}

take_front : (xs ys : List ℕ) → take (length xs) (xs ++ ys) ≡ xs
take_front [] ys = refl
take_front (x ∷ xs) ys = ap (λ (zs : List ℕ). x ∷ zs) (take_front xs ys)

drop_front : (xs ys : List ℕ) → drop (length xs) (xs ++ ys) ≡ ys
drop_front [] ys = refl
drop_front (x ∷ xs) ys = drop_front xs ys

-- a word that is no procedure's, wherever it stands
no_procedure : (in_braces : Bool) (text behind : List ℕ) → is_word text ≡ true → goes_on is_word_byte behind ≡ false
    → bytes_eq text (codes "procedure") ≡ false → begins_procedure in_braces (text ++ behind) ≡ false
no_procedure true text behind e ends other = refl
no_procedure false text behind e ends other = rw (word_run text behind e ends, take_front text behind) other

-- a token, and nothing for its own sake refuses it
pub record StandsAt (in_braces : Bool) (k : Kind) (text behind : List ℕ) : Type 0 where
  pub at : IsTokenAt in_braces (text ++ behind) k (length text)
  pub fits : own_refusal_of k text behind ≡ None

stood : (in_braces : Bool) (k : Kind) (text behind : List ℕ) → stands (piece k text) behind ≡ true
    → StandsAt in_braces k text behind
stood in_braces Word text behind e =
    let a = and_parts (is_word text) _ e in
    let b = and_parts (not (goes_on is_word_byte behind)) _ a.1 in
    let c = and_parts (not (is_unsupported text behind)) _ b.1 in
    let ends = not_true (goes_on is_word_byte behind) b.0 in
    record {
      at = (word_longest text behind a.0 ends, no_procedure in_braces text behind a.0 ends (not_true _ c.1));
      fits = rw (not_true (is_unsupported text behind) c.0) refl;
    }
stood in_braces Int text behind e =
    let a = and_parts (is_number text) _ e in
    let b = and_parts (not (goes_on is_digit_byte behind)) _ a.1 in
    record {
      at = number_longest text behind a.0 (not_true (goes_on is_digit_byte behind) b.0);
      fits = rw (not_true (is_too_large text) b.1) refl;
    }
stood in_braces Sign text behind e = record { at = sign_longest text behind e; fits = refl }
stood in_braces Procedure text behind e = absurd (cc)

not_deep : (d : ℕ) → d ≤ 200 → nat_lt 200 d ≡ false
not_deep d le = grind (arith, le)

shallow_by : (d : ℕ) → nat_lt 200 d ≡ false → d ≤ 200
shallow_by d e = grind (arith, e)

-- so it is not refused
not_refused : (s : Around) (k : Kind) (text behind : List ℕ) → own_refusal_of k text behind ≡ None → depth_of s ≤ 200
    → refusal_of s k text behind ≡ None
not_refused s k text behind own shallow = rw (own, not_deep (depth_of s) shallow) refl

-- one token, and what comes after it
one_token : (s : Around) (p : ℕ) (k : Kind) (text behind : List ℕ) (ts : List Lexeme)
    → StandsAt s.layer.in_braces k text behind → depth_of s ≤ 200
    → TokensFrom (after_token s k text) (p + length text) behind (Ok ts)
    → TokensFrom s p (text ++ behind) (Ok (record { kind = k; text = text; start = p; stop = p + length text } ∷ ts))
one_token s p k text behind ts here shallow rest =
    let front = take_front text behind in
    let back = drop_front text behind in
    let fits : refusal_of s k (take (length text) (text ++ behind)) (drop (length text) (text ++ behind)) ≡ None =
    rw (front, back) (not_refused s k text behind here.fits shallow) in
    let on : TokensFrom (after_token s k (take (length text) (text ++ behind))) (p + length text)
    (drop (length text) (text ++ behind)) (Ok ts) = rw (front, back) rest in
    let whole : TokensFrom s p (text ++ behind) (Ok (lexeme (text ++ behind) p k (length text) ∷ ts)) =
    token (length text) k here.at fits on in
    rw front at whole

pub go_on : (s : Around) (p : ℕ) (xs : List Part) (behind : List ℕ) (ts : List Lexeme) → are_apart xs behind ≡ true
    → AreShallow s (lexemes_at p xs) → (q : ℕ) → q ≡ p + length (text_of xs)
    → TokensFrom (after_all s (lexemes_at p xs)) q behind (Ok ts)
    → TokensFrom s p (text_with xs behind) (Ok (lexemes_at p xs ++ ts))
go_on s p [] behind ts apart shallow q e rest = let same : q ≡ p = omega arith in rw same at rest
go_on s p (gap b ∷ xs) behind ts apart shallow q e rest =
    let both = and_parts (is_space_class (class_of b)) (are_apart xs behind) apart in
    over tt (blank_found (b ∷ text_with xs behind) (omega arith) (is_space (class_of b) both.0))
    (go_on s (p + 1) xs behind ts both.1 shallow q (omega arith) rest)
go_on s p (piece k text ∷ xs) behind ts apart shallow q e rest =
    let both = and_parts (stands (piece k text) (text_with xs behind)) (are_apart xs behind) apart in
    let more = go_on (after_token s k text) (p + length text) xs behind ts both.1 shallow.1 q
    (omega (arith, e, length-append text (text_of xs))) rest in
    one_token s p k text (text_with xs behind) (lexemes_at (p + length text) xs ++ ts)
    (stood s.layer.in_braces k text (text_with xs behind) both.0) shallow.0 more

pub whole : (xs : List Part) → are_apart xs [] ≡ true → AreShallow outermost (lexemes_at 0 xs)
    → TokensFrom outermost 0 (text_of xs) (Ok (lexemes_at 0 xs))
whole xs apart shallow =
    let all = go_on outermost 0 xs [] [] apart shallow (0 + length (text_of xs)) refl nothing in
    rw append-nil at all

-- ---- whatever the depth

too_deep : (s : Around) (p : ℕ) (k : Kind) (text behind : List ℕ) → StandsAt s.layer.in_braces k text behind
    → nat_lt 200 (depth_of s) ≡ true → TokensFrom s p (text ++ behind) (Err (record { cause = TooDeep; place = p }))
too_deep s p k text behind here deep =
    refused (length text) k here.at (rw (take_front text behind, drop_front text behind) (rw (here.fits, deep) refl))

then_token : (s : Around) (p : ℕ) (k : Kind) (text behind : List ℕ) (r : Outcome)
    → StandsAt s.layer.in_braces k text behind → nat_lt 200 (depth_of s) ≡ false
    → TokensFrom (after_token s k text) (p + length text) behind r
    → TokensFrom s p (text ++ behind)
    (with_first (record { kind = k; text = text; start = p; stop = p + length text }) r)
then_token s p k text behind (Ok ts) here fits rest =
    one_token s p k text behind ts here (shallow_by (depth_of s) fits) rest
then_token s p k text behind (Err f) here fits rest =
    let front = take_front text behind in
    let back = drop_front text behind in
    token_before (length text) k here.at (rw (front, back) (rw (here.fits, fits) refl)) (rw (front, back) rest)

pub scanned : (s : Around) (p : ℕ) (xs : List Part) → are_apart xs [] ≡ true
    → TokensFrom s p (text_of xs) (outcome_at s p xs)
scanned s p [] apart = nothing
scanned s p (gap b ∷ xs) apart =
    let both = and_parts (is_space_class (class_of b)) (are_apart xs []) apart in
    over tt (blank_found (b ∷ text_of xs) (omega arith) (is_space (class_of b) both.0)) (scanned s (p + 1) xs both.1)
scanned s p (piece k text ∷ xs) apart =
    let both = and_parts (stands (piece k text) (text_of xs)) (are_apart xs []) apart in
    by_depth both.0 (scanned (after_token s k text) (p + length text) xs both.1) (nat_lt 200 (depth_of s)) refl
  where
    by_depth : stands (piece k text) (text_of xs) ≡ true
        → TokensFrom (after_token s k text) (p + length text) (text_of xs)
        (outcome_at (after_token s k text) (p + length text) xs) → (b : Bool) → nat_lt 200 (depth_of s) ≡ b
        → TokensFrom s p (text_of (piece k text ∷ xs)) (outcome_at s p (piece k text ∷ xs))
    by_depth here rest true e =
        rw e (too_deep s p k text (text_of xs) (stood s.layer.in_braces k text (text_of xs) here) e)
    by_depth here rest false e =
        rw e (then_token s p k text (text_of xs) (outcome_at (after_token s k text) (p + length text) xs)
        (stood s.layer.in_braces k text (text_of xs) here) e rest)

pub shallow_read : (s : Around) (p : ℕ) (xs : List Part) → AreShallow s (lexemes_at p xs)
    → outcome_at s p xs ≡ Ok (lexemes_at p xs)
shallow_read s p [] shallow = refl
shallow_read s p (gap b ∷ xs) shallow = shallow_read s (p + 1) xs shallow
shallow_read s p (piece k text ∷ xs) shallow =
    rw (not_deep (depth_of s) shallow.0, shallow_read (after_token s k text) (p + length text) xs shallow.1) refl
