-- A text has one list of tokens, or one first refusal.
use Rattle.std.proofs.Common.{◌≡◌, ℕ, ◌+◌, List, [], ◌∷◌, take, drop, Some, None, Ok, Err, refl, sym, ap, subst, ◌∙◌}
use Rattle.kb_text.specs.declared.fault.K.{K}
use Rattle.kb_text.specs.declared.fault.KbFault.{KbFault}
use Rattle.kb_text.specs.declared.token.Kind.{Kind}
use Rattle.kb_text.specs.Depth.{Around, after_token}
use Rattle.kb_text.specs.Pieces.{Piece, IsGap, IsLongest}
use Rattle.kb_text.specs.Tokens.{IsTokenAt, NoTokenAt, Lexeme, lexeme, Outcome, refusal_of, TokensFrom, nothing, gap}
use Rattle.kb_text.specs.Tokens.{token, token_before, refused, stuck}
use Rattle.kb_text.proofs.Fronts.{same_length, same_token, same_cause, gap_or_token, no_gap, no_token}
use Rattle.kb_text.proofs.Fronts.{no_token_in_nothing, no_piece_in_nothing}

refusal : K → ℕ → KbFault
refusal c p = record { cause = c; place = p }

-- what goes on after this token
Behind : Around → ℕ → ℕ → List ℕ → Kind → Outcome → Type 0
Behind s p n bytes k (Ok us) = (ts : List Lexeme) × (us ≡ lexeme bytes p k n ∷ ts) × TokensFrom
    (after_token s k (take n bytes)) (p + n) (drop n bytes) (Ok ts)
Behind s p n bytes k (Err f) = TokensFrom (after_token s k (take n bytes)) (p + n) (drop n bytes) (Err f)

module _ (s : Around) (p : ℕ) where
  from_end : (r : Outcome) → TokensFrom s p [] r → r ≡ Ok []
  from_end r nothing = refl
  from_end r (gap {n = m} {x = y} g h rest) = absurd (no_piece_in_nothing y m h)
  from_end r (token m j h fits rest) = absurd (no_token_in_nothing s.layer.in_braces j m h)
  from_end r (token_before m j h fits rest) = absurd (no_token_in_nothing s.layer.in_braces j m h)
  from_end r (refused m j h why) = absurd (no_token_in_nothing s.layer.in_braces j m h)

  from_gap : (n : ℕ) (bytes : List ℕ) (x : Piece) (r : Outcome) → IsGap x → IsLongest bytes x n → TokensFrom s p bytes r
      → TokensFrom s (p + n) (drop n bytes) r
  from_gap n bytes x r g l nothing = absurd (no_piece_in_nothing x n l)
  from_gap n bytes x r g l (gap {n = m} {x = y} h k rest) = subst (λ (i : ℕ). TokensFrom s (p + i) (drop i bytes) r)
      (same_length bytes y x m n k l) rest
  from_gap n bytes x r g l (token m j h fits rest) = absurd (gap_or_token s.layer.in_braces bytes x j n m g l h)
  from_gap n bytes x r g l (token_before m j h fits rest) = absurd (gap_or_token s.layer.in_braces bytes x j n m g l h)
  from_gap n bytes x r g l (refused m j h why) = absurd (gap_or_token s.layer.in_braces bytes x j n m g l h)
  from_gap n bytes x r g l (stuck {c = c} none) = absurd (no_gap s.layer.in_braces bytes x n c g l none)

  from_token : (n : ℕ) (bytes : List ℕ) (k : Kind) (r : Outcome) → refusal_of s k (take n bytes) (drop n bytes) ≡ None
      → IsTokenAt s.layer.in_braces bytes k n → TokensFrom s p bytes r → Behind s p n bytes k r
  unfolding Behind
  from_token n bytes k r fits l nothing = absurd (no_token_in_nothing s.layer.in_braces k n l)
  from_token n bytes k r fits l (gap {n = m} {x = y} g h rest) =
      absurd (gap_or_token s.layer.in_braces bytes y k m n g h l)
  from_token n bytes k r fits l (token {ts = ts} m j h fits' rest) = let e =
      same_token s.layer.in_braces bytes k j n m l h in rw (e.0, e.1) (ts, refl, rest)
  from_token n bytes k r fits l (token_before m j h fits' rest) = let e =
      same_token s.layer.in_braces bytes k j n m l h in rw (e.0, e.1) rest
  from_token n bytes k r fits l (refused m j h why) = absurd (let e = same_token s.layer.in_braces bytes k j n m l h in
      let same = rw (e.0, e.1) at fits in let f = sym same ∙ why in cc)
  from_token n bytes k r fits l (stuck {c = c} none) = absurd (no_token s.layer.in_braces bytes k n c l none)

  from_refused : (n : ℕ) (bytes : List ℕ) (k : Kind) (c : K) (r : Outcome) → refusal_of s k (take n bytes)
      (drop n bytes) ≡ Some c → IsTokenAt s.layer.in_braces bytes k n → TokensFrom s p bytes r → r ≡ Err (refusal c p)
  unfolding refusal
  from_refused n bytes k c r why l nothing = absurd (no_token_in_nothing s.layer.in_braces k n l)
  from_refused n bytes k c r why l (gap {n = m} {x = y} g h rest) =
      absurd (gap_or_token s.layer.in_braces bytes y k m n g h l)
  from_refused n bytes k c r why l (token m j h fits rest) = absurd (let e =
      same_token s.layer.in_braces bytes k j n m l h in let same = rw (e.0, e.1) at why in let f = sym same
      ∙ fits in cc)
  from_refused n bytes k c r why l (token_before m j h fits rest) =
      absurd (let e = same_token s.layer.in_braces bytes k j n m l h in let same = rw (e.0, e.1) at why in let f =
      sym same ∙ fits in cc)
  from_refused n bytes k c r why l (refused {c = d} m j h why') =
      let e = same_token s.layer.in_braces bytes k j n m l h in
      let same = rw (e.0, e.1) at why in
      let f = sym same ∙ why' in
      let cause : d ≡ c = cc in
      ap (λ (a : K). Err (record { cause = a; place = p })) cause
  from_refused n bytes k c r why l (stuck {c = d} none) = absurd (no_token s.layer.in_braces bytes k n d l none)

  from_stuck : (b : ℕ) (bs : List ℕ) (c : K) (r : Outcome) → NoTokenAt s.layer.in_braces (b ∷ bs) c
      → TokensFrom s p (b ∷ bs) r → r ≡ Err (refusal c p)
  unfolding refusal
  from_stuck b bs c r none (gap {n = m} {x = y} g h rest) = absurd (no_gap s.layer.in_braces (b ∷ bs) y m c g h none)
  from_stuck b bs c r none (token m j h fits rest) = absurd (no_token s.layer.in_braces (b ∷ bs) j m c h none)
  from_stuck b bs c r none (token_before m j h fits rest) = absurd (no_token s.layer.in_braces (b ∷ bs) j m c h none)
  from_stuck b bs c r none (refused m j h why) = absurd (no_token s.layer.in_braces (b ∷ bs) j m c h none)
  from_stuck b bs c r none (stuck {c = d} none') = ap (λ (a : K). Err (record { cause = a; place = p }))
      (same_cause s.layer.in_braces (b ∷ bs) d c none' none)

pub only : {s : Around} {p : ℕ} {bytes : List ℕ} {r : Outcome} → TokensFrom s p bytes r → (t : Outcome)
    → TokensFrom s p bytes t → r ≡ t
unfolding Behind refusal
only (nothing {s = s} {p = p}) t h = sym (from_end s p t h)
only (gap {s = s} {p = p} {n = n} {bytes = bytes} {x = x} g l rest) t h = only rest t (from_gap s p n bytes x t g l h)
only (token {s = s} {p = p} {bytes = bytes} {ts = ts} n k l fits rest) (Ok us) h =
    let b = from_token s p n bytes k (Ok us) fits l h in
    let e = only rest (Ok b.0) b.2 in
    let f : ts ≡ b.0 = cc in
    let g = b.1 in
    ap (λ (x : List Lexeme). Ok (lexeme bytes p k n ∷ x)) f ∙ ap (λ (x : List Lexeme). Ok x) (sym g)
only (token {s = s} {p = p} {bytes = bytes} n k l fits rest) (Err f) h = let e =
    only rest (Err f) (from_token s p n bytes k (Err f) fits l h) in absurd (cc)
only (token_before {s = s} {p = p} {bytes = bytes} n k l fits rest) (Ok us) h = let b =
    from_token s p n bytes k (Ok us) fits l h in let e = only rest (Ok b.0) b.2 in absurd (cc)
only (token_before {s = s} {p = p} {bytes = bytes} n k l fits rest) (Err g) h =
    only rest (Err g) (from_token s p n bytes k (Err g) fits l h)
only (refused {s = s} {p = p} {bytes = bytes} {c = c} n k l why) t h = sym (from_refused s p n bytes k c t why l h)
only (stuck {s = s} {p = p} {b = b} {bs = bs} {c = c} none) t h = sym (from_stuck s p b bs c t none h)
