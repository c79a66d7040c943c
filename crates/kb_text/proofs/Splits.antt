-- The scan goes on from one piece to the next.
use Rattle.std.proofs.Common.{◌≡◌, ℕ, ◌+◌, ◌<◌, ◌≤◌, List, [], ◌∷◌, ◌++◌, length, take, drop, Some, None, Ok, Err}
use Rattle.std.proofs.Common.{arith, append_assoc}
use Rattle.std.proofs.lemmas.List.{drop-drop, length-drop, append-nil, nil_from_length}
use Rattle.kb_text.specs.declared.fault.K.{K}
use Rattle.kb_text.specs.declared.token.Kind.{Kind}
use Rattle.kb_text.specs.Depth.{Around, outermost, after_token}
use Rattle.kb_text.specs.Pieces.{Piece, IsGap, IsLongest}
use Rattle.kb_text.specs.Tokens.{IsTokenAt, NoTokenAt, Lexeme, lexeme, Outcome, refusal_of, TokensFrom, nothing, gap}
use Rattle.kb_text.specs.Tokens.{token, token_before, refused, stuck}
use Rattle.kb_text.specs.Lexing.{after, Goes}
use Rattle.kb_text.proofs.Fronts.{token_within}

pub begins : (src : List ℕ) → Goes src outermost 0 []
begins src = record { within = omega arith; on = on }
  where
    on : (r : Outcome) → TokensFrom outermost 0 (drop 0 src) r → TokensFrom outermost 0 src (after [] r)
    on (Ok us) h = h
    on (Err f) h = h

drop_past : (xs : List ℕ) (i : ℕ) → length xs ≤ i → drop i xs ≡ []
drop_past xs i le = nil_from_length (drop i xs) (omega (arith, length-drop i xs))

module _ {src : List ℕ} {s : Around} {p : ℕ} {ts : List Lexeme} (so_far : Goes src s p ts) where
  pub over_gap : (x : Piece) (n : ℕ) → IsGap x → IsLongest (drop p src) x n → Goes src s (p + n) ts
  over_gap x n is_gap longest = record {
    within = let room = so_far.within in omega (arith, longest.within, length-drop p src);
    on = λ r h. so_far.on r (gap is_gap longest (rw drop-drop h));
  }

  module _ (k : Kind) (n : ℕ) (is_token : IsTokenAt s.layer.in_braces (drop p src) k n) where
    over_one : refusal_of s k (take n (drop p src)) (drop n (drop p src)) ≡ None → (r : Outcome)
        → TokensFrom (after_token s k (take n (drop p src))) (p + n) (drop n (drop p src)) r
        → TokensFrom outermost 0 src (after (ts ++ lexeme (drop p src) p k n ∷ []) r)
    over_one fits (Ok us) h = rw append_assoc (so_far.on (Ok (lexeme (drop p src) p k n ∷ us))
        (token n k is_token fits h))
    over_one fits (Err f) h = so_far.on (Err f) (token_before n k is_token fits h)

    pub over_token : refusal_of s k (take n (drop p src)) (drop n (drop p src)) ≡ None
        → Goes src (after_token s k (take n (drop p src))) (p + n) (ts ++ lexeme (drop p src) p k n ∷ [])
    over_token fits = record {
      within = let room = so_far.within in omega (
        arith,
        token_within s.layer.in_braces (drop p src) k n is_token,
        length-drop p src,
      );
      on = λ r h. over_one fits r (rw drop-drop h);
    }

    pub at_refused : (c : K) → refusal_of s k (take n (drop p src)) (drop n (drop p src)) ≡ Some c
        → TokensFrom outermost 0 src (Err (record { cause = c; place = p }))
    at_refused c why = so_far.on (Err (record { cause = c; place = p })) (refused n k is_token why)

  pub at_stuck : (c : K) → p < length src → NoTokenAt s.layer.in_braces (drop p src) c
      → TokensFrom outermost 0 src (Err (record { cause = c; place = p }))
  at_stuck c lt none = so_far.on (Err (record { cause = c; place = p }))
      (stuck_here (drop p src) (omega (arith, length-drop p src)) none)
    where
      stuck_here : (bytes : List ℕ) → 0 < length bytes → NoTokenAt s.layer.in_braces bytes c
          → TokensFrom s p bytes (Err (record { cause = c; place = p }))
      stuck_here [] lt none = absurd (omega arith)
      stuck_here (b ∷ bs) lt none = stuck none

  pub at_end : length src ≤ p → TokensFrom outermost 0 src (Ok ts)
  at_end le = let h = so_far.on (Ok []) (rw (drop_past src p le) nothing) in rw append-nil at h
