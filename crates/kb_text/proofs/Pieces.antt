-- Each scan gives the longest piece at its place.
use Rattle.std.proofs.Common.{◌≡◌, ℕ, zero, suc, ◌+◌, ◌<◌, ◌≤◌, Bool, true, false, List, [], ◌∷◌, length, get_or, take}
use Rattle.std.proofs.Common.{drop, Some, None, refl, sym, subst, ◌⊎◌, ◌∙◌, inl, inr, arith}
use Rattle.std.specs.List.{list_all, prefix_len}
use Rattle.std.proofs.Math.Numerals.{one-add}
use Rattle.std.proofs.lemmas.Bool.{cases_Bool, and_parts, and_from, ne_eqb}
use Rattle.std.proofs.lemmas.List.Sums.{prefix_len-le-length}
use Rattle.kb_text.specs.declared.bytes.Class.{Class}
use Rattle.kb_text.specs.declared.bytes.Class.TheVariants.{Space, Letter, Digit, Mark, Slash, Refused, Unknown}
use Rattle.kb_text.specs.declared.fault.K.TheVariants.{Syntax, Unsupported}
use Rattle.kb_text.specs.Bytes.{class_of, is_word_byte, is_digit_byte, is_line_byte, is_pair, is_triple}
use Rattle.kb_text.specs.Ends.{close_of}
use Rattle.kb_text.specs.Pieces.{Piece, Blank, LineComment, BlockComment, WordText, IntText, SignText, IsSignTail}
use Rattle.kb_text.specs.Pieces.{IsPiece, IsLongest, NothingBegins, OpensWith, cause_at}
use Rattle.kb_text.proofs.Closes.{close_is, close_found}

-- the class of the byte that a piece begins with
unfoldable pub opens : Piece → Class
opens Blank = Space
opens LineComment = Slash
opens BlockComment = Slash
opens WordText = Letter
opens IntText = Digit
opens SignText = Mark

pub opens_with : (r : Piece) (b : ℕ) (bs : List ℕ) → IsPiece r (b ∷ bs) → class_of b ≡ opens r
unfolding opens
opens_with Blank b bs h = h.0
opens_with LineComment b bs h = h.0
opens_with BlockComment b bs h = h.0
opens_with WordText b bs h = h.0
opens_with IntText b bs h = h.0
opens_with SignText b bs h = h.0

-- a prefix of bytes that pass is no longer than their run
run_longest : (p : ℕ → Bool) (m : ℕ) (xs : List ℕ) → m ≤ length xs → list_all p (take m xs) ≡ true → m ≤ prefix_len p xs
run_longest p zero xs le h = omega arith
run_longest p (suc m) [] le h = absurd (omega arith)
run_longest p (suc m) (x ∷ xs) le h =
    let both = and_parts (p x) (list_all p (take m xs)) h in
    rw both.0 (omega (arith, run_longest p m xs (omega arith) both.1))

run_passes : (p : ℕ → Bool) (xs : List ℕ) → list_all p (take (prefix_len p xs) xs) ≡ true
run_passes p [] = refl
run_passes p (x ∷ xs) = elim (cases_Bool (p x)) [
  | inl hit ↦ rw (hit, one-add)
      (and_from (p x) (list_all p (take (prefix_len p xs) xs)) hit (run_passes p xs))
  | inr miss ↦ rw miss refl
]

module _ (b : ℕ) (bs : List ℕ) where
  word_only : class_of b ≡ Letter → (r : Piece) (m : ℕ) → m ≤ length (b ∷ bs) → IsPiece r (take m (b ∷ bs))
      → m ≤ suc (prefix_len is_word_byte bs)
  word_only e r zero le h = omega arith
  word_only e Blank (suc m) le h = absurd (let f = h.0 in cc)
  word_only e LineComment (suc m) le h = absurd (let f = h.0 in cc)
  word_only e BlockComment (suc m) le h = absurd (let f = h.0 in cc)
  word_only e WordText (suc m) le h = omega (arith, run_longest is_word_byte m bs (omega arith) h.1)
  word_only e IntText (suc m) le h = absurd (let f = h.0 in cc)
  word_only e SignText (suc m) le h = absurd (let f = h.0 in cc)

  word_longest : class_of b ≡ Letter → IsLongest (b ∷ bs) WordText (suc (prefix_len is_word_byte bs))
  word_longest e = record {
    within = omega (arith, prefix_len-le-length is_word_byte bs);
    piece = (e, run_passes is_word_byte bs);
    longest = word_only e;
  }

  digits_only : class_of b ≡ Digit → (r : Piece) (m : ℕ) → m ≤ length (b ∷ bs) → IsPiece r (take m (b ∷ bs))
      → m ≤ suc (prefix_len is_digit_byte bs)
  digits_only e r zero le h = omega arith
  digits_only e Blank (suc m) le h = absurd (let f = h.0 in cc)
  digits_only e LineComment (suc m) le h = absurd (let f = h.0 in cc)
  digits_only e BlockComment (suc m) le h = absurd (let f = h.0 in cc)
  digits_only e WordText (suc m) le h = absurd (let f = h.0 in cc)
  digits_only e IntText (suc m) le h = omega (arith, run_longest is_digit_byte m bs (omega arith) h.1)
  digits_only e SignText (suc m) le h = absurd (let f = h.0 in cc)

  digits_longest : class_of b ≡ Digit → IsLongest (b ∷ bs) IntText (suc (prefix_len is_digit_byte bs))
  digits_longest e = record {
    within = omega (arith, prefix_len-le-length is_digit_byte bs);
    piece = (e, run_passes is_digit_byte bs);
    longest = digits_only e;
  }

  blank_only : class_of b ≡ Space → (r : Piece) (m : ℕ) → m ≤ length (b ∷ bs) → IsPiece r (take m (b ∷ bs)) → m ≤ 1
  blank_only e r zero le h = omega arith
  blank_only e Blank (suc zero) le h = omega arith
  blank_only e Blank (suc (suc m)) le h = absurd (blank_end bs m (omega arith) h.1)
    where
      blank_end : (bs : List ℕ) (m : ℕ) → suc m ≤ length bs → take (suc m) bs ≡ [] → ⊥
      blank_end [] m le e = absurd (omega arith)
      blank_end (c ∷ cs) m le e = cc
  blank_only e LineComment (suc m) le h = absurd (let f = h.0 in cc)
  blank_only e BlockComment (suc m) le h = absurd (let f = h.0 in cc)
  blank_only e WordText (suc m) le h = absurd (let f = h.0 in cc)
  blank_only e IntText (suc m) le h = absurd (let f = h.0 in cc)
  blank_only e SignText (suc m) le h = absurd (let f = h.0 in cc)

  blank_longest : class_of b ≡ Space → IsLongest (b ∷ bs) Blank 1
  blank_longest e = record { within = omega arith; piece = (e, refl); longest = blank_only e }

-- of a class that opens no piece nothing begins
no_unknown : (r : Piece) → opens r ≡ Unknown → ⊥
unfolding opens
no_unknown Blank e = cc
no_unknown LineComment e = cc
no_unknown BlockComment e = cc
no_unknown WordText e = cc
no_unknown IntText e = cc
no_unknown SignText e = cc

no_refused : (r : Piece) → opens r ≡ Refused → ⊥
unfolding opens
no_refused Blank e = cc
no_refused LineComment e = cc
no_refused BlockComment e = cc
no_refused WordText e = cc
no_refused IntText e = cc
no_refused SignText e = cc

unknown_nothing : (b : ℕ) (bs : List ℕ) → class_of b ≡ Unknown → NothingBegins (b ∷ bs)
unknown_nothing b bs e r zero le h = h
unknown_nothing b bs e r (suc m) le h = no_unknown r (sym (opens_with r b (take m bs) h) ∙ e)

refused_nothing : (b : ℕ) (bs : List ℕ) → class_of b ≡ Refused → NothingBegins (b ∷ bs)
refused_nothing b bs e r zero le h = h
refused_nothing b bs e r (suc m) le h = no_refused r (sym (opens_with r b (take m bs) h) ∙ e)

-- ---- signs

mark_only : (n b : ℕ) (bs : List ℕ) → class_of b ≡ Mark → ((m : ℕ) → m ≤ length bs → IsSignTail b (take m bs)
    → suc m ≤ n) → (r : Piece) (m : ℕ) → m ≤ length (b ∷ bs) → IsPiece r (take m (b ∷ bs)) → m ≤ n
mark_only n b bs e f r zero le h = omega arith
mark_only n b bs e f Blank (suc m) le h = absurd (let g = h.0 in cc)
mark_only n b bs e f LineComment (suc m) le h = absurd (let g = h.0 in cc)
mark_only n b bs e f BlockComment (suc m) le h = absurd (let g = h.0 in cc)
mark_only n b bs e f WordText (suc m) le h = absurd (let g = h.0 in cc)
mark_only n b bs e f IntText (suc m) le h = absurd (let g = h.0 in cc)
mark_only n b bs e f SignText (suc m) le h = f m (omega arith) h.1

-- the second and the third byte make no longer sign
abbrev pub NoPair : List ℕ → Type 0
NoPair bytes = (1 < length bytes → is_pair (get_or bytes 0 0) (get_or bytes 1 0) ≡ false)

abbrev pub NoTriple : List ℕ → Type 0
NoTriple bytes = (2 < length bytes → is_triple (get_or bytes 0 0) (get_or bytes 1 0) (get_or bytes 2 0) ≡ false)

tail_below : (n b : ℕ) (bs : List ℕ) → (2 ≤ n ⊎ NoPair (b ∷ bs)) → (3 ≤ n ⊎ NoTriple (b ∷ bs)) → 1 ≤ n → (m : ℕ)
    → m ≤ length bs → IsSignTail b (take m bs) → suc m ≤ n
tail_below n b bs pair triple one zero le h = one
tail_below n b [] pair triple one (suc m) le h = absurd (omega arith)
tail_below n b (c ∷ bs) (inl two) triple one (suc zero) le h = two
tail_below n b (c ∷ bs) (inr none) triple one (suc zero) le h = absurd (let f = none (omega arith) in cc)
tail_below n b (c ∷ []) pair triple one (suc (suc m)) le h = absurd (omega arith)
tail_below n b (c ∷ d ∷ bs) pair (inl three) one (suc (suc zero)) le h = three
tail_below n b (c ∷ d ∷ bs) pair (inr none) one (suc (suc zero)) le h = absurd (let f = none (omega arith) in cc)
tail_below n b (c ∷ d ∷ []) pair triple one (suc (suc (suc m))) le h = absurd (omega arith)
tail_below n b (c ∷ d ∷ e ∷ bs) pair triple one (suc (suc (suc m))) le h = elim h [ ]

pub one_sign : (bytes : List ℕ) → OpensWith Mark bytes → NoPair bytes → NoTriple bytes → IsLongest bytes SignText 1
one_sign [] e pair triple = elim e [ ]
one_sign (b ∷ bs) e pair triple = record {
  within = omega arith;
  piece = (e, tt);
  longest =
      mark_only 1 b bs e (tail_below 1 b bs (inr pair) (inr triple) (omega arith));
}

pub two_sign : (bytes : List ℕ) → OpensWith Mark bytes → 1 < length bytes
    → is_pair (get_or bytes 0 0) (get_or bytes 1 0) ≡ true → NoTriple bytes → IsLongest bytes SignText 2
two_sign [] e lt pair triple = elim e [ ]
two_sign (b ∷ []) e lt pair triple = absurd (omega arith)
two_sign (b ∷ c ∷ bs) e lt pair triple = record {
  within = omega arith;
  piece = (e, pair);
  longest =
      mark_only 2 b (c ∷ bs) e (tail_below 2 b (c ∷ bs) (inl (omega arith)) (inr triple) (omega arith));
}

pub three_sign : (bytes : List ℕ) → OpensWith Mark bytes → 2 < length bytes
    → is_triple (get_or bytes 0 0) (get_or bytes 1 0) (get_or bytes 2 0) ≡ true → IsLongest bytes SignText 3
three_sign [] e lt triple = elim e [ ]
three_sign (b ∷ []) e lt triple = absurd (omega arith)
three_sign (b ∷ c ∷ []) e lt triple = absurd (omega arith)
three_sign (b ∷ c ∷ d ∷ bs) e lt triple = record {
  within = omega arith;
  piece = (e, triple);
  longest =
      mark_only 3 b (c ∷ d ∷ bs) e (tail_below 3 b (c ∷ d ∷ bs) (inl (omega arith)) (inl (omega arith)) (omega arith));
}

-- ---- comments

line_only : (b : ℕ) (bs : List ℕ) → class_of b ≡ Slash → (r : Piece) (m : ℕ) → m ≤ length (b ∷ 47 ∷ bs)
    → IsPiece r (take m (b ∷ 47 ∷ bs)) → m ≤ prefix_len is_line_byte bs + 2
line_only b bs e r zero le h = omega arith
line_only b bs e Blank (suc m) le h = absurd (let f = h.0 in cc)
line_only b bs e LineComment (suc zero) le h = omega arith
line_only b bs e LineComment (suc (suc m)) le h = omega (arith, run_longest is_line_byte m bs (omega arith) h.1.1)
line_only b bs e BlockComment (suc zero) le h = omega arith
line_only b bs e BlockComment (suc (suc m)) le h = absurd (let f : 47 ≡ 42 = h.1.0 in omega arith)
line_only b bs e WordText (suc m) le h = absurd (let f = h.0 in cc)
line_only b bs e IntText (suc m) le h = absurd (let f = h.0 in cc)
line_only b bs e SignText (suc m) le h = absurd (let f = h.0 in cc)

pub line_longest : (bytes : List ℕ) → OpensWith Slash bytes → 1 < length bytes → get_or bytes 1 0 ≡ 47
    → IsLongest bytes LineComment (prefix_len is_line_byte (drop 2 bytes) + 2)
line_longest [] e lt s = elim e [ ]
line_longest (b ∷ []) e lt s = absurd (omega arith)
line_longest (b ∷ c ∷ bs) e lt s =
    let n = prefix_len is_line_byte bs in
    let two : suc (suc n) ≡ n + 2 = omega arith in
    subst (λ (k : ℕ). IsLongest (b ∷ c ∷ bs) LineComment k) two
    (subst (λ (d : ℕ). IsLongest (b ∷ d ∷ bs) LineComment (suc (suc n))) (sym s) (record {
      within = omega (arith, prefix_len-le-length is_line_byte bs);
      piece = (e, (refl, run_passes is_line_byte bs));
      longest = λ r m le h. rw two (line_only b bs e r m le h);
    }))

-- what may follow /* where it is closed after n bytes, or not at all
block_only : (b n : ℕ) (bs : List ℕ) → class_of b ≡ Slash → ((m : ℕ) → close_of 42 47 bs ≡ Some m → suc (suc m) ≤ n)
    → (r : Piece) (m : ℕ) → suc m ≤ length (b ∷ 42 ∷ bs) → IsPiece r (take (suc m) (b ∷ 42 ∷ bs)) → suc m ≤ n
block_only b n bs e f Blank m le h = absurd (let g = h.0 in cc)
block_only b n bs e f LineComment zero le h = elim h.1 [ ]
block_only b n bs e f LineComment (suc m) le h = absurd (let g : 42 ≡ 47 = h.1.0 in omega arith)
block_only b n bs e f BlockComment zero le h = elim h.1 [ ]
block_only b n bs e f BlockComment (suc m) le h = f m (close_is 42 47 m bs (omega arith) h.1.1)
block_only b n bs e f WordText m le h = absurd (let g = h.0 in cc)
block_only b n bs e f IntText m le h = absurd (let g = h.0 in cc)
block_only b n bs e f SignText m le h = absurd (let g = h.0 in cc)

block_at : (b n : ℕ) (bs : List ℕ) → class_of b ≡ Slash → close_of 42 47 bs ≡ Some n
    → IsLongest (b ∷ 42 ∷ bs) BlockComment (suc (suc n))
block_at b n bs e found =
    let closed = close_found 42 47 bs n found in
    record {
      within = omega (arith, closed.0);
      piece = (e, (refl, closed.1));
      longest = longest;
    }
  where
    longest : (r : Piece) (m : ℕ) → m ≤ length (b ∷ 42 ∷ bs) → IsPiece r (take m (b ∷ 42 ∷ bs)) → m ≤ suc (suc n)
    longest r zero le h = omega arith
    longest r (suc m) le h = block_only b (suc (suc n)) bs e (λ k same. let f : k ≡ n = cc in omega arith) r m le h

unclosed_at : (b : ℕ) (bs : List ℕ) → class_of b ≡ Slash → close_of 42 47 bs ≡ None → NothingBegins (b ∷ 42 ∷ bs)
unclosed_at b bs e none r zero le h = h
unclosed_at b bs e none r (suc m) le h = absurd (let f = block_only b 0 bs e (λ k same. absurd (cc)) r m le h
    in omega arith)

pub block_longest : (bytes : List ℕ) (n : ℕ) → OpensWith Slash bytes → 1 < length bytes → get_or bytes 1 0 ≡ 42
    → close_of 42 47 (drop 2 bytes) ≡ Some n → IsLongest bytes BlockComment (n + 2)
block_longest [] n e lt s found = elim e [ ]
block_longest (b ∷ []) n e lt s found = absurd (omega arith)
block_longest (b ∷ c ∷ bs) n e lt s found =
    let two : suc (suc n) ≡ n + 2 = omega arith in
    subst (λ (k : ℕ). IsLongest (b ∷ c ∷ bs) BlockComment k) two
    (subst (λ (d : ℕ). IsLongest (b ∷ d ∷ bs) BlockComment (suc (suc n))) (sym s) (block_at b n bs e found))

pub unclosed : (bytes : List ℕ) → OpensWith Slash bytes → 1 < length bytes → get_or bytes 1 0 ≡ 42
    → close_of 42 47 (drop 2 bytes) ≡ None → NothingBegins bytes × (Syntax ≡ cause_at bytes)
unclosed [] e lt s none = elim e [ ]
unclosed (b ∷ []) e lt s none = absurd (omega arith)
unclosed (b ∷ c ∷ bs) e lt s none = subst (λ (d : ℕ). NothingBegins (b ∷ d ∷ bs) × (Syntax ≡ cause_at (b ∷ d ∷ bs)))
    (sym s) (unclosed_at b bs e none, rw e refl)

slash_only : (b c : ℕ) (bs : List ℕ) → class_of b ≡ Slash → (c ≡ 47 → ⊥) → (c ≡ 42 → ⊥) → NothingBegins (b ∷ c ∷ bs)
slash_only b c bs e line block r zero le h = h
slash_only b c bs e line block Blank (suc m) le h = let f = h.0 in cc
slash_only b c bs e line block LineComment (suc zero) le h = h.1
slash_only b c bs e line block LineComment (suc (suc m)) le h = line h.1.0
slash_only b c bs e line block BlockComment (suc zero) le h = h.1
slash_only b c bs e line block BlockComment (suc (suc m)) le h = block h.1.0
slash_only b c bs e line block WordText (suc m) le h = let f = h.0 in cc
slash_only b c bs e line block IntText (suc m) le h = let f = h.0 in cc
slash_only b c bs e line block SignText (suc m) le h = let f = h.0 in cc

slash_end : (b : ℕ) → class_of b ≡ Slash → NothingBegins (b ∷ [])
slash_end b e r zero le h = h
slash_end b e r (suc (suc m)) le h = absurd (omega arith)
slash_end b e Blank (suc zero) le h = let f = h.0 in cc
slash_end b e LineComment (suc zero) le h = h.1
slash_end b e BlockComment (suc zero) le h = h.1
slash_end b e WordText (suc zero) le h = let f = h.0 in cc
slash_end b e IntText (suc zero) le h = let f = h.0 in cc
slash_end b e SignText (suc zero) le h = let f = h.0 in cc

pub lone_slash : (bytes : List ℕ) → OpensWith Slash bytes → (1 < length bytes → get_or bytes 1 0 ≡ 47 → ⊥)
    → (1 < length bytes → get_or bytes 1 0 ≡ 42 → ⊥) → NothingBegins bytes × (Unsupported ≡ cause_at bytes)
lone_slash [] e line block = elim e [ ]
lone_slash (b ∷ []) e line block = (slash_end b e, rw e refl)
lone_slash (b ∷ c ∷ bs) e line block = (
  slash_only b c bs e (line (omega arith)) (block (omega arith)),
  rw (e, ne_eqb c 42 (block (omega arith))) refl,
)

-- ---- at any byte

pub word_opened : (bytes : List ℕ) → OpensWith Letter bytes → IsLongest bytes WordText (prefix_len is_word_byte bytes)
word_opened [] e = elim e [ ]
word_opened (b ∷ bs) e = rw (e, one-add) (word_longest b bs e)

pub digits_found : (bytes : List ℕ) → 0 < length bytes → class_of (get_or bytes 0 0) ≡ Digit
    → IsLongest bytes IntText (prefix_len is_digit_byte bytes)
digits_found [] lt e = absurd (omega arith)
digits_found (b ∷ bs) lt e = rw (e, one-add) (digits_longest b bs e)

pub blank_found : (bytes : List ℕ) → 0 < length bytes → class_of (get_or bytes 0 0) ≡ Space → IsLongest bytes Blank 1
blank_found [] lt e = absurd (omega arith)
blank_found (b ∷ bs) lt e = blank_longest b bs e

pub refused_found : (bytes : List ℕ) → 0 < length bytes → class_of (get_or bytes 0 0) ≡ Refused → NothingBegins bytes
    × (Unsupported ≡ cause_at bytes)
refused_found [] lt e = absurd (omega arith)
refused_found (b ∷ bs) lt e = (refused_nothing b bs e, rw e refl)

pub unknown_found : (bytes : List ℕ) → 0 < length bytes → class_of (get_or bytes 0 0) ≡ Unknown → NothingBegins bytes
    × (Syntax ≡ cause_at bytes)
unknown_found [] lt e = absurd (omega arith)
unknown_found (b ∷ bs) lt e = (unknown_nothing b bs e, rw e refl)
