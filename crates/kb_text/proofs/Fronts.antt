-- The token at the start of a text.
use Rattle.std.proofs.Common.{◌≡◌, ℕ, zero, suc, ◌<◌, ◌≤◌, Bool, true, false, List, [], ◌∷◌, length, take, Some, None}
use Rattle.std.proofs.Common.{refl, sym, ◌∙◌, inl, inr, arith, eqb, codes, length-drop}
use Rattle.std.specs.List.{prefix_len}
use Rattle.std.specs.Str.{bytes_eq}
use Rattle.std.proofs.Math.Numerals.{one-add}
use Rattle.std.proofs.lemmas.Bool.{cases_Bool, and_parts, eqb-true}
use Rattle.kb_text.specs.declared.bytes.Class.TheVariants.{Letter}
use Rattle.kb_text.specs.declared.fault.K.{K}
use Rattle.kb_text.specs.declared.token.Kind.{Kind}
use Rattle.kb_text.specs.declared.token.Kind.TheVariants.{Word, Int, Sign, Procedure}
use Rattle.kb_text.specs.Bytes.{class_of, is_word_byte}
use Rattle.kb_text.specs.Pieces.{Piece, Blank, LineComment, BlockComment, WordText, IntText, SignText, IsGap, IsLongest}
use Rattle.kb_text.specs.Procedures.{begins_procedure, word_end}
use Rattle.kb_text.specs.Tokens.{IsTokenAt, NoTokenAt}
use Rattle.kb_text.proofs.Pieces.{opens, opens_with, word_opened}
use Rattle.kb_text.proofs.Passages.{closes_within, only_end}

-- ---- pieces

empty : (x : Piece) (n : ℕ) → IsLongest [] x n → ⊥
empty x zero l = l.piece
empty x (suc n) l = absurd (let w = l.within in omega arith)

-- a piece has at least one byte
pub piece_length : (bytes : List ℕ) (x : Piece) (n : ℕ) → IsLongest bytes x n → 0 < n
piece_length bytes x zero l = elim l.piece [ ]
piece_length bytes x (suc n) l = omega arith

pub same_length : (bytes : List ℕ) (x y : Piece) (n m : ℕ) → IsLongest bytes x n → IsLongest bytes y m → n ≡ m
same_length bytes x y n m a b = omega (arith, a.longest y m b.within b.piece, b.longest x n a.within a.piece)

same_opens : (bytes : List ℕ) (x y : Piece) (n m : ℕ) → IsLongest bytes x n → IsLongest bytes y m → opens x ≡ opens y
same_opens bytes x y zero m a b = absurd a.piece
same_opens bytes x y (suc n) zero a b = absurd b.piece
same_opens [] x y (suc n) (suc m) a b = absurd (empty x (suc n) a)
same_opens (c ∷ cs) x y (suc n) (suc m) a b = sym (opens_with x c (take n cs) a.piece)
    ∙ opens_with y c (take m cs) b.piece

-- ---- the word procedure

first_of_word : (b : ℕ) (bs : List ℕ) (in_braces : Bool) → begins_procedure in_braces (b ∷ bs) ≡ true
    → (b ≡ 112) × (is_word_byte b ≡ true)
first_of_word b bs true e = absurd (cc)
first_of_word b bs false e =
    elim (cases_Bool (is_word_byte b)) [
      | inl hit ↦ let whole : bytes_eq (b ∷ take (prefix_len is_word_byte bs) bs) (codes "procedure") ≡ true =
          rw (hit, one-add) at e in (eqb-true b 112 (and_parts (eqb b 112) _ whole).0, hit)
      | inr miss ↦ absurd (let whole : bytes_eq [] (codes "procedure") ≡ true = rw miss at e in cc)
    ]

letter_p : (b : ℕ) → b ≡ 112 → class_of b ≡ Letter
unfolding class_of
letter_p b e = rw e refl

-- a procedure begins with a word
pub procedure_word : (in_braces : Bool) (bytes : List ℕ) → begins_procedure in_braces bytes ≡ true
    → IsLongest bytes WordText (word_end bytes)
procedure_word true bytes e = absurd (cc)
procedure_word false [] e = absurd (cc)
procedure_word false (b ∷ bs) e = word_opened (b ∷ bs) (letter_p b (first_of_word b bs false e).0)

-- ---- tokens

-- the piece that a token begins with
pub piece_of : Kind → Piece
piece_of Word = WordText
piece_of Int = IntText
piece_of Sign = SignText
piece_of Procedure = WordText

module _ (in_braces : Bool) (bytes : List ℕ) where
  pub piece_at : (k : Kind) (n : ℕ) → IsTokenAt in_braces bytes k n → (m : ℕ) × IsLongest bytes (piece_of k) m × (m ≤ n)
  unfolding piece_of
  piece_at Word n h = (n, h.0, omega arith)
  piece_at Int n h = (n, h, omega arith)
  piece_at Sign n h = (n, h, omega arith)
  piece_at Procedure n h = (word_end bytes, procedure_word in_braces bytes h.0, let e = h.1.2 in omega arith)

  pub token_length : (k : Kind) (n : ℕ) → IsTokenAt in_braces bytes k n → 0 < n
  token_length k n h = let p = piece_at k n h in omega (arith, p.2, piece_length bytes (piece_of k) p.0 p.1)

  pub token_within : (k : Kind) (n : ℕ) → IsTokenAt in_braces bytes k n → n ≤ length bytes
  token_within Word n h = h.0.within
  token_within Int n h = h.within
  token_within Sign n h = h.within
  token_within Procedure n h =
      let short = closes_within h.1.1 in
      let word = (procedure_word in_braces bytes h.0).within in
      omega (arith, h.1.2, length-drop (word_end bytes) bytes)

  clash : (x : Piece) (k : Kind) (n m : ℕ) → IsGap x → opens x ≡ opens (piece_of k) → ⊥
  unfolding opens piece_of
  clash Blank Word n m g e = cc
  clash Blank Int n m g e = cc
  clash Blank Sign n m g e = cc
  clash Blank Procedure n m g e = cc
  clash LineComment Word n m g e = cc
  clash LineComment Int n m g e = cc
  clash LineComment Sign n m g e = cc
  clash LineComment Procedure n m g e = cc
  clash BlockComment Word n m g e = cc
  clash BlockComment Int n m g e = cc
  clash BlockComment Sign n m g e = cc
  clash BlockComment Procedure n m g e = cc
  clash WordText k n m g e = g
  clash IntText k n m g e = g
  clash SignText k n m g e = g

  -- no gap and a token at one place
  pub gap_or_token : (x : Piece) (k : Kind) (n m : ℕ) → IsGap x → IsLongest bytes x n
      → IsTokenAt in_braces bytes k m → ⊥
  gap_or_token x k n m g l h = let p = piece_at k m h in clash x k n m g (same_opens bytes x (piece_of k) n p.0 l p.1)

  same_kind : (j k : Kind) (n m : ℕ) → IsTokenAt in_braces bytes j n → IsTokenAt in_braces bytes k m
      → opens (piece_of j) ≡ opens (piece_of k) → j ≡ k
  unfolding opens piece_of
  same_kind Word Word n m h i e = refl
  same_kind Word Int n m h i e = absurd (cc)
  same_kind Word Sign n m h i e = absurd (cc)
  same_kind Word Procedure n m h i e = absurd (let f = sym h.1 ∙ i.0 in cc)
  same_kind Int Word n m h i e = absurd (cc)
  same_kind Int Int n m h i e = refl
  same_kind Int Sign n m h i e = absurd (cc)
  same_kind Int Procedure n m h i e = absurd (cc)
  same_kind Sign Word n m h i e = absurd (cc)
  same_kind Sign Int n m h i e = absurd (cc)
  same_kind Sign Sign n m h i e = refl
  same_kind Sign Procedure n m h i e = absurd (cc)
  same_kind Procedure Word n m h i e = absurd (let f = sym h.0 ∙ i.1 in cc)
  same_kind Procedure Int n m h i e = absurd (cc)
  same_kind Procedure Sign n m h i e = absurd (cc)
  same_kind Procedure Procedure n m h i e = refl

  same_end : (k : Kind) (n m : ℕ) → IsTokenAt in_braces bytes k n → IsTokenAt in_braces bytes k m → n ≡ m
  same_end Word n m h i = same_length bytes WordText WordText n m h.0 i.0
  same_end Int n m h i = same_length bytes IntText IntText n m h i
  same_end Sign n m h i = same_length bytes SignText SignText n m h i
  same_end Procedure n m h i =
      let both = only_end h.1.1 (Some i.1.0) i.1.1 in
      let same : h.1.0 ≡ i.1.0 = cc in
      omega (arith, h.1.2, i.1.2, same)

  -- one token at one place
  pub same_token : (j k : Kind) (n m : ℕ) → IsTokenAt in_braces bytes j n → IsTokenAt in_braces bytes k m
      → (n ≡ m) × (j ≡ k)
  same_token j k n m h i =
      let p = piece_at j n h in
      let q = piece_at k m i in
      let kind = same_kind j k n m h i (same_opens bytes (piece_of j) (piece_of k) p.0 q.0 p.1 q.1) in
      (same_end k n m (rw kind at h) i, kind)

  -- ---- where no token is

  -- where a piece is, only a procedure can be in the way
  pub no_gap : (x : Piece) (n : ℕ) (c : K) → IsGap x → IsLongest bytes x n → NoTokenAt in_braces bytes c → ⊥
  unfolding piece_of
  no_gap x n c g l (inl none) = none.0 x n l.within l.piece
  no_gap x n c g l (inr never) = clash x Procedure n n g (same_opens bytes x WordText n (word_end bytes) l
      (procedure_word in_braces bytes never.0))

  pub no_token : (k : Kind) (n : ℕ) (c : K) → IsTokenAt in_braces bytes k n → NoTokenAt in_braces bytes c → ⊥
  unfolding opens
  no_token k n c h (inl none) = let p = piece_at k n h in none.0 (piece_of k) p.0 p.1.within p.1.piece
  no_token Word n c h (inr never) = let f = sym h.1 ∙ never.0 in cc
  no_token Int n c h (inr never) = absurd (let f = same_opens bytes IntText WordText n (word_end bytes) h
      (procedure_word in_braces bytes never.0) in cc)
  no_token Sign n c h (inr never) = absurd (let f = same_opens bytes SignText WordText n (word_end bytes) h
      (procedure_word in_braces bytes never.0) in cc)
  no_token Procedure n c h (inr never) = absurd (let f = only_end h.1.1 None never.1 in cc)

  pub same_cause : (c d : K) → NoTokenAt in_braces bytes c → NoTokenAt in_braces bytes d → c ≡ d
  same_cause c d (inl a) (inl b) = a.1 ∙ sym b.1
  same_cause c d (inl a) (inr b) = absurd (let w = procedure_word in_braces bytes b.0 in
      a.0 WordText (word_end bytes) w.within w.piece)
  same_cause c d (inr a) (inl b) = absurd (let w = procedure_word in_braces bytes a.0 in
      b.0 WordText (word_end bytes) w.within w.piece)
  same_cause c d (inr a) (inr b) = a.2 ∙ sym b.2

pub no_token_in_nothing : (in_braces : Bool) (k : Kind) (n : ℕ) → IsTokenAt in_braces [] k n → ⊥
no_token_in_nothing in_braces k n h = let p = piece_at in_braces [] k n h in empty (piece_of k) p.0 p.1

pub no_piece_in_nothing : (x : Piece) (n : ℕ) → IsLongest [] x n → ⊥
no_piece_in_nothing = empty
