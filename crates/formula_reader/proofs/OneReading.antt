-- A text is one tree, or has one first refusal.
use Rattle.std.proofs.Common.{◌≡◌, ℕ, List, [], ◌∷◌, ◌++◌, length, map, Result, Ok, Err, refl, sym, ap, subst, ◌∙◌}
use Rattle.std.proofs.Common.{append_assoc}
use Rattle.kb_text.specs.declared.fault.K.{K}
use Rattle.kb_text.specs.declared.fault.KbFault.{KbFault}
use Rattle.kb_text.specs.Depth.{outermost}
use Rattle.kb_text.specs.Tokens.{Lexeme, TokensFrom}
use Rattle.kb_text.proofs.Exact.{only}
use Rattle.grammar.specs.Terminals.{Tok, place_of}
use Rattle.grammar.specs.Texts.{SameHead, ParsesTo, FirstStuck}
use Rattle.grammar.specs.Items.{IsTokens, tok_of}
use Rattle.grammar.specs.Whole.{IsStuck, Reads, parsed, unscanned, ungrammatical}

same_tokens : (src : List ℕ) (ts us : List Tok) → IsTokens src ts → IsTokens src us → ts ≡ us
same_tokens src ts us h k =
    let e = only h.scanned (Ok k.lexemes) k.scanned in
    let same : h.lexemes ≡ k.lexemes = cc in
    h.same ∙ ap (λ (v : List Lexeme). map tok_of v) same ∙ sym k.same

not_both : (src : List ℕ) (ts : List Tok) (f : KbFault) → IsTokens src ts → TokensFrom outermost 0 src (Err f) → ⊥
not_both src ts f h k = let e = only h.scanned (Err f) k in cc

same_head : (ts : List Tok) → SameHead ts ts
same_head [] = tt
same_head (x ∷ ts) = refl

-- two ways to cut a list
data Cuts (f g r s : List Tok) : Type 0 where
  equal : r ≡ s → Cuts f g r s
  longer : (x : Tok) (m n : List Tok) → r ≡ x ∷ m → g ≡ f ++ (x ∷ n) → Cuts f g r s
  shorter : (x : Tok) (m n : List Tok) → s ≡ x ∷ m → f ≡ g ++ (x ∷ n) → Cuts f g r s

wider : (x y : Tok) (f g r s : List Tok) → x ≡ y → Cuts f g r s → Cuts (x ∷ f) (y ∷ g) r s
wider x y f g r s e (equal d) = equal d
wider x y f g r s e (longer z m n d h) = longer z m n d (cc)
wider x y f g r s e (shorter z m n d h) = shorter z m n d (cc)

cuts : (f g r s : List Tok) → f ++ r ≡ g ++ s → Cuts f g r s
cuts [] [] r s e = equal e
cuts [] (y ∷ g) r s e = longer y (g ++ s) g e refl
cuts (x ∷ f) [] r s e = shorter x (f ++ r) f (sym e) refl
cuts (x ∷ f) (y ∷ g) r s e =
    let heads : x ≡ y = cc in
    let tails : f ++ r ≡ g ++ s = cc in
    wider x y f g r s heads (cuts f g r s tails)

-- the longer prefix begins a text with a token that ends the shorter one
overtaken : {A : Type 0} (put : A → List Tok → List Tok) (Fine : A → Type 0) (ts us r s : List Tok)
    (h : FirstStuck put Fine ts r) (k : FirstStuck put Fine us s) (x : Tok) (m n : List Tok) → r ≡ x ∷ m
    → k.front ≡ h.front ++ (x ∷ n) → ⊥
overtaken put Fine ts us r s h k x m n e d =
    let b = k.begun in
    let heads : SameHead r (x ∷ (n ++ b.1)) = subst (λ (v : List Tok). SameHead v (x ∷ (n ++ b.1))) (sym e) refl in
    h.ended b.0 (x ∷ (n ++ b.1)) heads (
      sym (append_assoc h.front (x ∷ n) b.1) ∙ ap (λ (v : List Tok). v ++ b.1) (sym d)
          ∙ b.2.0,
      b.2.1,
    )

same_rest : {A : Type 0} (put : A → List Tok → List Tok) (Fine : A → Type 0) (ts r s : List Tok)
    (h : FirstStuck put Fine ts r) (k : FirstStuck put Fine ts s) → Cuts h.front k.front r s → r ≡ s
same_rest put Fine ts r s h k (equal e) = e
same_rest put Fine ts r s h k (longer x m n e d) = absurd (overtaken put Fine ts ts r s h k x m n e d)
same_rest put Fine ts r s h k (shorter x m n e d) = absurd (overtaken put Fine ts ts s r k h x m n e d)

fault : K → ℕ → KbFault
fault c p = record { cause = c; place = p }

same_fault : (f g : KbFault) → f.cause ≡ g.cause → f.place ≡ g.place → f ≡ g
unfolding fault
same_fault f g c p = ap (λ (x : K). fault x f.place) c ∙ ap (λ (x : ℕ). fault g.cause x) p

same_stuck : {A : Type 0} (put : A → List Tok → List Tok) (Fine : A → Type 0) (ts us : List Tok) (len : ℕ)
    (f g : KbFault) → ts ≡ us → IsStuck put Fine ts len f → IsStuck put Fine us len g → f ≡ g
same_stuck put Fine ts us len f g same h k =
    let there : FirstStuck put Fine ts k.rest = subst (λ (v : List Tok). FirstStuck put Fine v k.rest)
    (sym same) k.first in
    let rests = same_rest put Fine ts h.rest k.rest h.first there (cuts h.first.front there.front h.rest k.rest
    (sym h.first.split ∙ there.split)) in
    same_fault f g (h.cause ∙ sym k.cause) (h.place ∙ ap (λ (v : List Tok). place_of v len) rests ∙ sym k.place)

no_text : {A : Type 0} (put : A → List Tok → List Tok) (Fine : A → Type 0) (ts us : List Tok) (len : ℕ) (f : KbFault)
    (a : A) → ts ≡ us → IsStuck put Fine ts len f → ParsesTo put Fine us a → ⊥
no_text put Fine ts us len f a same h k = h.first.ended a h.rest (same_head h.rest) (
  sym h.first.split
      ∙ same ∙ k.0,
  k.1,
)

pub one_reading : {A : Type 0} (put : A → List Tok → List Tok) (Fine : A → Type 0)
    → ((a b : A) → Fine a → Fine b → put a [] ≡ put b [] → a ≡ b)
    → (src : List ℕ) (r s : Result A KbFault) → Reads put Fine src r → Reads put Fine src s → r ≡ s
one_reading put Fine one src r s (parsed ts a h p) (parsed us b k q) =
    ap Ok (one a b p.1 q.1 (sym p.0 ∙ same_tokens src ts us h k ∙ q.0))
one_reading put Fine one src r s (parsed ts a h p) (unscanned f k) = absurd (not_both src ts f h k)
one_reading put Fine one src r s (parsed ts a h p) (ungrammatical us f k q) =
    absurd (no_text put Fine us ts (length src) f a (same_tokens src us ts k h) q p)
one_reading put Fine one src r s (unscanned f h) (parsed us b k q) = absurd (not_both src us f k h)
one_reading put Fine one src r s (unscanned f h) (unscanned g k) = let e = only h (Err g) k in let same : f ≡ g =
    cc in ap Err same
one_reading put Fine one src r s (unscanned f h) (ungrammatical us g k q) = absurd (not_both src us f k h)
one_reading put Fine one src r s (ungrammatical ts f h p) (parsed us b k q) =
    absurd (no_text put Fine ts us (length src) f b (same_tokens src ts us h k) p q)
one_reading put Fine one src r s (ungrammatical ts f h p) (unscanned g k) = absurd (not_both src ts g h k)
one_reading put Fine one src r s (ungrammatical ts f h p) (ungrammatical us g k q) =
    ap Err (same_stuck put Fine ts us (length src) f g (same_tokens src ts us h k) p q)
