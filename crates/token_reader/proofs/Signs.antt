-- Whether a sign comes next.
use Rattle.std.proofs.Common.{◌≡◌, ℕ, List, [], ◌∷◌, None, Some, refl, sym, ap}
use Rattle.grammar.specs.declared.terminal.Terminal.{Terminal}
use Rattle.grammar.specs.declared.terminal.Terminal.TheVariants as t
use Rattle.grammar.specs.Terminals.{Symbol, Tok, tok_at, mark, sign}
use Rattle.token_reader.specs.Signs.{next, No}
use Rattle.token_reader.specs.Parts.{EndsFactor}

-- it does not where no text begins with it
pub no_sign : (s : Terminal) (ts : List Tok) → ((p : ℕ) (us : List Tok) → ts ≡ sign s p ∷ us → ⊥) → No s (next ts)
no_sign s [] h = λ (e : None ≡ Some (mark s)). cc
no_sign s (tok_at x p ∷ us) h = λ (e : Some x ≡ Some (mark s)).
    let same : x ≡ mark s = cc in h p us (ap (λ (y : Symbol). tok_at y p ∷ us) same)

-- and the other way round
pub other_sign : (s : Terminal) (ts : List Tok) → No s (next ts) → (p : ℕ) (us : List Tok) → ts ≡ sign s p ∷ us → ⊥
other_sign s ts h p us e = h (ap next e)

pub goes_sign : (s : Terminal) (p : ℕ) (ts us : List Tok) → No s (next us) → sign s p ∷ ts ≡ us → ⊥
goes_sign s p ts us h e = h (ap next (sym e))

pub no_open : (ts : List Tok) → No t.Open (next ts) → EndsFactor ts
no_open [] h = tt
no_open (tok_at (mark t.Open) p ∷ ts) h = absurd (h refl)
no_open (tok_at s p ∷ ts) h = tt
