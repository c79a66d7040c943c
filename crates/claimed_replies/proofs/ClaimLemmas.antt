-- Claims that belong to replies.
use Rattle.std.proofs.Common.{◌≡◌, ◌∙◌, ℕ, ◌+◌, ◌<◌, ◌≤◌, List, [], ◌∷◌, ◌++◌, take, get_or, refl, sym, ap, subst}
use Rattle.std.proofs.Common.{length, append-nil, take_all, flat_map, Option, Some, None}
use Rattle.std.specs.Option.{IfSome}
use Rattle.std.proofs.lemmas.Grind.{flat_map-append}
use Rattle.std.proofs.lemmas.List.{take_more}
use Rattle.kb_logic.specs.declared.elements.ExtInt.{ExtInt}
use Rattle.kb_logic.specs.declared.elements.ExtInt.TheVariants.{NegInf, Num, PosInf}
use Rattle.kb_logic.specs.declared.structures.Literal.{Literal}
use Rattle.kb_logic.specs.Structures.{EachWith}
use Rattle.lit_core.specs.declared.literals.Lit.{Lit}
use Rattle.derivation_log.specs.Lines.{entry_text}
use Rattle.derivation_log.specs.declared.entries.Entry.{Entry}
use Rattle.term_values.specs.GroundBases.{GroundBase}
use Rattle.claimed_replies.specs.Claims.{SaysForced, SaysLeast, IsTheClaim, AreLeastClaims}

-- the text of what was found is that of one claim
pub the_claim : {T : Type 0} (items : T → List ℕ) (Says : Entry → Type 0) (found : Option Entry) (text : Option T)
    → IfSome found Says → IfSome text (λ t. (e : Entry) × (found ≡ Some e) × (items t ≡ entry_text e))
    → IfSome text (λ t. (es : List Entry) × IsTheClaim Says es × (items t ≡ flat_map entry_text es))
the_claim items Says found None says is = tt
the_claim items Says None (Some t) says is = absurd (let none : None ≡ Some is.0 = is.1 in let no : ⊥ = cc in no)
the_claim items Says (Some e) (Some t) says is = (
  is.0 ∷ [],
  (is.0, subst (λ (o : Option Entry). IfSome o Says) is.1 says, refl),
  is.2 ∙ sym (append-nil (entry_text is.0)),
)

-- of a value that is not the lowest
least_claims : (lits : List Lit) (t : ℕ) (v : ExtInt) (es : List Entry) → (v ≡ NegInf → ⊥)
    → IsTheClaim (SaysLeast lits t v) es → AreLeastClaims lits t v es
least_claims lits t NegInf es above claim = absurd (above refl)
least_claims lits t (Num n) es above claim = claim
least_claims lits t PosInf es above claim = claim

pub the_least : {T : Type 0} (items : T → List ℕ) (lits : List Lit) (t : ℕ) (v : ExtInt) (text : Option T)
    → (v ≡ NegInf → ⊥)
    → IfSome text (λ x. (es : List Entry) × IsTheClaim (SaysLeast lits t v) es × (items x ≡ flat_map entry_text es))
    → IfSome text (λ x. (es : List Entry) × AreLeastClaims lits t v es × (items x ≡ flat_map entry_text es))
the_least items lits t v None above is = tt
the_least items lits t v (Some x) above is = (is.0, least_claims lits t v is.0 above is.1, is.2)

each_push : {A B : Type 0} (R : A → B → Type 0) (xs : List A) (ys : List B) (x : A) (y : B) → EachWith R xs ys → R x y
    → EachWith R (xs ++ x ∷ []) (ys ++ y ∷ [])
each_push R [] [] x y all here = (here, tt)
each_push R [] (w ∷ ys) x y all here = absurd all
each_push R (v ∷ xs) [] x y all here = absurd all
each_push R (v ∷ xs) (w ∷ ys) x y all here = (all.0, each_push R xs ys x y all.1 here)

-- the bytes are the texts of the claims of these literals
abbrev pub AreForcedTexts : GroundBase → List Lit → List Literal → List ℕ → Type 0
AreForcedTexts b lits ls bytes = (es : List Entry) × EachWith (SaysForced b lits) ls es
    × (bytes ≡ flat_map entry_text es)

pub none_forced : (b : GroundBase) (lits : List Lit) → AreForcedTexts b lits [] []
none_forced b lits = ([], tt, refl)

-- one literal more
pub one_more : (b : GroundBase) (lits : List Lit) (ls : List Literal) (l : Literal) (e : Entry) (old new : List ℕ)
    → AreForcedTexts b lits ls old → SaysForced b lits l e → new ≡ old ++ entry_text e
    → AreForcedTexts b lits (ls ++ l ∷ []) new
one_more b lits ls l e old new so_far says pushed = (
  so_far.0 ++ e ∷ [],
  each_push (SaysForced b lits) ls so_far.0 l e so_far.1 says,
  pushed ∙ ap (λ (t : List ℕ). t ++ entry_text e) so_far.2
      ∙ ap (λ (t : List ℕ). flat_map entry_text so_far.0 ++ t) (sym (append-nil (entry_text e)))
      ∙ sym (flat_map-append entry_text so_far.0 (e ∷ [])),
)

-- the next of the literals
pub next_forced : (b : GroundBase) (lits : List Lit) (ls : List Literal) (i : ℕ) (l : Literal) (e : Entry)
    (old new : List ℕ) → i < length ls → l ≡ get_or ls i l → AreForcedTexts b lits (take i ls) old
    → SaysForced b lits l e → new ≡ old ++ entry_text e → AreForcedTexts b lits (take (i + 1) ls) new
next_forced b lits ls i l e old new within is so_far says pushed =
    subst (λ (some : List Literal). AreForcedTexts b lits some new)
    (sym (take_more ls i l within ∙ ap (λ (x : Literal). take i ls ++ x ∷ []) (sym is)))
    (one_more b lits (take i ls) l e old new so_far says pushed)

-- the same, of what was found
pub next_found : (b : GroundBase) (lits now : List Lit) (ls : List Literal) (i : ℕ) (l : Literal) (found : Option Entry)
    (old new : List ℕ) → now ≡ lits → i < length ls → l ≡ get_or ls i l → AreForcedTexts b lits (take i ls) old
    → IfSome found (SaysForced b now l) → (text : List ℕ) → (e : Entry) × (found ≡ Some e) × (text ≡ entry_text e)
    → new ≡ old ++ text → AreForcedTexts b lits (take (i + 1) ls) new
next_found b lits now ls i l None old new same within is so_far says text told pushed =
    absurd (let none : None ≡ Some told.0 = told.1 in let no : ⊥ = cc in no)
next_found b lits now ls i l (Some e) old new same within is so_far says text told pushed =
    next_forced b lits ls i l told.0 old new within is so_far
    (subst (λ (some : List Lit). SaysForced b some l told.0) same
    (subst (λ (o : Option Entry). IfSome o (SaysForced b now l)) told.1 says))
    (pushed ∙ ap (λ (t : List ℕ). old ++ t) told.2)

-- all of them
pub all_forced : (b : GroundBase) (lits : List Lit) (ls : List Literal) (i : ℕ) (bytes : List ℕ) → length ls ≤ i
    → AreForcedTexts b lits (take i ls) bytes → AreForcedTexts b lits ls bytes
all_forced b lits ls i bytes over so_far =
    subst (λ (some : List Literal). AreForcedTexts b lits some bytes) (take_all i ls over) so_far
