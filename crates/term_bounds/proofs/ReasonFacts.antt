-- Reasons, part by part.
use Rattle.std.proofs.Common.{◌≡◌, ℕ, zero, suc, ◌+◌, ◌<◌, ℤ, pos, ◌+ℤ◌, ◌-ℤ◌, ◌≤ℤ◌, Bool, true, false, not, Option}
use Rattle.std.proofs.Common.{Some, None, List, [], ◌∷◌, ◌++◌, length, drop, get_or, refl, sym, ap, ◌∙◌, inl}
use Rattle.std.proofs.Common.{inr, ◌⊎◌, arith, All, Any}
use Rattle.std.proofs.lemmas.List.Elements.{All-nil, All-push, All-contains, Contains-push}
use Rattle.std.proofs.lemmas.List.Elements.{Contains-append_left, Contains-get_or}
use Rattle.std.proofs.lemmas.List.{at_drop_more}
use Rattle.std.proofs.lemmas.Int.{ints}
use Rattle.kb_logic.specs.declared.elements.ExtInt.{ExtInt}
use Rattle.kb_logic.specs.declared.syntax.AggKind.{AggKind}
use Rattle.lit_core.specs.declared.literals.Lit.{Lit}
use Rattle.lit_core.specs.Literals.{by_sign, by_sign_if_any, literal_value, negated, value_in}
use Rattle.lit_core.specs.Truth.{IsFalsified}
use Rattle.ground_core.specs.declared.parts.Part.{Part}
use Rattle.ground_core.specs.Meaning.{AreAllFalse}
use Rattle.term_bounds.specs.Reasons.{AreReasons, IsReason, differ}
use Rattle.term_bounds.specs.Shares.{least_total, opened, opened_total, raised, share}
use Rattle.term_bounds.specs.Totals.{counted_as, total, where_true}
use Rattle.term_bounds.proofs.ShareFacts.{none-least}

-- the literal of a part's variable that is false where the part's literal has the value
abbrev pub false_lit : Lit → Bool → Lit
false_lit l b = record { var = l.var; positive = differ l.positive b }

false-by : (s b x : Bool) → by_sign s x ≡ b → by_sign (differ s b) x ≡ false
false-by true true x e = ap not e
false-by true false x e = e
false-by false true x e = not-true x e
  where
    not-true : (x : Bool) → not x ≡ true → x ≡ false
    not-true false e = refl
    not-true true e = sym e
false-by false false x e = e

back-by : (s b x : Bool) → by_sign (differ s b) x ≡ false → by_sign s x ≡ b
back-by true true x e = not-false x e
  where
    not-false : (x : Bool) → not x ≡ false → x ≡ true
    not-false true e = refl
    not-false false e = sym e
back-by true false x e = e
back-by false true x e = ap not e
back-by false false x e = e

some-false : (s b : Bool) (o : Option Bool) → by_sign_if_any s o ≡ Some b → by_sign_if_any (differ s b) o ≡ Some false
some-false s b None e = absurd (wrong b e)
  where
    wrong : (b : Bool) → None ≡ Some b → ⊥
    wrong b e = cc
some-false s b (Some x) e = ap Some (false-by s b x (same (by_sign s x) b e))
  where
    same : (x y : Bool) → Some x ≡ Some y → x ≡ y
    same x y e = cc

is-false : (a : List (Option Bool)) (l : Lit) (b : Bool) → value_in a l ≡ Some b
    → value_in a (false_lit l b) ≡ Some false
is-false a l b e = some-false l.positive b (slot a l) e
  where
    slot : List (Option Bool) → Lit → Option Bool
    slot xs k = get_or xs k.var.0 None

-- the literal has its value where that one is false
pub was-value : (v : ℕ → Bool) (l : Lit) (b : Bool) → literal_value v (false_lit l b) ≡ false → literal_value v l ≡ b
was-value v l b e = back-by l.positive b (v l.var.0) e

-- what parts with values may count least, more than what they count
abbrev pub gap : List (Option Bool) → (ℕ → Bool) → AggKind → ExtInt → List Part → ℤ
gap a v k bound ps = (least_total a k bound ps +ℤ opened_total a v k bound ps) -ℤ total v k bound ps

-- the same of one part
abbrev pub part_gap : Option Bool → Bool → ℤ → ℤ
part_gap o x w = (share o w +ℤ opened o x w) -ℤ where_true x w

part-raised : (o : Option Bool) (x : Bool) (w : ℤ) → part_gap o x w ≤ℤ raised o w
part-raised None x w = omega (arith, ints)
part-raised (Some b) x w = let least : share None w ≤ℤ where_true x w = none-least w x in omega (arith, ints, least)

pub get_or-itself : (xs : List Part) (j : ℕ) (e : Part) → j < length xs → get_or xs j (get_or xs j e) ≡ get_or xs j e
get_or-itself [] j e l = absurd (omega arith)
get_or-itself (x ∷ xs) zero e l = refl
get_or-itself (x ∷ xs) (suc j) e l = get_or-itself xs j e (omega arith)

-- what was given so far, where these parts are left
pub record SoFar (a : List (Option Bool)) (k : AggKind) (bound : ExtInt) (ps rest : List Part) (first spare : ℤ)
    (c : List Lit) : Type 0 where
  pub falsified : IsFalsified a c
  pub low : pos 0 ≤ℤ spare
  pub total : (v : ℕ → Bool) → AreAllFalse v c → gap a v k bound ps ≤ℤ (gap a v k bound rest +ℤ (first -ℤ spare))
  pub within : All (λ (l : Lit). Any (λ (u : Part). u.lit.var.0 ≡ l.var.0) ps) c

module _ (a : List (Option Bool)) (k : AggKind) (bound : ExtInt) (ps : List Part) (first : ℤ) where
  abbrev Within : Lit → Type 0
  Within l = Any (λ (u : Part). u.lit.var.0 ≡ l.var.0) ps

  pub so-far-none : pos 0 ≤ℤ first → SoFar a k bound ps ps first first []
  so-far-none low = record {
    falsified = All-nil (λ l. value_in a l ≡ Some false);
    low = low;
    total = λ v off. omega (arith, ints);
    within = All-nil Within;
  }

  module _ (i : ℕ) (d : Part) (spare : ℤ) (c : List Lit) (lt : i < length ps)
      (h : SoFar a k bound ps (drop i ps) first spare c) where
    abbrev p : Part
    p = get_or ps i d

    abbrev w : ℤ
    w = counted_as k bound p.weight

    abbrev rest : List Part
    rest = drop (i + 1) ps

    gap-here : (v : ℕ → Bool) → gap a v k bound (drop i ps) ≡ part_gap (value_in a p.lit) (literal_value v p.lit) w
        +ℤ gap a v k bound rest
    gap-here v =
        let e : gap a v k bound (drop i ps) ≡ gap a v k bound (p ∷ rest) = at_drop_more (gap a v k bound) ps i d lt in
        omega (arith, ints, e)

    in-parts : Any (λ (u : Part). u.lit.var.0 ≡ p.lit.var.0) ps
    in-parts = (i, p, lt, get_or-itself ps i d lt, refl)

    -- the part's value is blamed
    pub so-far-kept : (b : Bool) → value_in a p.lit ≡ Some b → SoFar a k bound ps rest first spare
        (c ++ false_lit p.lit b ∷ [])
    so-far-kept b e = record {
      falsified = All-push (λ l. value_in a l ≡ Some false) c (false_lit p.lit b) h.falsified (is-false a p.lit b e);
      low = h.low;
      total = λ v off.
          let more : List Lit = c ++ false_lit p.lit b ∷ [] in
          let before : AreAllFalse v c = λ j m less. All-contains (λ l. literal_value v l ≡ false) more
          (get_or c j m) off (Contains-append_left c (false_lit p.lit b ∷ []) (get_or c j m)
          (Contains-get_or c j m less)) in
          let last : literal_value v (false_lit p.lit b) ≡ false = All-contains (λ l. literal_value v l ≡ false) more
          (false_lit p.lit b) off (Contains-push c (false_lit p.lit b)) in
          let same : literal_value v p.lit ≡ b = was-value v p.lit b last in
          let none : part_gap (value_in a p.lit) (literal_value v p.lit) w ≡ part_gap (Some b) b w =
          ap (λ o. part_gap o (literal_value v p.lit) w) e ∙ ap (λ x. part_gap (Some b) x w) same in
          let zero-is : part_gap (Some b) b w ≡ pos 0 = omega (arith, ints) in
          omega (arith, ints, h.total v before, gap-here v, none, zero-is);
      within = All-push Within c (false_lit p.lit b) h.within in-parts;
    }

    -- the part's value is not needed
    pub so-far-spared : (left : ℤ) → left ≡ spare -ℤ raised (value_in a p.lit) w → pos 0 ≤ℤ left
        → SoFar a k bound ps rest first left c
    so-far-spared left e low = record {
      falsified = h.falsified;
      low = low;
      total = λ v off.
          let least : part_gap (value_in a p.lit) (literal_value v p.lit) w ≤ℤ raised (value_in a p.lit) w =
          part-raised (value_in a p.lit) (literal_value v p.lit) w in
          omega (arith, ints, h.total v off, gap-here v, least, e);
      within = h.within;
    }

  -- nothing is left
  pub so-far-all : (spare : ℤ) (c : List Lit) → SoFar a k bound ps [] first spare c → AreReasons a k bound ps first c
  so-far-all spare c h = record {
    falsified = h.falsified;
    total = λ v off. let x : gap a v k bound ps ≤ℤ (gap a v k bound [] +ℤ (first -ℤ spare)) = h.total v off in
        let low : pos 0 ≤ℤ spare = h.low in omega (arith, ints, x, low);
    within = h.within;
  }

module _ (a : List (Option Bool)) (k : AggKind) (bound : ExtInt) (out : Lit) (ps : List Part) (spare : ℤ) where
  out-false : value_in a out ≡ Some true → value_in a (negated out) ≡ Some false
  out-false e = negated-false out.positive (get_or a out.var.0 None) e
    where
      negated-false : (s : Bool) (o : Option Bool) → by_sign_if_any s o ≡ Some true
          → by_sign_if_any (not s) o ≡ Some false
      negated-false true o e = some-false true true o e
      negated-false false o e = some-false false true o e

  abbrev OfEither : Lit → Type 0
  OfEither l = (out.var.0 ≡ l.var.0) ⊎ Any (λ (u : Part). u.lit.var.0 ≡ l.var.0) ps

  -- with the output's negation the literals are a reason
  pub with-output : (c : List Lit) → value_in a out ≡ Some true → AreReasons a k bound ps spare c
      → IsReason a k bound out ps spare (c ++ negated out ∷ [])
  with-output c e h = record {
    falsified = All-push (λ l. value_in a l ≡ Some false) c (negated out) h.falsified (out-false e);
    output = Contains-push c (negated out);
    total = λ v off.
        let more : List Lit = c ++ negated out ∷ [] in
        h.total v (λ j m less. All-contains (λ l. literal_value v l ≡ false) more (get_or c j m) off
        (Contains-append_left c (negated out ∷ []) (get_or c j m) (Contains-get_or c j m less)));
    within = All-push OfEither c (negated out) (λ j m less. inr (h.within j m less)) (inl refl);
  }
