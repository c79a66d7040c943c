-- The text that is written is that of the fields.
use Rattle.std.proofs.Common.{◌≡◌, ℕ, pos, negsuc, Bool, true, false, List, [], ◌∷◌, ◌++◌, flat_map, codes}
use Rattle.std.proofs.Common.{if◌then◌else◌, refl, ap, ◌∙◌, arith, ◌<◌, ◌+◌}
use Rattle.std.proofs.lemmas.List.{append_assoc}
use Rattle.std.specs.Fmt.{decimal}
use Rattle.std.proofs.lemmas.Fmt.{decimal_by_steps}
use Rattle.kb_logic.specs.declared.elements.ExtInt.{ExtInt}
use Rattle.kb_logic.specs.declared.elements.ExtInt.TheVariants.{NegInf, Num, PosInf}
use Rattle.kb_logic.specs.Decimals.{decimal_text}
use Rattle.lit_core.specs.declared.literals.Lit.{Lit}
use Rattle.derivation_log.specs.declared.entries.Entry.TheVariants.{Mark, Learnt, Sum, Bound, Exclude, Inconsistent}
use Rattle.derivation_log.specs.declared.entries.Entry.TheVariants.{Forced, Least}
use Rattle.derivation_log.specs.Texts.{field_text, put_line, literal_field, bound_field, literals_then, numbers_then}
use Rattle.derivation_log.specs.Texts.{IsBelow}
use Rattle.derivation_log.specs.declared.fields.Field.{Field}
use Rattle.derivation_log.specs.declared.fields.Field.TheVariants.{Letter, Plain, Minus}
use Rattle.derivation_log.specs.Lines.{literal_text, literals_text, numbers_text}
use Rattle.derivation_log.specs.Laws.{TextIsOfTheFields}

-- what comes behind a field
abbrev tail : List Field → List ℕ → List ℕ
tail [] rest = 10 ∷ rest
tail (f ∷ fs) rest = 32 ∷ put_line (f ∷ fs) rest

put : (f : Field) (fs : List Field) (rest : List ℕ) → put_line (f ∷ fs) rest ≡ field_text f ++ tail fs rest
put f [] rest = refl
put f (g ∷ fs) rest = refl

signed : (b : Bool) (n : ℕ) → field_text (if b then Plain n else Minus n) ≡
    (if b then decimal n else codes "-" ++ decimal n)
signed true n = refl
signed false n = refl

below : (k : ExtInt) → IsBelow k → field_text (bound_field k) ≡ decimal_text k
below NegInf h = absurd h
below (Num (pos n)) h = refl
below (Num (negsuc n)) h = refl
below PosInf h = refl

tail-lits : (ls : List Lit) (fs : List Field) (rest : List ℕ)
    → tail (literals_then ls fs) rest ≡ 32 ∷ put_line (literals_then ls fs) rest
tail-lits [] fs rest = refl
tail-lits (l ∷ ls) fs rest = refl

tail-nums : (ns : List ℕ) (rest : List ℕ) → tail (numbers_then ns []) rest ≡ 32 ∷ put_line (numbers_then ns []) rest
tail-nums [] rest = refl
tail-nums (n ∷ ns) rest = refl

nought : decimal 0 ≡ codes "0"
nought = decimal_by_steps (λ n ds. n < 10 → ds ≡ (48 + n) ∷ []) (λ n lt h. refl)
    (λ n ds le is h. absurd (omega arith)) 0 (omega arith) (omega arith)

lits : (ls : List Lit) (fs : List Field) (rest : List ℕ) → put_line (literals_then ls fs) rest ≡ literals_text ls
    ++ tail fs rest
lits [] fs rest = put (Plain 0) fs rest ∙ ap (λ x. x ++ tail fs rest) nought
lits (l ∷ ls) fs rest =
    put (literal_field l) (literals_then ls fs) rest ∙ ap (λ x. field_text (literal_field l) ++ x)
    (tail-lits ls fs rest ∙ ap (λ x. 32 ∷ x) (lits ls fs rest))
    ∙ ap (λ x. x ++ 32 ∷ (literals_text ls ++ tail fs rest)) (signed l.positive l.var.0)
    ∙ join (literal_text l) (flat_map (λ (m : Lit). literal_text m ++ codes " ") ls) (codes "0") (tail fs rest)
  where
    join : (a b c d : List ℕ) → a ++ 32 ∷ ((b ++ c) ++ d) ≡ (((a ++ codes " ") ++ b) ++ c) ++ d
    join a b c d = simp (append_assoc)

nums : (ns : List ℕ) (rest : List ℕ) → put_line (numbers_then ns []) rest ≡ numbers_text ns ++ 10 ∷ rest
nums [] rest = put (Plain 0) [] rest ∙ ap (λ x. x ++ 10 ∷ rest) nought
nums (n ∷ ns) rest =
    put (Plain n) (numbers_then ns []) rest ∙ ap (λ x. decimal n ++ x)
    (tail-nums ns rest ∙ ap (λ x. 32 ∷ x) (nums ns rest))
    ∙ join (decimal n) (flat_map (λ (m : ℕ). decimal m ++ codes " ") ns) (codes "0") (10 ∷ rest)
  where
    join : (a b c d : List ℕ) → a ++ 32 ∷ ((b ++ c) ++ d) ≡ (((a ++ codes " ") ++ b) ++ c) ++ d
    join a b c d = simp (append_assoc)

pub linked : TextIsOfTheFields
linked (Mark n) rest h = simp (append_assoc)
linked (Learnt ls hs) rest h = put (Letter 108) _ rest
    ∙ simp (
      append_assoc,
      tail-lits ls (numbers_then hs []) rest,
      lits ls (numbers_then hs []) rest,
      tail-nums hs rest,
      nums hs rest,
    )
linked (Sum n ls) rest h =
    simp (append_assoc, put (Plain n) (literals_then ls []) rest, tail-lits ls [] rest, lits ls [] rest)
linked (Bound s t k) rest h = simp (append_assoc, below k h.2)
linked (Exclude s ls) rest h =
    simp (append_assoc, put (Plain s.0) (literals_then ls []) rest, tail-lits ls [] rest, lits ls [] rest)
linked (Inconsistent ls c) rest h = put (Letter 105) _ rest
    ∙ simp (append_assoc, tail-lits ls (Plain c ∷ []) rest, lits ls (Plain c ∷ []) rest)
linked (Forced l ls c) rest h =
    simp (
      append_assoc,
      put (literal_field l) (literals_then ls (Plain c ∷ [])) rest,
      signed l.positive l.var.0,
      tail-lits ls (Plain c ∷ []) rest,
      lits ls (Plain c ∷ []) rest,
    )
linked (Least t k ls c) rest h =
    simp (
      append_assoc,
      put (bound_field k) (literals_then ls (Plain c ∷ [])) rest,
      below k h.1,
      tail-lits ls (Plain c ∷ []) rest,
      lits ls (Plain c ∷ []) rest,
    )
