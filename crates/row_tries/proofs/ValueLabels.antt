-- The values for which labels stand.
use Rattle.std.proofs.Common.{◌≡◌, ℕ, List, ◌==◌, Option, None, Some, true, refl, sym, ap, ◌∙◌, slice_get}
use Rattle.std.specs.Option.{option_map, option_eq}
use Rattle.std.specs.Str.{bytes_eq}
use Rattle.std.proofs.lemmas.Bool.{eq-eqb}
use Rattle.std.proofs.lemmas.Slice.Eq.{bytes_eq-Decides}
use Rattle.kb_logic.specs.Denotations.{Denotation, named, number, minus_infinity, plus_infinity, undefined}
use Rattle.row_tries.specs.Words.{place}
use Rattle.row_tries.specs.Values.{value_label}
use Rattle.row_tries.specs.declared.rows.Label.TheVariants.{Word}
use Rattle.row_tries.proofs.Places.{found}

-- which word a label stands for
word_by : (ws : List (List ℕ)) (q : List ℕ) (o : Option ℕ) (n : ℕ) → place (bytes_eq q) ws ≡ o
    → option_map Word o ≡ Some (Word n) → (place (bytes_eq q) ws ≡ Some n) × (slice_get ws n ≡ Some q)
word_by ws q None n e h = cc
word_by ws q (Some m) n e h =
    let same : m ≡ n = cc in
    let at : place (bytes_eq q) ws ≡ Some n = e ∙ ap Some same in
    let f = found (bytes_eq q) ws n at in
    let is : q ≡ f.item = (bytes_eq-Decides q f.item).0 f.passes in
    (at, f.at ∙ ap Some (sym is))

pub word_is : (ws : List (List ℕ)) (v : Denotation) (n : ℕ) → value_label ws v ≡ Some (Word n)
    → (q : List ℕ) × (place (bytes_eq q) ws ≡ Some n) × (slice_get ws n ≡ Some q)
word_is ws (named q) n h = let r = word_by ws q (place (bytes_eq q) ws) n refl h in (q, r.0, r.1)
word_is ws (number z) n h = cc
word_is ws minus_infinity n h = cc
word_is ws plus_infinity n h = cc
word_is ws undefined n h = cc

pub equal_some : (o : Option ℕ) (n : ℕ) → o ≡ Some n → option_eq ◌==◌ o (Some n) ≡ true
equal_some o n e = ap (λ u. option_eq ◌==◌ u (Some n)) e ∙ eq-eqb n n refl

some_word : (q r : List ℕ) → Some q ≡ Some r → q ≡ r
some_word q r e = cc

pub same_word : (ws : List (List ℕ)) (q r : List ℕ) (n : ℕ) → Some q ≡ Some r → place (bytes_eq r) ws ≡ Some n
    → place (bytes_eq q) ws ≡ Some n
same_word ws q r n e h = ap (λ t. place (bytes_eq t) ws) (some_word q r e) ∙ h
