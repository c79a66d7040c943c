-- The first symbol of a name.
use Rattle.std.proofs.Common.{◌≡◌, ◌≢◌, ℕ, ◌+◌, ◌<◌, ◌≤◌, List, length, refl, sym, ap, ◌∙◌, Some, Bool, false, arith}
use Rattle.std.proofs.Common.{below_more}
use Rattle.std.specs.Str.{bytes_eq}
use Rattle.std.proofs.lemmas.Slice.Eq.{bytes_eq-Decides}
use Rattle.std.specs.List.{slice_get, Contains}
use Rattle.std.proofs.lemmas.Option.{slice_get_read}
use Rattle.kb_logic.specs.declared.vocabularies.Symbol.{Symbol}

pub no_more_named : (xs : List Symbol) (name : List ℕ) (i : ℕ) (s : Symbol)
    → ((n : ℕ) (t : Symbol) → n < i → slice_get xs n ≡ Some t → t.name ≢ name) → slice_get xs i ≡ Some s → s.name ≢ name
    → (n : ℕ) (t : Symbol) → n < i + 1 → slice_get xs n ≡ Some t → t.name ≢ name
no_more_named xs name i s before at other n t lt found q =
    below_more (λ n. (t : Symbol) → slice_get xs n ≡ Some t → t.name ≢ name) i (λ k h u. before k u h)
    (λ u e f. let same : s ≡ u = cc in other (ap (λ (z : Symbol). z.name) same ∙ f)) n lt t found q

pub not_named : (xs : List Symbol) (name : List ℕ) (i : ℕ) → length xs ≤ i
    → ((n : ℕ) (t : Symbol) → n < i → slice_get xs n ≡ Some t → t.name ≢ name) → (s : Symbol) → Contains xs s
    → s.name ≢ name
not_named xs name i past before s at =
    before at.0 s (omega (arith, at.1)) (slice_get_read xs (length xs) at.0 s refl at.1 (sym at.2))

pub not_this : (text name : List ℕ) (test : Bool) → test ≡ bytes_eq text name → test ≡ false → text ≢ name
not_this text name test is no_match e = let yes_match = (bytes_eq-Decides text name).1 e in absurd (cc)
