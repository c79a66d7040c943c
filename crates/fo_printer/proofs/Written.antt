-- Entries that are written one after another.
use Rattle.std.proofs.Common.{◌≡◌, ℕ, List, [], ◌∷◌, ◌++◌, flat_map, refl, ap, ◌∙◌, append_assoc}
use Rattle.std.specs.Prelude.{Result, OnOk}
use Rattle.std.proofs.lemmas.Grind.{flat_map-append}
use Rattle.std.proofs.lemmas.Result.{on_ok_weaker}
use Rattle.printed_texts.specs.Entries.{PlainEntry}
use Rattle.printed_texts.specs.Texts.{entry_text, entries_text}

pub entries_each : {A : Type 0} (entries : A → List PlainEntry) (xs : List A) → entries_text (flat_map entries xs)
    ≡ flat_map (λ x. entries_text (entries x)) xs
entries_each entries [] = refl
entries_each entries (x ∷ xs) = flat_map-append entry_text (entries x) (flat_map entries xs)
    ∙ ap (λ (t : List ℕ). entries_text (entries x) ++ t) (entries_each entries xs)

pub two_written : {T E : Type 0} (r : Result T E) (out first second : List ℕ) (xs ys : List PlainEntry)
    → first ≡ out ++ entries_text xs → OnOk r (second ≡ first ++ entries_text ys)
    → OnOk r (second ≡ out ++ entries_text (xs ++ ys))
two_written r out first second xs ys e = on_ok_weaker r (λ f. f ∙ rw (e, flat_map-append entry_text xs ys)
    (append_assoc out (entries_text xs) (entries_text ys)))

pub all_written : {T E A B : Type 0} (r : Result T E) (out first second : List ℕ) (f : A → List PlainEntry)
    (g : B → List PlainEntry) (xs : List A) (ys : List B)
    → first ≡ out ++ flat_map (λ x. entries_text (f x)) xs → OnOk r
    (second ≡ first ++ flat_map (λ y. entries_text (g y)) ys)
    → OnOk r (second ≡ out ++ entries_text (flat_map f xs ++ flat_map g ys))
all_written r out first second f g xs ys e h =
    two_written r out first second (flat_map f xs) (flat_map g ys) (rw (entries_each f xs) e) (rw (entries_each g ys) h)
