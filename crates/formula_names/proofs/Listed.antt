-- A look-up in a table is one in the names that it lists.
use Rattle.std.proofs.Common.{◌≡◌, ℕ, Bool, true, false, List, [], ◌∷◌, ◌++◌, Option, None, Some, is_some}
use Rattle.std.proofs.Common.{if◌then◌else◌, cond, refl, ◌∙◌, map, Bor}
use Rattle.std.specs.Option.{option_map}
use Rattle.std.proofs.lemmas.List.{map-append}
use Rattle.std.specs.Map.{lookup}
use Rattle.std.specs.Str.{bytes_eq}
use Rattle.stage_definitions.specs.Scopes.{Text}
use Rattle.stage_definitions.specs.Names as names
use Rattle.stage_definitions.specs.Names.{meaning_in, meaning_of, declared}
use Rattle.formula_names.specs.Meanings.{meaning_view}
use Rattle.formula_names.specs.declared.tables.Meaning.{Meaning}

looked_up_by : (o : Option Meaning) (m : Meaning) (b : Bool) (p : Option names.Meaning) → p ≡ option_map meaning_view o
    → (if b then Some (meaning_view m) else p) ≡ option_map meaning_view (cond b (Some m) o)
looked_up_by o m true p e = refl
looked_up_by o m false p e = e

pub looked_up : (es : List (Bor (List ℕ) × Meaning)) (w : Text)
    → meaning_in (map (λ (e : Bor (List ℕ) × Meaning). (e.0.now, meaning_view e.1)) es) w ≡ option_map meaning_view
    (lookup (λ k. bytes_eq w k.now) es)
looked_up [] w = refl
looked_up (e ∷ es) w = looked_up_by (lookup (λ k. bytes_eq w k.now) es) e.1 (bytes_eq w e.0.now) _ (looked_up es w)

some_of : (o : Option Meaning) → is_some (option_map meaning_view o) ≡ is_some o
some_of None = refl
some_of (Some m) = refl

pub is_listed : (es : List (Bor (List ℕ) × Meaning)) (w : Text)
    → is_some (lookup (λ k. bytes_eq w k.now) es) ≡ is_some (meaning_in
    (map (λ (e : Bor (List ℕ) × Meaning). (e.0.now, meaning_view e.1)) es) w)
is_listed es w = rw (looked_up es w, some_of) refl

pub meaning_found : (es : List (Bor (List ℕ) × Meaning)) (w : Text) (m : Meaning)
    → Some m ≡ lookup (λ k. bytes_eq w k.now) es
    → meaning_view m ≡ meaning_of (map (λ (e : Bor (List ℕ) × Meaning). (e.0.now, meaning_view e.1)) es) w
meaning_found es w m e = rw (looked_up es w, ← e) refl

pub meaning_missing : (es : List (Bor (List ℕ) × Meaning)) (w : Text) → None ≡ lookup (λ k. bytes_eq w k.now) es
    → names.undeclared ≡ meaning_of (map (λ (e : Bor (List ℕ) × Meaning). (e.0.now, meaning_view e.1)) es) w
meaning_missing es w e = rw (looked_up es w, ← e) refl

added_by : (ns : names.Names) (w : Text) (m : names.Meaning) (b : Bool) → is_some (meaning_in ns w) ≡ b → b ≡ false
    → ns ++ (w, m) ∷ [] ≡ declared ns w m
added_by ns w m b e f = rw (e, f) refl

pub added : (es new : List (Bor (List ℕ) × Meaning)) (k : Bor (List ℕ)) (m : Meaning)
    → new ≡ es ++ (k, m) ∷ []
    → is_some (meaning_in (map (λ (e : Bor (List ℕ) × Meaning). (e.0.now, meaning_view e.1)) es) k.now) ≡ false
    → map (λ (e : Bor (List ℕ) × Meaning). (e.0.now, meaning_view e.1)) new
    ≡ declared (map (λ (e : Bor (List ℕ) × Meaning). (e.0.now, meaning_view e.1)) es) k.now (meaning_view m)
added es new k m more absent =
    rw (more, map-append)
    (added_by (map (λ (e : Bor (List ℕ) × Meaning). (e.0.now, meaning_view e.1)) es) k.now
    (meaning_view m) _ refl absent)

none_of : (o : Option Meaning) → is_some o ≡ false → o ≡ None
none_of None e = refl
none_of (Some m) e = absurd (let n : ⊥ = cc in n)

pub absent_in : (es : List (Bor (List ℕ) × Meaning)) (w : Text)
    → is_some (meaning_in (map (λ (e : Bor (List ℕ) × Meaning). (e.0.now, meaning_view e.1)) es) w) ≡ false
    → lookup (λ k. bytes_eq w k.now) es ≡ None
absent_in es w e = none_of (lookup (λ k. bytes_eq w k.now) es) (is_listed es w ∙ e)
