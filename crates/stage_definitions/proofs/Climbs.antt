-- The uses that look for cycles of `isa`, one after another.
use Rattle.std.proofs.Common.{◌≡◌, ◌<◌, ◌==◌, ℕ, zero, suc, ◌+◌, ◌-◌, Bool, true, false, if◌then◌else◌, nat_lt, None}
use Rattle.std.proofs.Common.{Some, slice_get, List, [], ◌∷◌, Option, length, get_or, drop, map, fold, refl, ap, ◌∙◌}
use Rattle.std.proofs.Common.{sym, add-one, subst, arith}
use Rattle.std.proofs.lemmas.List.{length-map}
use Rattle.std.proofs.lemmas.Bool.Decides.{nat_tests}
use Rattle.kb_text.specs.declared.fault.KbFault.{KbFault}
use Rattle.kb_text.specs.declared.fault.K.TheVariants as k
use Rattle.stage_definitions.specs.Earliest.{noted_if}
use Rattle.grammar.specs.Trees.{Name}
use Rattle.stage_definitions.specs.Files.{Declaration, type_under, constructed_type, symbol}
use Rattle.stage_definitions.specs.Names.{Names, place_of_name}
use Rattle.stage_definitions.specs.NamesStage.{name_noted, begins_cycle, comes_back, stepped}
use Rattle.stage_definitions.specs.Numbering.{type_places}
use Rattle.stage_definitions.proofs.Forest.{same_here}
use Rattle.stage_definitions.specs.Uses.{climbs, climbing_uses, type_names}

-- the places of the types' names are those of the vocabulary
pub type_places-is : (ds : List Declaration) → map place_of_name (type_names ds) ≡ type_places ds
type_places-is [] = refl
type_places-is (type_under n p ∷ ds) = ap (λ (ps : List ℕ). place_of_name n ∷ ps) (type_places-is ds)
type_places-is (constructed_type n ns ∷ ds) = ap (λ (ps : List ℕ). place_of_name n ∷ ps) (type_places-is ds)
type_places-is (symbol n args to ∷ ds) = type_places-is ds

-- the name after the first i ones, and its place
name_at : (ts : List Name) (i : ℕ) → i < length ts → (n : Name) × (drop i ts ≡ n ∷ drop (suc i) ts)
    × (place_of_name n ≡ get_or (map place_of_name ts) i 0)
name_at [] i lt = absurd (omega arith)
name_at (t ∷ ts) zero lt = (t, refl, refl)
name_at (t ∷ ts) (suc i) lt = name_at ts i (omega arith)

-- one type more, where the places are those of the names
pub climb_on : (names : Names) (ps : List (Option ℕ)) (i : ℕ) (b : Bool) (o next whole : Option KbFault)
    (ts : List Name) (places : List ℕ)
    → map place_of_name ts ≡ places → i < length places → b ≡ begins_cycle ps i → next ≡ noted_if b k.Redeclared
    (get_or places i 0) o
    → fold (name_noted names) o (climbing_uses ps i (drop i ts)) ≡ whole
    → fold (name_noted names) next (climbing_uses ps (i + 1) (drop (i + 1) ts)) ≡ whole
climb_on names ps i b o next whole ts places are lt begins noted h =
    let len : length ts ≡ length places = sym (length-map ts place_of_name) ∙ ap length are in
    let here = name_at ts i (omega arith) in
    let same : place_of_name here.0 ≡ get_or places i 0 = here.2 ∙ ap (λ (ps : List ℕ). get_or ps i 0) are in
    let is : next ≡ name_noted names o (climbs ps i here.0) = noted ∙ rw (begins, same) refl in
    let rest : fold (name_noted names) (name_noted names o (climbs ps i here.0))
    (climbing_uses ps (i + 1) (drop (suc i) ts)) ≡ whole = rw here.1 at h in
    let more : drop (suc i) ts ≡ drop (i + 1) ts = ap (λ (k : ℕ). drop k ts) (sym (add-one i)) in
    subst (λ (us : List Name). fold (name_noted names) next (climbing_uses ps (i + 1) us) ≡ whole) more
    (ap (λ (f : Option KbFault). fold (name_noted names) f (climbing_uses ps (i + 1) (drop (suc i) ts))) is ∙ rest)

-- ---- the walk up that looks for a cycle

-- one step of the walk, where so many steps are left after it
module _ (ps : List (Option ℕ)) (t a i steps : ℕ) (whole : Bool)
    (so_far : (m : ℕ) → m + i ≡ steps → comes_back m ps t a ≡ whole) (left : i < steps) where
  turn : (r : Option ℕ) → ((test : ℕ → Bool) → stepped (slice_get ps a) test ≡ stepped (Some r) test) → (k : ℕ)
      → k + suc i ≡ steps
      → stepped (Some r) (λ b. if b == t then true else (if nat_lt b t then false else comes_back k ps t b)) ≡ whole
  turn r up k sum = sym (up (λ b. if b == t then true else (if nat_lt b t then false else comes_back k ps t b)))
      ∙ so_far (suc k) (omega arith)

  pub ends : ((test : ℕ → Bool) → stepped (slice_get ps a) test ≡ stepped (Some None) test) → false ≡ whole
  ends up = turn None up (steps - suc i) (omega arith)

  pub is_back : (b : ℕ) → ((test : ℕ → Bool) → stepped (slice_get ps a) test ≡ stepped (Some (Some b)) test) → b ≡ t
      → true ≡ whole
  is_back b up e =
      let same : (b == t) ≡ true = same_here b t e in
      rw same at (turn (Some b) up (steps - suc i) (omega arith))

  pub is_past : (b : ℕ) → ((test : ℕ → Bool) → stepped (slice_get ps a) test ≡ stepped (Some (Some b)) test) → b < t
      → false ≡ whole
  is_past b up lt =
      let other : (b == t) ≡ false = grind (arith, nat_tests) in
      let less : nat_lt b t ≡ true = grind (arith, nat_tests) in
      rw (other, less) at (turn (Some b) up (steps - suc i) (omega arith))

  pub goes_on : (b : ℕ) → ((test : ℕ → Bool) → stepped (slice_get ps a) test ≡ stepped (Some (Some b)) test) → t < b
      → (m : ℕ) → m + (i + 1) ≡ steps → comes_back m ps t b ≡ whole
  goes_on b up lt m sum =
      let other : (b == t) ≡ false = grind (arith, nat_tests) in
      let less : nat_lt b t ≡ false = grind (arith, nat_tests) in
      rw (other, less) at (turn (Some b) up m (omega arith))
