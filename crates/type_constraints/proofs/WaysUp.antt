-- The walk up from a type that looks for another one.
use Rattle.std.proofs.Common.{◌≡◌, ◌<◌, ◌==◌, ℕ, zero, suc, ◌+◌, ◌-◌, Bool, true, false, List, Option, None, Some}
use Rattle.std.proofs.Common.{unwrap_or, length, slice_get, refl, ap, ◌∙◌, sym, arith}
use Rattle.std.proofs.lemmas.List.{length-map}
use Rattle.kb_logic.specs.declared.vocabularies.TypeDecl.{TypeDecl}
use Rattle.stage_definitions.specs.Below.{Parents, reaches, type_parents, type_above}
use Rattle.stage_definitions.specs.Kinship.{is_under}
use Rattle.stage_definitions.specs.DataDomains.{parent_of_type}
use Rattle.stage_definitions.specs.NamesStage.{stepped}
use Rattle.stage_definitions.proofs.Forest.{equal, same_here}

pub apart : (a b : ℕ) → (a ≡ b → ⊥) → (a == b) ≡ false
apart a b differ =
    let by : (c : Bool) → (a == b) ≡ c → c ≡ false = λ c is.
    elim c as (λ c. (a == b) ≡ c → c ≡ false) [ true ↦ λ e. absurd (differ (equal a b e)) | false ↦ λ e. refl ] is in
    by (a == b) refl

step_none : (o : Option (Option ℕ)) (test : ℕ → Bool) → unwrap_or o None ≡ None → stepped o test ≡ false
step_none None test e = refl
step_none (Some None) test e = refl
step_none (Some (Some p)) test e = absurd (let no : ⊥ = cc in no)

step_some : (o : Option (Option ℕ)) (test : ℕ → Bool) (p : ℕ) → unwrap_or o None ≡ Some p → stepped o test ≡ test p
step_some None test p e = absurd (let no : ⊥ = cc in no)
step_some (Some None) test p e = absurd (let no : ⊥ = cc in no)
step_some (Some (Some q)) test p e = let same : q ≡ p = cc in ap test same

here : (m : ℕ) (ps : Parents) (t u : ℕ) → t ≡ u → reaches m ps t u ≡ true
here zero ps t u e = same_here t u e
here (suc m) ps t u e = rw (same_here t u e) refl

no_way : (m : ℕ) (ps : Parents) (t u : ℕ) → (t ≡ u → ⊥) → unwrap_or (slice_get ps t) None ≡ None
    → reaches m ps t u ≡ false
no_way zero ps t u differ e = apart t u differ
no_way (suc m) ps t u differ e = rw (apart t u differ) (step_none (slice_get ps t) (λ p. reaches m ps p u) e)

one_up : (m : ℕ) (ps : Parents) (t p u : ℕ) → (t ≡ u → ⊥) → unwrap_or (slice_get ps t) None ≡ Some p
    → reaches (suc m) ps t u ≡ reaches m ps p u
one_up m ps t p u differ e = rw (apart t u differ) (step_some (slice_get ps t) (λ q. reaches m ps q u) p e)

-- the walk, where so many steps are left
module _ (types : List TypeDecl) (at u i : ℕ) (whole : Bool)
    (so_far : (m : ℕ) → m + i ≡ length types → reaches m (type_parents types) at u ≡ whole) where
  pub is_here : i < length types → at ≡ u → true ≡ whole
  is_here lt e = sym (here (length types - i) (type_parents types) at u e) ∙ so_far (length types - i) (omega arith)

  pub is_nowhere : i < length types → (at ≡ u → ⊥) → None ≡ parent_of_type types at → false ≡ whole
  is_nowhere lt differ e = sym (no_way (length types - i) (type_parents types) at u differ (sym e))
      ∙ so_far (length types - i) (omega arith)

  pub is_further : (p : ℕ) → (at ≡ u → ⊥) → Some p ≡ parent_of_type types at → (m : ℕ)
      → m + suc i ≡ length types
      → reaches m (type_parents types) p u ≡ whole
  is_further p differ e m sum = sym (one_up m (type_parents types) at p u differ (sym e)) ∙ so_far (suc m) (omega arith)

pub begins : (types : List TypeDecl) (t u m : ℕ) → m + 0 ≡ length types → reaches m (type_parents types) t u
    ≡ is_under types t u
begins types t u m e =
    let same : m ≡ length (type_parents types) = (let plain : m ≡ length types = omega arith in plain)
    ∙ sym (length-map types (λ (d : TypeDecl). type_above d.parent)) in
    ap (λ k. reaches k (type_parents types) t u) same
