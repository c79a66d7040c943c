-- Clauses that are removed one after another.
use Rattle.std.proofs.Common.{◌≡◌, ℕ, ◌<◌, Option, Some, None, List, [], ◌∷◌, ◌++◌, length, set, slice_get, refl, sym}
use Rattle.std.proofs.Common.{ap, ◌∙◌, subst, ⊎_elim, Contains}
use Rattle.std.proofs.lemmas.List.{length-set}
use Rattle.std.proofs.lemmas.List.Elements.{Contains-append_left, Contains-push, Contains-push_cases}
use Rattle.lit_core.specs.declared.literals.Lit.{Lit}
use Rattle.lit_core.proofs.LiteralFacts.{nothing_in_none}
use Rattle.clause_store.proofs.ListFacts.{slice_get-set_cases, slice_get-set_other, slice_get-set_same}
use Rattle.search_engine.specs.Knowledge.{RemovesAll}

pub removes-nothing : (xs : List (Option (List Lit))) → RemovesAll [] xs xs
removes-nothing xs = record {
  size = refl;
  back = λ id k e. e;
  there = λ id k e n. e;
  gone = λ id k has e. nothing_in_none id has;
}

pub removes-id : (ids : List ℕ) (i : ℕ) (old mid new : List (Option (List Lit))) → i < length mid → new ≡ set mid i None
    → RemovesAll ids old mid → RemovesAll (ids ++ i ∷ []) old new
removes-id ids i old mid new lt is h =
    let seen = λ (id : ℕ) (k : List Lit) (e : slice_get new id ≡ Some (Some k)). slice_get-set_cases mid i None id
    (Some k) (ap (λ (xs : List (Option (List Lit))). slice_get xs id) (sym is) ∙ e) (λ (x : None ≡ Some k). cc) in
    record {
      size = ap length is ∙ (length-set mid i None ∙ h.size);
      back = λ id k e. h.back id k (seen id k e);
      there = λ id k e other.
          let ne = λ (x : id ≡ i). other (subst (Contains (ids ++ i ∷ [])) (sym x) (Contains-push ids i)) in
          ap (λ (xs : List (Option (List Lit))). slice_get xs id) is
          ∙ (slice_get-set_other mid i id None ne ∙ h.there id k e
          (λ has. other (Contains-append_left ids (i ∷ []) id has)));
      gone = λ id k has e. ⊎_elim
          (λ o. h.gone id k o (seen id k e))
          (λ (x : i ≡ id).
          let here : slice_get (set mid i None) i ≡ Some None = slice_get-set_same mid i None lt in
          let there : slice_get (set mid i None) i ≡ Some (Some k) =
          ap (λ (xs : List (Option (List Lit))). slice_get xs i) (sym is) ∙ (ap (slice_get new) x ∙ e) in
          let both : Some None ≡ Some (Some k) = sym here ∙ there in
          cc)
          (Contains-push_cases ids i id has);
    }
