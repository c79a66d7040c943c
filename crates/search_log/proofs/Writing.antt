-- An entry that was written.
use Rattle.std.proofs.Common.{◌≡◌, ℕ, ◌+◌, ◌<◌, ◌≤◌, List, [], ◌∷◌, ◌++◌, length, get_or, sym, ap, ◌∙◌, subst, arith}
use Rattle.std.proofs.Common.{⊎_elim}
use Rattle.std.specs.Prelude.{Result, Ok, Err, OnOk, OnErr}
use Rattle.std.proofs.lemmas.Bool.{cases_lt}
use Rattle.std.proofs.lemmas.List.{append-nil, get_or_append_left, get_or_push}
use Rattle.std.proofs.lemmas.List.Elements.{All-nil, All-cons}
use Rattle.derivation_log.specs.declared.entries.Entry.{Entry}
use Rattle.derivation_log.specs.Lines.{entry_text}
use Rattle.search_log.specs.Entries.{Grows, IsOfSearch, grows-same}

-- one entry more, or none
pub written : {A E : Type 0} (r : Result A E) (old new : List ℕ) (e : Entry) → IsOfSearch e
    → OnOk r (new ≡ old ++ entry_text e) → OnErr r (new ≡ old) → Grows old new
written (Ok x) old new e plain ok err = (
  e ∷ [],
  All-cons IsOfSearch e [] plain (All-nil IsOfSearch),
  ok ∙ ap (λ (t : List ℕ). old ++ t) (sym (append-nil (entry_text e))),
)
written (Err x) old new e plain ok err = grows-same old new err

-- the numbers so far, and the next one
pub next-number : (xs : List ℕ) (n : ℕ) → length xs ≡ n → ((k : ℕ) → k < n → get_or xs k 0 ≡ k + 1) → (k : ℕ)
    → k < n + 1 → get_or (xs ++ (n + 1) ∷ []) k 0 ≡ k + 1
next-number xs n size h k lt = ⊎_elim
    (λ (below : k < n). get_or_append_left xs ((n + 1) ∷ []) 0 k (omega (arith, size, below)) ∙ h k below)
    (λ (up : n ≤ k).
    let same : k ≡ n = omega (arith, lt, up) in
    subst (λ (j : ℕ). get_or (xs ++ (n + 1) ∷ []) j 0 ≡ j + 1) (sym same) (get_or_push xs (n + 1) 0 n size))
    (cases_lt k n)
