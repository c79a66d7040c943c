-- Bytes that are texts of entries.
use Rattle.std.specs.Prelude.{◌≡◌, ℕ, List, [], ◌++◌, flat_map, All}
use Rattle.std.proofs.Common.{sym, ap, ◌∙◌, append_assoc}
use Rattle.std.proofs.lemmas.List.{append-nil}
use Rattle.std.proofs.lemmas.Grind.{flat_map-append}
use Rattle.std.proofs.lemmas.List.Elements.{All-nil, All-append}
use Rattle.derivation_log.specs.declared.entries.Entry.{Entry}
use Rattle.derivation_log.specs.declared.entries.Entry.TheVariants.{Mark, Learnt, Sum, Bound, Exclude, Inconsistent}
use Rattle.derivation_log.specs.declared.entries.Entry.TheVariants.{Forced, Least}
use Rattle.derivation_log.specs.Lines.{entry_text}

-- the entry is one of a search: it bears a clause or a bound, and neither marks a line of the commands nor claims
-- anything of a reply
abbrev pub IsOfSearch : Entry → Type 0
IsOfSearch (Mark n) = ⊥
IsOfSearch (Learnt lits hints) = Unit {0}
IsOfSearch (Sum n lits) = Unit {0}
IsOfSearch (Bound s t k) = Unit {0}
IsOfSearch (Exclude s lits) = Unit {0}
IsOfSearch (Inconsistent lits c) = ⊥
IsOfSearch (Forced l lits c) = ⊥
IsOfSearch (Least t k lits c) = ⊥

-- these bytes, and then the texts of some entries of a search
abbrev pub Grows : List ℕ → List ℕ → Type 0
Grows old new = (es : List Entry) × All IsOfSearch es × (new ≡ old ++ flat_map entry_text es)

-- the bytes are texts of entries of a search
abbrev pub AreEntries : List ℕ → Type 0
AreEntries bytes = (es : List Entry) × All IsOfSearch es × (bytes ≡ flat_map entry_text es)

pub grows-itself : (bytes : List ℕ) → Grows bytes bytes
grows-itself bytes = ([], All-nil IsOfSearch, sym (append-nil bytes))

pub grows-same : (old new : List ℕ) → new ≡ old → Grows old new
grows-same old new e = ([], All-nil IsOfSearch, e ∙ sym (append-nil old))

pub grows-twice : (xs ys zs : List ℕ) → Grows xs ys → Grows ys zs → Grows xs zs
grows-twice xs ys zs a b = (
  a.0 ++ b.0,
  All-append IsOfSearch a.0 b.0 a.1 b.1,
  b.2 ∙ (ap (λ (l : List ℕ). l ++ flat_map entry_text b.0) a.2
      ∙ (append_assoc xs (flat_map entry_text a.0) (flat_map entry_text b.0)
      ∙ ap (λ (l : List ℕ). xs ++ l) (sym (flat_map-append entry_text a.0 b.0)))),
)

pub grown-entries : (xs ys : List ℕ) → AreEntries xs → Grows xs ys → AreEntries ys
grown-entries xs ys a b = (
  a.0 ++ b.0,
  All-append IsOfSearch a.0 b.0 a.1 b.1,
  b.2 ∙ (ap (λ (l : List ℕ). l ++ flat_map entry_text b.0) a.2 ∙ sym (flat_map-append entry_text a.0 b.0)),
)
