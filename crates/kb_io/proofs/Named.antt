-- A file of a list by its name.
use Rattle.std.proofs.Common.{◌≡◌, ◌≢◌, ℕ, List, [], ◌∷◌, refl, sym, ◌∙◌, ap, Option, Some, None, IfSome, true, false}
use Rattle.std.proofs.Common.{cond, inl, inr, subst}
use Rattle.std.specs.Str.{bytes_eq}
use Rattle.std.specs.String.{string_bytes}
use Rattle.std.proofs.lemmas.Slice.Eq.{bytes_eq-Decides}
use Rattle.std.proofs.lemmas.Bool.{cases_Bool}
use Rattle.kb_io.specs.Memory.{SourceState}
use Rattle.std.specs.Option.{option_map}
use Rattle.kb_io.specs.Files.{source_named, file_named, without, AreFresh, NamesDiffer}
use Rattle.kb_io.specs.declared.source.MemFile.{MemFile}

pub named_here : (file : MemFile) (files : List MemFile) (name : List ℕ) → bytes_eq (string_bytes file.name) name ≡ true
    → source_named (file ∷ files) name ≡ Some file.source
named_here file files name is = rw is refl

pub named_later : (file : MemFile) (files : List MemFile) (name : List ℕ)
    → bytes_eq (string_bytes file.name) name ≡ false → source_named (file ∷ files) name ≡ source_named files name
named_later file files name is = rw is refl

pub without_here : (file : MemFile) (files : List MemFile) (name : List ℕ)
    → bytes_eq (string_bytes file.name) name ≡ true → without name (file ∷ files) ≡ files
without_here file files name is = rw is refl

pub without_later : (file : MemFile) (files : List MemFile) (name : List ℕ)
    → bytes_eq (string_bytes file.name) name ≡ false → without name (file ∷ files) ≡ file ∷ without name files
without_later file files name is = rw is refl

other_name : (own name other : List ℕ) → bytes_eq own name ≡ true → other ≢ name → bytes_eq own other ≡ false
other_name own name other is ne = elim (cases_Bool (bytes_eq own other)) [
  | inl same ↦ absurd (ne (sym ((bytes_eq-Decides own other).0 same) ∙ (bytes_eq-Decides own name).0 is))
  | inr differ ↦ differ
]

-- the files of other names stay
pub others_stay : (files : List MemFile) (name other : List ℕ) → other ≢ name
    → source_named (without name files) other ≡ source_named files other
others_stay [] name other ne = refl
others_stay (file ∷ files) name other ne = elim (cases_Bool (bytes_eq (string_bytes file.name) name)) [
  | inl same ↦ ap (λ (l : List MemFile). source_named l other) (without_here file files name same)
      ∙ sym (named_later file files other (other_name _ name other same ne))
  | inr differ ↦
      ap (λ (l : List MemFile). source_named l other) (without_later file files name differ)
      ∙ ap (λ (o : Option SourceState). cond (bytes_eq (string_bytes file.name) other) (Some file.source) o)
      (others_stay files name other ne)
]

-- what is not there is not there later
none_stays : (files : List MemFile) (name other : List ℕ) → source_named files other ≡ None
    → source_named (without name files) other ≡ None
none_stays [] name other none = refl
none_stays (file ∷ files) name other none = elim (cases_Bool (bytes_eq (string_bytes file.name) other)) [
  | inl same ↦ let clash : Some file.source ≡ None = sym (named_here file files other same) ∙ none in cc
  | inr differ ↦
      let later : source_named files other ≡ None = sym (named_later file files other differ) ∙ none in
      elim (cases_Bool (bytes_eq (string_bytes file.name) name)) [
        | inl here ↦ ap (λ (l : List MemFile). source_named l other) (without_here file files name here) ∙ later
        | inr there ↦
            ap (λ (l : List MemFile). source_named l other) (without_later file files name there)
            ∙ named_later file (without name files) other differ
            ∙ none_stays files name other later
      ]
]

-- where names differ, a file that is taken out is not there any more
pub taken_once : (files : List MemFile) (name : List ℕ) → NamesDiffer files
    → source_named (without name files) name ≡ None
taken_once [] name differ = refl
taken_once (file ∷ files) name differ = elim (cases_Bool (bytes_eq (string_bytes file.name) name)) [
  | inl same ↦
      ap (λ (l : List MemFile). source_named l name) (without_here file files name same)
      ∙ ap (source_named files) (sym ((bytes_eq-Decides (string_bytes file.name) name).0 same)) ∙ differ.0
  | inr other ↦
      ap (λ (l : List MemFile). source_named l name) (without_later file files name other)
      ∙ named_later file (without name files) name other
      ∙ taken_once files name differ.1
]

pub names_still_differ : (files : List MemFile) (name : List ℕ) → NamesDiffer files → NamesDiffer (without name files)
names_still_differ [] name differ = tt
names_still_differ (file ∷ files) name differ = elim (cases_Bool (bytes_eq (string_bytes file.name) name)) [
  | inl same ↦ subst NamesDiffer (sym (without_here file files name same)) differ.1
  | inr other ↦
      subst NamesDiffer (sym (without_later file files name other))
      (none_stays files name (string_bytes file.name) differ.0, names_still_differ files name differ.1)
]

pub still_fresh : (files : List MemFile) (name : List ℕ) → AreFresh files → AreFresh (without name files)
still_fresh [] name fresh = tt
still_fresh (file ∷ files) name fresh = elim (cases_Bool (bytes_eq (string_bytes file.name) name)) [
  | inl same ↦ subst AreFresh (sym (without_here file files name same)) fresh.1
  | inr other ↦ subst AreFresh (sym (without_later file files name other)) (fresh.0, still_fresh files name fresh.1)
]

-- the source that is named is fresh
pub named_is_fresh : (files : List MemFile) (name : List ℕ) → AreFresh files
    → IfSome (source_named files name) (λ (s : SourceState). s.faults ≡ 0)
named_is_fresh [] name fresh = tt
named_is_fresh (file ∷ files) name fresh = elim (cases_Bool (bytes_eq (string_bytes file.name) name)) [
  | inl same ↦ rw same fresh.0
  | inr other ↦ rw other (named_is_fresh files name fresh.1)
]

-- what is left of the files after one was taken out keeps what was known of them
pub still_kept : (files left : List MemFile) (name : List ℕ) → left ≡ without name files
    → NamesDiffer files × AreFresh files → NamesDiffer left × AreFresh left
still_kept files left name is kept = rw is (names_still_differ files name kept.0, still_fresh files name kept.1)

pub file_others_stay : (files left : List MemFile) (name other : List ℕ) → left ≡ without name files → other ≢ name
    → file_named left other ≡ file_named files other
file_others_stay files left name other is ne =
    rw is (ap (option_map (λ (s : SourceState). s.left)) (others_stay files name other ne))

pub source_gone : (files left : List MemFile) (name : List ℕ) → left ≡ without name files → NamesDiffer files
    → source_named left name ≡ None
source_gone files left name is differ = rw is (taken_once files name differ)

pub source_is_fresh : (files : List MemFile) (name : List ℕ) (source : SourceState)
    → Some source ≡ source_named files name → AreFresh files → source.faults ≡ 0
source_is_fresh files name source is fresh = let P : Option SourceState
    → Type 0 = λ o. IfSome o (λ (s : SourceState). s.faults ≡ 0) in subst P (sym is) (named_is_fresh files name fresh)
