-- What the words of entries name.
use Rattle.std.proofs.Common.{◌≡◌, ℕ, ◌+◌, true, false, List, [], ◌∷◌, map, refl, sym, subst, ◌∙◌, inl, inr}
use Rattle.std.specs.List.{enumerate_from}
use Rattle.std.specs.Str.{bytes_eq}
use Rattle.std.proofs.lemmas.Bool.{false_from_ne_true}
use Rattle.std.proofs.lemmas.Slice.Eq.{bytes_eq-Decides}
use Rattle.kb_logic.specs.declared.vocabularies.TypeDecl.{TypeDecl}
use Rattle.kb_logic.specs.declared.vocabularies.Symbol.{Symbol}
use Rattle.kb_logic.specs.declared.vocabularies.Vocabulary.{Vocabulary}
use Rattle.kb_logic.specs.Structures.{IsDistinct}
use Rattle.kb_logic.proofs.Has.{Has, has_map, contains_from}
use Rattle.stage_definitions.specs.DataEntries.{Subject, a_type, a_symbol, named_in_types, named_in_symbols, subject_of}
use Rattle.printed_texts.specs.ReadBlocks.{declared_names}
use Rattle.printed_texts.proofs.Each.{numbered_item, distinct_left, distinct_right, distinct_apart}

pub same_bytes : (w : List ℕ) → bytes_eq w w ≡ true
same_bytes w = (bytes_eq-Decides w w).1 refl

pub other_bytes : (w u : List ℕ) → (w ≡ u → ⊥) → bytes_eq w u ≡ false
other_bytes w u n = false_from_ne_true (bytes_eq w u) (λ s. n ((bytes_eq-Decides w u).0 s))

abbrev type_name : TypeDecl → List ℕ
type_name d = d.name

abbrev symbol_name : Symbol → List ℕ
symbol_name s = s.name

named_type : (types : List TypeDecl) (n : ℕ) (other : Subject) → IsDistinct (map type_name types) → (t : ℕ × TypeDecl)
    → Has (enumerate_from n types) t → named_in_types t.1.name (enumerate_from n types) other ≡ a_type t.0 t.1
named_type [] n other d t m = absurd m
named_type (x ∷ xs) n other d t (inl e) =
    subst (λ (u : ℕ × TypeDecl). named_in_types u.1.name (enumerate_from n (x ∷ xs)) other ≡ a_type u.0 u.1) e
    (rw (same_bytes x.name) refl)
named_type (x ∷ xs) n other d t (inr m) =
    let different : bytes_eq t.1.name x.name ≡ false =
    other_bytes t.1.name x.name
    (λ s. d.0 (contains_from (map type_name xs) x.name
    (subst (λ w. Has (map type_name xs) w) s (has_map type_name xs t.1 (numbered_item (n + 1) xs t m))))) in
    rw different (named_type xs (n + 1) other d.1 t m)

no_type : (types : List TypeDecl) (n : ℕ) (other : Subject) (w : List ℕ) → (Has (map type_name types) w → ⊥)
    → named_in_types w (enumerate_from n types) other ≡ other
no_type [] n other w none = refl
no_type (x ∷ xs) n other w none =
    rw (other_bytes w x.name (λ s. none (inl (sym s)))) (no_type xs (n + 1) other w (λ m. none (inr m)))

named_symbol : (symbols : List Symbol) (n : ℕ) (other : Subject) → IsDistinct (map symbol_name symbols)
    → (s : ℕ × Symbol) → Has (enumerate_from n symbols) s → named_in_symbols s.1.name (enumerate_from n symbols) other
    ≡ a_symbol s.0 s.1
named_symbol [] n other d t m = absurd m
named_symbol (x ∷ xs) n other d t (inl e) =
    subst (λ (u : ℕ × Symbol). named_in_symbols u.1.name (enumerate_from n (x ∷ xs)) other ≡ a_symbol u.0 u.1) e
    (rw (same_bytes x.name) refl)
named_symbol (x ∷ xs) n other d t (inr m) =
    let different : bytes_eq t.1.name x.name ≡ false =
    other_bytes t.1.name x.name
    (λ s. d.0 (contains_from (map symbol_name xs) x.name
    (subst (λ w. Has (map symbol_name xs) w) s (has_map symbol_name xs t.1 (numbered_item (n + 1) xs t m))))) in
    rw different (named_symbol xs (n + 1) other d.1 t m)

pub type_subject : (v : Vocabulary) → IsDistinct (declared_names v) → (t : ℕ × TypeDecl)
    → Has (enumerate_from 0 v.types) t → subject_of v t.1.name ≡ a_type t.0 t.1
type_subject v apart t m =
    named_type v.types 0 _ (distinct_left (map type_name v.types) (map symbol_name v.symbols) apart) t m

pub symbol_subject : (v : Vocabulary) → IsDistinct (declared_names v) → (s : ℕ × Symbol)
    → Has (enumerate_from 0 v.symbols) s → subject_of v s.1.name ≡ a_symbol s.0 s.1
symbol_subject v apart s m =
    no_type v.types 0 _ s.1.name
    (λ n. distinct_apart (map type_name v.types) (map symbol_name v.symbols) apart s.1.name n
    (has_map symbol_name v.symbols s.1 (numbered_item 0 v.symbols s m)))
    ∙ named_symbol v.symbols 0 _ (distinct_right (map type_name v.types) (map symbol_name v.symbols) apart) s m
