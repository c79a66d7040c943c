-- Sets to which cells are added one by one.
use Rattle.std.proofs.Common.{◌≡◌, ◌∙◌, ◌++◌, ◌∷◌, [], ◌||◌, ℤ, Bool, true, false, List, fold, refl, sym, ap}
use Rattle.std.proofs.Common.{if◌then◌else◌, append-nil, subst, Bor, ℕ, zero, suc, None, Some, map, slice_get}
use Rattle.std.specs.List.{flat_map, list_any}
use Rattle.std.specs.Str.{bytes_eq}
use Rattle.std.proofs.lemmas.Grind.{flat_map-append, fold-append}
use Rattle.std.proofs.lemmas.List.Folds.{list_any-append}
use Rattle.kb_logic.specs.declared.elements.Elem.{Elem}
use Rattle.kb_logic.specs.declared.elements.Elem.TheVariants.{Named, Num}
use Rattle.stage_definitions.specs.Scopes.{Text}
use Rattle.stage_definitions.specs.Elements.{Cell, one, span, is_among, is_in, listed, members, same_element}
use Rattle.stage_definitions.specs.Elements.{with_element}
use Rattle.stage_definitions.specs.Elements.{with_word, words_in, words_of}
use Rattle.reading_laws.proofs.Listing.{listed_are_among}
use Rattle.data_domains.specs.Runs.{is_hollow, is_inside}
use Rattle.data_domains.specs.Sets.{runs_in, AreSameWords, IsGathered, IsKnownWord}
use Rattle.data_domains.specs.Sets.{words_in as words_held}
use Rattle.data_domains.specs.declared.sets.ElementSet.{ElementSet}
use Rattle.data_domains.proofs.WordSets.{words_among}

pub words_more : (cells : List Cell) (c : Cell) → words_of (cells ++ c ∷ []) ≡ fold with_word (words_of cells) (words_in c)
words_more cells c =
    ap (fold with_word []) (flat_map-append words_in cells (c ∷ []))
    ∙ fold-append with_word [] (flat_map words_in cells) (words_in c ++ [])
    ∙ ap (fold with_word (words_of cells)) (append-nil (words_in c))

or_none : (a b : Bool) → (a || (b || false)) ≡ (a || b)
or_none true b = refl
or_none false true = refl
or_none false false = refl

pub among_more : (cells : List Cell) (c : Cell) (x : Elem) → is_among (cells ++ c ∷ []) x ≡ (is_among cells x || is_in x c)
among_more cells c x = list_any-append (is_in x) cells (c ∷ []) ∙ or_none (is_among cells x) (is_in x c)

pub listed_more : (cells : List Cell) (c : Cell) → listed (cells ++ c ∷ []) ≡ fold with_element (listed cells) (members c)
listed_more cells c =
    ap (fold with_element []) (flat_map-append members cells (c ∷ []))
    ∙ fold-append with_element [] (flat_map members cells) (members c ++ [])
    ∙ ap (fold with_element (listed cells)) (append-nil (members c))

-- a word that was there adds nothing to the list
pub listed_before : (cells : List Cell) (c : Cell) → IsKnownWord (words_of cells) c
    → listed (cells ++ c ∷ []) ≡ listed cells
listed_before cells (one (Named n)) h =
    let there : list_any (same_element (Named n)) (listed cells) ≡ true =
    sym (listed_are_among cells (Named n)) ∙ sym (words_among n cells) ∙ h in
    listed_more cells (one (Named n))
    ∙ ap (λ b. if b then listed cells else listed cells ++ Named n ∷ []) there
listed_before cells (one (Num z)) h = absurd h
listed_before cells (span a b) h = absurd h

-- one more cell
pub gathered_more : (cells : List Cell) (c : Cell) (old new : ElementSet) → IsGathered cells old
    → ((ws : List Text) → AreSameWords (words_held old) ws → AreSameWords (words_held new)
    (fold with_word ws (words_in c)))
    → (list_any is_hollow (runs_in old) ≡ false → list_any is_hollow (runs_in new) ≡ false)
    → ((z : ℤ) → is_inside (runs_in new) z ≡ (is_inside (runs_in old) z || is_in (Num z) c))
    → IsGathered (cells ++ c ∷ []) new
gathered_more cells c old new h words hollow inside = record {
  words = subst (AreSameWords (words_held new)) (sym (words_more cells c)) (words (words_of cells) h.words);
  integers = λ z. inside z ∙ ap (λ b. b || is_in (Num z) c) (h.integers z) ∙ sym (among_more cells c (Num z));
  full = hollow h.full;
}

-- ---- a word that stands there

or_true : (a b : Bool) → b ≡ true → (a || b) ≡ true
or_true true b h = refl
or_true false b h = h

pub held_at : (ks : List (Bor (List ℕ))) (i : ℕ) (k : Bor (List ℕ)) (w : Text) → slice_get ks i ≡ Some k
    → bytes_eq w k.now ≡ true → list_any (bytes_eq w) (map (λ (b : Bor (List ℕ)). b.now) ks) ≡ true
held_at [] i k w h e = let n : None ≡ Some k = h in absurd (cc)
held_at (x ∷ xs) zero k w h e =
    let same : x ≡ k = cc in
    ap (λ (b : Bor (List ℕ)). bytes_eq w b.now || list_any (bytes_eq w) (map (λ (b : Bor (List ℕ)). b.now) xs)) same
    ∙ ap (λ b. b || list_any (bytes_eq w) (map (λ (b : Bor (List ℕ)). b.now) xs)) e
held_at (x ∷ xs) (suc i) k w h e = or_true (bytes_eq w x.now) _ (held_at xs i k w h e)

or_false : (b : Bool) → b ≡ (b || false)
or_false true = refl
or_false false = refl

pub known_among : (cells : List Cell) (c : Cell) (s : ElementSet) → IsGathered cells s → IsKnownWord (words_held s) c
    → IsKnownWord (words_of cells) c
known_among cells (one (Named n)) s h k = sym (h.words.among n) ∙ k
known_among cells (one (Num z)) s h k = k
known_among cells (span a b) s h k = k

-- a word that stands there changes nothing
pub gathered_again : (cells : List Cell) (c : Cell) (s : ElementSet) → IsGathered cells s
    → IsKnownWord (words_held s) c → IsGathered (cells ++ c ∷ []) s
gathered_again cells (one (Named n)) s h k =
    let there : list_any (bytes_eq n) (words_of cells) ≡ true = sym (h.words.among n) ∙ k in
    let same : words_of (cells ++ one (Named n) ∷ []) ≡ words_of cells = words_more cells (one (Named n))
    ∙ ap (λ b. if b then words_of cells else n ∷ words_of cells) there in
    record {
      words = subst (AreSameWords (words_held s)) (sym same) h.words;
      integers = λ z. h.integers z ∙ or_false (is_among cells (Num z)) ∙ sym (among_more cells (one (Named n)) (Num z));
      full = h.full;
    }
gathered_again cells (one (Num z)) s h k = absurd k
gathered_again cells (span a b) s h k = absurd k
