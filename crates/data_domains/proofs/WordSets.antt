-- Words in memory and in the definition are the same.
use Rattle.std.proofs.Common.{◌≡◌, ℕ, List, [], ◌∷◌, ◌++◌, map, Bool, true, false, ◌||◌}
use Rattle.std.proofs.Common.{if◌then◌else◌, refl, sym, ap, ◌∙◌, fold, arith, length-append, Bor, subst}
use Rattle.std.specs.List.{list_any, flat_map}
use Rattle.std.specs.Str.{bytes_eq}
use Rattle.std.proofs.lemmas.List.Folds.{list_any-append}
use Rattle.std.proofs.lemmas.Slice.Eq.{bytes_eq-Decides}
use Rattle.kb_logic.specs.declared.elements.Elem.TheVariants.{Named, Num}
use Rattle.indexmap.specs.IndexSet.{insert_key}
use Rattle.stage_definitions.specs.Scopes.{Text}
use Rattle.stage_definitions.specs.Elements.{Cell, one, span, is_among, with_word, words_in, words_of}
use Rattle.data_domains.specs.Sets.{AreSameWords}
use Rattle.data_domains.proofs.Keys.{added_key}

or_turned : (a b : Bool) → (a || (b || false)) ≡ (b || a)
or_turned true true = refl
or_turned true false = refl
or_turned false true = refl
or_turned false false = refl

by_one : (xs ys : List Text) (w : Text) (b : Bool) → AreSameWords xs ys → AreSameWords (if b then xs else xs ++ w ∷ [])
    (if b then ys else w ∷ ys)
by_one xs ys w true s = s
by_one xs ys w false s = record {
  count = let l = length-append xs (w ∷ []) in omega (arith, l, s.count);
  among = λ v. list_any-append (bytes_eq v) xs (w ∷ []) ∙ or_turned (list_any (bytes_eq v) xs) (bytes_eq v w)
      ∙ ap (λ b. bytes_eq v w || b) (s.among v);
}

pub word_added : (ks new : List (Bor (List ℕ))) (k : Bor (List ℕ)) → new ≡ insert_key (λ x y. bytes_eq x.now y.now) ks k
    → (ws : List Text) → AreSameWords (map (λ (w : Bor (List ℕ)). w.now) ks) ws
    → AreSameWords (map (λ (w : Bor (List ℕ)). w.now) new) (with_word ws k.now)
word_added ks new k keys ws s =
    let f = λ (w : Bor (List ℕ)). w.now in
    let grown = added_key f (λ x y. bytes_eq x.now y.now) bytes_eq k ks new keys (λ d. refl) in
    let both = by_one (map f ks) ws k.now (list_any (bytes_eq k.now) ws) s in
    subst (λ xs. AreSameWords xs (with_word ws k.now)) (sym (grown
    ∙ ap (λ b. if b then map f ks else map f ks ++ k.now ∷ []) (s.among k.now))) both

-- ---- a word among cells

or_pushed : (a b c : Bool) → ((a || b) || c) ≡ (b || (a || c))
or_pushed true true c = refl
or_pushed true false c = refl
or_pushed false true c = refl
or_pushed false false c = refl

or_again : (a c : Bool) → a ≡ true → (a || c) ≡ (a || (a || c))
or_again true c h = refl
or_again false c h = refl

more_words : (v w : Text) (ws : List Text) (b : Bool) → list_any (bytes_eq w) ws ≡ b → (c : Bool)
    → (list_any (bytes_eq v) (if b then ws else w ∷ ws) || c) ≡ (list_any (bytes_eq v) ws || (bytes_eq v w || c))
more_words v w ws false e c = swapped (bytes_eq v w) (list_any (bytes_eq v) ws) c
  where
    swapped : (a b c : Bool) → ((a || b) || c) ≡ (b || (a || c))
    swapped a b c = or_pushed a b c
more_words v w ws true e c = by (bytes_eq v w) refl
  where
    by : (b : Bool) → bytes_eq v w ≡ b → (list_any (bytes_eq v) ws || c) ≡ (list_any (bytes_eq v) ws || (b || c))
    by false h = refl
    by true h =
        let same : v ≡ w = (bytes_eq-Decides v w).0 h in
        let there : list_any (bytes_eq v) ws ≡ true = ap (λ u. list_any (bytes_eq u) ws) same ∙ e in
        ap (λ b. b || c) there ∙ sym (ap (λ b. b || true) there)

any_folded : (v : Text) (ws us : List Text) → list_any (bytes_eq v) (fold with_word ws us)
    ≡ (list_any (bytes_eq v) ws || list_any (bytes_eq v) us)
any_folded v ws [] = or_false (list_any (bytes_eq v) ws)
  where
    or_false : (b : Bool) → b ≡ (b || false)
    or_false true = refl
    or_false false = refl
any_folded v ws (u ∷ us) = any_folded v (with_word ws u) us ∙ more_words v u ws (list_any (bytes_eq u) ws) refl
    (list_any (bytes_eq v) us)

in_words : (v : Text) (cells : List Cell) → list_any (bytes_eq v) (flat_map words_in cells) ≡ is_among cells (Named v)
in_words v [] = refl
in_words v (one (Named n) ∷ cs) = ap (λ b. bytes_eq v n || b) (in_words v cs)
in_words v (one (Num z) ∷ cs) = in_words v cs
in_words v (span a b ∷ cs) = in_words v cs

pub words_among : (v : Text) (cells : List Cell) → list_any (bytes_eq v) (words_of cells) ≡ is_among cells (Named v)
words_among v cells = any_folded v [] (flat_map words_in cells) ∙ in_words v cells
