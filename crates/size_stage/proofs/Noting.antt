-- What is noted of symbols, terms and weights, item by item.
use Rattle.std.proofs.Common.{◌≡◌, ◌≤◌, ◌<◌, ℕ, zero, suc, ◌+◌, ◌*◌, Bool, not, ◌&&◌, nat_lt, List, [], ◌∷◌, ◌++◌, map}
use Rattle.std.proofs.Common.{drop, length, fold, get_or, slice_get, Option, None, Some, option_map, refl, sym, ap, ◌∙◌}
use Rattle.std.proofs.Common.{arith}
use Rattle.std.specs.Prelude.{zip, flat_map, option_to_list}
use Rattle.std.proofs.lemmas.Bool.Decides.{nat_tests}
use Rattle.std.proofs.lemmas.Option.{slice_get-map}
use Rattle.std.proofs.lemmas.List.{drop_all, at_drop_more, append-nil}
use Rattle.std.proofs.lemmas.List.Concat.{flat_map-append}
use Rattle.kb_text.specs.declared.fault.K.TheVariants as k
use Rattle.kb_text.specs.declared.fault.KbFault.{KbFault}
use Rattle.kb_logic.specs.declared.elements.Elem.{Elem}
use Rattle.kb_logic.specs.declared.vocabularies.Symbol.{Symbol}
use Rattle.kb_logic.specs.declared.vocabularies.Vocabulary.{Vocabulary}
use Rattle.kb_logic.specs.Trees.{TermTree, terms_of}
use Rattle.kb_logic.specs.Structures.{domain_at, tuples_of}
use Rattle.kb_logic.specs.Bounds.{Interval}
use Rattle.kb_logic.specs.Weights.{value_count}
use Rattle.stage_definitions.specs.Earliest.{noted_if}
use Rattle.stage_definitions.specs.Sizes.{size_product, symbol_atoms, term_bounds, terms_bounds}
use Rattle.stage_definitions.specs.SizesStage.{SizeUse, atoms_with, capped, chosen_of, size_noted, term_use}
use Rattle.stage_definitions.specs.SizesStage.{uses_of_symbols}
use Rattle.size_stage.specs.Notes.{wide_noted}
use Rattle.size_stage.specs.Ranges.{is_wide, wide_at}
use Rattle.size_stage.proofs.Steps.{tuples_next}
use Rattle.size_stage.proofs.Walks.{parts_after}

-- ---- lists that go together

zip_none : {A B : Type 0} (xs : List A) (ys : List B) → ys ≡ [] → zip xs ys ≡ []
zip_none [] ys h = refl
zip_none (x ∷ xs) [] h = refl
zip_none (x ∷ xs) (y ∷ ys) h = absurd (cc)

pub nothing_right : {A B : Type 0} (xs : List A) (ys : List B) (i : ℕ) → length ys ≤ i → zip xs (drop i ys) ≡ []
nothing_right xs ys i h = zip_none xs (drop i ys) (drop_all i ys h)

pub pair_none_left : {A B : Type 0} (xs : List A) (ys : List B) (n : ℕ) → slice_get xs n ≡ None
    → slice_get (zip xs ys) n ≡ None
pair_none_left [] ys n h = refl
pair_none_left (x ∷ xs) [] n h = refl
pair_none_left (x ∷ xs) (y ∷ ys) zero h = let no : Some x ≡ None = h in absurd (cc)
pair_none_left (x ∷ xs) (y ∷ ys) (suc n) h = pair_none_left xs ys n h

pub pair_none_right : {A B : Type 0} (xs : List A) (ys : List B) (n : ℕ) → slice_get ys n ≡ None
    → slice_get (zip xs ys) n ≡ None
pair_none_right [] ys n h = refl
pair_none_right (x ∷ xs) [] n h = refl
pair_none_right (x ∷ xs) (y ∷ ys) zero h = let no : Some y ≡ None = h in absurd (cc)
pair_none_right (x ∷ xs) (y ∷ ys) (suc n) h = pair_none_right xs ys n h

pub pair_some : {A B : Type 0} (xs : List A) (ys : List B) (n : ℕ) (x : A) (y : B) → slice_get xs n ≡ Some x
    → slice_get ys n ≡ Some y → slice_get (zip xs ys) n ≡ Some (x, y)
pair_some [] ys n x y h k = let no : None ≡ Some x = h in absurd (cc)
pair_some (a ∷ as') [] n x y h k = let no : None ≡ Some y = k in absurd (cc)
pair_some (a ∷ as') (b ∷ bs) zero x y h k = let first : a ≡ x = cc in let second : b ≡ y = cc in
    ap (λ z. Some (z, b)) first ∙ ap (λ z. Some (x, z)) second
pair_some (a ∷ as') (b ∷ bs) (suc n) x y h k = pair_some as' bs n x y h k

-- ---- the chosen items

module _ {T A B : Type 0} (view : T → A) (uses : A × B → List SizeUse) (xs : List T) (ys : List B) (n : ℕ)
    (o : Option KbFault) where
  abbrev noted : Option KbFault
  noted = fold size_noted o (flat_map uses (chosen_of (map view xs) ys n))

  none_chosen : slice_get (zip (map view xs) ys) n ≡ None → o ≡ noted
  none_chosen h = ap (λ (p : Option (A × B)). fold size_noted o (flat_map uses (option_to_list p))) (sym h)

  pub no_first : slice_get xs n ≡ None → o ≡ noted
  no_first h = none_chosen (pair_none_left (map view xs) ys n (slice_get-map view xs n ∙ ap (option_map view) h))

  pub no_second : slice_get ys n ≡ None → o ≡ noted
  no_second h = none_chosen (pair_none_right (map view xs) ys n h)

  pub one_chosen : (x : T) (y : B) → slice_get xs n ≡ Some x → slice_get ys n ≡ Some y
      → fold size_noted o (uses (view x, y)) ≡ noted
  one_chosen x y h k =
      let pair = pair_some (map view xs) ys n (view x) y (slice_get-map view xs n ∙ ap (option_map view) h) k in
      ap (fold size_noted o) (sym (one_list (uses (view x, y))))
      ∙ ap (λ (p : Option (A × B)). fold size_noted o (flat_map uses (option_to_list p))) (sym pair)
    where
      one_list : (us : List SizeUse) → us ++ [] ≡ us
      one_list [] = refl
      one_list (u ∷ us) = ap (λ vs. u ∷ vs) (one_list us)

-- ---- terms

pub terms_noted : (o : Option KbFault) (ps : List ℕ) (bs : List (List Interval))
    → fold wide_noted o (zip ps (wide_at bs)) ≡ fold size_noted o (map term_use (zip ps bs))
terms_noted o [] bs = refl
terms_noted o (p ∷ ps) [] = refl
terms_noted o (p ∷ ps) (b ∷ bs) = terms_noted (noted_if (is_wide b) k.OutOfRange p o) ps bs

-- ---- rules

-- the terms of a list one by one
each_bound : (v : Vocabulary) (domains : List (List Elem)) (scope : List ℕ) (ts : List TermTree)
    → terms_bounds v domains (terms_of ts) scope ≡ flat_map (λ t. term_bounds v domains t scope) ts
each_bound v domains scope [] = refl
each_bound v domains scope (t ∷ ts) = ap (λ (bs : List (List Interval)). term_bounds v domains t scope ++ bs)
    (each_bound v domains scope ts)

module _ (v : Vocabulary) (domains : List (List Elem)) (scope : List ℕ) (ts : List TermTree) (xs ys : List Bool)
    (first : ys ≡ xs ++ wide_at (terms_bounds v domains (terms_of ts) scope)) where
  abbrev noted_with : List TermTree → List Bool
  noted_with us = xs ++ wide_at (flat_map (λ t. term_bounds v domains t scope) (ts ++ us))

  -- a head of these arguments alone
  pub head_alone : ys ≡ noted_with []
  head_alone =
      first ∙ ap (λ (bs : List (List Interval)). xs ++ wide_at bs) (each_bound v domains scope ts)
      ∙ ap (λ (us : List TermTree). xs ++ wide_at (flat_map (λ t. term_bounds v domains t scope) us))
      (sym (append-nil ts))

  -- and with a value
  pub head_valued : (t : TermTree) (zs : List Bool) → zs ≡ ys ++ wide_at (term_bounds v domains t scope)
      → zs ≡ noted_with (t ∷ [])
  head_valued t zs second =
      let found = λ (u : TermTree). term_bounds v domains u scope in
      parts_after xs ys zs (terms_bounds v domains (terms_of ts) scope) (found t) first second
      ∙ ap (λ (bs : List (List Interval)). xs ++ wide_at bs)
      (ap (λ (bs : List (List Interval)). bs ++ found t) (each_bound v domains scope ts)
      ∙ ap (λ (bs : List (List Interval)). flat_map found ts ++ bs) (sym (append-nil (found t)))
      ∙ sym (flat_map-append found ts (t ∷ [])))

-- ---- symbols

product_from : (domains : List (List Elem)) (n : ℕ) (types : List ℕ) → fold (λ m t. m * length (domain_at domains t)) n
    types ≡ n * length (tuples_of domains types)
product_from domains n [] = omega arith
product_from domains n (t ∷ ts) =
    let next = tuples_next (tuples_of domains ts) (domain_at domains t) in
    product_from domains (n * length (domain_at domains t)) ts ∙ rw next (omega arith)

counts_tuples : (domains : List (List Elem)) (types : List ℕ) → length (tuples_of domains types)
    ≡ size_product domains types
counts_tuples domains types = sym (product_from domains 1 types ∙ omega arith)

pub symbol_counted : (domains : List (List Elem)) (s : Symbol) → length (tuples_of domains s.args) * value_count domains
    s.value ≡ symbol_atoms domains s
symbol_counted domains s = ap (λ (n : ℕ). n * value_count domains s.value) (counts_tuples domains s.args)

pub below_limit : (n : ℕ) → nat_lt 2000000 (capped n) ≡ nat_lt 2000000 n
below_limit n = grind (arith, nat_tests)

pub below_weight : (n : ℕ) → nat_lt 64000000 (capped n) ≡ nat_lt 64000000 n
below_weight n = grind (arith, nat_tests)

-- one more symbol
pub symbol_next : (domains : List (List Elem)) (first new : Option KbFault) (before own after : ℕ) (x : ℕ)
    (passes : Bool) (p b : ℕ) (s : Symbol) (rest : List (ℕ × Symbol)) (all : Option KbFault)
    → x ≡ capped b → own ≡ capped (length (tuples_of domains s.args) * value_count domains s.value)
    → after ≡ capped (x + own)
    → passes ≡ (not (nat_lt 2000000 x) && nat_lt 2000000 after) → new ≡ noted_if passes k.TooLarge p first
    → fold size_noted first (uses_of_symbols domains b ((p, s) ∷ rest)) ≡ all
    → (after ≡ capped (b + symbol_atoms domains s)) × (fold size_noted new
    (uses_of_symbols domains (b + symbol_atoms domains s) rest) ≡ all)
symbol_next domains first new before own after x passes p b s rest all hx ho ha hp hn h =
    let exact : own ≡ capped (symbol_atoms domains s) = ho ∙ ap capped (symbol_counted domains s) in
    let sum : after ≡ capped (b + symbol_atoms domains s) = added x b own (symbol_atoms domains s) after hx exact ha in
    let test : passes ≡ (not (nat_lt 2000000 b) && nat_lt 2000000 (b + symbol_atoms domains s)) =
    hp ∙ ap (λ (n : ℕ). not (nat_lt 2000000 n) && nat_lt 2000000 after) hx
    ∙ ap (λ (t : Bool). not t && nat_lt 2000000 after) (below_limit b)
    ∙ ap (λ (n : ℕ). not (nat_lt 2000000 b) && nat_lt 2000000 n) sum ∙ ap (λ (t : Bool). not (nat_lt 2000000 b) && t)
    (below_limit (b + symbol_atoms domains s)) in
    let note : new ≡ size_noted first (atoms_with p b (symbol_atoms domains s)) = hn
    ∙ ap (λ (t : Bool). noted_if t k.TooLarge p first) test in (
      sum,
      ap (λ (q : Option KbFault). fold size_noted q (uses_of_symbols domains (b + symbol_atoms domains s) rest))
          note ∙ h,
    )
  where
    added : (x b own a after : ℕ) → x ≡ capped b → own ≡ capped a → after ≡ capped (x + own) → after ≡ capped (b + a)
    added x b own a after hx ho ha = omega arith

pub zip_step : (ps : List ℕ) (ss : List Symbol) (i : ℕ) (d : ℕ) (s : Symbol) → i < length ps → i < length ss
    → s ≡ get_or ss i s → zip (drop i ps) (drop i ss) ≡ (get_or ps i d, s) ∷ zip (drop (i + 1) ps) (drop (i + 1) ss)
zip_step ps ss i d s h k at =
    at_drop_more (λ (xs : List ℕ). zip xs (drop i ss)) ps i d h
    ∙ at_drop_more (λ (ys : List Symbol). zip (get_or ps i d ∷ drop (i + 1) ps) ys) ss i s k
    ∙ ap (λ (y : Symbol). (get_or ps i d, y) ∷ zip (drop (i + 1) ps) (drop (i + 1) ss)) (sym at)
