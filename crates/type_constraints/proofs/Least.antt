-- The types that are seen one by one come to the least of them, where no type is under itself.
use Rattle.std.proofs.Common.{◌≡◌, ℕ, Bool, true, false, not, ◌||◌, ◌&&◌, IsTrue, List, [], ◌∷◌, ◌++◌, if◌then◌else◌}
use Rattle.std.proofs.Common.{fold, refl, ap, ◌∙◌, sym, subst, ◌⊎◌, inl, inr, Contains, append-nil, append_assoc}
use Rattle.std.specs.List.{list_any, list_all}
use Rattle.std.proofs.lemmas.List.Elements.{Contains-append_left, Contains-push, Contains-push_cases}
use Rattle.kb_logic.specs.declared.vocabularies.TypeDecl.{TypeDecl}
use Rattle.stage_definitions.specs.Below.{Parents, HasNoCycle, IsForest, type_parents, is_below}
use Rattle.stage_definitions.specs.Demands.{Finding, nothing, found, torn}
use Rattle.stage_definitions.specs.Kinship.{is_under}
use Rattle.stage_definitions.specs.Typing.{is_split, found_first, least_of, finding_of}
use Rattle.stage_definitions.proofs.EarliestLaws.{contains_head, contains_tail, contains_nothing, contains_cases}
use Rattle.stage_definitions.proofs.Forest.{forest}
use Rattle.stage_definitions.proofs.Ranks.{ranked}
use Rattle.type_constraints.specs.Gathering.{seen}

-- ---- lists of which some element passes a test, or each does

either_true : (a b : Bool) → a ≡ true → (a || b) ≡ true
either_true a b e = rw e refl

or_later : (a b : Bool) → b ≡ true → (a || b) ≡ true
or_later true b e = refl
or_later false b e = e

any_passes : (test : ℕ → Bool) (xs : List ℕ) (x : ℕ) → Contains xs x → test x ≡ true → list_any test xs ≡ true
any_passes test [] x there e = contains_nothing x there
any_passes test (y ∷ xs) x there e = elim (contains_cases y xs x there) [
  | inl same ↦ either_true (test y) (list_any test xs) (ap test same ∙ e)
  | inr later ↦ or_later (test y) (list_any test xs) (any_passes test xs x later e)
]

none_passes : (test : ℕ → Bool) (xs : List ℕ) → ((x : ℕ) → Contains xs x → test x ≡ false) → list_any test xs ≡ false
none_passes test [] all = refl
none_passes test (y ∷ xs) all =
    rw (all y (contains_head y xs y refl)) (none_passes test xs (λ x there. all x (contains_tail y xs x there)))

all_pass : (test : ℕ → Bool) (xs : List ℕ) → ((x : ℕ) → Contains xs x → test x ≡ true) → list_all test xs ≡ true
all_pass test [] all = refl
all_pass test (y ∷ xs) all =
    rw (all y (contains_head y xs y refl)) (all_pass test xs (λ x there. all x (contains_tail y xs x there)))

both_true : (a b : Bool) → (a && b) ≡ true → (a ≡ true) × (b ≡ true)
both_true true b e = (refl, e)
both_true false b e = absurd (let no : ⊥ = cc in no)

each_passes : (test : ℕ → Bool) (xs : List ℕ) (x : ℕ) → list_all test xs ≡ true → Contains xs x → test x ≡ true
each_passes test [] x e there = contains_nothing x there
each_passes test (y ∷ xs) x e there = elim (contains_cases y xs x there) [
  | inl same ↦ ap test (sym same) ∙ (both_true (test y) (list_all test xs) e).0
  | inr later ↦ each_passes test xs x (both_true (test y) (list_all test xs) e).1 later
]

-- ---- what the types seen so far come to

record IsLeastOf (ps : Parents) (ts : List ℕ) (t : ℕ) : Type 0 where
  member : Contains ts t
  below_all : (u : ℕ) → Contains ts u → IsTrue (is_below ps t u)

record AreApart (ps : Parents) (ts : List ℕ) (a b : ℕ) : Type 0 where
  one : Contains ts a
  other : Contains ts b
  not_below : is_below ps a b ≡ false
  not_above : is_below ps b a ≡ false

abbrev Says : Parents → List ℕ → Finding → Type 0
Says ps ts nothing = ts ≡ []
Says ps ts (found t) = IsLeastOf ps ts t
Says ps ts torn = (a : ℕ) × (b : ℕ) × AreApart ps ts a b

only : (t u : ℕ) → Contains ([] ++ t ∷ []) u → t ≡ u
only t u h = elim (Contains-push_cases [] t u h) [ inl none ↦ contains_nothing u none | inr same ↦ same ]

-- one more type, where it is compared with the least so far
next_least : (ps : Parents) → IsForest ps → (xs : List ℕ) (t s : ℕ) (down up : Bool) → is_below ps t s ≡ down
    → is_below ps s t ≡ up
    → IsLeastOf ps xs s → Says ps (xs ++ t ∷ []) (if down then found t else (if up then found s else torn))
next_least ps forest xs t s true up d u h = record {
  member = Contains-push xs t;
  below_all = λ p there. elim (Contains-push_cases xs t p there) [
    | inl before ↦ forest.transitive t s p d (h.below_all p before)
    | inr same ↦ subst (λ (q : ℕ). is_below ps t q ≡ true) same (forest.reflexive t)
  ];
}
next_least ps forest xs t s false true d u h = record {
  member = Contains-append_left xs (t ∷ []) s h.member;
  below_all = λ p there. elim (Contains-push_cases xs t p there) [
    | inl before ↦ h.below_all p before
    | inr same ↦ subst (λ (q : ℕ). is_below ps s q ≡ true) same u
  ];
}
next_least ps forest xs t s false false d u h = (
  s,
  t,
  record {
    one = Contains-append_left xs (t ∷ []) s h.member;
    other = Contains-push xs t;
    not_below = u;
    not_above = d;
  },
)

-- one more type
next_says : (types : List TypeDecl) → IsForest (type_parents types) → (xs : List ℕ) (t : ℕ) (f : Finding)
    → Says (type_parents types) xs f
    → Says (type_parents types) (xs ++ t ∷ []) (seen types f t)
next_says types forest xs t nothing h = rw h (record {
  member = Contains-push [] t;
  below_all = λ p there. subst (λ (q : ℕ). is_below (type_parents types) t q ≡ true) (only t p there)
      (forest.reflexive t);
})
next_says types forest xs t (found s) h =
    next_least (type_parents types) forest xs t s (is_below (type_parents types) t s)
    (is_below (type_parents types) s t) refl refl h
next_says types forest xs t torn (a, b, h) = (
  a,
  b,
  record {
    one = Contains-append_left xs (t ∷ []) a h.one;
    other = Contains-append_left xs (t ∷ []) b h.other;
    not_below = h.not_below;
    not_above = h.not_above;
  },
)

says_from : (types : List TypeDecl) → IsForest (type_parents types) → (xs ys : List ℕ) (f : Finding)
    → Says (type_parents types) xs f
    → Says (type_parents types) (xs ++ ys) (fold (seen types) f ys)
says_from types forest xs [] f h = rw append-nil h
says_from types forest xs (y ∷ ys) f h =
    let next : Says (type_parents types) ((xs ++ y ∷ []) ++ ys) (fold (seen types) (seen types f y) ys) =
    says_from types forest (xs ++ y ∷ []) ys (seen types f y) (next_says types forest xs y f h) in
    subst (λ (zs : List ℕ). Says (type_parents types) zs (fold (seen types) (seen types f y) ys))
    (append_assoc xs (y ∷ []) ys) next

-- ---- the same in the words of the definition

not_either : (a b : Bool) → (a ≡ true) ⊎ (b ≡ true) → not (a || b) ≡ false
not_either a b (inl e) = rw e refl
not_either a b (inr e) = rw (or_later a b e) refl

neither : (a b : Bool) → a ≡ false → b ≡ false → not (a || b) ≡ true
neither a b e f = rw (e, f) refl

not_split : (types : List TypeDecl) → IsForest (type_parents types) → (ts : List ℕ) (t : ℕ)
    → IsLeastOf (type_parents types) ts t → is_split types ts ≡ false
not_split types forest ts t h =
    none_passes _ ts
    (λ a one. none_passes _ ts
    (λ b other. not_either (is_under types a b) (is_under types b a) (forest.one_way_up t a b (h.below_all a one)
    (h.below_all b other))))

split : (types : List TypeDecl) (ts : List ℕ) (a b : ℕ) → AreApart (type_parents types) ts a b
    → is_split types ts ≡ true
split types ts a b h =
    any_passes _ ts a h.one
    (any_passes (λ c. not (is_under types a c || is_under types c a)) ts b h.other
    (neither (is_under types a b) (is_under types b a) h.not_below h.not_above))

-- the first that passes is t, where t passes and all that pass are t
first_found : (test : ℕ → Bool) (ts : List ℕ) (t : ℕ) → Contains ts t → test t ≡ true
    → ((u : ℕ) → Contains ts u → test u ≡ true → u ≡ t)
    → found_first test ts ≡ found t
first_found test [] t there e all = contains_nothing t there
first_found test (u ∷ ts) t there e all =
    let step : (b : Bool) → test u ≡ b → (if b then found u else found_first test ts) ≡ found t = λ b is.
    elim b as (λ b. test u ≡ b → (if b then found u else found_first test ts) ≡ found t) [
      | true ↦ λ passes. ap found (all u (contains_head u ts u refl) passes)
      | false ↦ λ fails. elim (contains_cases u ts t there) [
        | inl same ↦ absurd (let passes : test u ≡ true = ap test same ∙ e in let no : ⊥ = cc in no)
        | inr later ↦ first_found test ts t later e (λ v among. all v (contains_tail u ts v among))
      ]
    ] is in
    step (test u) refl

least_found : (types : List TypeDecl) → IsForest (type_parents types) → (ts : List ℕ) (t : ℕ)
    → IsLeastOf (type_parents types) ts t → least_of types ts ≡ found t
least_found types forest ts t h =
    first_found _ ts t h.member (all_pass (λ u. is_under types t u) ts h.below_all)
    (λ u among least. forest.antisymmetric u t (each_passes (λ v. is_under types u v) ts t least h.member)
    (h.below_all u among))

said : (types : List TypeDecl) → IsForest (type_parents types) → (ts : List ℕ) (f : Finding)
    → Says (type_parents types) ts f → f ≡ finding_of types ts
said types forest ts nothing h = rw h refl
said types forest ts (found t) h = rw (not_split types forest ts t h) (sym (least_found types forest ts t h))
said types forest ts torn (a, b, h) = rw (split types ts a b h) refl

pub seen_all : (types : List TypeDecl) → HasNoCycle (type_parents types) → (ts : List ℕ) → fold (seen types) nothing ts
    ≡ finding_of types ts
seen_all types none ts =
    let trees : IsForest (type_parents types) = forest (type_parents types) (ranked (type_parents types) none).0
    (ranked (type_parents types) none).1 in
    said types trees ts (fold (seen types) nothing ts) (says_from types trees [] ts nothing refl)
