-- What was noted use by use is the earliest refusal of a stage.
use Rattle.std.proofs.Common.{◌≡◌, ◌<◌, ◌==◌, ℕ, Bool, true, false, ◌||◌, ◌&&◌, nat_lt, IsTrue, List, [], ◌∷◌, Option}
use Rattle.std.proofs.Common.{None, Some, if◌then◌else◌, fold, refl, ap, sym, ◌∙◌, arith, ◌⊎◌, inl, inr, Contains}
use Rattle.std.proofs.Common.{subst}
use Rattle.std.specs.List.{flat_map}
use Rattle.std.proofs.lemmas.Grind.{fold-append}
use Rattle.std.proofs.lemmas.Bool.Decides.{nat_tests}
use Rattle.std.proofs.lemmas.List.Elements.{Contains-append_cases, Contains-append_left, Contains-append_right}
use Rattle.std.proofs.lemmas.List.Elements.{Contains-push_cases}
use Rattle.kb_text.specs.Refusals.{number_of}
use Rattle.kb_text.specs.declared.fault.K.{K}
use Rattle.kb_text.specs.declared.fault.KbFault.{KbFault}
use Rattle.stage_definitions.specs.Earliest.{refusal, comes_before, IsEarliest, earlier, noted_if, noted_at, IsRowOf}
use Rattle.stage_definitions.specs.Earliest.{row}

-- the order on plain numbers
abbrev before_by : ℕ → ℕ → ℕ → ℕ → Bool
before_by p i q j = nat_lt p q || ((p == q) && nat_lt i j)

never_before_itself : (p i : ℕ) → before_by p i p i ≡ false
never_before_itself p i = grind (arith, nat_tests)

not_turned : (p i q j : ℕ) → before_by p i q j ≡ true → before_by q j p i ≡ false
not_turned p i q j e = grind (arith, nat_tests)

not_passed_on : (p i q j r k : ℕ) → before_by p i q j ≡ false → before_by q j r k ≡ false → before_by p i r k ≡ false
not_passed_on p i q j r k e f = grind (arith, nat_tests)

never_itself : (r : KbFault) → comes_before r r ≡ false
never_itself r = never_before_itself r.place (number_of r.cause)

turned : (q r : KbFault) → comes_before q r ≡ true → comes_before r q ≡ false
turned q r e = not_turned q.place (number_of q.cause) r.place (number_of r.cause) e

passed_on : (q r s : KbFault) → comes_before q r ≡ false → comes_before r s ≡ false → comes_before q s ≡ false
passed_on q r s e f =
    not_passed_on q.place (number_of q.cause) r.place (number_of r.cause) s.place (number_of s.cause) e f

-- what a fold over some refusals has come to
record IsBest (start : Option KbFault) (rs : List KbFault) (r : KbFault) : Type 0 where
  found : (start ≡ Some r) ⊎ Contains rs r
  from_start : (q : KbFault) → start ≡ Some q → comes_before q r ≡ false
  from_list : (q : KbFault) → Contains rs q → comes_before q r ≡ false

pub contains_head : {X : Type 0} (x : X) (xs : List X) (y : X) → x ≡ y → Contains (x ∷ xs) y
contains_head x xs y e = Contains-append_left (x ∷ []) xs y (0, omega arith, e)

pub contains_tail : {X : Type 0} (x : X) (xs : List X) (y : X) → Contains xs y → Contains (x ∷ xs) y
contains_tail x xs y h = Contains-append_right (x ∷ []) xs y h

pub contains_nothing : {X : Type 0} {Q : Type 0} (y : X) → Contains [] y → Q
contains_nothing y h = absurd (let lt : h.0 < 0 = h.1 in omega arith)

pub contains_cases : {X : Type 0} (x : X) (xs : List X) (y : X) → Contains (x ∷ xs) y → (x ≡ y) ⊎ Contains xs y
contains_cases x xs y h = elim (Contains-append_cases (x ∷ []) xs y h) [
  | inl here ↦ elim (Contains-push_cases [] x y here) [ inl none ↦ contains_nothing y none | inr same ↦ inl same ]
  | inr there ↦ inr there
]

some_stays : (rs : List KbFault) (q : KbFault) → (s : KbFault) × (fold earlier (Some q) rs ≡ Some s)
some_stays [] q = (q, refl)
some_stays (x ∷ rs) q =
    elim (comes_before x q) as (λ b. (s : KbFault) × (fold earlier (if b then Some x else Some q) rs ≡ Some s))
    [ true ↦ some_stays rs x | false ↦ some_stays rs q ]

nothing_left : (rs : List KbFault) → fold earlier None rs ≡ None → rs ≡ []
nothing_left [] e = refl
nothing_left (r ∷ rs) e = let p = some_stays rs r in let stays = p.1 in absurd (let n : ⊥ = cc in n)

next_best : (b : Bool) (x f : KbFault) (rs : List KbFault) (r : KbFault) → comes_before x f ≡ b
    → IsBest (if b then Some x else Some f) rs r → IsBest (Some f) (x ∷ rs) r
next_best true x f rs r e p = record {
  found = elim p.found [ inl same ↦ inr (contains_head x rs r cc) | inr there ↦ inr (contains_tail x rs r there) ];
  from_start = λ q same. let is : f ≡ q = cc in rw (← is) (passed_on f x r (turned x f e) (p.from_start x refl));
  from_list = λ q there. elim (contains_cases x rs q there) [
    | inl same ↦ rw (← same) (p.from_start x refl)
    | inr later ↦ p.from_list q later
  ];
}
next_best false x f rs r e p = record {
  found = elim p.found [ inl same ↦ inl same | inr there ↦ inr (contains_tail x rs r there) ];
  from_start = p.from_start;
  from_list = λ q there. elim (contains_cases x rs q there) [
    | inl same ↦ rw (← same) (passed_on x f r e (p.from_start f refl))
    | inr later ↦ p.from_list q later
  ];
}

first_best : (x : KbFault) (rs : List KbFault) (r : KbFault) → IsBest (Some x) rs r → IsBest None (x ∷ rs) r
first_best x rs r p = record {
  found = elim p.found [ inl same ↦ inr (contains_head x rs r cc) | inr there ↦ inr (contains_tail x rs r there) ];
  from_start = λ q same. absurd (let n : ⊥ = cc in n);
  from_list = λ q there. elim (contains_cases x rs q there) [
    | inl same ↦ rw (← same) (p.from_start x refl)
    | inr later ↦ p.from_list q later
  ];
}

best : (rs : List KbFault) (start : Option KbFault) (r : KbFault) → fold earlier start rs ≡ Some r → IsBest start rs r
best [] start r e = record {
  found = inl e;
  from_start = λ q same. let is : q ≡ r = cc in rw is (never_itself r);
  from_list = λ q there. contains_nothing q there;
}
best (x ∷ rs) None r e = first_best x rs r (best rs (Some x) r e)
best (x ∷ rs) (Some f) r e = next_best (comes_before x f) x f rs r refl (best rs (earlier (Some f) x) r e)

pub flat_has : {X Y : Type 0} (f : X → List Y) (xs : List X) (x : X) (y : Y) → Contains xs x → Contains (f x) y
    → Contains (flat_map f xs) y
flat_has f [] x y there has = contains_nothing x there
flat_has f (z ∷ xs) x y there has = elim (contains_cases z xs x there) [
  | inl same ↦ Contains-append_left (f z) (flat_map f xs) y (rw same has)
  | inr later ↦ Contains-append_right (f z) (flat_map f xs) y (flat_has f xs x y later has)
]

pub flat_from : {X Y : Type 0} (f : X → List Y) (xs : List X) (y : Y) → Contains (flat_map f xs) y
    → (x : X) × Contains xs x × Contains (f x) y
flat_from f [] y has = contains_nothing y has
flat_from f (z ∷ xs) y has = elim (Contains-append_cases (f z) (flat_map f xs) y has) [
  | inl here ↦ (z, contains_head z xs z refl, here)
  | inr there ↦ let p = flat_from f xs y there in (p.0, contains_tail z xs p.0 p.1, p.2)
]

-- ---- the same as a list of refusals

-- the refusal of a row whose test holds
abbrev pub noted : Bool → K → ℕ → List KbFault
noted true cause place = refusal cause place ∷ []
noted false cause place = []

noted_has : (b : Bool) (c : K) (p : ℕ) → IsTrue b → Contains (noted b c p) (refusal c p)
noted_has true c p t = contains_head (refusal c p) [] (refusal c p) refl
noted_has false c p t = absurd (let n : ⊥ = cc in n)

noted_from : (b : Bool) (c : K) (p : ℕ) (r : KbFault) → Contains (noted b c p) r → IsTrue b × (refusal c p ≡ r)
noted_from true c p r has = elim (contains_cases (refusal c p) [] r has)
    [ inl same ↦ (refl, same) | inr none ↦ contains_nothing r none ]
noted_from false c p r has = contains_nothing r has

noted_if-is : (b : Bool) (c : K) (p : ℕ) (o : Option KbFault) → noted_if b c p o ≡ fold earlier o (noted b c p)
noted_if-is true c p o = refl
noted_if-is false c p o = refl

-- the refusals at one use
abbrev pub listed_at : {Use : Type 0} → (Use → K → Bool) → (Use → ℕ) → List K → Use → List KbFault
listed_at test place causes u = flat_map (λ cause. noted (test u cause) cause (place u)) causes

noted_at-is : {Use : Type 0} (test : Use → K → Bool) (place : Use → ℕ) (causes : List K) (u : Use) (o : Option KbFault)
    → noted_at test place causes o u ≡ fold earlier o (listed_at test place causes u)
noted_at-is test place [] u o = refl
noted_at-is test place (c ∷ causes) u o =
    noted_at-is test place causes u (noted_if (test u c) c (place u) o)
    ∙ ap (λ (before : Option KbFault). fold earlier before (listed_at test place causes u))
    (noted_if-is (test u c) c (place u) o)
    ∙ sym (fold-append earlier o (noted (test u c) c (place u)) (listed_at test place causes u))

noted_all-is : {Use : Type 0} (test : Use → K → Bool) (place : Use → ℕ) (causes : List K) (us : List Use)
    (o : Option KbFault)
    → fold (noted_at test place causes) o us ≡ fold earlier o (flat_map (listed_at test place causes) us)
noted_all-is test place causes [] o = refl
noted_all-is test place causes (u ∷ us) o =
    noted_all-is test place causes us (noted_at test place causes o u)
    ∙ ap (λ (before : Option KbFault). fold earlier before (flat_map (listed_at test place causes) us))
    (noted_at-is test place causes u o)
    ∙ sym (fold-append earlier o (listed_at test place causes u) (flat_map (listed_at test place causes) us))

listed : {Use : Type 0} (test : Use → K → Bool) (place : Use → ℕ) (causes : List K) (us : List Use) (r : KbFault)
    → IsRowOf test place causes us r → Contains (flat_map (listed_at test place causes) us) r
listed test place causes us _ (row u cause there among holds) =
    flat_has (listed_at test place causes) us u (refusal cause (place u)) there
    (flat_has (λ (c : K). noted (test u c) c (place u)) causes cause (refusal cause (place u)) among
    (noted_has (test u cause) cause (place u) holds))

from_listed : {Use : Type 0} (test : Use → K → Bool) (place : Use → ℕ) (causes : List K) (us : List Use) (r : KbFault)
    → Contains (flat_map (listed_at test place causes) us) r → IsRowOf test place causes us r
from_listed test place causes us r has =
    let p = flat_from (listed_at test place causes) us r has in
    let q = flat_from (λ (c : K). noted (test p.0 c) c (place p.0)) causes r p.2 in
    let n = noted_from (test p.0 q.0) q.0 (place p.0) r q.2 in
    subst (IsRowOf test place causes us) n.1 (row p.0 q.0 p.1 q.1 n.0)

not_true : (b : Bool) → b ≡ false → IsTrue b → ⊥
not_true b e t = cc

-- ---- both outcomes

-- where nothing was noted no row refuses
pub nothing_noted : {Use : Type 0} (test : Use → K → Bool) (place : Use → ℕ) (causes : List K) (us : List Use)
    → fold (noted_at test place causes) None us ≡ None → (q : KbFault) → IsRowOf test place causes us q → ⊥
nothing_noted test place causes us e q h =
    let none : flat_map (listed_at test place causes) us ≡ [] =
    nothing_left (flat_map (listed_at test place causes) us) (sym (noted_all-is test place causes us None) ∙ e) in
    contains_nothing q (subst (λ (rs : List KbFault). Contains rs q) none (listed test place causes us q h))

-- what was noted is the earliest refusal
pub earliest_noted : {Use : Type 0} (test : Use → K → Bool) (place : Use → ℕ) (causes : List K) (us : List Use)
    (r : KbFault)
    → fold (noted_at test place causes) None us ≡ Some r → IsEarliest (IsRowOf test place causes us) r
earliest_noted test place causes us r e =
    let p = best (flat_map (listed_at test place causes) us) None r
    (sym (noted_all-is test place causes us None) ∙ e) in
    record {
      refused = elim p.found [
        | inl none ↦ absurd (let n : ⊥ = cc in n)
        | inr there ↦ from_listed test place causes
            us r there
      ];
      earliest = λ q h t. not_true (comes_before q r) (p.from_list q (listed test place causes us q h)) t;
    }

-- the same refusals in other words
pub earliest_of_same : (P Q : KbFault → Type 0) (r : KbFault) → ((q : KbFault) → P q → Q q)
    → ((q : KbFault) → Q q → P q)
    → IsEarliest P r → IsEarliest Q r
earliest_of_same P Q r to from e = record {
  refused = to r e.refused;
  earliest = λ q h t. e.earliest q (from q h) t;
}
