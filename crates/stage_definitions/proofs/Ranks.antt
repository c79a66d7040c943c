-- Where no type begins a cycle of `isa`, each chain of parents ends.
use Rattle.std.proofs.Common.{◌≡◌, ◌≤◌, ◌<◌, ◌==◌, eqb, ◌||◌, ◌+◌, ◌-◌, ℕ, zero, suc, Bool, true, false, List, [], ◌∷◌}
use Rattle.std.proofs.Common.{Option, None, Some, if◌then◌else◌, nat_lt, length, slice_get, refl, ap, ◌∙◌, sym, arith}
use Rattle.std.specs.List.{IsDistinct, AllByRecursion, list_any}
use Rattle.std.proofs.lemmas.Bool.Decides.{nat_tests}
use Rattle.std.proofs.lemmas.Map.Steps.{length-le_from_distinct_below}
use Rattle.std.proofs.lemmas.Option.{slice_get_within}
use Rattle.stage_definitions.specs.NamesStage.{stepped, comes_back, begins_cycle}
use Rattle.stage_definitions.specs.Below.{Parents, HasNoCycle, IsRank}
use Rattle.stage_definitions.proofs.Forest.{equal, same_here}

abbrev above_of : Option (Option ℕ) → Option ℕ
above_of None = None
above_of (Some o) = o

-- one step up, and so many
abbrev up_one : Parents → Option ℕ → Option ℕ
up_one ps None = None
up_one ps (Some t) = above_of (slice_get ps t)

abbrev up : ℕ → Parents → Option ℕ → Option ℕ
up zero ps o = o
up (suc n) ps o = up n ps (up_one ps o)

up-last : (n : ℕ) (ps : Parents) (o : Option ℕ) → up n ps (up_one ps o) ≡ up_one ps (up n ps o)
up-last zero ps o = refl
up-last (suc n) ps o = up-last n ps (up_one ps o)

up-none : (n : ℕ) (ps : Parents) → up n ps None ≡ None
up-none zero ps = refl
up-none (suc n) ps = up-none n ps

up-sum : (n k m : ℕ) (ps : Parents) (o : Option ℕ) → k ≡ m + n → up k ps o ≡ up m ps (up n ps o)
up-sum zero k m ps o e = let same : k ≡ m = omega arith in rw same refl
up-sum (suc n) zero m ps o e = absurd (omega arith)
up-sum (suc n) (suc k) m ps o e = up-sum n k m ps (up_one ps o) (omega arith)

up-turned : (m n : ℕ) (ps : Parents) (o : Option ℕ) → up m ps (up n ps o) ≡ up n ps (up m ps o)
up-turned m n ps o = sym (up-sum n (m + n) m ps o refl) ∙ up-sum m (m + n) n ps o (omega arith)

-- what comes back from x comes back from each type on the way
turned : (ps : Parents) (d i x y : ℕ) → up d ps (Some x) ≡ Some x → up i ps (Some x) ≡ Some y
    → up d ps (Some y) ≡ Some y
turned ps d i x y back there =
    ap (up d ps) (sym there) ∙ up-turned d i ps (Some x) ∙ ap (up i ps) back ∙ there

-- ---- a cycle has a first type

-- no type below x is on a way that begins at x
abbrev Stays : Parents → ℕ → Type 0
Stays ps x = (i y : ℕ) → up i ps (Some x) ≡ Some y → nat_lt y x ≡ false

not_none : {Q : Type 0} (ps : Parents) (n x : ℕ) → up n ps None ≡ Some x → Q
not_none ps n x h = absurd (let none : up n ps None ≡ None = up-none n ps in let no : ⊥ = cc in no)

arrived : (ps : Parents) (r x b : ℕ) (same passed : Bool) → (b == x) ≡ same → nat_lt b x ≡ passed → passed ≡ false
    → up r ps (Some b) ≡ Some x
    → ((k : ℕ) → r ≡ suc k → comes_back r ps x b ≡ true)
    → (if same then true else (if passed then false else comes_back r ps x b)) ≡ true
arrived ps r x b true passed e f none h go = refl
arrived ps r x b false true e f none h go = absurd (let no : ⊥ = cc in no)
arrived ps zero x b false false e f none h go =
    absurd (let here : b ≡ x = cc in let same : (b == x) ≡ true = same_here b x here in let no : ⊥ = cc in no)
arrived ps (suc k) x b false false e f none h go = go k refl

stepped_back : (ps : Parents) (r x a : ℕ) (o : Option (Option ℕ)) → slice_get ps a ≡ o → up r ps (above_of o) ≡ Some x
    → ((b : ℕ) → slice_get ps a ≡ Some (Some b) → up r ps (Some b) ≡ Some x
    → (if b == x then true else (if nat_lt b x then false else comes_back r ps x b)) ≡ true)
    → stepped o (λ b. if b == x then true else (if nat_lt b x then false else comes_back r ps x b)) ≡ true
stepped_back ps r x a None e h go = not_none ps r x h
stepped_back ps r x a (Some None) e h go = not_none ps r x h
stepped_back ps r x a (Some (Some b)) e h go = go b e h

next_up : (ps : Parents) (i x a b : ℕ) → up i ps (Some x) ≡ Some a → slice_get ps a ≡ Some (Some b)
    → up (suc i) ps (Some x) ≡ Some b
next_up ps i x a b h e = up-last i ps (Some x) ∙ ap (up_one ps) h ∙ ap above_of e

comes : (r : ℕ) (ps : Parents) (x : ℕ) → Stays ps x → (i a : ℕ) → up i ps (Some x) ≡ Some a
    → up (suc r) ps (Some a) ≡ Some x
    → comes_back (suc r) ps x a ≡ true
comes zero ps x stays i a there h =
    stepped_back ps zero x a (slice_get ps a) refl h
    (λ b e g. arrived ps zero x b (b == x) (nat_lt b x) refl refl (stays (suc i) b (next_up ps i x a b there e)) g
    (λ k never. absurd (omega arith)))
comes (suc r) ps x stays i a there h =
    stepped_back ps (suc r) x a (slice_get ps a) refl h
    (λ b e g. arrived ps (suc r) x b (b == x) (nat_lt b x) refl refl (stays (suc i) b (next_up ps i x a b there e)) g
    (λ k is. comes r ps x stays (suc i) b (next_up ps i x a b there e) g))

-- more steps are allowed
more_by : (same passed old new : Bool) → (old ≡ true → new ≡ true)
    → (if same then true else (if passed then false else old)) ≡ true
    → (if same then true else (if passed then false else new)) ≡ true
more_by true passed old new go h = refl
more_by false true old new go h = h
more_by false false old new go h = go h

more_stepped : (o : Option (Option ℕ)) (old new : ℕ → Bool) → ((b : ℕ) → old b ≡ true → new b ≡ true)
    → stepped o old ≡ true → stepped o new ≡ true
more_stepped None old new go h = h
more_stepped (Some None) old new go h = h
more_stepped (Some (Some b)) old new go h = go b h

more : (m n : ℕ) (ps : Parents) (x a : ℕ) → m ≤ n → comes_back m ps x a ≡ true → comes_back n ps x a ≡ true
more zero n ps x a le h = absurd (let no : ⊥ = cc in no)
more (suc m) zero ps x a le h = absurd (omega arith)
more (suc m) (suc n) ps x a le h =
    more_stepped (slice_get ps a) _ _
    (λ b. more_by (b == x) (nat_lt b x) (comes_back m ps x b) (comes_back n ps x b)
    (λ g. more m n ps x b (omega arith) g)) h

-- ---- without cycles no type comes back to itself

inside_by : (ps : Parents) (x r y : ℕ) (o : Option (Option ℕ)) → slice_get ps x ≡ o → up r ps (above_of o) ≡ Some y
    → x < length ps
inside_by ps x r y None e h = not_none ps r y h
inside_by ps x r y (Some o) e h = slice_get_within ps x o e

-- a type with a parent is one of the list
inside : (ps : Parents) (x r y : ℕ) → up (suc r) ps (Some x) ≡ Some y → x < length ps
inside ps x r y h = inside_by ps x r y (slice_get ps x) refl h

below_by : (y x : ℕ) → nat_lt y x ≡ true → y < x
below_by y x e = grind (arith, nat_tests)

not_below : (y x : ℕ) (b : Bool) → nat_lt y x ≡ b → (y < x → ⊥) → nat_lt y x ≡ false
not_below y x true e never = absurd (never (below_by y x e))
not_below y x false e never = e

never_by : (ps : Parents) → HasNoCycle ps → (x d : ℕ) → d ≤ length ps
    → ((y : ℕ) → y < x → up d ps (Some y) ≡ Some y → ⊥)
    → 0 < d → up d ps (Some x) ≡ Some x → ⊥
never_by ps none x zero le lower pos back = omega arith
never_by ps none x (suc r) le lower pos back =
    let stays : Stays ps x = λ i y there. not_below y x (nat_lt y x) refl
    (λ lt. lower y lt (turned ps (suc r) i x y back there)) in
    let first : comes_back (length ps) ps x x ≡ true = more (suc r) (length ps) ps x x le
    (comes r ps x stays 0 x refl back) in
    let not_first : begins_cycle ps x ≡ false = none x (inside ps x r x back) in
    cc

never_back : (k : ℕ) (ps : Parents) → HasNoCycle ps → (x d : ℕ) → x < k → d ≤ length ps → 0 < d
    → up d ps (Some x) ≡ Some x → ⊥
never_back zero ps none x d lt le pos back = omega arith
never_back (suc k) ps none x d lt le pos back =
    never_by ps none x d le (λ y less h. never_back k ps none y d (omega arith) le pos h) pos back

-- ---- so a way up has each type once

-- the types on the way, of which there are at most so many
abbrev trail : ℕ → Parents → Option ℕ → List ℕ
trail zero ps o = []
trail (suc k) ps None = []
trail (suc k) ps (Some t) = t ∷ trail k ps (up_one ps (Some t))

trail-length : (k : ℕ) (ps : Parents) (o : Option ℕ) (z : ℕ) → up k ps o ≡ Some z → length (trail (suc k) ps o) ≡ suc k
trail-length zero ps None z h = absurd (let no : ⊥ = cc in no)
trail-length zero ps (Some t) z h = refl
trail-length (suc k) ps None z h = not_none ps k z h
trail-length (suc k) ps (Some t) z h = ap suc (trail-length k ps (up_one ps (Some t)) z h)

trail_short : (k : ℕ) (ps : Parents) (o : Option ℕ) → length (trail k ps o) ≤ k
trail_short zero ps o = omega arith
trail_short (suc k) ps None = omega arith
trail_short (suc k) ps (Some t) =
    let le : length (trail k ps (up_one ps (Some t))) ≤ k = trail_short k ps (up_one ps (Some t)) in
    omega arith

other : (x t : ℕ) (b : Bool) → (x == t) ≡ b → (x ≡ t → ⊥) → (x == t) ≡ false
other x t true e never = absurd (never (equal x t e))
other x t false e never = e

reached_by : (k : ℕ) (ps : Parents) (t q : ℕ) (b : Bool) → (q == t) ≡ b
    → (b || list_any (eqb q) (trail k ps (up_one ps (Some t)))) ≡ true
    → (list_any (eqb q) (trail k ps (up_one ps (Some t))) ≡ true
    → (i : ℕ) × (i < k) × (up i ps (up_one ps (Some t)) ≡ Some q))
    → (i : ℕ) × (i < suc k) × (up i ps (Some t) ≡ Some q)
reached_by k ps t q true e h go = (0, omega arith, ap Some (sym (equal q t e)))
reached_by k ps t q false e h go = let r = go h in (suc r.0, omega arith, r.2)

-- each type on the way is reached by fewer steps
reached : (k : ℕ) (ps : Parents) (o : Option ℕ) (q : ℕ) → list_any (eqb q) (trail k ps o) ≡ true
    → (i : ℕ) × (i < k) × (up i ps o ≡ Some q)
reached zero ps o q h = absurd (let no : ⊥ = cc in no)
reached (suc k) ps None q h = absurd (let no : ⊥ = cc in no)
reached (suc k) ps (Some t) q h = reached_by k ps t q (q == t) refl h (λ g. reached k ps (up_one ps (Some t)) q g)

-- x is not on a way that does not come to it
apart : (k : ℕ) (ps : Parents) (o : Option ℕ) (x : ℕ) → ((i : ℕ) → i < k → up i ps o ≡ Some x → ⊥)
    → AllByRecursion (λ y. eqb x y ≡ false) (trail k ps o)
apart zero ps o x never = tt
apart (suc k) ps None x never = tt
apart (suc k) ps (Some t) x never = (
  other x t (x == t) refl (λ same. never 0 (omega arith) (ap Some (sym same))),
  apart k ps (up_one ps (Some t)) x
      (λ i lt h. never (suc i) (omega arith) h),
)

distinct : (k : ℕ) (ps : Parents) (o : Option ℕ) → ((x d : ℕ) → d < k → 0 < d → up d ps (Some x) ≡ Some x → ⊥)
    → IsDistinct eqb (trail k ps o)
unfolding IsDistinct
distinct zero ps o never = tt
distinct (suc k) ps None never = tt
distinct (suc k) ps (Some t) never = (
  apart k ps (up_one ps (Some t)) t (λ i lt h. never t (suc i) (omega arith) (omega arith) h),
  distinct k ps (up_one ps (Some t)) (λ x d lt pos h. never x d (omega arith) pos h),
)

-- ---- and ends

-- a type from which one more step goes up is one of the list
on_the_way : (ps : Parents) (n i q t z : ℕ) → i < suc n → up i ps (Some t) ≡ Some q → up (suc n) ps (Some t) ≡ Some z
    → q < length ps
on_the_way ps n i q t z lt there h =
    let le : i ≤ n = omega arith in
    let sum : suc n ≡ suc (n - i) + i = omega arith in
    inside ps q (n - i) z (ap (up (suc (n - i)) ps) (sym there)
    ∙ sym (up-sum i (suc n) (suc (n - i)) ps (Some t) sum) ∙ h)

some_before : (ps : Parents) (n t z : ℕ) (o : Option ℕ) → up n ps (Some t) ≡ o → up (suc n) ps (Some t) ≡ Some z
    → (y : ℕ) × (up n ps (Some t) ≡ Some y)
some_before ps n t z None e h =
    absurd (let last : up (suc n) ps (Some t) ≡ None = up-last n ps (Some t) ∙ ap (up_one ps) e in
    let no : ⊥ = cc in no)
some_before ps n t z (Some y) e h = (y, e)

too_long : (ps : Parents) → HasNoCycle ps → (t z : ℕ) → up (suc (length ps)) ps (Some t) ≡ Some z → ⊥
too_long ps none t z h =
    let before = some_before ps (length ps) t z (up (length ps) ps (Some t)) refl h in
    let long : length (trail (suc (length ps)) ps (Some t)) ≡ suc (length ps) =
    trail-length (length ps) ps (Some t) before.0 before.1 in
    let once : IsDistinct eqb (trail (suc (length ps)) ps (Some t)) =
    distinct (suc (length ps)) ps (Some t) (λ x d lt pos back. never_back (suc x) ps none x d (omega arith)
    (omega arith) pos back) in
    let le : length (trail (suc (length ps)) ps (Some t)) ≤ length ps =
    length-le_from_distinct_below (trail (suc (length ps)) ps (Some t)) (length ps) once
    (λ q on. let r = reached (suc (length ps)) ps (Some t) q on in on_the_way ps (length ps) r.0 q t z r.1 r.2 h) in
    omega arith

ends_by : (ps : Parents) → HasNoCycle ps → (t : ℕ) (o : Option ℕ) → up (suc (length ps)) ps (Some t) ≡ o
    → up (suc (length ps)) ps (Some t) ≡ None
ends_by ps none t None e = e
ends_by ps none t (Some z) e = absurd (too_long ps none t z e)

-- ---- so how many types are above a type is a rank

abbrev rank_of : Parents → ℕ → ℕ
rank_of ps t = length (trail (length ps) ps (up_one ps (Some t)))

trail-ended : (m : ℕ) (ps : Parents) (o : Option ℕ) → up m ps o ≡ None → trail (suc m) ps o ≡ trail m ps o
trail-ended zero ps None e = refl
trail-ended zero ps (Some t) e = absurd (let no : ⊥ = cc in no)
trail-ended (suc m) ps None e = refl
trail-ended (suc m) ps (Some t) e = ap (λ (ts : List ℕ). t ∷ ts) (trail-ended m ps (up_one ps (Some t)) e)

falls_by : (n : ℕ) (ps : Parents) (t p : ℕ) → slice_get ps t ≡ Some (Some p) → t < n → up (suc n) ps (Some t) ≡ None
    → length (trail n ps (up_one ps (Some p))) < length (trail n ps (up_one ps (Some t)))
falls_by zero ps t p e lt ended = absurd (omega arith)
falls_by (suc m) ps t p e lt ended =
    let is : up_one ps (Some t) ≡ Some p = ap above_of e in
    let short : up m ps (up_one ps (Some p)) ≡ None = ap (up (suc m) ps) (sym is) ∙ ended in
    let same : length (trail (suc m) ps (up_one ps (Some p))) ≡ length (trail m ps (up_one ps (Some p))) =
    ap length (trail-ended m ps (up_one ps (Some p)) short) in
    let longer : length (trail (suc m) ps (up_one ps (Some t))) ≡ suc (length (trail m ps (up_one ps (Some p)))) =
    ap (λ (o : Option ℕ). length (trail (suc m) ps o)) is in
    omega arith

pub ranked : (ps : Parents) → HasNoCycle ps → (rank : ℕ → ℕ) × IsRank ps rank
ranked ps none = (
  rank_of ps,
  record {
    falls = λ t p e. falls_by (length ps) ps t p e (slice_get_within ps t (Some p) e)
        (ends_by ps none t (up (suc (length ps)) ps (Some t)) refl);
    low = λ t. trail_short (length ps) ps (up_one ps (Some t));
  },
)
