-- Where each parent has a lower rank, types are a forest.
use Rattle.std.proofs.Common.{◌≡◌, ◌≤◌, ◌<◌, ◌==◌, ◌||◌, ◌⊎◌, inl, inr, ℕ, zero, suc, Bool, true, false, IsTrue, Option}
use Rattle.std.proofs.Common.{None, Some, length, slice_get, refl, sym, subst, arith, if◌then◌else◌, nat_lt}
use Rattle.std.proofs.lemmas.Bool.Decides.{nat_tests}
use Rattle.stage_definitions.specs.NamesStage.{stepped, comes_back, begins_cycle}
use Rattle.stage_definitions.specs.Below.{Parents, Below, ComesBack, itself, under, reaches, is_below, IsRank, IsForest}

pub equal : (a b : ℕ) → (a == b) ≡ true → a ≡ b
equal a b e = grind (arith, nat_tests)

pub same_here : (a b : ℕ) → a ≡ b → (a == b) ≡ true
same_here a b e = grind (arith, nat_tests)

or_true : (x : Bool) → (x || true) ≡ true
or_true true = refl
or_true false = refl

reach_here : (n : ℕ) (ps : Parents) (t : ℕ) → reaches n ps t t ≡ true
reach_here zero ps t = same_here t t refl
reach_here (suc n) ps t = rw (same_here t t refl) refl

reach_up : (n : ℕ) (ps : Parents) (t p u : ℕ) → slice_get ps t ≡ Some (Some p) → reaches n ps p u ≡ true
    → reaches (suc n) ps t u ≡ true
reach_up n ps t p u e h = rw (e, h) (or_true (t == u))

-- ---- from the walk to the relation

up_below : (ps : Parents) (n t u : ℕ) (o : Option (Option ℕ)) → slice_get ps t ≡ o
    → stepped o (λ p. reaches n ps p u) ≡ true
    → ((p : ℕ) → reaches n ps p u ≡ true → Below ps p u) → Below ps t u
up_below ps n t u None e h go = absurd (let no : ⊥ = cc in no)
up_below ps n t u (Some None) e h go = absurd (let no : ⊥ = cc in no)
up_below ps n t u (Some (Some p)) e h go = under t p u e (go p h)

here_below : (ps : Parents) (t u : ℕ) → t ≡ u → Below ps t u
here_below ps t u e = subst (λ (v : ℕ). Below ps t v) e (itself t)

either_below : (ps : Parents) (n t u : ℕ) (b : Bool) → (t == u) ≡ b
    → (b || stepped (slice_get ps t) (λ p. reaches n ps p u)) ≡ true
    → ((p : ℕ) → reaches n ps p u ≡ true → Below ps p u) → Below ps t u
either_below ps n t u true e h go = here_below ps t u (equal t u e)
either_below ps n t u false e h go = up_below ps n t u (slice_get ps t) refl h go

walked : (n : ℕ) (ps : Parents) (t u : ℕ) → reaches n ps t u ≡ true → Below ps t u
walked zero ps t u e = here_below ps t u (equal t u e)
walked (suc n) ps t u e = either_below ps n t u (t == u) refl e (λ p h. walked n ps p u h)

-- ---- and back, where there is a rank

climb : (ps : Parents) (rank : ℕ → ℕ) (t p u : ℕ) → IsRank ps rank → slice_get ps t ≡ Some (Some p)
    → (m : ℕ) → rank t ≤ m
    → ((k : ℕ) → rank p ≤ k → reaches k ps p u ≡ true) → reaches m ps t u ≡ true
climb ps rank t p u r e zero le go = absurd (let lt : rank p < rank t = r.falls t p e in omega arith)
climb ps rank t p u r e (suc k) le go =
    let lt : rank p < rank t = r.falls t p e in
    reach_up k ps t p u e (go k (omega arith))

pub found : (ps : Parents) (rank : ℕ → ℕ) → IsRank ps rank → (t u : ℕ) → Below ps t u → (m : ℕ) → rank t ≤ m
    → reaches m ps t u ≡ true
found ps rank r _ _ (itself t) m le = reach_here m ps t
found ps rank r _ _ (under t p u e b) m le = climb ps rank t p u r e m le (λ k l. found ps rank r p u b k l)

below_on : (ps : Parents) (t u v : ℕ) → Below ps t u → Below ps u v → Below ps t v
below_on ps _ _ v (itself t) c = c
below_on ps _ _ v (under t p u e b) c = under t p v e (below_on ps p u v b c)

same_parent : (ps : Parents) (t p q : ℕ) → slice_get ps t ≡ Some (Some p) → slice_get ps t ≡ Some (Some q) → q ≡ p
same_parent ps t p q e f = cc

one_up : (ps : Parents) (t p u : ℕ) → slice_get ps t ≡ Some (Some p) → Below ps p u → (s v : ℕ) → s ≡ t → Below ps s v
    → ((w : ℕ) → Below ps p w → Below ps u w ⊎ Below ps w u) → Below ps u v ⊎ Below ps v u
one_up ps t p u e b _ _ same (itself s) go = inr (subst (λ (x : ℕ). Below ps x u) (sym same) (under t p u e b))
one_up ps t p u e b _ _ same (under s q v f c) go =
    let there : slice_get ps t ≡ Some (Some q) = subst (λ (x : ℕ). slice_get ps x ≡ Some (Some q)) same f in
    go v (subst (λ (x : ℕ). Below ps x v) (same_parent ps t p q e there) c)

one_way : (ps : Parents) (t u v : ℕ) → Below ps t u → Below ps t v → Below ps u v ⊎ Below ps v u
one_way ps _ _ v (itself t) c = inl c
one_way ps _ _ v (under t p u e b) c = one_up ps t p u e b t v refl c (λ w d. one_way ps p u w b d)

lower : (ps : Parents) (rank : ℕ → ℕ) → IsRank ps rank → (t u : ℕ) → Below ps t u → rank u ≤ rank t
lower ps rank r _ _ (itself t) = omega arith
lower ps rank r _ _ (under t p u e b) =
    let lt : rank p < rank t = r.falls t p e in
    let le : rank u ≤ rank p = lower ps rank r p u b in
    omega arith

only_itself : (ps : Parents) (rank : ℕ → ℕ) → IsRank ps rank → (t u : ℕ) → Below ps t u → rank t ≤ rank u → t ≡ u
only_itself ps rank r _ _ (itself t) le = refl
only_itself ps rank r _ _ (under t p u e b) le =
    let lt : rank p < rank t = r.falls t p e in
    let l : rank u ≤ rank p = lower ps rank r p u b in
    absurd (omega arith)

pub forest : (ps : Parents) (rank : ℕ → ℕ) → IsRank ps rank → IsForest ps
forest ps rank r =
    let to : (t u : ℕ) → IsTrue (is_below ps t u) → Below ps t u = λ t u e. walked (length ps) ps t u e in
    let back : (t u : ℕ) → Below ps t u → IsTrue (is_below ps t u) =
    λ t u b. found ps rank r t u b (length ps) (r.low t) in
    record {
      decided = back;
      right = to;
      reflexive = λ t. reach_here (length ps) ps t;
      transitive = λ t u v e f. back t v (below_on ps t u v (to t u e) (to u v f));
      antisymmetric = λ t u e f. only_itself ps rank r t u (to t u e) (lower ps rank r u t (to u t f));
      one_way_up = λ t u v e f. elim (one_way ps t u v (to t u e) (to t v f)) [
        | inl b ↦ inl (back u v b)
        | inr b ↦ inr
            (back v u b)
      ];
    }

-- ---- what the search for cycles says

cycle_by : (n : ℕ) (ps : Parents) (t a b : ℕ) (same passed : Bool) → slice_get ps a ≡ Some (Some b) → (b == t) ≡ same
    → (if same then true else (if passed then false else comes_back n ps t b)) ≡ true
    → (comes_back n ps t b ≡ true → (p : ℕ) × (slice_get ps b ≡ Some (Some p)) × Below ps p t)
    → (p : ℕ) × (slice_get ps a ≡ Some (Some p)) × Below ps p t
cycle_by n ps t a b true passed e f h go = (b, e, here_below ps b t (equal b t f))
cycle_by n ps t a b false true e f h go = absurd (let no : ⊥ = cc in no)
cycle_by n ps t a b false false e f h go = let r = go h in (b, e, under b r.0 t r.1 r.2)

cycle_up : (n : ℕ) (ps : Parents) (t a : ℕ) (o : Option (Option ℕ)) → slice_get ps a ≡ o
    → stepped o (λ b. if b == t then true else (if nat_lt b t then false else comes_back n ps t b)) ≡ true
    → ((b : ℕ) → comes_back n ps t b ≡ true → (p : ℕ) × (slice_get ps b ≡ Some (Some p)) × Below ps p t)
    → (p : ℕ) × (slice_get ps a ≡ Some (Some p)) × Below ps p t
cycle_up n ps t a None e h go = absurd (let no : ⊥ = cc in no)
cycle_up n ps t a (Some None) e h go = absurd (let no : ⊥ = cc in no)
cycle_up n ps t a (Some (Some b)) e h go = cycle_by n ps t a b (b == t) (nat_lt b t) e refl h (go b)

cycle_from : (n : ℕ) (ps : Parents) (t a : ℕ) → comes_back n ps t a ≡ true → (p : ℕ) × (slice_get ps a ≡ Some (Some p))
    × Below ps p t
cycle_from zero ps t a h = absurd (let no : ⊥ = cc in no)
cycle_from (suc n) ps t a h = cycle_up n ps t a (slice_get ps a) refl h (λ b g. cycle_from n ps t b g)

-- what begins a cycle comes back to itself
pub begun : (ps : Parents) (t : ℕ) → begins_cycle ps t ≡ true → ComesBack ps t
begun ps t h = cycle_from (length ps) ps t t h

-- where there is a rank nothing does
pub never_itself : (ps : Parents) (rank : ℕ → ℕ) → IsRank ps rank → (t : ℕ) → ComesBack ps t → ⊥
never_itself ps rank r t (p, e, b) =
    let lt : rank p < rank t = r.falls t p e in
    let le : rank t ≤ rank p = lower ps rank r p t b in
    omega arith
