-- How the potential bounds the conflicts of a search.
use Rattle.std.proofs.Common.{◌≡◌, ℕ, zero, suc, ◌+◌, ◌*◌, ◌^◌, ◌<◌, ◌≤◌, Bool, true, false, List, [], ◌∷◌, ◌++◌}
use Rattle.std.proofs.Common.{length, arith}
use Rattle.std.proofs.Math.Nat.{pow-suc}
use Rattle.std.proofs.lemmas.Nat.{pow_pos}
use Rattle.search_engine.specs.Potential.{potential, progress}

twice : (n : ℕ) → 2 ^ (suc n) ≡ 2 ^ n + 2 ^ n
twice n = let e : 2 ^ (suc n) ≡ 2 ^ n * 2 = pow-suc 2 n in omega arith

above-zero : (n : ℕ) → 0 < 2 ^ n
above-zero n = pow_pos n

-- there is room for one bit below those on the trail
pub bounded : (v : ℕ) (bs : List Bool) (m : ℕ) → length bs + m ≡ v → potential v bs + 2 ^ m ≤ 2 ^ v
bounded v [] m e = let s : m ≡ v = omega arith in rw s (omega arith)
bounded zero (b ∷ bs) m e = absurd (omega arith)
bounded (suc v) (true ∷ bs) m e =
    let r : potential v bs + 2 ^ m ≤ 2 ^ v = bounded v bs m (omega arith) in
    let t : 2 ^ (suc v) ≡ 2 ^ v + 2 ^ v = twice v in
    omega arith
bounded (suc v) (false ∷ bs) m e =
    let r : potential v bs + 2 ^ m ≤ 2 ^ v = bounded v bs m (omega arith) in
    let t : 2 ^ (suc v) ≡ 2 ^ v + 2 ^ v = twice v in
    omega arith

-- the part after the prefix P
pub at-append : (v : ℕ) (p q : List Bool) (m : ℕ) → length p + m ≡ v → potential v (p ++ q)
    ≡ potential v p + potential m q
at-append v [] q m e = let s : m ≡ v = omega arith in rw s (omega arith)
at-append zero (b ∷ p) q m e = absurd (omega arith)
at-append (suc v) (true ∷ p) q m e = let r : potential v (p ++ q) ≡ potential v p + potential m q =
    at-append v p q m (omega arith) in omega arith
at-append (suc v) (false ∷ p) q m e = at-append v p q m (omega arith)

-- a conflict that passes the decision after p: m places are left after the decision's, k of them after s
pub passes : (v : ℕ) (p s : List Bool) (m k c : ℕ) → length p + suc m ≡ v → length s + k ≡ m
    → c ≤ potential v (p ++ false ∷ s) → c + 1 ≤ potential v p + 2 ^ m
passes v p s m k c ev em h =
    let a : potential v (p ++ false ∷ s) ≡ potential v p + potential m s = at-append v p (false ∷ s) (suc m) ev in
    let b : potential m s + 2 ^ k ≤ 2 ^ m = bounded m s k em in
    let z : 0 < 2 ^ k = above-zero k in
    omega arith

-- another conflict before a literal follows at the place after the prefix
pub passes-more : (v : ℕ) (p s : List Bool) (m k c : ℕ) → length p + suc m ≡ v → length s + suc k ≡ m
    → c ≤ potential v (p ++ false ∷ s) + 2 ^ k → c + 1 ≤ potential v p + 2 ^ m
passes-more v p s m k c ev em h =
    let a : potential v (p ++ false ∷ s) ≡ potential v p + potential m s = at-append v p (false ∷ s) (suc m) ev in
    let b : potential m s + 2 ^ (suc k) ≤ 2 ^ m = bounded m s (suc k) em in
    let t : 2 ^ (suc k) ≡ 2 ^ k + 2 ^ k = twice k in
    let z : 0 < 2 ^ k = above-zero k in
    omega arith

-- a literal follows there
pub follows : (v : ℕ) (p q : List Bool) (m c : ℕ) → length p + suc m ≡ v → c ≤ potential v p + 2 ^ m
    → c ≤ potential v (p ++ true ∷ q)
follows v p q m c ev h =
    let a : potential v (p ++ true ∷ q) ≡ potential v p + (2 ^ m + potential m q) =
    at-append v p (true ∷ q) (suc m) ev in
    omega arith

-- so there are fewer conflicts than 2^v
pub fewer : (v : ℕ) (bs : List Bool) (m c : ℕ) → length bs + m ≡ v → c ≤ potential v bs → c < 2 ^ v
fewer v bs m c e h =
    let b : potential v bs + 2 ^ m ≤ 2 ^ v = bounded v bs m e in
    let z : 0 < 2 ^ m = above-zero m in
    omega arith

pub fewer-row : (v : ℕ) (p : List Bool) (m c : ℕ) → length p + suc m ≡ v → c ≤ potential v p + 2 ^ m → c < 2 ^ v
fewer-row v p m c e h =
    let b : potential v p + 2 ^ (suc m) ≤ 2 ^ v = bounded v p (suc m) e in
    let t : 2 ^ (suc m) ≡ 2 ^ m + 2 ^ m = twice m in
    let z : 0 < 2 ^ m = above-zero m in
    omega arith

-- more steps do not lower it
pub grows : (v : ℕ) (p q : List Bool) (m : ℕ) → length p + m ≡ v → potential v p ≤ potential v (p ++ q)
grows v p q m e = let a : potential v (p ++ q) ≡ potential v p + potential m q = at-append v p q m e in omega arith

thrice : (n : ℕ) → 3 ^ (suc n) ≡ 3 ^ n + 3 ^ n + 3 ^ n
thrice n = let e : 3 ^ (suc n) ≡ 3 ^ n * 3 = pow-suc 3 n in omega arith

-- the progress leaves room for one
pub progress-bounded : (v : ℕ) (bs : List Bool) (m : ℕ) → length bs + m ≡ v → progress v bs + 3 ^ m ≤ 3 ^ v
progress-bounded v [] m e = let s : m ≡ v = omega arith in rw s (omega arith)
progress-bounded zero (b ∷ bs) m e = absurd (omega arith)
progress-bounded (suc v) (true ∷ bs) m e =
    let r : progress v bs + 3 ^ m ≤ 3 ^ v = progress-bounded v bs m (omega arith) in
    let t : 3 ^ (suc v) ≡ 3 ^ v + 3 ^ v + 3 ^ v = thrice v in
    omega arith
progress-bounded (suc v) (false ∷ bs) m e =
    let r : progress v bs + 3 ^ m ≤ 3 ^ v = progress-bounded v bs m (omega arith) in
    let t : 3 ^ (suc v) ≡ 3 ^ v + 3 ^ v + 3 ^ v = thrice v in
    omega arith

pub progress-append : (v : ℕ) (p q : List Bool) (m : ℕ) → length p + m ≡ v → progress v (p ++ q)
    ≡ progress v p + progress m q
progress-append v [] q m e = let s : m ≡ v = omega arith in rw s (omega arith)
progress-append zero (b ∷ p) q m e = absurd (omega arith)
progress-append (suc v) (true ∷ p) q m e = let r : progress v (p ++ q) ≡ progress v p + progress m q =
    progress-append v p q m (omega arith) in omega arith
progress-append (suc v) (false ∷ p) q m e = let r : progress v (p ++ q) ≡ progress v p + progress m q =
    progress-append v p q m (omega arith) in omega arith

-- a literal that follows in place of a decision raises it, whatever stood after the decision
pub progress-raises : (v : ℕ) (p s q : List Bool) (m k : ℕ) → length p + suc m ≡ v → length s + k ≡ m
    → progress v (p ++ false ∷ s) < progress v (p ++ true ∷ q)
progress-raises v p s q m k ev em =
    let a : progress v (p ++ false ∷ s) ≡ progress v p + (3 ^ m + progress m s) = progress-append v p (false ∷ s)
    (suc m) ev in
    let b : progress v (p ++ true ∷ q) ≡ progress v p + (2 * 3 ^ m + progress m q) =
    progress-append v p (true ∷ q) (suc m) ev in
    let c : progress m s + 3 ^ k ≤ 3 ^ m = progress-bounded m s k em in
    let z : 0 < 3 ^ k = one-le-pow-three k in
    omega arith
  where
    one-le-pow-three : (n : ℕ) → 0 < 3 ^ n
    one-le-pow-three zero = omega arith
    one-le-pow-three (suc n) = let r : 0 < 3 ^ n = one-le-pow-three n in let t : 3 ^ (suc n) ≡ 3 ^ n + 3 ^ n + 3 ^ n =
        thrice n in omega arith
