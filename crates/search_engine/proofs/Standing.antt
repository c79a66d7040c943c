-- How conflicts, decisions and what follows change how far a search has come.
use Rattle.std.proofs.Common.{◌≡◌, ℕ, suc, zero, ◌+◌, ◌-◌, ◌*◌, ◌^◌, ◌<◌, ◌≤◌, Bool, true, false, List, [], ◌∷◌, ◌++◌}
use Rattle.std.proofs.Common.{length, length-append, refl, ap, ⊎_elim, arith}
use Rattle.std.proofs.Math.Nat.{pow-suc}
use Rattle.search_engine.specs.Potential.{potential, progress, Ahead, Behind, Stands}
use Rattle.search_engine.proofs.Potential.{passes, passes-more, follows, fewer, fewer-row, grows, progress-bounded}
use Rattle.search_engine.proofs.Potential.{progress-append}

positive : (n : ℕ) → 0 < 3 ^ n
positive zero = omega arith
positive (suc n) = let r : 0 < 3 ^ n = positive n in let t : 3 ^ (suc n) ≡ 3 ^ n * 3 = pow-suc 3 n in omega arith

module _ (v : ℕ) (p s : List Bool) (c goal : ℕ) where
  longer : length (p ++ false ∷ s) ≡ length p + suc (length s)
  longer = length-append p (false ∷ s)

  from-ahead : Ahead v (p ++ false ∷ s) c goal → Behind v p (c + 1) goal
  from-ahead a =
      let e : length (p ++ false ∷ s) ≡ length p + suc (length s) = longer in
      let f : length (p ++ false ∷ s) + a.room ≡ v = a.fits in
      let m : ℕ = length s + a.room in
      let fits : length p + suc m ≡ v = omega (arith, e, f) in
      let g : goal ≤ progress v (p ++ false ∷ s) = a.gone in
      let split : progress v (p ++ false ∷ s) ≡ progress v p + (3 ^ m + progress m s) = progress-append v p (false ∷ s)
      (suc m) fits in
      let under : progress m s + 3 ^ a.room ≤ 3 ^ m = progress-bounded m s a.room refl in
      let some : 0 < 3 ^ a.room = positive a.room in
      record {
        room = m;
        fits = fits;
        paid = passes v p s m a.room c fits refl a.paid;
        gone = omega (arith, g, split, under, some);
      }

  from-behind : Behind v (p ++ false ∷ s) c goal → Behind v p (c + 1) goal
  from-behind b =
      let e : length (p ++ false ∷ s) ≡ length p + suc (length s) = longer in
      let f : length (p ++ false ∷ s) + suc b.room ≡ v = b.fits in
      let m : ℕ = length s + suc b.room in
      let fits : length p + suc m ≡ v = omega (arith, e, f) in
      let g : goal < progress v (p ++ false ∷ s) + 2 * 3 ^ b.room = b.gone in
      let split : progress v (p ++ false ∷ s) ≡ progress v p + (3 ^ m + progress m s) = progress-append v p (false ∷ s)
      (suc m) fits in
      let under : progress m s + 3 ^ (suc b.room) ≤ 3 ^ m = progress-bounded m s (suc b.room) refl in
      let triple : 3 ^ (suc b.room) ≡ 3 ^ b.room * 3 = pow-suc 3 b.room in
      let some : 0 < 3 ^ b.room = positive b.room in
      record {
        room = m;
        fits = fits;
        paid = passes-more v p s m b.room c fits refl b.paid;
        gone = omega (arith, g, split, under, triple, some);
      }

  -- a conflict, after which the trail is cut before a decision
  pub cut-pays : Stands v (p ++ false ∷ s) c goal → Behind v p (c + 1) goal
  cut-pays h = ⊎_elim from-ahead from-behind h

-- fewer conflicts were counted
pub fewer-behind : (v : ℕ) (p : List Bool) (c d goal : ℕ) → d ≤ c → Behind v p c goal → Behind v p d goal
fewer-behind v p c d goal le b = record {
  room = b.room;
  fits = b.fits;
  paid = let h : c ≤ potential v p + 2 ^ b.room =
      b.paid in omega (arith, h, le);
  gone = b.gone;
}

-- a literal follows
pub follow-ahead : (v : ℕ) (p q : List Bool) (c goal room : ℕ) → length (p ++ true ∷ q) + room ≡ v → Behind v p c goal
    → Ahead v (p ++ true ∷ q) c (goal + 1)
follow-ahead v p q c goal room fits b =
    let g : goal < progress v p + 2 * 3 ^ b.room = b.gone in
    let split : progress v (p ++ true ∷ q) ≡ progress v p + (2 * 3 ^ b.room + progress b.room q) =
    progress-append v p (true ∷ q) (suc b.room) b.fits in
    record {
      room = room;
      fits = fits;
      paid = follows v p q b.room c b.fits b.paid;
      gone = omega (arith, g, split);
    }

-- more steps
pub grow-ahead : (v : ℕ) (p q : List Bool) (c goal room : ℕ) → length (p ++ q) + room ≡ v → Ahead v p c goal
    → Ahead v (p ++ q) c goal
grow-ahead v p q c goal room fits a =
    let g : goal ≤ progress v p = a.gone in
    let h : c ≤ potential v p = a.paid in
    let more : potential v p ≤ potential v (p ++ q) = grows v p q a.room a.fits in
    let split : progress v (p ++ q) ≡ progress v p + progress a.room q = progress-append v p q a.room a.fits in
    record {
      room = room;
      fits = fits;
      paid = omega (arith, h, more);
      gone = omega (arith, g, split);
    }

-- a decision
pub decide-ahead : (v : ℕ) (p : List Bool) (c goal room : ℕ) → length (p ++ false ∷ []) + room ≡ v → Ahead v p c goal
    → Ahead v (p ++ false ∷ []) c (goal + 1)
decide-ahead v p c goal room fits a =
    let g : goal ≤ progress v p = a.gone in
    let h : c ≤ potential v p = a.paid in
    let len : length (p ++ false ∷ []) ≡ length p + 1 = length-append p (false ∷ []) in
    let at : length p + suc room ≡ v = omega (arith, len, fits) in
    let more : potential v p ≤ potential v (p ++ false ∷ []) = grows v p (false ∷ []) a.room a.fits in
    let split : progress v (p ++ false ∷ []) ≡ progress v p + (3 ^ room + 0) = progress-append v p (false ∷ [])
    (suc room) at in
    let some : 0 < 3 ^ room = positive room in
    record {
      room = room;
      fits = fits;
      paid = omega (arith, h, more);
      gone = omega (arith, g, split, some);
    }

-- a literal that follows where none had to
pub step-ahead : (v : ℕ) (p : List Bool) (c goal room : ℕ) → length (p ++ true ∷ []) + room ≡ v → Ahead v p c goal
    → Ahead v (p ++ true ∷ []) c (goal + 1)
step-ahead v p c goal room fits a =
    let g : goal ≤ progress v p = a.gone in
    let h : c ≤ potential v p = a.paid in
    let len : length (p ++ true ∷ []) ≡ length p + 1 = length-append p (true ∷ []) in
    let at : length p + suc room ≡ v = omega (arith, len, fits) in
    let more : potential v p ≤ potential v (p ++ true ∷ []) = grows v p (true ∷ []) a.room a.fits in
    let split : progress v (p ++ true ∷ []) ≡ progress v p + (2 * 3 ^ room + 0) = progress-append v p (true ∷ [])
    (suc room) at in
    let some : 0 < 3 ^ room = positive room in
    record {
      room = room;
      fits = fits;
      paid = omega (arith, h, more);
      gone = omega (arith, g, split, some);
    }

-- a lower goal
pub lower-ahead : (v : ℕ) (p : List Bool) (c low goal : ℕ) → low ≤ goal → Ahead v p c goal → Ahead v p c low
lower-ahead v p c low goal le a = record {
  room = a.room;
  fits = a.fits;
  paid = a.paid;
  gone =
      let g : goal ≤ progress v p = a.gone in omega (arith, g, le);
}

-- there are fewer conflicts than 2^v
pub stands-fewer : (v : ℕ) (p : List Bool) (c goal : ℕ) → Stands v p c goal → c < 2 ^ v
stands-fewer v p c goal h = ⊎_elim (λ (a : Ahead v p c goal). fewer v p a.room c a.fits a.paid)
    (λ (b : Behind v p c goal). fewer-row v p b.room c b.fits b.paid) h

-- the progress has a bound
pub ahead-bounded : (v : ℕ) (p : List Bool) (c goal : ℕ) → Ahead v p c goal → progress v p ≤ 3 ^ v
ahead-bounded v p c goal a = let b : progress v p + 3 ^ a.room ≤ 3 ^ v = progress-bounded v p a.room a.fits in
    omega (arith, b)

-- what has gone further leaves less to go
pub further-smaller : (v w : ℕ) (bs cs : List Bool) (c : ℕ) → w ≡ v → Ahead w cs c (progress v bs + 1)
    → 3 ^ w - progress w cs < 3 ^ v - progress v bs
further-smaller v w bs cs c same a =
    let g : progress v bs + 1 ≤ progress w cs = a.gone in
    let b : progress w cs ≤ 3 ^ w = ahead-bounded w cs c (progress v bs + 1) a in
    let e : 3 ^ w ≡ 3 ^ v = ap (λ (n : ℕ). 3 ^ n) same in
    omega (arith, g, b, e)

-- the progress itself is a goal
pub goal-itself : (v : ℕ) (bs : List Bool) (c : ℕ) → Ahead v bs c 0 → Ahead v bs c (progress v bs)
goal-itself v bs c a = record { room = a.room; fits = a.fits; paid = a.paid; gone = omega arith }
