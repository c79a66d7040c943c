-- Clauses that stand in an arena.
use Rattle.std.proofs.Common.{◌≡◌, ℕ, zero, suc, ◌<◌, ◌≤◌, ◌+◌, ◌-◌, ◌^◌, Bool, true, false, cond, Option, Some, None}
use Rattle.std.proofs.Common.{List, [], ◌∷◌, ◌++◌, length, length-append, get_or, min, map, set, take, drop, refl, sym}
use Rattle.std.proofs.Common.{ap, ◌∙◌, ⊎_elim, ◌⊎◌, inl, inr, arith, slice_get, subst, vec_len, vec_capacity}
use Rattle.std.specs.List.{dedup, dedup_from}
use Rattle.std.proofs.lemmas.Option.{slice_get-get_or, slice_get_within, same_Some}
use Rattle.std.proofs.lemmas.List.{take-append-le, drop-append-le, drop-take, length-drop, length-take, take_all}
use Rattle.std.proofs.lemmas.List.{take-take, map_push, length-map, length-set}
use Rattle.std.proofs.Math.Seq.{drop-append_seam}
use Rattle.std.proofs.lemmas.Bool.{cases_eq, cases_lt}
use Rattle.lit_core.specs.declared.literals.Lit.{Lit}
use Rattle.clause_base.specs.declared.clause_db.Entry.{Entry}
use Rattle.clause_base.specs.declared.clause_db.ClauseDb.TheInside.{Inside}
use Rattle.clause_base.specs.ClauseDbFields.{AreRemoved, EndsAt, EndsBy, HaveSkips, IsSkip, IsOrdered, IsKept, HasRoom}
use Rattle.clause_base.specs.ClauseDbFields.{clause_of, part_of}
use Rattle.clause_base.proofs.ListFacts.{slice_get-mapped, slice_get-set_same, slice_get-set_other}
use Rattle.clause_base.proofs.ListFacts.{slice_get-push_cases}

-- taking repetitions out makes no list longer
dedup_from-le : {X : Type 0} (same : X → X → Bool) (k : X) (xs : List X) → length (dedup_from same k xs)
    ≤ suc (length xs)
dedup_from-le same k [] = omega arith
dedup_from-le same k (x ∷ xs) =
    let a = dedup_from-le same k xs in
    let b = dedup_from-le same x xs in
    by_test (same x k) a b
  where
    by_test : (t : Bool) → length (dedup_from same k xs) ≤ suc (length xs) → length (dedup_from same x xs)
        ≤ suc (length xs) → length (cond t (dedup_from same k xs) (k ∷ dedup_from same x xs)) ≤ suc (suc (length xs))
    by_test true a b = omega arith
    by_test false a b = omega arith

pub dedup-le : {X : Type 0} (same : X → X → Bool) (xs : List X) → length (dedup same xs) ≤ length xs
dedup-le same [] = omega arith
dedup-le same (x ∷ xs) = dedup_from-le same x xs

-- the clause of an entry, and of none where it was removed
pub held-at : (lits : List Lit) (entries : List Entry) (id : ℕ) (e : Entry) → slice_get entries id ≡ Some e
    → slice_get (map (clause_of lits) entries) id ≡ Some (clause_of lits e)
held-at lits entries id e h = slice_get-mapped (clause_of lits) entries id e h

pub part-is : (lits : List Lit) (start size m : ℕ) → (size ≡ 0 → ⊥) → m ≡ size - 1 → part_of lits start size
    ≡ Some (take m (drop start lits))
part-is lits start zero m ne is = absurd (ne refl)
part-is lits start (suc n) m ne is = let e : m ≡ n = omega arith in rw e refl

pub part-none : (lits : List Lit) (start size : ℕ) → size ≡ 0 → part_of lits start size ≡ None
part-none lits start zero is = refl
part-none lits start (suc n) is = absurd (omega arith)

-- an entry that tells the same part
pub same-part : (lits : List Lit) (e f : Entry) → f.start ≡ e.start → f.size ≡ e.size
    → clause_of lits f ≡ clause_of lits e
same-part lits e f start size = rw (start, size) refl

-- a longer arena has the same clauses
part-longer : (lits more : List Lit) (start size : ℕ) → ((n : ℕ) → size ≡ suc n → start + n ≤ length lits)
    → part_of (lits ++ more) start size ≡ part_of lits start size
part-longer lits more start zero within = refl
part-longer lits more start (suc n) within =
    let le : start + n ≤ length lits = within n refl in
    let cut : drop start (lits ++ more) ≡ drop start lits ++ more = drop-append-le start lits more (omega arith) in
    let len : length (drop start lits) ≡ length lits - start = length-drop start lits in
    let taken : take n (drop start lits ++ more) ≡ take n (drop start lits) = take-append-le n (drop start lits) more
    (omega arith) in
    ap Some (ap (take n) cut ∙ taken)

pub clauses-longer : (lits more : List Lit) (entries : List Entry)
    → ((id : ℕ) (e : Entry) → slice_get entries id ≡ Some e → EndsBy e (length lits))
    → map (clause_of (lits ++ more)) entries ≡ map (clause_of lits) entries
clauses-longer lits more [] within = refl
clauses-longer lits more (e ∷ es) within =
    let head : clause_of (lits ++ more) e ≡ clause_of lits e = part-longer lits more e.start e.size (within 0 e refl) in
    let tail = clauses-longer lits more es (λ id. within (suc id)) in
    rw (head, tail) refl

-- what stands at the end of the arena
pub part-last : (lits more : List Lit) → part_of (lits ++ more) (length lits) (length more + 1) ≡ Some more
part-last lits more =
    let size : length more + 1 ≡ suc (length more) = omega arith in
    rw size (ap Some (ap (take (length more)) (drop-append_seam lits more) ∙ take_all (length more) more (omega arith)))

-- the same clauses in other memory
pub kept-same : (a b : Inside) → IsKept a → b.lits.items ≡ a.lits.items → b.entries.items ≡ a.entries.items
    → b.live ≡ a.live → b.buffer.items ≡ [] → ((n : ℕ) → b.spare ≡ Some n → HasRoom b n) → IsKept b
kept-same a b h lits entries live buffer room = record {
  empty = buffer;
  within = λ id e at. rw lits (h.within id e (ap (λ (xs : List Entry). slice_get xs id) (sym entries) ∙ at));
  ordered = subst IsOrdered (sym entries) h.ordered;
  live = rw (live, entries) h.live;
  removed = λ id e le at. h.removed id e (omega (arith, live)) (ap (λ (xs : List Entry). slice_get xs id)
      (sym entries) ∙ at);
  skips = subst HaveSkips (sym entries) h.skips;
  room = room;
}

pub room-more : (a b : Inside) (n : ℕ) → HasRoom a n → a.buffer.capacity ≤ b.buffer.capacity
    → vec_len b.entries ≡ vec_len a.entries → vec_capacity a.entries ≤ vec_capacity b.entries
    → vec_len b.lits ≡ vec_len a.lits → vec_capacity a.lits ≤ vec_capacity b.lits → HasRoom b n
room-more a b n h buffer len entries len2 lits = record {
  buffer = let x : n ≤ a.buffer.capacity = h.buffer in omega arith;
  entry = let x : vec_len a.entries < vec_capacity a.entries = h.entry in omega arith;
  arena = let x : vec_len a.lits + n ≤ vec_capacity a.lits = h.arena in omega arith;
  small = let x : vec_len a.lits + n + 1 < 2 ^ 32 = h.small in omega arith;
}

-- room stays in an arena that was cut
pub room-less : (a b : Inside) (n : ℕ) → HasRoom a n → b.buffer.capacity ≡ a.buffer.capacity
    → vec_len b.entries ≡ vec_len a.entries → vec_capacity b.entries ≡ vec_capacity a.entries
    → vec_len b.lits ≤ vec_len a.lits → vec_capacity b.lits ≡ vec_capacity a.lits → HasRoom b n
room-less a b n h buffer len entries len2 lits = record {
  buffer = let x : n ≤ a.buffer.capacity = h.buffer in omega arith;
  entry = let x : vec_len a.entries < vec_capacity a.entries = h.entry in omega arith;
  arena = let x : vec_len a.lits + n ≤ vec_capacity a.lits = h.arena in omega arith;
  small = let x : vec_len a.lits + n + 1 < 2 ^ 32 = h.small in omega arith;
}

-- an entry that begins where another does, and has its part or none
pub record Narrows (e f : Entry) : Type 0 where
  pub start : f.start ≡ e.start
  pub size : (n : ℕ) → f.size ≡ suc n → e.size ≡ suc n

-- each entry after a write narrows the one before it
narrows : (entries : List Entry) (id : ℕ) (e f : Entry) → slice_get entries id ≡ Some e → Narrows e f
    → (i : ℕ) (g : Entry) → slice_get (set entries id f) i ≡ Some g → (o : Entry) × (slice_get entries i ≡ Some o)
    × Narrows o g
narrows entries id e f at n i g here = ⊎_elim
    (λ same.
    let fg : f ≡ g = same_Some f g (sym (slice_get-set_same entries id f (slice_get_within entries id e at))
    ∙ ap (slice_get (set entries id f)) (sym same) ∙ here) in
    (e, ap (slice_get entries) same ∙ at, subst (Narrows e) fg n))
    (λ ne. (g, sym (slice_get-set_other entries id i f ne) ∙ here, record { start = refl; size = λ k is. is }))
    (cases_eq i id)

pub narrows-ordered : (entries : List Entry) (id : ℕ) (e f : Entry) → slice_get entries id ≡ Some e → Narrows e f
    → IsOrdered entries → IsOrdered (set entries id f)
narrows-ordered entries id e f at narrow h i j g k lt here there n is =
    let o = narrows entries id e f at narrow i g here in
    let p = narrows entries id e f at narrow j k there in
    let all : o.0.start + n ≤ p.0.start = h i j o.0 p.0 lt o.1 p.1 n (o.2.size n is) in
    let s : g.start ≡ o.0.start = o.2.start in
    let t : k.start ≡ p.0.start = p.2.start in
    omega arith

-- an entry after a write is the new one, or it was there before
set-at : (entries : List Entry) (id : ℕ) (e f : Entry) → slice_get entries id ≡ Some e → (i : ℕ) (g : Entry)
    → slice_get (set entries id f) i ≡ Some g → ((i ≡ id) × (g ≡ f)) ⊎ (slice_get entries i ≡ Some g)
set-at entries id e f at i g here = ⊎_elim
    (λ same. inl (
      same,
      same_Some g f (sym here ∙ ap (slice_get (set entries id f)) same
          ∙ slice_get-set_same entries id f (slice_get_within entries id e at)),
    ))
    (λ ne. inr (sym (slice_get-set_other entries id i f ne) ∙ here))
    (cases_eq i id)

-- skips stay right where an entry is written that is removed if the one before it was, and whose skip is right
pub skips-set : (entries : List Entry) (id : ℕ) (e f : Entry) → slice_get entries id ≡ Some e → HaveSkips entries
    → (e.size ≡ 0 → f.size ≡ 0) → IsSkip entries id f → HaveSkips (set entries id f)
skips-set entries id e f at h stays right j g here i k gone lt near there = ⊎_elim
    (λ new. let size : g.size ≡ f.size = ap (λ (x : Entry). x.size) new.1 in
    let first : g.first ≡ f.first = ap (λ (x : Entry). x.first) new.1 in
    let is : j ≡ id = new.0 in
    ⊎_elim
    (λ both. absurd (let same : i ≡ id = both.0 in omega arith))
    (λ old. right i k (omega arith) (omega arith) (omega arith) old)
    (set-at entries id e f at i k there))
    (λ was. ⊎_elim
    (λ new. ap (λ (x : Entry). x.size) new.1 ∙ stays (h j g was id e gone (let same : i ≡ id = new.0 in omega arith)
    (let same : i ≡ id = new.0 in omega arith) at))
    (λ old. h j g was i k gone lt near old)
    (set-at entries id e f at i k there))
    (set-at entries id e f at j g here)

-- one entry narrows, and the arena ends no earlier than the last that is not removed
pub kept-set : (a b : Inside) (id end : ℕ) (e f : Entry) → IsKept a → slice_get a.entries.items id ≡ Some e
    → Narrows e f → b.lits.items ≡ take end a.lits.items → b.entries.items ≡ set a.entries.items id f
    → b.live ≤ length b.entries.items → AreRemoved b.entries.items b.live → HaveSkips b.entries.items
    → ((i : ℕ) (g : Entry) → slice_get b.entries.items i ≡ Some g → EndsBy g end) → b.buffer.items ≡ []
    → ((n : ℕ) → b.spare ≡ Some n → HasRoom b n) → IsKept b
kept-set a b id end e f h at narrow lits entries live removed skips ends buffer room =
    let old : (i : ℕ) (g : Entry) → slice_get b.entries.items i ≡ Some g
    → (o : Entry) × (slice_get a.entries.items i ≡ Some o) × Narrows o g =
    λ i g here. narrows a.entries.items id e f at narrow i g (ap (λ (xs : List Entry). slice_get xs i)
    (sym entries) ∙ here) in
    record {
      empty = buffer;
      within = λ i g here n is.
          let o = old i g here in
          let all : o.0.start + n ≤ length a.lits.items = h.within i o.0 o.1 n (o.2.size n is) in
          let start : g.start ≡ o.0.start = o.2.start in
          let short : g.start + n ≤ end = ends i g here n is in
          let len : length (take end a.lits.items) ≡ min end (length a.lits.items) = length-take end a.lits.items in
          rw (lits, len) (omega arith);
      ordered = subst IsOrdered (sym entries) (narrows-ordered a.entries.items id e f at narrow h.ordered);
      live = live;
      removed = removed;
      skips = skips;
      room = room;
    }

-- an entry that tells the same part
pub kept-place : (a b : Inside) (id : ℕ) (e f : Entry) → IsKept a → slice_get a.entries.items id ≡ Some e
    → f.start ≡ e.start → f.size ≡ e.size → IsSkip a.entries.items id f → b.lits ≡ a.lits
    → b.entries.items ≡ set a.entries.items id f → b.live ≡ a.live → b.buffer ≡ a.buffer
    → ((n : ℕ) → b.spare ≡ Some n → HasRoom b n) → IsKept b
kept-place a b id e f h at start size skip lits entries live buffer room =
    let narrow : Narrows e f = record { start = start; size = λ n is. sym size ∙ is } in
    let old : (i : ℕ) (g : Entry) → slice_get b.entries.items i ≡ Some g
    → (o : Entry) × (slice_get a.entries.items i ≡ Some o) × Narrows o g × (g.size ≡ o.size) =
    λ i g here. same-size i g (ap (λ (xs : List Entry). slice_get xs i) (sym entries) ∙ here) in
    kept-set a b id (length a.lits.items) e f h at narrow (ap (λ x. x.items) lits
    ∙ sym (take_all (length a.lits.items) a.lits.items (omega arith))) entries
    (rw (live, entries, length-set) h.live)
    (λ i g le here. let o = old i g here in o.3 ∙ h.removed i o.0 (omega (arith, live)) o.1)
    (subst HaveSkips (sym entries) (skips-set a.entries.items id e f at h.skips (λ is. size ∙ is) skip))
    (λ i g here n is. let o = old i g here in let le : o.0.start + n ≤ length a.lits.items =
    h.within i o.0 o.1 n (o.2.size n is) in let s : g.start ≡ o.0.start = o.2.start in omega arith)
    (ap (λ x. x.items) buffer ∙ h.empty) room
  where
    same-size : (i : ℕ) (g : Entry) → slice_get (set a.entries.items id f) i ≡ Some g
        → (o : Entry) × (slice_get a.entries.items i ≡ Some o) × Narrows o g × (g.size ≡ o.size)
    same-size i g here = ⊎_elim
        (λ same.
        let fg : f ≡ g = same_Some f g (sym (slice_get-set_same a.entries.items id f
        (slice_get_within a.entries.items id e at)) ∙ ap (slice_get (set a.entries.items id f))
        (sym same) ∙ here) in (
          e,
          ap (slice_get a.entries.items) same ∙ at,
          subst (Narrows e) fg
              (record { start = start; size = λ n is. sym size ∙ is }),
          ap (λ (x : Entry). x.size) (sym fg) ∙ size,
        ))
        (λ ne. (
          g,
          sym (slice_get-set_other a.entries.items id i f ne) ∙ here,
          record { start = refl; size = λ k is. is },
          refl,
        ))
        (cases_eq i id)

-- where the last entry that may be live ends, all end
pub all-end : (entries : List Entry) (live end : ℕ) → IsOrdered entries → live ≤ length entries
    → AreRemoved entries live → EndsAt entries live end → (i : ℕ) (g : Entry) → slice_get entries i ≡ Some g
    → EndsBy g end
all-end entries live end ordered within removed ends i g at n is = ⊎_elim
    (λ lt. by_last (last-within live (omega arith) within) lt)
    (λ ge. absurd (let z : g.size ≡ 0 = removed i g ge at in omega arith))
    (cases_lt i live)
  where
    last-within : (k : ℕ) → 0 < k → k ≤ length entries → (m : ℕ) × (e : Entry) × (m + 1 ≡ k)
        × (slice_get entries m ≡ Some e)
    last-within zero pos le = absurd (omega arith)
    last-within (suc m) pos le = (m, get_or entries m g, omega arith, slice_get-get_or entries m g (omega arith))

    by_last : ((k : ℕ) × (e : Entry) × (k + 1 ≡ live) × (slice_get entries k ≡ Some e)) → i < live → g.start + n ≤ end
    by_last l lt = ⊎_elim
        (λ before. let a : g.start + n ≤ l.1.start = ordered i l.0 g l.1 before at l.3 n is in let b : l.1.start ≤ end =
        ends.begins l.0 l.1 l.2 l.3 in omega arith)
        (λ last. let k : l.0 + 1 ≡ live = l.2 in ends.ends i g (omega arith) at n is)
        (cases_lt i l.0)

-- an arena that is cut after every clause has the same clauses
part-cut : (lits : List Lit) (end start size : ℕ) → ((n : ℕ) → size ≡ suc n → start + n ≤ end)
    → part_of (take end lits) start size ≡ part_of lits start size
part-cut lits end start zero within = refl
part-cut lits end start (suc n) within =
    let le : start + n ≤ end = within n refl in
    let split : end ≡ start + (end - start) = omega arith in
    let cut : drop start (take end lits) ≡ take (end - start) (drop start lits) =
    ap (λ k. drop start (take k lits)) split ∙ drop-take start (end - start) lits in
    ap Some (ap (take n) cut ∙ take-take n (end - start) (drop start lits) (omega arith))

pub clauses-cut : (lits : List Lit) (end : ℕ) (entries : List Entry)
    → ((i : ℕ) (e : Entry) → slice_get entries i ≡ Some e → EndsBy e end) → map (clause_of (take end lits)) entries
    ≡ map (clause_of lits) entries
clauses-cut lits end [] within = refl
clauses-cut lits end (e ∷ es) within =
    let head : clause_of (take end lits) e ≡ clause_of lits e = part-cut lits end e.start e.size (within 0 e refl) in
    let tail = clauses-cut lits end es (λ i. within (suc i)) in
    rw (head, tail) refl

-- one more entry, of what stands at the end of the arena
pub clauses-push : (lits more : List Lit) (entries : List Entry) (e : Entry)
    → ((id : ℕ) (f : Entry) → slice_get entries id ≡ Some f → EndsBy f (length lits)) → e.start ≡ length lits
    → e.size ≡ length more + 1 → map (clause_of (lits ++ more)) (entries ++ e ∷ []) ≡ map (clause_of lits) entries
    ++ Some more ∷ []
clauses-push lits more entries e within start size =
    let last : clause_of (lits ++ more) e ≡ Some more = ap (λ s. part_of (lits ++ more) s e.size) start
    ∙ ap (part_of (lits ++ more) (length lits)) size ∙ part-last lits more in
    map_push (clause_of (lits ++ more)) entries e ∙ ap (λ (xs : List (Option (List Lit))). xs ++ clause_of
    (lits ++ more) e ∷ []) (clauses-longer lits more entries within)
    ∙ ap (λ o. map (clause_of lits) entries ++ o ∷ []) last

pub kept-push : (a b : Inside) (more : List Lit) (e : Entry) → IsKept a → b.lits.items ≡ a.lits.items ++ more
    → b.entries.items ≡ a.entries.items ++ e ∷ [] → b.buffer.items ≡ [] → b.spare ≡ None
    → b.live ≡ length b.entries.items → e.start ≡ length a.lits.items → e.size ≡ length more + 1 → IsKept b
kept-push a b more e h lits entries buffer spare live start size =
    let was : (i : ℕ) (f : Entry) → slice_get b.entries.items i ≡ Some f → (slice_get a.entries.items i ≡ Some f)
    ⊎ ((i ≡ length a.entries.items) × (f ≡ e)) = λ i f at. slice_get-push_cases a.entries.items e i f
    (ap (λ (xs : List Entry). slice_get xs i) (sym entries) ∙ at) in
    let len : length (a.lits.items ++ more) ≡ length a.lits.items + length more = length-append a.lits.items more in
    record {
      empty = buffer;
      within = λ id f at n is. rw (lits, len) (⊎_elim
          (λ old. let le : f.start + n ≤ length a.lits.items = h.within id f old n is in omega arith)
          (λ new.
          let s : f.start ≡ length a.lits.items = ap (λ (x : Entry). x.start) new.1 ∙ start in
          let k : f.size ≡ length more + 1 = ap (λ (x : Entry). x.size) new.1 ∙ size in omega arith)
          (was id f at));
      ordered = λ i j f g lt at later n is. ⊎_elim
          (λ old. ⊎_elim
          (λ both. h.ordered i j f g lt old both n is)
          (λ new. let le : f.start + n ≤ length a.lits.items = h.within i f old n is in
          let s : g.start ≡ length a.lits.items = ap (λ (x : Entry). x.start) new.1 ∙ start in omega arith)
          (was j g later))
          (λ new. absurd (⊎_elim
          (λ old. let k : j < length a.entries.items = slice_get_within a.entries.items j g old in
          let m : i ≡ length a.entries.items = new.0 in omega arith)
          (λ both. let k : j ≡ length a.entries.items = both.0 in let m : i ≡ length a.entries.items =
          new.0 in omega arith)
          (was j g later)))
          (was i f at);
      live = omega (arith, live);
      removed = λ id f le at. absurd (let lt : id < length b.entries.items = slice_get_within b.entries.items id f at in
          omega (arith, live));
      skips = λ j g at i k gone lt near below. ⊎_elim
          (λ old. ⊎_elim
          (λ both. h.skips j g old i k gone lt near both)
          (λ new. absurd (let m : i ≡ length a.entries.items = new.0 in
          let in_old : j < length a.entries.items = slice_get_within a.entries.items j g old in omega arith))
          (was i k below))
          (λ new. absurd (let s : g.size ≡ length more + 1 = ap (λ (x : Entry). x.size) new.1 ∙ size in omega arith))
          (was j g at);
      room = λ n is. (let z : None ≡ Some n = sym spare ∙ is in cc);
    }

-- an entry of size 0 has no clause
pub removed-held : (lits : List Lit) (entries : List Entry) (live : ℕ) → AreRemoved entries live
    → (id : ℕ) (c : List Lit) → live ≤ id → slice_get (map (clause_of lits) entries) id ≡ Some (Some c) → ⊥
removed-held lits entries live removed id c le h =
    let none : Entry = record { start = 0; size = 0; first = 0; second = 0 } in
    let len : length (map (clause_of lits) entries) ≡ length entries = length-map entries (clause_of lits) in
    let lt : id < length (map (clause_of lits) entries) = slice_get_within (map (clause_of lits) entries) id
    (Some c) h in
    let at : slice_get entries id ≡ Some (get_or entries id none) = slice_get-get_or entries id none (omega arith) in
    let gone : clause_of lits (get_or entries id none) ≡ None = part-none lits (get_or entries id none).start
    (get_or entries id none).size (removed id (get_or entries id none) le at) in
    let is : clause_of lits (get_or entries id none) ≡ Some c = same_Some (clause_of lits (get_or entries id none))
    (Some c) (sym (held-at lits entries id (get_or entries id none) at) ∙ h) in
    (let z : None ≡ Some c = sym gone ∙ is in cc)
