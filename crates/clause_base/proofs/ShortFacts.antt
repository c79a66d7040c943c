-- Lists of short clauses as they grow, and as the clauses change.
use Rattle.std.proofs.Common.{◌≡◌, ◌≢◌, ℕ, ◌<◌, ◌≤◌, ◌+◌, ◌*◌, Option, Some, None, List, [], ◌∷◌, ◌++◌, length}
use Rattle.std.proofs.Common.{refl, sym, ap, ◌∙◌, ◌⊎◌, inl, inr, ⊎_elim, All, Contains, arith, slice_get, set, get_or}
use Rattle.std.proofs.Common.{subst, Bool, true, false}
use Rattle.std.specs.Global.{Vec}
use Rattle.std.specs.Vec.{with_item}
use Rattle.std.proofs.Math.Seq.{map-set_same}
use Rattle.std.proofs.lemmas.Bool.{cases_eq}
use Rattle.std.proofs.lemmas.Option.{slice_get_within, slice_get-get_or, get_or_from_slice_get, same_Some}
use Rattle.std.proofs.lemmas.List.{length-set, length_push, map-set}
use Rattle.std.proofs.lemmas.List.Elements.{All-contains, Contains-append_left, Contains-push, Contains-push_cases}
use Rattle.lit_core.specs.declared.literals.Lit.{Lit}
use Rattle.lit_core.specs.Packing.{number_of}
use Rattle.lit_core.proofs.LiteralFacts.{same_literal, nothing_in_none}
use Rattle.clause_base.specs.declared.occurrences.Occurrence.{Occurrence}
use Rattle.clause_base.specs.ShortState.{ShortState, IsShort, IsRest, IsListed, IsPacked, AreHeldBelow}
use Rattle.clause_base.specs.ShortFields.{Grows, IsLonger, lists_of}
use Rattle.clause_base.proofs.ListFacts.{slice_get-push_old, slice_get-push_cases, slice_get-set_same}
use Rattle.clause_base.proofs.ListFacts.{slice_get-set_other, slice_get-mapped, slice_get-set_cases}

-- nothing was added
pub longer-same : (xs : List (List Occurrence)) → IsLonger xs xs
longer-same xs = record { len = omega arith; kept = λ j os e. e; added = λ j os e. inl e }

-- one more empty list
pub longer-push : (old xs : List (List Occurrence)) → IsLonger old xs → IsLonger old (xs ++ [] ∷ [])
longer-push old xs h = record {
  len = let more = length_push xs [] in let le = h.len in omega arith;
  kept = λ j os e. slice_get-push_old xs [] j os (h.kept j os e);
  added = λ j os e. ⊎_elim (λ o. h.added j os o) (λ n. inr n.1) (slice_get-push_cases xs [] j os e);
}

-- what is packed stays so while empty lists are added
pub packed-longer : (clauses : List (Option (List Lit))) (vars : ℕ) (s : ShortState) (lists : List (List Occurrence))
    → IsPacked clauses vars s → IsLonger s.lists lists
    → IsPacked clauses vars (record { lists = lists; packed = s.packed })
packed-longer clauses vars s lists h w = record {
  within = h.within;
  complete = λ id c lt held short l m.
      let r = h.complete id c lt held short l m in (r.0, r.1, w.kept (number_of l) r.0 r.2, r.3, r.4);
  sound = λ l os o e m. ⊎_elim (λ b. h.sound l os o b m) (λ n. absurd (nothing os o m n))
      (w.added (number_of l) os e);
  in_range = λ j os o e m. ⊎_elim (λ b. h.in_range j os o b m) (λ n. absurd (nothing os o m n)) (w.added j os e);
}
  where
    nothing : (os : List Occurrence) (o : Occurrence) → Contains os o → os ≡ [] → ⊥
    nothing os o m n = nothing_in_none o (subst (λ (xs : List Occurrence). Contains xs o) n m)

-- literals of one number are one
pub number-same : (l m : Lit) → number_of l ≡ number_of m → l ≡ m
number-same l m e = by_sign l.positive m.positive refl refl
  where
    by_sign : (p q : Bool) → l.positive ≡ p → m.positive ≡ q → l ≡ m
    by_sign true true ep eq = let x : 2 * l.var.0 + 1 ≡ 2 * m.var.0 + 1 = rw (ep, eq) at e in
        same_literal l m (omega arith) (ep ∙ sym eq)
    by_sign true false ep eq = absurd (let x : 2 * l.var.0 + 1 ≡ 2 * m.var.0 + 0 = rw (ep, eq) at e in omega arith)
    by_sign false true ep eq = absurd (let x : 2 * l.var.0 + 0 ≡ 2 * m.var.0 + 1 = rw (ep, eq) at e in omega arith)
    by_sign false false ep eq = let x : 2 * l.var.0 + 0 ≡ 2 * m.var.0 + 0 = rw (ep, eq) at e in
        same_literal l m (omega arith) (ep ∙ sym eq)

-- a clause as the literal at one place sees it, where these are its other places
pub rest-from_places : (c : List Lit) (p i j k : ℕ) (l : Lit) (o : Occurrence) → slice_get c p ≡ Some l
    → slice_get c i ≡ Some o.first → slice_get c j ≡ Some o.second → slice_get c k ≡ Some o.third
    → ((n : ℕ) → n < length c → n ≢ p → (n ≡ i) ⊎ (n ≡ j) ⊎ (n ≡ k)) → IsRest c l o
rest-from_places c p i j k l o here first second third all = record {
  from = λ m. ⊎_elim (member i o.first first m) (⊎_elim (member j o.second second m) (member k o.third third m));
  all = λ m h other.
      let at : slice_get c h.0 ≡ Some m = slice_get-get_or c h.0 m h.1 ∙ ap Some h.2 in
      ⊎_elim (λ e. inl (same h.0 i m o.first e at first))
      (⊎_elim (λ e. inr (inl (same h.0 j m o.second e at second)))
      (λ e. inr (inr (same h.0 k m o.third e at third))))
      (all h.0 h.1 (λ e. other (same h.0 p m l e at here)));
}
  where
    member : (n : ℕ) (x : Lit) → slice_get c n ≡ Some x → (m : Lit) → m ≡ x → Contains c m
    member n x e m is = (n, slice_get_within c n x e, get_or_from_slice_get c n m m (e ∙ ap Some (sym is)))

    same : (n q : ℕ) (m x : Lit) → n ≡ q → slice_get c n ≡ Some m → slice_get c q ≡ Some x → m ≡ x
    same n q m x e a b = same_Some m x (sym a ∙ ap (slice_get c) e ∙ b)

-- nothing was listed
pub grows-same : (xs : List (List Occurrence)) (id : ℕ) (c : List Lit) → Grows xs xs id c
grows-same xs id c = record {
  len = refl;
  kept = λ j os o e m. (os, e, m);
  added = λ j ps o e m. inl (ps, e, m);
}

pub grows-then : (xs ys zs : List (List Occurrence)) (id : ℕ) (c : List Lit) → Grows xs ys id c → Grows ys zs id c
    → Grows xs zs id c
grows-then xs ys zs id c a b = record {
  len = b.len ∙ a.len;
  kept = λ j os o e m. let r = a.kept j os o e m in b.kept j r.0 o r.1 r.2;
  added = λ j ps o e m. ⊎_elim (λ r. a.added j r.0 o r.1 r.2) (λ n. inr n) (b.added j ps o e m);
}

-- one more occurrence
pub grows-put : (xs : List (List Occurrence)) (l : Lit) (os : List Occurrence) (o : Occurrence) (c : List Lit)
    → slice_get xs (number_of l) ≡ Some os → Contains c l → IsRest c l o
    → Grows xs (set xs (number_of l) (os ++ o ∷ [])) o.id c
grows-put xs l os o c here member rest = record {
  len = length-set xs j more;
  kept = λ k qs p e m. ⊎_elim
      (λ (same : k ≡ j).
      let list : qs ≡ os = same_Some qs os (sym e ∙ ap (slice_get xs) same ∙ here) in (
        more,
        ap (slice_get (set xs j more)) same ∙ written,
        Contains-append_left os (o ∷ []) p (subst (λ (ys : List Occurrence). Contains ys p) list m),
      ))
      (λ (other : k ≢ j). (qs, slice_get-set_other xs j k more other ∙ e, m))
      (cases_eq k j);
  added = λ k qs p e m. ⊎_elim
      (λ (same : k ≡ j).
      let list : qs ≡ more = same_Some qs more (sym e ∙ ap (slice_get (set xs j more)) same ∙ written) in
      ⊎_elim
      (λ b. inl (os, ap (slice_get xs) same ∙ here, b))
      (λ (n : o ≡ p). inr (
        l,
        member,
        same,
        ap (λ (x : Occurrence). x.id) (sym n),
        subst (λ (x : Occurrence). IsRest c l x) n rest,
      ))
      (Contains-push_cases os o p (subst (λ (ys : List Occurrence). Contains ys p) list m)))
      (λ (other : k ≢ j). inl (qs, sym (slice_get-set_other xs j k more other) ∙ e, m))
      (cases_eq k j);
}
  where
    j : ℕ
    j = number_of l

    more : List Occurrence
    more = os ++ o ∷ []

    written : slice_get (set xs j more) j ≡ Some more
    written = slice_get-set_same xs j more (slice_get_within xs j os here)

-- and it is listed
pub listed-put : (xs : List (List Occurrence)) (l : Lit) (os : List Occurrence) (o : Occurrence)
    → slice_get xs (number_of l) ≡ Some os → IsListed (set xs (number_of l) (os ++ o ∷ [])) l o.id
listed-put xs l os o here = (
  os ++ o ∷ [],
  o,
  slice_get-set_same xs (number_of l) (os ++ o ∷ []) (slice_get_within xs (number_of l) os here),
  Contains-push os o,
  refl,
)

-- what is listed stays so
pub listed-grows : (xs ys : List (List Occurrence)) (id : ℕ) (c : List Lit) (l : Lit) (n : ℕ) → Grows xs ys id c
    → IsListed xs l n → IsListed ys l n
listed-grows xs ys id c l n g h =
    let r = g.kept (number_of l) h.0 h.1 h.2 h.3 in
    (r.0, h.1, r.1, r.2, h.4)

-- what is packed stays so while occurrences of a short clause are listed
pub packed-grows : (clauses : List (Option (List Lit))) (vars id : ℕ) (c : List Lit) (s : ShortState)
    (lists : List (List Occurrence)) → slice_get clauses id ≡ Some (Some c) → IsShort c → AreHeldBelow vars clauses
    → Grows s.lists lists id c → IsPacked clauses vars s
    → IsPacked clauses vars (record { lists = lists; packed = s.packed })
packed-grows clauses vars id c s lists held short below g h = record {
  within = h.within;
  complete = λ n d lt is is_short l m. listed-grows s.lists lists id c l n g (h.complete n d lt is is_short l m);
  sound = λ l os o e m d is. ⊎_elim
      (λ b. h.sound l b.0 o b.1 b.2 d is)
      (λ n.
      let same : d ≡ c = inner d (sym is ∙ ap (slice_get clauses) n.3 ∙ held) in
      let lit : n.0 ≡ l = number-same n.0 l (sym n.2) in
      subst (λ (x : List Lit). IsShort x × IsRest x l o) (sym same)
      (short, subst (λ (x : Lit). IsRest c x o) lit n.4))
      (g.added (number_of l) os o e m);
  in_range = λ j os o e m. ⊎_elim
      (λ b. h.in_range j b.0 o b.1 b.2)
      (λ n. (
        slice_get_within clauses o.id (Some c) (ap (slice_get clauses) n.3 ∙ held),
        λ x other. All-contains (λ (y : Lit). y.var.0 < vars) c x (below id c held) (n.4.from x other),
      ))
      (g.added j os o e m);
}
  where
    inner : (d : List Lit) → Some (Some d) ≡ Some (Some c) → d ≡ c
    inner d e = same_Some d c (same_Some (Some d) (Some c) e)

-- one more clause is packed where it is no short one, or listed for each of its literals
pub packed-next : (clauses : List (Option (List Lit))) (vars : ℕ) (s : ShortState) → s.packed < length clauses
    → ((c : List Lit) → slice_get clauses s.packed ≡ Some (Some c) → IsShort c → (l : Lit) → Contains c l
    → IsListed s.lists l s.packed) → IsPacked clauses vars s
    → IsPacked clauses vars (record { lists = s.lists; packed = s.packed + 1 })
packed-next clauses vars s lt all h = record {
  within = omega arith;
  complete = λ id c less held short l m. ⊎_elim
      (λ (same : id ≡ s.packed). subst (λ (n : ℕ). IsListed s.lists l n) (sym same)
      (all c (ap (slice_get clauses) (sym same) ∙ held) short l m))
      (λ (other : id ≢ s.packed). h.complete id c (omega arith) held short l m)
      (cases_eq id s.packed);
  sound = h.sound;
  in_range = h.in_range;
}

-- no clause and no list
pub packed-empty : IsPacked [] 0 (record { lists = []; packed = 0 })
packed-empty = record {
  within = omega arith;
  complete = λ id c lt. absurd (omega arith);
  sound = λ l os o e. absurd (cc);
  in_range = λ j os o e. absurd (cc);
}

-- more variables
pub packed-grow : (clauses : List (Option (List Lit))) (vars more : ℕ) (s : ShortState) → IsPacked clauses vars s
    → vars ≤ more → IsPacked clauses more s
packed-grow clauses vars more s h le = record {
  within = h.within;
  complete = h.complete;
  sound = h.sound;
  in_range = λ j os o e m. let r = h.in_range j os o e m in (r.0, λ x other. let lt = r.1 x other in omega arith);
}

-- one more clause is held
pub packed-push : (clauses : List (Option (List Lit))) (c : List Lit) (vars : ℕ) (s : ShortState)
    → IsPacked clauses vars s → IsPacked (clauses ++ Some c ∷ []) vars s
packed-push clauses c vars s h = record {
  within = let le = h.within in let n = length_push clauses (Some c) in omega arith;
  complete = λ id d lt held. h.complete id d lt (old id (Some d) (let le = h.within in omega arith) held);
  sound = λ l os o e m d held.
      h.sound l os o e m d (old o.id (Some d) (h.in_range (number_of l) os o e m).0 held);
  in_range = λ j os o e m.
      let r = h.in_range j os o e m in
      let lt = r.0 in
      let n = length_push clauses (Some c) in
      (omega arith, r.1);
}
  where
    old : (id : ℕ) (x : Option (List Lit)) → id < length clauses → slice_get (clauses ++ Some c ∷ []) id ≡ Some x
        → slice_get clauses id ≡ Some x
    old id x lt e = ⊎_elim (λ o. o) (λ n. absurd (let same = n.0 in omega arith))
        (slice_get-push_cases clauses (Some c) id x e)

-- a clause is removed
pub packed-remove : (clauses : List (Option (List Lit))) (id vars : ℕ) (s : ShortState)
    → IsPacked clauses vars s → IsPacked (set clauses id None) vars s
packed-remove clauses id vars s h = record {
  within = let le = h.within in let n = length-set clauses id None in omega arith;
  complete = λ n c lt held. h.complete n c lt (old n c held);
  sound = λ l os o e m c held. h.sound l os o e m c (old o.id c held);
  in_range = λ j os o e m.
      let r = h.in_range j os o e m in
      let lt = r.0 in
      let n = length-set clauses id None in
      (omega arith, r.1);
}
  where
    old : (n : ℕ) (c : List Lit) → slice_get (set clauses id None) n ≡ Some (Some c)
        → slice_get clauses n ≡ Some (Some c)
    old n c e = slice_get-set_cases clauses id None n (Some c) e (λ z. cc)

-- a list that was written with the same items
pub written-same : (v : Vec (Vec Occurrence)) (j : ℕ) (x was : Vec Occurrence) → was ≡ get_or v.items j was
    → x.items ≡ was.items → lists_of (with_item v j x) ≡ lists_of v
written-same v j x was here e = map-set_same (λ (os : Vec Occurrence). os.items) v.items j x was
    (e ∙ ap (λ (os : Vec Occurrence). os.items) here)

-- a list that was written with one item more
pub written-more : (v : Vec (Vec Occurrence)) (j : ℕ) (x was : Vec Occurrence) (o : Occurrence) → j < length v.items
    → was ≡ get_or v.items j was → x.items ≡ was.items ++ o ∷ []
    → (slice_get (lists_of v) j ≡ Some was.items)
    × (lists_of (with_item v j x) ≡ set (lists_of v) j (was.items ++ o ∷ []))
written-more v j x was o lt here e = (
  slice_get-mapped (λ (os : Vec Occurrence). os.items) v.items j was
      (slice_get-get_or v.items j was lt ∙ ap Some (sym here)),
  map-set (λ (os : Vec Occurrence). os.items) v.items j x ∙ ap (set (lists_of v) j) e,
)

-- such a list, of a literal
pub put-grows : (v : Vec (Vec Occurrence)) (j : ℕ) (l : Lit) (x was : Vec Occurrence) (o : Occurrence) (c : List Lit)
    → j ≡ number_of l → j < length v.items → was ≡ get_or v.items j was → x.items ≡ was.items ++ o ∷ [] → Contains c l
    → IsRest c l o → Grows (lists_of v) (lists_of (with_item v j x)) o.id c
put-grows v j l x was o c is lt here e member rest =
    let w = written-more v j x was o lt here e in
    let at : slice_get (lists_of v) (number_of l) ≡ Some was.items = ap (slice_get (lists_of v)) (sym is) ∙ w.0 in
    let new : lists_of (with_item v j x) ≡ set (lists_of v) (number_of l) (was.items ++ o ∷ []) =
    w.1 ∙ ap (λ (k : ℕ). set (lists_of v) k (was.items ++ o ∷ [])) is in
    rw new (grows-put (lists_of v) l was.items o c at member rest)

pub put-listed : (v : Vec (Vec Occurrence)) (j : ℕ) (l : Lit) (x was : Vec Occurrence) (o : Occurrence)
    → j ≡ number_of l → j < length v.items → was ≡ get_or v.items j was → x.items ≡ was.items ++ o ∷ []
    → IsListed (lists_of (with_item v j x)) l o.id
put-listed v j l x was o is lt here e =
    let w = written-more v j x was o lt here e in
    let at : slice_get (lists_of v) (number_of l) ≡ Some was.items = ap (slice_get (lists_of v)) (sym is) ∙ w.0 in
    let new : lists_of (with_item v j x) ≡ set (lists_of v) (number_of l) (was.items ++ o ∷ []) =
    w.1 ∙ ap (λ (k : ℕ). set (lists_of v) k (was.items ++ o ∷ [])) is in
    rw new (listed-put (lists_of v) l was.items o at)

-- the literal at one place was listed
pub grows-seen : (before after : List (List Occurrence)) (id : ℕ) (lits : List Lit) (place : ℕ) (lit : Lit)
    (seen : Occurrence) → seen.id ≡ id → slice_get lits place ≡ Some lit
    → ((l : Lit) → slice_get lits place ≡ Some l → IsRest lits l seen)
    → ((c : List Lit) → Contains c lit → IsRest c lit seen → Grows before after seen.id c) → Grows before after id lits
grows-seen before after id lits place lit seen is here rest grows =
    subst (λ (n : ℕ). Grows before after n lits) is (grows lits
    (place, slice_get_within lits place lit here, get_or_from_slice_get lits place lit lit here)
    (rest lit here))

-- and those before it
pub listed-next : (old before after : List (List Occurrence)) (id : ℕ) (lits : List Lit) (place : ℕ)
    → Grows old before id lits
    × ((k : ℕ) (m : Lit) → k < place → slice_get lits k ≡ Some m → IsListed before m id)
    → Grows before after id lits → (lit : Lit) → slice_get lits place ≡ Some lit → IsListed after lit id
    → Grows old after id lits
    × ((k : ℕ) (m : Lit) → k < place + 1 → slice_get lits k ≡ Some m → IsListed after m id)
listed-next old before after id lits place h g lit here new = (
  grows-then old before after id lits h.0 g,
  λ k m lt e. ⊎_elim
      (λ (same : k ≡ place).
      let is : lit ≡ m = same_Some lit m (sym here ∙ ap (slice_get lits) (sym same) ∙ e) in
      subst (λ (x : Lit). IsListed after x id) is new)
      (λ (other : k ≢ place). listed-grows before after id lits m id g (h.1 k m (omega arith) e))
      (cases_eq k place),
)

-- the next clause is packed once it is listed for each of its literals
pub packed-listed : (clauses : List (Option (List Lit))) (vars : ℕ) (c : List Lit) (s : ShortState)
    (lists : List (List Occurrence)) → slice_get clauses s.packed ≡ Some (Some c) → IsShort c
    → AreHeldBelow vars clauses → Grows s.lists lists s.packed c → All (λ l. IsListed lists l s.packed) c
    → IsPacked clauses vars s → IsPacked clauses vars (record { lists = lists; packed = s.packed + 1 })
packed-listed clauses vars c s lists held short below g all h =
    packed-next clauses vars (record { lists = lists; packed = s.packed })
    (slice_get_within clauses s.packed (Some c) held)
    (λ d is is_short l m.
    let same : d ≡ c = same_Some d c (same_Some (Some d) (Some c) (sym is ∙ held)) in
    All-contains (λ (x : Lit). IsListed lists x s.packed) c l all
    (subst (λ (x : List Lit). Contains x l) same m))
    (packed-grows clauses vars s.packed c s lists held short below g h)
