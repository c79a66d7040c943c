-- Clauses that were pushed, and removed again.
use Rattle.std.proofs.Common.{◌≡◌, ℕ, suc, zero, ◌+◌, ◌<◌, ◌≤◌, Option, Some, None, List, [], ◌∷◌, ◌++◌, length}
use Rattle.std.proofs.Common.{length-append, take, set, slice_get, get_or, flat_map, refl, sym, ap, ◌∙◌, subst, ⊎_elim}
use Rattle.std.proofs.Common.{arith, All}
use Rattle.std.proofs.lemmas.Bool.{cases_lt, cases_eq}
use Rattle.std.proofs.lemmas.List.{take_all, take-take, take-append-le, length_push, length-set, take-set-le, take_more}
use Rattle.std.proofs.lemmas.List.{append-nil}
use Rattle.std.proofs.lemmas.List.Elements.{All-nil, All-cons, Contains-append_left, Contains-append_right}
use Rattle.std.proofs.lemmas.List.Elements.{Contains-push}
use Rattle.std.proofs.lemmas.Option.{slice_get_within, same_Some}
use Rattle.std.proofs.lemmas.List.Concat.{flat_map-append}
use Rattle.lit_core.specs.declared.literals.Lit.{Lit}
use Rattle.clause_store.specs.TrailState.{TrailState}
use Rattle.clause_store.specs.declared.trails.Step.{Step}
use Rattle.clause_store.specs.TrailLaws.{IsFixed}
use Rattle.clause_store.specs.StoreState.{IsEachOnceOf}
use Rattle.clause_store.proofs.ListFacts.{slice_get-push_new, slice_get-push_cases, slice_get-take-below}
use Rattle.clause_store.proofs.ListFacts.{slice_get-set_cases, slice_get-set_same}
use Rattle.clause_store.proofs.PropagateFacts.{front-le}
use Rattle.ground_core.specs.declared.parts.Gate.{Gate}
use Rattle.ground_core.specs.GateClauses.{gate_clauses}
use Rattle.ground_core.proofs.Fronts.{All-front, All-back}
use Rattle.search_engine.specs.Knowledge.{IsHeldAs, AreHeldFrom, Pushes, RemovesFrom}

pub front-refl : {X : Type 0} (xs : List X) → xs ≡ take (length xs) xs
front-refl xs = sym (take_all (length xs) xs (omega arith))

pub front-push : {X : Type 0} (xs : List X) (y : X) → xs ≡ take (length xs) (xs ++ y ∷ [])
front-push xs y = front-refl xs ∙ sym (take-append-le (length xs) xs (y ∷ []) (omega arith))

pub front-trans : {X : Type 0} (a b c : List X) → a ≡ take (length a) b → b ≡ take (length b) c → a ≡ take (length a) c
front-trans a b c f g = f ∙ (ap (take (length a)) g ∙ take-take (length a) (length b) c (front-le a b f))

pub front-at : {X : Type 0} (a b : List X) → a ≡ take (length a) b → (k : ℕ) (x : X) → slice_get a k ≡ Some x
    → slice_get b k ≡ Some x
front-at a b f k x e =
    let lt : k < length a = slice_get_within a k x e in
    sym (slice_get-take-below (length a) b k lt) ∙ (ap (λ xs. slice_get xs k) (sym f) ∙ e)

pub front-back : {X : Type 0} (a b : List X) → a ≡ take (length a) b → (k : ℕ) (x : X) → k < length a
    → slice_get b k ≡ Some x → slice_get a k ≡ Some x
front-back a b f k x lt e = ap (λ xs. slice_get xs k) f ∙ (slice_get-take-below (length a) b k lt ∙ e)

pub held-later : (a b : List (Option (List Lit))) → a ≡ take (length a) b → (id : ℕ) (c : List Lit) → IsHeldAs a id c
    → IsHeldAs b id c
held-later a b f id c h = (h.0, front-at a b f id (Some h.0) h.1, h.2)

-- clauses that are held in order are held later
pub held-from-later : (a b : List (Option (List Lit))) → a ≡ take (length a) b → (id : ℕ) (cs : List (List Lit))
    → AreHeldFrom a id cs → AreHeldFrom b id cs
held-from-later a b f id [] h = tt
held-from-later a b f id (c ∷ cs) h = (held-later a b f id c h.0, held-from-later a b f (id + 1) cs h.1)

pub held-from-append : (b : List (Option (List Lit))) (id : ℕ) (cs ds : List (List Lit)) → AreHeldFrom b id cs
    → AreHeldFrom b (id + length cs) ds → AreHeldFrom b id (cs ++ ds)
held-from-append b id [] ds h g = subst (λ (n : ℕ). AreHeldFrom b n ds) (omega arith) g
held-from-append b id (c ∷ cs) ds h g = (
  h.0,
  held-from-append b (id + 1) cs ds h.1
      (subst (λ (n : ℕ). AreHeldFrom b n ds) (omega arith) g),
)

-- each of them has a number
pub held-from-each : (P : List Lit → Type 0) (b : List (Option (List Lit))) (id : ℕ) (cs : List (List Lit))
    → ((n : ℕ) (c : List Lit) → id ≤ n → IsHeldAs b n c → P c) → AreHeldFrom b id cs → All P cs
held-from-each P b id [] f h = All-nil P
held-from-each P b id (c ∷ cs) f h = All-cons P c cs (f id c (omega arith) h.0)
    (held-from-each P b (id + 1) cs (λ n d le x. f n d (omega (arith, le)) x) h.1)

pub pushes-none : (xs : List (Option (List Lit))) → Pushes xs xs []
pushes-none xs = record {
  front = front-refl xs;
  size = omega arith;
  held = tt;
  from = λ id k past e. let lt : id < length xs = slice_get_within xs id (Some k) e in absurd (omega (arith, past, lt));
}

pub pushes-append : (a b c : List (Option (List Lit))) (cs ds : List (List Lit)) → Pushes a b cs → Pushes b c ds
    → Pushes a c (cs ++ ds)
pushes-append a b c cs ds f g =
    let le : length a ≤ length b = front-le a b f.front in
    let sum : length (cs ++ ds) ≡ length cs + length ds = length-append cs ds in
    record {
      front = front-trans a b c f.front g.front;
      size = omega (arith, f.size, g.size, sum);
      held = held-from-append c (length a) cs ds (held-from-later b c g.front (length a) cs f.held)
          (subst (λ (n : ℕ). AreHeldFrom c n ds) f.size g.held);
      from = λ id k past e. ⊎_elim
          (λ lt. let w = f.from id k past (front-back b c g.front id (Some k) lt e) in
          (w.0, Contains-append_left cs ds w.0 w.1, w.2))
          (λ ge. let w = g.from id k ge e in (w.0, Contains-append_right cs ds w.0 w.1, w.2))
          (cases_lt id (length b));
    }

pub pushes-one : (old mid : List (Option (List Lit))) (cs : List (List Lit)) (c k : List Lit) → Pushes old mid cs
    → IsEachOnceOf c k → Pushes old (mid ++ Some k ∷ []) (cs ++ c ∷ [])
pushes-one old mid cs c k h once = pushes-append old mid (mid ++ Some k ∷ []) cs (c ∷ []) h (record {
  front = front-push mid (Some k);
  size = length_push mid (Some k);
  held = ((k, slice_get-push_new mid (Some k), once), tt);
  from = λ id j past e. ⊎_elim
      (λ o. let lt : id < length mid = slice_get_within mid id (Some j) o in absurd (omega (arith, past, lt)))
      (λ n. (c, Contains-push [] c, subst (IsEachOnceOf c) (sym (same_Some j k n.1)) once))
      (slice_get-push_cases mid (Some k) id (Some j) e);
})

-- nothing is fixed where there are no steps
pub none-fixed : (s : TrailState) → s.steps ≡ [] → (l : Lit) → IsFixed s l → ⊥
none-fixed s none l w =
    let e : slice_get {X = Step} [] w.0 ≡ Some w.1 = ap (λ (xs : List Step). slice_get xs w.0) (sym none) ∙ w.2 in
    let lt : w.0 < 0 = slice_get_within [] w.0 w.1 e in
    omega arith

-- the clauses of one gate among those of all
pub gate-among : (P : List Lit → Type 0) (gs : List Gate) (i : ℕ) (d : Gate) → i < length gs
    → All P (flat_map gate_clauses gs) → All P (gate_clauses (get_or gs i d))
gate-among P [] i d lt h = absurd (omega arith)
gate-among P (g ∷ gs) zero d lt h = All-front P (gate_clauses g) (flat_map gate_clauses gs) h
gate-among P (g ∷ gs) (suc i) d lt h = gate-among P gs i d (omega arith)
    (All-back P (gate_clauses g) (flat_map gate_clauses gs) h)

-- the clauses from one number on and below another were removed
pub record RemovesBetween (first end : ℕ) (old new : List (Option (List Lit))) : Type 0 where
  pub size : length new ≡ length old
  pub front : take first new ≡ take first old
  pub none : (id : ℕ) (k : List Lit) → first ≤ id → id < end → slice_get new id ≡ Some (Some k) → ⊥

pub removes-none : (first : ℕ) (xs : List (Option (List Lit))) → RemovesBetween first first xs xs
removes-none first xs = record { size = refl; front = refl; none = λ id k ge lt e. omega (arith, ge, lt) }

pub removes-one : (first id : ℕ) (old mid new : List (Option (List Lit))) → first ≤ id → id < length mid
    → new ≡ set mid id None → RemovesBetween first id old mid → RemovesBetween first (id + 1) old new
removes-one first id old mid new le lt is h = record {
  size = ap length is ∙ (length-set mid id None ∙ h.size);
  front = ap (take first) is ∙ (take-set-le first mid id None le ∙ h.front);
  none = λ j k ge below e.
      let at : slice_get (set mid id None) j ≡ Some (Some k) = ap (λ xs. slice_get xs j) (sym is) ∙ e in
      ⊎_elim
      (λ same. let here : slice_get (set mid id None) id ≡ Some None = slice_get-set_same mid id None lt in
      let there : slice_get (set mid id None) id ≡ Some (Some k) =
      subst (λ n. slice_get (set mid id None) n ≡ Some (Some k)) same at in
      let both : Some None ≡ Some (Some k) = sym here ∙ there in
      cc)
      (λ ne. let less : j < id = below-of j ne below in h.none j k ge less
      (slice_get-set_cases mid id None j (Some k) at (λ x. cc)))
      (cases_eq j id);
}
  where
    below-of : (j : ℕ) → (j ≡ id → ⊥) → j < id + 1 → j < id
    below-of j ne lt1 = omega (arith, ne, lt1)

pub removes-all : (first end : ℕ) (old new : List (Option (List Lit))) → length old ≤ end
    → RemovesBetween first end old new → RemovesFrom first old new
removes-all first end old new le h = record {
  size = h.size;
  front = h.front;
  none = λ id k ge e. let lt : id < length new = slice_get_within new id (Some k) e in let same : length new
      ≡ length old = h.size in h.none id k ge (omega (arith, le, lt, same)) e;
}

-- one item more
pub take-read : {X : Type 0} (xs : List X) (i : ℕ) (x : X) → i < length xs → x ≡ get_or xs i x
    → take (i + 1) xs ≡ take i xs ++ x ∷ []
take-read xs i x lt is = take_more xs i x lt ∙ ap (λ y. take i xs ++ y ∷ []) (sym is)

pub flat-one : (g : Gate) → flat_map gate_clauses (g ∷ []) ≡ gate_clauses g
flat-one g = append-nil (gate_clauses g)

-- the clauses of one gate more
pub flat-next : (gs : List Gate) (i : ℕ) (g : Gate) → i < length gs → g ≡ get_or gs i g
    → flat_map gate_clauses (take (i + 1) gs) ≡ flat_map gate_clauses (take i gs) ++ gate_clauses g
flat-next gs i g lt is = ap (flat_map gate_clauses) (take-read gs i g lt is)
    ∙ (flat_map-append gate_clauses (take i gs) (g ∷ []) ∙ ap (λ cs. flat_map gate_clauses (take i gs) ++ cs)
    (flat-one g))
