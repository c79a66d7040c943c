-- Linked lists after a change.
use Rattle.std.proofs.Common.{◌≡◌, ℕ, zero, suc, ◌<◌, ◌≤◌, ◌+◌, ◌^◌, Some, None, List, [], ◌∷◌, ◌++◌, length, map}
use Rattle.std.proofs.Common.{get_or, set, cond, eqb, refl, sym, ap, subst, ◌∙◌, ⊎_elim, arith, Contains, slice_get}
use Rattle.std.proofs.lemmas.Bool.{cases_eq, cond-true, cond-false, eq-eqb, ne_eqb}
use Rattle.std.proofs.lemmas.List.Elements.{Contains-append_left, Contains-append_right}
use Rattle.std.proofs.lemmas.List.{get_or-set_other, get_or-set_same, length-set, length-map}
use Rattle.lit_core.proofs.LiteralFacts.{Contains-cons_cases, Contains-head, nothing_in_none}
use Rattle.clause_base.specs.Links.{node_of, first_of, last_of, IsLinked, IsOnce, follow}
use Rattle.clause_base.specs.ListsState.{HasLaws, ListsState}
use Rattle.clause_base.specs.ListsFields.{Linkage, IsLinkage, IsKept, labels_of, links_of, linkage_of, list_at}
use Rattle.clause_base.specs.ListsFields.{listed_at, nodes_from, state_of}
use Rattle.clause_base.specs.declared.watch_lists.Node.{Node}
use Rattle.clause_base.specs.declared.watch_lists.LinkedLists.TheInside.{Inside}
use Rattle.std.proofs.lemmas.Option.{slice_get_read, get_or_from_slice_get}
use Rattle.clause_base.proofs.ListFacts.{slice_get-mapped}
use Rattle.clause_base.proofs.LinkFacts.{linked-within, follow-is, linked-set, linked-longer, linked-rest, linked-first}
use Rattle.clause_base.proofs.LinkFacts.{once-middle, cut-contains, once-cut, linked-cut, none-before, last-in}

follow-end : (links : List ℕ) (most : ℕ) → follow links most 0 ≡ []
follow-end links zero = refl
follow-end links (suc most) = refl

map-or : (f : ℕ → List ℕ) → f 0 ≡ [] → (xs : List ℕ) (j : ℕ) → get_or (map f xs) j [] ≡ f (get_or xs j 0)
map-or f z [] j = sym z
map-or f z (x ∷ xs) zero = refl
map-or f z (x ∷ xs) (suc j) = map-or f z xs j

-- what contracts see of a list is what its links lead through
pub seen : (a : Linkage) (j : ℕ) → listed_at a j ≡ list_at a j
seen a j = map-or (nodes_from a) (follow-end a.links (length a.links)) a.heads j

-- new links and heads that lead through these lists keep the laws
module _ (b : Linkage) (lists : ℕ → List ℕ) (linked : (j : ℕ) → IsLinked b.links (get_or b.heads j 0) (lists j))
    (once : (j : ℕ) → IsOnce (lists j)) where
  pub leads : (j : ℕ) → list_at b j ≡ lists j
  leads j = follow-is b.links (get_or b.heads j 0) (lists j) (linked j) (once j)

  pub kept-by : ((i j n : ℕ) → Contains (lists i) n → Contains (lists j) n → i ≡ j) → IsLinkage b
  kept-by apart = record {
    linked = λ j. subst (λ (xs : List ℕ). IsLinked b.links (get_or b.heads j 0) xs) (sym (leads j)) (linked j);
    once = λ j. subst IsOnce (sym (leads j)) (once j);
    apart = λ i j n hi hj. apart i j n (subst (λ (xs : List ℕ). Contains xs n) (leads i) hi)
        (subst (λ (xs : List ℕ). Contains xs n) (leads j) hj);
  }

  pub sees : (j : ℕ) → listed_at b j ≡ lists j
  sees j = seen b j ∙ leads j

pub kept-empty : (b : Linkage) → ((k : ℕ) → get_or b.heads k 0 ≡ 0) → IsLinkage b × ((j : ℕ) → listed_at b j ≡ [])
kept-empty b zeros = (
  kept-by b (λ j. []) zeros (λ j. tt) (λ i j n h k. absurd (nothing_in_none n h)),
  sees b (λ j. []) zeros (λ j. tt),
)

-- more lists, and more nodes
pub kept-longer : (a b : Linkage) → IsLinkage a → length a.links ≤ length b.links
    → ((k : ℕ) → get_or b.links k 0 ≡ get_or a.links k 0) → ((k : ℕ) → get_or b.heads k 0 ≡ get_or a.heads k 0)
    → IsLinkage b × ((j : ℕ) → listed_at b j ≡ listed_at a j)
kept-longer a b h longer links heads =
    let linked : (j : ℕ) → IsLinked b.links (get_or b.heads j 0) (list_at a j) =
    λ j. subst (λ (m : ℕ). IsLinked b.links m (list_at a j)) (sym (heads j))
    (linked-longer a.links b.links (get_or a.heads j 0) (list_at a j) longer links (h.linked j)) in
    (kept-by b (list_at a) linked h.once h.apart, λ j. sees b (list_at a) linked h.once j ∙ sym (seen a j))

-- one list is replaced
module _ (a : Linkage) (j : ℕ) (new : List ℕ) where
  replaced : ℕ → List ℕ
  replaced i = cond (eqb i j) new (list_at a i)

  replaced-here : replaced j ≡ new
  unfolding replaced
  replaced-here = cond-true (eqb j j) new (list_at a j) (eq-eqb j j refl)

  replaced-other : (i : ℕ) → (i ≡ j → ⊥) → replaced i ≡ list_at a i
  unfolding replaced
  replaced-other i ne = cond-false (eqb i j) new (list_at a i) (ne_eqb i j ne)

  -- by cases on the list
  replaced-all : (P : ℕ → List ℕ → Type 0) → P j new → ((i : ℕ) → (i ≡ j → ⊥) → P i (list_at a i)) → (i : ℕ)
      → P i (replaced i)
  replaced-all P here other i = ⊎_elim
      (λ e. subst (λ (k : ℕ). P k (replaced k)) (sym e) (subst (P j) (sym replaced-here) here))
      (λ ne. subst (P i) (sym (replaced-other i ne)) (other i ne))
      (cases_eq i j)

  -- the laws, where the new list leads on and has nothing from other lists
  module _ (b : Linkage) (h : IsLinkage a) (here : IsLinked b.links (get_or b.heads j 0) new) (other : (i : ℕ)
      → (i ≡ j → ⊥) → IsLinked b.links (get_or b.heads i 0) (list_at a i)) (once : IsOnce new) where
    linked : (i : ℕ) → IsLinked b.links (get_or b.heads i 0) (replaced i)
    linked = replaced-all (λ i xs. IsLinked b.links (get_or b.heads i 0) xs) here other

    all-once : (i : ℕ) → IsOnce (replaced i)
    all-once = replaced-all (λ i xs. IsOnce xs) once (λ i ne. h.once i)

    pub kept-replaced : ((i n : ℕ) → (i ≡ j → ⊥) → Contains new n → Contains (list_at a i) n → ⊥) → IsLinkage b
    kept-replaced foreign = kept-by b replaced linked all-once
        (λ i k n hi hk. ⊎_elim
        (λ ij. ⊎_elim
        (λ kj. ij ∙ sym kj)
        (λ nk. absurd (foreign k n nk (subst (λ (xs : List ℕ). Contains xs n) (ap replaced ij ∙ replaced-here) hi)
        (subst (λ (xs : List ℕ). Contains xs n) (replaced-other k nk) hk)))
        (cases_eq k j))
        (λ ni. ⊎_elim
        (λ kj. absurd (foreign i n ni (subst (λ (xs : List ℕ). Contains xs n) (ap replaced kj ∙ replaced-here) hk)
        (subst (λ (xs : List ℕ). Contains xs n) (replaced-other i ni) hi)))
        (λ nk. h.apart i k n (subst (λ (xs : List ℕ). Contains xs n) (replaced-other i ni) hi)
        (subst (λ (xs : List ℕ). Contains xs n) (replaced-other k nk) hk))
        (cases_eq k j))
        (cases_eq i j))

    pub sees-here : listed_at b j ≡ new
    sees-here = sees b replaced linked all-once j ∙ replaced-here

    pub sees-other : (i : ℕ) → (i ≡ j → ⊥) → listed_at b i ≡ listed_at a i
    sees-other i ne = sees b replaced linked all-once i ∙ replaced-other i ne ∙ sym (seen a i)

-- links and heads that their lists determine
with-fields : (b : Linkage) (links heads : List ℕ) → b.links ≡ links → b.heads ≡ heads → (i : ℕ) (xs : List ℕ)
    → IsLinked links (get_or heads i 0) xs → IsLinked b.links (get_or b.heads i 0) xs
with-fields b links heads le he i xs h =
    subst (λ (m : List ℕ). IsLinked m (get_or b.heads i 0) xs) (sym le)
    (subst (λ (m : List ℕ). IsLinked links (get_or m i 0) xs) (sym he) h)

-- a node is listed at the head of a list
module _ (a b : Linkage) (h : IsLinkage a) (j n : ℕ) (list : j < length a.heads) (node : n < length a.links)
    (free : (i : ℕ) → Contains (listed_at a i) n → ⊥) (links : b.links ≡ set a.links n (get_or a.heads j 0))
    (heads : b.heads ≡ set a.heads j (n + 1)) where
  unhung : (i : ℕ) → Contains (list_at a i) n → ⊥
  unhung i has = free i (subst (λ (xs : List ℕ). Contains xs n) (sym (seen a i)) has)

  link-here : IsLinked b.links (get_or b.heads j 0) (n ∷ list_at a j)
  link-here =
      let head : get_or (set a.heads j (n + 1)) j 0 ≡ n + 1 = get_or-set_same a.heads j (n + 1) 0 list in
      let link : get_or (set a.links n (get_or a.heads j 0)) n 0 ≡ get_or a.heads j 0 =
      get_or-set_same a.links n (get_or a.heads j 0) 0 node in
      let rest = linked-set a.links (get_or a.heads j 0) (list_at a j) n (get_or a.heads j 0) (unhung j) (h.linked j) in
      with-fields b (set a.links n (get_or a.heads j 0)) (set a.heads j (n + 1)) links heads j (n ∷ list_at a j) (
        head,
        rw length-set node,
        subst (λ (m : ℕ). IsLinked (set a.links n (get_or a.heads j 0)) m (list_at a j))
            (sym link) rest,
      )

  link-other : (i : ℕ) → (i ≡ j → ⊥) → IsLinked b.links (get_or b.heads i 0) (list_at a i)
  link-other i ne =
      let head : get_or (set a.heads j (n + 1)) i 0 ≡ get_or a.heads i 0 = get_or-set_other a.heads j i (n + 1) 0 ne in
      let rest = linked-set a.links (get_or a.heads i 0) (list_at a i) n (get_or a.heads j 0) (unhung i) (h.linked i) in
      with-fields b (set a.links n (get_or a.heads j 0)) (set a.heads j (n + 1)) links heads i (list_at a i)
      (subst (λ (m : ℕ). IsLinked (set a.links n (get_or a.heads j 0)) m (list_at a i)) (sym head) rest)

  pub link-kept : IsLinkage b
  link-kept = kept-replaced a j (n ∷ list_at a j) b h link-here link-other (unhung j, h.once j)
      (λ i m ne new old. ⊎_elim
      (λ e. unhung i (subst (λ (x : ℕ). Contains (list_at a i) x) (sym e) old))
      (λ rest. ne (h.apart i j m old rest))
      (Contains-cons_cases n (list_at a j) m new))

  pub link-sees : listed_at b j ≡ n ∷ listed_at a j
  link-sees = sees-here a j (n ∷ list_at a j) b h link-here link-other (unhung j, h.once j)
      ∙ ap (λ (xs : List ℕ). n ∷ xs) (sym (seen a j))

  pub link-sees-other : (i : ℕ) → (i ≡ j → ⊥) → listed_at b i ≡ listed_at a i
  link-sees-other = sees-other a j (n ∷ list_at a j) b h link-here link-other (unhung j, h.once j)

-- the node after this one
pub after-is : (a : Linkage) → IsLinkage a → (j n : ℕ) (front back : List ℕ) → listed_at a j ≡ front ++ n ∷ back
    → node_of (get_or a.links n 0) ≡ first_of back
after-is a h j n front back is =
    let all : IsLinked a.links (get_or a.heads j 0) (front ++ n ∷ back) =
    subst (λ (xs : List ℕ). IsLinked a.links (get_or a.heads j 0) xs) (sym (seen a j) ∙ is) (h.linked j) in
    linked-first a.links (get_or a.links n 0) back (linked-rest a.links (get_or a.heads j 0) front n back all)

-- a node is taken out of a list
module _ (a b : Linkage) (h : IsLinkage a) (j n : ℕ) (front back : List ℕ)
    (is : listed_at a j ≡ front ++ n ∷ back) where
  before : list_at a j ≡ front ++ n ∷ back
  before = sym (seen a j) ∙ is

  old-once : IsOnce (front ++ n ∷ back)
  old-once = subst IsOnce before (h.once j)

  old-linked : IsLinked a.links (get_or a.heads j 0) (front ++ n ∷ back)
  old-linked = subst (λ (xs : List ℕ). IsLinked a.links (get_or a.heads j 0) xs) before (h.linked j)

  -- at the front
  pub first-here : last_of front ≡ None → j < length a.heads → b.links ≡ a.links
      → b.heads ≡ set a.heads j (get_or a.links n 0) → IsLinked b.links (get_or b.heads j 0) (front ++ back)
  first-here none list links heads =
      let empty : front ≡ [] = none-before front none in
      let head : get_or (set a.heads j (get_or a.links n 0)) j 0 ≡ get_or a.links n 0 =
      get_or-set_same a.heads j (get_or a.links n 0) 0 list in
      let rest : IsLinked a.links (get_or a.links n 0) back = linked-rest a.links (get_or a.heads j 0) front n back
      old-linked in
      with-fields b a.links (set a.heads j (get_or a.links n 0)) links heads j (front ++ back)
      (subst (λ (m : ℕ). IsLinked a.links m (front ++ back)) (sym head)
      (subst (λ (xs : List ℕ). IsLinked a.links (get_or a.links n 0) (xs ++ back)) (sym empty) rest))

  pub first-other : b.links ≡ a.links → b.heads ≡ set a.heads j (get_or a.links n 0) → (i : ℕ) → (i ≡ j → ⊥)
      → IsLinked b.links (get_or b.heads i 0) (list_at a i)
  first-other links heads i ne =
      let head : get_or (set a.heads j (get_or a.links n 0)) i 0 ≡ get_or a.heads i 0 =
      get_or-set_other a.heads j i (get_or a.links n 0) 0 ne in
      with-fields b a.links (set a.heads j (get_or a.links n 0)) links heads i (list_at a i)
      (subst (λ (m : ℕ). IsLinked a.links m (list_at a i)) (sym head) (h.linked i))

  -- after another node
  pub later-here : (p : ℕ) → last_of front ≡ Some p → b.heads ≡ a.heads → b.links ≡ set a.links p (get_or a.links n 0)
      → IsLinked b.links (get_or b.heads j 0) (front ++ back)
  later-here p last heads links = with-fields b (set a.links p (get_or a.links n 0)) a.heads links heads j
      (front ++ back) (linked-cut a.links (get_or a.heads j 0) front n back p last old-once old-linked)

  pub later-other : (p : ℕ) → last_of front ≡ Some p → b.heads ≡ a.heads → b.links ≡ set a.links p (get_or a.links n 0)
      → (i : ℕ) → (i ≡ j → ⊥) → IsLinked b.links (get_or b.heads i 0) (list_at a i)
  later-other p last heads links i ne =
      let here : Contains (list_at a j) p = subst (λ (xs : List ℕ). Contains xs p) (sym before)
      (Contains-append_left front (n ∷ back) p (last-in front p last)) in
      with-fields b (set a.links p (get_or a.links n 0)) a.heads links heads i (list_at a i)
      (linked-set a.links (get_or a.heads i 0) (list_at a i) p (get_or a.links n 0)
      (λ has. ne (h.apart i j p has here)) (h.linked i))

  module _ (here : IsLinked b.links (get_or b.heads j 0) (front ++ back)) (other : (i : ℕ) → (i ≡ j → ⊥)
      → IsLinked b.links (get_or b.heads i 0) (list_at a i)) where
    pub unlink-kept : IsLinkage b
    unlink-kept = kept-replaced a j (front ++ back) b h here other (once-cut front n back old-once)
        (λ i m ne new old. ne (h.apart i j m old (subst (λ (xs : List ℕ). Contains xs m) (sym before)
        (cut-contains front n back m new))))

    pub unlink-sees : listed_at b j ≡ front ++ back
    unlink-sees = sees-here a j (front ++ back) b h here other (once-cut front n back old-once)

    pub unlink-sees-other : (i : ℕ) → (i ≡ j → ⊥) → listed_at b i ≡ listed_at a i
    unlink-sees-other = sees-other a j (front ++ back) b h here other (once-cut front n back old-once)

    pub unlink-free : (i : ℕ) → Contains (listed_at b i) n → ⊥
    unlink-free i has = ⊎_elim
        (λ e. once-middle front n back old-once (subst (λ (xs : List ℕ). Contains xs n) (ap (listed_at b) e
        ∙ unlink-sees) has))
        (λ ne.
        let old : Contains (list_at a i) n = subst (λ (xs : List ℕ). Contains xs n) (unlink-sees-other i ne
        ∙ seen a i) has in
        ne (h.apart i j n old (subst (λ (xs : List ℕ). Contains xs n) (sym before)
        (Contains-append_right front (n ∷ back) n (Contains-head n back)))))
        (cases_eq i j)

-- a node stands at one place of a list without repeats
pub same-back : (front other : List ℕ) (n : ℕ) (back rest : List ℕ) → IsOnce (front ++ n ∷ back)
    → front ++ n ∷ back ≡ other ++ n ∷ rest → front ++ back ≡ other ++ rest
same-back [] [] n back rest once e = cc
same-back [] (y ∷ other) n back rest once e =
    let head : n ≡ y = cc in
    let tail : back ≡ other ++ n ∷ rest = cc in
    absurd (once.0 (subst (λ (xs : List ℕ). Contains xs n) (sym tail) (Contains-append_right other (n ∷ rest) n
    (Contains-head n rest))))
same-back (x ∷ front) [] n back rest once e =
    let head : x ≡ n = cc in
    absurd (once.0 (subst (λ (m : ℕ). Contains (front ++ n ∷ back) m) (sym head)
    (Contains-append_right front (n ∷ back) n (Contains-head n back))))
same-back (x ∷ front) (y ∷ other) n back rest once e =
    let head : x ≡ y = cc in
    let tail : front ++ n ∷ back ≡ other ++ n ∷ rest = cc in
    let r : front ++ back ≡ other ++ rest = same-back front other n back rest once.1 tail in
    cc

-- what taking a node out of a list leaves
pub record Unlinks (a b : Linkage) (j n : ℕ) : Type 0 where
  pub kept : IsLinkage b
  pub here : (front back : List ℕ) → listed_at a j ≡ front ++ n ∷ back → listed_at b j ≡ front ++ back
  pub others : (i : ℕ) → (i ≡ j → ⊥) → listed_at b i ≡ listed_at a i
  pub free : (i : ℕ) → Contains (listed_at b i) n → ⊥

unlinks : (a b : Linkage) (h : IsLinkage a) (j n : ℕ) (front back : List ℕ) (is : listed_at a j ≡ front ++ n ∷ back)
    → IsLinked b.links (get_or b.heads j 0) (front ++ back) → ((i : ℕ) → (i ≡ j → ⊥)
    → IsLinked b.links (get_or b.heads i 0) (list_at a i)) → Unlinks a b j n
unlinks a b h j n front back is here other = record {
  kept = unlink-kept a b h j n front back is here other;
  here = λ front2 back2 is2.
      let once : IsOnce (front ++ n ∷ back) = subst IsOnce is (subst IsOnce (sym (seen a j)) (h.once j)) in
      unlink-sees a b h j n front back is here other ∙ same-back front front2 n back back2 once (sym is ∙ is2);
  others = unlink-sees-other a b h j n front back is here other;
  free = unlink-free a b h j n front back is here other;
}

pub unlinks-first : (a b : Linkage) (h : IsLinkage a) (j n : ℕ) (front back : List ℕ)
    (is : listed_at a j ≡ front ++ n ∷ back) → last_of front ≡ None → j < length a.heads → b.links ≡ a.links
    → b.heads ≡ set a.heads j (get_or a.links n 0) → Unlinks a b j n
unlinks-first a b h j n front back is none list links heads =
    unlinks a b h j n front back is (first-here a b h j n front back is none list links heads)
    (first-other a b h j n front back is links heads)

pub unlinks-later : (a b : Linkage) (h : IsLinkage a) (j n : ℕ) (front back : List ℕ)
    (is : listed_at a j ≡ front ++ n ∷ back) (p : ℕ) → last_of front ≡ Some p → b.heads ≡ a.heads
    → b.links ≡ set a.links p (get_or a.links n 0) → Unlinks a b j n
unlinks-later a b h j n front back is p last heads links =
    unlinks a b h j n front back is (later-here a b h j n front back is p last heads links)
    (later-other a b h j n front back is p last heads links)

-- what contracts see of the fields
pub laws-of : (a : Inside) → IsKept a → HasLaws (state_of a)
laws-of a h =
    let l = linkage_of a in
    record {
      once = λ j. subst IsOnce (sym (seen l j)) (h.linkage.once j);
      apart = λ i j n hi hj. h.linkage.apart i j n (subst (λ (xs : List ℕ). Contains xs n) (seen l i) hi)
          (subst (λ (xs : List ℕ). Contains xs n) (seen l j) hj);
      small = (let n : length (map (nodes_from l) a.heads.items) ≡ length a.heads.items =
          length-map a.heads.items (nodes_from l) in let len = a.heads.ok.0 in let cap = a.heads.small in
          omega (arith, a.heads.ok));
      few = let labels : length (labels_of a.nodes.items) ≡ length a.nodes.items =
          length-map a.nodes.items (λ (x : Node). x.label) in let most : length a.nodes.items < 2 ^ 32 =
          h.small in omega arith;
      within = λ j n hj.
          let lt : n < length l.links = linked-within l.links (get_or l.heads j 0) (list_at l j) (h.linkage.linked j) n
          (subst (λ (xs : List ℕ). Contains xs n) (seen l j) hj) in
          let links : length l.links ≡ length a.nodes.items = length-map a.nodes.items (λ (x : Node). x.next) in
          let labels : length (labels_of a.nodes.items) ≡ length a.nodes.items =
          length-map a.nodes.items (λ (x : Node). x.label) in
          omega arith;
    }

-- the number of the nodes, as contracts see it
pub nodes-length : (a : Inside) (s : ListsState) → state_of a ≡ s → length a.nodes.items ≡ length s.labels
nodes-length a s is = sym (length-map a.nodes.items (λ (x : Node). x.label))
    ∙ ap (λ (x : ListsState). length x.labels) is

pub links-length : (a : Inside) → length (links_of a.nodes.items) ≡ length a.nodes.items
links-length a = length-map a.nodes.items (λ (x : Node). x.next)

-- the number of the lists, as contracts see it
pub heads-length : (a : Inside) (s : ListsState) → state_of a ≡ s → length a.heads.items ≡ length s.lists
heads-length a s is = sym (length-map a.heads.items (nodes_from (linkage_of a)))
    ∙ ap (λ (x : ListsState). length x.lists) is

-- the link of a node that was read
pub link-read : (nodes : List Node) (n : ℕ) (x : Node) → n < length nodes → x ≡ get_or nodes n x
    → x.next ≡ get_or (links_of nodes) n 0
link-read nodes n x lt read =
    let at : slice_get nodes n ≡ Some x = slice_get_read nodes (length nodes) n x refl lt read in
    sym (get_or_from_slice_get (links_of nodes) n x.next 0 (slice_get-mapped (λ (y : Node). y.next) nodes n x at))
