-- What is left of a list of formulas, of instances, and of the parts of an implication or an equivalence.
use Rattle.std.proofs.Common.{◌≡◌, ℕ, List, [], ◌∷◌, ◌++◌, ◌+◌, ◌<◌, map, drop, length, slice_index_or}
use Rattle.std.proofs.Common.{Bool, true, false, ◌&&◌, ◌||◌, Result, Err, refl, sym, ap, ◌∙◌, subst, append_assoc}
use Rattle.std.specs.Bool.{beq}
use Rattle.std.specs.List.{AllByRecursion}
use Rattle.std.proofs.lemmas.List.{at_drop_more}
use Rattle.std.proofs.lemmas.Bool.{true≢false}
use Rattle.kb_logic.specs.declared.elements.Elem.{Elem}
use Rattle.kb_logic.specs.declared.syntax.Formula.{Formula}
use Rattle.kb_logic.specs.Trees.{FormulaTree, FormulaTrees, more_formulas, formulas_of}
use Rattle.kb_logic.specs.Views.{formula_view}
use Rattle.kb_logic.specs.KnownAtoms.{KnownAtoms}
use Rattle.kb_logic.proofs.Pairs.{pairs}
use Rattle.kb_logic.proofs.Assignments.{joined}
use Rattle.partial_structures.specs.Consistency.{IsConsistent, KnowsMore}
use Rattle.certain_truth.specs.Certainty.{certain_truth}
use Rattle.bound_laws.specs.Closures.{opposes, Obeys, AllObey, LastObeys}
use Rattle.quantifier_bounds.specs.Steps.{IsStep, Narrows}
use Rattle.quantifier_bounds.specs.Walks.{Demands, PartsObey}
use Rattle.quantifier_bounds.specs.declared.fault.BoundFault.{BoundFault}
use Rattle.quantifier_bounds.proofs.Made.{nothing}
use Rattle.quantifier_bounds.proofs.Orders.{ordered, ordered_all, all_ordered}
use Rattle.quantifier_bounds.proofs.Lasts.{still_lost, all_also}
use Rattle.quantifier_bounds.proofs.Steps.{SoFar, turn, turn_fault, narrows_by}

-- ---- formulas that must all be of a value

pub split : (fs : List Formula) (i : ℕ) (x : Formula) → i < length fs → x ≡ slice_index_or fs i x
    → formulas_of (map formula_view (drop i fs)) ≡ more_formulas (formula_view x)
    (formulas_of (map formula_view (drop (i + 1) fs)))
split fs i x lt is = at_drop_more (λ ys. formulas_of (map formula_view ys)) fs i x lt
    ∙ ap (λ y. more_formulas (formula_view y) (formulas_of (map formula_view (drop (i + 1) fs)))) (sym is)

module _ (first now : KnownAtoms) (changed v : Bool) (whole rest next : FormulaTrees) (f : FormulaTree) (e : List Elem)
    (is : rest ≡ more_formulas f next)
    (s : SoFar first now changed (λ q. AllObey q v whole e) (λ q. AllObey q v rest e)) where
  pub parts_turn : (then' : KnownAtoms) (one : Bool) → IsStep now then' one (λ q. Obeys q v f e)
      → SoFar first then' (changed || one) (λ q. AllObey q v whole e) (λ q. AllObey q v next e)
  parts_turn then' one d = turn first now changed (λ q. AllObey q v whole e) (λ q. AllObey q v rest e) s then' one
      (λ q. Obeys q v f e) (λ q. AllObey q v next e)
      (λ q c l m h. (subst (λ g. AllObey q v g e) is h).0) (λ q c l m h. (subst (λ g. AllObey q v g e) is h).1)
      (λ x y p n. subst (λ g. AllObey then' v g e) (sym is) (p, n)) d

  pub parts_fault : (then' other : KnownAtoms) (b : BoundFault) → Narrows now then' (Err b) (λ q. Obeys q v f e)
      → Narrows first other (Err b) (λ q. AllObey q v whole e)
  parts_fault then' other b h = turn_fault first now changed (λ q. AllObey q v whole e) (λ q. AllObey q v rest e) s
      then'
      other b (λ q. Obeys q v f e) (λ q c l m i. (subst (λ g. AllObey q v g e) is i).0) h

pub parts_all : (k new : KnownAtoms) (r : Result Bool BoundFault) (fs : FormulaTrees) (e : List Elem) (c v : Bool)
    → beq c v ≡ true → Narrows k new r (λ q. AllObey q v fs e) → Narrows k new r (λ q. PartsObey q c v fs e)
parts_all k new r fs e true true is h = h
parts_all k new r fs e true false is h = absurd (true≢false (sym is))
parts_all k new r fs e false true is h = absurd (true≢false (sym is))
parts_all k new r fs e false false is h = h

pub parts_last : (k new : KnownAtoms) (r : Result Bool BoundFault) (fs : FormulaTrees) (e : List Elem) (c v : Bool)
    → beq c v ≡ false → Narrows k new r (λ q. LastObeys q v fs e false) → Narrows k new r (λ q. PartsObey q c v fs e)
parts_last k new r fs e true true other h = absurd (true≢false other)
parts_last k new r fs e true false other h = h
parts_last k new r fs e false true other h = h
parts_last k new r fs e false false other h = absurd (true≢false other)

-- ---- instances

module _ {X : Type 0} (P : X → Type 0) where
  all_append : (xs ys : List X) → AllByRecursion P xs → AllByRecursion P ys → AllByRecursion P (xs ++ ys)
  all_append [] ys h i = i
  all_append (x ∷ xs) ys h i = (h.0, all_append xs ys h.1 i)

  all_left : (xs ys : List X) → AllByRecursion P (xs ++ ys) → AllByRecursion P xs
  all_left [] ys h = tt
  all_left (x ∷ xs) ys h = (h.0, all_left xs ys h.1)

  all_right : (xs ys : List X) → AllByRecursion P (xs ++ ys) → AllByRecursion P ys
  all_right [] ys h = h
  all_right (x ∷ xs) ys h = all_right xs ys h.1

module _ (P : List Elem → Type 0) (more : List (List Elem)) where
  from_map : (a : List Elem) (bs : List (List Elem)) → AllByRecursion P (map (joined a) bs)
      → AllByRecursion (λ b. P (a ++ b)) bs
  from_map a [] h = tt
  from_map a (b ∷ bs) h = (h.0, from_map a bs h.1)

  to_map : (a : List Elem) (bs : List (List Elem)) → AllByRecursion (λ b. P (a ++ b)) bs
      → AllByRecursion P (map (joined a) bs)
  to_map a [] h = tt
  to_map a (b ∷ bs) h = (h.0, to_map a bs h.1)

  pub by_front : (xs : List (List Elem)) → AllByRecursion P (pairs joined more xs)
      → AllByRecursion (λ a. AllByRecursion (λ b. P (a ++ b)) more) xs
  by_front [] h = tt
  by_front (a ∷ xs) h = (
    from_map a more (all_left P (map (joined a) more) (pairs joined more xs) h),
    by_front xs (all_right P (map (joined a) more) (pairs joined more xs) h),
  )

  pub to_front : (xs : List (List Elem)) → AllByRecursion (λ a. AllByRecursion (λ b. P (a ++ b)) more) xs
      → AllByRecursion P (pairs joined more xs)
  to_front [] h = tt
  to_front (a ∷ xs) h = all_append P (map (joined a) more) (pairs joined more xs) (to_map a more h.0) (to_front xs h.1)

unskip : (left lost later : Bool) → (lost ≡ true → later ≡ true) → (left && later) ≡ false → (left && lost) ≡ false
unskip false lost later h i = refl
unskip true false later h i = refl
unskip true true later h i = absurd (true≢false (sym (h refl) ∙ i))

-- what was left may be lost later, and not the other way round
demand_later : (first now q : KnownAtoms) → IsConsistent now → KnowsMore first now → (left v : Bool) (f : FormulaTree)
    (e : List Elem) → Demands first left v f e q → Demands now left v f e q
demand_later first now q c more left v f e h i =
    h (unskip left (opposes v (certain_truth first f e)) (opposes v (certain_truth now f e))
    (still_lost first now c more v f e) i)

module _ (left v : Bool) (f : FormulaTree) (e : List Elem) where
  abbrev pub Instances : KnownAtoms → List (List Elem) → KnownAtoms → Type 0
  Instances first xs q = AllByRecursion (λ a. Demands first left v f (e ++ a) q) xs

  -- those that begin with this
  abbrev pub Block : KnownAtoms → List (List Elem) → KnownAtoms → List Elem → Type 0
  Block first others q a = AllByRecursion (λ b. Demands first left v f (e ++ (a ++ b)) q) others

  -- those that begin with each of these
  abbrev pub Blocks : KnownAtoms → List (List Elem) → List (List Elem) → KnownAtoms → Type 0
  Blocks first others xs q = AllByRecursion (Block first others q) xs

  pub block_start : (falling : Bool) (k : KnownAtoms) (all others these : List (List Elem))
      → all ≡ pairs joined others these → SoFar k k false (Instances k all) (Blocks k others (ordered falling these))
  block_start falling k all others these is = record {
    more = record { symbols = refl; domains = refl; true_atoms = λ a at. at; false_atoms = λ a at. at };
    sound = λ q c l m h. m;
    left = λ q c l m h. ordered_all (Block k others q) falling these
        (by_front (λ a. Demands k left v f (e ++ a) q) others these (subst (λ xs. Instances k xs q) is h));
    same = λ n. refl;
    holds = λ n h. subst (λ xs. Instances k xs k) (sym is) (to_front (λ a. Demands k left v f (e ++ a) k) others these
        (all_ordered (Block k others k) falling these h));
    fewer = λ n. absurd (true≢false (sym n));
  }

  module _ (first now : KnownAtoms) (changed : Bool) (all others xs next : List (List Elem)) (a inner : List Elem)
      (is : xs ≡ a ∷ next) (begins : inner ≡ e ++ a) (c : IsConsistent now)
      (s : SoFar first now changed (Instances first all) (Blocks first others xs)) where
    here : (q : KnownAtoms) → Blocks first others xs q → AllByRecursion (λ b. Demands now left v f (inner ++ b) q)
        others
    here q h =
        let block : AllByRecursion (λ b. Demands first left v f (e ++ (a ++ b)) q) others =
        (subst (λ ys. Blocks first others ys q) is h).0 in
        all_also (λ b d. subst (λ u. Demands now left v f u q)
        (sym (append_assoc e a b) ∙ ap (λ u. u ++ b) (sym begins))
        (demand_later first now q c s.more left v f (e ++ (a ++ b)) d)) others block

    back : (q : KnownAtoms) → now ≡ first → AllByRecursion (λ b. Demands now left v f (inner ++ b) q) others
        → Blocks first others next q → Blocks first others xs q
    back q same h n = subst (λ ys. Blocks first others ys q) (sym is) (
      all_also (λ b d. subst (λ u. Demands first left v f u q)
          (ap (λ u. u ++ b) begins ∙ append_assoc e a b)
          (subst (λ k. Demands k left v f (inner ++ b) q) same d)) others h,
      n,
    )

    pub block_turn : (then' : KnownAtoms) (one : Bool)
        → IsStep now then' one (λ q. AllByRecursion (λ b. Demands now left v f (inner ++ b) q) others)
        → SoFar first then' (changed || one) (Instances first all) (Blocks first others next)
    block_turn then' one d = turn first now changed (Instances first all) (Blocks first others xs) s then' one
        (λ q. AllByRecursion (λ b. Demands now left v f (inner ++ b) q) others) (Blocks first others next)
        (λ q cq l m h. here q h) (λ q cq l m h. (subst (λ ys. Blocks first others ys q) is h).1)
        (λ same t p n. back then' same p n) d

    pub block_fault : (then' other : KnownAtoms) (b : BoundFault)
        → Narrows now then' (Err b) (λ q. AllByRecursion (λ b. Demands now left v f (inner ++ b) q) others)
        → Narrows first other (Err b) (Instances first all)
    block_fault then' other b h = turn_fault first now changed (Instances first all) (Blocks first others xs) s then'
        other b
        (λ q. AllByRecursion (λ b. Demands now left v f (inner ++ b) q) others) (λ q cq l m i. here q i) h

-- ---- one formula, where it is asked for

pub asked_no : (k : KnownAtoms) (asked : Bool) (P : KnownAtoms → Type 0) → asked ≡ false
    → IsStep k k false (λ q. asked ≡ true → P q)
asked_no k asked P no_ = nothing k (λ q. asked ≡ true → P q) (λ y. absurd (true≢false (sym y ∙ no_)))

pub asked_yes : (old new : KnownAtoms) (asked : Bool) (r : Result Bool BoundFault) (P : KnownAtoms → Type 0)
    → asked ≡ true
    → Narrows old new r P → Narrows old new r (λ q. asked ≡ true → P q)
asked_yes old new asked r P yes_ h = narrows_by old new r P (λ q. asked ≡ true → P q) (λ q c l m i. i yes_)
    (λ s p y. p) h

pub demand_no : (k : KnownAtoms) (left v passed : Bool) (f : FormulaTree) (e : List Elem)
    → passed ≡ (left && opposes v (certain_truth k f e)) → passed ≡ true → IsStep k k false (Demands k left v f e)
demand_no k left v passed f e is yes_ = nothing k (Demands k left v f e) (λ n. absurd (true≢false (sym yes_ ∙ is ∙ n)))

pub demand_yes : (old new : KnownAtoms) (left v passed : Bool) (f : FormulaTree) (e : List Elem)
    (r : Result Bool BoundFault)
    → passed ≡ (left && opposes v (certain_truth old f e)) → passed ≡ false → Narrows old new r (λ q. Obeys q v f e)
    → Narrows old new r (Demands old left v f e)
demand_yes old new left v passed f e r is no_ h =
    narrows_by old new r (λ q. Obeys q v f e) (Demands old left v f e) (λ q c l m i. i (sym is ∙ no_)) (λ s p n. p) h
