-- The forced literals that are not left out are what is shown.
use Rattle.std.proofs.Common.{◌≡◌, ℕ, Bool, true, false, not, if◌then◌else◌, Option, Some, List}
use Rattle.std.proofs.Common.{map, ◌&&◌, ◌==◌, option_map, Contains}
use Rattle.std.proofs.Common.{refl, sym, ap, ◌∙◌, subst, inl, inr, ◌⊎◌, ⊎_elim}
use Rattle.std.specs.List.{AllByRecursion, flat_map, list_any}
use Rattle.std.proofs.lemmas.Bool.{cases_Bool, true≢false, and_from, eq-eqb}
use Rattle.std.proofs.lemmas.List.Elements.{All-contains}
use Rattle.kb_logic.specs.declared.elements.Elem.{Elem}
use Rattle.kb_logic.specs.declared.structures.Literal.{Literal}
use Rattle.kb_logic.specs.declared.structures.Structure.{Structure}
use Rattle.kb_logic.specs.declared.vocabularies.Symbol.{Symbol}
use Rattle.kb_logic.specs.Bases.{Base}
use Rattle.kb_logic.specs.InForce.{InForce, IsModelOf, HasNoModel, Forces, LeavesFalse, literal_with, both_literals}
use Rattle.kb_logic.specs.InForce.{literals_over}
use Rattle.kb_logic.specs.Answers.{AreShown, IsKnownIn, IsLeftOut}
use Rattle.kb_logic.specs.Lists.{IsSublist}
use Rattle.kb_logic.specs.KnownAtoms.{KnownAtoms, atoms_over}
use Rattle.kb_logic.specs.Models.{GroundAtom, HoldsIn, AtomHolds, IsAtomOver, atom_of}
use Rattle.kb_logic.specs.Structures.{EachWith}
use Rattle.kb_logic.proofs.AllAtoms.{atom_listed, listed_over}
use Rattle.kb_logic.proofs.Has.{Has, has_from, contains_from, has_get, flat_map_has, has_flat_map}
use Rattle.kb_logic.proofs.Members.{all_in, in_all, some_one, one_is_some}
use Rattle.kb_logic.proofs.Tables.{each_left, each_right, passes_filter, has_filter}
use Rattle.lit_core.specs.declared.literals.Lit.{Lit}
use Rattle.lit_core.specs.Literals.{literal_value, by_sign}
use Rattle.ground_core.specs.Problems.{ProblemState}
use Rattle.ground_core.specs.Meaning.{Satisfies, MakesTrue, RefutesAll}
use Rattle.partial_structures.specs.KnownAtoms.{value_at, same_atom, same_row, same_option, both_values, is_rival}
use Rattle.kb_logic.specs.Denotations.{denotation_of}
use Rattle.partial_structures.proofs.Sames.{atom_is, atom_itself, row_itself, same_element}
use Rattle.row_tries.specs.declared.truths.Truth.{Truth}
use Rattle.row_tries.specs.declared.truths.Truth.TheVariants.{Yes, No, Unknown}
use Rattle.term_values.specs.GroundBases.{GroundBase, structure_of}
use Rattle.term_values.specs.KnownBases.{IsGroundBase}
use Rattle.consequences.specs.Forced.{Forces as ForcesLit, IsFree}
use Rattle.atom_numbers.specs.Numbers.{HasNumber}
use Rattle.atom_numbers.specs.Unknown.{is_unknown, unknown_atoms}
use Rattle.ground_task.proofs.TaskFacts.{holds-true, true-holds, is-model, valued, fine as ground-base}
use Rattle.forced_literals.specs.OpenTasks.{IsOpenTaskOf}
use Rattle.forced_literals.specs.Picking.{DeniesBeside, IsSpared, ArePicked}
use Rattle.forced_literals.specs.Searches.{AreForcedOf, both_signs}
use Rattle.forced_literals.proofs.ListFacts.{sublist-trans, sublist-filtered, sublist-has, numbered-sublist, each-all}
use Rattle.forced_literals.proofs.ListFacts.{any-has, has-any}
use Rattle.forced_literals.proofs.NumberFacts.{literal-by, one-literal, same-literals, one-variable, both-each}
use Rattle.forced_literals.proofs.ValueFacts.{valued_with, value-over}

-- what is unknown is neither in the one list nor in the other
abbrev truth-by : Bool → Bool → Truth
truth-by t f = if t then Yes else (if f then No else Unknown)

none-known : (t f : Bool) → is_unknown (truth-by t f) ≡ true → (t ≡ true → ⊥) × (f ≡ true → ⊥)
none-known true f h = absurd (cc)
none-known false true h = absurd (cc)
none-known false false h = (λ e. true≢false (sym e), λ e. true≢false (sym e))

abbrev ByTruth : Bool → Bool → Type 0
ByTruth t f = (t ≡ true) ⊎ ((f ≡ true) ⊎ (is_unknown (truth-by t f) ≡ true))

by-truth : (t f : Bool) → ByTruth t f
by-truth true f = inl refl
by-truth false true = inr (inl refl)
by-truth false false = inr (inr refl)

module _ (k : KnownAtoms) (a : GroundAtom) where
  unknown-not-known : is_unknown (value_at k a) ≡ true → IsKnownIn k a → ⊥
  unknown-not-known h known =
      let none = none-known (list_any (same_atom a) k.true_atoms) (list_any (same_atom a) k.false_atoms) h in
      ⊎_elim
      (λ m. none.0 (one_is_some (same_atom a) k.true_atoms a m (atom_itself a)))
      (λ m. none.1 (one_is_some (same_atom a) k.false_atoms a m (atom_itself a)))
      known

  -- an atom is true by the data, or false, or unknown
  known-cases : Contains k.true_atoms a ⊎ (Contains k.false_atoms a ⊎ (is_unknown (value_at k a) ≡ true))
  known-cases = ⊎_elim
      (λ t. let x = some_one (same_atom a) k.true_atoms t in inl (subst (Contains k.true_atoms) (atom_is a x.0 x.2)
      x.1))
      (λ more. ⊎_elim
      (λ f. let x = some_one (same_atom a) k.false_atoms f in
      inr (inl (subst (Contains k.false_atoms) (atom_is a x.0 x.2) x.1)))
      (λ u. inr (inr u))
      more)
      (by-truth (list_any (same_atom a) k.true_atoms) (list_any (same_atom a) k.false_atoms))

not-itself : (c : Bool) → c ≡ not c → ⊥
not-itself true e = true≢false e
not-itself false e = true≢false (sym e)

-- both signs of an atom are of that atom
sign-of : (a : GroundAtom) (l : Literal) → Has (both_literals a) l → atom_of l ≡ a
sign-of a l (inl e) = ap atom_of (sym e)
sign-of a l (inr (inl e)) = ap atom_of (sym e)
sign-of a l (inr (inr e)) = absurd e

module _ (base : Base) (b : GroundBase) (p : ProblemState) (unknown : List Lit) (h : IsOpenTaskOf base b p unknown)
    (choices : List Literal) (lits : List Lit) (each : EachWith (HasNumber b) choices lits) where
  abbrev held : InForce
  held = record { choices = choices }

  fine : IsGroundBase b
  fine = ground-base base b p h.task

  -- each model is that of a valuation that is left
  valuation-of : (m : Structure) → IsModelOf base held m
      → (v : ℕ → Bool) × Satisfies p v × MakesTrue v lits × (structure_of b v ≡ m)
  valuation-of m under = valued base b p h.task choices lits each m under

  pub no-model : RefutesAll p lits → HasNoModel base held
  no-model refuted m under = let v = valuation-of m under in refuted v.0 v.1 v.2

  pub model-of : (v : ℕ → Bool) → Satisfies p v → MakesTrue v lits → IsModelOf base held (structure_of b v)
  model-of v s t = is-model base b p h.task choices lits each v s t

  pub forces-of : (l : Literal) (k : Lit) → HasNumber b l k → ForcesLit p lits k → Forces base held l
  forces-of l k n forced m under =
      let v = valuation-of m under in
      subst (λ (x : Structure). HoldsIn x l) v.3 (true-holds b fine v.0 l k n (forced v.0 v.1 v.2))

  pub free-false : (l : Literal) (k : Lit) → HasNumber b l k → (free : IsFree p lits k) → HoldsIn (structure_of b
      free.0) l
      → ⊥
  free-false l k n free holds = true≢false (sym (holds-true b fine free.0 l k n holds) ∙ free.3)

  free-of : (l : Literal) (k : Lit) → HasNumber b l k → IsFree p lits k → LeavesFalse base held l
  free-of l k n free = (
    structure_of b free.0,
    model-of free.0 free.1 free.2,
    free-false l k n free,
  )

  abbrev known : KnownAtoms
  known = base.known

  abbrev all-both : List Literal
  all-both = flat_map both_literals (unknown_atoms known)

  both : EachWith (HasNumber b) all-both (both_signs unknown)
  both = both-each b (unknown_atoms known) unknown h.unknown

  symbols-are : b.vocabulary.symbols ≡ base.vocabulary.symbols
  symbols-are = ap (λ (x : GroundBase). x.vocabulary.symbols) h.task.numbers

  domains-are : b.domains ≡ known.domains
  domains-are = ap (λ (x : GroundBase). x.domains) h.task.numbers

  over-known : (a : GroundAtom) → IsAtomOver b.vocabulary.symbols b.domains a → IsAtomOver known.symbols known.domains a
  over-known a over =
      subst (λ (ss : List Symbol). IsAtomOver ss known.domains a) (sym h.data_of.symbols)
      (subst (λ (ss : List Symbol). IsAtomOver ss known.domains a) symbols-are
      (subst (λ (ds : List (List Elem)). IsAtomOver b.vocabulary.symbols ds a) domains-are over))

  -- the literals of unknown atoms are asked, and no others
  pub asked : (l : Literal) → Has (atoms_over known.symbols known.domains) (atom_of l)
      → is_unknown (value_at known (atom_of l)) ≡ true → (k : Lit) × Has (both_signs unknown) k × HasNumber b l k
  asked l there u =
      let in-list : Has (unknown_atoms known) (atom_of l) =
      has_filter (λ a. is_unknown (value_at known a)) (atoms_over known.symbols known.domains) (atom_of l) there u in
      each_right (HasNumber b) all-both (both_signs unknown) l both
      (has_flat_map both_literals (unknown_atoms known) (atom_of l) l in-list (own-sign l.positive refl))
    where
      own-sign : (s : Bool) → l.positive ≡ s → Has (both_literals (atom_of l)) l
      own-sign true e = inl (ap (λ s. literal_with s (atom_of l)) (sym e))
      own-sign false e = inr (inl (ap (λ s. literal_with s (atom_of l)) (sym e)))

  is-asked : (l : Literal) (k : Lit) → HasNumber b l k → Has (both_signs unknown) k
      → is_unknown (value_at known (atom_of l)) ≡ true
  is-asked l k n m =
      let r = each_left (HasNumber b) all-both (both_signs unknown) k both m in
      let same : r.0 ≡ l = one-literal b r.0 l k r.2 n in
      let q = flat_map_has both_literals (unknown_atoms known) r.0 r.1 in
      let u : is_unknown (value_at known q.0) ≡ true =
      passes_filter (λ a. is_unknown (value_at known a)) (atoms_over known.symbols known.domains) q.0 q.1 in
      subst (λ a. is_unknown (value_at known a) ≡ true)
      (sym (ap atom_of (sym same) ∙ sign-of q.0 r.0 q.2)) u

  module _ (forced : List Lit) (found : AreForcedOf p lits (both_signs unknown) forced) (list : List Literal)
      (picked : ArePicked b lits forced forced list) where
    abbrev v : ℕ → Bool
    v = found.some.0

    abbrev m : Structure
    m = structure_of b v

    m-model : IsModelOf base held m
    m-model = model-of v found.some.1 found.some.2

    true-forced : (k : Lit) → Has forced k → ForcesLit p lits k
    true-forced k has = All-contains (ForcesLit p lits) forced k found.forced (contains_from forced k has)

    true-lit : (k : Lit) → Has lits k → literal_value v k ≡ true
    true-lit k has = All-contains (λ l. literal_value v l ≡ true) lits k found.some.2 (contains_from lits k has)

    -- true literals of one variable have one sign
    same-sign : (k j : Lit) → k.var.0 ≡ j.var.0 → literal_value v k ≡ true → literal_value v j ≡ true
        → k.positive ≡ j.positive
    same-sign k j e f g = at k.positive j.positive (f ∙ sym g ∙ ap (λ n. by_sign j.positive (v n)) (sym e))
      where
        at : (s t : Bool) → by_sign s (v k.var.0) ≡ by_sign t (v k.var.0) → s ≡ t
        at true true x = refl
        at true false x = absurd (not-itself (v k.var.0) x)
        at false true x = absurd (not-itself (v k.var.0) (sym x))
        at false false x = refl

    -- what is shown is not left out
    not-chosen : (l : Literal) (k : Lit) → HasNumber b l k → (IsSpared b lits forced k → ⊥) → Contains choices l → ⊥
    not-chosen l k n open-still at =
        let r = each_right (HasNumber b) choices lits l each (has_from choices l at) in
        open-still (inl (has-any (λ (c : Lit). c.var.0 ≡ k.var.0) lits r.0 r.1 (one-variable b fine l l r.0 k r.2 n
        refl)))

    module _ (l : Literal) (k : Lit) (n : HasNumber b l k) (asked-for : Has (both_signs unknown) k)
        (not-spared : IsSpared b lits forced k → ⊥) (x y : Elem) (negative : l.positive ≡ false)
        (valued : l.value ≡ Some y) (other : Forces base held (record l { positive = true; value = Some x })) where
      abbrev a : GroundAtom
      a = valued_with (atom_of l) x

      holds : AtomHolds m a
      holds = other m m-model

      over : IsAtomOver b.vocabulary.symbols b.domains a
      over = value-over b v (atom_of l) x (listed_over b.vocabulary.symbols b.domains (atom_of l)
          (has_get (atoms_over b.vocabulary.symbols b.domains) n.place (atom_of l) n.atom)) y valued holds

      l-unknown : is_unknown (value_at known (atom_of l)) ≡ true
      l-unknown = is-asked l k n asked-for

      l-over : IsAtomOver known.symbols known.domains (atom_of l)
      l-over = over-known (atom_of l) (listed_over b.vocabulary.symbols b.domains (atom_of l)
          (has_get (atoms_over b.vocabulary.symbols b.domains) n.place (atom_of l) n.atom))

      -- the data would have made the literal's atom known
      not-true : Contains known.true_atoms a → ⊥
      not-true at = elim (cases_Bool (same_option (atom_of l).value (option_map denotation_of a.value))) [
        | inl same ↦
            let e : y ≡ x = same_element y x (ap (λ (o : Option Elem). same_option o (Some (denotation_of x)))
            (sym valued) ∙ same) in
            let whole : a ≡ atom_of l = ap (valued_with (atom_of l)) (sym e) ∙ with-own e in
            unknown-not-known known (atom_of l) l-unknown (inl (subst (Contains known.true_atoms) whole at))
        | inr differs ↦ unknown-not-known known (atom_of l) l-unknown
            (inr (h.listed.rivals a (atom_of l) at l-over (rival differs)))
      ]
        where
          with-own : y ≡ x → valued_with (atom_of l) y ≡ atom_of l
          with-own e = ap (λ (o : Option Elem). record { symbol = l.symbol; args = l.args; value = o }) (sym valued)

          rival : same_option (atom_of l).value (option_map denotation_of a.value) ≡ false
              → is_rival a (atom_of l) ≡ true
          rival differs =
              and_from (l.symbol == l.symbol) (same_row l.args (map denotation_of l.args) && (both_values (Some x)
              l.value && not (same_option l.value (Some (denotation_of x))))) (eq-eqb l.symbol l.symbol refl)
              (and_from (same_row l.args (map denotation_of l.args)) (both_values (Some x) l.value
              && not (same_option l.value (Some (denotation_of x)))) (row_itself l.args)
              (and_from (both_values (Some x) l.value) (not (same_option l.value (Some (denotation_of x))))
              (ap (both_values (Some x)) valued) (ap not differs)))

      not-false : Contains known.false_atoms a → ⊥
      not-false at = All-by-recursion-at known.false_atoms at m-model.extends.false_atoms holds
        where
          All-by-recursion-at : (gs : List GroundAtom) → Contains gs a → AllByRecursion (λ c. AtomHolds m c → ⊥) gs
              → AtomHolds m a → ⊥
          All-by-recursion-at gs c all = all_in (λ d. AtomHolds m d → ⊥) gs all a c

      not-unknown : is_unknown (value_at known a) ≡ true → ⊥
      not-unknown u =
          let r = asked (literal_with true a) (atom_listed known.symbols known.domains a (over-known a over)) u in
          ⊎_elim
          (λ here. not-spared (inr (has-any (λ (j : Lit). DeniesBeside b j k) forced r.0 (has_from forced r.0 here)
          (record {
            affirmed = literal_with true a;
            denied = l;
            first = r.2;
            second = n;
            affirms = refl;
            denies = negative;
            alike = (refl, refl);
            value = x;
            valued = refl;
            other = y;
            other_valued = valued;
          }))))
          (λ free. free-false (literal_with true a) r.0 r.2 free
          (other (structure_of b free.0) (model-of free.0 free.1 free.2)))
          (All-contains (λ j. Contains forced j ⊎ IsFree p lits j) (both_signs unknown) r.0 found.others
          (contains_from (both_signs unknown) r.0 r.1))

      pub not-implied : ⊥
      not-implied = ⊎_elim not-true (λ more. ⊎_elim not-false not-unknown more) (known-cases known a)

    not-left-out : (l : Literal) (k : Lit) → Has picked.lits k → HasNumber b l k → IsLeftOut base held l → ⊥
    not-left-out l k has n out =
        let in-forced : Has forced k = sublist-has picked.lits forced k picked.order has in
        let asked-for : Has (both_signs unknown) k = sublist-has forced (both_signs unknown) k found.order in-forced in
        let not-spared : IsSpared b lits forced k → ⊥ =
        All-contains (λ j. IsSpared b lits forced j → ⊥) picked.lits k picked.kept (contains_from picked.lits k has) in
        ⊎_elim
        (λ is. unknown-not-known known (atom_of l) (is-asked l k n asked-for) is)
        (λ more. ⊎_elim
        (λ at. not-chosen l k n not-spared at)
        (λ is. not-implied l k n asked-for not-spared is.0 is.1 is.2 is.3 is.4)
        more)
        out

    abbrev Told : Literal → Type 0
    Told l = Contains list l ⊎ (IsLeftOut base held l ⊎ LeavesFalse base held l)

    -- what is spared is left out
    spared-out : (l : Literal) (k : Lit) → HasNumber b l k → Has forced k → IsSpared b lits forced k
        → IsLeftOut base held l
    spared-out l k n has (inl chosen) =
        let c = any-has (λ (c : Lit). c.var.0 ≡ k.var.0) lits chosen in
        let r = each_left (HasNumber b) choices lits c.0 each c.1 in
        let same : r.0 ≡ l = same-literals b r.0 l c.0 k r.2 n c.2
        (same-sign c.0 k c.2 (true-lit c.0 c.1) (true-forced k has v found.some.1 found.some.2)) in
        inr (inl (subst (Contains choices) same (contains_from choices r.0 r.1)))
    spared-out l k n has (inr beside) =
        let j = any-has (λ (j : Lit). DeniesBeside b j k) forced beside in
        let d = j.2 in
        let same : d.denied ≡ l = one-literal b d.denied l k d.second n in
        let whole : d.affirmed ≡ record l { positive = true; value = Some d.value } =
        literal-by d.affirmed (record l { positive = true; value = Some d.value }) d.affirms
        (d.alike.0 ∙ ap (λ (x : Literal). x.symbol) same) (d.alike.1 ∙ ap (λ (x : Literal). x.args) same) d.valued in
        inr (inr (
          d.value,
          d.other,
          sym (ap (λ (x : Literal). x.positive) same) ∙ d.denies,
          sym (ap (λ (x : Literal). x.value) same) ∙ d.other_valued,
          subst (Forces base held) whole (forces-of d.affirmed j.0 d.first (true-forced j.0 j.1)),
        ))

    told-unknown : (l : Literal) (k : Lit) → Has (both_signs unknown) k → HasNumber b l k → Told l
    told-unknown l k has n = ⊎_elim
        (λ here. told-forced (has_from forced k here))
        (λ free. inr (inr (free-of l k n free)))
        (All-contains (λ j. Contains forced j ⊎ IsFree p lits j) (both_signs unknown) k found.others
        (contains_from (both_signs unknown) k has))
      where
        told-forced : Has forced k → Told l
        told-forced in-forced = ⊎_elim
            (λ here. let r = each_left (HasNumber b) list picked.lits k picked.numbers (has_from picked.lits k here) in
            inl (subst (Contains list) (one-literal b r.0 l k r.2 n) (contains_from list r.0 r.1)))
            (λ spared. inr (inl (spared-out l k n in-forced spared)))
            (All-contains (λ j. Contains picked.lits j ⊎ IsSpared b lits forced j) forced k picked.others
            (contains_from forced k in-forced))

    told : (l : Literal) → Has (atoms_over known.symbols known.domains) (atom_of l) → Told l
    told l there = ⊎_elim
        (λ t. inr (inl (inl (inl t))))
        (λ more. ⊎_elim
        (λ f. inr (inl (inl (inr f))))
        (λ u. let r = asked l there u in told-unknown l r.0 r.1 r.2)
        more)
        (known-cases known (atom_of l))

    abbrev all-literals : List GroundAtom → List Literal
    all-literals gs = flat_map both_literals gs

    symbols-same : atoms_over known.symbols known.domains ≡ atoms_over base.vocabulary.symbols known.domains
    symbols-same = ap (λ (ss : List Symbol). atoms_over ss known.domains) h.data_of.symbols

    in-order : IsSublist list (literals_over base)
    in-order =
        let among : IsSublist picked.lits (both_signs unknown) =
        sublist-trans picked.lits forced (both_signs unknown) picked.order found.order in
        let first : IsSublist list all-both =
        numbered-sublist (HasNumber b) (one-literal b) all-both (both_signs unknown) list picked.lits both among
        picked.numbers in
        subst (λ (gs : List GroundAtom). IsSublist list (all-literals gs)) symbols-same
        (sublist-trans list all-both (all-literals (atoms_over known.symbols known.domains)) first
        (sublist-filtered both_literals (λ a. is_unknown (value_at known a)) (atoms_over known.symbols known.domains)))

    pub shown : AreShown base held list
    shown = record {
      some = (m, m-model);
      order = in-order;
      forced = each-all (HasNumber b) (Forces base held) list picked.lits picked.numbers
          (λ l k has n. forces-of l k n (true-forced k (sublist-has picked.lits forced k picked.order has)));
      kept = each-all (HasNumber b) (λ l. IsLeftOut base held l → ⊥) list picked.lits picked.numbers
          (λ l k has n. not-left-out l k has n);
      others = in_all Told (literals_over base) (λ l at.
          let q = flat_map_has both_literals (atoms_over base.vocabulary.symbols known.domains) l
          (has_from (literals_over base) l at) in
          told l (subst (λ (gs : List GroundAtom). Has gs (atom_of l)) (sym symbols-same)
          (subst (Has (atoms_over base.vocabulary.symbols known.domains)) (sym (sign-of q.0 l q.2)) q.1)));
    }
