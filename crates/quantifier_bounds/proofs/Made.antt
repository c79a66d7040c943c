-- An atom that becomes known.
use Rattle.std.proofs.Common.{◌≡◌, ◌<◌, ◌≤◌, List, [], ◌∷◌, filter, length, Bool, true, false, not, ◌||◌, if◌then◌else◌}
use Rattle.std.proofs.Common.{refl, sym, ap, ◌∙◌, subst, arith, inl, inr, Result, Ok, Err}
use Rattle.std.specs.List.{Contains, list_any}
use Rattle.std.proofs.lemmas.Bool.{true≢false, cases_Bool}
use Rattle.kb_logic.specs.Models.{GroundAtom, IsAtomOver}
use Rattle.kb_logic.specs.KnownAtoms.{KnownAtoms, atoms_over}
use Rattle.kb_logic.proofs.AllAtoms.{atom_listed}
use Rattle.kb_logic.proofs.Has.{Has, contains_from}
use Rattle.kb_logic.proofs.Members.{all_in, one_is_some}
use Rattle.kb_logic.proofs.Tables.{has_filter}
use Rattle.partial_structures.specs.KnownAtoms.{value_at, same_atom, is_rival, with_true, with_false}
use Rattle.partial_structures.specs.Consistency.{IsConsistent, IsListed, KnowsMore}
use Rattle.partial_structures.specs.declared.truths.Truth.{Truth}
use Rattle.partial_structures.specs.declared.truths.Truth.TheVariants.{Yes, No, Unknown}
use Rattle.partial_structures.proofs.Sames.{atom_itself}
use Rattle.certain_truth.specs.Certainty.{truth_if}
use Rattle.bound_laws.proofs.Facts.{listed_in, is_true, is_false, facts_stay_within}
use Rattle.quantifier_bounds.specs.Steps.{is_unknown, unknown_atoms, IsImpossible, IsStep, Narrows, IsConstant}
use Rattle.quantifier_bounds.specs.declared.fault.BoundFault.{BoundFault}
use Rattle.quantifier_bounds.specs.declared.fault.BoundFault.TheVariants as fault

pub itself : (k : KnownAtoms) → KnowsMore k k
itself k = record { symbols = refl; domains = refl; true_atoms = λ a at. at; false_atoms = λ a at. at }

-- ---- known atoms stay known

true_again : (q : KnownAtoms) (a : GroundAtom) → Contains q.true_atoms a → value_at q a ≡ Yes
true_again q a h = ap (λ b. if b then Yes else (if list_any (same_atom a) q.false_atoms then No else Unknown))
    (one_is_some (same_atom a) q.true_atoms a h (atom_itself a))

false_row : (q : KnownAtoms) (a : GroundAtom) → Contains q.false_atoms a → list_any (same_atom a) q.true_atoms ≡ false
    → value_at q a ≡ No
false_row q a h e = ap (λ b. if b then Yes else (if list_any (same_atom a) q.false_atoms then No else Unknown)) e
    ∙ ap (λ b. if b then No else Unknown) (one_is_some (same_atom a) q.false_atoms a h (atom_itself a))

false_again : (q : KnownAtoms) → IsConsistent q → (a : GroundAtom) → Contains q.false_atoms a → value_at q a ≡ No
false_again q c a h = elim (cases_Bool (list_any (same_atom a) q.true_atoms)) [
  | inl e ↦ absurd (c.apart a (listed_in q.true_atoms a e) h)
  | inr e ↦ false_row q a h e
]

false_known : (q : KnownAtoms) (a : GroundAtom) → Contains q.false_atoms a → is_unknown (value_at q a) ≡ false
false_known q a h = elim (cases_Bool (list_any (same_atom a) q.true_atoms)) [
  | inl e ↦ ap is_unknown (true_again q a (listed_in q.true_atoms a e))
  | inr e ↦ ap is_unknown (false_row q a h e)
]

module _ (k q : KnownAtoms) (c : IsConsistent q) (more : KnowsMore k q) (a : GroundAtom) where
  pub yes_stays : value_at k a ≡ Yes → value_at q a ≡ Yes
  yes_stays h = true_again q a (more.true_atoms a (is_true k a h))

  pub no_stays : value_at k a ≡ No → value_at q a ≡ No
  no_stays h = false_again q c a (more.false_atoms a (is_false k a h))

-- ---- fewer are unknown

was_unknown : (k j : KnownAtoms) → KnowsMore k j → (b : GroundAtom) → is_unknown (value_at j b) ≡ true
    → is_unknown (value_at k b) ≡ true
was_unknown k j more b h = by (value_at k b) refl
  where
    by : (t : Truth) → value_at k b ≡ t → is_unknown t ≡ true
    by Yes e = absurd (true≢false (sym h ∙ ap is_unknown (true_again j b (more.true_atoms b (is_true k b e)))))
    by No e = absurd (true≢false (sym h ∙ false_known j b (more.false_atoms b (is_false k b e))))
    by Unknown e = refl

module _ {X : Type 0} (p q : X → Bool) (within : (x : X) → q x ≡ true → p x ≡ true) where
  one_more : (x : X) (ys zs : List X) (b c : Bool) → (b ≡ true → c ≡ true) → length ys ≤ length zs
      → length (if b then x ∷ ys else ys) ≤ length (if c then x ∷ zs else zs)
  one_more x ys zs true true h le = omega (arith, le)
  one_more x ys zs true false h le = absurd (true≢false (sym (h refl)))
  one_more x ys zs false true h le = omega (arith, le)
  one_more x ys zs false false h le = le

  no_more : (xs : List X) → length (filter q xs) ≤ length (filter p xs)
  no_more [] = omega arith
  no_more (x ∷ xs) = one_more x (filter q xs) (filter p xs) (q x) (p x) (within x) (no_more xs)

  less_here : (x : X) (ys zs : List X) (b c : Bool) → b ≡ false → c ≡ true → length ys ≤ length zs
      → length (if b then x ∷ ys else ys) < length (if c then x ∷ zs else zs)
  less_here x ys zs true c h i le = absurd (true≢false h)
  less_here x ys zs false false h i le = absurd (true≢false (sym i))
  less_here x ys zs false true h i le = omega (arith, le)

  less_later : (x : X) (ys zs : List X) (b c : Bool) → (b ≡ true → c ≡ true) → length ys < length zs
      → length (if b then x ∷ ys else ys) < length (if c then x ∷ zs else zs)
  less_later x ys zs true true h lt = omega (arith, lt)
  less_later x ys zs true false h lt = absurd (true≢false (sym (h refl)))
  less_later x ys zs false true h lt = omega (arith, lt)
  less_later x ys zs false false h lt = lt

  fewer : (xs : List X) (a : X) → Has xs a → p a ≡ true → q a ≡ false → length (filter q xs) < length (filter p xs)
  fewer [] a m h i = absurd m
  fewer (x ∷ xs) a (inl e) h i = less_here x (filter q xs) (filter p xs) (q x) (p x) (ap q e ∙ i) (ap p e ∙ h)
      (no_more xs)
  fewer (x ∷ xs) a (inr m) h i = less_later x (filter q xs) (filter p xs) (q x) (p x) (within x) (fewer xs a m h i)

fewer_unknown : (k j : KnownAtoms) → KnowsMore k j → (a : GroundAtom) → IsAtomOver k.symbols k.domains a
    → value_at k a ≡ Unknown → is_unknown (value_at j a) ≡ false → unknown_atoms j < unknown_atoms k
fewer_unknown k j more a over h i =
    let atoms : atoms_over j.symbols j.domains ≡ atoms_over k.symbols k.domains =
    ap (λ s. atoms_over s j.domains) more.symbols ∙ ap (atoms_over k.symbols) more.domains in
    subst (λ xs. length (filter (λ b. is_unknown (value_at j b)) xs) < unknown_atoms k) (sym atoms)
    (fewer (λ b. is_unknown (value_at k b)) (λ b. is_unknown (value_at j b)) (was_unknown k j more)
    (atoms_over k.symbols k.domains) a (atom_listed k.symbols k.domains a over) (ap is_unknown h) i)

-- ---- one atom more

or_second : (a b : Bool) → b ≡ true → (a || b) ≡ true
or_second true b h = refl
or_second false b h = h

or_first : (a b : Bool) → a ≡ true → (a || b) ≡ true
or_first true b h = refl
or_first false b h = absurd (true≢false (sym h))

module _ (k : KnownAtoms) (c : IsConsistent k) (l : IsListed k) (a : GroundAtom)
    (over : IsAtomOver k.symbols k.domains a) where
  kept : (test : GroundAtom → Bool) (xs : List GroundAtom) (b : GroundAtom) → Contains xs b
      → IsAtomOver k.symbols k.domains b
      → Contains (filter (λ d. test d || list_any (same_atom d) xs) (atoms_over k.symbols k.domains)) b
  kept test xs b at over' =
      let T = λ (d : GroundAtom). test d || list_any (same_atom d) xs in
      contains_from (filter T (atoms_over k.symbols k.domains)) b
      (has_filter T (atoms_over k.symbols k.domains) b (atom_listed k.symbols k.domains b over')
      (or_second (test b) (list_any (same_atom b) xs) (one_is_some (same_atom b) xs b at (atom_itself b))))

  added : (xs : List GroundAtom)
      → Contains (filter (λ d. same_atom a d || list_any (same_atom d) xs) (atoms_over k.symbols k.domains)) a
  added xs =
      let T = λ (d : GroundAtom). same_atom a d || list_any (same_atom d) xs in
      contains_from (filter T (atoms_over k.symbols k.domains)) a
      (has_filter T (atoms_over k.symbols k.domains) a (atom_listed k.symbols k.domains a over)
      (or_first (same_atom a a) (list_any (same_atom a) xs) (atom_itself a)))

  more_true : KnowsMore k (with_true k a)
  more_true = record {
    symbols = refl;
    domains = refl;
    true_atoms = λ b at. kept (same_atom a) k.true_atoms b at (all_in _ k.true_atoms c.over b at);
    false_atoms = λ b at. kept (is_rival a) k.false_atoms b at (all_in _ k.false_atoms l.false_over b at);
  }

  more_false : KnowsMore k (with_false k a)
  more_false = record {
    symbols = refl;
    domains = refl;
    true_atoms = λ b at. at;
    false_atoms = λ b at. kept (same_atom a) k.false_atoms b at (all_in _ k.false_atoms l.false_over b at);
  }

  pub made_true : value_at k a ≡ Unknown → IsStep k (with_true k a) true (λ q. value_at q a ≡ truth_if true)
  made_true h = record {
    more = more_true;
    sound = λ q d m u e. (facts_stay_within k q a m u).0 e;
    same = λ e. absurd (true≢false e);
    holds = λ e. absurd (true≢false e);
    fewer = λ e. fewer_unknown k (with_true k a) more_true a over h
        (ap is_unknown (true_again (with_true k a) a (added k.true_atoms)));
  }

  pub made_false : value_at k a ≡ Unknown → IsStep k (with_false k a) true (λ q. value_at q a ≡ truth_if false)
  made_false h = record {
    more = more_false;
    sound = λ q d m u e. (facts_stay_within k q a m u).1 e;
    same = λ e. absurd (true≢false e);
    holds = λ e. absurd (true≢false e);
    fewer = λ e. fewer_unknown k (with_false k a) more_false a over h
        (false_known (with_false k a) a (added k.false_atoms));
  }

-- ---- nothing changes

pub nothing : (k : KnownAtoms) (P : KnownAtoms → Type 0) → P k → IsStep k k false P
nothing k P h = record {
  more = itself k;
  sound = λ q c l m p. m;
  same = λ e. refl;
  holds = λ e. h;
  fewer = λ e. absurd (true≢false (sym e));
}

pub constant : (k : KnownAtoms) (holds : Bool) (r : Result Bool BoundFault) (P : KnownAtoms → Type 0)
    → IsConstant holds r → (holds ≡ true → P k) → (holds ≡ false → IsImpossible k P) → Narrows k k r P
constant k holds (Ok changed) P h p n = subst (λ b. IsStep k k b P) (sym h.0) (nothing k P (p h.1))
constant k holds (Err fault.Contradiction) P h p n = n h
constant k holds (Err fault.Memory) P h p n = tt

pub settled_yes : (k : KnownAtoms) (a : GroundAtom) (v : Bool) (r : Result Bool BoundFault) → value_at k a ≡ Yes
    → IsConstant v r → Narrows k k r (λ q. value_at q a ≡ truth_if v)
settled_yes k a v r h i = constant k v r (λ q. value_at q a ≡ truth_if v) i
    (λ e. h ∙ ap truth_if (sym e))
    (λ e q c l m p. differ (value_at q a) (yes_stays k q c m a h) (p ∙ ap truth_if e))
  where
    differ : (t : Truth) → t ≡ Yes → t ≡ No → ⊥
    differ t a b = cc

pub settled_no : (k : KnownAtoms) (a : GroundAtom) (v : Bool) (r : Result Bool BoundFault) → value_at k a ≡ No
    → IsConstant (not v) r → Narrows k k r (λ q. value_at q a ≡ truth_if v)
settled_no k a true r h i = constant k false r (λ q. value_at q a ≡ Yes) i
    (λ e. absurd (true≢false (sym e))) (λ e q c l m p. differ (value_at q a) (no_stays k q c m a h) p)
  where
    differ : (t : Truth) → t ≡ No → t ≡ Yes → ⊥
    differ t a b = cc
settled_no k a false r h i = constant k true r (λ q. value_at q a ≡ No) i (λ e. h) (λ e. absurd (true≢false e))
