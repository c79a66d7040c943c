-- Instances to which no row of a known table leads.
use Rattle.std.proofs.Common.{◌≡◌, ℕ, zero, suc, ◌+◌, ◌-◌, ◌<◌, ◌≤◌, Bool, true, List, [], ◌++◌, length}
use Rattle.std.proofs.Common.{get_or, drop, refl, sym, subst, arith, append_assoc}
use Rattle.std.specs.List.{AllByRecursion}
use Rattle.std.proofs.lemmas.List.{at_drop_more}
use Rattle.kb_logic.specs.declared.elements.Elem.{Elem}
use Rattle.kb_logic.specs.declared.vocabularies.Bound.{Bound}
use Rattle.kb_logic.specs.Trees.{FormulaTree}
use Rattle.kb_logic.specs.KnownAtoms.{KnownAtoms}
use Rattle.partial_structures.specs.Consistency.{IsConsistent, IsListed, KnowsMore}
use Rattle.certain_truth.proofs.Monotony.{certainty_is_monotone}
use Rattle.bound_laws.specs.Closures.{Obeys}
use Rattle.bound_laws.proofs.Adding.{certain_adds_nothing}
use Rattle.quantifier_bounds.proofs.Lasts.{all_also}
use Rattle.quantifier_bounds.proofs.Steps.{more_twice}
use Rattle.row_ranges.specs.Leads.{Leads}
use Rattle.row_ranges.proofs.Passing.{leads-more}
use Rattle.known_guards.specs.Guards.{IsRuledOut}
use Rattle.refinement.specs.Following.{IsSettled}
use Rattle.refinement.proofs.Follows.{SoFar}
use Rattle.refinement.proofs.Parts.{Block, Blocks}

-- what is ruled out is settled
pub ruled_settled : (k : KnownAtoms) (f : FormulaTree) (e : List Elem) → IsRuledOut k true f e → IsSettled k f e
ruled_settled k f e out = λ q c l m. certain_adds_nothing q c l f e true (((certainty_is_monotone k q c m).0 f e).0 out)

module _ (f : FormulaTree) (domains : List (List Elem)) (keys : List ℕ) (key : ℕ) (steps : List ℕ) (bs : List Bound)
    (e : List Elem) where
  pub ruled_leads : (k : KnownAtoms) → Leads (IsRuledOut k true f) domains keys key steps bs e
      → Leads (IsSettled k f) domains keys key steps bs e
  ruled_leads k led = leads-more (IsRuledOut k true f) (IsSettled k f) domains keys key steps bs e
      (λ a out. ruled_settled k f a out) led

  -- and stays so where more is known
  pub leads_later : (k j : KnownAtoms) → KnowsMore k j → Leads (IsSettled k f) domains keys key steps bs e
      → Leads (IsSettled j f) domains keys key steps bs e
  leads_later k j more led = leads-more (IsSettled k f) (IsSettled j f) domains keys key steps bs e
      (λ a s q c l m. s q c l (more_twice k j q more m)) led

pub itself_more : (k : KnownAtoms) → KnowsMore k k
itself_more k = record { symbols = refl; domains = refl; true_atoms = λ a at. at; false_atoms = λ a at. at }

module _ (f : FormulaTree) (e : List Elem) (rest cs : List (List Elem)) (k : KnownAtoms) (c : IsConsistent k)
    (l : IsListed k) where
  -- those that begin with this are settled
  abbrev Settled : ℕ → Type 0
  Settled i = AllByRecursion (λ a. IsSettled k f ((e ++ get_or cs i []) ++ a)) rest

  settled_block : (i : ℕ) → Settled i → Block f e rest k (get_or cs i [])
  settled_block i h = all_also (λ a s. subst (λ u. Obeys k true f u) (append_assoc e (get_or cs i []) a)
      (s k c l (itself_more k))) rest h

  passed_many : (n i : ℕ) → i + n ≤ length cs → ((m : ℕ) → i ≤ m → m < i + n → Settled m)
      → Blocks f e rest (drop (i + n) cs) k → Blocks f e rest (drop i cs) k
  passed_many zero i h all b =
      let same : i + 0 ≡ i = omega arith in subst (λ m. Blocks f e rest (drop m cs) k) same b
  passed_many (suc n) i h all b =
      let below : i < length cs = omega (arith, h) in
      let sum : i + suc n ≡ (i + 1) + n = omega arith in
      subst (λ ys. Blocks f e rest ys k) (sym (at_drop_more (λ us. us) cs i [] below)) (
        settled_block i (all i (omega arith) (omega arith)),
        passed_many n (i + 1) (omega (arith, h)) (λ m low high. all m (omega (arith, low)) (omega (arith, high)))
            (subst (λ m. Blocks f e rest (drop m cs) k) sum b),
      )

  pub passed_over : (i j : ℕ) → i ≤ j → j ≤ length cs
      → ((m : ℕ) → i ≤ m → m < j → AllByRecursion (λ a. IsSettled k f ((e ++ get_or cs m []) ++ a)) rest)
      → Blocks f e rest (drop j cs) k → Blocks f e rest (drop i cs) k
  passed_over i j low high all b =
      let sum : i + (j - i) ≡ j = omega (arith, low) in
      passed_many (j - i) i (omega (arith, sum, high)) (λ m a z. all m a (omega (arith, sum, z)))
      (subst (λ m. Blocks f e rest (drop m cs) k) (sym sum) b)

-- less is left
pub so_far_by : (W : KnownAtoms → Type 0) (first now : KnownAtoms) (changed : Bool)
    (Whole Rest Next : KnownAtoms → Type 0) → (Next now → Rest now) → SoFar W first now changed Whole Rest
    → SoFar W first now changed Whole Next
so_far_by W first now changed Whole Rest Next up s = record {
  more = s.more;
  sound = s.sound;
  same = s.same;
  holds = λ n h. s.holds n (up h);
  fewer = s.fewer;
}
