-- Steps one after another.
use Rattle.std.proofs.Common.{◌≡◌, ◌<◌, ℕ, Bool, true, false, ◌||◌, Result, Ok, Err, refl, sym, ◌∙◌, subst, arith}
use Rattle.std.proofs.lemmas.Bool.{true≢false}
use Rattle.kb_logic.specs.KnownAtoms.{KnownAtoms}
use Rattle.partial_structures.specs.Consistency.{IsConsistent, IsListed, KnowsMore}
use Rattle.quantifier_bounds.specs.Steps.{unknown_atoms, IsSound, IsStep, Narrows}
use Rattle.quantifier_bounds.specs.declared.fault.BoundFault.{BoundFault}
use Rattle.quantifier_bounds.specs.declared.fault.BoundFault.TheVariants as fault

pub more_twice : (k j l : KnownAtoms) → KnowsMore k j → KnowsMore j l → KnowsMore k l
more_twice k j l a b = record {
  symbols = b.symbols ∙ a.symbols;
  domains = b.domains ∙ a.domains;
  true_atoms = λ x at. b.true_atoms x (a.true_atoms x at);
  false_atoms = λ x at. b.false_atoms x (a.false_atoms x at);
}

pub neither : (a b : Bool) → (a || b) ≡ false → (a ≡ false) × (b ≡ false)
neither true b h = absurd (true≢false h)
neither false b h = (refl, h)

-- the same for all that knows the old
abbrev pub Follow : KnownAtoms → (KnownAtoms → Type 0) → (KnownAtoms → Type 0) → Type 0
Follow old Q P = (q : KnownAtoms) → IsConsistent q → IsListed q → KnowsMore old q → Q q → P q

pub step_by : (old new : KnownAtoms) (c : Bool) (P Q : KnownAtoms → Type 0) → Follow old Q P
    → (new ≡ old → P new → Q new)
    → IsStep old new c P → IsStep old new c Q
step_by old new c P Q down up s = record {
  more = s.more;
  sound = λ q d l m h. s.sound q d l m (down q d l m h);
  same = s.same;
  holds = λ e. up (s.same e) (s.holds e);
  fewer = s.fewer;
}

-- a fault is one of what asks for more
pub fault_by : (old new other : KnownAtoms) (e : BoundFault) (P Q : KnownAtoms → Type 0) → Follow old Q P
    → Narrows old new (Err e) P → Narrows old other (Err e) Q
fault_by old new other fault.Contradiction P Q down h = λ q c l m p. h q c l m (down q c l m p)
fault_by old new other fault.Memory P Q down h = tt

pub narrows_by : (old new : KnownAtoms) (r : Result Bool BoundFault) (P Q : KnownAtoms → Type 0) → Follow old Q P
    → (new ≡ old → P new → Q new) → Narrows old new r P → Narrows old new r Q
narrows_by old new (Ok c) P Q down up h = step_by old new c P Q down up h
narrows_by old new (Err e) P Q down up h = fault_by old new new e P Q down h

-- ---- a loop

-- so far: what was known first, and what is now; what is left stands for the whole
pub record SoFar (first now : KnownAtoms) (changed : Bool) (Whole Rest : KnownAtoms → Type 0) : Type 0 where
  pub more : KnowsMore first now
  pub sound : IsSound first now Whole
  pub left : Follow first Whole Rest
  pub same : changed ≡ false → now ≡ first
  pub holds : changed ≡ false → Rest now → Whole now
  pub fewer : changed ≡ true → unknown_atoms now < unknown_atoms first

pub start : (k : KnownAtoms) (W : KnownAtoms → Type 0) → SoFar k k false W W
start k W = record {
  more = record { symbols = refl; domains = refl; true_atoms = λ a at. at; false_atoms = λ a at. at };
  sound = λ q c l m h. m;
  left = λ q c l m h. h;
  same = λ e. refl;
  holds = λ e h. h;
  fewer = λ e. absurd (true≢false (sym e));
}

less_after : (a b : Bool) (first now then' : KnownAtoms) → (a || b) ≡ true → (a ≡ false → now ≡ first)
    → (a ≡ true → unknown_atoms now < unknown_atoms first) → (b ≡ false → then' ≡ now)
    → (b ≡ true → unknown_atoms then' < unknown_atoms now) → unknown_atoms then' < unknown_atoms first
less_after true true first now then' h s f t g = omega (arith, f refl, g refl)
less_after true false first now then' h s f t g =
    subst (λ k. unknown_atoms k < unknown_atoms first) (sym (t refl)) (f refl)
less_after false true first now then' h s f t g =
    subst (λ k. unknown_atoms then' < unknown_atoms k) (s refl) (g refl)
less_after false false first now then' h s f t g = absurd (true≢false (sym h))

module _ (first now : KnownAtoms) (changed : Bool) (Whole Rest : KnownAtoms → Type 0)
    (s : SoFar first now changed Whole Rest) where
  -- what is left asks for P and the next
  pub turn : (then' : KnownAtoms) (one : Bool) (P Next : KnownAtoms → Type 0) → Follow now Rest P
      → Follow now Rest Next → (now ≡ first → then' ≡ now → P then' → Next then' → Rest then')
      → IsStep now then' one P → SoFar first then' (changed || one) Whole Next
  turn then' one P Next here rest joins d = record {
    more = more_twice first now then' s.more d.more;
    sound = λ q c l m h. let u = s.sound q c l m h in d.sound q c l u (here q c l u (s.left q c l m h));
    left = λ q c l m h. rest q c l (s.sound q c l m h) (s.left q c l m h);
    same = λ e. let n = neither changed one e in d.same n.1 ∙ s.same n.0;
    holds = λ e h.
        let n = neither changed one e in
        let stays : then' ≡ now = d.same n.1 in
        subst Whole (sym stays) (s.holds n.0 (subst Rest stays (joins (s.same n.0) stays (d.holds n.1) h)));
    fewer = λ e. less_after changed one first now then' e s.same s.fewer d.same d.fewer;
  }

  pub turn_fault : (then' other : KnownAtoms) (e : BoundFault) (P : KnownAtoms → Type 0) → Follow now Rest P
      → Narrows now then' (Err e) P → Narrows first other (Err e) Whole
  turn_fault then' other fault.Contradiction P here h =
      λ q c l m w. let u = s.sound q c l m w in h q c l u (here q c l u (s.left q c l m w))
  turn_fault then' other fault.Memory P here h = tt

  pub done : Rest now → IsStep first now changed Whole
  done h = record {
    more = s.more;
    sound = s.sound;
    same = s.same;
    holds = λ e. s.holds e h;
    fewer = s.fewer;
  }

-- ---- one step, and then another

module _ (first now : KnownAtoms) (changed : Bool) (Whole P Q : KnownAtoms → Type 0) (here : Follow first Whole P)
    (later : Follow now Whole Q) (s : IsStep first now changed P) where
  pub two_steps : (then' : KnownAtoms) (one : Bool) → (now ≡ first → P now → Q now → Whole now)
      → IsStep now then' one Q → IsStep first then' (changed || one) Whole
  two_steps then' one joins d = record {
    more = more_twice first now then' s.more d.more;
    sound = λ q c l m w. let u = s.sound q c l m (here q c l m w) in d.sound q c l u (later q c l u w);
    same = λ e. let n = neither changed one e in d.same n.1 ∙ s.same n.0;
    holds = λ e.
        let n = neither changed one e in
        let stays : then' ≡ now = d.same n.1 in
        subst Whole (sym stays) (joins (s.same n.0) (s.holds n.0) (subst Q stays (d.holds n.1)));
    fewer = λ e. less_after changed one first now then' e s.same s.fewer d.same d.fewer;
  }

  pub two_fault : (then' other : KnownAtoms) (e : BoundFault) → Narrows now then' (Err e) Q
      → Narrows first other (Err e) Whole
  two_fault then' other fault.Contradiction h =
      λ q c l m w. let u = s.sound q c l m (here q c l m w) in h q c l u (later q c l u w)
  two_fault then' other fault.Memory h = tt

never_less : (n : ℕ) → n < n → ⊥
never_less n h = omega (arith, h)

same_is_none : (k : KnownAtoms) (c : Bool) (P : KnownAtoms → Type 0) → IsStep k k c P → c ≡ false
same_is_none k true P s = absurd (never_less (unknown_atoms k) (s.fewer refl))
same_is_none k false P s = refl

-- a test that changes nothing, and then a step
pub after_test : (k new : KnownAtoms) (c : Bool) (r : Result Bool BoundFault) (P Q : KnownAtoms → Type 0)
    → IsStep k k c P → Narrows k new r Q → Narrows k new r (λ q. P q × Q q)
after_test k new c r P Q t h =
    narrows_by k new r Q (λ q. P q × Q q) (λ q d l m i. i.1)
    (λ same i. (subst P (sym same) (t.holds (same_is_none k c P t)), i)) h
