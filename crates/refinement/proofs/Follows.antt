-- What was followed, and steps one after another.
use Rattle.std.proofs.Common.{◌≡◌, ◌<◌, ◌≤◌, Bool, true, false, ◌||◌, Result, Ok, Err, refl, sym, ◌∙◌, subst, arith}
use Rattle.std.proofs.lemmas.Bool.{true≢false}
use Rattle.kb_logic.specs.KnownAtoms.{KnownAtoms}
use Rattle.partial_structures.specs.Consistency.{KnowsMore}
use Rattle.quantifier_bounds.specs.Steps.{unknown_atoms, IsSound, Narrows}
use Rattle.quantifier_bounds.specs.declared.fault.BoundFault.{BoundFault}
use Rattle.quantifier_bounds.specs.declared.fault.BoundFault.TheVariants as fault
use Rattle.quantifier_bounds.proofs.Steps.{more_twice, neither}
use Rattle.refinement.specs.Following.{IsFollowing, WasFollowed, IsStepWithin, NarrowsWithin}

-- ---- what was followed

module _ (W : KnownAtoms → Type 0) where
  pub stood : (k : KnownAtoms) → IsFollowing k k W
  stood k = record {
    more = record { symbols = refl; domains = refl; true_atoms = λ a at. at; false_atoms = λ a at. at };
    sound = λ q c l m w. m;
    fewer = omega arith;
  }

  pub followed : (k j l : KnownAtoms) → IsFollowing k j W → IsFollowing j l W → IsFollowing k l W
  followed k j l a b = record {
    more = more_twice k j l a.more b.more;
    sound = λ q c i m w. b.sound q c i (a.sound q c i m w) w;
    fewer = omega (arith, a.fewer, b.fewer);
  }

  pub followed_fault : (X Y : Type 0) (k j l other : KnownAtoms) (e : BoundFault) → IsFollowing k j W
      → WasFollowed {X = X} j l (Err e) W → WasFollowed {X = Y} k other (Err e) W
  followed_fault X Y k j l other fault.Contradiction a h = λ q c i m w. h q c i (a.sound q c i m w) w
  followed_fault X Y k j l other fault.Memory a h = tt

  module _ (P : KnownAtoms → Type 0) where
    not_more : (k j : KnownAtoms) (c : Bool) → (c ≡ false → j ≡ k)
        → (c ≡ true → unknown_atoms j < unknown_atoms k) → unknown_atoms j ≤ unknown_atoms k
    not_more k j true s f = omega (arith, f refl)
    not_more k j false s f = subst (λ i. unknown_atoms i ≤ unknown_atoms k) (sym (s refl)) (omega arith)

    -- a step is followed too
    pub step_followed : (k j : KnownAtoms) (c : Bool) → IsStepWithin k j c W P → IsFollowing k j W
    step_followed k j c s = record { more = s.more; sound = s.sound; fewer = not_more k j c s.same s.fewer }

    pub fault_followed : (Y : Type 0) (k j other : KnownAtoms) (e : BoundFault) → NarrowsWithin k j (Err e) W P
        → WasFollowed {X = Y} k other (Err e) W
    fault_followed Y k j other fault.Contradiction h = h
    fault_followed Y k j other fault.Memory h = tt

    -- a step that changed something, and what followed
    pub step_then : (k j l : KnownAtoms) (c : Bool) → c ≡ true → IsStepWithin k j c W P → IsFollowing j l W
        → IsStepWithin k l c W P
    step_then k j l c is s f = record {
      more = more_twice k j l s.more f.more;
      sound = λ q d i m w. f.sound q d i (s.sound q d i m w) w;
      same = λ n. absurd (true≢false (sym is ∙ n));
      holds = λ n. absurd (true≢false (sym is ∙ n));
      fewer = λ y. omega (arith, s.fewer y, f.fewer);
    }

    pub step_fault : (X : Type 0) (k j l other : KnownAtoms) (c : Bool) (e : BoundFault) → IsStepWithin k j c W P
        → WasFollowed {X = X} j l (Err e) W → NarrowsWithin k other (Err e) W P
    step_fault X k j l other c fault.Contradiction s h = λ q d i m w. h q d i (s.sound q d i m w) w
    step_fault X k j l other c fault.Memory s h = tt

    -- what asks for Q in its place
    pub within_by : (k j : KnownAtoms) (r : Result Bool BoundFault) (Q : KnownAtoms → Type 0)
        → (j ≡ k → P j → Q j) → NarrowsWithin k j r W P → NarrowsWithin k j r W Q
    within_by k j (Ok c) Q up s = record {
      more = s.more;
      sound = s.sound;
      same = s.same;
      holds = λ n. up (s.same n) (s.holds n);
      fewer = s.fewer;
    }
    within_by k j (Err fault.Contradiction) Q up h = h
    within_by k j (Err fault.Memory) Q up h = tt

  -- where it asks for all that W does, it is a step of W
  pub whole_step : (k j : KnownAtoms) (r : Result Bool BoundFault) → NarrowsWithin k j r W W → Narrows k j r W
  whole_step k j (Ok c) s = record {
    more = s.more;
    sound = s.sound;
    same = s.same;
    holds = s.holds;
    fewer = s.fewer;
  }
  whole_step k j (Err fault.Contradiction) h = h
  whole_step k j (Err fault.Memory) h = tt

  -- a step of a part of what W asks for
  pub part_step : (k j : KnownAtoms) (r : Result Bool BoundFault) (P : KnownAtoms → Type 0)
      → ((q : KnownAtoms) → KnowsMore k q → W q → P q) → Narrows k j r P → NarrowsWithin k j r W P
  part_step k j (Ok c) P down s = record {
    more = s.more;
    sound = λ q d i m w. s.sound q d i m (down q m w);
    same = s.same;
    holds = s.holds;
    fewer = s.fewer;
  }
  part_step k j (Err fault.Contradiction) P down h = λ q d i m w. h q d i m (down q m w)
  part_step k j (Err fault.Memory) P down h = tt

  -- ---- a loop

  -- so far: where nothing changed, what is left stands for the whole
  pub record SoFar (first now : KnownAtoms) (changed : Bool) (Whole Rest : KnownAtoms → Type 0) : Type 0 where
    pub more : KnowsMore first now
    pub sound : IsSound first now W
    pub same : changed ≡ false → now ≡ first
    pub holds : changed ≡ false → Rest now → Whole now
    pub fewer : changed ≡ true → unknown_atoms now < unknown_atoms first

  pub begun : (k : KnownAtoms) (Whole Rest : KnownAtoms → Type 0) → (Rest k → Whole k) → SoFar k k false Whole Rest
  begun k Whole Rest up = record {
    more = record { symbols = refl; domains = refl; true_atoms = λ a at. at; false_atoms = λ a at. at };
    sound = λ q c l m w. m;
    same = λ e. refl;
    holds = λ e h. up h;
    fewer = λ e. absurd (true≢false (sym e));
  }

  less_after : (a b : Bool) (first now then' : KnownAtoms) → (a || b) ≡ true → (a ≡ false → now ≡ first)
      → (a ≡ true → unknown_atoms now < unknown_atoms first) → (b ≡ false → then' ≡ now)
      → (b ≡ true → unknown_atoms then' < unknown_atoms now) → unknown_atoms then' < unknown_atoms first
  less_after true true first now then' h s f t g = omega (arith, f refl, g refl)
  less_after true false first now then' h s f t g =
      subst (λ k. unknown_atoms k < unknown_atoms first) (sym (t refl)) (f refl)
  less_after false true first now then' h s f t g =
      subst (λ k. unknown_atoms then' < unknown_atoms k) (s refl) (g refl)
  less_after false false first now then' h s f t g = absurd (true≢false (sym h))

  module _ (first now : KnownAtoms) (changed : Bool) (Whole Rest : KnownAtoms → Type 0)
      (s : SoFar first now changed Whole Rest) where
    -- what is left asks for P and the next
    pub turn : (then' : KnownAtoms) (one : Bool) (P Next : KnownAtoms → Type 0)
        → (P then' → Next then' → Rest then') → IsStepWithin now then' one W P
        → SoFar first then' (changed || one) Whole Next
    turn then' one P Next joins d = record {
      more = more_twice first now then' s.more d.more;
      sound = λ q c l m w. d.sound q c l (s.sound q c l m w) w;
      same = λ e. let n = neither changed one e in d.same n.1 ∙ s.same n.0;
      holds = λ e h.
          let n = neither changed one e in
          let stays : then' ≡ now = d.same n.1 in
          subst Whole (sym stays) (s.holds n.0 (subst Rest stays (joins (d.holds n.1) h)));
      fewer = λ e. less_after changed one first now then' e s.same s.fewer d.same d.fewer;
    }

    pub turn_fault : (then' other : KnownAtoms) (e : BoundFault) (P : KnownAtoms → Type 0)
        → NarrowsWithin now then' (Err e) W P → NarrowsWithin first other (Err e) W Whole
    turn_fault then' other fault.Contradiction P h = λ q c l m w. h q c l (s.sound q c l m w) w
    turn_fault then' other fault.Memory P h = tt

    pub done : Rest now → IsStepWithin first now changed W Whole
    done h = record {
      more = s.more;
      sound = s.sound;
      same = s.same;
      holds = λ e. s.holds e h;
      fewer = s.fewer;
    }
