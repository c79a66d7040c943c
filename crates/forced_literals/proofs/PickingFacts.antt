-- What is looked up among numbers, and what is picked.
use Rattle.std.proofs.Common.{◌≡◌, ℕ, ◌+◌, ◌<◌, Bool, true, false, not, ◌||◌, ◌==◌, Option, Some, None, List, [], ◌∷◌}
use Rattle.std.proofs.Common.{◌++◌}
use Rattle.std.proofs.Common.{length, take, get_or, Contains, refl, sym, ap, ◌∙◌, subst, inl, inr, ◌⊎◌}
use Rattle.std.proofs.Common.{⊎_elim, MatchBool, MatchOption}
use Rattle.std.specs.List.{Any}
use Rattle.std.proofs.lemmas.Bool.{or_cases, eqb-true, eq-eqb, true≢false}
use Rattle.std.proofs.lemmas.List.{take_more}
use Rattle.std.proofs.lemmas.List.Elements.{All-push, Contains-push, Contains-append_left}
use Rattle.kb_logic.specs.declared.structures.Literal.{Literal}
use Rattle.kb_logic.specs.KnownAtoms.{atoms_over}
use Rattle.kb_logic.proofs.Has.{Has, has_either, has_left, has_right}
use Rattle.kb_logic.proofs.Members.{some_one, one_is_some}
use Rattle.lit_core.specs.declared.literals.Lit.{Lit}
use Rattle.ground_core.specs.Problems.{IsLitOf}
use Rattle.term_values.specs.GroundBases.{GroundBase}
use Rattle.ground_task.proofs.ChoiceFacts.{each-push}
use Rattle.atom_numbers.specs.Numbers.{HasNumber, IsApplication}
use Rattle.forced_literals.specs.declared.picking.LeftOut.{LeftOut}
use Rattle.forced_literals.specs.Picking.{DeniesBeside, IsSpared, ArePicked, is_among, is_it, Settles, SettlesOnly}
use Rattle.forced_literals.specs.Picking.{AreSettled, IsLeftOutOf}
use Rattle.forced_literals.proofs.ListFacts.{sublist-more, sublist-push, any-has, has-any}
use Rattle.forced_literals.proofs.NumberFacts.{literal-there, one-application, application-alike}
use Rattle.forced_literals.proofs.NumberFacts.{application-moved}

or-left : (a b : Bool) → a ≡ true → (a || b) ≡ true
or-left true b e = refl
or-left false b e = cc

or-right : (a b : Bool) → b ≡ true → (a || b) ≡ true
or-right true b e = refl
or-right false b e = e

positive : (b : Bool) → not b ≡ false → b ≡ true
positive true e = refl
positive false e = cc

-- the first literals and one more
module _ (lits : List Lit) (i : ℕ) (d : Lit) (lt : i < length lits) where
  abbrev l : Lit
  l = get_or lits i d

  next-lits : take (i + 1) lits ≡ take i lits ++ l ∷ []
  next-lits = take_more lits i d lt

  module _ (b : GroundBase) (old new : List ℕ) where
    pub settled-more : AreSettled b (take i lits) old → (o : Option ℕ)
        → MatchOption o ((n : ℕ) → Settles b l n → ⊥) (SettlesOnly b l)
        → ((n : ℕ) → is_among new n ≡ (is_among old n || is_it o n)) → AreSettled b (take (i + 1) lits) new
    settled-more h o by e =
        subst (λ (ls : List Lit). AreSettled b ls new) (sym next-lits) (record { sound = sound; complete = complete })
      where
        at-end : Has (take i lits ++ l ∷ []) l
        at-end = has_right (take i lits) (l ∷ []) l (inl refl)

        found : (n : ℕ) (q : Option ℕ) → MatchOption q ((k : ℕ) → Settles b l k → ⊥) (SettlesOnly b l)
            → is_it q n ≡ true → Settles b l n
        found n None none f = absurd (true≢false (sym f))
        found n (Some k) one f = subst (Settles b l) (eqb-true k n f) one.it

        kept : (n : ℕ) (q : Option ℕ) → MatchOption q ((k : ℕ) → Settles b l k → ⊥) (SettlesOnly b l) → Settles b l n
            → is_it q n ≡ true
        kept n None none s = absurd (none n s)
        kept n (Some k) one s = eq-eqb k n (sym (one.only n s))

        sound : (n : ℕ) → is_among new n ≡ true → Any (λ k. Settles b k n) (take i lits ++ l ∷ [])
        sound n f = ⊎_elim
            (λ before. let r = any-has (λ (k : Lit). Settles b k n) (take i lits) (h.sound n before) in
            has-any (λ (k : Lit). Settles b k n) (take i lits ++ l ∷ []) r.0 (has_left (take i lits) (l ∷ []) r.0 r.1)
            r.2) (λ now. has-any (λ (k : Lit). Settles b k n) (take i lits ++ l ∷ []) l at-end (found n o by now))
            (or_cases (is_among old n) (is_it o n) (sym (e n) ∙ f))

        complete : (n : ℕ) → Any (λ k. Settles b k n) (take i lits ++ l ∷ []) → is_among new n ≡ true
        complete n any =
            let r = any-has (λ (k : Lit). Settles b k n) (take i lits ++ l ∷ []) any in
            e n ∙ ⊎_elim
            (λ before. or-left (is_among old n) (is_it o n)
            (h.complete n (has-any (λ (k : Lit). Settles b k n) (take i lits) r.0 before r.2)))
            (λ last. or-right (is_among old n) (is_it o n) (kept n o by (last-settles n r.0 last r.2)))
            (has_either (take i lits) (l ∷ []) r.0 r.1)
          where
            last-settles : (n : ℕ) (k : Lit) → Has (l ∷ []) k → Settles b k n → Settles b l n
            last-settles n k (inl same) s = subst (λ (x : Lit). Settles b x n) (sym same) s
            last-settles n k (inr none) s = absurd none

pub settled-begins : (b : GroundBase) (lits : List Lit) (ns : List ℕ) → ns ≡ [] → AreSettled b (take 0 lits) ns
settled-begins b lits ns none = record {
  sound = λ n e. absurd (true≢false (sym e ∙ ap (λ (ks : List ℕ). is_among ks n) none));
  complete = λ n any. let r = any-has (λ (k : Lit). Settles b k n) [] any in absurd r.1;
}

module _ (b : GroundBase) (lit : Lit) (within : IsLitOf (length (atoms_over b.vocabulary.symbols b.domains)) lit) where
  abbrev TellsApplication : Option ℕ → Type 0
  TellsApplication o = (l : Literal) → HasNumber b l lit → MatchOption o (l.value ≡ None) (IsApplication b l)

  pub settled-one : not lit.positive ≡ false → (o : Option ℕ) → TellsApplication o
      → MatchOption o ((n : ℕ) → Settles b lit n → ⊥) (SettlesOnly b lit)
  settled-one sign None tells = λ n s.
      let none : s.literal.value ≡ None = tells s.literal s.number in
      let some : s.literal.value ≡ Some s.application.value = s.application.valued in cc
  settled-one sign (Some n) tells =
      let d = literal-there b lit within in
      record {
        it = record {
          literal = d.0;
          number = d.1;
          affirms = sym d.1.sign
              ∙ positive lit.positive sign;
          application = tells d.0 d.1;
        };
        only = λ m s. one-application b s.literal s.literal m n (refl, refl) s.application (tells s.literal s.number);
      }

  pub settled-none : lit.positive ≡ false → (n : ℕ) → Settles b lit n → ⊥
  settled-none sign n s = true≢false (sym s.affirms ∙ sym s.number.sign ∙ sign)

  module _ (forced : List Lit) where
    abbrev Beside : Type 0
    Beside = Any (λ k. DeniesBeside b k lit) forced

    pub beside-positive : lit.positive ≡ true → Beside → ⊥
    beside-positive sign any =
        let r = any-has (λ (k : Lit). DeniesBeside b k lit) forced any in
        true≢false (sym sign ∙ r.2.second.sign ∙ r.2.denies)

    pub beside-plain : TellsApplication None → Beside → ⊥
    beside-plain tells any =
        let r = any-has (λ (k : Lit). DeniesBeside b k lit) forced any in
        let none : r.2.denied.value ≡ None = tells r.2.denied r.2.second in
        let some : r.2.denied.value ≡ Some r.2.other = r.2.other_valued in cc

    pub beside-valued : (ns : List ℕ) → AreSettled b forced ns → lit.positive ≡ false → (n : ℕ)
        → TellsApplication (Some n) → (r : Bool) → r ≡ is_among ns n → MatchBool r Beside (Beside → ⊥)
    beside-valued ns h sign n tells true e =
        let s = any-has (λ (k : Lit). Settles b k n) forced (h.sound n (sym e)) in
        let d = literal-there b lit within in
        let application = tells d.0 d.1 in
        has-any (λ (k : Lit). DeniesBeside b k lit) forced s.0 s.1 (record {
          affirmed = s.2.literal;
          denied = d.0;
          first = s.2.number;
          second = d.1;
          affirms = s.2.affirms;
          denies = sym d.1.sign ∙ sign;
          alike = application-alike b s.2.literal d.0 n s.2.application application;
          value = s.2.application.value;
          valued = s.2.application.valued;
          other = application.value;
          other_valued = application.valued;
        })
    beside-valued ns h sign n tells false e = λ any.
        let r = any-has (λ (k : Lit). DeniesBeside b k lit) forced any in
        let x = r.2 in
        let s : Settles b r.0 n = record {
          literal = x.affirmed;
          number = x.first;
          affirms = x.affirms;
          application = application-moved b x.affirmed x.denied n x.value x.alike x.valued (tells x.denied x.second);
        } in
        true≢false (sym (h.complete n (has-any (λ (k : Lit). Settles b k n) forced r.0 r.1 s)) ∙ sym e)

    module _ (chosen : List Lit) (s : LeftOut) (h : IsLeftOutOf b chosen forced s) where
      pub chosen-spared : is_among s.chosen.keys lit.var.0 ≡ true → IsSpared b chosen forced lit
      chosen-spared e =
          let r = some_one (λ (l : Lit). l.var.0 == lit.var.0) chosen (sym (h.chosen lit.var.0) ∙ e) in
          inl (r.1.0, r.0, r.1.1, r.1.2, eqb-true r.0.var.0 lit.var.0 r.2)

      not-chosen : is_among s.chosen.keys lit.var.0 ≡ false → Any (λ c. c.var.0 ≡ lit.var.0) chosen → ⊥
      not-chosen e any =
          true≢false (sym (h.chosen lit.var.0 ∙ one_is_some (λ (l : Lit). l.var.0 == lit.var.0) chosen any.1
          (any.0, any.2, any.3) (eq-eqb any.1.var.0 lit.var.0 any.4)) ∙ e)

      pub else-beside : is_among s.chosen.keys lit.var.0 ≡ false → (r : Bool) → MatchBool r Beside (Beside → ⊥)
          → MatchBool r (IsSpared b chosen forced lit) (IsSpared b chosen forced lit → ⊥)
      else-beside e true beside = inr beside
      else-beside e false none = λ way. ⊎_elim (not-chosen e) none way

-- what is picked of one literal more
module _ (b : GroundBase) (chosen forced ks : List Lit) (list : List Literal) (k : Lit)
    (h : ArePicked b chosen forced ks list) where
  pub picked-skip : IsSpared b chosen forced k → ArePicked b chosen forced (ks ++ k ∷ []) list
  picked-skip spared = record {
    lits = h.lits;
    order = sublist-more h.lits ks k h.order;
    numbers = h.numbers;
    kept = h.kept;
    others = All-push (λ l. Contains h.lits l ⊎ IsSpared b chosen forced l) ks k h.others (inr spared);
  }

  pub picked-more : (IsSpared b chosen forced k → ⊥) → (l : Literal) → HasNumber b l k
      → ArePicked b chosen forced (ks ++ k ∷ []) (list ++ l ∷ [])
  picked-more not-spared l n = record {
    lits = h.lits ++ k ∷ [];
    order = sublist-push h.lits ks k h.order;
    numbers = each-push (HasNumber b) list h.lits l k h.numbers n;
    kept = All-push (λ j. IsSpared b chosen forced j → ⊥) h.lits k h.kept not-spared;
    others = All-push (λ j. Contains (h.lits ++ k ∷ []) j ⊎ IsSpared b chosen forced j) ks k
        (λ i d lt. ⊎_elim (λ c. inl (Contains-append_left h.lits (k ∷ []) (get_or ks i d) c)) (λ s. inr s)
        (h.others i d lt)) (inl (Contains-push h.lits k));
  }

-- and of the first literals and one more
module _ (lits : List Lit) (i : ℕ) (d : Lit) (lt : i < length lits) (b : GroundBase) (chosen forced : List Lit)
    (list : List Literal) (h : ArePicked b chosen forced (take i lits) list) where
  pub next-skip : IsSpared b chosen forced (get_or lits i d) → ArePicked b chosen forced (take (i + 1) lits) list
  next-skip spared =
      subst (λ (ls : List Lit). ArePicked b chosen forced ls list) (sym (take_more lits i d lt))
      (picked-skip b chosen forced (take i lits) list (get_or lits i d) h spared)

  pub next-more : (IsSpared b chosen forced (get_or lits i d) → ⊥) → (l : Literal) → HasNumber b l (get_or lits i d)
      → ArePicked b chosen forced (take (i + 1) lits) (list ++ l ∷ [])
  next-more not-spared l n =
      subst (λ (ls : List Lit). ArePicked b chosen forced ls (list ++ l ∷ [])) (sym (take_more lits i d lt))
      (picked-more b chosen forced (take i lits) list (get_or lits i d) h not-spared l n)
