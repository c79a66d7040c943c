-- Facts with one argument and no value, and what stands against them.
use Rattle.std.proofs.Common.{◌≡◌, ℕ, ◌==◌, Bool, true, false, not, ◌&&◌, ◌||◌, nat_lt, List, [], ◌∷◌, ◌++◌, Option}
use Rattle.std.proofs.Common.{None, Some, flat_map, map, option_map, if◌then◌else◌, append_assoc, refl, sym, ap, ◌∙◌}
use Rattle.std.proofs.Common.{subst, arith}
use Rattle.std.specs.Int.{int_min, int_max}
use Rattle.std.specs.List.{list_any}
use Rattle.std.proofs.lemmas.Int.{ints, clamps}
use Rattle.std.proofs.lemmas.List.Folds.{list_any-append}
use Rattle.stage_definitions.specs.Elements.{Cell, one, span, as_interval, do_share, size_of}
use Rattle.stage_definitions.specs.DataFacts.{Fact, all_share, are_opposed, clashes_with, do_clash, same_value_of}
use Rattle.reading_laws.proofs.Same.{value_back}
use Rattle.structure_entries.specs.EntryViews.{elem_view}
use Rattle.structure_entries.specs.declared.elements.Element.{Element}
use Rattle.data_domains.specs.Sets.{IsSetOf}
use Rattle.data_domains.specs.declared.sets.ElementSet.{ElementSet}
use Rattle.data_clashes.specs.Opposing.{is_against, only_cell, opposing, opposing_of}
use Rattle.data_clashes.specs.RunViews.{cells_against}
use Rattle.data_clashes.specs.SinglesViews.{AreSinglesOf}
use Rattle.data_clashes.specs.declared.singles.Singles.{Singles}

shared_back : (c d : Cell) → do_share c d ≡ do_share d c
shared_back (one x) (one y) = value_back (Some x) (Some y)
shared_back (one x) (span a b) = refl
shared_back (span a b) (one y) = refl
shared_back (span a b) (span e f) =
    let low : int_max a e ≡ int_max e a = omega (arith, ints, clamps) in
    let high : int_min b f ≡ int_min f b = omega (arith, ints, clamps) in
    ap (λ z. nat_lt 0 (size_of (as_interval z (int_min b f)))) low
    ∙ ap (λ z. nat_lt 0 (size_of (as_interval (int_max e a) z))) high

both : (s t o : Bool) → s ≡ t → ((s && true) && o) ≡ (if o then t || false else false)
both true t true h = sym (ap (λ b. b || false) (sym h))
both false t true h = sym (ap (λ b. b || false) (sym h))
both true t false h = refl
both false t false h = refl

neither : (s o : Bool) → ((s && false) && o) ≡ false
neither true o = refl
neither false o = refl

by_args : (cs : List Cell) (b o : Bool) (d : Cell) → (b && (all_share cs (d ∷ []) && o)) ≡ list_any (do_share d)
    (if b && o then only_cell cs else [])
by_args cs false o d = refl
by_args [] true true d = refl
by_args [] true false d = refl
by_args (c ∷ []) true true d = both (do_share c d) (do_share d c) true (shared_back c d)
by_args (c ∷ []) true false d = both (do_share c d) (do_share d c) false (shared_back c d)
by_args (c ∷ e ∷ es) true true d = neither (do_share c d) true
by_args (c ∷ e ∷ es) true false d = neither (do_share c d) false

clash_one : (f g : Fact) (d : Cell) → g.args ≡ d ∷ [] → g.value ≡ None → do_clash f g ≡ list_any (do_share d)
    (opposing_of g.symbol g.holds f)
clash_one f g d at plain =
    ap (λ cs. (f.symbol == g.symbol) && (all_share f.args cs && are_opposed f.holds g.holds
    (same_value_of f.value g.value))) at
    ∙ ap (λ v. (f.symbol == g.symbol) && (all_share f.args (d ∷ []) && are_opposed f.holds g.holds
    (same_value_of f.value v))) plain
    ∙ by_args f.args (f.symbol == g.symbol) (are_opposed f.holds g.holds (same_value_of f.value None)) d

-- a fact with one argument and no value clashes where it shares with what stands against it
pub clash_is_shared : (fs : List Fact) (g : Fact) (d : Cell) → g.args ≡ d ∷ [] → g.value ≡ None
    → clashes_with fs g ≡ list_any (do_share d) (opposing g.symbol g.holds fs)
clash_is_shared [] g d at plain = refl
clash_is_shared (f ∷ fs) g d at plain =
    ap (λ b. b || clashes_with fs g) (clash_one f g d at plain)
    ∙ ap (λ b. list_any (do_share d) (opposing_of g.symbol g.holds f) || b) (clash_is_shared fs g d at plain)
    ∙ sym (list_any-append (do_share d) (opposing_of g.symbol g.holds f) (opposing g.symbol g.holds fs))

-- ---- one fact more

nothing_more : (cs : List Cell) → cs ++ [] ≡ cs
nothing_more [] = refl
nothing_more (c ∷ cs) = ap (λ xs. c ∷ xs) (nothing_more cs)

opposing_more : (s : ℕ) (h : Bool) (fs : List Fact) (f : Fact) → opposing s h (fs ++ f ∷ []) ≡ opposing s h fs
    ++ opposing_of s h f
opposing_more s h [] f = nothing_more (opposing_of s h f)
opposing_more s h (g ∷ gs) f = ap (λ cs. opposing_of s h g ++ cs) (opposing_more s h gs f)
    ∙ sym (append_assoc (opposing_of s h g) (opposing s h gs) (opposing_of s h f))

own_is_none : (f : Fact) → f.value ≡ None → opposing_of f.symbol f.holds f ≡ []
own_is_none f plain = ap (λ v. if (f.symbol == f.symbol) && are_opposed f.holds f.holds (same_value_of v None) then
    only_cell f.args else []) plain ∙ by (f.symbol == f.symbol) f.holds
  where
    by : (b h : Bool) → (if b && are_opposed h h true then only_cell f.args else []) ≡ []
    by false h = refl
    by true true = refl
    by true false = refl

pub pushed : (before : List Fact) (f : Fact) (old new : Singles) → new.symbol ≡ old.symbol → new.holds ≡ old.holds
    → new.elements ≡ old.elements
    → (new.is_known ≡ true → (old.is_known ≡ true) × (old.symbol ≡ f.symbol) × (old.holds ≡ f.holds) × (f.value ≡ None))
    → ((s : ℕ) (h : Bool) → cells_against s h new.runs ≡ cells_against s h old.runs ++ opposing_of s h f)
    → AreSinglesOf before old → AreSinglesOf (before ++ f ∷ []) new
pushed before f old new es eh ee keeps more s = record {
  runs = λ n h. more n h ∙ ap (λ cs. cs ++ opposing_of n h f) (s.runs n h) ∙ sym (opposing_more n h before f);
  known = λ t.
      let k = keeps t in
      let none : opposing_of old.symbol old.holds f ≡ [] = ap (λ n. opposing_of n old.holds f) k.1
      ∙ ap (λ h. opposing_of f.symbol h f) k.2 ∙ own_is_none f k.3 in
      let same : opposing old.symbol old.holds before ≡ opposing new.symbol new.holds (before ++ f ∷ []) =
      sym (ap (λ n. opposing n new.holds (before ++ f ∷ [])) es ∙ ap (λ h. opposing old.symbol h (before ++ f ∷ [])) eh
      ∙ opposing_more old.symbol old.holds before f ∙ ap (λ cs. opposing old.symbol old.holds before ++ cs) none
      ∙ nothing_more (opposing old.symbol old.holds before)) in
      subst (IsSetOf (opposing new.symbol new.holds (before ++ f ∷ []))) (sym ee)
      (subst (λ cs. IsSetOf cs old.elements) same (s.known k.0));
}

-- a fact clashes where its argument is among what is known to stand against it
pub met : (before : List Fact) (g : Fact) (d : Cell) (t : Singles) (b : Bool) → AreSinglesOf before t
    → (t.is_known ≡ true) × (t.symbol ≡ g.symbol) × (t.holds ≡ g.holds)
    → ((cells : List Cell) → IsSetOf cells t.elements → b ≡ list_any (do_share d) cells) → g.args ≡ d ∷ []
    → g.value ≡ None → b ≡ clashes_with before g
met before g d t b s known meets at plain =
    meets (opposing t.symbol t.holds before) (s.known known.0)
    ∙ ap (λ n. list_any (do_share d) (opposing n t.holds before)) known.1
    ∙ ap (λ h. list_any (do_share d) (opposing g.symbol h before)) known.2
    ∙ sym (clash_is_shared before g d at plain)

-- what is known of a fact in memory, of what it says
pub kept_by : {A B C : Type 0} (v : Option Element) → A × B × C × (v ≡ None)
    → A × B × C × (option_map elem_view v ≡ None)
kept_by v k = (k.0, k.1, k.2, ap (option_map elem_view) k.3)

pub same_set : (cells others : List Cell) (e : ElementSet) → cells ≡ others → IsSetOf cells e → IsSetOf others e
same_set cells others e same s = subst (λ cs. IsSetOf cs e) same s
