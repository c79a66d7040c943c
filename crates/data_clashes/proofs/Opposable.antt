-- A fact whose symbol's rows all have one sign clashes with none, so that nothing is noted of it.
use Rattle.std.proofs.Common.{◌≡◌, ◌==◌, ℕ, Bool, true, false, not, ◌&&◌, ◌||◌, is_none, is_some, List, [], ◌∷◌, ◌++◌}
use Rattle.std.proofs.Common.{filter, cond, fold, Option, None, Some, option_map, inl, inr, ◌⊎◌, refl, sym, ap, ◌∙◌}
use Rattle.std.proofs.Common.{subst}
use Rattle.std.proofs.Common.{if◌then◌else◌, length, append_assoc, drop, map, ◌+◌}
use Rattle.std.specs.Prelude.{flat_map, filter_map}
use Rattle.std.specs.List.{cons_option, list_any}
use Rattle.std.proofs.lemmas.Bool.{cases_Bool, true≢false, and_from, and_parts, eqb-true, eq-eqb, false_from_ne_true}
use Rattle.std.proofs.lemmas.Bool.{or_left, or_right}
use Rattle.std.proofs.lemmas.List.{append-nil}
use Rattle.std.proofs.lemmas.List.Elements.{filter-append}
use Rattle.kb_text.specs.declared.fault.K.TheVariants as k
use Rattle.kb_text.specs.declared.fault.KbFault.{KbFault}
use Rattle.kb_logic.specs.declared.elements.Elem.{Elem}
use Rattle.kb_logic.specs.declared.vocabularies.TypeDecl.{TypeDecl}
use Rattle.kb_logic.specs.declared.vocabularies.Symbol.{Symbol}
use Rattle.kb_logic.proofs.Has.{Has, flat_map_has, has_left, has_right}
use Rattle.grammar.specs.BlockTrees as raw
use Rattle.grammar.specs.Trees.{Name}
use Rattle.stage_definitions.specs.Earliest.{noted_if}
use Rattle.stage_definitions.specs.DataEntries.{Subject, nothing_named, an_element, a_type, a_symbol, WrittenRow, Said}
use Rattle.stage_definitions.specs.DataEntries.{Sense, everything, certainly_true, certainly_false, unread, sense_of}
use Rattle.stage_definitions.specs.DataEntries.{element_of, fits_in, fitting, is_plain_list, is_value_for, value_type}
use Rattle.stage_definitions.specs.DataFacts.{Fact, all_share, are_opposed, cells_read, clashes_with, do_clash, fact_at}
use Rattle.stage_definitions.specs.DataFacts.{fact_of, facts_in, facts_of, gives_whole, same_value_of, signs_of}
use Rattle.stage_definitions.specs.DataStage.{data_noted, fact, uses_of_facts}
use Rattle.stage_definitions.specs.Elements.{Cell}
use Rattle.structure_entries.specs.SaidViews.{said_view}
use Rattle.structure_entries.specs.declared.written.Entry.{Entry}
use Rattle.data_clashes.specs.Signs.{is_opposable, may_say, opposable, says}

-- ---- facts that clash with none may be left out

kept_or : (q : Fact → Bool) (x : Fact) (xs ys : List Fact) (b : Bool) → (b ≡ false → q x ≡ false)
    → list_any q ys ≡ list_any q xs → list_any q (cond b (x ∷ ys) ys) ≡ (q x || list_any q xs)
kept_or q x xs ys true h rest = ap (λ c. q x || c) rest
kept_or q x xs ys false h rest = rest ∙ sym (ap (λ c. c || list_any q xs) (h refl))

dropped_any : (p q : Fact → Bool) (xs : List Fact) → ((x : Fact) → Has xs x → p x ≡ false → q x ≡ false)
    → list_any q (filter p xs) ≡ list_any q xs
dropped_any p q [] h = refl
dropped_any p q (x ∷ xs) h = kept_or q x xs (filter p xs) (p x) (h x (inl refl))
    (dropped_any p q xs (λ y m. h y (inr m)))

none_any : (q : Fact → Bool) (xs : List Fact) → ((x : Fact) → Has xs x → q x ≡ false) → list_any q xs ≡ false
none_any q [] h = refl
none_any q (x ∷ xs) h = ap (λ b. b || list_any q xs) (h x (inl refl)) ∙ none_any q xs (λ y m. h y (inr m))

-- facts that the test leaves out clash with none
abbrev ClashWithNone : (Fact → Bool) → List Fact → Type 0
ClashWithNone p whole = (f g : Fact) → Has whole f → Has whole g → p f ≡ false
    → (do_clash f g ≡ false) × (do_clash g f ≡ false)

module _ (types : List TypeDecl) (es : List Said) (p : Fact → Bool) (whole : List Fact)
    (apart : ClashWithNone p whole) where
  -- what is noted of a fact depends on whether it clashes
  same_note : (xs ys : List Fact) (f : Fact) (o : Option KbFault) → clashes_with xs f ≡ clashes_with ys f
      → data_noted types es o (fact xs f) ≡ data_noted types es o (fact ys f)
  same_note xs ys f o h = ap (λ b. noted_if b k.DataClash f.place o) h

  no_note : (xs : List Fact) (f : Fact) (o : Option KbFault) → clashes_with xs f ≡ false
      → data_noted types es o (fact xs f) ≡ o
  no_note xs f o h = ap (λ b. noted_if b k.DataClash f.place o) h

  -- a fact after these, kept or left out
  next : (before fs : List Fact) (f : Fact) (o : Option KbFault) (b : Bool) → p f ≡ b
      → ((x : Fact) → Has (before ++ f ∷ fs) x → Has whole x)
      → ((n : Option KbFault) → fold (data_noted types es) n (uses_of_facts (filter p (before ++ f ∷ [])) (filter p fs))
      ≡ fold (data_noted types es) n (uses_of_facts (before ++ f ∷ []) fs))
      → fold (data_noted types es) o (uses_of_facts (filter p before) (cond b (f ∷ filter p fs) (filter p fs)))
      ≡ fold (data_noted types es) o (uses_of_facts before (f ∷ fs))
  next before fs f o true e among rest =
      let within : Has whole f = among f (has_right before (f ∷ fs) f (inl refl)) in
      let clash = dropped_any p (λ x. do_clash x f) before
      (λ x m n. (apart x f (among x (has_left before (f ∷ fs) x m)) within n).0) in
      let longer : filter p (before ++ f ∷ []) ≡ filter p before ++ f ∷ [] =
      filter-append p before (f ∷ []) ∙ ap (λ c. filter p before ++ cond c (f ∷ []) []) e in
      ap (λ n. fold (data_noted types es) n (uses_of_facts (filter p before ++ f ∷ []) (filter p fs)))
      (same_note (filter p before) before f o clash)
      ∙ ap (λ bs. fold (data_noted types es) (data_noted types es o (fact before f)) (uses_of_facts bs (filter p fs)))
      (sym longer)
      ∙ rest (data_noted types es o (fact before f))
  next before fs f o false e among rest =
      let within : Has whole f = among f (has_right before (f ∷ fs) f (inl refl)) in
      let clash = none_any (λ x. do_clash x f) before
      (λ x m. (apart f x within (among x (has_left before (f ∷ fs) x m)) e).1) in
      let same : filter p (before ++ f ∷ []) ≡ filter p before =
      filter-append p before (f ∷ []) ∙ ap (λ c. filter p before ++ cond c (f ∷ []) []) e
      ∙ append-nil (filter p before) in
      ap (λ bs. fold (data_noted types es) o (uses_of_facts bs (filter p fs))) (sym same)
      ∙ rest o
      ∙ ap (λ n. fold (data_noted types es) n (uses_of_facts (before ++ f ∷ []) fs)) (sym (no_note before f o clash))

  pub left_out : (before fs : List Fact) (o : Option KbFault) → ((x : Fact) → Has (before ++ fs) x → Has whole x)
      → fold (data_noted types es) o (uses_of_facts (filter p before) (filter p fs))
      ≡ fold (data_noted types es) o (uses_of_facts before fs)
  left_out before [] o among = refl
  left_out before (f ∷ fs) o among = next before fs f o (p f) refl among
      (λ n. left_out (before ++ f ∷ []) fs n
      (λ x m. among x (subst (λ (xs : List Fact). Has xs x) (append_assoc before (f ∷ []) fs) m)))

-- ---- what a fact's entry says

-- the rows say so of the fact's symbol, and where the fact has a value the symbol has values
abbrev IsSaidBy : Said → Fact → Type 0
IsSaidBy e f = (gives_whole f.symbol e.subject ≡ true) × (says f.holds (sense_of e.mark) ≡ true)
    × (is_some f.value ≡ true → is_some (value_type e.subject) ≡ true)

some_options : {X Y : Type 0} (g : X → Option Y) (xs : List X) (y : Y) → Has (filter_map g xs) y → (x : X) × Has xs x
    × (g x ≡ Some y)
some_options g [] y h = absurd h
some_options {X} {Y} g (x ∷ xs) y h = by (g x) refl h (some_options g xs y)
  where
    by : (o : Option Y) → g x ≡ o → Has (cons_option o (filter_map g xs)) y
        → (Has (filter_map g xs) y → (z : X) × Has xs z × (g z ≡ Some y)) → (z : X) × Has (x ∷ xs) z × (g z ≡ Some y)
    by None e m rest = let r = rest m in (r.0, inr r.1, r.2)
    by (Some w) e (inl s) rest = (x, inl refl, e ∙ ap Some s)
    by (Some w) e (inr m) rest = let r = rest m in (r.0, inr r.1, r.2)

of_filter : {X : Type 0} (p : X → Bool) (xs : List X) (x : X) → Has (filter p xs) x → p x ≡ true
of_filter p [] x h = absurd h
of_filter {X} p (y ∷ ys) x h = by (p y) refl h (of_filter p ys x)
  where
    by : (b : Bool) → p y ≡ b → Has (cond b (y ∷ filter p ys) (filter p ys)) x → (Has (filter p ys) x → p x ≡ true)
        → p x ≡ true
    by true e (inl s) rest = ap p (sym s) ∙ e
    by true e (inr m) rest = rest m
    by false e m rest = rest m

sign_says : (holds : Bool) (sense : Sense) → Has (signs_of sense) holds → says holds sense ≡ true
sign_says holds everything (inl e) = sym e
sign_says holds everything (inr m) = absurd m
sign_says holds certainly_true (inl e) = sym e
sign_says holds certainly_true (inr m) = absurd m
sign_says holds certainly_false (inl e) = ap not (sym e)
sign_says holds certainly_false (inr m) = absurd m
sign_says holds unread m = absurd m

-- a fact that is read has its row's symbol, sign and value
read_fact : (place s : ℕ) (holds : Bool) (v : Option Elem) (o : Option (List Cell)) (f : Fact)
    → option_map (fact_at place s holds v) o ≡ Some f → (f.symbol ≡ s) × (f.holds ≡ holds) × (f.value ≡ v)
read_fact place s holds v None f h = absurd (cc)
read_fact place s holds v (Some cells) f h =
    let is : Some (fact_at place s holds v cells) ≡ Some f = h in
    let same : fact_at place s holds v cells ≡ f = cc in
    (sym (ap (λ x. x.symbol) same), sym (ap (λ x. x.holds) same), sym (ap (λ x. x.value) same))

value_asked : (ty : Option ℕ) (v : Option raw.Element) → is_value_for ty v ≡ true
    → is_some (option_map element_of v) ≡ true → is_some ty ≡ true
value_asked None None h t = absurd (true≢false (sym t))
value_asked None (Some v) h t = absurd (true≢false (sym h))
value_asked (Some ty) v h t = refl

row_says : (holds : Bool) (x : Subject) (r : WrittenRow) (f : Fact) → fits_in x r ≡ true → fact_of holds x r ≡ Some f
    → (gives_whole f.symbol x ≡ true) × (f.holds ≡ holds) × (is_some f.value ≡ true → is_some (value_type x) ≡ true)
row_says holds nothing_named r f fits h = absurd (cc)
row_says holds an_element r f fits h = absurd (cc)
row_says holds (a_type t d) r f fits h = absurd (cc)
row_says holds (a_symbol s d) r f fits h =
    let v = option_map element_of r.value in
    let read = read_fact r.place s holds v (cells_read (is_plain_list (a_symbol s d)) r.items) f h in
    let parts = and_parts (length r.items == length d.args) (is_value_for d.value r.value) fits in (
      eq-eqb s f.symbol (sym read.0),
      read.1,
      λ t. value_asked d.value r.value parts.1 (sym (ap is_some read.2) ∙ t),
    )

fact_says : (e : Said) (f : Fact) → Has (facts_of e) f → IsSaidBy e f
fact_says e f h =
    let sign = flat_map_has (λ holds. filter_map (fact_of holds e.subject) (fitting e))
    (signs_of (sense_of e.mark)) f h in
    let row = some_options (fact_of sign.0 e.subject) (fitting e) f sign.2 in
    let at = row_says sign.0 e.subject row.0 f (of_filter (fits_in e.subject) e.rows row.0 row.1) row.2 in (
      at.0,
      ap (λ b. says b (sense_of e.mark)) at.1 ∙ sign_says sign.0 (sense_of e.mark) sign.1,
      at.2,
    )

-- ---- symbols of which both is said

-- of the symbol both is said
abbrev both : List Said → ℕ → Bool
both es s = list_any (may_say true s) es && list_any (may_say false s) es

any_has : {X : Type 0} (q : X → Bool) (xs : List X) (x : X) → Has xs x → q x ≡ true → list_any q xs ≡ true
any_has q [] x m h = absurd m
any_has q (y ∷ ys) x (inl e) h = ap (λ b. b || list_any q ys) (ap q e ∙ h)
any_has q (y ∷ ys) x (inr m) h = ap (λ b. q y || b) (any_has q ys x m h) ∙ or_right (q y) true refl

said_so : (es : List Said) (f : Fact) → Has (facts_in es) f → list_any (may_say f.holds f.symbol) es ≡ true
said_so es f h =
    let e = flat_map_has facts_of es f h in
    let at = fact_says e.0 f e.2 in
    any_has (may_say f.holds f.symbol) es e.0 e.1
    (and_from (gives_whole f.symbol e.0.subject) (is_some (value_type e.0.subject) || says f.holds (sense_of e.0.mark))
    at.0 (or_right (is_some (value_type e.0.subject)) (says f.holds (sense_of e.0.mark)) at.1))

valued_both : (es : List Said) (f : Fact) → Has (facts_in es) f → is_some f.value ≡ true → both es f.symbol ≡ true
valued_both es f h t =
    let e = flat_map_has facts_of es f h in
    let at = fact_says e.0 f e.2 in
    let each : (holds : Bool) → list_any (may_say holds f.symbol) es ≡ true = λ holds.
    any_has (may_say holds f.symbol) es e.0 e.1
    (and_from (gives_whole f.symbol e.0.subject)
    (is_some (value_type e.0.subject) || says holds (sense_of e.0.mark))
    at.0 (or_left (is_some (value_type e.0.subject)) (says holds (sense_of e.0.mark)) (at.2 t))) in
    and_from (list_any (may_say true f.symbol) es) (list_any (may_say false f.symbol) es) (each true) (each false)

no_value : (v : Option Elem) → (is_some v ≡ true → ⊥) → v ≡ None
no_value None h = refl
no_value (Some x) h = absurd (h refl)

signs_alike : (t f : Bool) (g h : Bool) → (t && f) ≡ false → (if g then t else f) ≡ true → (if h then t else f) ≡ true
    → g ≡ h
signs_alike t f true true n a b = refl
signs_alike t f false false n a b = refl
signs_alike t f true false n a b = absurd (true≢false (sym (and_from t f a b) ∙ n))
signs_alike t f false true n a b = absurd (true≢false (sym (and_from t f b a) ∙ n))

by_sign : (es : List Said) (s : ℕ) (holds : Bool) → list_any (may_say holds s) es ≡ true
    → (if holds then list_any (may_say true s) es else list_any (may_say false s) es) ≡ true
by_sign es s true h = h
by_sign es s false h = h

not_opposed : (b : Bool) → are_opposed b b true ≡ false
not_opposed true = refl
not_opposed false = refl

and_no : (a : Bool) → (a && false) ≡ false
and_no true = refl
and_no false = refl

module _ (es : List Said) (f g : Fact) (mf : Has (facts_in es) f) (mg : Has (facts_in es) g)
    (one : both es f.symbol ≡ false) (same : f.symbol ≡ g.symbol) where
  plain_first : f.value ≡ None
  plain_first = no_value f.value (λ t. true≢false (sym (valued_both es f mf t) ∙ one))

  plain_second : g.value ≡ None
  plain_second = no_value g.value
      (λ t. true≢false (sym (valued_both es g mg t) ∙ ap (both es) (sym same) ∙ one))

  alike : f.holds ≡ g.holds
  alike = signs_alike (list_any (may_say true f.symbol) es) (list_any (may_say false f.symbol) es) f.holds g.holds one
      (by_sign es f.symbol f.holds (said_so es f mf))
      (by_sign es f.symbol g.holds (ap (λ s. list_any (may_say g.holds s) es) same ∙ said_so es g mg))

  unopposed : are_opposed f.holds g.holds (same_value_of f.value g.value) ≡ false
  unopposed = ap (λ v. are_opposed f.holds g.holds (same_value_of v g.value)) plain_first
      ∙ ap (λ v. are_opposed f.holds g.holds (same_value_of None v)) plain_second
      ∙ ap (λ b. are_opposed b g.holds true) alike ∙ not_opposed g.holds

  alike_apart : do_clash f g ≡ false
  alike_apart = ap (λ b. (f.symbol == g.symbol) && (all_share f.args g.args && b)) unopposed
      ∙ ap (λ b. (f.symbol == g.symbol) && b) (and_no (all_share f.args g.args)) ∙ and_no (f.symbol == g.symbol)

one_sided : (es : List Said) (f g : Fact) → Has (facts_in es) f → Has (facts_in es) g → both es f.symbol ≡ false
    → do_clash f g ≡ false
one_sided es f g mf mg one = elim (cases_Bool (f.symbol == g.symbol)) [
  | inl e ↦ alike_apart es f g mf mg one (eqb-true f.symbol g.symbol e)
  | inr e ↦ ap (λ b. b && (all_share f.args g.args && are_opposed f.holds g.holds (same_value_of f.value g.value))) e
]

other_sided : (es : List Said) (f g : Fact) → Has (facts_in es) f → Has (facts_in es) g → both es f.symbol ≡ false
    → do_clash g f ≡ false
other_sided es f g mf mg one = elim (cases_Bool (g.symbol == f.symbol)) [
  | inl e ↦
      let same = eqb-true g.symbol f.symbol e in
      alike_apart es g f mg mf (ap (both es) same ∙ one) same
  | inr e ↦ ap (λ b. b && (all_share g.args f.args && are_opposed g.holds f.holds (same_value_of g.value f.value))) e
]

apart_in : (es : List Said) → ClashWithNone (λ f. both es f.symbol) (facts_in es)
apart_in es f g mf mg one = (one_sided es f g mf mg one, other_sided es f g mf mg one)

-- ---- entry by entry

all_or_none : (p : Fact → Bool) (b : Bool) (xs : List Fact) → ((x : Fact) → Has xs x → p x ≡ b)
    → filter p xs ≡ cond b xs []
all_or_none p true [] h = refl
all_or_none p false [] h = refl
all_or_none p true (x ∷ xs) h =
    ap (λ b. cond b (x ∷ filter p xs) (filter p xs)) (h x (inl refl))
    ∙ ap (λ ys. x ∷ ys) (all_or_none p true xs (λ y m. h y (inr m)))
all_or_none p false (x ∷ xs) h =
    ap (λ b. cond b (x ∷ filter p xs) (filter p xs)) (h x (inl refl))
    ∙ all_or_none p false xs (λ y m. h y (inr m))

whole_symbol : (all : List Said) (x : Subject) (s : ℕ) → gives_whole s x ≡ true → both all s ≡ is_opposable all x
whole_symbol all nothing_named s h = absurd (true≢false (sym h))
whole_symbol all an_element s h = absurd (true≢false (sym h))
whole_symbol all (a_type t d) s h = absurd (true≢false (sym h))
whole_symbol all (a_symbol r d) s h = ap (both all) (sym (eqb-true r s h))

of_entry : (all : List Said) (e : Said) → filter (λ f. both all f.symbol) (facts_of e)
    ≡ cond (is_opposable all e.subject) (facts_of e) []
of_entry all e = all_or_none (λ f. both all f.symbol) (is_opposable all e.subject) (facts_of e)
    (λ f m. whole_symbol all e.subject f.symbol (fact_says e f m).0)

joined : (b : Bool) (e : Said) (es : List Said) (rest : List Fact) → facts_in es ≡ rest
    → facts_in (cond b (e ∷ es) es) ≡ cond b (facts_of e) [] ++ rest
joined true e es rest h = ap (λ xs. facts_of e ++ xs) h
joined false e es rest h = h

by_entries : (all es : List Said) → facts_in (opposable all es) ≡ filter (λ f. both all f.symbol) (facts_in es)
by_entries all [] = refl
by_entries all (e ∷ es) =
    joined (is_opposable all e.subject) e (opposable all es) (filter (λ f. both all f.symbol) (facts_in es))
    (by_entries all es)
    ∙ ap (λ xs. xs ++ filter (λ f. both all f.symbol) (facts_in es)) (sym (of_entry all e))
    ∙ sym (filter-append (λ f. both all f.symbol) (facts_of e) (facts_in es))

pub same_notes : (types : List TypeDecl) (beside es : List Said) (o : Option KbFault)
    → fold (data_noted types beside) o (uses_of_facts [] (facts_in (opposable es es)))
    ≡ fold (data_noted types beside) o (uses_of_facts [] (facts_in es))
same_notes types beside es o =
    ap (λ fs. fold (data_noted types beside) o (uses_of_facts [] fs)) (by_entries es es)
    ∙ left_out types beside (λ f. both es f.symbol) (facts_in es) (apart_in es) [] (facts_in es) o (λ x m. m)

-- ---- signs, entry by entry

or_grouped : (a b c : Bool) → ((a || b) || c) ≡ (a || (b || c))
or_grouped true b c = refl
or_grouped false b c = refl

or_none : (a : Bool) → a ≡ (a || false)
or_none true = refl
or_none false = refl

pub next_sign : (p : Said → Bool) (es : List Entry) (i : ℕ) (e : Entry) (old new whole : Bool)
    → drop i es ≡ e ∷ drop (i + 1) es → new ≡ (old || p (said_view e))
    → (old || list_any p (map said_view (drop i es))) ≡ whole
    → (new || list_any p (map said_view (drop (i + 1) es))) ≡ whole
next_sign p es i e old new whole next added inv =
    let rest = list_any p (map said_view (drop (i + 1) es)) in
    ap (λ b. b || rest) added ∙ or_grouped old (p (said_view e)) rest
    ∙ sym (ap (λ xs. old || list_any p (map said_view xs)) next) ∙ inv

pub last_sign : (p : Said → Bool) (es : List Entry) (i : ℕ) (old whole : Bool) → drop i es ≡ []
    → (old || list_any p (map said_view (drop i es))) ≡ whole → old ≡ whole
last_sign p es i old whole none inv =
    or_none old ∙ sym (ap (λ xs. old || list_any p (map said_view xs)) none) ∙ inv

one_entry : (all : List Said) (e : Said) (es : List Said) (b : Bool)
    → facts_in (cond b (e ∷ opposable all es) (opposable all es)) ≡ facts_in (cond b (e ∷ []) [])
    ++ facts_in (opposable all es)
one_entry all e es true = ap (λ fs. fs ++ facts_in (opposable all es)) (sym (append-nil (facts_of e)))
one_entry all e es false = refl

pub next_opposable : (all : List Said) (es : List Entry) (i : ℕ) (e : Entry) (old new whole : List Fact)
    → drop i es ≡ e ∷ drop (i + 1) es → new ≡ old ++ facts_in (opposable all (said_view e ∷ []))
    → old ++ facts_in (opposable all (map said_view (drop i es))) ≡ whole
    → new ++ facts_in (opposable all (map said_view (drop (i + 1) es))) ≡ whole
next_opposable all es i e old new whole next added inv =
    let rest = map said_view (drop (i + 1) es) in
    ap (λ fs. fs ++ facts_in (opposable all rest)) added
    ∙ append_assoc old (facts_in (opposable all (said_view e ∷ []))) (facts_in (opposable all rest))
    ∙ ap (λ fs. old ++ fs) (sym (one_entry all (said_view e) rest (is_opposable all (said_view e).subject)))
    ∙ sym (ap (λ xs. old ++ facts_in (opposable all (map said_view xs))) next) ∙ inv
