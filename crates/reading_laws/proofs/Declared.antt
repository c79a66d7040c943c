-- What the stage of names accepts as types: names of elements that stand once, in types that stand alone.
use Rattle.std.proofs.Common.{◌≡◌, ℕ, zero, suc, ◌+◌, Bool, true, false, nat_lt, is_some, ◌||◌, List, [], ◌∷◌, ◌++◌}
use Rattle.std.proofs.Common.{length, map, fold, if◌then◌else◌, Option, None, Some, slice_get, refl, sym, ap, subst}
use Rattle.std.proofs.Common.{◌∙◌, Contains}
use Rattle.std.specs.List.{list_any}
use Rattle.std.specs.Str.{bytes_eq}
use Rattle.std.proofs.lemmas.Bool.{true≢false, false_from_ne_true}
use Rattle.std.proofs.lemmas.List.{append-nil, append_assoc, length-map}
use Rattle.std.proofs.lemmas.List.Elements.{Contains-append_left, Contains-append_right}
use Rattle.std.proofs.lemmas.List.Folds.{list_any-append}
use Rattle.kb_text.specs.declared.fault.K.TheVariants as k
use Rattle.kb_text.specs.declared.fault.KbFault.{KbFault}
use Rattle.kb_logic.specs.declared.elements.Elem.{Elem}
use Rattle.kb_logic.specs.declared.elements.Elem.TheVariants.{Named}
use Rattle.kb_logic.specs.declared.vocabularies.Parent.TheVariants as parent
use Rattle.kb_logic.specs.declared.vocabularies.TypeDecl.{TypeDecl}
use Rattle.grammar.specs.Trees.{Name}
use Rattle.stage_definitions.specs.Scopes.{Text}
use Rattle.stage_definitions.specs.Earliest.{refusal}
use Rattle.stage_definitions.specs.Files.{Declaration, type_under, constructed_type, symbol, File}
use Rattle.stage_definitions.specs.Names.{text_of, Meaning, a_type, made, Names, meaning_in, declared, number_types}
use Rattle.stage_definitions.specs.Names.{symbol_meaning, made_names, declared_names, with_names, names_of}
use Rattle.stage_definitions.specs.Uses.{Use, declares, counted, place_of_use, declared_uses, parent_uses}
use Rattle.stage_definitions.specs.Uses.{position_uses}
use Rattle.stage_definitions.specs.Uses.{uses_in_declarations, cycle_uses, uses_of_declarations, uses_in_theory}
use Rattle.stage_definitions.specs.Uses.{uses_in_block}
use Rattle.stage_definitions.specs.Uses as use_of
use Rattle.stage_definitions.specs.NamesStage.{is_redeclared, is_too_many, redeclared, too_large, NamesRefuse}
use Rattle.stage_definitions.specs.NamesStage.{declarations_of, uses_of_file}
use Rattle.stage_definitions.specs.Numbering.{types_in, type_places}
use Rattle.stage_definitions.specs.Elements.{same_element, with_element}
use Rattle.stage_definitions.specs.DataDomains.{is_constructed}
use Rattle.reading_laws.proofs.Members.{here, there}
use Rattle.std.specs.List.{flat_map}

-- ---- names that are not declared yet

new_only_by : (b c : Bool) (m : Meaning) (o : Option Meaning) → (if b then Some m else o) ≡ None
    → (b ≡ false) × (o ≡ None)
new_only_by true c m o h = let n : Some m ≡ None = h in absurd (cc)
new_only_by false c m o h = (refl, h)

new_only : (names : Names) (a : Text) (m : Meaning) (w : Text) → meaning_in (names ++ (a, m) ∷ []) w ≡ None
    → (meaning_in names w ≡ None) × (bytes_eq w a ≡ false)
new_only [] a m w h = (refl, (new_only_by (bytes_eq w a) true m None h).0)
new_only (e ∷ es) a m w h =
    let parts = new_only_by (bytes_eq w e.0) true e.1 (meaning_in (es ++ (a, m) ∷ []) w) h in
    let rest = new_only es a m w parts.1 in
    (ap (λ b. if b then Some e.1 else meaning_in es w) parts.0 ∙ rest.0, rest.1)

unknown_is : (o : Option Meaning) → is_some o ≡ false → o ≡ None
unknown_is None h = refl
unknown_is (Some m) h = absurd (true≢false h)

-- none of these uses declares a name again
abbrev AreNew : List Use → Type 0
AreNew us = (u : Use) → Contains us u → is_redeclared u ≡ false

new_tail : (v : Use) (us : List Use) → AreNew (v ∷ us) → AreNew us
new_tail v us h u c = h u (there v u us c)

neither : (a b : Bool) → a ≡ false → b ≡ false → (a || (b || false)) ≡ false
neither a b e f = ap (λ x. x || (b || false)) e ∙ ap (λ x. x || false) f

-- the names of elements are all different, and from these
made_once : (ty i : ℕ) (names : Names) (ns : List Name) (rest : List (Name × Meaning)) (xs : List Elem)
    → AreNew (declared_uses names (made_names ty i ns ++ rest)) → ((w : Text) → meaning_in names w ≡ None
    → list_any (same_element (Named w)) xs ≡ false)
    → fold with_element xs (map Named (map text_of ns)) ≡ xs ++ map Named (map text_of ns)
made_once ty i names [] rest xs new others = sym (append-nil xs)
made_once ty i names (n ∷ ns) rest xs new others =
    let w = text_of n in
    let m = made ty i in
    let us = declared_uses (declared names w m) (made_names ty (i + 1) ns ++ rest) in
    let unknown : meaning_in names w ≡ None = unknown_is (meaning_in names w)
    (new (declares names n) (here (declares names n) us)) in
    let pushed : with_element xs (Named w) ≡ xs ++ Named w ∷ [] = ap (λ b. if b then xs else xs ++ Named w ∷ [])
    (others w unknown) in
    let longer : declared names w m ≡ names ++ (w, m) ∷ [] = ap (λ (o : Option Meaning). if is_some o then names else
    names ++ (w, m) ∷ []) unknown in
    ap (λ ys. fold with_element ys (map Named (map text_of ns))) pushed
    ∙ made_once ty (i + 1) (declared names w m) ns rest (xs ++ Named w ∷ []) (new_tail (declares names n) us new)
    (λ q h. let parts = new_only names w m q (subst (λ (d : Names). meaning_in d q ≡ None) longer h) in
    list_any-append (same_element (Named q)) xs (Named w ∷ []) ∙ neither (list_any (same_element (Named q)) xs)
    (bytes_eq q w) (others q parts.0) parts.1)
    ∙ append_assoc xs (Named w ∷ []) (map Named (map text_of ns))

new_behind : (names : Names) (es ds : List (Name × Meaning)) → AreNew (declared_uses names (es ++ ds))
    → AreNew (declared_uses (with_names names es) ds)
new_behind names [] ds h = h
new_behind names (e ∷ es) ds h =
    new_behind (declared names (text_of e.0) e.1) es ds (new_tail (declares names e.0)
    (declared_uses (declared names (text_of e.0) e.1) (es ++ ds)) h)

-- ---- the types

abbrev IsOnce : TypeDecl → Type 0
IsOnce d = fold with_element [] (map Named d.made) ≡ map Named d.made

some_is : {X : Type 0} (x y : X) → Some x ≡ Some y → x ≡ y
some_is x y h = cc

once_in : (names before : Names) (t s : ℕ) (ds : List Declaration)
    → AreNew (declared_uses before (declared_names t s ds)) → (i : ℕ) (d : TypeDecl) → slice_get (types_in names ds) i
    ≡ Some d → IsOnce d
once_in names before t s [] new i d h = let n : None ≡ Some d = h in absurd (cc)
once_in names before t s (type_under n p ∷ ds) new zero d h = subst IsOnce (some_is _ d h) refl
once_in names before t s (type_under n p ∷ ds) new (suc i) d h =
    once_in names (declared before (text_of n) (a_type t)) (t + 1) s ds
    (new_tail (declares before n) (declared_uses (declared before (text_of n) (a_type t))
    (declared_names (t + 1) s ds)) new) i d h
once_in names before t s (constructed_type n ns ∷ ds) new zero d h =
    let after = declared before (text_of n) (a_type t) in
    subst IsOnce (some_is _ d h)
    (made_once t 0 after ns (declared_names (t + 1) s ds) [] (new_tail (declares before n)
    (declared_uses after (made_names t 0 ns ++ declared_names (t + 1) s ds)) new) (λ w e. refl))
once_in names before t s (constructed_type n ns ∷ ds) new (suc i) d h =
    let after = declared before (text_of n) (a_type t) in
    once_in names (with_names after (made_names t 0 ns)) (t + 1) s ds
    (new_behind after (made_names t 0 ns) (declared_names (t + 1) s ds)
    (new_tail (declares before n) (declared_uses after (made_names t 0 ns ++ declared_names (t + 1) s ds)) new)) i d
    h
once_in names before t s (symbol n args to ∷ ds) new i d h =
    let after = declared before (text_of n) (symbol_meaning s (length args) to) in
    once_in names after t (s + 1) ds (new_tail (declares before n)
    (declared_uses after (declared_names t (s + 1) ds)) new) i d h

abbrev StandsAlone : TypeDecl → Type 0
StandsAlone d = is_constructed d ≡ true → d.parent ≡ parent.Root

alone_in : (names : Names) (ds : List Declaration) (i : ℕ) (d : TypeDecl) → slice_get (types_in names ds) i ≡ Some d
    → StandsAlone d
alone_in names [] i d h = let n : None ≡ Some d = h in absurd (cc)
alone_in names (type_under n p ∷ ds) zero d h = subst StandsAlone (some_is _ d h) (λ e. absurd (true≢false (sym e)))
alone_in names (type_under n p ∷ ds) (suc i) d h = alone_in names ds i d h
alone_in names (constructed_type n ns ∷ ds) zero d h = subst StandsAlone (some_is _ d h) (λ e. refl)
alone_in names (constructed_type n ns ∷ ds) (suc i) d h = alone_in names ds i d h
alone_in names (symbol n args to ∷ ds) i d h = alone_in names ds i d h

-- none of these uses counts too many
abbrev AreFew : List Use → Type 0
AreFew us = (u : Use) → Contains us u → is_too_many u ≡ false

few_tail : (vs us : List Use) → AreFew (vs ++ us) → AreFew us
few_tail vs us h u c = h u (Contains-append_right vs us u c)

abbrev HasFew : TypeDecl → Type 0
HasFew d = nat_lt 65536 (length d.made) ≡ false

few_in : (names : Names) (t s : ℕ) (ds : List Declaration) → AreFew (uses_in_declarations t s ds)
    → (i : ℕ) (d : TypeDecl) → slice_get (types_in names ds) i ≡ Some d → HasFew d
few_in names t s [] few i d h = let n : None ≡ Some d = h in absurd (cc)
few_in names t s (type_under n p ∷ ds) few zero d h = subst HasFew (some_is _ d h) refl
few_in names t s (type_under n p ∷ ds) few (suc i) d h =
    few_in names (t + 1) s ds (few_tail (counted 256 (t + 1) n ∷ parent_uses p) (uses_in_declarations (t + 1) s ds) few)
    i d h
few_in names t s (constructed_type n ns ∷ ds) few zero d h =
    let later = uses_in_declarations (t + 1) s ds in
    subst HasFew (some_is _ d h)
    (ap (nat_lt 65536) (length-map ns text_of) ∙ few (counted 65536 (length ns) n)
    (there (counted 256 (t + 1) n) (counted 65536 (length ns) n) (counted 65536 (length ns) n ∷ later)
    (here (counted 65536 (length ns) n) later)))
few_in names t s (constructed_type n ns ∷ ds) few (suc i) d h =
    few_in names (t + 1) s ds (few_tail (counted 256 (t + 1) n ∷ counted 65536 (length ns) n ∷ [])
    (uses_in_declarations (t + 1) s ds) few) i d h
few_in names t s (symbol n args to ∷ ds) few i d h =
    few_in names t (s + 1) ds (few_tail (counted 1024 (s + 1) n ∷ counted 8 (length args) n ∷
    (map use_of.position args ++ position_uses to)) (uses_in_declarations t (s + 1) ds) few) i d h

as_many_places : (names : Names) (ds : List Declaration) → length (type_places ds) ≡ length (types_in names ds)
as_many_places names [] = refl
as_many_places names (type_under n p ∷ ds) = ap suc (as_many_places names ds)
as_many_places names (constructed_type n ns ∷ ds) = ap suc (as_many_places names ds)
as_many_places names (symbol n args to ∷ ds) = as_many_places names ds

-- ---- what a vocabulary has that is read

pub record AreDeclared (types : List TypeDecl) (places : List ℕ) : Type 0 where
  pub once : (t : ℕ) (d : TypeDecl) → slice_get types t ≡ Some d → IsOnce d
  pub alone : (t : ℕ) (d : TypeDecl) → slice_get types t ≡ Some d → StandsAlone d
  pub few : (t : ℕ) (d : TypeDecl) → slice_get types t ≡ Some d → HasFew d
  pub located : length places ≡ length types

among_file : (f : File) (u : Use) → Contains (uses_of_declarations (declarations_of f.vocabularies)) u
    → Contains (uses_of_file f) u
among_file f u c = Contains-append_left (uses_of_declarations (declarations_of f.vocabularies))
    (flat_map (uses_in_theory (names_of (declarations_of f.vocabularies))) f.theories ++ flat_map uses_in_block f.terms)
    u c

pub are_declared : (f : File) → ((q : KbFault) → NamesRefuse f q → ⊥)
    → AreDeclared (types_in (names_of (declarations_of f.vocabularies)) (declarations_of f.vocabularies))
    (type_places (declarations_of f.vocabularies))
are_declared f accepted =
    let ds = declarations_of f.vocabularies in
    let names = names_of ds in
    let first = declared_uses number_types (declared_names 0 0 ds) in
    let second = uses_in_declarations 0 0 ds in
    let third = cycle_uses ds in
    let new : AreNew first = λ u c. false_from_ne_true (is_redeclared u)
    (λ h. accepted (refusal k.Redeclared (place_of_use u)) (redeclared u
    (among_file f u (Contains-append_left (first ++ second) third u (Contains-append_left first second u c))) h)) in
    let few : AreFew second = λ u c. false_from_ne_true (is_too_many u)
    (λ h. accepted (refusal k.TooLarge (place_of_use u)) (too_large u
    (among_file f u (Contains-append_left (first ++ second) third u (Contains-append_right first second u c))) h))
    in
    record {
      once = once_in names number_types 0 0 ds new;
      alone = alone_in names ds;
      few = few_in names 0 0 ds few;
      located = as_many_places names ds;
    }
