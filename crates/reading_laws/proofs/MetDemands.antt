-- Demands that are met, where each variable's type is found: what no row of the stage of types refuses.
use Rattle.std.proofs.Common.{◌≡◌, ◌<◌, ℕ, suc, ◌+◌, false, List, [], ◌∷◌, ◌++◌, length, map, Option, Some, refl, sym}
use Rattle.std.proofs.Common.{ap, subst, ◌∙◌, arith, length-append}
use Rattle.std.specs.Prelude.{⊤}
use Rattle.std.specs.List.{AllByRecursion}
use Rattle.std.proofs.lemmas.Bool.{true≢false}
use Rattle.std.proofs.lemmas.List.{map-append}
use Rattle.kb_logic.specs.declared.vocabularies.Bound.{Bound}
use Rattle.kb_logic.specs.declared.vocabularies.TypeDecl.{TypeDecl}
use Rattle.kb_logic.specs.declared.vocabularies.Vocabulary.{Vocabulary}
use Rattle.kb_logic.specs.Bounds.{types_of}
use Rattle.kb_logic.specs.Typing.{HaveTypes}
use Rattle.stage_definitions.specs.Demands.{Finding, nothing, found, torn, Binding, Part, demand, scope, Parts}
use Rattle.stage_definitions.specs.Demands.{no_parts}
use Rattle.stage_definitions.specs.Demands.{more_parts, parts_of, binding_of}
use Rattle.stage_definitions.specs.NamedTrees.{NamedVar}
use Rattle.stage_definitions.specs.Typing.{settled_bindings, places_in, sides_in, by_places, by_sides, type_found}
use Rattle.stage_definitions.specs.Typing.{within}
use Rattle.stage_definitions.specs.TypedTrees.{found_by_places, found_by_sides, chosen, types_by_places, typed_from}
use Rattle.stage_definitions.specs.TypedTrees.{inside, typed_vars}
use Rattle.stage_definitions.specs.TypesStage.{TypeUse, binding, is_unmet, is_torn, is_nothing, is_type_clash}
use Rattle.stage_definitions.specs.TypesStage.{is_untyped}
use Rattle.stage_definitions.specs.TypesStage.{uses_at, uses_among}
use Rattle.reading_laws.proofs.Alls.{all_left, all_right}
use Rattle.reading_laws.proofs.Ranges.{IsFindingBelow, AreBindingsBelow, IsPartBelow, ArePartsBelow}

-- a type of these is found
abbrev pub IsFound : List TypeDecl → Binding → Type 0
IsFound types b = (t : ℕ) × (b.finding ≡ found t) × (t < length types)

abbrev mutual
  -- where the variables in scope have these types
  pub PartIsMet : List TypeDecl → List (Option ℕ) → Part → Type 0
  PartIsMet types sc (demand d) = is_unmet types sc d ≡ false
  PartIsMet types sc (scope bs ps) = AllByRecursion (IsFound types) bs × PartsAreMet types (within sc bs) ps

  pub PartsAreMet : List TypeDecl → List (Option ℕ) → Parts → Type 0
  PartsAreMet types sc no_parts = ⊤
  PartsAreMet types sc (more_parts p ps) = PartIsMet types sc p × PartsAreMet types sc ps

-- ---- from uses of which none is refused

pub record IsTypeFine (types : List TypeDecl) (u : TypeUse) : Type 0 where
  pub whole : is_type_clash types u ≡ false
  pub typed : is_untyped u ≡ false

abbrev pub AreTypesFine : List TypeDecl → List TypeUse → Type 0
AreTypesFine types us = AllByRecursion (IsTypeFine types) us

is_found : (types : List TypeDecl) (f : Finding) → is_torn f ≡ false → is_nothing f ≡ false
    → IsFindingBelow (length types) f → (t : ℕ) × (f ≡ found t) × (t < length types)
is_found types nothing h g l = absurd (true≢false g)
is_found types (found t) h g l = (t, refl, l)
is_found types torn h g l = absurd (true≢false h)

are_found : (types : List TypeDecl) (bs : List Binding) → AreTypesFine types (map binding bs)
    → AreBindingsBelow (length types) bs → AllByRecursion (IsFound types) bs
are_found types [] h l = tt
are_found types (b ∷ bs) h l = (is_found types b.finding h.0.whole h.0.typed l.0, are_found types bs h.1 l.1)

mutual
  part_met : (types : List TypeDecl) (sc : List (Option ℕ)) (p : Part) → AreTypesFine types (uses_at sc p)
      → IsPartBelow (length types) p → PartIsMet types sc p
  part_met types sc (demand d) h l = h.0.whole
  part_met types sc (scope bs ps) h l = (
    are_found types bs (all_left (IsTypeFine types) (map binding bs) (uses_among (within sc bs) ps) h) l.0,
    parts_met types (within sc bs) ps (all_right (IsTypeFine types) (map binding bs) (uses_among (within sc bs) ps) h)
        l.1,
  )

  pub parts_met : (types : List TypeDecl) (sc : List (Option ℕ)) (ps : Parts) → AreTypesFine types (uses_among sc ps)
      → ArePartsBelow (length types) ps → PartsAreMet types sc ps
  parts_met types sc no_parts h l = tt
  parts_met types sc (more_parts p ps) h l = (
    part_met types sc p (all_left (IsTypeFine types) (uses_at sc p) (uses_among sc ps) h) l.0,
    parts_met types sc ps (all_right (IsTypeFine types) (uses_at sc p) (uses_among sc ps) h) l.1,
  )

-- ---- parts with all that is found, in the scope of variables with these types

-- as they are written or by their places in around, and at last in the scope
abbrev pub AreMet : List TypeDecl → List (Option ℕ) → List ℕ → List Part → Type 0
AreMet types around sc ps = PartsAreMet types (map Some sc) (by_sides types around
    (by_places types (length around) (parts_of ps)))

module _ (types : List TypeDecl) (around : List (Option ℕ)) (sc : List ℕ) where
  pub met_left : (ps qs : List Part) → AreMet types around sc (ps ++ qs) → AreMet types around sc ps
  met_left [] qs h = tt
  met_left (p ∷ ps) qs h = (h.0, met_left ps qs h.1)

  pub met_right : (ps qs : List Part) → AreMet types around sc (ps ++ qs) → AreMet types around sc qs
  met_right [] qs h = h
  met_right (p ∷ ps) qs h = met_right ps qs h.1

-- ---- a list of variables, and what is demanded in its scope

settled_types : (types : List TypeDecl) (ps : Parts) (n : ℕ) (xs : List NamedVar)
    → map (λ (b : Binding). type_found b.finding) (settled_bindings types n (map binding_of xs) (λ m. places_in m ps))
    ≡ types_by_places types ps n xs
settled_types types ps n [] = refl
settled_types types ps n (x ∷ xs) = ap (λ (os : List (Option ℕ)). type_found (found_by_places types ps n x) ∷ os)
    (settled_types types ps (n + 1) xs)

as_many : (types : List TypeDecl) (ps : Parts) (n : ℕ) (xs : List NamedVar) → length (map binding_of xs)
    ≡ length (types_by_places types ps n xs)
as_many types ps n [] = refl
as_many types ps n (x ∷ xs) = ap suc (as_many types ps (n + 1) xs)

-- the bindings with all that is found
abbrev found_at_last : List TypeDecl → List (Option ℕ) → Parts → ℕ → List NamedVar → List Binding
found_at_last types inner ps n xs =
    settled_bindings types n (settled_bindings types n (map binding_of xs) (λ m. places_in m ps))
    (λ m. sides_in inner m (by_places types (length inner) ps))

found_is : (types : List TypeDecl) (f : Finding) (t : ℕ) → f ≡ found t → t < length types → (chosen f < length types)
    × (type_found f ≡ Some (chosen f))
found_is types nothing t e l = absurd (let no : ⊥ = cc in no)
found_is types (found u) t e l = let same : u ≡ t = cc in (omega (arith, same, l), refl)
found_is types torn t e l = absurd (let no : ⊥ = cc in no)

-- each variable has a type of the vocabulary, which is the one that is found
vars_found : (v : Vocabulary) (inner : List (Option ℕ)) (ps : Parts) (n : ℕ) (xs : List NamedVar)
    → AllByRecursion (IsFound v.types) (found_at_last v.types inner ps n xs)
    → HaveTypes v (typed_from v.types inner ps n xs)
    × (map (λ (b : Binding). type_found b.finding) (found_at_last v.types inner ps n xs)
    ≡ map Some (types_of (typed_from v.types inner ps n xs)))
vars_found v inner ps n [] h = (tt, refl)
vars_found v inner ps n (x ∷ xs) h =
    let first = found_is v.types (found_by_sides v.types inner ps n x) h.0.0 h.0.1 h.0.2 in
    let rest = vars_found v inner ps (n + 1) xs h.1 in (
      (first.0, rest.0),
      ap (λ (o : Option ℕ). o ∷ map (λ (b : Binding). type_found b.finding) (found_at_last v.types inner ps (n + 1) xs))
          first.1
          ∙ ap (λ (os : List (Option ℕ)). Some (chosen (found_by_sides v.types inner ps n x)) ∷ os) rest.1,
    )

module _ (v : Vocabulary) (around : List (Option ℕ)) (sc : List ℕ) (xs : List NamedVar) (ps : List Part) where
  abbrev placed : List Binding
  placed = settled_bindings v.types (length around) (map binding_of xs) (λ m. places_in m (parts_of ps))

  -- the variables at last, where these types are known of those in scope by their places, and so many are in scope
  abbrev last_by : List (Option ℕ) → ℕ → List Binding
  last_by inner n = settled_bindings v.types (length around) placed
      (λ m. sides_in inner m (by_places v.types n (parts_of ps)))

  abbrev IsScopeMet : List (Option ℕ) → ℕ → Type 0
  IsScopeMet inner n =
      AllByRecursion (IsFound v.types) (last_by inner n)
      × PartsAreMet v.types (within (map Some sc) (last_by inner n))
      (by_sides v.types inner (by_places v.types n (parts_of ps)))

  abbrev inner : List (Option ℕ)
  inner = inside v.types around xs ps

  known : within around placed ≡ inner
  known = ap (λ (os : List (Option ℕ)). around ++ os) (settled_types v.types (parts_of ps) (length around) xs)

  count : length around + length (map binding_of xs) ≡ length inner
  count =
      ap (λ k. length around + k) (as_many v.types (parts_of ps) (length around) xs)
      ∙ sym (length-append around (types_by_places v.types (parts_of ps) (length around) xs))

  abbrev vars : List Bound
  vars = typed_vars v.types around xs ps

  typed_scope : within (map Some sc) (last_by inner (length inner)) ≡ map Some (sc ++ types_of vars)
      → IsScopeMet inner (length inner) → AreMet v.types inner (sc ++ types_of vars) ps
  typed_scope e h = subst (λ (os : List (Option ℕ)). PartsAreMet v.types os
      (by_sides v.types inner (by_places v.types (length inner) (parts_of ps)))) e h.1

  -- the variables have types, and what is demanded in their scope is met there
  pub scope_met : AreMet v.types around sc (scope (map binding_of xs) (parts_of ps) ∷ [])
      → HaveTypes v vars × AreMet v.types inner (sc ++ types_of vars) ps
  scope_met h =
      let start : IsScopeMet (within around placed) (length around + length (map binding_of xs)) = h.0 in
      let met : IsScopeMet inner (length inner) =
      subst (λ (n : ℕ). IsScopeMet inner n) count (subst (λ (os : List (Option ℕ)). IsScopeMet os
      (length around + length (map binding_of xs))) known start) in
      let found = vars_found v inner (parts_of ps) (length around) xs met.0 in (
        found.0,
        typed_scope
            (ap (λ (os : List (Option ℕ)). map Some sc ++ os) found.1 ∙ sym (map-append Some sc (types_of vars)))
            met,
      )
