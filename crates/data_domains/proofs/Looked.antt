-- The type with a number, where there is one.
use Rattle.std.proofs.Common.{◌≡◌, ◌<◌, ℕ, zero, suc, false, List, [], ◌∷◌, ◌++◌, Option, None, Some}
use Rattle.std.proofs.Common.{length, unwrap_or, slice_get, get_or, refl, sym, ap, ◌∙◌}
use Rattle.std.proofs.Common.{arith, subst, ◌⊎◌, inl, inr}
use Rattle.std.specs.Option.{option_map}
use Rattle.std.proofs.lemmas.Option.{slice_get-map, slice_get-get_or}
use Rattle.kb_logic.specs.declared.vocabularies.TypeDecl.{TypeDecl}
use Rattle.stage_definitions.specs.Below.{type_above, type_parents}
use Rattle.stage_definitions.specs.Kinship.{is_under_a_number, top_of}
use Rattle.stage_definitions.specs.DataEntries.{Said}
use Rattle.stage_definitions.specs.DataDomains.{cells_if, cells_of, has_what_occurs, is_constructed}
use Rattle.stage_definitions.specs.DataDomains.{is_under_nat}
use Rattle.stage_definitions.specs.DataStage.{type_is}
use Rattle.stage_definitions.proofs.ChainEnds.{stays}
use Rattle.data_domains.specs.Sets.{IsSetOf}
use Rattle.data_domains.specs.Traits.{AreTraitsOf}
use Rattle.data_domains.specs.Lookups.{AreTraitsAt}
use Rattle.data_domains.specs.TypeSets.{AreTypesOf}
use Rattle.data_domains.specs.declared.traits.Traits.{Traits}
use Rattle.data_domains.specs.declared.types.TypeData.{TypeData}

pub some_beside : {A B : Type 0} (xs : List A) (ys : List B) (t : ℕ) (x : A) → length xs ≡ length ys
    → slice_get xs t ≡ Some x → (y : B) × (slice_get ys t ≡ Some y)
some_beside [] ys t x e h = let n : None ≡ Some x = h in absurd (cc)
some_beside (z ∷ xs) [] t x e h = absurd (omega (arith, e))
some_beside (z ∷ xs) (y ∷ ys) zero x e h = (y, refl)
some_beside (z ∷ xs) (y ∷ ys) (suc t) x e h = some_beside xs ys t x (omega (arith, e)) h

none_beside : {A B : Type 0} (xs : List A) (ys : List B) (t : ℕ) → length xs ≡ length ys → slice_get xs t ≡ None
    → slice_get ys t ≡ None
none_beside [] [] t e h = refl
none_beside [] (y ∷ ys) t e h = absurd (omega (arith, e))
none_beside (z ∷ xs) [] t e h = absurd (omega (arith, e))
none_beside (z ∷ xs) (y ∷ ys) zero e h = let n : Some z ≡ None = h in absurd (cc)
none_beside (z ∷ xs) (y ∷ ys) (suc t) e h = none_beside xs ys t (omega (arith, e)) h

pub set_at : (types : List TypeDecl) (es : List Said) (xs : List TypeData) (t : ℕ) (x : TypeData)
    → AreTypesOf types es xs → slice_get xs t ≡ Some x → IsSetOf (cells_of types es t) x.elements
set_at types es xs t x all h =
    let d = some_beside xs types t x all.count h in
    subst (λ cs. IsSetOf cs x.elements) (sym (ap (cells_if types es t) d.1)) (all.elements t d.0 x d.1 h)

pub no_cells : (types : List TypeDecl) (es : List Said) (xs : List TypeData) (t : ℕ) → AreTypesOf types es xs
    → slice_get xs t ≡ None → cells_of types es t ≡ []
no_cells types es xs t all h = ap (cells_if types es t) (none_beside xs types t all.count h)

at_from : (types : List TypeDecl) (es : List Said) (t : ℕ) (d : TypeDecl) (x : Traits) → slice_get types t ≡ Some d
    → AreTraitsOf types es t d x → AreTraitsAt types es t x
at_from types es t d x h r = record {
  constructed = r.constructed ∙ sym (ap (type_is is_constructed) h);
  occurs = r.occurs ∙ sym (ap (type_is (has_what_occurs es t)) h);
  number = r.number;
  natural = r.natural;
  above = r.above;
}

pub traits_found : (types : List TypeDecl) (es : List Said) (xs : List TypeData) (t : ℕ) (x : TypeData)
    → AreTypesOf types es xs → slice_get xs t ≡ Some x → AreTraitsAt types es t x.traits
traits_found types es xs t x all h =
    let d = some_beside xs types t x all.count h in
    at_from types es t d.0 x.traits d.1 (all.traits t d.0 x d.1 h)

no_parent : (types : List TypeDecl) (t : ℕ) → slice_get types t ≡ None
    → unwrap_or (slice_get (type_parents types) t) None ≡ None
no_parent types t h = ap (λ (o : Option (Option ℕ)). unwrap_or o None)
    (slice_get-map (λ (d : TypeDecl). type_above d.parent) types t
    ∙ ap (option_map (λ (d : TypeDecl). type_above d.parent)) h)

pub traits_missing : (types : List TypeDecl) (es : List Said) (xs : List TypeData) (t : ℕ) (x : Traits)
    → AreTypesOf types es xs → slice_get xs t ≡ None
    → x.constructed ≡ false → x.occurs ≡ false → x.number ≡ false → x.natural ≡ false → x.above ≡ None
    → AreTraitsAt types es t x
traits_missing types es xs t x all h c o n u a =
    let none = none_beside xs types t all.count h in
    let top : top_of types t ≡ t = stays (length types) (type_parents types) t (no_parent types t none) in
    record {
      constructed = c ∙ sym (ap (type_is is_constructed) none);
      occurs = o ∙ sym (ap (type_is (has_what_occurs es t)) none);
      number = n ∙ sym (ap (λ k. is_under_a_number (slice_get types k)) top ∙ ap is_under_a_number none);
      natural = u ∙ sym (ap (λ k. is_under_nat (slice_get types k)) top ∙ ap is_under_nat none);
      above = a ∙ sym (no_parent types t none);
    }

last_or : {X : Type 0} (xs : List X) (x y : X) (t : ℕ) → slice_get (xs ++ x ∷ []) t ≡ Some y → (slice_get xs t ≡ Some y)
    ⊎ ((t ≡ length xs) × (x ≡ y))
last_or [] x y zero h = let same : x ≡ y = cc in inr (refl, same)
last_or [] x y (suc t) h = let n : None ≡ Some y = h in absurd (cc)
last_or (z ∷ zs) x y zero h = inl h
last_or (z ∷ zs) x y (suc t) h = elim (last_or zs x y t h) [
  | inl e ↦ inl e
  | inr e ↦ inr (ap suc e.0, e.1)
]

-- one type more
pub pushed_each : (P : ℕ → TypeDecl → TypeData → Type 0) (types : List TypeDecl) (old new : List TypeData)
    (x : TypeData) (i : ℕ) (d : TypeDecl)
    → length old ≡ i → i < length types → d ≡ get_or types i d → new ≡ old ++ x ∷ [] → P i d x
    → ((t : ℕ) (e : TypeDecl) (y : TypeData) → slice_get types t ≡ Some e → slice_get old t ≡ Some y → P t e y)
    → (t : ℕ) (e : TypeDecl) (y : TypeData) → slice_get types t ≡ Some e → slice_get new t ≡ Some y → P t e y
pushed_each P types old new x i d len lt is more here before t e y h k =
    elim (last_or old x y t (sym (ap (λ xs. slice_get xs t) more) ∙ k)) [
      | inl o ↦ before t e y h o
      | inr o ↦
          let at : t ≡ i = o.0 ∙ len in
          let both : Some e ≡ Some d = sym h ∙ ap (slice_get types) at ∙ slice_get-get_or types i d lt
          ∙ ap (λ z. Some z) (sym is) in
          let type : d ≡ e = cc in
          subst (λ z. P t e z) o.1 (subst (λ z. P t z x) type (subst (λ n. P n d x) (sym at) here))
    ]
