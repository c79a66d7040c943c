-- Domains, type by type.
use Rattle.std.proofs.Common.{◌≡◌, ◌<◌, ◌≤◌, ◌+◌, ℕ, suc, List, [], ◌∷◌, ◌++◌, Some, drop, get_or, length, map}
use Rattle.std.proofs.Common.{slice_get, refl, sym, ap, ◌∙◌, subst, arith}
use Rattle.std.specs.List.{AllByRecursion, enumerate_from}
use Rattle.std.proofs.lemmas.List.{drop_all, drop_more}
use Rattle.kb_logic.specs.declared.elements.Elem.{Elem}
use Rattle.kb_logic.specs.declared.vocabularies.TypeDecl.{TypeDecl}
use Rattle.stage_definitions.specs.Elements as set
use Rattle.stage_definitions.specs.DataEntries.{Said}
use Rattle.stage_definitions.specs.DataDomains.{cells_by, domains_of}
use Rattle.structure_entries.specs.EntryViews.{cell_view}
use Rattle.data_domains.specs.TypeSets.{AreTypesOf}
use Rattle.data_domains.specs.declared.types.TypeData.{TypeData}
use Rattle.data_domains.proofs.Looked.{some_beside}
use Rattle.size_stage.specs.Counted.{IsCountable}

-- one item more of which each one after it makes all
pub next_all : {X : Type 0} (P : X → Type 0) (xs : List X) (i : ℕ) (d : X) → i < length xs → P (get_or xs i d)
    → (AllByRecursion P (drop i xs) → AllByRecursion P xs) → AllByRecursion P (drop (i + 1) xs) → AllByRecursion P xs
next_all P xs i d lt here inv rest = inv (subst (AllByRecursion P) (sym (drop_more xs i d lt)) (here, rest))

-- what stands for each type, where it is what stands for its number and its declaration
pub each_domain : (F : TypeData → List Elem) (G : ℕ × TypeDecl → List Elem) (n : ℕ) (xs : List TypeData)
    (ds : List TypeDecl) → length xs ≡ length ds
    → ((t : ℕ) (d : TypeDecl) (x : TypeData) → slice_get ds t ≡ Some d → slice_get xs t ≡ Some x → F x ≡ G (n + t, d))
    → map F xs ≡ map G (enumerate_from n ds)
each_domain F G n [] [] e h = refl
each_domain F G n [] (d ∷ ds) e h = absurd (omega (arith, e))
each_domain F G n (x ∷ xs) [] e h = absurd (omega (arith, e))
each_domain F G n (x ∷ xs) (d ∷ ds) e h =
    let at : n + 0 ≡ n = omega arith in
    ap (λ y. y ∷ map F xs) (h 0 d x refl refl ∙ ap (λ k. G (k, d)) at)
    ∙ ap (λ ys. G (n, d) ∷ ys) (each_domain F G (n + 1) xs ds (omega (arith, e))
    (λ t c y p q. further t c y (h (suc t) c y p q)))
  where
    further : (t : ℕ) (c : TypeDecl) (y : TypeData) → F y ≡ G (n + suc t, c) → F y ≡ G (n + 1 + t, c)
    further t c y k = let on : n + suc t ≡ n + 1 + t = omega arith in k ∙ ap (λ m. G (m, c)) on

pub all_domains : (decls : List TypeDecl) (es : List Said) (xs : List TypeData) → AreTypesOf decls es xs
    → map (λ (x : TypeData). set.listed (map cell_view x.cells.items)) xs ≡ domains_of decls es
all_domains decls es xs all = each_domain (λ (x : TypeData). set.listed (map cell_view x.cells.items))
    (λ (t : ℕ × TypeDecl). set.listed (cells_by decls es t.0 t.1)) 0 xs decls all.count
    (λ t d x p q. all.cells t d x p q ∙ from_zero t d)
  where
    from_zero : (t : ℕ) (d : TypeDecl) → set.listed (cells_by decls es t d) ≡ set.listed (cells_by decls es (0 + t) d)
    from_zero t d = let at : t ≡ 0 + t = omega arith in ap (λ k. set.listed (cells_by decls es k d)) at

nothing_more : (xs : List (List Elem)) → xs ++ [] ≡ xs
nothing_more [] = refl
nothing_more (x ∷ xs) = ap (λ ys. x ∷ ys) (nothing_more xs)

-- nothing is left
pub at_end : (F : TypeData → List Elem) (old : List (List Elem)) (xs : List TypeData) (i : ℕ) → length xs ≤ i
    → old ++ map F (drop i xs) ≡ map F xs → old ≡ map F xs
at_end F old xs i past inv = sym (nothing_more old) ∙ sym (ap (λ ys. old ++ map F ys) (drop_all i xs past)) ∙ inv

-- ---- sets

each_item : {X : Type 0} (P : X → Type 0) (xs : List X) → ((t : ℕ) (x : X) → slice_get xs t ≡ Some x → P x)
    → AllByRecursion P xs
each_item P [] h = tt
each_item P (x ∷ xs) h = (h 0 x refl, each_item P xs (λ t y e. h (suc t) y e))

-- each type's set has its elements
pub all_countable : (decls : List TypeDecl) (es : List Said) (xs : List TypeData) → AreTypesOf decls es xs
    → AllByRecursion IsCountable xs
all_countable decls es xs all = each_item IsCountable xs (λ t x h.
    let d = some_beside xs decls t x all.count h in
    record {
      cells = cells_by decls es t d.0;
      same = all.cells t d.0 x d.1 h;
      elements = all.elements t d.0 x d.1 h;
    })
