-- What is pushed for each item of a list, and the counts of types.
use Rattle.std.proofs.Common.{◌≡◌, ◌<◌, ◌+◌, ℕ, zero, suc, List, [], ◌∷◌, ◌++◌, drop, get_or, length, map}
use Rattle.std.proofs.Common.{slice_get, unwrap_or, append_assoc, refl, sym, ap, ◌∙◌, subst, arith}
use Rattle.std.specs.List.{AllByRecursion}
use Rattle.kb_logic.specs.Structures.{domain_at}
use Rattle.kb_logic.proofs.Pairs.{all_at}
use Rattle.stage_definitions.specs.Elements as set
use Rattle.reading_laws.proofs.Counting.{listed_are_counted}
use Rattle.structure_entries.proofs.Dropped.{front}
use Rattle.data_domains.specs.declared.types.TypeData.{TypeData}
use Rattle.size_stage.specs.Counted.{count_in, elements_of, IsCountable}

-- one item more, of which each gives one of the list
pub pushed : {X Y : Type 0} (all : List X → List Y) (f : X → Y) → ((x : X) (xs : List X) → all (x ∷ xs) ≡ f x ∷ all xs)
    → (xs : List X) (i : ℕ) (x : X) (old new whole : List Y) (y : Y) → i < length xs → x ≡ get_or xs i x
    → new ≡ old ++ y ∷ [] → y ≡ f x → old ++ all (drop i xs) ≡ whole → new ++ all (drop (i + 1) xs) ≡ whole
pushed all f step xs i x old new whole y lt is more made inv =
    ap (λ ys. ys ++ all (drop (i + 1) xs)) (more ∙ ap (λ z. old ++ z ∷ []) made)
    ∙ append_assoc old (f x ∷ []) (all (drop (i + 1) xs))
    ∙ sym (ap (λ ys. old ++ ys) (ap all (front xs i x lt is) ∙ step x (drop (i + 1) xs)))
    ∙ inv

pub countable_at : (xs : List TypeData) (i : ℕ) (x : TypeData) → i < length xs → x ≡ get_or xs i x
    → AllByRecursion IsCountable xs → IsCountable x
countable_at xs i x lt is all = subst IsCountable (sym is) (all_at IsCountable xs i x lt all)

-- the number that the type's set has is that of its elements
pub counted_listed : (x : TypeData) (h : IsCountable x) → set.count_of h.cells ≡ count_in x
counted_listed x h = listed_are_counted h.cells ∙ ap length (sym h.same)

pub count_there : (xs : List TypeData) (t : ℕ) → unwrap_or (slice_get (map count_in xs) t) 0
    ≡ length (domain_at (map elements_of xs) t)
count_there [] t = refl
count_there (x ∷ xs) zero = refl
count_there (x ∷ xs) (suc t) = count_there xs t

pub none_mapped : {X Y : Type 0} (f : X → Y) (xs : List X) → length xs ≡ 0 → map f xs ≡ []
none_mapped f [] e = refl
none_mapped f (x ∷ xs) e = absurd (omega (arith, e))
