-- Steps of the walk, one after the other.
use Rattle.std.proofs.Common.{◌≡◌, ◌≤◌, ◌<◌, ◌+◌, ℕ, List, [], ◌∷◌, ◌++◌, length, ap, refl, ◌∙◌, map, take, get_or}
use Rattle.std.proofs.Common.{add-one, append-nil}
use Rattle.std.specs.List.{flat_map}
use Rattle.std.specs.Prelude.{Result, Ok, Err, OnOk, IfOk}
use Rattle.std.proofs.Math.Seq.{take-suc}
use Rattle.std.proofs.lemmas.Grind.{flat_map-append}
use Rattle.std.proofs.lemmas.List.{append_assoc, map-append}
use Rattle.stage_definitions.specs.Names.{Names}
use Rattle.stage_definitions.specs.NamesStage.{name_noted}
use Rattle.stage_definitions.specs.Scopes.{Text}
use Rattle.stage_definitions.specs.Uses.{Context, Use}
use Rattle.formula_names.specs.Steps.{context_of, names_known, IsStep}
use Rattle.formula_names.specs.declared.resolver.Resolver.{Resolver}
use Rattle.formula_names.proofs.ChainEnds.{noted_all, noted_twice}

pub same_names : (a b : Resolver) → b.known ≡ a.known → names_known b ≡ names_known a
same_names a b e = rw e refl

pub same_context : (a b : Resolver) → b.known ≡ a.known → b.scope ≡ a.scope → context_of b ≡ context_of a
same_context a b known scope = rw (known, scope) refl

-- what is made of two steps, after both of them
pub both : {A B C : Type 0} {r1 s1 : A} {r2 s2 : B} {made right : C} {first second inner : List Text}
    {us vs all : List Use} (a b c : Resolver)
    → IsStep a b r1 s1 first us → IsStep b c r2 s2 second vs → made ≡ right → second ≡ inner → all ≡ us ++ vs
    → IsStep a c made right inner all
both {us} {vs} a b c one two tree scope uses = record {
  tree = tree;
  known = two.known ∙ one.known;
  scope = two.scope ∙ scope;
  noted = rw uses (noted_twice (name_noted (names_known a)) a.earliest.first b.earliest.first c.earliest.first us vs
      one.noted (rw (same_names a b one.known) at two.noted));
}

-- what a loop has done that adds the operands of a chain: each operand x is F of it, and its uses are G of it
abbrev pub Adds : {X Y Z : Type 0} → Resolver → Resolver → (Names → List Text → Y → Z) → (Context → Y → List Use)
    → (X → Y) → List X → List Z → List Z → Type 0
Adds start now F G V done before items =
    IsStep start now items (before ++ map (F (names_known start) start.scope) (map V done)) start.scope
    (flat_map (G (context_of start)) (map V done))

-- one operand more
pub turn : {M X Y Z : Type 0} {m r : M} {items pushed : List Z} {z : Z} {us : List Use} (start now next : Resolver)
    (F : Names → List Text → Y → Z) (G : Context → Y → List Use) (V : X → Y) (more : List X) (i : ℕ) (x : X)
    (before : List Z)
    → Adds start now F G V (take i more) before items → IsStep now next m r now.scope us
    → pushed ≡ items ++ z ∷ [] → i < length more → x ≡ get_or more i x
    → z ≡ F (names_known now) now.scope (V x) → us ≡ G (context_of now) (V x)
    → Adds start next F G V (take (i + 1) more) before pushed
turn start now next F G V more i x before so_far step push lt is tree uses =
    let took : take (i + 1) more ≡ take i more ++ x ∷ [] = rw add-one (take-suc more i x lt ∙ rw (← is) refl) in
    let all : map V (take (i + 1) more) ≡ map V (take i more) ++ V x ∷ [] =
    rw took (map-append V (take i more) (x ∷ [])) in
    let names : names_known now ≡ names_known start = same_names start now so_far.known in
    both start now next so_far step
    (push ∙ rw (all, so_far.tree, tree, names, so_far.scope, map-append) (append_assoc before
    (map (F (names_known start) start.scope) (map V (take i more)))
    (F (names_known start) start.scope (V x) ∷ [])))
    so_far.scope
    (rw (all, flat_map-append, uses, same_context start now so_far.known so_far.scope)
    (ap (λ (vs : List Use). flat_map (G (context_of start)) (map V (take i more)) ++ vs)
    (append-nil (G (context_of start) (V x)))))

-- a chain: the step at its first operand, and then those of a loop over the others
pub chain : {A B X Y Z : Type 0} {r1 s1 : A} {made right : B} {us all : List Use} {items : List Z}
    (a b c : Resolver) (F : Names → List Text → Y → Z) (G : Context → Y → List Use) (V : X → Y)
    (more whole : List X) (i : ℕ) (before : List Z)
    → IsStep a b r1 s1 a.scope us → Adds b c F G V (take i more) before items → length more ≤ i → more ≡ whole
    → (items ≡ before ++ map (F (names_known a) a.scope) (map V (take i more)) → made ≡ right)
    → all ≡ us ++ flat_map (G (context_of a)) (map V whole)
    → IsStep a c made right a.scope all
chain {us} a b c F G V more whole i before one two ended is tree uses = record {
  tree = tree (rw (same_names a b one.known, one.scope) at two.tree);
  known = two.known ∙ one.known;
  scope = two.scope ∙ one.scope;
  noted = rw uses (noted_all (name_noted (names_known a)) (G (context_of a)) V a.earliest.first b.earliest.first
      c.earliest.first us more whole i one.noted (rw (same_names a b one.known, same_context a b one.known one.scope) at two.noted) ended is);
}

-- what holds of any value holds where there is one
pub on_ok_from : {T E : Type 0} (r : Result T E) (P : T → Type 0) (Q : Type 0) → IfOk r P → ((x : T) → P x → Q)
    → OnOk r Q
on_ok_from (Ok x) P Q p f = f x p
on_ok_from (Err e) P Q p f = tt
