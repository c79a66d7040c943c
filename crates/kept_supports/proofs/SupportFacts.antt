-- What becomes of supports as choices come and go.
use Rattle.std.proofs.Common.{◌≡◌, ◌==◌, ℕ, true, List, [], ◌∷◌, ◌++◌, All, length, get_or, refl, sym, subst, inl, inr}
use Rattle.std.proofs.lemmas.Bool.{eqb-true}
use Rattle.kb_logic.specs.declared.structures.Literal.{Literal}
use Rattle.kb_logic.specs.Bases.{Base}
use Rattle.kb_logic.specs.Lists.{IsSublist}
use Rattle.kb_logic.specs.Structures.{EachWith}
use Rattle.lit_core.specs.declared.literals.Lit.{Lit}
use Rattle.atom_numbers.specs.Numbers.{HasNumber}
use Rattle.consequences.specs.declared.kept.Kept.{Kept}
use Rattle.ground_task.specs.Tasks.{atom_base}
use Rattle.kept_supports.specs.Laws.{ChoicesMayGrow, ChoicesMayGo}
use Rattle.kept_supports.specs.Supports.{IsSupported}
use Rattle.kept_supports.proofs.KeptFacts.{all-filter}

sublist-more : {A : Type 0} (xs ys : List A) (z : A) → IsSublist xs ys → IsSublist xs (ys ++ z ∷ [])
sublist-more [] ys z s = tt
sublist-more (x ∷ xs) [] z s = absurd s
sublist-more (x ∷ xs) (y ∷ ys) z (inl a) = inl (a.0, sublist-more xs ys z a.1)
sublist-more (x ∷ xs) (y ∷ ys) z (inr a) = inr (sublist-more (x ∷ xs) ys z a)

pub choices_may_grow : ChoicesMayGrow
choices_may_grow kb choices l ks all = λ i d lt. let k = all i d lt in record {
  literal = k.literal;
  number = k.number;
  some = k.some;
  chosen = record { among = sublist-more k.some choices l k.chosen.among; each = k.chosen.each };
  forces = k.forces;
}

nothing : (ls : List Lit) → length ls ≡ 0 → ls ≡ []
nothing [] e = refl
nothing (l ∷ ls) e = cc

none-with : {A B : Type 0} (R : A → B → Type 0) (xs : List A) (ys zs : List B) → ys ≡ zs → zs ≡ []
    → EachWith R xs ys → IsSublist xs []
none-with R [] ys zs is none h = tt
none-with R (x ∷ xs) [] zs is none h = absurd h
none-with R (x ∷ xs) (y ∷ ys) [] is none h = cc
none-with R (x ∷ xs) (y ∷ ys) (z ∷ zs) is none h = cc

alone : (kb : Base) (choices : List Literal) (k : Kept) → IsSupported kb choices k
    → (length k.support == 0) ≡ true → IsSupported kb [] k
alone kb choices k s e = record {
  literal = s.literal;
  number = s.number;
  some = s.some;
  chosen = record {
    among = none-with (HasNumber (atom_base kb)) s.some k.support [] (nothing k.support (eqb-true (length k.support) 0
        e)) refl s.chosen.each;
    each = s.chosen.each;
  };
  forces = s.forces;
}

pub choices_may_go : ChoicesMayGo
choices_may_go kb choices ks all =
    all-filter (IsSupported kb choices) (IsSupported kb []) (λ (k : Kept). length k.support == 0) ks
    (λ k s e. alone kb choices k s e) all
