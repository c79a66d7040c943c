-- What marks say of a set of places.
use Rattle.std.proofs.Common.{◌≡◌, ℕ, zero, suc, ◌+◌, ◌-◌, ◌<◌, ◌≤◌, ◌==◌, true, List, [], ◌∷◌, ◌++◌, length, take}
use Rattle.std.proofs.Common.{refl}
use Rattle.std.proofs.Common.{sym, ap, ◌∙◌, inl, inr, ⊎_elim, arith, subst, Contains, Some, None, slice_index}
use Rattle.std.proofs.lemmas.Bool.{cases_eq, cases_lt, cond_both, eqb-true, false≢true}
use Rattle.std.proofs.lemmas.List.{get_or_past, get_or-take, length-take-le}
use Rattle.std.proofs.lemmas.List.Elements.{All-contains}
use Rattle.std.proofs.Common.{IfNone, IfSome, IsTrue, Option, slice_set}
use Rattle.std.proofs.lemmas.List.{get_or-set_other, get_or-set_same, length-set}
use Rattle.memchr.specs.Find.{IsLastByte, Passes, is_byte, places, places_from}
use Rattle.memchr.proofs.lemmas.CallerLemmas.{All-places}
use Rattle.memchr.proofs.lemmas.PlaceLemmas.{places_between-last, places_between-none}
use Rattle.lit_core.proofs.LiteralFacts.{Contains-head, Contains-tail, nothing_in_none}
use Rattle.conflict_analysis.specs.Marked.{HasAsLast, Inserts, PopsLast}

-- the places that are marked
abbrev pub marked : List ℕ → List ℕ
marked bs = places (is_byte 1) bs

-- there is a mark at this place
abbrev pub IsMark : List ℕ → ℕ → Type 0
IsMark bs k = Passes (is_byte 1) bs k

from-here : (bs : List ℕ) (i n k : ℕ) → i ≤ k → k < i + n → IsMark bs k → Contains (places_from (is_byte 1) bs i n) k
unfolding places_from
from-here bs i zero k low high m = absurd (omega (arith, low, high))
from-here bs i (suc n) k low high m =
    let later = places_from (is_byte 1) bs (i + 1) n in
    cond_both (is_byte 1 (slice_index bs i)) (i ∷ later) later (λ (ks : List ℕ). Contains ks k)
    (λ here. ⊎_elim
    (λ (e : i ≡ k). subst (Contains (i ∷ later)) e (Contains-head i later))
    (λ ne. Contains-tail i later k (from-here bs (i + 1) n k (omega (arith, low, ne)) (omega (arith, high)) m))
    (cases_eq i k))
    (λ miss. ⊎_elim
    (λ (e : i ≡ k). absurd (false≢true (sym miss ∙ subst (IsMark bs) (sym e) m)))
    (λ ne. from-here bs (i + 1) n k (omega (arith, low, ne)) (omega (arith, high)) m)
    (cases_eq i k))

-- a mark is one of a place of the set
pub marked-has : (bs : List ℕ) (k : ℕ) → k < length bs → IsMark bs k → Contains (marked bs) k
marked-has bs k lt m = from-here bs 0 (length bs - 0) k (omega arith) (omega (arith, lt)) m

-- a place of the set has a mark
pub marked-at : (bs : List ℕ) (k : ℕ) → Contains (marked bs) k → (k < length bs) × IsMark bs k
marked-at bs k has = All-contains (λ (j : ℕ). (j < length bs) × IsMark bs j) (marked bs) k (All-places (is_byte 1)
    bs) has

-- there is no mark past the end
mark-within : (bs : List ℕ) (k : ℕ) → IsMark bs k → k < length bs
mark-within bs k m = ⊎_elim (λ lt. lt) (λ le. let one : slice_index bs k ≡ 1 = eqb-true (slice_index bs k) 1 m in
    let none : slice_index bs k ≡ 0 = get_or_past bs k 0 le in absurd (omega (arith, one, none))) (cases_lt k
    (length bs))

-- one more mark is written
pub marked-more : (old new : List ℕ) (place : ℕ) → place < length new → IsMark new place
    → ((k : ℕ) → (k ≡ place → ⊥) → slice_index new k ≡ slice_index old k) → Inserts (marked old) place (marked new)
marked-more old new place lt m same = record {
  kept = λ k has. ⊎_elim
      (λ (e : k ≡ place). subst (Contains (marked new)) (sym e) (marked-has new place lt m))
      (λ ne. let is : IsMark new k = subst (λ (b : ℕ). is_byte 1 b ≡ true) (sym (same k ne)) (marked-at old k has).1 in
      marked-has new k (mark-within new k is) is)
      (cases_eq k place);
  has = marked-has new place lt m;
  from = λ k has. ⊎_elim
      (λ (e : k ≡ place). inr (sym e))
      (λ ne. let is : IsMark old k = subst (λ (b : ℕ). is_byte 1 b ≡ true) (same k ne) (marked-at new k has).1 in
      inl (marked-has old k (mark-within old k is) is))
      (cases_eq k place);
}

from-same : (a b : List ℕ) (i n : ℕ) → ((k : ℕ) → k < i + n → slice_index a k ≡ slice_index b k)
    → places_from (is_byte 1) a i n ≡ places_from (is_byte 1) b i n
unfolding places_from
from-same a b i zero same = refl
from-same a b i (suc n) same =
    let rest = from-same a b (i + 1) n (λ k lt. same k (omega (arith, lt))) in
    rw (same i (omega arith)) rw rest refl

-- the last mark and those after it are cut off
pub marked-cut : (bs : List ℕ) (k : ℕ) → IsLastByte (is_byte 1) bs (Some k)
    → PopsLast (marked bs) k (marked (take k bs))
marked-cut bs k last =
    let high : k < length bs = last.0.high in
    let len : length (take k bs) ≡ k = length-take-le k bs (omega (arith, high)) in
    let cut : marked (take k bs) ≡ places_from (is_byte 1) bs 0 (k - 0) =
    ap (λ (n : ℕ). places_from (is_byte 1) (take k bs) 0 (n - 0)) len
    ∙ from-same (take k bs) bs 0 (k - 0) (λ j lt. get_or-take k bs j 0 (omega (arith, lt))) in
    record {
      split = places_between-last (is_byte 1) bs 0 (length bs) k last.0 last.1
          ∙ ap (λ (ks : List ℕ). ks ++ k ∷ []) (sym cut);
      below = λ j has. let lt : j < length (take k bs) = (marked-at (take k bs) j has).0 in omega (arith, lt, len);
    }

-- the last mark is that of the last place
pub marked-last : (bs : List ℕ) (k : ℕ) → IsLastByte (is_byte 1) bs (Some k) → HasAsLast (marked bs) k
marked-last bs k last = record {
  has = marked-has bs k last.0.high last.1;
  most = λ j has. ⊎_elim
      (λ lt. absurd (last.0.after j (omega (arith, lt)) (marked-at bs j has).0 (marked-at bs j has).1))
      (λ le. le)
      (cases_lt k j);
}

-- where there is no mark, there is no place
pub marked-none : (bs : List ℕ) → IsLastByte (is_byte 1) bs None → marked bs ≡ []
marked-none bs none = places_between-none (is_byte 1) bs 0 (length bs) (omega arith) none

pub marked-nothing : marked [] ≡ []
marked-nothing = marked-none [] (λ k low lt. absurd (omega (arith, lt)))

pub last-none : (bs : List ℕ) (o : Option ℕ) → IsLastByte (is_byte 1) bs o → IfNone o (marked bs ≡ [])
last-none bs None h = marked-none bs h
last-none bs (Some k) h = tt

pub last-some : (bs : List ℕ) (o : Option ℕ) → IsLastByte (is_byte 1) bs o → IfSome o (HasAsLast (marked bs))
last-some bs None h = tt
last-some bs (Some k) h = marked-last bs k h

-- a set with a last place is not empty
pub last-not-empty : (ks : List ℕ) (k : ℕ) → HasAsLast ks k → ks ≡ [] → ⊥
last-not-empty ks k last e = nothing_in_none k (subst (λ (xs : List ℕ). Contains xs k) e last.has)

-- a mark is written where there is one for the place
pub marked-set : (old covered : List ℕ) (place : ℕ) → place < length covered
    → ((k : ℕ) → slice_index covered k ≡ slice_index old k) → Inserts (marked old) place (marked (slice_set covered
    place 1))
marked-set old covered place lt same = marked-more old (slice_set covered place 1) place
    (subst (λ (n : ℕ). place < n) (sym (length-set covered place 1)) lt)
    (subst (λ (b : ℕ). is_byte 1 b ≡ true) (sym (get_or-set_same covered place 1 0 lt)) refl)
    (λ k ne. get_or-set_other covered place k 1 0 ne ∙ same k)

-- past the end there is no place
pub marked-past : (bs : List ℕ) (k : ℕ) → (k < length bs → ⊥) → Contains (marked bs) k → ⊥
marked-past bs k past has = past (marked-at bs k has).0

-- what stands at a place says whether it is in the set
pub marked-if : (bs : List ℕ) (k b : ℕ) → k < length bs → b ≡ slice_index bs k
    → (IsTrue (b == 1) → Contains (marked bs) k) × (Contains (marked bs) k → IsTrue (b == 1))
marked-if bs k b lt is = (
  λ t. marked-has bs k lt (subst (λ (x : ℕ). is_byte 1 x ≡ true) is t),
  λ has. subst (λ (x : ℕ). is_byte 1 x ≡ true) (sym is) (marked-at bs k has).1,
)

-- marks that were only added say the same
pub marked-covered : (old covered : List ℕ) → ((k : ℕ) → slice_index covered k ≡ slice_index old k) → (k : ℕ)
    → Contains (marked covered) k → Contains (marked old) k
marked-covered old covered same k has =
    let is : IsMark old k = subst (λ (b : ℕ). is_byte 1 b ≡ true) (same k) (marked-at covered k has).1 in
    marked-has old k (mark-within old k is) is
