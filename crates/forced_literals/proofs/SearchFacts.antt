-- What is asked of the searches, and what they find.
use Rattle.std.proofs.Common.{◌≡◌, ℕ, ◌+◌, ◌<◌, ◌≤◌, List, [], ◌∷◌, ◌++◌, map, length, take, get_or, All, Contains}
use Rattle.std.proofs.Common.{sym, ap, ◌∙◌, subst, arith, inl, inr, ◌⊎◌, ⊎_elim, not, refl}
use Rattle.std.proofs.Common.{slice_get, Some}
use Rattle.std.proofs.lemmas.Option.{slice_get_within, get_or_from_slice_get}
use Rattle.std.proofs.lemmas.List.{take_more, append_assoc, append-nil, length-map}
use Rattle.std.proofs.lemmas.List.Concat.{flat_map-append}
use Rattle.std.proofs.lemmas.List.Elements.{All-nil, All-cons, All-head, All-tail, All-contains, All-filter}
use Rattle.kb_logic.proofs.Has.{Has, contains_from, has_map}
use Rattle.lit_core.specs.declared.literals.Lit.{Lit}
use Rattle.lit_core.specs.Literals.{negated}
use Rattle.ground_core.specs.Problems.{ProblemState, IsLitOf, AreLitsOf}
use Rattle.ground_core.specs.declared.solving.Budget.{Budget}
use Rattle.ground_core.specs.Calls.{CallEnds, Costs, Keeps, Stays}
use Rattle.ground_core.specs.Solving.{AreUnretired, IsKept, IsLive, SolveState}
use Rattle.consequences.specs.declared.kept.Kept.{Kept}
use Rattle.consequences.specs.Forced.{AreForced, IsForced, IsFalseInSeen, Searches}
use Rattle.kept_supports.specs.Supports.{is_decided, undecided}
use Rattle.std.proofs.Common.{Bool}
use Rattle.forced_literals.specs.Searches.{AddsForced, both_signs}

-- both signs of one literal more
pub signed-more : (lits : List Lit) (i : ℕ) (l : Lit) → i < length lits → l ≡ get_or lits i l
    → both_signs (take (i + 1) lits) ≡ (both_signs (take i lits) ++ l ∷ []) ++ negated l ∷ []
signed-more lits i l lt is =
    ap both_signs (take_more lits i l lt ∙ ap (λ (x : Lit). take i lits ++ x ∷ []) (sym is))
    ∙ flat_map-append (λ (k : Lit). k ∷ negated k ∷ []) (take i lits) (l ∷ [])
    ∙ sym (append_assoc (both_signs (take i lits)) (l ∷ []) (negated l ∷ []))

pub signed-are : (n : ℕ) (lits : List Lit) → AreLitsOf n lits → AreLitsOf n (both_signs lits)
signed-are n [] h = All-nil (IsLitOf n)
signed-are n (l ∷ lits) h =
    let here : IsLitOf n l = All-head (IsLitOf n) l lits h in
    All-cons (IsLitOf n) l (negated l ∷ both_signs lits) here
    (All-cons (IsLitOf n) (negated l) (both_signs lits) here (signed-are n lits (All-tail (IsLitOf n) l lits h)))

pub more-lits : (n m : ℕ) (lits : List Lit) → n ≤ m → AreLitsOf n lits → AreLitsOf m lits
more-lits n m lits le h = λ k d lt. ((h k d lt).0, let x = (h k d lt).1 in omega (arith, x, le))

-- a literal that stands among them
pub var-below : (n : ℕ) (lits : List Lit) (k : ℕ) (l : Lit) → slice_get lits k ≡ Some l → AreLitsOf n lits
    → l.var.0 ≤ n
var-below n lits k l at h =
    subst (λ (x : Lit). x.var.0 ≤ n) (get_or_from_slice_get lits k l l at)
    (h k l (slice_get_within lits k l at)).1

module _ (p : ProblemState) (beyond : All (λ (l : Lit). length p.atoms < l.var.0) p.retired) (lits : List Lit)
    (of-atoms : AreLitsOf (length p.atoms) lits) where
  apart : (l k : Lit) → l.var.0 ≡ k.var.0 → Contains p.retired l → Contains lits k → ⊥
  apart l k same gone has =
      let x : length p.atoms < l.var.0 =
      All-contains (λ (j : Lit). length p.atoms < j.var.0) p.retired l beyond gone in
      let y = (All-contains (IsLitOf (length p.atoms)) lits k of-atoms has).1 in
      omega (arith, x, y, same)

  pub never-retired : AreUnretired p lits
  never-retired = λ l gone has. apart l l refl gone has

  pub always-live : IsLive p.retired lits
  always-live = λ l gone has. apart l (negated l) refl gone has

-- the variables of the literals
abbrev pub vars-of : List Lit → List ℕ
vars-of ls = map (λ l. l.var.0) ls

pub vars-count : (ls : List Lit) → length (vars-of ls) ≡ length ls
vars-count ls = length-map ls (λ (l : Lit). l.var.0)

searched-in : (all ls : List Lit) → ((l : Lit) → Has ls l → Has all l) → (atoms : ℕ) (seen : List (List Bool))
    → Searches (vars-of all) atoms seen (both_signs ls)
searched-in all [] among atoms seen =
    All-nil (λ (l : Lit). Contains (vars-of all) l.var.0 ⊎ IsFalseInSeen atoms seen l)
searched-in all (l ∷ ls) among atoms seen =
    let here : Contains (vars-of all) l.var.0 ⊎ IsFalseInSeen atoms seen l =
    inl (contains_from (vars-of all) l.var.0 (has_map (λ (k : Lit). k.var.0) all l (among l (inl refl)))) in
    let negative : Contains (vars-of all) (negated l).var.0 ⊎ IsFalseInSeen atoms seen (negated l) =
    inl (contains_from (vars-of all) l.var.0 (has_map (λ (k : Lit). k.var.0) all l (among l (inl refl)))) in
    All-cons (λ (k : Lit). Contains (vars-of all) k.var.0 ⊎ IsFalseInSeen atoms seen k) l (negated l ∷ both_signs ls)
    here
    (All-cons (λ (k : Lit). Contains (vars-of all) k.var.0 ⊎ IsFalseInSeen atoms seen k) (negated l) (both_signs ls)
    negative (searched-in all ls (λ k m. among k (inr m)) atoms seen))

pub searched : (ls : List Lit) (atoms : ℕ) (seen : List (List Bool))
    → Searches (vars-of ls) atoms seen (both_signs ls)
searched ls atoms seen = searched-in ls ls (λ l m. m) atoms seen

-- how the call ends
pub call-ends : (s t : SolveState) (b c : Budget) (atoms ask : List Lit) (last : ℕ) (seen : List (List Bool))
    → ask ≡ both_signs atoms → Keeps s t b c
    → ((vs : List ℕ) → Searches vs last seen ask → Costs (length vs + 1) s t b c) → IsKept t → Stays s t
    → CallEnds (length atoms + 1) s t b c
call-ends s t b c atoms ask last seen is keeps costs kept stays = record {
  keeps = keeps;
  costs = subst (λ n. Costs (n + 1) s t b c) (vars-count atoms)
      (costs (vars-of atoms) (subst (Searches (vars-of atoms) last seen) (sym is) (searched atoms last seen)));
  kept = kept;
  free = stays.free;
}

-- those of the literals of which nothing is kept are literals of the same variables
pub undecided-are : (n : ℕ) (ks : List Kept) (lits : List Lit) → AreLitsOf n lits → AreLitsOf n (undecided ks lits)
undecided-are n ks lits h = All-filter (λ (l : Lit). not (is_decided ks l)) (IsLitOf n) lits h

-- nothing was added to what is kept, or what was found
pub adds-nothing : (p : ProblemState) (assumed ask : List Lit) (cores : List (List Lit)) (old new : List Kept)
    → new ≡ old → AddsForced p assumed ask cores old new
adds-nothing p assumed ask cores old new is = record {
  more = [];
  kept = is ∙ sym (append-nil old);
  asked = tt;
  forced = All-nil (IsForced p assumed cores);
}

pub adds-found : (p : ProblemState) (assumed ask : List Lit) (cores : List (List Lit)) (found old new : List Kept)
    → AreForced p assumed ask cores found → new ≡ old ++ found → AddsForced p assumed ask cores old new
adds-found p assumed ask cores found old new h is = record {
  more = found;
  kept = is;
  asked = h.order;
  forced = h.forced;
}

pub adds-either : (p : ProblemState) (assumed ask : List Lit) (cores : List (List Lit)) (found old new : List Kept)
    → AreForced p assumed ask cores found → (new ≡ old) ⊎ (new ≡ old ++ found)
    → AddsForced p assumed ask cores old new
adds-either p assumed ask cores found old new h way =
    ⊎_elim (λ same. adds-nothing p assumed ask cores old new same)
    (λ is. adds-found p assumed ask cores found old new h is) way
