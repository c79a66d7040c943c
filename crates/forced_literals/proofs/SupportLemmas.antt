-- Kept literals of a task and their supports, in the user's words and in the solver's.
use Rattle.std.proofs.Common.{◌≡◌, ℕ, Bool, true, List, [], ◌∷◌, ◌++◌, All, Contains, length, map, get_or}
use Rattle.std.proofs.Common.{refl, sym, ◌∙◌, ap, subst, inl, inr, ◌⊎◌, ⊎_elim}
use Rattle.std.specs.List.{AllByRecursion}
use Rattle.std.proofs.lemmas.List.Elements.{All-append, All-contains, All-nil, All-cons, All-head, All-tail}
use Rattle.std.proofs.lemmas.List.Elements.{All-weaker}
use Rattle.kb_logic.specs.declared.structures.Literal.{Literal}
use Rattle.kb_logic.specs.declared.structures.Structure.{Structure}
use Rattle.kb_logic.specs.Bases.{Base, IsModelUnder}
use Rattle.kb_logic.specs.InForce.{Forces as ForcesLiteral}
use Rattle.kb_logic.specs.KnownAtoms.{atoms_over}
use Rattle.kb_logic.specs.Lists.{IsSublist}
use Rattle.kb_logic.specs.Models.{HoldsIn, atom_of}
use Rattle.kb_logic.specs.Structures.{EachWith}
use Rattle.kb_logic.proofs.Has.{Has, has_get, contains_from, has_from}
use Rattle.lit_core.specs.declared.literals.Lit.{Lit}
use Rattle.ground_core.specs.Problems.{ProblemState, IsLitOf, AreLitsOf}
use Rattle.ground_core.proofs.Sublists.{sublist-all, sublist-skip}
use Rattle.partial_structures.specs.KnownAtoms.{value_at}
use Rattle.term_values.specs.GroundBases.{GroundBase, structure_of}
use Rattle.term_values.specs.KnownBases.{IsGroundBase}
use Rattle.atom_numbers.specs.Numbers.{HasNumber}
use Rattle.atom_numbers.specs.Unknown.{is_unknown}
use Rattle.atom_numbers.proofs.LiteralFacts.{one-number}
use Rattle.consequences.specs.declared.kept.Kept.{Kept}
use Rattle.consequences.specs.Forced.{Forces, IsForced, IsFree}
use Rattle.ground_task.specs.Choices.{AreChosen}
use Rattle.ground_task.specs.Tasks.{atom_base}
use Rattle.ground_task.proofs.TaskFacts.{holds-true, is-model, fine, atoms-number}
use Rattle.kept_supports.specs.Supports.{Covers, IsSupported, is_kept, kept_of}
use Rattle.kept_supports.proofs.KeptFacts.{Keeps, kept-there}
use Rattle.kb_logic.proofs.Tables.{passes_filter}
use Rattle.forced_literals.specs.OpenTasks.{IsOpenTaskOf}
use Rattle.forced_literals.specs.Searches.{AddsForced, AreForcedOf, both_signs}
use Rattle.forced_literals.proofs.NumberFacts.{literal-there}
use Rattle.forced_literals.proofs.AnswerFacts.{asked, forces-of, free-false, model-of}

-- the partners of some of the items
each-some : {A B : Type 0} (R : A → B → Type 0) (xs : List A) (ys zs : List B) → EachWith R xs ys → IsSublist zs ys
    → (ws : List A) × IsSublist ws xs × EachWith R ws zs
each-some R xs ys [] h s = ([], tt, tt)
each-some R [] [] (z ∷ zs) h s = absurd s
each-some R [] (y ∷ ys) (z ∷ zs) h s = absurd h
each-some R (x ∷ xs) [] (z ∷ zs) h s = absurd s
each-some R (x ∷ xs) (y ∷ ys) (z ∷ zs) h (inl s) =
    let r = each-some R xs ys zs h.1 s.1 in
    (x ∷ r.0, inl (refl, r.1), (subst (R x) (sym s.0) h.0, r.2))
each-some R (x ∷ xs) (y ∷ ys) (z ∷ zs) h (inr s) =
    let r = each-some R xs ys (z ∷ zs) h.1 s in
    (r.0, sublist-skip x r.0 xs r.1, r.2)

of-some : {A : Type 0} (P : A → Type 0) (xs ys : List A) → IsSublist xs ys → AllByRecursion P ys → AllByRecursion P xs
of-some P [] ys s all = tt
of-some P (x ∷ xs) [] s all = absurd s
of-some P (x ∷ xs) (y ∷ ys) (inl s) all = (subst P (sym s.0) all.0, of-some P xs ys s.1 all.1)
of-some P (x ∷ xs) (y ∷ ys) (inr s) all = of-some P (x ∷ xs) ys s all.1

-- what holds of the images holds of each
from-map : {A B : Type 0} (P : B → Type 0) (f : A → B) (xs : List A) → All P (map f xs) → All (λ x. P (f x)) xs
from-map P f [] h = All-nil (λ x. P (f x))
from-map P f (x ∷ xs) h =
    All-cons (λ y. P (f y)) x xs (All-head P (f x) (map f xs) h) (from-map P f xs (All-tail P (f x) (map f xs) h))

both-all : {A : Type 0} (P Q R : A → Type 0) (xs : List A) → ((x : A) → P x → Q x → R x) → All P xs → All Q xs
    → All R xs
both-all P Q R xs f h g = λ i d lt. f (get_or xs i d) (h i d lt) (g i d lt)

module _ (base : Base) (b : GroundBase) (p : ProblemState) (unknown : List Lit) (h : IsOpenTaskOf base b p unknown)
    (choices : List Literal) (lits : List Lit) (each : EachWith (HasNumber b) choices lits) where
  same : b ≡ atom_base base
  same = h.task.numbers

  good : IsGroundBase b
  good = fine base b p h.task

  some-under : (some : List Literal) (m : Structure) → IsSublist some choices → IsModelUnder base choices m
      → IsModelUnder base some m
  some-under some m is under = record {
    structure = under.structure;
    extends = under.extends;
    theory = under.theory;
    chosen = of-some (HoldsIn m) some choices is under.chosen;
  }

  -- what is kept is forced by the literals of all choices
  supported-forces : (k : Kept) → IsSupported base choices k → Forces p lits k.lit
  supported-forces k s = λ v sat true'.
      let under = is-model base b p h.task choices lits each v sat true' in
      let holds = s.forces (structure_of b v) (some-under s.some (structure_of b v) s.chosen.among under) in
      holds-true b good v s.literal k.lit (subst (λ (x : GroundBase). HasNumber x s.literal k.lit) (sym same) s.number)
      holds

  pub all-force : (ks : List Kept) → All (IsSupported base choices) ks → All (λ (k : Kept). Forces p lits k.lit) ks
  all-force ks all = All-weaker (IsSupported base choices) (λ (k : Kept). Forces p lits k.lit) supported-forces ks all

  -- and what a search found is supported by some of the choices
  forced-supported : (cores : List (List Lit)) (k : Kept)
      → IsLitOf (length (atoms_over b.vocabulary.symbols b.domains)) k.lit → IsForced p lits cores k
      → IsSupported base choices k
  forced-supported cores k within f =
      let l = literal-there b k.lit within in
      let some = each-some (HasNumber b) choices lits k.support each f.among in
      record {
        literal = l.0;
        number = subst (λ (x : GroundBase). HasNumber x l.0 k.lit) same l.1;
        some = some.0;
        chosen = subst (λ (x : GroundBase). AreChosen x choices k.support some.0) same
            (record { among = some.1; each = some.2 });
        forces = forces-of base b p unknown h some.0 k.support some.2 l.0 k.lit l.1 f.forces;
      }

  pub all-supported : (ask : List Lit) (cores : List (List Lit)) (old new : List Kept)
      → AreLitsOf (length p.atoms) ask → AddsForced p lits ask cores old new
      → All (IsSupported base choices) old → All (IsSupported base choices) new
  all-supported ask cores old new are adds before =
      let number : length p.atoms ≡ length (atoms_over b.vocabulary.symbols b.domains) =
      atoms-number base b p h.task in
      let within = subst (λ n. AreLitsOf n (map (λ (k : Kept). k.lit) adds.more)) number
      (sublist-all (IsLitOf (length p.atoms)) (map (λ (k : Kept). k.lit) adds.more) ask adds.asked are) in
      let found : All (IsSupported base choices) adds.more =
      both-all (λ (k : Kept). IsLitOf (length (atoms_over b.vocabulary.symbols b.domains)) k.lit) (IsForced p lits
      cores)
      (IsSupported base choices) adds.more (λ k w f. forced-supported cores k w f)
      (from-map (IsLitOf (length (atoms_over b.vocabulary.symbols b.domains))) (λ (k : Kept). k.lit) adds.more within)
      adds.forced in
      subst (All (IsSupported base choices)) (sym adds.kept)
      (All-append (IsSupported base choices) old adds.more before found)

  -- every literal of an unknown atom that is true in all models is kept
  pub covered : (ks : List Kept) (ls : List Lit) → ls ≡ kept_of ks (both_signs unknown)
      → AreForcedOf p lits (both_signs unknown) ls → Covers base (record { choices = choices }) ks
  covered ks ls is found = λ l lit n u forces.
      let number : HasNumber b l lit = subst (λ (x : GroundBase). HasNumber x l lit) (sym same) n in
      let there = listed l lit number in
      let a = asked base b p unknown h choices lits each l there u in
      let one : a.0 ≡ lit = one-number b good l a.0 lit a.2 number in
      let told = All-contains (λ (k : Lit). Contains ls k ⊎ IsFree p lits k) (both_signs unknown) a.0 found.others
      (contains_from (both_signs unknown) a.0 a.1) in
      subst (Keeps ks) one (⊎_elim
      (λ here. kept-there ks a.0 (passes_filter (is_kept ks) (both_signs unknown) a.0
      (has_from (kept_of ks (both_signs unknown)) a.0 (subst (λ (xs : List Lit). Contains xs a.0) is here))))
      (λ free. absurd (free-false base b p unknown h choices lits each l a.0 a.2 free
      (forces (structure_of b free.0) (model-of base b p unknown h choices lits each free.0 free.1 free.2))))
      told)
    where
      listed : (l : Literal) (lit : Lit) → HasNumber b l lit
          → Has (atoms_over base.known.symbols base.known.domains) (atom_of l)
      listed l lit n =
          let here : Has (atoms_over b.vocabulary.symbols b.domains) (atom_of l) =
          has_get (atoms_over b.vocabulary.symbols b.domains) n.place (atom_of l) n.atom in
          let moved : Has (atoms_over base.vocabulary.symbols base.known.domains) (atom_of l) =
          subst (λ (x : GroundBase). Has (atoms_over x.vocabulary.symbols x.domains) (atom_of l)) same here in
          subst (λ ss. Has (atoms_over ss base.known.domains) (atom_of l)) (sym h.data_of.symbols) moved
