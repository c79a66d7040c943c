-- What a partial structure knows, as its rows say it.
use Rattle.std.proofs.Common.{◌≡◌, ℕ, suc, zero, ◌<◌, List, [], length, Bool, true, false, ◌||◌, ◌&&◌, ◌==◌, not, Some}
use Rattle.std.proofs.Common.{IfSome, refl, sym, ap, ◌∙◌, filter, subst, slice_set, replicate, cond, ◌+◌}
use Rattle.std.specs.List.{list_any, AllByRecursion}
use Rattle.kb_logic.specs.declared.elements.Elem.{Elem}
use Rattle.kb_logic.specs.Models.{GroundAtom}
use Rattle.kb_logic.specs.Structures.{IsDistinct}
use Rattle.partial_structures.specs.KnownAtoms.{KnownAtoms, IsAtomOver, atoms_over, same_atom, is_rival, value_at}
use Rattle.partial_structures.specs.KnownAtoms.{with_true, with_false, with_closed, nothing_known}
use Rattle.row_tries.specs.Words.{words_in, words_of}
use Rattle.row_tries.specs.Rows.{has_label, mark_of}
use Rattle.partial_structures.specs.AtomRows.{MadeTrue, MadeFalse, status_of}
use Rattle.partial_structures.specs.Flags.{is_closed}
use Rattle.partial_structures.specs.Counts.{added_by}
use Rattle.partial_structures.specs.Status.{is_yes, is_no, status, known_atoms}
use Rattle.partial_structures.specs.declared.partial.Partial.TheInside.{Inside}
use Rattle.row_tries.specs.declared.truths.Truth.{Truth}
use Rattle.row_tries.specs.declared.truths.Truth.TheVariants.{Yes, No, Unknown}
use Rattle.kb_logic.proofs.Has.{Has, filter-same, filter-none}
use Rattle.kb_logic.proofs.AllAtoms.{atom_listed, atom_kind, is_function}
use Rattle.partial_structures.proofs.Listed.{listed, value_is}
use Rattle.partial_structures.proofs.Labelled.{atom_labelled}
use Rattle.kb_logic.proofs.DistinctAtoms.{atoms_distinct}
use Rattle.partial_structures.proofs.Distinct.{length_more}
use Rattle.partial_structures.proofs.Statuses.{TrueAfter, FalseAfter, ClosedAfter, true_after, false_after, flag_after}
use Rattle.partial_structures.proofs.Statuses.{same_marks, empty_status}

pub value_from : (p : Inside) (k : KnownAtoms) (a : GroundAtom) (r : Truth) → known_atoms p ≡ k
    → IsAtomOver k.symbols k.domains a → r ≡ status p a → r ≡ value_at k a
value_from p k a r view is e =
    let over : IsAtomOver p.symbols p.domains a = subst (λ j. IsAtomOver j.symbols j.domains a) (sym view) is in
    e ∙ sym (value_is p.symbols p.domains (status p) a (atom_listed p.symbols p.domains a over))
    ∙ ap (λ j. value_at j a) view

-- two records of known atoms are equal where their parts are
known_by : (j k : KnownAtoms) → j.symbols ≡ k.symbols → j.domains ≡ k.domains → j.true_atoms ≡ k.true_atoms
    → j.false_atoms ≡ k.false_atoms → j ≡ k
known_by j k s d t f = λ i. record { symbols = s i; domains = d i; true_atoms = t i; false_atoms = f i }

-- the words of a partial structure after a change of its rows are the same
record IsChange (p q : Inside) : Type 0 where
  symbols : q.symbols ≡ p.symbols
  domains : q.domains ≡ p.domains

module _ (p q : Inside) (change : IsChange p q) where
  same_atoms : atoms_over q.symbols q.domains ≡ atoms_over p.symbols p.domains
  same_atoms = ap (λ s. atoms_over s q.domains) change.symbols ∙ ap (atoms_over p.symbols) change.domains

  true_list : (test : GroundAtom → Bool) → ((b : GroundAtom) → Has (atoms_over p.symbols p.domains) b
      → is_yes (status q b) ≡ test b) → (known_atoms q).true_atoms ≡ filter test (atoms_over p.symbols p.domains)
  true_list test h = ap (filter (λ b. is_yes (status q b))) same_atoms ∙ filter-same (λ b. is_yes (status q b)) test
      (atoms_over p.symbols p.domains) h

  false_list : (test : GroundAtom → Bool) → ((b : GroundAtom) → Has (atoms_over p.symbols p.domains) b
      → is_no (status q b) ≡ test b) → (known_atoms q).false_atoms ≡ filter test (atoms_over p.symbols p.domains)
  false_list test h = ap (filter (λ b. is_no (status q b))) same_atoms ∙ filter-same (λ b. is_no (status q b)) test
      (atoms_over p.symbols p.domains) h

  listed_true : (b : GroundAtom) → Has (atoms_over p.symbols p.domains) b → is_yes (status p b) ≡ list_any (same_atom b)
      (known_atoms p).true_atoms
  listed_true b m = sym (listed (atoms_over p.symbols p.domains) (λ c. is_yes (status p c)) b m)

  listed_false : (b : GroundAtom) → Has (atoms_over p.symbols p.domains) b → is_no (status p b) ≡ list_any (same_atom b)
      (known_atoms p).false_atoms
  listed_false b m = sym (listed (atoms_over p.symbols p.domains) (λ c. is_no (status p c)) b m)

  -- every status is as it was
  unchanged : ((b : GroundAtom) → status q b ≡ status p b) → known_atoms q ≡ known_atoms p
  unchanged h = known_by (known_atoms q) (known_atoms p) change.symbols change.domains
      (true_list (λ b. is_yes (status p b)) (λ b m. ap is_yes (h b)))
      (false_list (λ b. is_no (status p b)) (λ b m. ap is_no (h b)))

  made_true : (a : GroundAtom) → ((b : GroundAtom) → Has (atoms_over p.symbols p.domains) b
      → TrueAfter a b (status p b) (status q b)) → known_atoms q ≡ with_true (known_atoms p) a
  made_true a h = known_by (known_atoms q) (with_true (known_atoms p) a) change.symbols change.domains
      (true_list (λ b. same_atom a b || list_any (same_atom b) (known_atoms p).true_atoms) (λ b m. (h b m).yes_
      ∙ ap (λ t. same_atom a b || t) (listed_true b m)))
      (false_list (λ b. is_rival a b || list_any (same_atom b) (known_atoms p).false_atoms) (λ b m. (h b m).no_
      ∙ ap (λ t. is_rival a b || t) (listed_false b m)))

  made_false : (a : GroundAtom) → ((b : GroundAtom) → Has (atoms_over p.symbols p.domains) b
      → FalseAfter a b (status p b) (status q b)) → known_atoms q ≡ with_false (known_atoms p) a
  made_false a h = known_by (known_atoms q) (with_false (known_atoms p) a) change.symbols change.domains
      (true_list (λ b. is_yes (status p b)) (λ b m. (h b m).yes_))
      (false_list (λ b. same_atom a b || list_any (same_atom b) (known_atoms p).false_atoms) (λ b m. (h b m).no_
      ∙ ap (λ t. same_atom a b || t) (listed_false b m)))

  was_closed : (s : ℕ) → ((b : GroundAtom) → ClosedAfter s b (status p b) (status q b))
      → known_atoms q ≡ with_closed (known_atoms p) s
  was_closed s h = known_by (known_atoms q) (with_closed (known_atoms p) s) change.symbols change.domains
      (true_list (λ b. is_yes (status p b)) (λ b m. (h b).yes_))
      (false_list (λ b. ((b.symbol == s) && not (list_any (same_atom b) (known_atoms p).true_atoms)) || list_any
      (same_atom b) (known_atoms p).false_atoms)
      (λ b m. (h b).no_ ∙ ap (λ t. ((b.symbol == s) && not t) || is_no (status p b)) (listed_true b m)
      ∙ ap (λ t. ((b.symbol == s) && not (list_any (same_atom b) (known_atoms p).true_atoms)) || t)
      (listed_false b m)))

-- the rows have changed, and the words have not
pub record RowsChange (p q : Inside) : Type 0 where
  pub symbols : q.symbols ≡ p.symbols
  pub domains : q.domains ≡ p.domains
  pub closed : q.closed ≡ p.closed
  pub words : q.rows.words ≡ p.rows.words

module _ (p q : Inside) (k : KnownAtoms) (view : known_atoms p ≡ k) (change : RowsChange p q) where
  status_now : (b : GroundAtom) → status q b ≡ status_of (words_in p.rows.words) q.rows.nodes.entries
      (is_closed p.closed.items b.symbol) b.symbol b.args b.value
  status_now b =
      ap (λ w. status_of (words_in w) q.rows.nodes.entries (is_closed q.closed.items b.symbol) b.symbol b.args
      b.value) change.words
      ∙ ap (λ c. status_of (words_in p.rows.words) q.rows.nodes.entries (is_closed c.items b.symbol) b.symbol b.args
      b.value) change.closed

  -- each row has the mark that it had
  pub kept_all : ((s : ℕ) (xs : List Elem) → mark_of (words_in p.rows.words) q.rows.nodes.entries s xs
      ≡ mark_of (words_in p.rows.words) p.rows.nodes.entries s xs) → known_atoms q ≡ k
  kept_all h = unchanged p q (record { symbols = change.symbols; domains = change.domains }) (λ b. status_now b
      ∙ same_marks (words_in p.rows.words) p.rows.nodes.entries q.rows.nodes.entries (is_closed p.closed.items b.symbol)
      h b.symbol b.args b.value) ∙ view

  pub set_true_after : (a : GroundAtom) → words_in p.rows.words ≡ words_of p.domains → IsAtomOver k.symbols k.domains a
      → is_no (status p a) ≡ false
      → MadeTrue (words_in p.rows.words) p.rows.nodes.entries q.rows.nodes.entries a.symbol a.args a.value
      → known_atoms q ≡ with_true k a
  set_true_after a words is clash made =
      let over : IsAtomOver p.symbols p.domains a = subst (λ j. IsAtomOver j.symbols j.domains a) (sym view) is in
      let here = atom_listed p.symbols p.domains a over in
      let labels : (x : Elem) → a.value ≡ Some x → has_label (words_in p.rows.words) x ≡ true =
      (λ x e. ap (λ w. has_label w x) words ∙ subst (λ v. IfSome v (λ y. has_label (words_of p.domains) y ≡ true)) e
      (atom_labelled p.symbols p.domains a over)) in
      made_true p q (record { symbols = change.symbols; domains = change.domains }) a (λ b m.
      subst (TrueAfter a b (status p b)) (sym (status_now b))
      (true_after (words_in p.rows.words) p.rows.nodes.entries q.rows.nodes.entries (is_closed p.closed.items)
      (is_function p.symbols) a.symbol a.args a.value made clash
      (atom_kind p.symbols p.domains a here) labels b.symbol b.args b.value (atom_kind p.symbols p.domains b m)))
      ∙ ap (λ j. with_true j a) view

  pub set_false_after : (a : GroundAtom) → IsAtomOver k.symbols k.domains a → is_yes (status p a) ≡ false
      → MadeFalse (words_in p.rows.words) p.rows.nodes.entries q.rows.nodes.entries a.symbol a.args a.value
      → known_atoms q ≡ with_false k a
  set_false_after a is clash made =
      let over : IsAtomOver p.symbols p.domains a = subst (λ j. IsAtomOver j.symbols j.domains a) (sym view) is in
      let here = atom_listed p.symbols p.domains a over in
      made_false p q (record { symbols = change.symbols; domains = change.domains }) a (λ b m.
      subst (FalseAfter a b (status p b)) (sym (status_now b))
      (false_after (words_in p.rows.words) p.rows.nodes.entries q.rows.nodes.entries (is_closed p.closed.items)
      (is_function p.symbols) a.symbol a.args a.value made clash
      (atom_kind p.symbols p.domains a here) b.symbol b.args b.value (atom_kind p.symbols p.domains b m)))
      ∙ ap (λ j. with_false j a) view

-- a flag has been set
pub closed_after : (p q : Inside) (k : KnownAtoms) (s : ℕ) → known_atoms p ≡ k → q.symbols ≡ p.symbols
    → q.domains ≡ p.domains → q.rows ≡ p.rows → q.closed.items ≡ slice_set p.closed.items s true
    → s < length p.closed.items
    → known_atoms q ≡ with_closed k s
closed_after p q k s view symbols domains rows set within =
    was_closed p q (record { symbols = symbols; domains = domains }) s (λ b.
    subst (ClosedAfter s b (status p b))
    (sym (ap (λ r. status_of (words_in r.words) r.nodes.entries (is_closed q.closed.items b.symbol) b.symbol b.args
    b.value) rows
    ∙ ap (λ c. status_of (words_in p.rows.words) p.rows.nodes.entries (is_closed c b.symbol) b.symbol b.args
    b.value) set))
    (flag_after (words_in p.rows.words) p.rows.nodes.entries p.closed.items s within b))
    ∙ ap (λ j. with_closed j s) view

-- nothing is known where there are no rows and no flags
pub nothing : (p : Inside) → p.rows.nodes.entries ≡ [] → ((s : ℕ) → is_closed p.closed.items s ≡ false)
    → known_atoms p ≡ nothing_known p.symbols p.domains
nothing p rows flags =
    let unknown : (b : GroundAtom) → status p b ≡ Unknown =
    (λ b. ap (λ es. status_of (words_in p.rows.words) es (is_closed p.closed.items b.symbol) b.symbol b.args
    b.value) rows
    ∙ ap (λ f. status_of (words_in p.rows.words) [] f b.symbol b.args b.value) (flags b.symbol)
    ∙ empty_status (words_in p.rows.words) b.symbol b.args b.value) in
    known_by (known_atoms p) (nothing_known p.symbols p.domains) refl refl
    (filter-none (λ b. is_yes (status p b)) (atoms_over p.symbols p.domains) (λ b. ap is_yes (unknown b)))
    (filter-none (λ b. is_no (status p b)) (atoms_over p.symbols p.domains) (λ b. ap is_no (unknown b)))

-- flags that are all down
none_up : (n s : ℕ) → is_closed (replicate n false) s ≡ false
none_up zero s = refl
none_up (suc n) zero = refl
none_up (suc n) (suc s) = none_up n s

pub all_down : (fs : List Bool) (n : ℕ) → fs ≡ replicate n false → (s : ℕ) → is_closed fs s ≡ false
all_down fs n e s = ap (λ l. is_closed l s) e ∙ none_up n s

pub is_value : (p : Inside) (k : KnownAtoms) (a : GroundAtom) (t : Truth) → known_atoms p ≡ k
    → IsAtomOver k.symbols k.domains a → status p a ≡ t → value_at k a ≡ t
is_value p k a t view is e = sym (value_from p k a t view is (sym e))

is_no_No : (t : Truth) → (t ≡ No → ⊥) → is_no t ≡ false
is_no_No Yes ne = refl
is_no_No No ne = absurd (ne refl)
is_no_No Unknown ne = refl

is_yes_Yes : (t : Truth) → (t ≡ Yes → ⊥) → is_yes t ≡ false
is_yes_Yes Yes ne = absurd (ne refl)
is_yes_Yes No ne = refl
is_yes_Yes Unknown ne = refl

pub not_no : (t u : Truth) → u ≡ t → (u ≡ No → ⊥) → is_no t ≡ false
not_no t u e ne = is_no_No t (λ f. ne (e ∙ f))

pub not_yes : (t u : Truth) → u ≡ t → (u ≡ Yes → ⊥) → is_yes t ≡ false
not_yes t u e ne = is_yes_Yes t (λ f. ne (e ∙ f))

-- the same rows, flags and words
pub copied : (p q : Inside) (k : KnownAtoms) → known_atoms p ≡ k → q.symbols ≡ p.symbols → q.domains ≡ p.domains
    → q.closed.items ≡ p.closed.items → words_in q.rows.words ≡ words_in p.rows.words
    → q.rows.nodes.entries ≡ p.rows.nodes.entries → known_atoms q ≡ k
copied p q k view symbols domains closed words nodes =
    unchanged p q (record { symbols = symbols; domains = domains }) (λ b.
    ap (λ c. status_of (words_in q.rows.words) q.rows.nodes.entries (is_closed c b.symbol) b.symbol b.args
    b.value) closed
    ∙ ap (λ w. status_of w q.rows.nodes.entries (is_closed p.closed.items b.symbol) b.symbol b.args b.value) words
    ∙ ap (λ es. status_of (words_in p.rows.words) es (is_closed p.closed.items b.symbol) b.symbol b.args b.value) nodes)
    ∙ view

added : (t : Truth) → is_no t ≡ false → cond (is_yes t) 0 1 ≡ added_by t
added Yes h = refl
added No h = refl
added Unknown h = refl

-- the number of true atoms after one more was made true
pub true_count : (p q : Inside) (a : GroundAtom) (t : Truth) (n : ℕ) → AllByRecursion IsDistinct p.domains
    → p.count ≡ length (known_atoms p).true_atoms → IsAtomOver p.symbols p.domains a
    → known_atoms q ≡ with_true (known_atoms p) a → t ≡ status p a → is_no t ≡ false → n ≡ p.count + added_by t
    → n ≡ length (known_atoms q).true_atoms
true_count p q a t n distinct counted over after is clash number =
    let atoms = atoms_over p.symbols p.domains in
    let here = atom_listed p.symbols p.domains a over in
    let Q = λ (b : GroundAtom). is_yes (status p b) in
    let lists : filter (λ b. same_atom a b || list_any (same_atom b) (known_atoms p).true_atoms) atoms
    ≡ filter (λ b. same_atom a b || Q b) atoms =
    filter-same (λ b. same_atom a b || list_any (same_atom b) (known_atoms p).true_atoms) (λ b. same_atom a b || Q b)
    atoms (λ b m. ap (λ u. same_atom a b || u) (listed atoms Q b m)) in
    let size : length (known_atoms q).true_atoms ≡ length (filter Q atoms) + cond (Q a) 0 1 =
    ap (λ k. length k.true_atoms) after ∙ ap length lists ∙ length_more Q a atoms
    (atoms_distinct p.symbols p.domains distinct) here in
    let one : cond (Q a) 0 1 ≡ added_by t = ap (λ u. cond (is_yes u) 0 1) (sym is) ∙ added t clash in
    number ∙ ap (λ m. m + added_by t) counted ∙ sym (size ∙ ap (λ m. length (filter Q atoms) + m) one)

-- the same number where the true atoms are the same
pub same_count : (p q : Inside) (k : KnownAtoms) → p.count ≡ length (known_atoms p).true_atoms → known_atoms q ≡ k
    → k.true_atoms ≡ (known_atoms p).true_atoms → p.count ≡ length (known_atoms q).true_atoms
same_count p q k counted view same = counted ∙ sym (ap (λ j. length j.true_atoms) view ∙ ap length same)
