use Rattle.std.specs.Prelude.{Result, Ok, Err, OnOk, OnErr}
use Rattle.std.proofs.Common.{◌≡◌, ◌∙◌, ℕ, List, IfSome, length, refl, sym, ap, subst, All, IsTrue}
use Rattle.kb_logic.specs.declared.elements.Elem.{Elem}
use Rattle.kb_logic.specs.Models.{GroundAtom}
use Rattle.partial_structures.specs.KnownAtoms.{KnownAtoms, IsAtomOver, value_at, with_false}
use Rattle.partial_structures.specs.Elements.{labels_in, HasElements}
use Rattle.row_tries.specs.Words.{words_in}
use Rattle.partial_structures.specs.Lent.{lent_atom}
use Rattle.row_tries.specs.Lent.{lent_view}
use Rattle.partial_structures.specs.AtomRows.{MadeFalse}
use Rattle.row_tries.specs.Rows.{has_label, mark_of}
use Rattle.partial_structures.specs.Status.{status, known_atoms}
use Rattle.row_tries.specs.declared.truths.Truth.TheVariants.{Yes}
use Rattle.partial_structures.proofs.Labelled.{args_labelled, atom_labelled, each_seen}
use Rattle.partial_structures.specs.declared.partial.Partial.TheInside.{Inside}
use Rattle.partial_structures.proofs.Views.{RowsChange, value_from, not_yes, kept_all, set_false_after}
use Rattle.partial_structures.proofs.partial.Partial.deny.Goals as goal

pub make_lent_false-requires : goal.make_lent_false-requires
make_lent_false-requires c =
    let p = c.self.inside in
    let a = lent_atom c.args.symbol c.args.args.now c.args.value in
    let over : IsAtomOver p.symbols p.domains a =
    subst (λ k. IsAtomOver k.symbols k.domains a) (sym c.self.view_is) c.requires.over in
    record {
      args = each_seen (λ x. IsTrue (has_label (words_in p.rows.words) x)) lent_view c.args.args.now
          (subst (λ ws. All (λ x. IsTrue (has_label ws x)) a.args) (sym c.self.invariant.words)
          (args_labelled p.symbols p.domains a over));
      value = subst (λ ws. IfSome a.value (λ x. IsTrue (has_label ws x))) (sym c.self.invariant.words)
          (atom_labelled p.symbols p.domains a over);
    }

-- what the rows say is what is known, where the atom was made false and where there was no memory
known_after : {A E : Type 0} (p q : Inside) (k : KnownAtoms) → known_atoms p ≡ k → RowsChange p q → (a : GroundAtom)
    → IsAtomOver k.symbols k.domains a → (value_at k a ≡ Yes → ⊥) → (r : Result A E)
    → OnOk r (MadeFalse (words_in p.rows.words) p.rows.nodes.entries q.rows.nodes.entries a.symbol a.args a.value)
    → OnErr r ((s : ℕ) (xs : List Elem) → mark_of (words_in p.rows.words) q.rows.nodes.entries s xs
    ≡ mark_of (words_in p.rows.words) p.rows.nodes.entries s xs)
    → OnOk r (known_atoms q ≡ with_false k a) × OnErr r (known_atoms q ≡ k)
known_after p q k view change a over free (Ok y) ok err =
    let said = value_from p k a (status p a) view over refl in
    let clash = not_yes (status p a) (status p a) refl (λ v. free (sym said ∙ v)) in
    (set_false_after p q k view change a over clash ok, tt)
known_after p q k view change a over free (Err e) ok err = (tt, kept_all p q k view change err)

-- the true atoms are as many as before
as_many : {A E : Type 0} (p q : Inside) (k : KnownAtoms) (a : GroundAtom) → p.count ≡ length k.true_atoms
    → (r : Result A E) → OnOk r (known_atoms q ≡ with_false k a) → OnErr r (known_atoms q ≡ k)
    → p.count ≡ length (known_atoms q).true_atoms
as_many p q k a counted (Ok y) ok err = counted ∙ sym (ap (λ j. length j.true_atoms) ok)
as_many p q k a counted (Err e) ok err = counted ∙ sym (ap (λ j. length j.true_atoms) err)

pub invariant_of-self : goal.invariant_of-self
invariant_of-self c =
    let p = c.self.inside in
    let a = lent_atom c.args.symbol c.args.args.now c.args.value in
    let q = record p { rows = c.make_lent_false.new.rows } in
    let over : IsAtomOver p.symbols p.domains a = subst (λ k. IsAtomOver k.symbols k.domains a)
    (sym c.self.view_is) c.requires.over in
    let free : value_at (known_atoms p) a ≡ Yes → ⊥ = subst (λ k. value_at k a ≡ Yes → ⊥) (sym c.self.view_is)
    c.requires.free in
    let after = known_after p q (known_atoms p) refl (record {
      symbols = refl;
      domains = refl;
      closed = refl;
      words = c.make_lent_false.ensures.words;
    }) a over free c.make_lent_false.result c.make_lent_false.ensures.ok c.make_lent_false.ensures.err in
    record {
      distinct = c.self.invariant.distinct;
      flags = c.self.invariant.flags;
      words = ap words_in c.make_lent_false.ensures.words ∙ c.self.invariant.words;
      elements = subst (λ ws. HasElements ws p.domains (labels_in p.elements))
          (sym (ap words_in c.make_lent_false.ensures.words)) c.self.invariant.elements;
      counted = as_many p q (known_atoms p) a c.self.invariant.counted c.make_lent_false.result after.0 after.1;
    }

pub returns-clause-ok : goal.returns-clause-ok
returns-clause-ok c =
    let p = c.self.inside in
    (known_after p (record p { rows = c.make_lent_false.new.rows }) c.args.self.now c.self.view_is (record {
      symbols = refl;
      domains = refl;
      closed = refl;
      words = c.make_lent_false.ensures.words;
    }) (lent_atom c.args.symbol c.args.args.now c.args.value) c.requires.over c.requires.free c.make_lent_false.result
    c.make_lent_false.ensures.ok c.make_lent_false.ensures.err).0

pub returns-clause-err : goal.returns-clause-err
returns-clause-err c =
    let p = c.self.inside in
    (known_after p (record p { rows = c.make_lent_false.new.rows }) c.args.self.now c.self.view_is (record {
      symbols = refl;
      domains = refl;
      closed = refl;
      words = c.make_lent_false.ensures.words;
    }) (lent_atom c.args.symbol c.args.args.now c.args.value) c.requires.over c.requires.free c.make_lent_false.result
    c.make_lent_false.ensures.ok c.make_lent_false.ensures.err).1
