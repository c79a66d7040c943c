use Rattle.std.proofs.Common.{length, ◌≡◌, ◌∙◌, IfSome, refl, sym, ap, subst, All, IsTrue}
use Rattle.partial_structures.specs.KnownAtoms.{IsAtomOver, atom_of, with_false}
use Rattle.partial_structures.specs.Elements.{labels_in, HasElements}
use Rattle.row_tries.specs.Words.{words_in}
use Rattle.partial_structures.specs.Flags.{is_closed}
use Rattle.row_tries.specs.Rows.{has_label}
use Rattle.partial_structures.specs.AtomRows.{status_of}
use Rattle.partial_structures.specs.Status.{status, known_atoms}
use Rattle.partial_structures.proofs.Labelled.{args_labelled, atom_labelled}
use Rattle.partial_structures.proofs.Views.{value_from, not_yes, kept_all, set_false_after, same_count}
use Rattle.partial_structures.proofs.partial.Partial.set_false.Goals as goal
use Rattle.partial_structures.proofs.partial.Partial.set_false.Goals.{in-Ok, in-Err}

pub make_false-requires : goal.make_false-requires
make_false-requires c =
    let p = c.self.inside in
    let over : IsAtomOver p.symbols p.domains (atom_of c.args.atom.now) =
    subst (λ k. IsAtomOver k.symbols k.domains (atom_of c.args.atom.now)) (sym c.self.view_is) c.requires in
    record {
      args = subst (λ ws. All (λ x. IsTrue (has_label ws x)) c.args.atom.now.args) (sym c.self.invariant.words)
          (args_labelled p.symbols p.domains (atom_of c.args.atom.now) over);
      value = subst (λ ws. IfSome c.args.atom.now.value (λ x. IsTrue (has_label ws x))) (sym c.self.invariant.words)
          (atom_labelled p.symbols p.domains (atom_of c.args.atom.now) over);
    }

pub returns-in-Yes-clause-clash : goal.returns-in-Yes-clause-clash
returns-in-Yes-clause-clash c =
    let p = c.self.inside in
    let a = c.args.atom.now in
    let is : c.status.result ≡ status p (atom_of a) =
    c.status.ensures ∙ ap (λ f. status_of (words_in p.rows.words) p.rows.nodes.entries f a.symbol a.args a.value)
    (c.flag.ensures ∙ ap (λ l. is_closed l a.symbol) c.deref.ensures.value) in (
      λ e. sym (value_from p c.args.self.now (atom_of a) c.status.result c.self.view_is c.requires is)
          ∙ c.in-Yes.is,
      λ e. refl,
    )

pub returns-after-make_false : goal.returns-after-make_false
returns-after-make_false c =
    let p = c.self.inside in
    let a = c.args.atom.now in
    let q = record p { rows = c.make_false.new.rows } in
    let is : c.status.result ≡ status p (atom_of a) =
    c.status.ensures ∙ ap (λ f. status_of (words_in p.rows.words) p.rows.nodes.entries f a.symbol a.args a.value)
    (c.flag.ensures ∙ ap (λ l. is_closed l a.symbol) c.deref.ensures.value) in
    let said = value_from p c.args.self.now (atom_of a) c.status.result c.self.view_is c.requires is in
    let clash = not_yes (status p (atom_of a)) c.status.result is c.in_default.not-Yes in
    elim c.match-make_false.branch [
      | in-Ok w ↦ rw w.result-is (record {
        ok = set_false_after p q c.args.self.now c.self.view_is (record {
          symbols = refl;
          domains = refl;
          closed = refl;
          words = w.in-Ok.ensures.words;
        }) (atom_of a) c.requires clash w.in-Ok.ensures.ok;
        clash = (λ e. absurd (let n : ⊥ = cc in n), λ v. absurd (c.in_default.not-Yes (said ∙ v)));
        err = tt;
      })
      | in-Err w ↦ rw w.result-is (record {
        ok = tt;
        clash = (λ e. absurd (let n : ⊥ = cc in n), λ v. absurd (c.in_default.not-Yes (said ∙ v)));
        err = kept_all p q c.args.self.now c.self.view_is (record {
          symbols = refl;
          domains = refl;
          closed = refl;
          words = w.in-Err.ensures.words;
        }) w.in-Err.ensures.err;
      })
    ]

pub invariant_of-self : goal.invariant_of-self
invariant_of-self c =
    let p = c.self.inside in
    let a = c.args.atom.now in
    let q = record p { rows = c.make_false.new.rows } in
    let is : c.status.result ≡ status p (atom_of a) =
    c.status.ensures ∙ ap (λ f. status_of (words_in p.rows.words) p.rows.nodes.entries f a.symbol a.args a.value)
    (c.flag.ensures ∙ ap (λ l. is_closed l a.symbol) c.deref.ensures.value) in
    let over : IsAtomOver p.symbols p.domains (atom_of a) = subst (λ k. IsAtomOver k.symbols k.domains (atom_of a))
    (sym c.self.view_is) c.requires in
    let clash = not_yes (status p (atom_of a)) c.status.result is c.in_default.not-Yes in
    let n : p.count ≡ length (known_atoms q).true_atoms = elim c.match-make_false.branch [
      | in-Ok w ↦ same_count p q (with_false (known_atoms p) (atom_of a)) c.self.invariant.counted
          (set_false_after p q (known_atoms p) refl (record {
            symbols = refl;
            domains = refl;
            closed = refl;
            words =
                w.in-Ok.ensures.words;
          }) (atom_of a) over clash w.in-Ok.ensures.ok) refl
      | in-Err w ↦ same_count p q (known_atoms p) c.self.invariant.counted
          (kept_all p q (known_atoms p) refl (record {
            symbols = refl;
            domains = refl;
            closed = refl;
            words =
                w.in-Err.ensures.words;
          }) w.in-Err.ensures.err) refl
    ] in
    record {
      distinct = c.self.invariant.distinct;
      flags = c.self.invariant.flags;
      words = ap words_in c.make_false.ensures.words ∙ c.self.invariant.words;
      elements = subst (λ ws. HasElements ws p.domains (labels_in p.elements))
          (sym (ap words_in c.make_false.ensures.words)) c.self.invariant.elements;
      counted = n;
    }
