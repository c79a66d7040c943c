use Rattle.std.proofs.Common.{◌≡◌, ◌∙◌, Err, refl, sym, ap, subst, All, IsTrue}
use Rattle.partial_structures.specs.KnownAtoms.{IsAtomOver, atom_of}
use Rattle.partial_structures.specs.Elements.{labels_in, HasElements}
use Rattle.row_tries.specs.Words.{words_in}
use Rattle.partial_structures.specs.Flags.{is_closed}
use Rattle.row_tries.specs.Rows.{has_label}
use Rattle.partial_structures.specs.AtomRows.{status_of}
use Rattle.partial_structures.specs.Status.{status, known_atoms}
use Rattle.row_tries.specs.declared.truths.Truth.TheVariants.{No}
use Rattle.partial_structures.specs.declared.errors.SetError.TheVariants.{DataClash}
use Rattle.partial_structures.proofs.Labelled.{args_labelled}
use Rattle.partial_structures.proofs.Views.{value_from, not_no, kept_all, set_true_after, true_count, same_count}
use Rattle.partial_structures.proofs.partial.Partial.set_true.Goals as goal

pub make_true-requires : goal.make_true-requires
make_true-requires c =
    let p = c.self.inside in
    let over : IsAtomOver p.symbols p.domains (atom_of c.args.atom.now) =
    subst (λ k. IsAtomOver k.symbols k.domains (atom_of c.args.atom.now)) (sym c.self.view_is) c.requires in
    subst (λ ws. All (λ x. IsTrue (has_label ws x)) c.args.atom.now.args) (sym c.self.invariant.words)
    (args_labelled p.symbols p.domains (atom_of c.args.atom.now) over)

pub invariant_of-self : goal.invariant_of-self
invariant_of-self c =
    let p = c.self.inside in
    let a = c.args.atom.now in
    let q = record p { rows = c.make_true.new.rows; count = c.in-Ok.count } in
    let t = status_of (words_in p.rows.words) p.rows.nodes.entries c.flag-closed.result a.symbol a.args a.value in
    let is : t ≡ status p (atom_of a) =
    ap (λ f. status_of (words_in p.rows.words) p.rows.nodes.entries f a.symbol a.args a.value)
    (c.flag-closed.ensures ∙ ap (λ l. is_closed l a.symbol) c.deref.ensures.value) in
    let free : t ≡ No → ⊥ = (λ v. let e = c.in-Ok.ensures.clash.1 v in let n : ⊥ = cc in n) in
    let clash = not_no (status p (atom_of a)) t is free in
    let over : IsAtomOver p.symbols p.domains (atom_of a) = subst (λ k. IsAtomOver k.symbols k.domains (atom_of a))
    (sym c.self.view_is) c.requires in
    let after = set_true_after p q (known_atoms p) refl (record {
      symbols = refl;
      domains = refl;
      closed = refl;
      words = c.make_true.ensures.words;
    }) (atom_of a) c.self.invariant.words over clash c.in-Ok.ensures.ok in
    record {
      distinct = c.self.invariant.distinct;
      flags = c.self.invariant.flags;
      words = ap words_in c.make_true.ensures.words ∙ c.self.invariant.words;
      elements = subst (λ ws. HasElements ws p.domains (labels_in p.elements))
          (sym (ap words_in c.make_true.ensures.words)) c.self.invariant.elements;
      counted = true_count p q (atom_of a) t c.in-Ok.count c.self.invariant.distinct c.self.invariant.counted over after
          is (not_no t t refl free) c.in-Ok.ensures.count;
    }

pub invariant_of-self-in-Err : goal.invariant_of-self-in-Err
invariant_of-self-in-Err c =
    let p = c.self.inside in
    let q = record p { rows = c.make_true.new.rows } in
    let after = kept_all p q (known_atoms p) refl (record {
      symbols = refl;
      domains = refl;
      closed = refl;
      words = c.make_true.ensures.words;
    }) c.in-Err.ensures.err in
    record {
      distinct = c.self.invariant.distinct;
      flags = c.self.invariant.flags;
      words = ap words_in c.make_true.ensures.words ∙ c.self.invariant.words;
      elements = subst (λ ws. HasElements ws p.domains (labels_in p.elements))
          (sym (ap words_in c.make_true.ensures.words)) c.self.invariant.elements;
      counted = same_count p q (known_atoms p) c.self.invariant.counted after refl;
    }

pub returns-in-Ok : goal.returns-in-Ok
returns-in-Ok c =
    let p = c.self.inside in
    let a = c.args.atom.now in
    let q = record p { rows = c.make_true.new.rows; count = c.in-Ok.count } in
    let t = status_of (words_in p.rows.words) p.rows.nodes.entries c.flag-closed.result a.symbol a.args a.value in
    let is : t ≡ status p (atom_of a) =
    ap (λ f. status_of (words_in p.rows.words) p.rows.nodes.entries f a.symbol a.args a.value)
    (c.flag-closed.ensures ∙ ap (λ l. is_closed l a.symbol) c.deref.ensures.value) in
    let free : t ≡ No → ⊥ = (λ v. let e = c.in-Ok.ensures.clash.1 v in let n : ⊥ = cc in n) in
    let clash = not_no (status p (atom_of a)) t is free in
    let said = value_from p c.args.self.now (atom_of a) t c.self.view_is c.requires is in
    record {
      ok = set_true_after p q c.args.self.now c.self.view_is (record {
        symbols = refl;
        domains = refl;
        closed = refl;
        words = c.make_true.ensures.words;
      }) (atom_of a) c.self.invariant.words c.requires clash c.in-Ok.ensures.ok;
      clash = (λ e. absurd (let n : ⊥ = cc in n), λ v. absurd (free (said ∙ v)));
      err = tt;
    }

pub returns-in-Err : goal.returns-in-Err
returns-in-Err c =
    let p = c.self.inside in
    let a = c.args.atom.now in
    let q = record p { rows = c.make_true.new.rows } in
    let t = status_of (words_in p.rows.words) p.rows.nodes.entries c.flag-closed.result a.symbol a.args a.value in
    let is : t ≡ status p (atom_of a) =
    ap (λ f. status_of (words_in p.rows.words) p.rows.nodes.entries f a.symbol a.args a.value)
    (c.flag-closed.ensures ∙ ap (λ l. is_closed l a.symbol) c.deref.ensures.value) in
    let said = value_from p c.args.self.now (atom_of a) t c.self.view_is c.requires is in
    let error = c.in-Err.error in
    record {
      ok = tt;
      clash = (
        λ e. let n : error ≡ DataClash = cc in sym said ∙ c.in-Err.ensures.clash.0 (ap (λ x. Err x) n),
        λ v. let r = c.in-Err.ensures.clash.1 (said ∙ v) in
            let n : error ≡ DataClash = cc in ap (λ x. Err x) n,
      );
      err = kept_all p q c.args.self.now c.self.view_is (record {
        symbols = refl;
        domains = refl;
        closed = refl;
        words = c.make_true.ensures.words;
      }) c.in-Err.ensures.err;
    }
