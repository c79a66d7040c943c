use Rattle.std.proofs.Common.{◌≡◌, ◌∙◌, true, false, sym, ap, subst, None, Some}
use Rattle.std.proofs.lemmas.Bool.{true≢false}
use Rattle.partial_structures.specs.Extension.{ExtendsData}
use Rattle.partial_structures.specs.Tally.{tables_left}
use Rattle.row_tries.specs.Words.{words_in}
use Rattle.partial_structures.proofs.Extensions.{extends_left, left_extends, left_both, left_none, is_zero, zero_is}
use Rattle.partial_structures.proofs.partial.Partial.is_extended_by.Goals as goal

pub returns-then-not-are_same_domains : goal.returns-then-not-are_same_domains
returns-then-not-are_same_domains c =
    let p = c.self.inside in
    let m = c.args.m.now in (
      λ e. absurd (true≢false (sym e)),
      λ h.
          let same : m.domains ≡ p.domains = h.domains ∙ sym (ap (λ k. k.domains) c.self.view_is) in
          sym c.if-not-are_same_domains.true ∙ c.are_same_domains.ensures.1 (c.as_slice.ensures ∙ same
          ∙ sym c.as_slice-2.ensures),
    )

pub returns-in-None : goal.returns-in-None
returns-in-None c =
    let p = c.self.inside in
    let m = c.args.m.now in
    let symbols : c.requires.0.symbols ≡ p.symbols = c.requires.1 ∙ sym (ap (λ k. k.symbols) c.self.view_is) in (
      λ e. absurd (true≢false (sym e)),
      λ h.
          let same : m.domains ≡ p.domains = h.domains ∙ sym (ap (λ k. k.domains) c.self.view_is) in
          let none : tables_left (words_in p.rows.words) p.rows.nodes.entries p.closed.items false m.relations
          p.count ≡ None =
          rw c.deref.ensures.value at (rw c.as_slice-relations.ensures at (sym c.left_over.ensures ∙ c.in-None.is)) in
          let e : None ≡ Some 0 = sym (left_none p m c.requires.0 c.requires.2 symbols same c.self.invariant.distinct
          c.self.invariant.counted none)
          ∙ extends_left p m c.requires.0 c.requires.2 symbols same c.self.invariant.distinct c.self.invariant.counted
          (subst (ExtendsData m) (sym c.self.view_is) h) in
          cc e,
    )

pub returns-in-Some : goal.returns-in-Some
returns-in-Some c =
    let p = c.self.inside in
    let m = c.args.m.now in
    let symbols : c.requires.0.symbols ≡ p.symbols = c.requires.1 ∙ sym (ap (λ k. k.symbols) c.self.view_is) in
    let same : m.domains ≡ p.domains = sym c.as_slice.ensures ∙ c.are_same_domains.ensures.0
    c.if-not-are_same_domains.false ∙ c.as_slice-2.ensures in
    let some : tables_left (words_in p.rows.words) p.rows.nodes.entries p.closed.items false m.relations p.count
    ≡ Some c.in-Some.left =
    rw c.deref.ensures.value at (rw c.as_slice-relations.ensures at (sym c.left_over.ensures ∙ c.in-Some.is)) in
    let rest : c.left_over-in-Some.result ≡ tables_left (words_in p.rows.words) p.rows.nodes.entries p.closed.items true
    m.functions c.in-Some.left =
    rw c.deref-in-Some.ensures.value at (rw c.as_slice-functions.ensures at c.left_over-in-Some.ensures) in
    let both = left_both p m c.requires.0 c.requires.2 symbols same c.self.invariant.distinct c.self.invariant.counted
    c.in-Some.left some in (
      λ e. subst (ExtendsData m) c.self.view_is (left_extends p m c.requires.0 c.requires.2 symbols same
          c.self.invariant.distinct c.self.invariant.counted (both ∙ sym rest ∙ is_zero c.left_over-in-Some.result
          (sym c.eq.ensures ∙ e))),
      λ h. c.eq.ensures ∙ zero_is c.left_over-in-Some.result (rest ∙ sym both
          ∙ extends_left p m c.requires.0 c.requires.2 symbols same c.self.invariant.distinct c.self.invariant.counted
          (subst (ExtendsData m) (sym c.self.view_is) h)),
    )
