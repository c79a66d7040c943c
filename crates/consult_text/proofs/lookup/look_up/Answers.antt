use Rattle.std.proofs.Common.{◌≡◌, ◌∙◌, List, ap, sym, length, subst}
use Rattle.kb_logic.specs.declared.vocabularies.Symbol.{Symbol}
use Rattle.kb_logic.specs.declared.vocabularies.Vocabulary.{Vocabulary}
use Rattle.kb_logic.specs.declared.structures.Literal.{Literal}
use Rattle.consult_base.specs.Opened.{base_of}
use Rattle.consult_text.specs.Literals.{IsLiteralOver}
use Rattle.consult_text.proofs.Forms.{none_named, first_named, args_length}
use Rattle.consult_text.proofs.lookup.look_up.Goals as goal

symbols_are : {slice : List Symbol} {v w : Vocabulary} → slice ≡ v.symbols → v ≡ w → slice ≡ w.symbols
symbols_are at same = at ∙ ap (λ (v : Vocabulary). v.symbols) same

pub returns-in_default : goal.returns-in_default
returns-in_default c = none_named c.as_slice.result.now c.args.kb.now.typed.vocab.symbols c.args.text.now
    (symbols_are c.as_slice.ensures c.vocabulary.ensures.vocabulary) c.in_default.ensures

pub returns-then-not-has_form : goal.returns-then-not-has_form
returns-then-not-has_form c = (
  c.in-Some.number,
  c.in-Some.symbol.now,
  first_named c.as_slice.result.now c.args.kb.now.typed.vocab.symbols
      c.args.text.now c.in-Some.number c.in-Some.symbol.now
      (symbols_are c.as_slice.ensures c.vocabulary.ensures.vocabulary) c.in-Some.ensures,
  c.if-not-has_form.ensures,
)

pub is_literal_over-requires-clause-args : goal.is_literal_over-requires-clause-args
is_literal_over-requires-clause-args c =
    args_length c.in-Some.symbol.now c.in-Some.number c.args.text.now c.if-not-has_form.ensures
    ∙ ap (λ (l : Literal). length l.args) (sym c.in_ok-literal.ensures)

pub returns-else-is_literal_over : goal.returns-else-is_literal_over
returns-else-is_literal_over c = (
  c.in-Some.number,
  c.in-Some.symbol.now,
  first_named c.as_slice.result.now c.args.kb.now.typed.vocab.symbols
      c.args.text.now c.in-Some.number c.in-Some.symbol.now
      (symbols_are c.as_slice.ensures c.vocabulary.ensures.vocabulary) c.in-Some.ensures,
  c.if-not-has_form.ensures,
  λ h.
      c.if-is_literal_over.ensures (subst (IsLiteralOver (base_of c.args.kb.now)) (sym c.in_ok-literal.ensures) h),
)
