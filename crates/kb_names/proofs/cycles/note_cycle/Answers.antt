use Rattle.std.proofs.Common.{◌≡◌, ◌∙◌, ℕ, Bool, true, false, Option, None, Some, refl, sym, ap}
use Rattle.kb_text.specs.declared.fault.KbFault.{KbFault}
use Rattle.kb_text.specs.declared.fault.K.{K}
use Rattle.kb_text.specs.declared.fault.K.TheVariants as k
use Rattle.stage_definitions.specs.Earliest.{refusal, comes_first, noted_if}
use Rattle.kb_names.proofs.cycles.note_cycle.Goals as goal

-- a refusal that would not be the first one leaves the earliest as it is, whether it is one or not
same_first : (b : Bool) (cause : K) (place : ℕ) (first : Option KbFault)
    → comes_first first (refusal cause place) ≡ false
    → first ≡ noted_if b cause place first
same_first false cause place first e = refl
same_first true cause place None e = absurd (cc)
same_first true cause place (Some f) e = rw e refl

pub returns-then-would_be_first : goal.returns-then-would_be_first
returns-then-would_be_first c =
    c.note_if.ensures ∙ ap (λ (b : Bool). noted_if b k.Redeclared c.args.place c.args.earliest.now.first)
    c.comes_back-begins.ensures

pub returns-else-would_be_first : goal.returns-else-would_be_first
returns-else-would_be_first c =
    same_first _ k.Redeclared c.args.place c.args.earliest.now.first (sym c.would_be_first.ensures
    ∙ c.if-would_be_first.false)
