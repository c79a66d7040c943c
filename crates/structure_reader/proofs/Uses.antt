-- All that is noted, list by list.
use Rattle.std.proofs.Common.{◌≡◌, List, ◌++◌, Option, fold, sym, ap, ◌∙◌}
use Rattle.std.proofs.lemmas.Grind.{fold-append}
use Rattle.kb_text.specs.declared.fault.KbFault.{KbFault}
use Rattle.stage_definitions.specs.DataStage.{DataUse}

pub four_lists : (note : Option KbFault → DataUse → Option KbFault) (ts es fs as' : List DataUse)
    (old first second third last : Option KbFault)
    → first ≡ fold note old ts → second ≡ fold note first es → third ≡ fold note second fs → last ≡ fold note third as'
    → last ≡ fold note old ((ts ++ (es ++ fs)) ++ as')
four_lists note ts es fs as' old first second third last a b c d =
    d ∙ ap (λ o. fold note o as') (c ∙ ap (λ o. fold note o fs) (b ∙ ap (λ o. fold note o es) a))
    ∙ sym (fold-append note old (ts ++ (es ++ fs)) as' ∙ ap (λ o. fold note o as') (fold-append note old ts (es ++ fs)
    ∙ fold-append note (fold note old ts) es fs))
