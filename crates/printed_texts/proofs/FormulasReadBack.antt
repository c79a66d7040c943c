-- What is printed of a formula is read back.
use Rattle.std.proofs.Common.{◌≡◌, ℕ, [], List, Ok, map, refl, sym, ap, ◌∙◌}
use Rattle.kb_text.specs.Depth.{outermost}
use Rattle.kb_text.specs.Tokens.{Lexeme}
use Rattle.kb_text.proofs.Exact as tokens
use Rattle.grammar.specs.Terminals.{Tok}
use Rattle.grammar.specs.Trees.{Formula}
use Rattle.grammar.specs.Fine.{FineFormula}
use Rattle.grammar.specs.Spelling.{put_formula}
use Rattle.grammar.specs.Items.{IsTokens, tok_of}
use Rattle.token_reader.proofs.Ends.{all_stop_formula}
use Rattle.token_reader.proofs.Only.{only_formula}
use Rattle.printed_texts.specs.Written.{lexemes_at}
use Rattle.printed_texts.proofs.Tokens.{whole, scanned}
use Rattle.printed_texts.proofs.Laying.{toks_at}
use Rattle.printed_texts.specs.FormulaTexts.{fm_text}
use Rattle.printed_texts.specs.FormulaPrints.{formula_text}
use Rattle.printed_texts.specs.Speaking.{speak_fm}
use Rattle.printed_texts.specs.ReadFormulas.{formula_parts, FormulasAreReadBack, DepthAloneIsRefused}
use Rattle.printed_texts.proofs.FormulaLaying.{lay_fm, as_formula}
use Rattle.printed_texts.proofs.FormulaApart.{fm_parted}
use Rattle.printed_texts.proofs.FormulaTexts.{formula_written}
use Rattle.printed_texts.proofs.Speaking.{spoken}
use Rattle.printed_texts.proofs.SpeakingTexts.{text_spoken}

-- a text has one list of tokens
one_list : (src : List ℕ) (ts us : List Tok) → IsTokens src ts → IsTokens src us → ts ≡ us
one_list src ts us a b =
    let same = tokens.only a.scanned (Ok b.lexemes) b.scanned in
    let lexemes : a.lexemes ≡ b.lexemes = cc in
    a.same ∙ ap (λ (ls : List Lexeme). map tok_of ls) lexemes ∙ sym b.same

one_formula : (f g : Formula) → FineFormula f → FineFormula g → put_formula f [] ≡ put_formula g [] → f ≡ g
one_formula f g h k e = (only_formula f g [] [] h k (all_stop_formula f [] tt) (all_stop_formula g [] tt) e).0

pub formulas_are_read_back : FormulasAreReadBack
formulas_are_read_back v names f h shallow =
    let parts = formula_parts v f in
    let laid = lay_fm (speak_fm v [] f) h.words 0 in
    let text : formula_text v [] f ≡ fm_text (speak_fm v [] f) = sym (text_spoken v names [] f h.means) in
    let scanned : IsTokens (formula_text v [] f) (toks_at 0 parts) = record {
      lexemes = lexemes_at 0 parts;
      scanned = rw (text, formula_written (speak_fm v [] f))
          (whole parts (fm_parted (speak_fm v [] f) h.words [] [] refl refl) shallow);
      same = refl;
    } in
    record {
      tokens = toks_at 0 parts;
      scanned = scanned;
      tree = as_formula laid.tree;
      spelled = (laid.spelled [], laid.fine);
      only = λ ts g read parsed. one_formula g (as_formula laid.tree) parsed.1 laid.fine (sym parsed.0
          ∙ one_list (formula_text v [] f) ts (toks_at 0 parts) read scanned ∙ laid.spelled []);
      typed = laid.means v names [] [] ∙ spoken v names [] f h.means;
    }

pub depth_alone_is_refused : DepthAloneIsRefused
depth_alone_is_refused v names f h =
    let text : formula_text v [] f ≡ fm_text (speak_fm v [] f) = sym (text_spoken v names [] f h.means) in
    rw (text, formula_written (speak_fm v [] f))
    (scanned outermost 0 (formula_parts v f) (fm_parted (speak_fm v [] f) h.words [] [] refl refl))
