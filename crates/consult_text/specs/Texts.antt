-- The texts of replies.
use Rattle.std.specs.Prelude.{ℕ, List, ◌++◌, Bool, true, false, flat_map, codes}
use Rattle.std.specs.Fmt.{decimal}
use Rattle.kb_logic.specs.declared.elements.ExtInt.{ExtInt}
use Rattle.kb_logic.specs.declared.vocabularies.Vocabulary.{Vocabulary}
use Rattle.kb_logic.specs.declared.structures.Literal.{Literal}
use Rattle.kb_logic.specs.declared.structures.Structure.{Structure}
use Rattle.kb_logic.specs.Decimals.{decimal_text}
use Rattle.literal_printer.specs.Texts.{literal_text}
use Rattle.literal_printer.specs.Tables.{symbol_lines}
use Rattle.consult_text.specs.Refusals.{text_of}
use Rattle.consult_text.specs.declared.replies.Reply.{Reply}
use Rattle.consult_text.specs.declared.replies.Reply.TheVariants as reply

-- the line of a literal after a label, as `choice P(a,b)`
abbrev pub labelled_line : List ℕ → Vocabulary → Literal → List ℕ
labelled_line label vocab l = label ++ (literal_text vocab l ++ codes "\n")

-- a line for each literal, and `done`
abbrev pub labelled_lines : List ℕ → Vocabulary → List Literal → List ℕ
labelled_lines label vocab ls = flat_map (labelled_line label vocab) ls ++ codes "done\n"

-- the lines of a model's symbols between `model` and `done`
abbrev pub model_block : Vocabulary → Structure → List ℕ
model_block vocab m = codes "model\n" ++ (symbol_lines vocab m ++ codes "done\n")

-- whether there are no other models
abbrev pub end_line : Bool → List ℕ
end_line true = codes "complete\n"
end_line false = codes "more\n"

-- a block for each model, and whether there are no others
abbrev pub models_text : Vocabulary → List Structure → Bool → List ℕ
models_text vocab ms all = flat_map (model_block vocab) ms ++ end_line all

-- a value, and the lines of a model's symbols
abbrev pub minimum_text : Vocabulary → ExtInt → Structure → List ℕ
minimum_text vocab v m = codes "minimum " ++ (decimal_text v ++ (codes "\n" ++
    (symbol_lines vocab m ++ codes "done\n")))

abbrev pub reply_text : Vocabulary → Reply → List ℕ
reply_text vocab reply.Fine = codes "ok\n"
reply_text vocab (reply.Refused f) = codes "refused " ++ (text_of f ++ codes "\n")
reply_text vocab (reply.Choices ls) = labelled_lines (codes "choice ") vocab ls
reply_text vocab (reply.Model m) = model_block vocab m
reply_text vocab (reply.Models ms all) = models_text vocab ms all
reply_text vocab (reply.Forced ls) = labelled_lines (codes "forced ") vocab ls
reply_text vocab (reply.Minimum v m) = minimum_text vocab v m
reply_text vocab (reply.Supported ls) = labelled_lines (codes "support ") vocab ls
reply_text vocab reply.Free = codes "open\n"
reply_text vocab (reply.Conflict ls) = labelled_lines (codes "conflict ") vocab ls
reply_text vocab reply.Consistent = codes "consistent\n"
reply_text vocab reply.Inconsistent = codes "inconsistent\n"
reply_text vocab (reply.Undecided k) = codes "undecided " ++ (decimal k ++ codes "\n")
