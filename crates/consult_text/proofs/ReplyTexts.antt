-- No two replies over a knowledge base have one text.
use Rattle.std.proofs.Common.{◌≡◌, ◌≢◌, ℕ, zero, suc, ◌+◌, ◌<◌, ◌^◌, ◌⊎◌, inl, inr, List, [], ◌∷◌, ◌++◌, refl, sym, ap}
use Rattle.std.proofs.Common.{flat_map, Bool, true, false}
use Rattle.std.proofs.Common.{◌∙◌, codes, append_assoc, arith}
use Rattle.std.specs.Prelude.{⊤}
use Rattle.std.specs.List.{AllByRecursion}
use Rattle.std.proofs.lemmas.List.{append_cancel_left}
use Rattle.std.proofs.lemmas.Fmt.{decimal_digit, decimal_injective}
use Rattle.std.specs.Fmt.{decimal}
use Rattle.kb_logic.specs.declared.elements.ExtInt.{ExtInt}
use Rattle.kb_logic.specs.Decimals.{decimal_text}
use Rattle.kb_logic.specs.declared.structures.Literal.{Literal}
use Rattle.kb_logic.specs.declared.structures.Structure.{Structure}
use Rattle.kb_logic.specs.declared.vocabularies.Vocabulary.{Vocabulary}
use Rattle.consult_text.specs.declared.refusals.F.{F}
use Rattle.consult_text.specs.declared.refusals.F.TheVariants as refusal
use Rattle.consult_text.specs.declared.commands.Command.{Command}
use Rattle.consult_text.specs.declared.commands.Command.TheVariants as command
use Rattle.consult_text.specs.declared.replies.Reply.{Reply}
use Rattle.consult_text.specs.declared.replies.Reply.TheVariants as reply
use Rattle.consult_text.specs.Refusals.{number_of, name_of, text_of}
use Rattle.kb_logic.specs.Bases.{Base}
use Rattle.literal_printer.specs.Tables.{symbol_lines}
use Rattle.consult_text.specs.Replies.{IsRefusal, IsAnswerTo, IsReplyTo}
use Rattle.consult_text.specs.Texts.{labelled_lines, model_block, end_line, models_text, minimum_text, reply_text}
use Rattle.consult_text.specs.OneText.{HasWordNames, IsStructureOver, IsShortValue, IsReplyOver}
use Rattle.consult_text.specs.OneText.{HaveReadableValues, NoTwoRepliesHaveOneText}
use Rattle.consult_text.proofs.RowTexts.{byte_above, byte_same, rest_same}
use Rattle.consult_text.proofs.InnerBytes.{split_same, decimal_inner}
use Rattle.consult_text.proofs.LabelledTexts.{labelled_same, line_end, line_stops}
use Rattle.consult_text.proofs.ValueTexts.{values_same}
use Rattle.consult_text.proofs.ModelTexts.{models_same}

small_number : (f : F) → number_of f < 10
small_number refusal.Syntax = omega arith
small_number refusal.UnknownSymbol = omega arith
small_number refusal.WrongArity = omega arith
small_number refusal.NotAnElement = omega arith
small_number refusal.AlreadyChosen = omega arith
small_number refusal.NotChosen = omega arith
small_number refusal.GivenByData = omega arith
small_number refusal.LineTooLong = omega arith
small_number refusal.UnknownTerm = omega arith

numbered : ℕ → F
numbered zero = refusal.Syntax
numbered (suc zero) = refusal.Syntax
numbered (suc (suc zero)) = refusal.UnknownSymbol
numbered (suc (suc (suc zero))) = refusal.WrongArity
numbered (suc (suc (suc (suc zero)))) = refusal.NotAnElement
numbered (suc (suc (suc (suc (suc zero))))) = refusal.AlreadyChosen
numbered (suc (suc (suc (suc (suc (suc zero)))))) = refusal.NotChosen
numbered (suc (suc (suc (suc (suc (suc (suc zero))))))) = refusal.GivenByData
numbered (suc (suc (suc (suc (suc (suc (suc (suc zero)))))))) = refusal.LineTooLong
numbered (suc (suc (suc (suc (suc (suc (suc (suc (suc n))))))))) = refusal.UnknownTerm

back : (f : F) → numbered (number_of f) ≡ f
unfolding numbered
back refusal.Syntax = refl
back refusal.UnknownSymbol = refl
back refusal.WrongArity = refl
back refusal.NotAnElement = refl
back refusal.AlreadyChosen = refl
back refusal.NotChosen = refl
back refusal.GivenByData = refl
back refusal.LineTooLong = refl
back refusal.UnknownTerm = refl

digit_text : (f : F) → text_of f ++ codes "\n" ≡ codes "F"
    ++ ((48 + number_of f) ∷ ((codes " " ++ name_of f) ++ codes "\n"))
digit_text f = rw (decimal_digit (number_of f) (small_number f))

refusals_same : (f g : F) (a b : List ℕ) → (text_of f ++ codes "\n") ++ a ≡ (text_of g ++ codes "\n") ++ b
    → (f ≡ g) × (a ≡ b)
refusals_same f g a b q =
    let bytes = rest_same (ap (λ (l : List ℕ). l ++ a) (sym (digit_text f))
    ∙ (q ∙ ap (λ (l : List ℕ). l ++ b) (digit_text g))) in
    let number : number_of f ≡ number_of g = omega (arith, byte_same bytes) in
    let same : f ≡ g = sym (back f) ∙ (ap numbered number ∙ back g) in (
      same,
      append_cancel_left (text_of g ++ codes "\n") a b
          (ap (λ (x : F). (text_of x ++ codes "\n") ++ a) (sym same) ∙ q),
    )

-- the bytes with which a reply's text may begin: its first line's, or the last one's where there is no other
abbrev letters : Reply → ℕ × ℕ
letters reply.Fine = (111, 111)
letters (reply.Refused f) = (114, 114)
letters (reply.Choices ls) = (99, 100)
letters (reply.Model m) = (109, 109)
letters (reply.Models ms all) = (109, 99)
letters (reply.Forced ls) = (102, 100)
letters (reply.Minimum v m) = (109, 109)
letters (reply.Supported ls) = (115, 100)
letters reply.Free = (111, 111)
letters (reply.Conflict ls) = (99, 100)
letters reply.Consistent = (99, 99)
letters reply.Inconsistent = (105, 105)
letters (reply.Undecided k) = (117, 117)

labelled_first : (byte : ℕ) (rest : List ℕ) (vocab : Vocabulary) (ls : List Literal) (a b : List ℕ) (x : ℕ)
    → labelled_lines (byte ∷ rest) vocab ls ++ a ≡ x ∷ b → (x ≡ byte) ⊎ (x ≡ 100)
labelled_first byte rest vocab [] a b x q = inr (sym (byte_same q))
labelled_first byte rest vocab (l ∷ ls) a b x q = inl (sym (byte_same q))

first_letter : (vocab : Vocabulary) (r : Reply) (a b : List ℕ) (x : ℕ) → reply_text vocab r ++ a ≡ x ∷ b
    → (x ≡ (letters r).0) ⊎ (x ≡ (letters r).1)
first_letter vocab (reply.Choices ls) a b x q = labelled_first 99 (codes "hoice ") vocab ls a b x q
first_letter vocab (reply.Models [] true) a b x q = inr (sym (byte_same q))
first_letter vocab (reply.Models [] false) a b x q = inl (sym (byte_same q))
first_letter vocab (reply.Models (m ∷ ms) all) a b x q = inl (sym (byte_same q))
first_letter vocab (reply.Forced ls) a b x q = labelled_first 102 (codes "orced ") vocab ls a b x q
first_letter vocab (reply.Supported ls) a b x q = labelled_first 115 (codes "upport ") vocab ls a b x q
first_letter vocab (reply.Conflict ls) a b x q = labelled_first 99 (codes "onflict ") vocab ls a b x q
first_letter vocab r a b x q = inl (sym (byte_same q))

-- no text of a reply begins with any other byte
not_first : (vocab : Vocabulary) (r : Reply) (a b : List ℕ) (x : ℕ) → x ≢ (letters r).0 → x ≢ (letters r).1
    → reply_text vocab r ++ a ≡ x ∷ b → ⊥
not_first vocab r a b x other last q = by (first_letter vocab r a b x q)
  where
    by : (x ≡ (letters r).0) ⊎ (x ≡ (letters r).1) → ⊥
    by (inl e) = other e
    by (inr e) = last e

-- the replies that more than one kind of command has
abbrev IsShared : Reply → Type 0
IsShared (reply.Refused f) = ⊤
IsShared reply.Inconsistent = ⊤
IsShared (reply.Undecided k) = ⊤
IsShared _ = ⊥

-- the kind of command that any other reply answers
abbrev kind : Reply → ℕ
kind reply.Fine = 0
kind (reply.Choices ls) = 1
kind (reply.Model m) = 2
kind (reply.Models ms all) = 3
kind (reply.Forced ls) = 4
kind (reply.Minimum v m) = 5
kind (reply.Supported ls) = 6
kind reply.Free = 6
kind (reply.Conflict ls) = 7
kind reply.Consistent = 7
kind _ = 0

abbrev kind_of : Command → ℕ
kind_of command.Choices = 1
kind_of command.Model = 2
kind_of (command.Models n) = 3
kind_of command.Propagate = 4
kind_of (command.Minimize t) = 5
kind_of (command.Explain l) = 6
kind_of command.Why = 7
kind_of _ = 0

refusal_shared : (r : Reply) → IsRefusal r → IsShared r
refusal_shared (reply.Refused f) h = tt
refusal_shared r h = absurd h

answer_kind : (c : Command) (r : Reply) → IsAnswerTo c r → IsShared r ⊎ (kind r ≡ kind_of c)
answer_kind c (reply.Refused f) h = inl tt
answer_kind c reply.Inconsistent h = inl tt
answer_kind c (reply.Undecided k) h = inl tt
answer_kind (command.Assert l) reply.Fine h = inr refl
answer_kind (command.Retract l) reply.Fine h = inr refl
answer_kind command.Reset reply.Fine h = inr refl
answer_kind (command.Budget b) reply.Fine h = inr refl
answer_kind command.Forget reply.Fine h = inr refl
answer_kind command.Choices (reply.Choices ls) h = inr refl
answer_kind command.Model (reply.Model m) h = inr refl
answer_kind (command.Models n) (reply.Models ms all) h = inr refl
answer_kind command.Propagate (reply.Forced ls) h = inr refl
answer_kind (command.Minimize t) (reply.Minimum v m) h = inr refl
answer_kind (command.Explain l) (reply.Supported ls) h = inr refl
answer_kind (command.Explain l) reply.Free h = inr refl
answer_kind command.Why (reply.Conflict ls) h = inr refl
answer_kind command.Why reply.Consistent h = inr refl
answer_kind c r h = absurd h

reply_kind : (c : Command) (r : Reply) → IsReplyTo c r → IsShared r ⊎ (kind r ≡ kind_of c)
reply_kind c r (inl h) = inl (refusal_shared r h)
reply_kind c r (inr h) = answer_kind c r h

-- one of them is shared, or both are of one kind
abbrev AreAlike : Reply → Reply → Type 0
AreAlike r s = IsShared r ⊎ (IsShared s ⊎ (kind r ≡ kind s))

both_alike : (r s : Reply) (n : ℕ) → IsShared r ⊎ (kind r ≡ n) → IsShared s ⊎ (kind s ≡ n) → AreAlike r s
both_alike r s n (inl h) k = inl h
both_alike r s n (inr h) (inl k) = inr (inl k)
both_alike r s n (inr h) (inr k) = inr (inr (h ∙ sym k))

unlike : {x y : ℕ} → x ≢ y → ⊥ ⊎ (⊥ ⊎ (x ≡ y)) → ⊥
unlike other (inl h) = h
unlike other (inr (inl h)) = h
unlike other (inr (inr e)) = other e

module _ (kb : Base) (names : HasWordNames kb) where
  -- the first block, before the others
  front : (m : Structure) (ms : List Structure) (d : Bool) (a : List ℕ)
      → models_text kb.vocabulary (m ∷ ms) d ++ a ≡ model_block kb.vocabulary m ++ (models_text kb.vocabulary ms d ++ a)
  front m ms d a =
      let block = model_block kb.vocabulary m in
      let others = flat_map (model_block kb.vocabulary) ms in
      ap (λ (t : List ℕ). t ++ a) (append_assoc block others (end_line d))
      ∙ append_assoc block (others ++ end_line d) a

  blocks_same : (m m' : Structure) (a b : List ℕ) → IsStructureOver kb m → IsStructureOver kb m'
      → model_block kb.vocabulary m ++ a ≡ model_block kb.vocabulary m' ++ b → (m ≡ m') × (a ≡ b)
  blocks_same m m' a b h k q =
      let tails = append_cancel_left (codes "model\n") ((symbol_lines kb.vocabulary m ++ codes "done\n") ++ a)
      ((symbol_lines kb.vocabulary m' ++ codes "done\n") ++ b) q in
      models_same kb m m' names h k a b
      (sym (append_assoc (symbol_lines kb.vocabulary m) (codes "done\n") a)
      ∙ (tails ∙ append_assoc (symbol_lines kb.vocabulary m') (codes "done\n") b))

  ends_same : (d e : Bool) (a b : List ℕ) → end_line d ++ a ≡ end_line e ++ b → (d ≡ e) × (a ≡ b)
  ends_same true true a b q = (refl, append_cancel_left (codes "complete\n") a b q)
  ends_same true false a b q = absurd (byte_above 109 99 (omega arith) (sym q))
  ends_same false true a b q = absurd (byte_above 109 99 (omega arith) q)
  ends_same false false a b q = (refl, append_cancel_left (codes "more\n") a b q)

  no_block : (d : Bool) (m : Structure) (a b : List ℕ) → end_line d ++ a ≡ model_block kb.vocabulary m ++ b → ⊥
  no_block true m a b q = byte_above 109 99 (omega arith) (sym q)
  no_block false m a b q = byte_above 114 100 (omega arith) (rest_same (rest_same q))

  several_same : (ms ns : List Structure) (d e : Bool) (a b : List ℕ) → AllByRecursion (IsStructureOver kb) ms
      → AllByRecursion (IsStructureOver kb) ns
      → models_text kb.vocabulary ms d ++ a ≡ models_text kb.vocabulary ns e ++ b → (ms ≡ ns) × (d ≡ e) × (a ≡ b)
  several_same [] [] d e a b h k q = let end = ends_same d e a b q in (refl, end.0, end.1)
  several_same [] (n ∷ ns) d e a b h k q =
      absurd (no_block d n a (models_text kb.vocabulary ns e ++ b) (q ∙ front n ns e b))
  several_same (m ∷ ms) [] d e a b h k q =
      absurd (no_block e m b (models_text kb.vocabulary ms d ++ a) (sym q ∙ front m ms d a))
  several_same (m ∷ ms) (n ∷ ns) d e a b h k q =
      let cut = blocks_same m n (models_text kb.vocabulary ms d ++ a) (models_text kb.vocabulary ns e ++ b) h.0 k.0
      (sym (front m ms d a) ∙ (q ∙ front n ns e b)) in
      let more = several_same ms ns d e a b h.1 k.1 cut.1 in
      (λ i. cut.0 i ∷ more.0 i, more.1, more.2)

  minima_same : (v w : ExtInt) (m n : Structure) (a b : List ℕ) → IsStructureOver kb m → IsStructureOver kb n
      → (v ≡ w) ⊎ (IsShortValue v × IsShortValue w)
      → minimum_text kb.vocabulary v m ++ a ≡ minimum_text kb.vocabulary w n ++ b → (v ≡ w) × (m ≡ n) × (a ≡ b)
  minima_same v w m n a b h k values q =
      let cut = by values
      (append_cancel_left (codes "minimum ") (decimal_text v ++ line_end (rest m a))
      (decimal_text w ++ line_end (rest n b)) (sym (after_value v m a) ∙ (q ∙ after_value w n b))) in
      let more = models_same kb m n names h k a b cut.1 in
      (cut.0, more.0, more.1)
    where
      rest : Structure → List ℕ → List ℕ
      rest s r = symbol_lines kb.vocabulary s ++ (codes "done\n" ++ r)

      by : (v ≡ w) ⊎ (IsShortValue v × IsShortValue w)
          → decimal_text v ++ line_end (rest m a) ≡ decimal_text w ++ line_end (rest n b)
          → (v ≡ w) × (rest m a ≡ rest n b)
      by (inl e) tails = (
        e,
        rest_same
            (append_cancel_left (decimal_text v) (line_end (rest m a)) (line_end (rest n b))
            (tails ∙ ap (λ (x : ExtInt). decimal_text x ++ line_end (rest n b)) (sym e))),
      )
      by (inr short) tails = values_same v w (rest m a) (rest n b) short.0 short.1 tails

      after_value : (v : ExtInt) (m : Structure) (a : List ℕ)
          → minimum_text kb.vocabulary v m ++ a ≡ codes "minimum " ++ (decimal_text v ++ line_end (rest m a))
      after_value v m a =
          let lines = symbol_lines kb.vocabulary m in
          ap (λ (t : List ℕ). codes "minimum " ++ t)
          (append_assoc (decimal_text v) (codes "\n" ++ (lines ++ codes "done\n")) a
          ∙ ap (λ (t : List ℕ). decimal_text v ++ line_end t) (append_assoc lines (codes "done\n") a))

  two_refusals : (f g : F) (a b : List ℕ)
      → reply_text kb.vocabulary (reply.Refused f) ++ a ≡ reply_text kb.vocabulary (reply.Refused g) ++ b
      → (reply.Refused f ≡ reply.Refused g) × (a ≡ b)
  two_refusals f g a b q =
      let cut = refusals_same f g a b (append_cancel_left (codes "refused ") ((text_of f ++ codes "\n") ++ a)
      ((text_of g ++ codes "\n") ++ b) q) in
      (ap (λ (x : F). reply.Refused x) cut.0, cut.1)

  two_undecided : (n n' : ℕ) (a b : List ℕ) → n < 2 ^ 64 → n' < 2 ^ 64
      → reply_text kb.vocabulary (reply.Undecided n) ++ a ≡ reply_text kb.vocabulary (reply.Undecided n') ++ b
      → (reply.Undecided n ≡ reply.Undecided n') × (a ≡ b)
  two_undecided n n' a b h k q =
      let tails = append_cancel_left (codes "undecided ") ((decimal n ++ codes "\n") ++ a)
      ((decimal n' ++ codes "\n") ++ b) q in
      let cut = split_same (decimal n) (decimal n') (10 ∷ a) (10 ∷ b) (decimal_inner n h) (decimal_inner n' k)
      (line_stops a) (line_stops b)
      (sym (append_assoc (decimal n) (codes "\n") a) ∙ (tails ∙ append_assoc (decimal n') (codes "\n") b)) in
      (ap (λ (x : ℕ). reply.Undecided x) (decimal_injective n n' h k cut.0), rest_same cut.1)

  -- against any other reply
  refused_same : (f : F) (s : Reply) (a b : List ℕ)
      → reply_text kb.vocabulary (reply.Refused f) ++ a ≡ reply_text kb.vocabulary s ++ b
      → (reply.Refused f ≡ s) × (a ≡ b)
  refused_same f (reply.Refused g) a b q = two_refusals f g a b q
  refused_same f s a b q =
      absurd (not_first kb.vocabulary s b _ 114 (λ e. omega (arith, e)) (λ e. omega (arith, e)) (sym q))

  inconsistent_same : (s : Reply) (a b : List ℕ)
      → reply_text kb.vocabulary reply.Inconsistent ++ a ≡ reply_text kb.vocabulary s ++ b
      → (reply.Inconsistent ≡ s) × (a ≡ b)
  inconsistent_same reply.Inconsistent a b q = (refl, append_cancel_left (codes "inconsistent\n") a b q)
  inconsistent_same s a b q =
      absurd (not_first kb.vocabulary s b _ 105 (λ e. omega (arith, e)) (λ e. omega (arith, e)) (sym q))

  undecided_same : (n : ℕ) (s : Reply) (a b : List ℕ) → n < 2 ^ 64 → IsReplyOver kb s
      → reply_text kb.vocabulary (reply.Undecided n) ++ a ≡ reply_text kb.vocabulary s ++ b
      → (reply.Undecided n ≡ s) × (a ≡ b)
  undecided_same n (reply.Undecided n') a b h k q = two_undecided n n' a b h k q
  undecided_same n s a b h k q =
      absurd (not_first kb.vocabulary s b _ 117 (λ e. omega (arith, e)) (λ e. omega (arith, e)) (sym q))

  no_support : (ls : List Literal) (a b : List ℕ)
      → labelled_lines (codes "support ") kb.vocabulary ls ++ a ≡ codes "open\n" ++ b → ⊥
  no_support [] a b q = byte_above 111 100 (omega arith) (sym q)
  no_support (l ∷ ls) a b q = byte_above 115 111 (omega arith) q

  no_conflict : (ls : List Literal) (a b : List ℕ)
      → labelled_lines (codes "conflict ") kb.vocabulary ls ++ a ≡ codes "consistent\n" ++ b → ⊥
  no_conflict [] a b q = byte_above 100 99 (omega arith) q
  no_conflict (l ∷ ls) a b q = byte_above 115 102 (omega arith) (sym (rest_same (rest_same (rest_same q))))

  turned : {r s : Reply} {a b : List ℕ} → (s ≡ r) × (b ≡ a) → (r ≡ s) × (a ≡ b)
  turned h = (sym h.0, sym h.1)

  same : (r s : Reply) (a b : List ℕ) → AreAlike r s → IsReplyOver kb r → IsReplyOver kb s
      → HaveReadableValues r s → reply_text kb.vocabulary r ++ a ≡ reply_text kb.vocabulary s ++ b → (r ≡ s) × (a ≡ b)
  same (reply.Refused f) s a b alike h k values q = refused_same f s a b q
  same reply.Inconsistent s a b alike h k values q = inconsistent_same s a b q
  same (reply.Undecided n) s a b alike h k values q = undecided_same n s a b h k q
  same r (reply.Refused g) a b alike h k values q = turned (refused_same g r b a (sym q))
  same r reply.Inconsistent a b alike h k values q = turned (inconsistent_same r b a (sym q))
  same r (reply.Undecided n) a b alike h k values q = turned (undecided_same n r b a k h (sym q))
  same reply.Fine reply.Fine a b alike h k values q = (refl, append_cancel_left (codes "ok\n") a b q)
  same (reply.Choices ls) (reply.Choices ks) a b alike h k values q =
      let cut = labelled_same 99 (codes "hoice ") (λ e. omega (arith, e)) kb names ls ks a b h k q in
      (ap (λ (x : List Literal). reply.Choices x) cut.0, cut.1)
  same (reply.Model m) (reply.Model m') a b alike h k values q =
      let cut = blocks_same m m' a b h k q in
      (ap (λ (x : Structure). reply.Model x) cut.0, cut.1)
  same (reply.Models ms d) (reply.Models ns e) a b alike h k values q =
      let cut = several_same ms ns d e a b h k q in
      (λ i. reply.Models (cut.0 i) (cut.1 i), cut.2)
  same (reply.Forced ls) (reply.Forced ks) a b alike h k values q =
      let cut = labelled_same 102 (codes "orced ") (λ e. omega (arith, e)) kb names ls ks a b h k q in
      (ap (λ (x : List Literal). reply.Forced x) cut.0, cut.1)
  same (reply.Minimum v m) (reply.Minimum w n) a b alike h k values q =
      let cut = minima_same v w m n a b h k values q in
      (λ i. reply.Minimum (cut.0 i) (cut.1 i), cut.2)
  same (reply.Supported ls) (reply.Supported ks) a b alike h k values q =
      let cut = labelled_same 115 (codes "upport ") (λ e. omega (arith, e)) kb names ls ks a b h k q in
      (ap (λ (x : List Literal). reply.Supported x) cut.0, cut.1)
  same (reply.Supported ls) reply.Free a b alike h k values q = absurd (no_support ls a b q)
  same reply.Free (reply.Supported ls) a b alike h k values q = absurd (no_support ls b a (sym q))
  same reply.Free reply.Free a b alike h k values q = (refl, append_cancel_left (codes "open\n") a b q)
  same (reply.Conflict ls) (reply.Conflict ks) a b alike h k values q =
      let cut = labelled_same 99 (codes "onflict ") (λ e. omega (arith, e)) kb names ls ks a b h k q in
      (ap (λ (x : List Literal). reply.Conflict x) cut.0, cut.1)
  same (reply.Conflict ls) reply.Consistent a b alike h k values q = absurd (no_conflict ls a b q)
  same reply.Consistent (reply.Conflict ls) a b alike h k values q = absurd (no_conflict ls b a (sym q))
  same reply.Consistent reply.Consistent a b alike h k values q =
      (refl, append_cancel_left (codes "consistent\n") a b q)
  same r s a b alike h k values q = absurd (unlike (λ e. omega (arith, e)) alike)

pub replies_same : NoTwoRepliesHaveOneText
replies_same kb names c r s a b to_r to_s h k values q =
    same kb names r s a b (both_alike r s (kind_of c) (reply_kind c r to_r) (reply_kind c s to_s)) h k values q
