-- Two right replies to one command have values that their texts tell apart: two least values are the same.
use Rattle.std.proofs.Common.{◌≡◌, ℕ, ℤ, false, [], refl, sym, ap, ◌∙◌, subst, arith, inl}
use Rattle.std.proofs.Common.{Option, Some, None, int_lt}
use Rattle.std.proofs.lemmas.Bool.Decides.{nat_tests}
use Rattle.std.proofs.lemmas.Int.{ints}
use Rattle.kb_logic.specs.declared.elements.ExtInt.{ExtInt}
use Rattle.kb_logic.specs.declared.elements.ExtInt.TheVariants as ext
use Rattle.kb_logic.specs.declared.elements.ExtInt.TheVariants.{NegInf, PosInf}
use Rattle.kb_logic.specs.declared.structures.Structure.{Structure}
use Rattle.kb_logic.specs.Answers.{IsLeast}
use Rattle.kb_logic.specs.Bases.{Base, NamedTerm}
use Rattle.kb_logic.specs.Denotations.{Denotation, denotation_of_bound, lower_value}
use Rattle.kb_logic.specs.InForce.{InForce}
use Rattle.kb_logic.specs.Meaning.{value_of}
use Rattle.consult_text.specs.OneText.{HaveReadableValues}
use Rattle.consult_text.specs.RightReplies.{in_force, IsSo, RightAnswer, RightUnless}
use Rattle.consult_text.specs.States.{State}
use Rattle.consult_text.specs.declared.commands.Command.{Command}
use Rattle.consult_text.specs.declared.commands.Command.TheVariants as command
use Rattle.consult_text.specs.declared.refusals.F.{F}
use Rattle.consult_text.specs.declared.replies.Reply.{Reply}
use Rattle.consult_text.specs.declared.replies.Reply.TheVariants as reply

-- the first value is not below the second
abbrev IsNotBelow : ExtInt → ExtInt → Type 0
IsNotBelow v w = lower_value (denotation_of_bound v) (denotation_of_bound w) ≡ false

same_number : (y z : ℤ) → int_lt y z ≡ false → int_lt z y ≡ false → y ≡ z
same_number y z up down = grind (arith, ints, nat_tests)

-- two values of which neither is below the other
same_bound : (v w : ExtInt) → IsNotBelow v w → IsNotBelow w v → v ≡ w
same_bound NegInf NegInf up down = refl
same_bound NegInf (ext.Num z) up down = absurd (cc)
same_bound NegInf PosInf up down = absurd (cc)
same_bound (ext.Num y) NegInf up down = absurd (cc)
same_bound (ext.Num y) (ext.Num z) up down = ap (λ (x : ℤ). ext.Num x) (same_number y z up down)
same_bound (ext.Num y) PosInf up down = absurd (cc)
same_bound PosInf NegInf up down = absurd (cc)
same_bound PosInf (ext.Num z) up down = absurd (cc)
same_bound PosInf PosInf up down = refl

-- no model has a value below a least one, nor then is another least value
not_below : (base : Base) (p : InForce) (t : ℕ) (v w : ExtInt) (m o : Structure) → IsLeast base p t v m
    → IsLeast base p t w o → IsNotBelow w v
not_below base p t v w m o one other =
    let term : one.term ≡ other.term = cc (one.named, other.named) in
    let value = ap (λ (x : NamedTerm). value_of o x.term []) term ∙ other.attained in
    subst (λ (d : Denotation). lower_value d (denotation_of_bound v) ≡ false) value (one.least o other.model)

-- two least values of one term
least_is_one : (base : Base) (p : InForce) (t : ℕ) (v w : ExtInt) (m o : Structure) → IsLeast base p t v m
    → IsLeast base p t w o → v ≡ w
least_is_one base p t v w m o one other =
    same_bound v w (not_below base p t w v o m other one) (not_below base p t v w m o one other)

-- two right answers: of one term where they are minima
of_answers : (kb : Base) (s : State) (c : Command) (r q : Reply) → RightAnswer kb s c r → RightAnswer kb s c q
    → HaveReadableValues r q
of_answers kb s c (reply.Minimum v m) (reply.Minimum w o) right right' = inl (least c right.1 right'.1)
  where
    least : (c : Command) → IsSo kb s c (reply.Minimum v m) → IsSo kb s c (reply.Minimum w o) → v ≡ w
    least (command.Minimize t) is is' = least_is_one kb (in_force s) t v w m o is is'
    least c is is' = absurd is
of_answers kb s c r q right right' = tt

-- two right replies
pub readable : (f : Option F) (kb : Base) (s : State) (c : Command) (r q : Reply) → RightUnless f kb s c r
    → RightUnless f kb s c q → HaveReadableValues r q
readable None kb s c r q right right' = of_answers kb s c r q right right'
readable (Some f) kb s c r q right right' =
    let P : Reply → Type 0 = λ r. HaveReadableValues r q in subst P (sym right) tt
