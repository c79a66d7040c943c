-- What the evaluator's values stand for.
use Rattle.std.specs.Prelude.{ℕ, nat_lt, if◌then◌else◌, pos, ◌^◌}
use Rattle.kb_logic.specs.Denotations.{Denotation, named, number, minus_infinity, plus_infinity, undefined}
use Rattle.kb_logic.specs.declared.values.Value.{Value}
use Rattle.kb_logic.specs.declared.values.Value.TheVariants as value
use Rattle.kb_logic.specs.declared.values.Total.{Total}
use Rattle.kb_logic.specs.declared.values.Total.TheVariants as total

abbrev pub value_view : Value → Denotation
value_view (value.Named n) = named n.now
value_view (value.Num z) = number z
value_view value.NegInf = minus_infinity
value_view value.PosInf = plus_infinity
value_view value.Nothing = undefined

abbrev pub total_view : Total → Denotation
total_view (total.Num z) = number z
total_view total.NegInf = minus_infinity
total_view total.PosInf = plus_infinity
total_view total.Nothing = undefined

-- a count, where one of 2 ^ 63 and more stands above every i64
abbrev pub count_up_to : ℕ → Denotation
count_up_to n = if nat_lt n (2 ^ 63) then number (pos n) else plus_infinity
