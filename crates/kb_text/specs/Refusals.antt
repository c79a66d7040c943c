-- The number and the name of each refusal of a knowledge base.
use Rattle.std.specs.Prelude.{ℕ, List, ◌++◌, codes}
use Rattle.std.specs.Fmt.{decimal}
use Rattle.kb_text.specs.declared.fault.K.{K}
use Rattle.kb_text.specs.declared.fault.LexError.{LexError}
use Rattle.kb_text.specs.declared.fault.LexError.TheVariants as errors
use Rattle.kb_text.specs.declared.fault.K.TheVariants.{Syntax, UnknownName, Redeclared, WrongArity, TypeClash, Untyped}
use Rattle.kb_text.specs.declared.fault.K.TheVariants.{TypeNotGiven, NotAnElement, DataClash, Unsupported, BadHead}
use Rattle.kb_text.specs.declared.fault.K.TheVariants.{OutOfRange, TooLarge, TooLong, TooDeep, BlockChoice}

-- the number after the letter K
abbrev pub number_of : K → ℕ
number_of Syntax = 1
number_of UnknownName = 2
number_of Redeclared = 3
number_of WrongArity = 4
number_of TypeClash = 5
number_of Untyped = 6
number_of TypeNotGiven = 7
number_of NotAnElement = 8
number_of DataClash = 9
number_of Unsupported = 10
number_of BadHead = 12
number_of OutOfRange = 13
number_of TooLarge = 14
number_of TooLong = 15
number_of TooDeep = 16
number_of BlockChoice = 17

-- the bytes of its name
abbrev pub name_of : K → List ℕ
name_of Syntax = codes "Syntax"
name_of UnknownName = codes "UnknownName"
name_of Redeclared = codes "Redeclared"
name_of WrongArity = codes "WrongArity"
name_of TypeClash = codes "TypeClash"
name_of Untyped = codes "Untyped"
name_of TypeNotGiven = codes "TypeNotGiven"
name_of NotAnElement = codes "NotAnElement"
name_of DataClash = codes "DataClash"
name_of Unsupported = codes "Unsupported"
name_of BadHead = codes "BadHead"
name_of OutOfRange = codes "OutOfRange"
name_of TooLarge = codes "TooLarge"
name_of TooLong = codes "TooLong"
name_of TooDeep = codes "TooDeep"
name_of BlockChoice = codes "BlockChoice"

-- as it is printed
abbrev pub text_of : K → List ℕ
text_of cause = codes "K" ++ decimal (number_of cause) ++ codes " " ++ name_of cause

abbrev pub error_text_of : LexError → List ℕ
error_text_of (errors.Refused fault) = text_of fault.cause ++ codes " at place " ++ decimal fault.place
error_text_of errors.Memory = codes "out of memory"
