-- The number and the name of each refusal of a command line.
use Rattle.std.specs.Prelude.{ℕ, List, ◌++◌, codes}
use Rattle.std.specs.Fmt.{decimal}
use Rattle.consult_text.specs.declared.refusals.F.{F}
use Rattle.consult_text.specs.declared.refusals.F.TheVariants.{Syntax, UnknownSymbol, WrongArity, NotAnElement}
use Rattle.consult_text.specs.declared.refusals.F.TheVariants.{AlreadyChosen, NotChosen, GivenByData, LineTooLong}
use Rattle.consult_text.specs.declared.refusals.F.TheVariants.{UnknownTerm}

-- the number after the letter F
abbrev pub number_of : F → ℕ
number_of Syntax = 1
number_of UnknownSymbol = 2
number_of WrongArity = 3
number_of NotAnElement = 4
number_of AlreadyChosen = 5
number_of NotChosen = 6
number_of GivenByData = 7
number_of LineTooLong = 8
number_of UnknownTerm = 9

-- the bytes of its name
abbrev pub name_of : F → List ℕ
name_of Syntax = codes "Syntax"
name_of UnknownSymbol = codes "UnknownSymbol"
name_of WrongArity = codes "WrongArity"
name_of NotAnElement = codes "NotAnElement"
name_of AlreadyChosen = codes "AlreadyChosen"
name_of NotChosen = codes "NotChosen"
name_of GivenByData = codes "GivenByData"
name_of LineTooLong = codes "LineTooLong"
name_of UnknownTerm = codes "UnknownTerm"

-- as it is printed
abbrev pub text_of : F → List ℕ
text_of f = codes "F" ++ decimal (number_of f) ++ codes " " ++ name_of f
