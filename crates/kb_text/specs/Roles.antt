-- What each sign does to the depth of the tokens after it.
use Rattle.std.specs.Prelude.{ℕ, List, [], ◌∷◌, ◌==◌, if◌then◌else◌, codes}
use Rattle.kb_text.specs.declared.role.Role.{Role}
use Rattle.kb_text.specs.declared.role.Role.TheVariants.{Open, Close, Count, Stop, Prefix, Other}
use Rattle.kb_text.specs.Bytes.{one_of, is_arrow, is_triple}

abbrev pub single_role : ℕ → Role
single_role b =
    if one_of (codes "([{") b then Open b
    else (if b == 41 then Close 40
    else (if b == 93 then Close 91
    else (if b == 125 then Close 123
    else (if one_of (codes "!?") b then Count
    else (if b == 46 then Stop
    else (if one_of (codes "~-") b then Prefix
    else Other))))))

-- what a sign does to the depth of those after it
abbrev pub role_of : List ℕ → Role
role_of [] = Other
role_of (a ∷ []) = single_role a
role_of (a ∷ b ∷ []) = if is_arrow a b then Count else Other
role_of (a ∷ b ∷ c ∷ cs) = if is_triple a b c then Count else Other
