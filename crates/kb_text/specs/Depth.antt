-- How deep a token lies in brackets, quantifiers, arrows and signs.
use Rattle.std.specs.Prelude.{ℕ, suc, ◌+◌, List, [], ◌∷◌, map, reverse, Bool, false, ◌==◌, ◌||◌, if◌then◌else◌}
use Rattle.kb_text.specs.declared.token.Kind.{Kind}
use Rattle.kb_text.specs.declared.token.Kind.TheVariants.{Sign}
use Rattle.kb_text.specs.declared.role.Role.{Role}
use Rattle.kb_text.specs.declared.role.Role.TheVariants.{Open, Close, Count, Stop, Prefix, Other}
use Rattle.kb_text.specs.declared.depth.Level.{Level}
use Rattle.kb_text.specs.declared.depth.Nesting.{Nesting}
use Rattle.kb_text.specs.Roles.{role_of}

-- what one bracket opened: the bracket, the depth in it, how many quantifiers and arrows stand since its last dot
pub record Layer : Type 0 where
  pub bracket : ℕ
  pub base : ℕ
  pub count : ℕ
  pub in_braces : Bool

-- all that the depth of the next token needs: the innermost layer, those around it, the signs just before
pub record Around : Type 0 where
  pub layer : Layer
  pub outer : List Layer
  pub run : ℕ

-- at the start of a text
abbrev pub outermost : Around
outermost = record { layer = record { bracket = 0; base = 0; count = 0; in_braces = false }; outer = []; run = 0 }

abbrev pub depth_of : Around → ℕ
depth_of s = s.layer.base + s.layer.count + s.run

-- the layer that a closed one lay in
abbrev pub outwards : Layer → List Layer → Around
outwards layer [] = record { layer = layer; outer = []; run = 0 }
outwards layer (around ∷ outer) = record { layer = around; outer = outer; run = 0 }

abbrev pub after_role : Around → Role → Around
after_role s (Open b) = record {
  layer = record {
    bracket = b;
    base = suc (depth_of s);
    count = 0;
    in_braces =
        s.layer.in_braces || b == 123;
  };
  outer = s.layer ∷ s.outer;
  run = 0;
}
after_role s (Close b) = if s.layer.bracket == b then outwards s.layer s.outer else record s { run = 0 }
after_role s Count = record { layer = record s.layer { count = suc s.layer.count }; outer = s.outer; run = 0 }
after_role s Stop = record { layer = record s.layer { count = 0 }; outer = s.outer; run = 0 }
after_role s Prefix = record s { run = suc s.run }
after_role s Other = record s { run = 0 }

abbrev pub after_token : Around → Kind → List ℕ → Around
after_token s Sign text = after_role s (role_of text)
after_token s _ text = record s { run = 0 }

abbrev pub layer_of : Level → Layer
layer_of l = record { bracket = l.bracket; base = l.base; count = l.count; in_braces = l.in_braces }

abbrev pub around_of : Nesting → Around
around_of n = record { layer = layer_of n.level; outer = reverse (map layer_of n.outer.items); run = n.run }
