-- What the parts in memory are.
use Rattle.std.specs.Prelude.{map, List}
use Rattle.stage_definitions.specs.Demands as said
use Rattle.type_constraints.specs.declared.constraints.TermType.{TermType}
use Rattle.type_constraints.specs.declared.constraints.TermType.TheVariants.{Int, Declared, Untyped}
use Rattle.type_constraints.specs.declared.constraints.Kind.{Kind}
use Rattle.type_constraints.specs.declared.constraints.Kind.TheVariants.{Variable, ByItself}
use Rattle.type_constraints.specs.declared.constraints.Demand.{Demand}
use Rattle.type_constraints.specs.declared.constraints.Demand.TheVariants.{Number, Sides, OfPredicate, OfFunction}
use Rattle.type_constraints.specs.declared.constraints.Demand.TheVariants.{OfHead}
use Rattle.type_constraints.specs.declared.constraints.Finding.{Finding}
use Rattle.type_constraints.specs.declared.constraints.Finding.TheVariants.{Nothing, Found, Ambiguous}
use Rattle.type_constraints.specs.declared.constraints.Binding.{Binding}
use Rattle.type_constraints.specs.declared.constraints.Part.{Part, fold-Part}
use Rattle.type_constraints.specs.declared.constraints.Part.TheOpen.{Part-F}

abbrev pub type_view : TermType → said.TermType
type_view Int = said.whole
type_view (Declared t) = said.declared t
type_view Untyped = said.untyped

abbrev pub kind_view : Kind → said.Kind
kind_view (Variable n) = said.of_variable n
kind_view (ByItself t) = said.by_itself (type_view t)

abbrev pub demand_view : Demand → said.Demand
demand_view (Number p k) = said.a_number p (kind_view k)
demand_view (Sides p a b) = said.sides p (kind_view a) (kind_view b)
demand_view (OfPredicate p k t) = said.predicate_argument p (kind_view k) t
demand_view (OfFunction p i k t) = said.function_argument p i (kind_view k) t
demand_view (OfHead p k t) = said.head_value p (kind_view k) t

abbrev pub finding_view : Finding → said.Finding
finding_view Nothing = said.nothing
finding_view (Found t) = said.found t
finding_view Ambiguous = said.torn

abbrev pub binding_view : Binding → said.Binding
binding_view b = record { place = b.place; finding = finding_view b.finding }

abbrev pub part_step : Part-F said.Part → said.Part
part_step (Part-F.Demand d) = said.demand (demand_view d)
part_step (Part-F.Scope bs ps) = said.scope (map binding_view bs.items) (said.parts_of ps.items)

abbrev pub part_view : Part → said.Part
part_view = fold-Part said.Part part_step

abbrev pub parts_view : List Part → said.Parts
parts_view ps = said.parts_of (map part_view ps)
