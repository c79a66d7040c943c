-- Values, as lookups take and give them.
pub use Rattle.kb_logic.specs.Values.{value_view}
