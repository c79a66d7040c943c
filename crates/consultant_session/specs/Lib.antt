pub use Rattle.consult_text.specs.States
pub use Rattle.consult_text.specs.RightReplies
pub mod Commands
pub mod Sessions
pub mod Laws
