pub mod AcceptedSizes
pub mod AcceptedWords
pub mod Alls
pub mod BlockWords
pub mod BoundPlaces
pub mod Bounded
pub mod Consistent
pub mod Counting
pub mod Covered
pub mod Covering
pub mod Declared
pub mod Derived
mod DomainWords
pub mod GivenDomains
pub mod IntegerPlaces
mod Integers
pub mod ItemPlaces
mod Kin
pub mod Listing
pub mod Lists
pub mod Meanings
pub mod Members
mod MetDemands
pub mod Missing
pub mod Names
mod Numbered
mod NumberedRules
pub mod Products
mod Ranges
pub mod Rows
pub mod Same
pub mod Sharing
pub mod TokenWords
mod Typed
mod TypedOver
mod TypedRules
pub mod WellFormed
mod Words
