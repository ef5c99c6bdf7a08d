pub mod Entry
pub mod Follows
pub mod Holding
pub mod Lending
pub mod Listing
pub mod RecordLaws
pub mod Slots
