mod Assigning
mod BackupWords
mod CommandRows
mod Joinings
mod CommandLines
pub mod CommandEntries
pub mod OptionRows
pub mod Parses
