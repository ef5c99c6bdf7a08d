pub mod Synonyms
pub mod Respelling
pub mod Diffs
pub mod Made
pub mod Ending
pub mod Keeping
pub mod CommandLine
pub mod Program
