pub mod Disks
pub mod FileLogs
pub mod Keepings
pub mod Told
pub mod Writings
