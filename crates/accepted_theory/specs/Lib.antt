pub mod Every
pub mod InUse
pub mod SameTables
pub mod SameOutcomes
pub mod recorded
pub mod collecting
