pub mod Happening
pub mod Joining
pub mod Folding
pub mod Behind
pub mod LastVisits
pub mod Admitting
