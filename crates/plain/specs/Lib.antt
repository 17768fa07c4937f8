pub mod Lending
pub mod Calls
