pub mod Asked
pub mod Endpoints
pub mod SeedTable
