mod Colon
mod Comma
mod Addresses
mod SeedTables
