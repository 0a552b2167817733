mod Gaves
mod GivenRecords
