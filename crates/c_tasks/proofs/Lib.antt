mod Lists
pub mod MadeExport
