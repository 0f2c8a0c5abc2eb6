pub mod Docket
