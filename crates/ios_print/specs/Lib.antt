pub mod Print
pub mod Tail
pub mod Printable
pub mod PrintableLists
pub mod PrintableConfig
pub mod Accepted
