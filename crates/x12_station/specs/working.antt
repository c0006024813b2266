-- How the code works: what its own functions promise each other. No public call cites it.
pub mod Agreeing
pub mod Drafting
pub mod Filing
pub mod Heading
pub mod Hearing
pub mod Loading
pub mod Noting
pub mod Orders
pub mod Prepared
