-- Definitions that contracts of inner functions and proofs cite, and nothing that a caller is promised.
pub mod Stored
