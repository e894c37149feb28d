-- Octets that are held, what a store replies to octets that came, and what each call of the world leaves.
pub mod Octets
pub mod Replies
pub mod StoreBehindLink
pub mod Lending
