-- The meanings that the contracts cite, and the claims.
pub mod LentLists
pub mod Claims
