-- The definitions that the contracts cite: the parents of a sort's members, and an order filled in.
pub mod Orders
